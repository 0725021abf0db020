-- `write_line` meets its contract: a delimiter line only turns the reader. Assumes nothing.
use mathlib.Core.Path.{sym, ◌∙◌}
use Rattle.writing.proofs.Lines.{data-mark, text-mark, plain-mark, nothing-turns}
use Rattle.writing.proofs.write.write_line.Goals as goal

pub returns-in-Data : goal.returns-in-Data
returns-in-Data c = λ s es e. nothing-turns _ _ s es _ (data-mark _ _ s es (sym c.read_mark-mark.ensures ∙ c.in-Data.is) e)

pub returns-in-Text : goal.returns-in-Text
returns-in-Text c = λ s es e. nothing-turns _ _ s es _ (text-mark _ _ s es (sym c.read_mark-mark.ensures ∙ c.in-Text.is) e)

pub returns-in-Plain : goal.returns-in-Plain
returns-in-Plain c = λ s es e.
    c.write_plain.ensures s es (plain-mark _ _ s es (sym c.read_mark-mark.ensures ∙ c.in-Plain.is) e)
