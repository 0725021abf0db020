-- `write_plain` meets its contract: nothing is added, a statement is opened, or a list goes on, by the reader. Assumes nothing.
use Rattle.writing.proofs.Lines.{text-next, data-next, list-next, nothing-turns, list_written}
use Rattle.writing.proofs.write.write_plain.Goals as goal

pub returns-in-Text : goal.returns-in-Text
returns-in-Text c = λ s es e. nothing-turns _ _ s es _ (text-next _ _ s es c.in-Text.is e)

pub returns-in-Data : goal.returns-in-Data
returns-in-Data c = λ s es e. c.write_statement.ensures s es (data-next _ _ s es c.in-Data.is e)

pub returns-in-List : goal.returns-in-List
returns-in-List c = λ s es e.
    list_written _ _ s es _ c.requires c.told-m _ _ _ c.give_list.ensures (list-next _ _ s es _ c.in-List.is e)
