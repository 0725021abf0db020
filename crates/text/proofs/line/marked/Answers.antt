-- `marked` meets its contract: each way out is one case of `marked`. Assumes nothing.
use Rattle.text.proofs.line.marked.Goals as goal

pub returns-in-Data : goal.returns-in-Data
returns-in-Data c = simp c.in-Data.is c.open_section.ensures

pub returns-in-Text : goal.returns-in-Text
returns-in-Text c = simp c.in-Text.is c.open_section-in-Text.ensures

pub returns-in-Plain : goal.returns-in-Plain
returns-in-Plain c = simp c.in-Plain.is c.plain.ensures
