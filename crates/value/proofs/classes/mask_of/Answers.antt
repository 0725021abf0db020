-- `mask_of` meets its contract: each mask is compared with its class at every byte, by computation. Assumes nothing.
use mathlib.Core.Path.{refl}
use Rattle.value.specs.Masks.{bit}
use Rattle.value.proofs.Masks.{tells}
use Rattle.value.proofs.classes.mask_of.Goals as goal

pub returns-in-Blank : goal.returns-in-Blank
unfolding bit
returns-in-Blank c = tells _ _ _ c.in-Blank.is refl

pub returns-in-Fair : goal.returns-in-Fair
unfolding bit
returns-in-Fair c = tells _ _ _ c.in-Fair.is refl

pub returns-in-Name : goal.returns-in-Name
unfolding bit
returns-in-Name c = tells _ _ _ c.in-Name.is refl

pub returns-in-Separator : goal.returns-in-Separator
unfolding bit
returns-in-Separator c = tells _ _ _ c.in-Separator.is refl

pub returns-in-Value : goal.returns-in-Value
unfolding bit
returns-in-Value c = tells _ _ _ c.in-Value.is refl

pub returns-in-Line : goal.returns-in-Line
unfolding bit
returns-in-Line c = tells _ _ _ c.in-Line.is refl
