-- "Cut anywhere, .. the outcome at closing is that of one load of the joined bytes": the parts are one part, and its lines are read. Assumes nothing.
use Prim.Native.Nat.{ℕ}
use native.Mathlib.Nat.{zero-add}
use mathlib.Core.Path.{◌≡◌, refl, sym, ap, ◌∙◌}
use mathlib.Core.Bool.{Bool, true, false}
use mathlib.Core.List.{List, []}
use borrow.Author.Tests.{ltb-false}
use lib.Dec.{ltb}
use lib.ListN.{length}
use Rattle.std.specs.Prelude.{if◌then◌else◌}
use Rattle.statement.specs.declared.values.Reader.TheVariants as R
use Rattle.text.specs.Text.{read_text}
use Rattle.feeding.specs.Parts.{MOST, Open, opening, fed, lastly, joined}
use Rattle.feeding.specs.Reading.{Progress, going, completed, ending, too_many, whole, closing, loaded, CutAnywhere}
use Rattle.feeding.proofs.Joining.{fed-joined}
use Rattle.feeding.proofs.Counting.{over-fed}
use Rattle.feeding.proofs.Whole.{fed-lines}
use Rattle.feeding.proofs.Completing.{completed-squeezes, text-folded}

-- one part: all the bytes
pub fed-loaded : (bs : List ℕ) → closing (fed completed (opening (going R.Text [])) bs) ≡ loaded bs
unfolding closing loaded
fed-loaded bs = rw (over-fed completed (opening (going R.Text [])) bs, zero-add (length bs)) (by (ltb MOST (length bs)) refl)
  where
    o : Open Progress
    o = fed completed (opening (going R.Text [])) bs

    by : (t : Bool) → ltb MOST (length bs) ≡ t
        → (if t then too_many else whole (ending (lastly completed o))) ≡ (if t then too_many else whole (read_text bs))
    by true e = refl
    by false e = ap whole (ap ending (fed-lines completed completed-squeezes (going R.Text []) bs (ltb-false MOST (length bs) e)) ∙ sym (text-folded bs))

pub cut-anywhere : CutAnywhere
cut-anywhere = record { closes = λ parts. ap closing (fed-joined completed (opening (going R.Text [])) parts) ∙ fed-loaded (joined parts) }
