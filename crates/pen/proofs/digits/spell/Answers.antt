-- `spell` meets its contract: before each turn the digits still to write, with those written, are all the digits. Assumes nothing.
use native.Mathlib.Omega.{arith}
use native.Mathlib.Nat.{not-suc-le-zero}
use native.Mathlib.Numerals.{sub-one}
use mathlib.Core.Path.{◌≡◌, ap, sym, ◌∙◌}
use mathlib.Core.List.{List, ◌∷◌, ◌++◌, append-nil}
use Prim.Native.Nat.{ℕ, zero, suc, ◌-◌, ◌/◌, ◌%◌, ◌≤◌, ◌<◌}
use lib.ListN.{length, drop, set, length-set}
use lib.Seq.{drop-length, drop-cons, drop-set-lt, get_or-set_same, append_snoc}
use Rattle.pen.specs.Digits.{digit_of, digits}
use Rattle.pen.proofs.digits.spell.Goals as goal

-- after a store at `j`, the list from there on begins with what was stored
stored : (text : List ℕ) (j g : ℕ) → j < length text → drop j (set text j g) ≡ g ∷ drop (suc j) text
stored text j g h =
    let within : j < length (set text j g) = simp length-set h in
    let past : j < suc j = omega arith in
    rw (drop-cons (set text j g) j 0 within, get_or-set_same text j g 0 h, drop-set-lt (suc j) text j g past)

-- a turn moves the last digit that is still to write to the front of those written
moved : (i rest g : ℕ) (text : List ℕ) → 0 < i → i ≤ length text → g ≡ digit_of (rest % 16)
    → digits (i - 1) (rest / 16) ++ drop (i - 1) (set text (i - 1) g) ≡ digits i rest ++ drop i text
unfolding digits
moved zero rest g text some h e = absurd (not-suc-le-zero some)
moved (suc j) rest g text some h e =
    rw (sub-one, stored text j g h, e) (sym (append_snoc (digits j (rest / 16)) (digit_of (rest % 16)) (drop (suc j) text)))

pub loop-i-init : goal.loop-i-init
loop-i-init c = rw (drop-length, append-nil)

pub loop-i-preserved : goal.loop-i-preserved
loop-i-preserved c =
    let at = c.loop-i in
    moved at.i at.rest c.digit.result at.text (omega arith) (omega (arith, at.auto.text, at.auto.i)) c.digit.ensures ∙ at.invariant

pub returns : goal.returns
unfolding digits
returns c =
    let at = c.loop-i in
    let none : 0 ≡ at.i = omega arith in
    ap (λ (i : ℕ). digits i at.rest ++ drop i at.text) none ∙ at.invariant
