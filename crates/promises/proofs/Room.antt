-- What fits, fits in part: the counts of a state only fall when texts are left out. Assumes nothing.
use Prim.Native.Nat.{ℕ, ◌+◌, ◌≤◌}
use native.Mathlib.Nat.{le_refl}
use native.Mathlib.Omega.{arith}
use mathlib.Core.Path.{◌≡◌, ap, ◌∙◌}
use mathlib.Core.Bool.{Bool, true, false}
use mathlib.Core.List.{[], ◌∷◌, ◌++◌}
use lib.Dec.{eqb}
use lib.ListN.{length, length-append}
use Rattle.std.specs.Prelude.{if◌then◌else◌}
use Rattle.layout.specs.State.{Text, Pool, program, values, string_bytes}
use Rattle.layout.specs.Limits.{room}
use Rattle.layout.proofs.Legal.{fits-of, of-fits, program-append, values-append, bytes-append}
use Rattle.pool.specs.Remove.{without}

-- how many statements, values and bytes of strings some texts and others have together
statements-append : (a b : Pool) → length (program (a ++ b)) ≡ length (program a) + length (program b)
statements-append a b = ap length (program-append a b) ∙ length-append (program a) (program b)

numbers-append : (a b : Pool) → length (values (a ++ b)) ≡ length (values a) + length (values b)
numbers-append a b = ap length (values-append a b) ∙ length-append (values a) (values b)

letters-append : (a b : Pool) → length (string_bytes (a ++ b)) ≡ length (string_bytes a) + length (string_bytes b)
letters-append a b = ap length (bytes-append a b) ∙ length-append (string_bytes a) (string_bytes b)

pub room-front : (a b : Pool) → room (a ++ b) ≡ true → room a ≡ true
room-front a b e =
    let w = fits-of (a ++ b) e in
    of-fits a (record {
      texts = omega (arith, w.texts, length-append a b);
      statements = omega (arith, w.statements, statements-append a b);
      values = omega (arith, w.values, numbers-append a b);
      bytes = omega (arith, w.bytes, letters-append a b);
    })

-- ---- a text left out

record Fewer (s s' : Pool) : Type 0 where
  texts : length s ≤ length s'
  statements : length (program s) ≤ length (program s')
  numbers : length (values s) ≤ length (values s')
  letters : length (string_bytes s) ≤ length (string_bytes s')

fewer-cons : (t : Text) (s s' : Pool) → Fewer s s' → Fewer (t ∷ s) (t ∷ s')
fewer-cons t s s' f = record {
  texts = omega (arith, f.texts);
  statements = omega (arith, f.statements, statements-append (t ∷ []) s, statements-append (t ∷ []) s');
  numbers = omega (arith, f.numbers, numbers-append (t ∷ []) s, numbers-append (t ∷ []) s');
  letters = omega (arith, f.letters, letters-append (t ∷ []) s, letters-append (t ∷ []) s');
}

fewer-tail : (t : Text) (s : Pool) → Fewer s (t ∷ s)
fewer-tail t s = record {
  texts = omega arith;
  statements = omega (arith, statements-append (t ∷ []) s);
  numbers = omega (arith, numbers-append (t ∷ []) s);
  letters = omega (arith, letters-append (t ∷ []) s);
}

without_fewer : (label : ℕ) (s : Pool) → Fewer (without label s) s
unfolding without
without_fewer label [] = record { texts = le_refl 0; statements = le_refl _; numbers = le_refl _; letters = le_refl _ }
without_fewer label (t ∷ s) = by (eqb t.label label) (without_fewer label s)
  where
    by : (b : Bool) → Fewer (without label s) s → Fewer (if b then s else (t ∷ without label s)) (t ∷ s)
    by true f = fewer-tail t s
    by false f = fewer-cons t (without label s) s f

pub room-without : (label : ℕ) (s : Pool) → room s ≡ true → room (without label s) ≡ true
room-without label s e =
    let w = fits-of s e in
    let f = without_fewer label s in
    of-fits (without label s) (record { texts = omega arith; statements = omega arith; values = omega arith; bytes = omega arith })
