-- A string that is written in quotes and rightly followed is read, wherever it stands in a line. Assumes nothing.
use Prim.Native.Nat.{ℕ, ◌+◌, ◌≤◌}
use native.Mathlib.Omega.{arith}
use mathlib.Core.Path.{◌≡◌, refl, sym, ap, ◌∙◌}
use mathlib.Core.Bool.{Bool, true, false, not, false≢true}
use mathlib.Core.List.{List, [], ◌∷◌, ◌++◌, append_assoc}
use borrow.Author.Tests.{eqb-true, lt-ltb, le-ltb, le-leb}
use lib.Dec.{eqb}
use lib.ListN.{length, drop, get_or, length-append}
use lib.Seq.{drop-append-add, get_or-append-add}
use Rattle.plain.specs.Bytes.{QUOTE}
use Rattle.value.specs.Classes.{value_byte, stands}
use Rattle.value.specs.Strings.{STRING, doubled, quoted, followed, string_at}
use Rattle.value.specs.Value.{value_at}
use Rattle.std.specs.Prelude.{Ok}
use Rattle.value.specs.declared.Word.TheVariants as W
use Rattle.value.proofs.Quotes.{scan-doubled}

followed-first : (b : ℕ) (bs : List ℕ) → followed (b ∷ bs) 0 ≡ not (value_byte b)
followed-first b bs = rw (lt-ltb 0 (length (b ∷ bs)) (omega arith))

-- what follows is no quote
no-quote : (bs : List ℕ) → followed bs 0 ≡ true → stands QUOTE bs 0 ≡ false
no-quote [] h = refl
no-quote (b ∷ bs) h = by (eqb b QUOTE) refl
  where
    by : (t : Bool) → eqb b QUOTE ≡ t → t ≡ false
    by true e = absurd (false≢true (ap (λ (c : ℕ). not (value_byte c)) (sym (eqb-true b QUOTE e)) ∙ sym (followed-first b bs) ∙ h))
    by false e = refl

followed-on : (xs ys : List ℕ) → followed (xs ++ ys) (length xs + 0) ≡ followed ys 0
followed-on xs [] = rw (le-ltb (length xs + 0) (length (xs ++ [])) (omega (arith, length-append xs [])))
followed-on xs (y ∷ ys) =
    rw (lt-ltb (length xs + 0) (length (xs ++ y ∷ ys)) (omega (arith, length-append xs (y ∷ ys))), get_or-append-add xs (y ∷ ys) 0 0) (sym (followed-first y ys))

module _ (front s back : List ℕ) (short : length s ≤ STRING) (follows : followed back 0 ≡ true) where
  inner : drop (length front + 1) (front ++ (quoted s ++ back)) ≡ doubled s ++ QUOTE ∷ back
  inner = drop-append-add front (quoted s ++ back) 1 ∙ append_assoc (doubled s) (QUOTE ∷ []) back

  outer : followed (front ++ (quoted s ++ back)) (length front + 1 + (length (doubled s) + 1)) ≡ true
  outer =
      let z : length front + 1 + (length (doubled s) + 1) ≡ length (front ++ quoted s) + 0 = omega (arith, length-append front (quoted s), length-append (doubled s) (QUOTE ∷ [])) in
      ap (followed (front ++ (quoted s ++ back))) z ∙ ap (λ (l : List ℕ). followed l (length (front ++ quoted s) + 0)) (sym (append_assoc front (quoted s) back)) ∙ followed-on (front ++ quoted s) back ∙ follows

  pub string-written : string_at (front ++ (quoted s ++ back)) (length front) ≡ Ok (W.String (length front) (length s) (length front + length (quoted s)))
  unfolding string_at
  string-written =
      let y : 0 + length s ≡ length s = omega arith in
      let z : length front + 1 + (length (doubled s) + 1) ≡ length front + length (quoted s) = omega (arith, length-append (doubled s) (QUOTE ∷ [])) in
      let o = rw z at outer in
      rw (inner, scan-doubled s back (no-quote back follows), y, le-leb (length s) STRING short, z, o)

  opens : stands QUOTE (front ++ (quoted s ++ back)) (length front) ≡ true
  opens =
      let z : length front ≡ length front + 0 = omega arith in
      ap (λ (b : ℕ). eqb b QUOTE) (ap (λ (i : ℕ). get_or (front ++ (quoted s ++ back)) i 0) z ∙ get_or-append-add front (quoted s ++ back) 0 0)

  pub value_written : value_at (front ++ (quoted s ++ back)) (length front) ≡ Ok (W.String (length front) (length s) (length front + length (quoted s)))
  unfolding value_at
  value_written = rw opens string-written
