-- Names of two kinds of variables are two, whatever the codes, and each is a legal name: behind its figures a name has one suffix. Assumes nothing.
use Prim.Native.Nat.{ℕ, ◌+◌, ◌*◌, ◌/◌, ◌%◌, ◌≤◌}
use mathlib.Core.Path.{◌≡◌, refl, sym, ap, ◌∙◌}
use mathlib.Core.Bool.{Bool, true, false, ◌||◌}
use mathlib.Core.List.{List, [], ◌∷◌, ◌++◌}
use native.Mathlib.Omega.{arith}
use borrow.Author.Tests.{le-leb, ltb-true}
use lib.Dec.{eqb, ltb}
use lib.ListN.{length, drop, get_or}
use Rattle.std.specs.Prelude.{if◌then◌else◌}
use Rattle.plain.specs.Bytes.{ZERO, NINE, UNDERSCORE, UPPER_A, UPPER_Z, LOWER_A, LOWER_Z, within, digit}
use Rattle.plain.specs.Lists.{equal}
use Rattle.plain.specs.Runs.{skip}
use Rattle.plain.proofs.Tests.{true-false}
use Rattle.value.specs.Classes.{name_byte}
use Rattle.statement.specs.Head.{NAME}
use Rattle.words.specs.Halves.{all}
use Rattle.words.proofs.Same.{same-equal}
use Rattle.names.specs.Names.{legal}
use Rattle.wanted.specs.Names.{LARGEST, figure, numeral, suffix, name_of}
use Rattle.wanted.specs.declared.name.Wanted.{Wanted}
use Rattle.wanted.specs.declared.name.Wanted.TheVariants as W
use Rattle.wanted.proofs.Spelling.{name-length}

-- ---- a code's figures

is_digit : (d : ℕ) → d ≤ 9 → digit (figure d) ≡ true
is_digit d h = rw (le-leb ZERO (ZERO + d) (omega arith), le-leb (ZERO + d) NINE (omega arith))

third : (a b c d : Bool) → c ≡ true → (a || b || c || d) ≡ true
third true b c d e = refl
third false true c d e = refl
third false false true d e = refl
third false false false d e = true-false (sym e)

is-name-byte : (d : ℕ) → d ≤ 9 → name_byte (figure d) ≡ true
is-name-byte d h =
    let b = figure d in
    third (within UPPER_A UPPER_Z b) (within LOWER_A LOWER_Z b) (digit b) (eqb b UNDERSCORE) (is_digit d h)

-- a number of up to three figures is passed over by what passes over figures
module _ (f : List ℕ → List ℕ → Type 0) where
  by-figures : ((d : ℕ) (rest : List ℕ) → d ≤ 9 → f (figure d ∷ rest) rest) → ((xs ys zs : List ℕ) → f xs ys → f ys zs → f xs zs)
      → (n : ℕ) → n ≤ LARGEST → (rest : List ℕ) → f (numeral n ++ rest) rest
  by-figures one more n h rest = by (ltb n 10) (ltb n 100) refl refl
    where
      by : (a b : Bool) → ltb n 10 ≡ a → ltb n 100 ≡ b
          → f ((if a then figure n ∷ []
          else (if b then figure (n / 10) ∷ figure (n % 10) ∷ []
          else (figure (n / 100) ∷ figure (n / 10 % 10) ∷ figure (n % 10) ∷ []))) ++ rest) rest
      by true b e g = let l = ltb-true n 10 e in one n rest (omega arith)
      by false true e g =
          let l = ltb-true n 100 g in
          more _ _ _ (one (n / 10) (figure (n % 10) ∷ rest) (omega arith)) (one (n % 10) rest (omega arith))
      by false false e g =
          more _ _ _ (one (n / 100) (figure (n / 10 % 10) ∷ figure (n % 10) ∷ rest) (omega arith))
          (more _ _ _ (one (n / 10 % 10) (figure (n % 10) ∷ rest) (omega arith)) (one (n % 10) rest (omega arith)))

-- what follows the code begins with no figure, and may stand in a name
behind : (w : Wanted) → (skip digit (suffix w) ≡ suffix w) × (all name_byte (suffix w) ≡ true)
unfolding all
behind W.PoleRa = (refl, refl)
behind W.PoleDec = (refl, refl)
behind W.Pm = (refl, refl)
behind W.NutPrecRa = (refl, refl)
behind W.NutPrecDec = (refl, refl)
behind W.NutPrecPm = (refl, refl)
behind W.NutPrecAngles = (refl, refl)
behind W.MaxPhaseDegree = (refl, refl)
behind W.Radii = (refl, refl)

module _ (n : ℕ) (h : n ≤ LARGEST) (w : Wanted) where
  skip-name : skip digit (drop 4 (name_of n w)) ≡ suffix w
  unfolding name_of
  skip-name =
      by-figures (λ xs ys. skip digit xs ≡ skip digit ys) (λ d rest g. rw (is_digit d g)) (λ xs ys zs e f. e ∙ f) n h (suffix w) ∙ (behind w).0

  all-name : all name_byte (name_of n w) ≡ true
  unfolding name_of all
  all-name =
      by-figures (λ xs ys. all name_byte xs ≡ all name_byte ys) (λ d rest g. rw (is-name-byte d g)) (λ xs ys zs e f. e ∙ f) n h (suffix w) ∙ (behind w).1

  pub name-legal : legal (name_of n w) ≡ true
  unfolding legal name_of
  name-legal = rw (le-leb 1 (length (name_of n w)) (omega arith), le-leb (length (name_of n w)) NAME (name-length n w), all-name)

-- ---- kinds of variables by number: a suffix by its length and its eleventh byte

abbrev number : List ℕ → ℕ
number xs = length xs * 1000 + get_or xs 10 0

unfoldable pub kind : Wanted → ℕ
kind w = number (suffix w)

kind_of : ℕ → Wanted
kind_of n =
    if eqb n 8000 then W.PoleRa
    else (if eqb n 9000 then W.PoleDec
    else (if eqb n 3000 then W.Pm
    else (if eqb n 12082 then W.NutPrecRa
    else (if eqb n 13068 then W.NutPrecDec
    else (if eqb n 12080 then W.NutPrecPm
    else (if eqb n 16065 then W.NutPrecAngles
    else (if eqb n 17095 then W.MaxPhaseDegree
    else W.Radii)))))))

kind-back : (w : Wanted) → kind_of (kind w) ≡ w
unfolding kind kind_of
kind-back W.PoleRa = refl
kind-back W.PoleDec = refl
kind-back W.Pm = refl
kind-back W.NutPrecRa = refl
kind-back W.NutPrecDec = refl
kind-back W.NutPrecPm = refl
kind-back W.NutPrecAngles = refl
kind-back W.MaxPhaseDegree = refl
kind-back W.Radii = refl

pub same_kind : (w w' : Wanted) → kind w ≡ kind w' → w ≡ w'
same_kind w w' e = sym (kind-back w) ∙ ap kind_of e ∙ kind-back w'

-- equal names are of one kind
pub name-kind : (n n' : ℕ) (w w' : Wanted) → n ≤ LARGEST → n' ≤ LARGEST → equal (name_of n w) (name_of n' w') ≡ true → kind w ≡ kind w'
unfolding kind
name-kind n n' w w' h h' e =
    ap number
    (sym (skip-name n h w) ∙ ap (λ (xs : List ℕ). skip digit (drop 4 xs)) (same-equal (name_of n w) (name_of n' w') e) ∙ skip-name n' h' w')
