-- A statement's values of either kind: as words and bytes, and cut out of them again. Assumes nothing.
use mathlib.Core.Path.{◌≡◌, refl, sym, ap, ap₂, ◌∙◌}
use mathlib.Core.Bool.{Bool, true, false}
use mathlib.Core.List.{List, [], ◌∷◌, ◌++◌, map, append_assoc}
use Prim.Native.Nat.{ℕ, zero, suc, ◌+◌, ◌≤◌, ◌<◌}
use native.Mathlib.Omega.{arith}
use borrow.Author.Tests.{leb-true, le-leb}
use lib.Dec.{eqb, leb}
use lib.ListN.{length, take, drop, length-append, length-take, length-drop, length-map}
use lib.Seq.{take_at, drop_at, length-take-le, take-add}
use Rattle.std.specs.Prelude.{if◌then◌else◌}
use Rattle.plain.specs.Bytes.{fair}
use Rattle.value.specs.Strings.{STRING}
use Rattle.statement.specs.Statements.{Values, numbers, strings, how_many}
use Rattle.words.specs.Halves.{HALF, lower, sum}
use Rattle.plain.proofs.Each.{Each, each_append, each_take, each-drop, each_weaken}
use Rattle.words.proofs.Each.{Words}
use Rattle.layout.specs.State.{flat, words_of, spelled}
use Rattle.layout.specs.Memory.{kind_number, cut_strings, cut_values, bytes_taken}
use Rattle.layout.specs.Damage.{small, fits}
use Rattle.layout.proofs.Legal.{FairString, FairValues}

pub kind-most : (v : Values) → kind_number v ≤ 1
kind-most (numbers bs) = omega arith
kind-most (strings ss) = omega arith

pub length-words : (v : Values) → length (words_of v) ≡ how_many v
length-words (numbers bs) = refl
length-words (strings ss) = length-map ss length

-- ---- laid out, then cut

cut-strings : (ss : List (List ℕ)) (bs : List ℕ) → cut_strings (map length ss) (flat (λ s. s) ss ++ bs) ≡ ss
unfolding cut_strings flat
cut-strings [] bs = refl
cut-strings (s ∷ ss) bs =
    let r = flat (λ s. s) ss ++ bs in
    let a : (s ++ flat (λ s. s) ss) ++ bs ≡ s ++ r = append_assoc s (flat (λ s. s) ss) bs in
    ap (λ (l : List ℕ). take (length s) l ∷ cut_strings (map length ss) (drop (length s) l)) a
    ∙ ap₂ (λ (x : List ℕ) (y : List (List ℕ)). x ∷ y) (take_at s r (length s) refl) (ap (cut_strings (map length ss)) (drop_at s r (length s) refl) ∙ cut-strings ss bs)

pub cut-values : (v : Values) (bs : List ℕ) → cut_values (kind_number v) (words_of v) (spelled v ++ bs) ≡ v
cut-values (numbers ws) bs = refl
cut-values (strings ss) bs = ap strings (cut-strings ss bs)

-- ---- what is laid out adds up, and is as the damage conditions ask

-- strings whose lengths are lower numbers: fair ones, and any that have few bytes together
abbrev pub Brief : Values → Type 0
Brief (numbers ws) = Unit {0}
Brief (strings ss) = Each (λ s. length s < HALF) ss

pub brief-fair : (v : Values) → FairValues v → Brief v
brief-fair (numbers ws) f = tt
brief-fair (strings ss) f = each_weaken FairString (λ s. length s < HALF) (λ s g. omega (arith, g.short)) ss f

brief-strings : (ss : List (List ℕ)) → length (flat (λ s. s) ss) < HALF → Each (λ s. length s < HALF) ss
unfolding flat
brief-strings [] h = tt
brief-strings (s ∷ ss) h = let l = length-append s (flat (λ s. s) ss) in (omega arith, brief-strings ss (omega arith))

pub brief-few : (v : Values) → length (spelled v) < HALF → Brief v
brief-few (numbers ws) h = tt
brief-few (strings ss) h = brief-strings ss h

sum-lengths : (ss : List (List ℕ)) → Each (λ s. length s < HALF) ss → sum (map length ss) ≡ length (flat (λ s. s) ss)
unfolding sum flat
sum-lengths [] f = refl
sum-lengths (s ∷ ss) f = omega (arith, f.0, sum-lengths ss f.1, length-append s (flat (λ s. s) ss))

pub taken-spelled : (v : Values) → Brief v → bytes_taken (kind_number v) (words_of v) ≡ length (spelled v)
taken-spelled (numbers ws) f = refl
taken-spelled (strings ss) f = sum-lengths ss f

short_lengths : (ss : List (List ℕ)) → Each FairString ss → Each (λ w. leb w STRING ≡ true) (map length ss)
short_lengths [] f = tt
short_lengths (s ∷ ss) f = (le-leb (length s) STRING f.0.short, short_lengths ss f.1)

pub fits-values : (v : Values) → FairValues v → Each (λ w. fits (kind_number v) w ≡ true) (words_of v)
fits-values (numbers ws) f = f
fits-values (strings ss) f = short_lengths ss f

fair-letters : (ss : List (List ℕ)) → Each FairString ss → Each (λ b. fair b ≡ true) (flat (λ s. s) ss)
unfolding flat
fair-letters [] f = tt
fair-letters (s ∷ ss) f = each_append (λ b. fair b ≡ true) s (flat (λ s. s) ss) f.0.fair (fair-letters ss f.1)

pub letters-values : (v : Values) → FairValues v → Each (λ b. fair b ≡ true) (spelled v)
letters-values (numbers ws) f = tt
letters-values (strings ss) f = fair-letters ss f

-- ---- cut, then laid out

pub kind-cut : (k : ℕ) (ws bs : List ℕ) → k ≤ 1 → kind_number (cut_values k ws bs) ≡ k
kind-cut zero ws bs h = refl
kind-cut (suc zero) ws bs h = refl
kind-cut (suc (suc k)) ws bs h = absurd (omega arith)

length-cut-strings : (ws bs : List ℕ) → length (cut_strings ws bs) ≡ length ws
unfolding cut_strings
length-cut-strings [] bs = refl
length-cut-strings (w ∷ ws) bs = ap suc (length-cut-strings ws (drop w bs))

pub many-cut : (k : ℕ) (ws bs : List ℕ) → how_many (cut_values k ws bs) ≡ length ws
many-cut k ws bs = by (eqb k 0)
  where
    by : (t : Bool) → how_many (if t then numbers ws else strings (cut_strings ws bs)) ≡ length ws
    by true = refl
    by false = length-cut-strings ws bs

lengths-cut : (ws bs : List ℕ) → Each (λ w. leb w STRING ≡ true) ws → sum ws ≤ length bs → map length (cut_strings ws bs) ≡ ws
unfolding cut_strings sum
lengths-cut [] bs f h = refl
lengths-cut (w ∷ ws) bs f h =
    let s : w ≤ STRING = leb-true w STRING f.0 in
    ap₂ (λ (x : ℕ) (y : List ℕ). x ∷ y) (length-take-le w bs (omega arith)) (lengths-cut ws (drop w bs) f.1 (omega (arith, length-drop w bs)))

pub words-cut-values : (k : ℕ) (ws bs : List ℕ) → Each (λ w. fits k w ≡ true) ws → bytes_taken k ws ≤ length bs → words_of (cut_values k ws bs) ≡ ws
words-cut-values k ws bs = by (eqb k 0)
  where
    by : (t : Bool) → Each (λ w. (if t then small w else leb w STRING) ≡ true) ws → (if t then 0 else sum ws) ≤ length bs
        → words_of (if t then numbers ws else strings (cut_strings ws bs)) ≡ ws
    by true f h = refl
    by false f h = lengths-cut ws bs f h

joined-cut : (ws bs : List ℕ) → Each (λ w. leb w STRING ≡ true) ws → flat (λ s. s) (cut_strings ws bs) ≡ take (sum ws) bs
unfolding cut_strings sum flat
joined-cut [] bs f = refl
joined-cut (w ∷ ws) bs f =
    let s : w ≤ STRING = leb-true w STRING f.0 in
    let l : w ≡ lower w = omega arith in
    ap (λ (y : List ℕ). take w bs ++ y) (joined-cut ws (drop w bs) f.1) ∙ sym (take-add w (sum ws) bs) ∙ ap (λ (k : ℕ). take (k + sum ws) bs) l

pub spelled-cut : (k : ℕ) (ws bs : List ℕ) → Each (λ w. fits k w ≡ true) ws → spelled (cut_values k ws bs) ≡ take (bytes_taken k ws) bs
spelled-cut k ws bs = by (eqb k 0)
  where
    by : (t : Bool) → Each (λ w. (if t then small w else leb w STRING) ≡ true) ws
        → spelled (if t then numbers ws else strings (cut_strings ws bs)) ≡ take (if t then 0 else sum ws) bs
    by true f = refl
    by false f = joined-cut ws bs f

-- ---- what is cut is fair

fair-cut-strings : (ws bs : List ℕ) → Each (λ w. leb w STRING ≡ true) ws → Each (λ b. fair b ≡ true) bs → Each FairString (cut_strings ws bs)
unfolding cut_strings
fair-cut-strings [] bs f g = tt
fair-cut-strings (w ∷ ws) bs f g =
    let s : w ≤ STRING = leb-true w STRING f.0 in (
      record { short = omega (arith, length-take w bs); fair = each_take (λ b. fair b ≡ true) w bs g },
      fair-cut-strings ws (drop w bs) f.1 (each-drop (λ b. fair b ≡ true) w bs g),
    )

pub fair-cut-values : (k : ℕ) (ws bs : List ℕ) → Each (λ w. fits k w ≡ true) ws → Each (λ b. fair b ≡ true) bs → FairValues (cut_values k ws bs)
fair-cut-values k ws bs = by (eqb k 0)
  where
    by : (t : Bool) → Each (λ w. (if t then small w else leb w STRING) ≡ true) ws → Each (λ b. fair b ≡ true) bs
        → FairValues (if t then numbers ws else strings (cut_strings ws bs))
    by true f g = f
    by false f g = fair-cut-strings ws bs f g

words-lengths : (ws bs : List ℕ) → Words ws → Words (map length (cut_strings ws bs))
unfolding cut_strings
words-lengths [] bs f = tt
words-lengths (w ∷ ws) bs f = (omega (arith, length-take w bs, f.0), words-lengths ws (drop w bs) f.1)

pub bounded-cut-values : (k : ℕ) (ws bs : List ℕ) → Words ws → Words (words_of (cut_values k ws bs))
bounded-cut-values k ws bs = by (eqb k 0)
  where
    by : (t : Bool) → Words ws → Words (words_of (if t then numbers ws else strings (cut_strings ws bs)))
    by true f = f
    by false f = words-lengths ws bs f
