-- Values of both kinds: how many are strings tells whether all are, and whether none is. Assumes nothing.
use Prim.Native.Nat.{ℕ, suc, ◌+◌, ◌≤◌}
use mathlib.Core.Path.{◌≡◌, refl, sym, ap, ◌∙◌}
use mathlib.Core.Bool.{Bool, true, false}
use mathlib.Core.List.{List, [], ◌∷◌, ◌++◌, map}
use native.Mathlib.Nat.{zero-add}
use native.Mathlib.Omega.{arith}
use borrow.Author.Tests.{ne_eqb}
use lib.Dec.{eqb, leb, eqb-suc-suc}
use lib.Ieee.{Float, binary64, of_bits}
use lib.ListN.{length, length-map}
use Rattle.value.specs.Strings.{STRING}
use Rattle.statement.specs.Statements.{Values, numbers, strings, how_many}
use Rattle.std.specs.Prelude.{if◌then◌else◌}
use Rattle.plain.proofs.Tests.{true-false}
use Rattle.plain.proofs.Each.{Each}
use Rattle.layout.specs.Memory.{cut_strings, cut_values}
use Rattle.layout.specs.Damage.{small, fits}
use Rattle.layout.proofs.Spelling.{many-cut}
use Rattle.variables.specs.Variables.{Datum, number, string, each, all_numbers, all_strings}
use Rattle.variables.specs.Walk.{string_count}
use Rattle.variables.specs.Found.{numbers_among}

-- ---- how many there are, and how many of them are strings

pub length-each : (v : Values) → length (each v) ≡ how_many v
length-each (numbers ws) = length-map ws number
length-each (strings ss) = length-map ss string

pub count-append : (xs ys : List Datum) → string_count (xs ++ ys) ≡ string_count xs + string_count ys
unfolding string_count
count-append [] ys = sym (zero-add (string_count ys))
count-append (number w ∷ xs) ys = count-append xs ys
count-append (string s ∷ xs) ys = omega (arith, count-append xs ys)

pub count_most : (vs : List Datum) → string_count vs ≤ length vs
unfolding string_count
count_most [] = omega arith
count_most (number w ∷ vs) = omega (arith, count_most vs)
count_most (string s ∷ vs) = omega (arith, count_most vs)

pub count-numbers : (ws : List ℕ) → string_count (map number ws) ≡ 0
unfolding string_count
count-numbers [] = refl
count-numbers (w ∷ ws) = count-numbers ws

pub count-strings : (ss : List (List ℕ)) → string_count (map string ss) ≡ length ss
unfolding string_count
count-strings [] = refl
count-strings (s ∷ ss) = omega (arith, count-strings ss)

-- those that are cut out for a statement of kind k
pub count_cut : (k : ℕ) (ws bs : List ℕ) → string_count (each (cut_values k ws bs)) ≡ (if eqb k 0 then 0 else length ws)
count_cut k ws bs = by (eqb k 0)
  where
    by : (t : Bool) → string_count (each (if t then numbers ws else strings (cut_strings ws bs))) ≡ (if t then 0 else length ws)
    by true = count-numbers ws
    by false = count-strings (cut_strings ws bs) ∙ many-cut 1 ws bs

-- ---- none is a string, or all are

pub all_numbers-counted : (vs : List Datum) → all_numbers vs ≡ eqb (string_count vs) 0
unfolding all_numbers string_count
all_numbers-counted [] = refl
all_numbers-counted (number w ∷ vs) = all_numbers-counted vs
all_numbers-counted (string s ∷ vs) = sym (ne_eqb (string_count vs + 1) 0 (λ e. omega arith))

pub all_strings-counted : (vs : List Datum) → all_strings vs ≡ eqb (string_count vs) (length vs)
unfolding all_strings string_count
all_strings-counted [] = refl
all_strings-counted (number w ∷ vs) = sym (ne_eqb (string_count vs) (suc (length vs)) (λ e. omega (arith, count_most vs)))
all_strings-counted (string s ∷ vs) =
    let e : string_count vs + 1 ≡ suc (string_count vs) = omega arith in
    all_strings-counted vs ∙ sym (ap (λ (k : ℕ). eqb k (suc (length vs))) e ∙ eqb-suc-suc (string_count vs) (length vs))

-- ---- the numbers among them

pub length-numbers : (vs : List Datum) → all_numbers vs ≡ true → length (numbers_among vs) ≡ length vs
unfolding all_numbers
length-numbers [] e = refl
length-numbers (number w ∷ vs) e = ap suc (length-numbers vs e)
length-numbers (string s ∷ vs) e = true-false (sym e)

pub numbers-append : (xs ys : List Datum) → numbers_among (xs ++ ys) ≡ numbers_among xs ++ numbers_among ys
numbers-append [] ys = refl
numbers-append (number w ∷ xs) ys = ap (λ (l : List Float). of_bits binary64 w ∷ l) (numbers-append xs ys)
numbers-append (string s ∷ xs) ys = numbers-append xs ys

pub numbers-each : (ws : List ℕ) → numbers_among (map number ws) ≡ map (of_bits binary64) ws
numbers-each [] = refl
numbers-each (w ∷ ws) = ap (λ (l : List Float). of_bits binary64 w ∷ l) (numbers-each ws)

-- where no string is among those that are cut out for a statement, they are the numbers of its words, all small
module _ (bs : List ℕ) where
  pub numbers-cut : (k : ℕ) (ws : List ℕ) → string_count (each (cut_values k ws bs)) ≡ 0 → numbers_among (each (cut_values k ws bs)) ≡ map (of_bits binary64) ws
  unfolding cut_strings
  numbers-cut k ws z = by (eqb k 0) ws (sym (count_cut k ws bs) ∙ z)
    where
      by : (t : Bool) (ws : List ℕ) → (if t then 0 else length ws) ≡ 0 → numbers_among (each (if t then numbers ws else strings (cut_strings ws bs))) ≡ map (of_bits binary64) ws
      by true ws z = numbers-each ws
      by false [] z = refl
      by false (w ∷ ws) z = absurd (omega arith)

  pub small_cut : (k : ℕ) (ws : List ℕ) → string_count (each (cut_values k ws bs)) ≡ 0 → Each (λ w. fits k w ≡ true) ws → Each (λ w. small w ≡ true) ws
  small_cut k ws z = by (eqb k 0) ws (sym (count_cut k ws bs) ∙ z)
    where
      by : (t : Bool) (ws : List ℕ) → (if t then 0 else length ws) ≡ 0 → Each (λ w. (if t then small w else leb w STRING) ≡ true) ws → Each (λ w. small w ≡ true) ws
      by true ws z f = f
      by false [] z f = tt
      by false (w ∷ ws) z f = absurd (omega arith)
