-- Demand 3, put together: a fetch that is done gives all values of the variable, or its string at the place, and these are what the sentence
-- says. Assumes nothing.
use Prim.Native.Nat.{ℕ, zero, suc, ◌-◌}
use native.Mathlib.Omega.{arith}
use mathlib.Core.Path.{◌≡◌, refl, sym, ap, ◌∙◌}
use mathlib.Core.Bool.{Bool, true, false, true≢false}
use mathlib.Core.List.{List, [], ◌∷◌, ◌++◌, map}
use lib.Dec.{eqb}
use lib.Ieee.{Float, binary64, of_bits}
use lib.ListN.{length, take, drop, get_or}
use lib.Seq.{take_at}
use Rattle.std.specs.Prelude.{if◌then◌else◌, Ok, Result, Err}
use Rattle.plain.specs.Bytes.{within}
use Rattle.refusal.specs.Numbers.{SUCCESS}
use Rattle.layout.specs.State.{Pool}
use Rattle.variables.specs.declared.variable.FindError.{FindError}
use Rattle.variables.specs.Variables as D
use Rattle.variables.specs.Variables.{Datum, variable, present, all_numbers, all_strings}
use Rattle.variables.specs.Found.{numbers_among, doubles, fitted, found_in, filled}
use Rattle.variables.specs.Spelled.{letters, string_of, spelled_in}
use Rattle.variables.specs.declared.variable.FindError.TheVariants as W
use Rattle.pool.specs.Replies.{Fetched, fetched_number, fetched_count}
use Rattle.pool.specs.Fetch as F
use Rattle.promises.specs.Calls.{fetched, spelled, library}
use Rattle.promises.specs.Histories.{texts}
use Rattle.promises.specs.Demand3.{Spoken, SpokenAt, Demand3}
use Rattle.promises.proofs.Fetched.{found-written, string-written}
use Rattle.promises.proofs.Histories.{replay, of-held-texts}
use Rattle.promises.proofs.Sentence.{sentence}

-- ---- values that are all numbers, and those that are all strings

bits_among : List Datum → List ℕ
bits_among [] = []
bits_among (D.number w ∷ vs) = w ∷ bits_among vs
bits_among (D.string s ∷ vs) = bits_among vs

only-numbers : (vs : List Datum) → all_numbers vs ≡ true → vs ≡ map D.number (bits_among vs)
unfolding all_numbers bits_among
only-numbers [] e = refl
only-numbers (D.number w ∷ vs) e = ap (λ (l : List Datum). D.number w ∷ l) (only-numbers vs e)
only-numbers (D.string s ∷ vs) e = absurd (true≢false (sym e))

numbers-bits : (vs : List Datum) → numbers_among vs ≡ map (of_bits binary64) (bits_among vs)
unfolding bits_among
numbers-bits [] = refl
numbers-bits (D.number w ∷ vs) = ap (λ (l : List Float). of_bits binary64 w ∷ l) (numbers-bits vs)
numbers-bits (D.string s ∷ vs) = numbers-bits vs

string-at : (vs : List Datum) (i : ℕ) → all_strings vs ≡ true → get_or vs i (D.string []) ≡ D.string (letters (get_or vs i (D.string [])))
unfolding all_strings
string-at [] i e = refl
string-at (D.number w ∷ vs) i e = absurd (true≢false (sym e))
string-at (D.string s ∷ vs) zero e = refl
string-at (D.string s ∷ vs) (suc i) e = string-at vs i e

-- what is done was of the kind that is asked for
kind-asked : (there kind : Bool) (f : Result ℕ FindError) (n : ℕ) → F.fetched (if there then (if kind then f else (Err W.Mixed)) else (Err W.Absent)) ≡ Ok n → kind ≡ true
kind-asked true true f n e = refl
kind-asked true false f n e = let z : ◌≡◌ {A = ℕ} 0 1 = cc in absurd (omega arith)
kind-asked false kind f n e = let z : ◌≡◌ {A = ℕ} 0 1 = cc in absurd (omega arith)

-- ---- the two fetches

module _ (name : List ℕ) (s : Pool) (n : ℕ) where
  numbers-asked : (room : ℕ) → F.fetched (found_in name room s) ≡ Ok n → all_numbers (variable name s) ≡ true
  unfolding found_in
  numbers-asked room e = kind-asked (present name s) (all_numbers (variable name s)) (fitted (length (variable name s)) room) n e

  strings-asked : (place room : ℕ) → F.fetched (spelled_in name place room s) ≡ Ok n → all_strings (variable name s) ≡ true
  unfolding spelled_in
  strings-asked place room e =
      let vs = variable name s in
      kind-asked (within 1 (length vs) place) (all_strings vs) (fitted (length (string_of place vs)) room) n e

  spoken : (buffer left : List Float)
      → fetched (F.fetched (found_in name (length buffer) s)) (filled (found_in name (length buffer) s) (doubles name s) buffer) ≡ fetched (Ok n) left
      → Spoken name s (take n left)
  spoken buffer left e =
      let f : F.fetched (found_in name (length buffer) s) ≡ Ok n = cc in
      let l : filled (found_in name (length buffer) s) (doubles name s) buffer ≡ left = cc in
      let w = found-written name s buffer (ap (λ (r : Fetched). eqb (fetched_number r) SUCCESS) f) in
      let c : n ≡ length (doubles name s) = sym (ap fetched_count f) ∙ w.told in
      let h : left ≡ doubles name s ++ drop (length (doubles name s)) buffer = sym l ∙ w.holds in
      let k : variable name s ≡ map D.number (bits_among (variable name s)) = only-numbers (variable name s) (numbers-asked (length buffer) f) in
      record {
        bits = bits_among (variable name s);
        said = rw (← k) (sentence name s);
        are = rw h (take_at (doubles name s) (drop (length (doubles name s)) buffer) n (sym c)) ∙ numbers-bits (variable name s);
      }

  spoken-at : (place : ℕ) (buffer left : List ℕ)
      → spelled (F.fetched (spelled_in name place (length buffer) s)) (filled (spelled_in name place (length buffer) s) (string_of place (variable name s)) buffer)
      ≡ spelled (Ok n) left
      → SpokenAt name place s (take n left)
  spoken-at place buffer left e =
      let bs = string_of place (variable name s) in
      let f : F.fetched (spelled_in name place (length buffer) s) ≡ Ok n = cc in
      let l : filled (spelled_in name place (length buffer) s) bs buffer ≡ left = cc in
      let w = string-written name place s buffer (ap (λ (r : Fetched). eqb (fetched_number r) SUCCESS) f) in
      let c : n ≡ length bs = sym (ap fetched_count f) ∙ w.told in
      let h : left ≡ bs ++ drop (length bs) buffer = sym l ∙ w.holds in
      let t : take n left ≡ bs = ap (take n) h ∙ take_at bs (drop (length bs) buffer) n (sym c) in
      record {
        values = variable name s;
        said = sentence name s;
        there = string-at (variable name s) (place - 1) (strings-asked place (length buffer) f) ∙ ap D.string (sym t);
      }

pub demand-3 : Demand3 library
demand-3 =
    record {
      replay = replay;
      held = of-held-texts;
      sentence = λ m f history name buffer left n t e.
          spoken name (texts library history m) n buffer left (sym (of-held-texts.variables m f history name buffer t) ∙ e);
      strings = λ m f history name place buffer left n t e.
          spoken-at name (texts library history m) n place buffer left (sym (of-held-texts.strings m f history name place buffer t) ∙ e);
    }
