-- A successful fetch writes the values, or a string's bytes, from the buffer's start and no further: it is done only where they have room,
-- and what is written over ends with them. Assumes nothing.
use Prim.Native.Nat.{ℕ, ◌≤◌}
use native.Mathlib.Nat.{not-suc-le-zero, le_of_suc-le-suc}
use mathlib.Core.Path.{◌≡◌, refl, sym, ap}
use mathlib.Core.Bool.{Bool, true, false, true≢false}
use mathlib.Core.List.{List, [], ◌∷◌, ◌++◌}
use borrow.Author.Tests.{leb-true}
use lib.Dec.{eqb, leb}
use lib.Ieee.{Float}
use lib.ListN.{length, drop}
use Rattle.std.specs.Prelude.{if◌then◌else◌, Err, Result, Ok}
use Rattle.plain.specs.Bytes.{within}
use Rattle.refusal.specs.Numbers.{SUCCESS}
use Rattle.refusal.specs.declared.Refusal.TheVariants.{DamagedPool}
use Rattle.words.specs.Over.{over}
use Rattle.layout.specs.State.{Pool}
use Rattle.layout.specs.Memory.{decode}
use Rattle.layout.specs.Damage.{sound}
use Rattle.pool.specs.Replies.{Fetched, fetched_number, fetched_count}
use Rattle.variables.specs.declared.variable.FindError.{FindError}
use Rattle.variables.specs.Variables.{variable, present, all_numbers, all_strings}
use Rattle.variables.specs.Found.{doubles, fitted, found_in, filled}
use Rattle.variables.specs.Spelled.{string_of, spelled_in}
use Rattle.variables.proofs.Counts.{length-numbers}
use Rattle.pool.specs.Fetch.{fetched, fetch_reply, fetch_buffer}
use Rattle.pool.specs.FetchString.{string_reply, string_buffer}
use Rattle.variables.specs.declared.variable.FindError.TheVariants as W
use Rattle.promises.specs.Calls.{asked, library}
use Rattle.promises.specs.Demands.{FetchWrites, FetchStringWrites}

over-start : {A : Type 0} (xs m : List A) → length xs ≤ length m → over 0 xs m ≡ xs ++ drop (length xs) m
unfolding over
over-start [] [] h = refl
over-start [] (y ∷ m) h = refl
over-start (x ∷ xs) [] h = absurd (not-suc-le-zero h)
over-start {A} (x ∷ xs) (y ∷ m) h = ap (λ (l : List A). x ∷ l) (over-start xs m (le_of_suc-le-suc h))

-- so many are told, and the buffer is these and what it held behind them
pub record Written {A : Type 0} (xs buffer : List A) (r : Fetched) (after : List A) : Type 0 where
  pub told : fetched_count r ≡ length xs
  pub holds : after ≡ xs ++ drop (length xs) buffer

-- what is found, if the call is done, is written
abbrev pub WrittenBy : {A : Type 0} (xs buffer : List A) → Result ℕ FindError → Type 0
WrittenBy xs buffer f = eqb (fetched_number (fetched f)) SUCCESS ≡ true → Written xs buffer (fetched f) (filled f xs buffer)

module _ {A : Type 0} (xs buffer : List A) where
  by-room : (b : Bool) → leb (length xs) (length buffer) ≡ b → WrittenBy xs buffer (if b then Ok (length xs) else (Err W.TooMany))
  by-room true e h = record { told = refl; holds = over-start xs buffer (leb-true (length xs) (length buffer) e) }
  by-room false e h = absurd (true≢false (sym h))

  -- those that have room, or not
  fitted-written : (n : ℕ) → n ≡ length xs → WrittenBy xs buffer (fitted n (length buffer))
  fitted-written n e = rw e (by-room (leb (length xs) (length buffer)) refl)

  -- what is there, or not, and of the kind that is asked for, or not
  by_kind : (b : Bool) (f : Result ℕ FindError) → (b ≡ true → WrittenBy xs buffer f) → WrittenBy xs buffer (if b then f else (Err W.Mixed))
  by_kind true f w h = w refl h
  by_kind false f w h = absurd (true≢false (sym h))

  by-presence : (b : Bool) (f : Result ℕ FindError) → (b ≡ true → WrittenBy xs buffer f) → WrittenBy xs buffer (if b then f else (Err W.Absent))
  by-presence true f w h = w refl h
  by-presence false f w h = absurd (true≢false (sym h))

  -- and the pool is undamaged, or not
  undamaged-written : (b : Bool) (f : Result ℕ FindError) → WrittenBy xs buffer f → eqb (fetched_number (if b then fetched f else Err DamagedPool)) SUCCESS ≡ true
      → Written xs buffer (if b then fetched f else Err DamagedPool) (if b then filled f xs buffer else buffer)
  undamaged-written true f w h = w h
  undamaged-written false f w h = absurd (true≢false (sym h))

pub found-written : (name : List ℕ) (s : Pool) (buffer : List Float) → WrittenBy (doubles name s) buffer (found_in name (length buffer) s)
unfolding found_in
found-written name s buffer =
    let vs = variable name s in
    by-presence (doubles name s) buffer (present name s) (if all_numbers vs then fitted (length vs) (length buffer) else (Err W.Mixed))
    (λ p. by_kind (doubles name s) buffer (all_numbers vs) (fitted (length vs) (length buffer))
    (λ k. fitted-written (doubles name s) buffer (length vs) (sym (length-numbers vs k))))

pub string-written : (name : List ℕ) (place : ℕ) (s : Pool) (buffer : List ℕ)
    → WrittenBy (string_of place (variable name s)) buffer (spelled_in name place (length buffer) s)
unfolding spelled_in
string-written name place s buffer =
    let vs = variable name s in
    let bs = string_of place vs in
    by-presence bs buffer (within 1 (length vs) place) (if all_strings vs then fitted (length bs) (length buffer) else (Err W.Mixed))
    (λ p. by_kind bs buffer (all_strings vs) (fitted (length bs) (length buffer)) (λ k. fitted-written bs buffer (length bs) refl))

pub fetch-writes : FetchWrites library
unfolding asked fetch_reply fetch_buffer
fetch-writes name m buffer h =
    let s = decode m in
    let w = undamaged-written (doubles name s) buffer (sound m) (found_in name (length buffer) s) (found-written name s buffer) h in
    (w.told, w.holds)

pub fetch-string-writes : FetchStringWrites library
unfolding asked string_reply string_buffer
fetch-string-writes name place m buffer h =
    let s = decode m in
    let w = undamaged-written (string_of place (variable name s)) buffer (sound m) (spelled_in name place (length buffer) s) (string-written name place s buffer) h in
    (w.told, w.holds)
