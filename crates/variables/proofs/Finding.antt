-- What a search answers is what is there to be found: by the name's presence, by the values' kind, and by the room. Assumes nothing.
use Prim.Native.Nat.{ℕ, ◌≤◌, ◌<◌}
use mathlib.Core.Path.{◌≡◌, refl, sym, ap, ◌∙◌}
use mathlib.Core.Bool.{true, false}
use mathlib.Core.List.{List}
use native.Mathlib.Omega.{arith}
use borrow.Author.Tests.{eq-eqb, ne_eqb, le-leb, lt-leb}
use lib.Dec.{leb}
use lib.Ieee.{Float}
use lib.ListN.{length}
use Rattle.std.specs.Prelude.{Result, Ok, Err}
use Rattle.words.specs.Over.{over}
use Rattle.layout.specs.Memory.{decode}
use Rattle.variables.specs.Variables.{Datum, variable, present, all_numbers}
use Rattle.variables.specs.Walk.{string_count}
use Rattle.variables.specs.Found.{doubles, found_in, filled, Finds}
use Rattle.variables.specs.declared.variable.FindError.{FindError}
use Rattle.variables.specs.declared.variable.FindError.TheVariants.{TooMany, Mixed, Absent}
use Rattle.variables.proofs.Counts.{all_numbers-counted}

module _ (name m : List ℕ) (before : List Float) where
  abbrev values : List Datum
  values = variable name (decode m)

  finds : (r : Result ℕ FindError) (after : List Float) → found_in name (length before) (decode m) ≡ r → after ≡ filled r (doubles name (decode m)) before → Finds name m before r after
  finds r after e f = record { found = sym e; buffer = f ∙ ap (λ (x : Result ℕ FindError). filled x (doubles name (decode m)) before) (sym e) }

  pub finds-none : present name (decode m) ≡ false → Finds name m before (Err Absent) before
  unfolding found_in
  finds-none e = finds (Err Absent) before (rw e) refl

  module _ (e : present name (decode m) ≡ true) (count strings : ℕ) (c : count ≡ length values) (s : strings ≡ string_count values) where
    pub finds-mixed : 0 < strings → Finds name m before (Err Mixed) before
    unfolding found_in
    finds-mixed h =
        let n : all_numbers values ≡ false = all_numbers-counted values ∙ ne_eqb (string_count values) 0 (λ z. omega arith) in
        finds (Err Mixed) before (rw (e, n)) refl

    module _ (z : strings ≡ 0) where
      plain : all_numbers values ≡ true
      plain = all_numbers-counted values ∙ eq-eqb (string_count values) 0 (sym s ∙ z)

      pub finds-many : length before < count → Finds name m before (Err TooMany) before
      unfolding found_in
      finds-many h = finds (Err TooMany) before (rw (e, plain, ap (λ (n : ℕ). leb n (length before)) (sym c) ∙ lt-leb count (length before) h)) refl

      pub finds-values : count ≤ length before → (after : List Float) → after ≡ over 0 (doubles name (decode m)) before → Finds name m before (Ok count) after
      unfolding found_in
      finds-values h after f =
          finds (Ok count) after (rw (e, plain, ap (λ (n : ℕ). leb n (length before)) (sym c) ∙ le-leb count (length before) h) (ap Ok (sym c))) f
