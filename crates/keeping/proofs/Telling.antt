-- What every complete line keeps is kept by every part, and two ways of completing lines that agree on each line agree on each part: a byte completes
-- one line at most. Assumes nothing.
use Prim.Native.Nat.{ℕ, ◌+◌, ◌≤◌}
use native.Mathlib.Omega.{arith}
use mathlib.Core.Path.{◌≡◌, refl, ap, ◌∙◌}
use mathlib.Core.Bool.{Bool, true, false}
use mathlib.Core.List.{List, [], ◌∷◌}
use borrow.Author.Tests.{ltb-false}
use lib.Dec.{eqb, ltb}
use lib.ListN.{length}
use Rattle.plain.specs.Bytes.{LF, CR}
use Rattle.std.specs.Prelude.{if◌then◌else◌}
use Rattle.feeding.specs.Kept.{keep, settled}
use Rattle.feeding.specs.Parts.{MOST, more, Open, holding, ended, step, fed}
use Rattle.intake.specs.Opened.{telling}

-- ---- one byte, in the four ways

abbrev pub by_way : {P : Type 0} → (complete : P → ℕ → List ℕ → P) → Open P → ℕ → (within ends returns : Bool) → Open P
by_way c o b t u v =
    if t
    then (if u then ended c o
    else (if v then holding o (settled o.kept o.pending) true else holding o (keep (settled o.kept o.pending) b) false))
    else holding o o.kept o.pending

by-way : {P : Type 0} (c : P → ℕ → List ℕ → P) (o : Open P) (b : ℕ) → step c o b ≡ by_way c o b (ltb o.bytes MOST) (eqb b LF) (eqb b CR)
unfolding step
by-way c o b = refl

pub more-most : (n : ℕ) → n ≤ MOST + 1 → more n ≤ MOST + 1
more-most n h = by (ltb MOST n) refl
  where
    by : (t : Bool) → ltb MOST n ≡ t → (if t then n else n + 1) ≤ MOST + 1
    by true e = h
    by false e = omega (arith, ltb-false MOST n e)

-- ---- the numbers

number_by : {P : Type 0} (c : P → ℕ → List ℕ → P) (o : Open P) (b : ℕ) (t u v : Bool) → o.number ≤ MOST + 1 → (by_way c o b t u v).number ≤ MOST + 1
number_by c o b true true v h = more-most o.number h
number_by c o b true false true h = h
number_by c o b true false false h = h
number_by c o b false u v h = h

number_step : {P : Type 0} (c : P → ℕ → List ℕ → P) (o : Open P) (b : ℕ) → o.number ≤ MOST + 1 → (step c o b).number ≤ MOST + 1
unfolding step
number_step c o b h = number_by c o b (ltb o.bytes MOST) (eqb b LF) (eqb b CR) h

pub number-fed : {P : Type 0} (c : P → ℕ → List ℕ → P) (o : Open P) (bs : List ℕ) → o.number ≤ MOST + 1 → (fed c o bs).number ≤ MOST + 1
unfolding fed
number-fed c o [] h = h
number-fed c o (b ∷ bs) h = number-fed c (step c o b) bs (number_step c o b h)

-- ---- what a line keeps

module _ {P : Type 0} (c : P → ℕ → List ℕ → P) (I : P → Type 0) (keeps : (p : P) (number : ℕ) (line : List ℕ) → number ≤ MOST + 1 → I p → I (c p number line)) where
  kept_by : (o : Open P) (b : ℕ) (t u v : Bool) → o.number ≤ MOST + 1 → I o.progress → I (by_way c o b t u v).progress
  kept_by o b true true v h i = keeps o.progress (more o.number) o.kept (more-most o.number h) i
  kept_by o b true false true h i = i
  kept_by o b true false false h i = i
  kept_by o b false u v h i = i

  kept_step : (o : Open P) (b : ℕ) → o.number ≤ MOST + 1 → I o.progress → I (step c o b).progress
  unfolding step
  kept_step o b h i = kept_by o b (ltb o.bytes MOST) (eqb b LF) (eqb b CR) h i

  pub kept-fed : (o : Open P) (bs : List ℕ) → o.number ≤ MOST + 1 → I o.progress → I (fed c o bs).progress
  unfolding fed
  kept-fed o [] h i = i
  kept-fed o (b ∷ bs) h i = kept-fed (step c o b) bs (number_step c o b h) (kept_step o b h i)

  -- ---- and what agrees

  module _ {Q : Type 0} (d : Q → ℕ → List ℕ → Q) (f : P → Q) (agrees : (p : P) (number : ℕ) (line : List ℕ) → I p → f (c p number line) ≡ d (f p) number line) where
    told-by : (o : Open P) (b : ℕ) (t u v : Bool) → I o.progress → telling f (by_way c o b t u v) ≡ by_way d (telling f o) b t u v
    told-by o b true true v i =
        ap
        (λ (p : Q). record { progress = p; number = more o.number; long = length o.kept; kept = []; pending = false; bytes = more o.bytes })
        (agrees o.progress (more o.number) o.kept i)
    told-by o b true false true i = refl
    told-by o b true false false i = refl
    told-by o b false u v i = refl

    told-step : (o : Open P) (b : ℕ) → I o.progress → telling f (step c o b) ≡ step d (telling f o) b
    unfolding step
    told-step o b i = told-by o b (ltb o.bytes MOST) (eqb b LF) (eqb b CR) i

    pub told-fed : (o : Open P) (bs : List ℕ) → o.number ≤ MOST + 1 → I o.progress → telling f (fed c o bs) ≡ fed d (telling f o) bs
    unfolding fed
    told-fed o [] h i = refl
    told-fed o (b ∷ bs) h i =
        told-fed (step c o b) bs (number_step c o b h) (kept_step o b h i) ∙ ap (λ (x : Open Q). fed d x bs) (told-step o b i)
