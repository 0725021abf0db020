-- Every byte is counted once, up to one past the limit; past the limit nothing is read. Assumes nothing.
use Prim.Native.Nat.{ℕ, suc, ◌+◌, ◌≤◌, ◌<◌}
use native.Mathlib.Nat.{add-zero}
use native.Mathlib.Omega.{arith}
use mathlib.Core.Path.{◌≡◌, refl, sym, ap, ◌∙◌}
use mathlib.Core.Bool.{Bool, true, false}
use mathlib.Core.List.{List, [], ◌∷◌}
use borrow.Author.Tests.{ltb-true, ltb-false, lt-ltb, le-ltb}
use lib.Dec.{eqb, ltb}
use lib.ListN.{length}
use Rattle.plain.specs.Bytes.{LF, CR}
use Rattle.std.specs.Prelude.{if◌then◌else◌}
use Rattle.feeding.specs.Kept.{ROOM, keep, settled}
use Rattle.feeding.specs.Parts.{MOST, more, Open, holding, ended, taken, step, fed}
use Rattle.feeding.proofs.Keeping.{keep-room}
use Rattle.feeding.proofs.Going.{more-is, settled-room}

over-more : (n m : ℕ) → ltb MOST (more n + m) ≡ ltb MOST (n + suc m)
over-more n m = by (ltb MOST n) refl
  where
    by : (t : Bool) → ltb MOST n ≡ t → ltb MOST ((if t then n else n + 1) + m) ≡ ltb MOST (n + suc m)
    by true e = let h = ltb-true MOST n e in lt-ltb MOST (n + m) (omega arith) ∙ sym (lt-ltb MOST (n + suc m) (omega arith))
    by false e = let z : n + 1 + m ≡ n + suc m = omega arith in rw z

more-most : (n : ℕ) → n ≤ MOST + 1 → more n ≤ MOST + 1
more-most n h = by (ltb MOST n) refl
  where
    by : (t : Bool) → ltb MOST n ≡ t → (if t then n else n + 1) ≤ MOST + 1
    by true e = h
    by false e = omega (arith, ltb-false MOST n e)

module _ {P : Type 0} (complete : P → ℕ → List ℕ → P) where
  -- ---- one byte

  module _ (o : Open P) (b : ℕ) where
    -- each of the three ways in which a byte is taken
    taken-by : (Q : Open P → Type 0) → Q (ended complete o) → Q (holding o (settled o.kept o.pending) true)
        → Q (holding o (keep (settled o.kept o.pending) b) false) → Q (taken complete o b)
    taken-by Q x y z = by (eqb b LF) (eqb b CR)
      where
        by : (t u : Bool)
            → Q (if t then ended complete o
            else (if u then holding o (settled o.kept o.pending) true else holding o (keep (settled o.kept o.pending) b) false))
        by true u = x
        by false true = y
        by false false = z

    pub bytes-taken : (taken complete o b).bytes ≡ more o.bytes
    bytes-taken = taken-by (λ (x : Open P). x.bytes ≡ more o.bytes) refl refl refl

    -- no line more than bytes
    pub number-taken : o.number ≤ MOST → (taken complete o b).number ≤ o.number + 1
    number-taken h =
        let z : more o.number ≡ o.number + 1 = more-is o.number h in
        taken-by (λ (x : Open P). x.number ≤ o.number + 1) (omega arith) (omega arith) (omega arith)

    pub room-taken : length o.kept ≤ ROOM → length (taken complete o b).kept ≤ ROOM
    room-taken h =
        let g = settled-room o.kept o.pending h in
        taken-by (λ (x : Open P). length x.kept ≤ ROOM) (omega arith) g (keep-room (settled o.kept o.pending) b g)

    pub step-within : o.bytes < MOST → step complete o b ≡ taken complete o b
    unfolding step
    step-within h = rw (lt-ltb o.bytes MOST h)

    pub step_past : MOST ≤ o.bytes → step complete o b ≡ holding o o.kept o.pending
    unfolding step
    step_past h = rw (le-ltb o.bytes MOST h)

    bytes-step : (step complete o b).bytes ≡ more o.bytes
    unfolding step
    bytes-step = by (ltb o.bytes MOST)
      where
        by : (t : Bool) → (if t then taken complete o b else holding o o.kept o.pending).bytes ≡ more o.bytes
        by true = bytes-taken
        by false = refl

    room-step : length o.kept ≤ ROOM → length (step complete o b).kept ≤ ROOM
    unfolding step
    room-step h = by (ltb o.bytes MOST)
      where
        by : (t : Bool) → length (if t then taken complete o b else holding o o.kept o.pending).kept ≤ ROOM
        by true = room-taken h
        by false = h

  -- ---- a part

  -- what is kept is never over 133 bytes
  pub room-fed : (o : Open P) (bs : List ℕ) → length o.kept ≤ ROOM → length (fed complete o bs).kept ≤ ROOM
  unfolding fed
  room-fed o [] h = h
  room-fed o (b ∷ bs) h = room-fed (step complete o b) bs (room-step o b h)

  -- nor is the count ever over one past the limit
  pub most-fed : (o : Open P) (bs : List ℕ) → o.bytes ≤ MOST + 1 → (fed complete o bs).bytes ≤ MOST + 1
  unfolding fed
  most-fed o [] h = h
  most-fed o (b ∷ bs) h = most-fed (step complete o b) bs (omega (arith, bytes-step o b, more-most o.bytes h))

  -- the limit is passed exactly where there are more bytes
  pub over-fed : (o : Open P) (bs : List ℕ) → ltb MOST (fed complete o bs).bytes ≡ ltb MOST (o.bytes + length bs)
  unfolding fed
  over-fed o [] = rw (add-zero o.bytes)
  over-fed o (b ∷ bs) =
      over-fed (step complete o b) bs ∙ ap (λ (n : ℕ). ltb MOST (n + length bs)) (bytes-step o b) ∙ over-more o.bytes (length bs)

  pub bytes-fed : (o : Open P) (bs : List ℕ) → o.bytes + length bs ≤ MOST + 1 → (fed complete o bs).bytes ≡ o.bytes + length bs
  unfolding fed
  bytes-fed o [] h = omega arith
  bytes-fed o (b ∷ bs) h =
      let z : (step complete o b).bytes ≡ o.bytes + 1 = bytes-step o b ∙ more-is o.bytes (omega arith) in
      let y = bytes-fed (step complete o b) bs (omega arith) in
      omega arith

  -- past the limit feeding changes nothing
  pub fed-past : (o : Open P) (bs : List ℕ) → MOST < o.bytes → fed complete o bs ≡ o
  unfolding fed
  fed-past o [] h = refl
  fed-past o (b ∷ bs) h = ap (λ (x : Open P). fed complete x bs) same ∙ fed-past o bs h
    where
      same : step complete o b ≡ o
      same = step_past o b (omega arith) ∙ rw (lt-ltb MOST o.bytes h)

  -- at the limit one byte more is counted, for all that come
  pub fed-over : (o : Open P) (b : ℕ) (bs : List ℕ) → o.bytes ≡ MOST → fed complete o (b ∷ bs) ≡ holding o o.kept o.pending
  unfolding fed
  fed-over o b bs e =
      let z : more o.bytes ≡ o.bytes + 1 = more-is o.bytes (omega arith) in
      ap (λ (x : Open P). fed complete x bs) (step_past o b (omega arith)) ∙ fed-past (holding o o.kept o.pending) bs (omega arith)
