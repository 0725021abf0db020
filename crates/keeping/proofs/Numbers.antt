-- The numbers of an open text and the bytes that are kept of its line stay within the limits of a bookmark, whatever part is fed. Assumes nothing.
use Prim.Native.Nat.{ℕ, ◌+◌, ◌≤◌, ◌<◌}
use mathlib.Core.Path.{◌≡◌}
use mathlib.Core.Bool.{Bool, true, false}
use mathlib.Core.List.{List, [], ◌∷◌, ◌++◌}
use borrow.Author.Tests.{ltb-true}
use lib.Dec.{eqb, ltb, lit<}
use lib.ListN.{length, take, drop, get_or}
use Rattle.plain.specs.Bytes.{LF, CR}
use Rattle.std.specs.Prelude.{if◌then◌else◌}
use Rattle.plain.proofs.Each.{each_append, each_take, each-drop, each_weaken}
use Rattle.words.proofs.Each.{all-each}
use Rattle.octets.proofs.Bytes.{Bytes}
use Rattle.value.specs.Classes.{blank}
use Rattle.text.specs.Lengths.{LONGEST_LINE}
use Rattle.feeding.specs.Kept.{ROOM, squeezed, keep, settled}
use Rattle.feeding.specs.Parts.{MOST, Open, step, fed}
use Rattle.feeding.proofs.Counting.{room-fed, most-fed}
use Rattle.intake.specs.Calls.{are_bytes}
use Rattle.keeping.proofs.Telling.{by_way, number-fed}

-- ---- the bytes that are kept

module _ (kept : List ℕ) (f : Bytes kept) where
  bytes-squeezed : (b : ℕ) → b < 256 → Bytes (squeezed kept b)
  bytes-squeezed b h = by (blank (get_or kept 0 0)) (blank b)
    where
      by : (t u : Bool) → Bytes (if t then drop 1 kept ++ b ∷ [] else (if u then kept else take LONGEST_LINE kept ++ b ∷ []))
      by true u = each_append (λ x. x < 256) (drop 1 kept) (b ∷ []) (each-drop (λ x. x < 256) 1 kept f) (h, tt)
      by false true = f
      by false false = each_append (λ x. x < 256) (take LONGEST_LINE kept) (b ∷ []) (each_take (λ x. x < 256) LONGEST_LINE kept f) (h, tt)

  bytes-keep : (b : ℕ) → b < 256 → Bytes (keep kept b)
  unfolding keep
  bytes-keep b h = by (ltb (length kept) ROOM)
    where
      by : (t : Bool) → Bytes (if t then kept ++ b ∷ [] else squeezed kept b)
      by true = each_append (λ x. x < 256) kept (b ∷ []) f (h, tt)
      by false = bytes-squeezed b h

  bytes-settled : (pending : Bool) → Bytes (settled kept pending)
  bytes-settled true = bytes-keep CR (lit< tt)
  bytes-settled false = f

module _ {P : Type 0} (c : P → ℕ → List ℕ → P) where
  bytes-by : (o : Open P) (b : ℕ) (t u v : Bool) → b < 256 → Bytes o.kept → Bytes (by_way c o b t u v).kept
  bytes-by o b true true v h f = tt
  bytes-by o b true false true h f = bytes-settled o.kept f o.pending
  bytes-by o b true false false h f = bytes-keep (settled o.kept o.pending) (bytes-settled o.kept f o.pending) b h
  bytes-by o b false u v h f = f

  bytes-step : (o : Open P) (b : ℕ) → b < 256 → Bytes o.kept → Bytes (step c o b).kept
  unfolding step
  bytes-step o b h f = bytes-by o b (ltb o.bytes MOST) (eqb b LF) (eqb b CR) h f

  bytes-kept : (o : Open P) (bs : List ℕ) → Bytes bs → Bytes o.kept → Bytes (fed c o bs).kept
  unfolding fed
  bytes-kept o [] g f = f
  bytes-kept o (b ∷ bs) g f = bytes-kept (step c o b) bs g.1 (bytes-step o b g.0 f)

  -- ---- how long the last line is

  long-by : (o : Open P) (b : ℕ) (t u v : Bool) → length o.kept ≤ ROOM → o.long ≤ ROOM → (by_way c o b t u v).long ≤ ROOM
  long-by o b true true v h g = h
  long-by o b true false true h g = g
  long-by o b true false false h g = g
  long-by o b false u v h g = g

  long-step : (o : Open P) (b : ℕ) → length o.kept ≤ ROOM → o.long ≤ ROOM → (step c o b).long ≤ ROOM
  unfolding step
  long-step o b h g = long-by o b (ltb o.bytes MOST) (eqb b LF) (eqb b CR) h g

  long-fed : (o : Open P) (bs : List ℕ) → length o.kept ≤ ROOM → o.long ≤ ROOM → (fed c o bs).long ≤ ROOM
  unfolding fed
  long-fed o [] h g = g
  long-fed o (b ∷ bs) h g = long-fed (step c o b) bs (room-fed c o (b ∷ []) h) (long-step o b h g)

-- ---- all of them

pub record Numbers {P : Type 0} (o : Open P) : Type 0 where
  pub number : o.number ≤ MOST + 1
  pub long : o.long ≤ ROOM
  pub room : length o.kept ≤ ROOM
  pub bytes : o.bytes ≤ MOST + 1

pub numbers-fed : {P : Type 0} (c : P → ℕ → List ℕ → P) (o : Open P) (bs : List ℕ) → Numbers o → Numbers (fed c o bs)
numbers-fed c o bs n = record {
  number = number-fed c o bs n.number;
  long = long-fed c o bs n.room n.long;
  room = room-fed c o bs n.room;
  bytes = most-fed c o bs n.bytes;
}

pub bytes-fed : {P : Type 0} (c : P → ℕ → List ℕ → P) (o : Open P) (bs : List ℕ) → are_bytes bs ≡ true → Bytes o.kept → Bytes (fed c o bs).kept
bytes-fed c o bs e f = bytes-kept c o bs (each_weaken _ _ (λ b h. ltb-true b 256 h) bs (all-each (λ b. ltb b 256) bs e)) f
