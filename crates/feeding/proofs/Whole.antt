-- A text that is fed comes to what its lines come to, one after the other, wherever it begins: a byte at a time. Assumes nothing.
use Prim.Native.Nat.{ℕ, ◌+◌, ◌≤◌}
use native.Mathlib.Omega.{arith}
use mathlib.Core.Path.{◌≡◌, refl, sym, ap, ◌∙◌}
use mathlib.Core.List.{List, [], ◌∷◌}
use lib.ListN.{length}
use Rattle.text.specs.Lines.{lines}
use Rattle.feeding.specs.Kept.{ROOM}
use Rattle.feeding.specs.Parts.{MOST, Open, opening, taken, fed, lastly, folded}
use Rattle.feeding.proofs.Keeping.{Squeezes}
use Rattle.feeding.proofs.Going.{front, reading, more-is, read_byte, read-end}
use Rattle.feeding.proofs.Counting.{bytes-taken, number-taken, room-taken, step-within}

-- these bytes may still come within the limits
pub record Within {P : Type 0} (o : Open P) (rest : List ℕ) : Type 0 where
  pub room : length o.kept ≤ ROOM
  pub number : o.number + length rest ≤ MOST
  pub bytes : o.bytes + length rest ≤ MOST

module _ {P : Type 0} (complete : P → ℕ → List ℕ → P) (s : Squeezes complete) where
  -- from any open text on
  pub fed-reads : (o : Open P) (rest : List ℕ) → Within o rest → lastly complete (fed complete o rest) ≡ reading complete o rest
  unfolding fed
  fed-reads o [] w = sym (read-end complete s o w.room (omega arith))
  fed-reads o (b ∷ bs) w =
      ap (λ (x : Open P). lastly complete (fed complete x bs)) (step-within complete o b (omega arith))
      ∙ fed-reads (taken complete o b) bs within
      ∙ sym (read_byte complete s o b bs w.room (omega arith))
    where
      within : Within (taken complete o b) bs
      within =
          record {
            room = room-taken complete o b w.room;
            number = omega (arith, number-taken complete o b (omega arith));
            bytes = omega (arith, bytes-taken complete o b ∙ more-is o.bytes (omega arith));
          }

  -- from the opening on
  pub fed-lines : (p : P) (text : List ℕ) → length text ≤ MOST
      → lastly complete (fed complete (opening p) text) ≡ folded complete p 0 0 (lines text)
  fed-lines p text h = fed-reads (opening p) text (record { room = omega arith; number = omega arith; bytes = omega arith }) ∙ by (lines text)
    where
      by : (ls : List (List ℕ)) → folded complete p 0 0 (front [] ls) ≡ folded complete p 0 0 ls
      by [] = refl
      by (l ∷ ls) = refl
