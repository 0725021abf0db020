-- Two writings with a byte between them are the writing of all three. Assumes nothing.
use mathlib.Core.List.{List, [], ◌∷◌, ◌++◌}
use Prim.Native.Nat.{ℕ}
use Rattle.words.specs.Placed.{Writes}
use Rattle.words.proofs.Placed.{writes_then}

pub writes-three : {at r s t : ℕ} (xs : List ℕ) (b : ℕ) (ys : List ℕ) {m n o p : List ℕ}
    → Writes at xs m r n → Writes r (b ∷ []) n s o → Writes s ys o t p → Writes at (xs ++ (b ∷ ys)) m t p
writes-three xs b ys w v u = writes_then xs (b ∷ ys) w (writes_then (b ∷ []) ys v u)
