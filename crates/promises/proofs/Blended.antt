-- The sources are never blended: what is given is all of one source, because it is given exactly when that source has the elements, and a
-- source is looked at alone. Assumes nothing.
use Prim.Native.Nat.{ℕ}
use mathlib.Core.Path.{◌≡◌, refl, sym, ap, ◌∙◌}
use mathlib.Core.Bool.{true}
use mathlib.Core.List.{List}
use mathlib.Core.Logic.{inl, inr}
use Rattle.layout.specs.Memory.{decode}
use Rattle.layout.specs.Damage.{sound}
use Rattle.globe.specs.Orientation.{orientation_reply}
use Rattle.globe.specs.Radii.{radii_reply}
use Rattle.promises.specs.Calls.{Call, asked, library}
use Rattle.promises.specs.Demands.{AlikeOpen, NeverBlended}
use Rattle.promises.proofs.Said.{closed, state_of, says, query-says, asked-says}
use Rattle.promises.proofs.Held.{state-closed}
use Rattle.promises.proofs.Given.{pool-orientations, table-orientations, pool-radii, table-radii}

-- the answer is that of the same texts with none open
alike : (c : Call) (m m' : List ℕ) → sound m ≡ true → sound m' ≡ true → decode m ≡ decode m' → AlikeOpen c m m' → asked c m ≡ asked c m'
alike c m m' e e' h (inl q) =
    asked-says m e c ∙ query-says c (state_of m) q ∙ ap (λ s. says c (closed s)) h ∙ sym (asked-says m' e' c ∙ query-says c (state_of m') q)
alike c m m' e e' h (inr (o, o')) =
    asked-says m e c ∙ ap (says c) (state-closed m (decode m) refl o ∙ ap closed h ∙ sym (state-closed m' (decode m') refl o')) ∙ sym (asked-says m' e' c)

pub never-blended : NeverBlended library
unfolding asked orientation_reply radii_reply
never-blended =
    record {
      pool_orientations = λ m n epoch o e.
          let h = ((pool-orientations m n epoch o).0 e).1 in
          record { system = h.system; legal = h.legal; whole = h.whole; degree = h.degree; announced = h.announced; evaluation = h.evaluation };
      table_orientations = λ m n epoch o e.
          let h = (table-orientations m n epoch o).0 e in
          record { row = h.row; listed = h.listed; evaluation = h.evaluation };
      pool_radii = λ m n x e. ((pool-radii m n x).0 e).1.three;
      table_radii = λ m n x e. (table-radii m n x).0 e;
      tables = λ m m' n epoch. refl;
      sizes = λ m m' n. refl;
      pools = alike;
    }
