-- Demand 2: each call's part of it, put together; right ascension and meridian are in range because every orientation that is given is an
-- evaluation. Assumes nothing.
use Prim.Native.Nat.{ℕ}
use mathlib.Core.Path.{◌≡◌, ap, sym, subst}
use mathlib.Core.Bool.{true}
use mathlib.Core.List.{List}
use mathlib.Core.Logic.{◌↔◌}
use lib.Ieee.{Float}
use Rattle.std.specs.Prelude.{Some, Result, Ok}
use Rattle.rotation.specs.Range.{InRange}
use Rattle.rotation.specs.declared.matrix.Orientation.{Orientation}
use Rattle.rotation.specs.declared.table.Axes.{Axes}
use Rattle.rotation.specs.Table.{size_of}
use Rattle.rotation.proofs.Range.{evaluated-in-range}
use Rattle.rotation.proofs.Answers.{builtin-in-range}
use Rattle.layout.specs.Memory.{decode}
use Rattle.layout.specs.Damage.{sound}
use Rattle.globe.specs.Orientation.{orientation_reply}
use Rattle.globe.specs.declared.source.Source.{Source}
use Rattle.globe.specs.declared.source.Source.TheVariants as S
use Rattle.promises.specs.Calls.{orientation, radii, oriented, measured, asked, library}
use Rattle.promises.specs.Demands.{HasElements, HasRow, HasRadii, Demand2}
use Rattle.promises.proofs.Accepted.{accepted-exactly}
use Rattle.promises.proofs.Parts.{accepted-in-parts}
use Rattle.promises.proofs.Oriented as P
use Rattle.refusal.specs.declared.Refusal.{Refusal}
use Rattle.promises.proofs.Measured as Q

-- an answer is an orientation's exactly when the orientations are equal
same-orientation : (r r' : Result Orientation Refusal) → (oriented r ≡ oriented r') → r ≡ r'
same-orientation r r' e = cc

same-radii : (r r' : Result Axes Refusal) → (measured r ≡ measured r') → r ≡ r'
same-radii r r' e = cc

pub in-range : (source : Source) (m : List ℕ) (n : ℕ) (epoch : Float) (o : Orientation) → orientation_reply source m n epoch ≡ Ok o → InRange o
unfolding orientation_reply
in-range S.Builtin m n epoch o e = builtin-in-range n epoch o e
in-range S.Pool m n epoch o e =
    let h = ((P.given-exactly m n epoch o).0 e).1 in
    subst InRange (sym h.evaluation) (evaluated-in-range _ epoch _ _ _ _ _)

module _ (m : List ℕ) (n : ℕ) (epoch : Float) (o : Orientation) where
  pub pool-orientations : (asked (orientation S.Pool n epoch) m ≡ oriented (Ok o)) ↔ ((sound m ≡ true) × HasElements (decode m) n epoch o)
  unfolding asked
  pool-orientations = let p = P.given-exactly m n epoch o in (λ e. p.0 (same-orientation _ _ e), λ h. ap oriented (p.1 h))

  pub table-orientations : (asked (orientation S.Builtin n epoch) m ≡ oriented (Ok o)) ↔ HasRow n epoch o
  unfolding asked
  table-orientations = let p = P.builtin-exactly m n epoch o in (λ e. p.0 (same-orientation _ _ e), λ h. ap oriented (p.1 h))

module _ (m : List ℕ) (n : ℕ) (x : Axes) where
  pub pool-radii : (asked (radii S.Pool n) m ≡ measured (Ok x)) ↔ ((sound m ≡ true) × HasRadii (decode m) n x)
  unfolding asked
  pool-radii = let p = Q.measured-exactly m n x in (λ e. p.0 (same-radii _ _ e), λ h. ap measured (p.1 h))

  pub table-radii : (asked (radii S.Builtin n) m ≡ measured (Ok x)) ↔ (size_of n ≡ Some x)
  unfolding asked
  table-radii = let p = Q.builtin-exactly m n x in (λ e. p.0 (same-radii _ _ e), λ h. ap measured (p.1 h))

pub demand-2 : Demand2 library
unfolding asked
demand-2 = record {
  texts = accepted-exactly;
  texts_in_parts = accepted-in-parts;
  pool_orientations = pool-orientations;
  table_orientations = table-orientations;
  pool_radii = pool-radii;
  table_radii = table-radii;
  ranges = λ source m n epoch o e. in-range source m n epoch o (same-orientation _ _ e);
}
