-- What holds of every row at an epoch in reach holds of every orientation that the built-in source gives. Assumes nothing.
use mathlib.Core.Path.{◌≡◌, refl, subst}
use mathlib.Core.Bool.{Bool, true, false}
use Prim.Native.Nat.{ℕ}
use native.Mathlib.Omega.{arith}
use lib.Ieee.{Float}
use Rattle.std.specs.Prelude.{Option, Some, None, Result, Ok, Err, if◌then◌else◌}
use Rattle.refusal.specs.declared.Refusal.{Refusal}
use Rattle.refusal.specs.declared.Refusal.TheVariants as R
use Rattle.rotation.specs.Epochs.{in_reach}
use Rattle.rotation.specs.Codes.{system_of}
use Rattle.rotation.specs.Table.{row_of}
use Rattle.rotation.specs.Builtin.{row_evaluated, by_row, by_system, builtin_orientation}
use Rattle.rotation.specs.declared.elements.Elements.{Elements}
use Rattle.rotation.specs.declared.matrix.Orientation.{Orientation}

module _ (P : Orientation → Type 0) (n : ℕ) (epoch : Float) (o : Orientation) where
  refused : {r : Refusal} → ◌≡◌ {A = Result Orientation Refusal} (Err r) (Ok o) → P o
  refused h = let z : ◌≡◌ {A = ℕ} 0 1 = cc in absurd (omega arith)

  by-row : ((e : Elements) → row_of n ≡ Some e → P (row_evaluated n e epoch)) → (r : Option Elements) → row_of n ≡ r → by_row n epoch r ≡ Ok o → P o
  by-row each (Some e) k h = let same : row_evaluated n e epoch ≡ o = cc in subst P same (each e k)
  by-row each None k h = refused h

  by-system : ((e : Elements) → row_of n ≡ Some e → P (row_evaluated n e epoch)) → (s : Option ℕ) → by_system n epoch s ≡ Ok o → P o
  by-system each (Some s) h = by-row each (row_of n) refl h
  by-system each None h = refused h

  by-reach : (b : Bool) → (b ≡ true → (e : Elements) → row_of n ≡ Some e → P (row_evaluated n e epoch))
      → (if b then by_system n epoch (system_of n) else Err R.Epoch) ≡ Ok o → P o
  by-reach true each h = by-system (each refl) (system_of n) h
  by-reach false each h = refused h

  pub of-given : (in_reach epoch ≡ true → (e : Elements) → row_of n ≡ Some e → P (row_evaluated n e epoch)) → builtin_orientation n epoch ≡ Ok o → P o
  unfolding builtin_orientation
  of-given each h = by-reach (in_reach epoch) each h
