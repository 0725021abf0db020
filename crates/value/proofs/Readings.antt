-- A value that is a fault is refused as its reading says: the fault's refusal is the one that the reading carries. Assumes nothing.
use Prim.Native.Nat.{ℕ}
use native.Mathlib.Omega.{arith}
use mathlib.Core.Path.{◌≡◌, ap, ◌∙◌}
use mathlib.Core.Logic.{◌⊎◌, inl, inr}
use mathlib.Core.List.{List}
use Rattle.decimal.specs.Class.{reading}
use Rattle.decimal.specs.declared.Reading.{Reading}
use Rattle.decimal.specs.declared.Reading.TheVariants as D
use Rattle.decimal.proofs.Refused.{Carries, carried}
use Rattle.std.specs.Prelude.{Err}
use Rattle.value.specs.Faults.{faulty, refusal_of}
use Rattle.value.specs.Value.{told}
use Rattle.value.specs.declared.faults.Fault.{Fault}
use Rattle.value.specs.declared.faults.Fault.TheVariants as F
use Rattle.value.specs.declared.faults.LineFault.{LineFault}

pub told-refusal : (bs : List ℕ) (i end k : ℕ) (q : Fault) → told (reading bs) i end ≡ Err (faulty q k)
    → (reading bs ≡ D.BadForm (refusal_of q)) ⊎ (reading bs ≡ D.OutsideClass (refusal_of q))
told-refusal bs i end k q = by (reading bs) (carried bs)
  where
    by : (v : Reading) → Carries v → told v i end ≡ Err (faulty q k) → (v ≡ D.BadForm (refusal_of q)) ⊎ (v ≡ D.OutsideClass (refusal_of q))
    by (D.Number x) c e = absurd (let z : ◌≡◌ {A = ℕ} 0 1 = cc in omega arith)
    by (D.BadForm r) c e = let g : faulty F.BadValue i ≡ faulty q k = cc in let f : F.BadValue ≡ q = ap (λ (r : LineFault). r.fault) g in inl (ap D.BadForm (c ∙ ap refusal_of f))
    by (D.OutsideClass r) c e = let g : faulty F.OutsideClass i ≡ faulty q k = cc in let f : F.OutsideClass ≡ q = ap (λ (r : LineFault). r.fault) g in inr (ap D.OutsideClass (c ∙ ap refusal_of f))
