-- Radii are given exactly when the source has three values, those of a pool each above 0, and are these: the call's tests, in their order, are
-- the record's fields. Assumes nothing.
use Prim.Native.Nat.{ℕ}
use native.Mathlib.Omega.{arith}
use mathlib.Core.Path.{◌≡◌, refl, subst}
use mathlib.Core.Bool.{Bool, true, false}
use mathlib.Core.List.{List, [], ◌∷◌}
use mathlib.Core.Logic.{◌↔◌}
use borrow.Author.Tests.{eqb-true}
use lib.Dec.{eqb}
use lib.Ieee.{Float}
use lib.ListN.{length}
use Rattle.std.specs.Prelude.{if◌then◌else◌, Option, Some, None, Ok, Err}
use Rattle.refusal.specs.declared.Refusal.{Refusal}
use Rattle.refusal.specs.declared.Refusal.TheVariants as Q
use Rattle.rotation.specs.Codes.{system_of}
use Rattle.rotation.specs.Table.{size_of}
use Rattle.rotation.specs.Builtin.{by_size, builtin_radii}
use Rattle.rotation.specs.declared.table.Axes.{Axes}
use Rattle.layout.specs.State.{Pool}
use Rattle.layout.specs.Memory.{decode}
use Rattle.layout.specs.Damage.{sound}
use Rattle.wanted.specs.Elements.{there, numeric, list}
use Rattle.globe.specs.Radii.{axes, all_positive, admitted, by_system, radii_from, radii_reply}
use Rattle.wanted.specs.declared.name.Wanted.TheVariants as W
use Rattle.globe.specs.declared.source.Source.TheVariants as S
use Rattle.promises.specs.Demands.{HasRadii}

never : {X : Type 0} {q : Refusal} {x : Axes} → Err q ≡ Ok x → X
never e = absurd (let z : ◌≡◌ {A = ℕ} 0 1 = cc in omega arith)

-- three values are their axes
three-axes : (xs : List Float) (x : Axes) → length xs ≡ 3 → axes xs ≡ x → xs ≡ x.a ∷ x.b ∷ x.c ∷ []
three-axes [] x l e = absurd (omega arith)
three-axes (p ∷ []) x l e = absurd (omega arith)
three-axes (p ∷ q ∷ []) x l e = absurd (omega arith)
three-axes (p ∷ q ∷ r ∷ []) x l e = rw (← e) refl
three-axes (p ∷ q ∷ r ∷ t ∷ xs) x l e = absurd (omega arith)

-- axes that are admitted are above 0
by_sign : (y x : Axes) → admitted y ≡ Ok x → (y ≡ x) × (all_positive x ≡ true)
by_sign y x e = by (all_positive y) refl e
  where
    by : (b : Bool) → all_positive y ≡ b → (if b then Ok y else Err Q.BadRadius) ≡ Ok x → (y ≡ x) × (all_positive x ≡ true)
    by true u h = let z : y ≡ x = cc in (z, subst (λ (v : Axes). all_positive v ≡ true) z u)
    by false u h = never h

-- ---- from a pool

module _ (s : Pool) (n : ℕ) (x : Axes) where
  by_count : (k : ℕ) (a b : Bool) → numeric s n W.Radii ≡ a → eqb (length (list s n W.Radii)) 3 ≡ b → system_of n ≡ Some k → there s n W.Radii ≡ true
      → (if a then (if b then admitted (axes (list s n W.Radii)) else Err Q.WrongCount) else Err Q.MixedKind) ≡ Ok x → HasRadii s n x
  by_count k true true u w l t e =
      let y = by_sign (axes (list s n W.Radii)) x e in
      record {
        system = k;
        legal = l;
        some = t;
        kinds = u;
        three = three-axes (list s n W.Radii) x (eqb-true (length (list s n W.Radii)) 3 w) y.0;
        above = y.1;
      }
  by_count k true false u w l t e = never e
  by_count k false b u w l t e = never e

  by-presence : (k : ℕ) (b : Bool) → there s n W.Radii ≡ b → system_of n ≡ Some k
      → (if b
      then (if numeric s n W.Radii
      then (if eqb (length (list s n W.Radii)) 3 then admitted (axes (list s n W.Radii)) else Err Q.WrongCount)
      else Err Q.MixedKind)
      else Err Q.UnknownBody)
      ≡ Ok x
      → HasRadii s n x
  by-presence k true t l e = by_count k (numeric s n W.Radii) (eqb (length (list s n W.Radii)) 3) refl refl l t e
  by-presence k false t l e = never e

  by_code : (y : Option ℕ) → system_of n ≡ y → by_system s n y ≡ Ok x → HasRadii s n x
  by_code (Some k) l e = by-presence k (there s n W.Radii) refl l e
  by_code None l e = never e

  has-radii : radii_from s n ≡ Ok x → HasRadii s n x
  unfolding radii_from
  has-radii e = by_code (system_of n) refl e

  given-radii : HasRadii s n x → radii_from s n ≡ Ok x
  unfolding radii_from
  given-radii h = rw (h.legal, h.some, h.kinds, h.three, h.above) refl

module _ (m : List ℕ) (n : ℕ) (x : Axes) where
  by-damage : (b : Bool) → sound m ≡ b → (if b then radii_from (decode m) n else Err Q.DamagedPool) ≡ Ok x
      → (sound m ≡ true) × HasRadii (decode m) n x
  by-damage true u e = (u, has-radii (decode m) n x e)
  by-damage false u e = never e

  pub measured-exactly : (radii_reply S.Pool m n ≡ Ok x) ↔ ((sound m ≡ true) × HasRadii (decode m) n x)
  unfolding radii_reply
  measured-exactly = (λ e. by-damage (sound m) refl e, λ h. rw h.0 (given-radii (decode m) n x h.1))

-- ---- from the built-in table

by-size : (y : Option Axes) (x : Axes) → by_size y ≡ Ok x → y ≡ Some x
by-size (Some z) x e = cc
by-size None x e = never e

pub builtin-exactly : (m : List ℕ) (n : ℕ) (x : Axes) → (radii_reply S.Builtin m n ≡ Ok x) ↔ (size_of n ≡ Some x)
unfolding radii_reply builtin_radii
builtin-exactly m n x = (λ e. by-size (size_of n) x e, λ h. rw h)
