-- An orientation is given exactly when the source has the elements: the call's tests, in their order, are the record's fields, and the
-- answer is the evaluation. Assumes nothing.
use Prim.Native.Nat.{ℕ}
use native.Mathlib.Omega.{arith}
use mathlib.Core.Path.{◌≡◌, refl}
use mathlib.Core.Bool.{Bool, true, false}
use mathlib.Core.List.{List}
use mathlib.Core.Logic.{◌↔◌}
use lib.Ieee.{Float}
use Rattle.std.specs.Prelude.{if◌then◌else◌, Option, Some, None, Result, Ok, Err}
use Rattle.refusal.specs.declared.Refusal.{Refusal}
use Rattle.refusal.specs.declared.Refusal.TheVariants as Q
use Rattle.rotation.specs.declared.elements.Elements.{Elements}
use Rattle.rotation.specs.Epochs.{in_reach}
use Rattle.rotation.specs.Codes.{system_of}
use Rattle.rotation.specs.Evaluation.{evaluated}
use Rattle.rotation.specs.Table.{row_of}
use Rattle.rotation.specs.Builtin.{by_row, by_system, builtin_orientation}
use Rattle.rotation.specs.declared.matrix.Orientation.{Orientation}
use Rattle.layout.specs.State.{Pool}
use Rattle.layout.specs.Memory.{decode}
use Rattle.layout.specs.Damage.{sound}
use Rattle.wanted.specs.Elements.{none_there, complete, all_numeric, well_counted, elements, angles, list}
use Rattle.degree.specs.Degree.{degree}
use Rattle.globe.specs.Orientation.{by_degree, by_elements, orientation_from, orientation_reply}
use Rattle.wanted.specs.declared.name.Wanted.TheVariants as W
use Rattle.globe.specs.declared.source.Source.TheVariants as S
use Rattle.promises.specs.Demands.{HasElements, HasRow}

never : {X : Type 0} {q : Refusal} {o : Orientation} → Err q ≡ Ok o → X
never e = absurd (let z : ◌≡◌ {A = ℕ} 0 1 = cc in omega arith)

same : (o o' : Orientation) → ◌≡◌ {A = Result Orientation Refusal} (Ok o) (Ok o') → o' ≡ o
same o o' e = cc

-- ---- from a pool

module _ (s : Pool) (n : ℕ) (epoch : Float) (o : Orientation) where
  -- the answer where nothing is wrong
  value : (k d : ℕ) → Orientation
  value k d = evaluated (elements s n) epoch d (angles s n k) (list s n W.NutPrecRa) (list s n W.NutPrecDec) (list s n W.NutPrecPm)

  by_count : (k d : ℕ) (a b : Bool) → all_numeric s n k ≡ a → well_counted s n k d ≡ b → in_reach epoch ≡ true → system_of n ≡ Some k → none_there s n ≡ false
      → complete s n k ≡ true → degree s n k ≡ Some d
      → (if a then (if b then Ok (value k d) else Err Q.WrongCount) else Err Q.MixedKind) ≡ Ok o → HasElements s n epoch o
  unfolding value
  by_count k d true true x w r l p c g e =
      record { reach = r; system = k; legal = l; some = p; whole = c; degree = d; announced = g; kinds = x; counts = w; evaluation = same _ o e }
  by_count k d true false x w r l p c g e = never e
  by_count k d false b x w r l p c g e = never e

  by-degree : (k : ℕ) (g : Option ℕ) → degree s n k ≡ g → in_reach epoch ≡ true → system_of n ≡ Some k → none_there s n ≡ false → complete s n k ≡ true
      → by_degree s n k epoch g ≡ Ok o → HasElements s n epoch o
  unfolding value
  by-degree k (Some d) g r l p c e = by_count k d (all_numeric s n k) (well_counted s n k d) refl refl r l p c g e
  by-degree k None g r l p c e = never e

  by-presence : (k : ℕ) (b c : Bool) → none_there s n ≡ b → complete s n k ≡ c → in_reach epoch ≡ true → system_of n ≡ Some k
      → (if b then Err Q.UnknownBody else (if c then by_degree s n k epoch (degree s n k) else Err Q.Incomplete)) ≡ Ok o
      → HasElements s n epoch o
  by-presence k true c p q r l e = never e
  by-presence k false true p q r l e = by-degree k (degree s n k) refl r l p q e
  by-presence k false false p q r l e = never e

  by_code : (x : Option ℕ) → system_of n ≡ x → in_reach epoch ≡ true → by_elements s n epoch x ≡ Ok o → HasElements s n epoch o
  by_code (Some k) l r e = by-presence k (none_there s n) (complete s n k) refl refl r l e
  by_code None l r e = never e

  by-reach : (b : Bool) → in_reach epoch ≡ b → (if b then by_elements s n epoch (system_of n) else Err Q.Epoch) ≡ Ok o → HasElements s n epoch o
  by-reach true r e = by_code (system_of n) refl r e
  by-reach false r e = never e

  has-elements : orientation_from s n epoch ≡ Ok o → HasElements s n epoch o
  unfolding orientation_from
  has-elements e = by-reach (in_reach epoch) refl e

  given-elements : HasElements s n epoch o → orientation_from s n epoch ≡ Ok o
  unfolding orientation_from
  given-elements h = rw (h.reach, h.legal, h.some, h.whole, h.announced, h.kinds, h.counts, h.evaluation) refl

module _ (m : List ℕ) (n : ℕ) (epoch : Float) (o : Orientation) where
  by-damage : (b : Bool) → sound m ≡ b → (if b then orientation_from (decode m) n epoch else Err Q.DamagedPool) ≡ Ok o
      → (sound m ≡ true) × HasElements (decode m) n epoch o
  by-damage true u e = (u, has-elements (decode m) n epoch o e)
  by-damage false u e = never e

  pub given-exactly : (orientation_reply S.Pool m n epoch ≡ Ok o) ↔ ((sound m ≡ true) × HasElements (decode m) n epoch o)
  unfolding orientation_reply
  given-exactly = (λ e. by-damage (sound m) refl e, λ h. rw h.0 (given-elements (decode m) n epoch o h.1))

-- ---- from the built-in table

module _ (n : ℕ) (epoch : Float) (o : Orientation) where
  by-row : (k : ℕ) (x : Option Elements) → row_of n ≡ x → in_reach epoch ≡ true → system_of n ≡ Some k → by_row n epoch x ≡ Ok o → HasRow n epoch o
  by-row k (Some row) w r l e = record { reach = r; system = k; legal = l; row = row; listed = w; evaluation = same _ o e }
  by-row k None w r l e = never e

  row-by-code : (x : Option ℕ) → system_of n ≡ x → in_reach epoch ≡ true → by_system n epoch x ≡ Ok o → HasRow n epoch o
  row-by-code (Some k) l r e = by-row k (row_of n) refl r l e
  row-by-code None l r e = never e

  row-by-reach : (b : Bool) → in_reach epoch ≡ b → (if b then by_system n epoch (system_of n) else Err Q.Epoch) ≡ Ok o → HasRow n epoch o
  row-by-reach true r e = row-by-code (system_of n) refl r e
  row-by-reach false r e = never e

  has-row : builtin_orientation n epoch ≡ Ok o → HasRow n epoch o
  unfolding builtin_orientation
  has-row e = row-by-reach (in_reach epoch) refl e

  given-row : HasRow n epoch o → builtin_orientation n epoch ≡ Ok o
  unfolding builtin_orientation
  given-row h = rw (h.reach, h.legal, h.listed, h.evaluation) refl

pub builtin-exactly : (m : List ℕ) (n : ℕ) (epoch : Float) (o : Orientation) → (orientation_reply S.Builtin m n epoch ≡ Ok o) ↔ HasRow n epoch o
unfolding orientation_reply
builtin-exactly m n epoch o = (has-row n epoch o, given-row n epoch o)
