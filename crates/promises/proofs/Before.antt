-- Where the degree is 1 every orientation is answered as before degrees were read: an even count is one of whole groups of two, and an angle
-- is a + T·b. Assumes nothing.
use Prim.Native.Nat.{ℕ, ◌*◌, ◌/◌, ◌%◌, ◌≤◌, ◌<◌, max}
use native.Mathlib.Omega.{arith}
use mathlib.Core.Path.{◌≡◌, refl, ap}
use mathlib.Core.Bool.{Bool, true, false}
use borrow.Author.Tests.{le-leb, lt-leb, leb-true, leb-false, eqb-true}
use lib.Dec.{leb, eqb}
use lib.Ieee.{Float}
use Rattle.std.specs.Prelude.{Option, Some, None}
use Rattle.rotation.specs.Elements.{LINEAR}
use Rattle.rotation.specs.Codes.{system_of}
use Rattle.rotation.proofs.Before.{linear-as-before}
use Rattle.layout.specs.State.{Pool}
use Rattle.layout.specs.Memory.{decode}
use Rattle.wanted.specs.Elements.{there, nutating, enough_groups}
use Rattle.wanted.specs.declared.name.Wanted.TheVariants as W
use Rattle.degree.specs.Degree.{degree, degree_where}
use Rattle.globe.specs.Orientation.{by_elements, orientation_from, orientation_reply}
use Rattle.promises.specs.Calls.{asked, library, oriented}
use Rattle.promises.specs.Before.{even_angles, by_elements_before, orientation_before, unannounced, AsBefore}

-- ---- groups of two

module _ (a : ℕ) (even : a % 2 ≡ 0) where
  few-pairs : leb (a / 2) 32 ≡ leb a 64
  few-pairs = by (leb a 64) refl
    where
      by : (b : Bool) → leb a 64 ≡ b → leb (a / 2) 32 ≡ b
      by true e = let h : a ≤ 64 = leb-true _ _ e in le-leb (a / 2) 32 (omega arith)
      by false e = let h : 64 < a = leb-false _ _ e in lt-leb (a / 2) 32 (omega arith)

  enough-pairs : (m : ℕ) → leb m (a / 2) ≡ leb (2 * m) a
  enough-pairs m = by (leb (2 * m) a) refl
    where
      by : (b : Bool) → leb (2 * m) a ≡ b → leb m (a / 2) ≡ b
      by true e = let h : 2 * m ≤ a = leb-true _ _ e in le-leb m (a / 2) (omega arith)
      by false e = let h : a < 2 * m = leb-false _ _ e in lt-leb m (a / 2) (omega arith)

even-groups : (a x y z : ℕ) → enough_groups LINEAR a x y z ≡ even_angles a x y z
even-groups a x y z = by (eqb (a % 2) 0) refl
  where
    by : (b : Bool) → eqb (a % 2) 0 ≡ b → enough_groups LINEAR a x y z ≡ even_angles a x y z
    by true e = let h = eqb-true (a % 2) 0 e in rw (few-pairs a h, enough-pairs a h (max x (max y z)))
    by false e = rw e

-- ---- the answer

module _ (s : Pool) (n : ℕ) (epoch : Float) where
  linear-elements : (k : ℕ) → degree s n k ≡ Some LINEAR → by_elements s n epoch (Some k) ≡ by_elements_before s n epoch (Some k)
  linear-elements k e = simp (e, even-groups, linear-as-before.orientations)

  -- a system that announces none has degree 1
  none-linear : (k : ℕ) (b : Bool) → there s k W.MaxPhaseDegree ≡ false → degree_where b s k ≡ Some LINEAR
  unfolding degree_where
  none-linear k true e = rw e
  none-linear k false e = refl

  by-system : (x : Option ℕ) → unannounced s x → by_elements s n epoch x ≡ by_elements_before s n epoch x
  by-system (Some k) e = linear-elements k (none-linear k (nutating s n) e)
  by-system None e = refl

pub as_before : AsBefore library
unfolding asked orientation_reply orientation_from orientation_before
as_before =
    record {
      absent = λ m n epoch h e. ap oriented (rw (h, by-system (decode m) n epoch (system_of n) e));
      linear = λ m n k epoch h l e. ap oriented (rw (h, l, linear-elements (decode m) n epoch k e));
    }
