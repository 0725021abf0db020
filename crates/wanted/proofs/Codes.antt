-- A code that has a system has three figures at most, and so has its system. Assumes nothing.
use mathlib.Core.Path.{◌≡◌, refl}
use mathlib.Core.Bool.{Bool, true, false}
use Prim.Native.Nat.{ℕ, ◌/◌, ◌≤◌}
use native.Mathlib.Omega.{arith}
use borrow.Author.Tests.{leb-true}
use lib.Dec.{leb}
use Rattle.std.specs.Prelude.{if◌then◌else◌, Some, None}
use Rattle.plain.specs.Bytes.{within}
use Rattle.rotation.specs.Codes.{system_of}
use Rattle.plain.proofs.Tests.{both}
use Rattle.wanted.specs.Names.{LARGEST}

within-most : (low high n : ℕ) → within low high n ≡ true → n ≤ high
within-most low high n e = leb-true n high (both (leb low n) (leb n high) e).1

pub short-code : (n k : ℕ) → Some k ≡ system_of n → (n ≤ LARGEST) × (k ≤ LARGEST)
unfolding system_of
short-code n k e = by (within 1 10 n) (within 100 999 n) refl refl e
  where
    by : (a b : Bool) → within 1 10 n ≡ a → within 100 999 n ≡ b → Some k ≡ (if a then Some n else (if b then Some (n / 100) else None))
        → (n ≤ LARGEST) × (k ≤ LARGEST)
    by true b f g h = let l = within-most 1 10 n f in let z : k ≡ n = cc in (omega arith, omega arith)
    by false true f g h = let l = within-most 100 999 n g in let z : k ≡ n / 100 = cc in (omega arith, omega arith)
    by false false f g h = absurd (let z : ◌≡◌ {A = ℕ} 0 1 = cc in omega arith)
