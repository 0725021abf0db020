-- `five` meets its contract: what it has, times the square to the binary digits that are left of k, is always 5^k. Assumes nothing.
use Prim.Native.Nat.{ℕ, zero, suc, ◌+◌, ◌*◌, ◌/◌, ◌%◌, ◌^◌, ◌≤◌, ◌<◌}
use mathlib.Core.Path.{◌≡◌, refl, ap, ◌∙◌}
use native.Mathlib.Nat.{le_trans, le_of_eq, lt_of_le_of_lt, one-le-pow, one-mul, mul_assoc, mul-mul-mul_comm, le-mul_of_pos_right, mul-pos, pow-zero, pow-suc, pow-le-pow_right}
use native.Mathlib.Omega.{arith}
use lib.Dec.{lit<}
use lib.Pow.{pow-add}
use Rattle.rounding.specs.Exact.{STEEPEST}
use Rattle.rounding.proofs.Tens.five.Goals as goal

pow-square : (b i : ℕ) → (b * b) ^ i ≡ b ^ i * b ^ i
pow-square b zero = simp pow-zero
pow-square b (suc i) = rw (pow-suc (b * b) i, pow-suc b i, pow-square b i) (mul-mul-mul_comm (b ^ i) (b ^ i) b b)

pow-digit : (b i : ℕ) → b ^ (i % 2) * (b * b) ^ (i / 2) ≡ b ^ i
pow-digit b i =
    let e : i % 2 + (i / 2 + i / 2) ≡ i = omega arith in
    rw (pow-square b (i / 2), ← pow-add b (i / 2) (i / 2), ← pow-add b (i % 2) (i / 2 + i / 2), e)

-- of 5^k, n is there and b^i is to come
abbrev Left : (k n b i : ℕ) → Type 0
Left k n b i = n * b ^ i ≡ 5 ^ k

module _ (k n b i : ℕ) (l : Left k n b i) where
  next : (r j : ℕ) → r ≡ n * b ^ (i % 2) → i / 2 ≡ j → Left k r (b * b) j
  next r j e f = rw (← f, e, mul_assoc n, pow-digit b i) l

  fits : 0 < b → k ≤ STEEPEST → n * b ^ (i % 2) < 2 ^ 64
  fits B K =
      let m : n * b ^ (i % 2) ≤ 5 ^ k =
      le_trans (le-mul_of_pos_right (n * b ^ (i % 2)) (one-le-pow (i / 2) (b * b) (mul-pos B B))) (le_of_eq (next (n * b ^ (i % 2)) (i / 2) refl refl)) in
      lt_of_le_of_lt (le_trans m (pow-le-pow_right (lit< tt) K)) (lit< tt)

first : (k : ℕ) → Left k 1 5 k
first k = one-mul (5 ^ k)

second : (c : goal.After-square-n) → let k = c.args.self.k in Left k c.square-n.result 25 (k / 2)
second c = next _ 1 5 _ (first _) _ _ c.square-n.ensures refl

third : (c : goal.After-square-n-2) → let k = c.args.self.k in Left k c.square-n-2.result 625 (k / 4)
third c = next _ _ 25 _ (second c.before) _ _ c.square-n-2.ensures (omega arith)

fourth : (c : goal.After-square-n-3) → let k = c.args.self.k in Left k c.square-n-3.result 390625 (k / 8)
fourth c = next _ _ 625 _ (third c.before) _ _ c.square-n-3.ensures (omega arith)

fifth : (c : goal.After-square-n-4) → let k = c.args.self.k in Left k c.square-n-4.result 152587890625 (k / 16)
fifth c = next _ _ 390625 _ (fourth c.before) _ _ c.square-n-4.ensures (omega arith)

pub square-n-requires : goal.square-n-requires
square-n-requires c = fits c.args.self.k 1 5 c.args.self.k (first c.args.self.k) (lit< tt) c.args.self.small

pub square-n-requires-2 : goal.square-n-requires-2
square-n-requires-2 c = fits _ _ 25 _ (second c) (lit< tt) c.args.self.small

pub square-n-requires-3 : goal.square-n-requires-3
square-n-requires-3 c = fits _ _ 625 _ (third c) (lit< tt) c.args.self.small

pub square-n-requires-4 : goal.square-n-requires-4
square-n-requires-4 c = fits _ _ 390625 _ (fourth c) (lit< tt) c.args.self.small

pub square-requires : goal.square-requires
square-requires c = fits _ _ 152587890625 _ (fifth c) (lit< tt) c.args.self.small

-- of the fifth digit nothing is left
pub returns : goal.returns
returns c =
    let e : c.args.self.k / 16 % 2 ≡ c.args.self.k / 16 = omega (arith, c.args.self.small) in
    c.square.ensures ∙ ap (λ (i : ℕ). c.square-n-4.result * 152587890625 ^ i) e ∙ fifth c.before
