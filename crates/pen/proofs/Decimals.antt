-- A number in decimal is the figures of its tenth part and its last figure. Assumes nothing.
use mathlib.Core.Path.{◌≡◌, refl, ap, sym, ◌∙◌}
use mathlib.Core.Bool.{Bool, true, false}
use mathlib.Core.List.{List, [], ◌∷◌, ◌++◌}
use Prim.Native.Nat.{ℕ, zero, suc, ◌+◌, ◌/◌, ◌%◌, ◌^◌, ◌≤◌, ◌<◌}
use native.Mathlib.Nat.{div-lt_iff_lt-mul, pow-suc}
use native.Mathlib.Omega.{arith}
use borrow.Author.Tests.{lt-ltb, le-ltb}
use lib.Dec.{ltb, lit<}
use Rattle.std.specs.Prelude.{if◌then◌else◌}
use Rattle.plain.specs.Bytes.{ZERO}
use Rattle.pen.specs.Figures.{decimal_up_to, decimal}

-- the last figure of a number
abbrev pub figure : ℕ → List ℕ
figure n = (ZERO + n % 10) ∷ []

-- room for one figure more than there are changes nothing
room-for-more : (k n : ℕ) → n < 10 ^ suc k → decimal_up_to (suc (suc k)) n ≡ decimal_up_to (suc k) n
unfolding decimal_up_to
room-for-more zero n h = rw (lt-ltb n 10 h)
room-for-more (suc k) n h = by (ltb n 10) (room-for-more k (n / 10) ((div-lt_iff_lt-mul (lit< tt)).1 (rw (pow-suc 10 (suc k)) at h)))
  where
    by : (t : Bool) → decimal_up_to (suc (suc k)) (n / 10) ≡ decimal_up_to (suc k) (n / 10)
        → (if t then (ZERO + n) ∷ [] else (decimal_up_to (suc (suc k)) (n / 10) ++ figure n))
        ≡ (if t then (ZERO + n) ∷ [] else (decimal_up_to (suc k) (n / 10) ++ figure n))
    by true r = refl
    by false r = ap (λ (l : List ℕ). l ++ figure n) r

pub decimal-last : (n : ℕ) → n < 10 → decimal n ≡ (ZERO + n) ∷ []
unfolding decimal_up_to
decimal-last n h = rw (lt-ltb n 10 h)

decimal-rest : (k n : ℕ) → 10 ≤ n → decimal_up_to (suc k) n ≡ decimal_up_to k (n / 10) ++ figure n
unfolding decimal_up_to
decimal-rest k n h = rw (le-ltb n 10 h)

pub decimal-more : (n : ℕ) → 10 ≤ n → n < 18446744073709551616 → decimal n ≡ decimal (n / 10) ++ figure n
decimal-more n h l = decimal-rest 19 n h ∙ ap (λ (l : List ℕ). l ++ figure n) (sym (room-for-more 18 (n / 10) (omega arith)))
