-- A mask tells a class where their tests agree at each of the 256 bytes, which is computed. Assumes nothing.
use Prim.Native.Nat.{ℕ, zero, suc, ◌<◌}
use native.Mathlib.Nat.{not-suc-le-zero}
use native.Mathlib.Omega.{arith}
use mathlib.Core.Path.{◌≡◌, refl, sym}
use mathlib.Core.Bool.{Bool, true, false, ◌&&◌, beq, false≢true}
use borrow.Author.Tests.{eqb-true, eqb-false}
use lib.Dec.{eqb}
use Rattle.value.specs.Classes.{is}
use Rattle.value.specs.Masks.{bit, Tells}
use Rattle.value.specs.declared.classes.Class.{Class}
use Rattle.value.specs.declared.classes.Mask.{Mask}

-- two tests agree at each number below n
abbrev pub agreeing : (f g : ℕ → Bool) (n : ℕ) → Bool
agreeing f g zero = true
agreeing f g (suc n) = beq (f n) (g n) && agreeing f g n

equal : (x y t : Bool) → beq x y && t ≡ true → x ≡ y
equal true true t e = refl
equal true false t e = sym e
equal false true t e = e
equal false false t e = refl

further : (x t : Bool) → x && t ≡ true → t ≡ true
further true t e = e
further false t e = absurd (false≢true e)

pub agree : (f g : ℕ → Bool) (n : ℕ) → agreeing f g n ≡ true → (b : ℕ) → b < n → f b ≡ g b
agree f g zero e b h = absurd (not-suc-le-zero h)
agree f g (suc n) e b h = by (eqb b n) refl (agree f g n (further (beq (f n) (g n)) (agreeing f g n) e) b)
  where
    by : (t : Bool) → eqb b n ≡ t → (b < n → f b ≡ g b) → f b ≡ g b
    by true q k = rw (eqb-true b n q) (equal (f n) (g n) (agreeing f g n) e)
    by false q k = k (omega (arith, eqb-false b n q))

pub tells : (k j : Class) (m : Mask) → k ≡ j → agreeing (bit m) (is j) 256 ≡ true → Tells k m
tells k j m q e = record { every = λ b h. rw q (agree (bit m) (is j) 256 e b h) }
