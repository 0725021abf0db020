-- Every orientation that the built-in source gives is in range and finite: the rows are small. Assumes nothing.
use mathlib.Core.Path.{◌≡◌, subst}
use mathlib.Core.Bool.{Bool, true, false}
use mathlib.Core.List.{[], ◌∷◌}
use Prim.Native.Nat.{ℕ, zero, suc, ◌<◌}
use native.Mathlib.Omega.{arith}
use lib.Dec.{eqb, lit<, lit≤}
use lib.ListN.{get_or}
use lib.Ieee.{Float, nan, neg, round}
use Rattle.std.specs.Prelude.{Option, Some, None, Ok, if◌then◌else◌}
use Rattle.plain.specs.Doubles.{printed}
use Rattle.plain.specs.Sizes.{Below}
use Rattle.rotation.specs.Epochs.{in_reach}
use Rattle.rotation.specs.Elements.{LINEAR}
use Rattle.rotation.specs.Table.{straight, row, row_of, neptune_angle, neptune_ra, neptune_dec, neptune_pm}
use Rattle.rotation.specs.Builtin.{neptunes, row_evaluated, builtin_orientation}
use Rattle.rotation.specs.Range.{InRange}
use Rattle.rotation.specs.Finite.{Finite, SmallPolynomial, SmallValues, SmallInput}
use Rattle.rotation.specs.Overflow.{NeverOverflows}
use Rattle.rotation.specs.declared.elements.Elements.{Elements}
use Rattle.rotation.specs.declared.matrix.Orientation.{Orientation}
use Rattle.rotation.proofs.Given.{of-given}
use Rattle.rotation.proofs.Range.{evaluated-in-range}
use Rattle.rotation.proofs.Overflow.{never-overflows}

pub builtin-in-range : (n : ℕ) (epoch : Float) (o : Orientation) → builtin_orientation n epoch ≡ Ok o → InRange o
unfolding row_evaluated
builtin-in-range n epoch o h =
    of-given InRange n epoch o
    (λ r e k. evaluated-in-range e epoch LINEAR (neptunes n neptune_angle) (neptunes n neptune_ra) (neptunes n neptune_dec) (neptunes n neptune_pm)) h

-- ---- the rows
record SmallElements (e : Elements) : Type 0 where
  ra : SmallPolynomial e.ra
  dec : SmallPolynomial e.dec
  pm : SmallPolynomial e.pm

record SmallRow (r : Option Elements) : Type 0 where
  held : (e : Elements) → r ≡ Some e → SmallElements e

either-small : {x y : Option Elements} (b : Bool) → SmallRow x → SmallRow y → SmallRow (if b then x else y)
either-small true p q = p
either-small false p q = q

straight-small : {x y : Float} → Below 200 x → Below 200 y → SmallPolynomial (straight x y)
unfolding printed round
straight-small a b = record { c0 = a; c1 = b; c2 = lit< tt }

row_small : (a₀ a₁ d₀ d₁ w₀ w₁ : Float) → Below 200 a₀ → Below 200 a₁ → Below 200 d₀ → Below 200 d₁ → Below 200 w₀ → Below 200 w₁
    → SmallRow (Some (row a₀ a₁ d₀ d₁ w₀ w₁))
row_small a₀ a₁ d₀ d₁ w₀ w₁ p q r s t u =
    let f : Elements = record { ra = straight a₀ a₁; dec = straight d₀ d₁; pm = straight w₀ w₁ } in
    let g : SmallElements f = record { ra = straight-small p q; dec = straight-small r s; pm = straight-small t u } in
    record { held = λ e h. let same : f ≡ e = cc in subst SmallElements same g }

table-small : (n : ℕ) → SmallRow (row_of n)
unfolding row_of printed round neg
table-small n =
    either-small (eqb n 10) (row_small _ _ _ _ _ _ (lit< tt) (lit< tt) (lit< tt) (lit< tt) (lit< tt) (lit< tt))
    (either-small (eqb n 199) (row_small _ _ _ _ _ _ (lit< tt) (lit< tt) (lit< tt) (lit< tt) (lit< tt) (lit< tt))
    (either-small (eqb n 299) (row_small _ _ _ _ _ _ (lit< tt) (lit< tt) (lit< tt) (lit< tt) (lit< tt) (lit< tt))
    (either-small (eqb n 399) (row_small _ _ _ _ _ _ (lit< tt) (lit< tt) (lit< tt) (lit< tt) (lit< tt) (lit< tt))
    (either-small (eqb n 499) (row_small _ _ _ _ _ _ (lit< tt) (lit< tt) (lit< tt) (lit< tt) (lit< tt) (lit< tt))
    (either-small (eqb n 599) (row_small _ _ _ _ _ _ (lit< tt) (lit< tt) (lit< tt) (lit< tt) (lit< tt) (lit< tt))
    (either-small (eqb n 699) (row_small _ _ _ _ _ _ (lit< tt) (lit< tt) (lit< tt) (lit< tt) (lit< tt) (lit< tt))
    (either-small (eqb n 799) (row_small _ _ _ _ _ _ (lit< tt) (lit< tt) (lit< tt) (lit< tt) (lit< tt) (lit< tt))
    (either-small (eqb n 899) (row_small _ _ _ _ _ _ (lit< tt) (lit< tt) (lit< tt) (lit< tt) (lit< tt) (lit< tt))
    (either-small (eqb n 999) (row_small _ _ _ _ _ _ (lit< tt) (lit< tt) (lit< tt) (lit< tt) (lit< tt) (lit< tt))
    no_row)))))))))
  where
    no_row : SmallRow None
    no_row = record { held = λ e h. let z : ◌≡◌ {A = ℕ} 0 1 = cc in absurd (omega arith) }

-- ---- Neptune's lists, and none
none-small : SmallValues []
none-small = record { each = λ i h. absurd (omega arith) }

one-small : (x : Float) → Below 200 x → SmallValues (x ∷ [])
one-small x b = record { each = each }
  where
    each : (i : ℕ) → i < 1 → Below 200 (get_or (x ∷ []) i nan)
    each zero h = b
    each (suc i) h = absurd (omega arith)

two-small : (x y : Float) → Below 200 x → Below 200 y → SmallValues (x ∷ y ∷ [])
two-small x y b c = record { each = each }
  where
    each : (i : ℕ) → i < 2 → Below 200 (get_or (x ∷ y ∷ []) i nan)
    each zero h = b
    each (suc i) h = (one-small y c).each i (omega arith)

neptune-input : (e : Elements) → SmallElements e → SmallInput e LINEAR neptune_angle neptune_ra neptune_dec neptune_pm
unfolding printed round neg
neptune-input e s =
    record {
      pole_ra = s.ra;
      pole_dec = s.dec;
      meridian = s.pm;
      few = lit≤ tt;
      enough = record { low = lit≤ tt; for_ra = lit≤ tt; for_dec = lit≤ tt; for_pm = lit≤ tt };
      system = two-small _ _ (lit< tt) (lit< tt);
      for_ra = one-small _ (lit< tt);
      for_dec = one-small _ (lit< tt);
      for_pm = one-small _ (lit< tt);
    }

straight-input : (e : Elements) → SmallElements e → SmallInput e LINEAR [] [] [] []
straight-input e s =
    record {
      pole_ra = s.ra;
      pole_dec = s.dec;
      meridian = s.pm;
      few = lit≤ tt;
      enough = record { low = lit≤ tt; for_ra = lit≤ tt; for_dec = lit≤ tt; for_pm = lit≤ tt };
      system = none-small;
      for_ra = none-small;
      for_dec = none-small;
      for_pm = none-small;
    }

pub row-never-overflows : (n : ℕ) (epoch : Float) (e : Elements) → in_reach epoch ≡ true → row_of n ≡ Some e
    → NeverOverflows e epoch LINEAR (neptunes n neptune_angle) (neptunes n neptune_ra) (neptunes n neptune_dec) (neptunes n neptune_pm)
row-never-overflows n epoch e r k = by (eqb n 899)
  where
    s : SmallElements e
    s = (table-small n).held e k

    by : (b : Bool)
        → NeverOverflows e epoch LINEAR (if b then neptune_angle else []) (if b then neptune_ra else []) (if b then neptune_dec else []) (if b then neptune_pm else [])
    by true = never-overflows e epoch LINEAR neptune_angle neptune_ra neptune_dec neptune_pm r (neptune-input e s)
    by false = never-overflows e epoch LINEAR [] [] [] [] r (straight-input e s)

pub builtin-finite : (n : ℕ) (epoch : Float) (o : Orientation) → builtin_orientation n epoch ≡ Ok o → Finite o
unfolding row_evaluated
builtin-finite n epoch o h = of-given Finite n epoch o (λ r e k. (row-never-overflows n epoch e r k).answer) h
