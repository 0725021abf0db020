-- Sine and cosine are finite for every double, the infinities and NaN too: wrap bounds the angle, and each step of the series at most
-- multiplies the bound. Of a finite double every result on the way is finite. Assumes nothing.
use mathlib.Core.Path.{◌≡◌}
use mathlib.Core.Bool.{Bool, true, false}
use mathlib.Core.List.{List, [], ◌∷◌}
use Prim.Native.Nat.{ℕ, suc, ◌+◌, ◌*◌, ◌≤◌}
use native.Mathlib.Omega.{arith}
use lib.Dec.{lit<, lit≤}
use lib.ListN.{length}
use lib.Ieee.{Float, nan, inf, fin, lt, round}
use lib.Ieee.Fits.{down_pos}
use lib.Ieee.Scale.{finite}
use Rattle.std.specs.Prelude.{if◌then◌else◌}
use Rattle.plain.specs.Doubles.{◌⊕◌, ◌⊖◌, ◌⊗◌, ◌⊘◌, remainder, printed, nought, one}
use Rattle.plain.specs.Sizes.{Below}
use Rattle.plain.proofs.Sizes.{Large}
use Rattle.plain.proofs.Bounded.{Under, finite-under, weaken_under, neg-under, ⊕-under, ⊖-under, ⊗-under, ⊘-under, remainder-under}
use Rattle.angle.specs.Wrap.{turn, wrapped}
use Rattle.angle.specs.Series.{closing, sine_divisors, cosine_divisors}
use Rattle.angle.specs.Sine.{radians, core, quarter, half, three_quarters, of_wrapped, sine_cosine}
use Rattle.angle.specs.Finite.{FiniteWrap, FiniteSeries, FinitePair, FiniteSine}
use Rattle.angle.specs.declared.sine.SineCosine.{SineCosine}
use Rattle.angle.proofs.Range.{BelowTurn, below-turn, wrapped-in-turn}

turn_below : (x : Float) → BelowTurn x → Below 9 x
turn_below nan h = h
turn_below (inf s) h = h
turn_below (fin s m e) h = let d = down_pos e in omega arith

pub wrapped-under : (x : Float) → Under 9 (wrapped x)
wrapped-under x = let t = wrapped-in-turn x in record { is = turn_below (wrapped x) (below-turn (wrapped x) t.low t.high) }

-- ---- the series
abbrev AllLarge : List Float → Type 0
AllLarge [] = Unit {0}
AllLarge (p ∷ ps) = Large p × AllLarge ps

one-under : Under 1 one
unfolding printed round
one-under = record { is = lit< tt }

-- a step adds 29 to the exponent at most
product : (z q p : Float) (a : ℕ) → a ≤ 900 → Under 25 z → Large p → Under (suc a) q → Under (suc (26 + suc a)) (z ⊘ p ⊗ q)
product z q p a A Z P Q = ⊗-under {j = 26} {k = suc a} (omega arith) (⊘-under p (lit≤ tt) P Z) Q

step : (z q p : Float) (a : ℕ) → a ≤ 900 → Under 25 z → Large p → Under (suc a) q → Under (suc (29 + a)) (one ⊖ z ⊘ p ⊗ q)
step z q p a A Z P Q =
    weaken_under (suc (29 + a)) (omega arith) (⊖-under (omega arith) (weaken_under (suc (26 + suc a)) (omega arith) one-under) (product z q p a A Z P Q))

series-under : (b : ℕ) (z q : Float) (ps : List Float) (a : ℕ) → b ≤ 900 → a + 29 * length ps ≤ b
    → Under 25 z → AllLarge ps → Under (suc a) q → Under (suc b) (closing z q ps)
unfolding closing
series-under b z q [] a B A Z P Q = weaken_under (suc b) (omega arith) Q
series-under b z q (p ∷ ps) a B A Z P Q =
    series-under b z (one ⊖ z ⊘ p ⊗ q) ps (29 + a) B (omega arith) Z P.1 (step z q p a (omega arith) Z P.0 Q)

series-finite : (z q : Float) (ps : List Float) (a : ℕ) → a + 29 * length ps ≤ 900 → Under 25 z → AllLarge ps → Under (suc a) q → FiniteSeries z q ps
series-finite z q [] a A Z P Q = finite-under _ Q
series-finite z q (p ∷ ps) a A Z P Q = (
  finite-under _ Q,
  finite-under _ (⊘-under p (lit≤ tt) P.0 Z),
  finite-under _ (product z q p a (omega arith) Z P.0 Q),
  series-finite z (one ⊖ z ⊘ p ⊗ q) ps (29 + a) (omega arith) Z P.1 (step z q p a (omega arith) Z P.0 Q),
)

sine-large : AllLarge sine_divisors
unfolding printed round
sine-large = (lit≤ tt, (lit≤ tt, (lit≤ tt, (lit≤ tt, (lit≤ tt, (lit≤ tt, (lit≤ tt, tt)))))))

cosine-large : AllLarge cosine_divisors
unfolding printed round
cosine-large = (lit≤ tt, (lit≤ tt, (lit≤ tt, (lit≤ tt, (lit≤ tt, (lit≤ tt, (lit≤ tt, (lit≤ tt, tt))))))))

-- ---- sine and cosine
pub record UnderBoth (p : SineCosine) : Type 0 where
  pub sine : Under 233 p.0
  pub cosine : Under 233 p.1

degree-under : Under 0 (printed 17453292519943295 18)
unfolding printed round
degree-under = record { is = lit< tt }

module _ (y : Float) (Y : Under 11 y) where
  t-under : Under 12 (radians y)
  t-under = ⊗-under {j = 11} {k = 0} (lit≤ tt) Y degree-under

  z-under : Under 25 (radians y ⊗ radians y)
  z-under = ⊗-under {j = 12} {k = 12} (lit≤ tt) t-under t-under

  s-under : Under 217 (radians y ⊗ closing (radians y ⊗ radians y) one sine_divisors)
  s-under = ⊗-under {j = 12} {k = 204} (lit≤ tt) t-under (series-under 203 _ one sine_divisors 0 (lit≤ tt) (lit≤ tt) z-under sine-large one-under)

  core-under : UnderBoth (core y)
  unfolding core
  core-under =
      record {
        sine = weaken_under 233 (lit≤ tt) s-under;
        cosine = series-under 232 _ one cosine_divisors 0 (lit≤ tt) (lit≤ tt) z-under cosine-large one-under;
      }

  pair-finite : FinitePair y
  pair-finite =
      record {
        taken = finite-under _ Y;
        t = finite-under _ t-under;
        z = finite-under _ z-under;
        for_s = series-finite _ one sine_divisors 0 (lit≤ tt) z-under sine-large one-under;
        for_c = series-finite _ one cosine_divisors 0 (lit≤ tt) z-under cosine-large one-under;
        S = finite-under _ s-under;
      }

quarter-under : {p : SineCosine} → UnderBoth p → UnderBoth (quarter p)
quarter-under u = record { sine = u.cosine; cosine = neg-under u.sine }

half-under : {p : SineCosine} → UnderBoth p → UnderBoth (half p)
half-under u = record { sine = neg-under u.sine; cosine = neg-under u.cosine }

three-quarters-under : {p : SineCosine} → UnderBoth p → UnderBoth (three_quarters p)
three-quarters-under u = record { sine = neg-under u.cosine; cosine = u.sine }

either-under : {p q : SineCosine} (b : Bool) → UnderBoth p → UnderBoth q → UnderBoth (if b then p else q)
either-under true u v = u
either-under false u v = v

of-wrapped-under : (x : Float) → Under 9 x → UnderBoth (of_wrapped x)
unfolding of_wrapped printed round
of-wrapped-under x X =
    either-under (lt x (printed 45 0)) (core-under x (weaken_under 11 (lit≤ tt) X))
    (either-under (lt x (printed 135 0)) (quarter-under (from (printed 90 0) (record { is = lit< tt })))
    (either-under (lt x (printed 225 0)) (half-under (from (printed 180 0) (record { is = lit< tt })))
    (either-under (lt x (printed 315 0)) (three-quarters-under (from (printed 270 0) (record { is = lit< tt })))
    (from turn (record { is = lit< tt })))))
  where
    from : (q : Float) → Under 9 q → UnderBoth (core (x ⊖ q))
    from q Q = core-under (x ⊖ q) (⊖-under (lit≤ tt) X Q)

-- of any double
pub sine-cosine-under : (x : Float) → UnderBoth (sine_cosine x)
unfolding sine_cosine
sine-cosine-under x = of-wrapped-under (wrapped x) (wrapped-under x)

-- ---- and every result on the way is finite, where the double is
turn-under : Under 9 turn
unfolding printed round
turn-under = record { is = lit< tt }

pub wrap-finite : (x : Float) → finite x ≡ true → FiniteWrap x
unfolding printed round
wrap-finite x X = record { rest = finite-under _ rest; sum = finite-under _ (sum (lt (remainder x turn) nought)) }
  where
    rest : Under 10 (remainder x turn)
    rest = remainder-under x turn (lit≤ tt) X turn-under (lit≤ tt)

    sum : (b : Bool) → Under 12 (if b then remainder x turn ⊕ turn else remainder x turn)
    sum true = ⊕-under (lit≤ tt) rest (weaken_under 10 (lit≤ tt) turn-under)
    sum false = weaken_under 12 (lit≤ tt) rest

pub sine-finite : (x : Float) → finite x ≡ true → FiniteSine x
unfolding printed round
sine-finite x X =
    let w = wrapped-under x in
    let both = sine-cosine-under x in
    record {
      wrap = wrap-finite x X;
      below45 = pair-finite _ (weaken_under 11 (lit≤ tt) w);
      below135 = pair-finite _ (⊖-under (lit≤ tt) w (record { is = lit< tt }));
      below225 = pair-finite _ (⊖-under (lit≤ tt) w (record { is = lit< tt }));
      below315 = pair-finite _ (⊖-under (lit≤ tt) w (record { is = lit< tt }));
      beyond = pair-finite _ (⊖-under (lit≤ tt) w turn-under);
      sine = finite-under _ both.sine;
      cosine = finite-under _ both.cosine;
    }
