-- The matrix is finite for every right ascension and meridian, and every declination that is: sine and cosine are bounded for every angle.
-- Assumes nothing.
use mathlib.Core.Path.{◌≡◌}
use mathlib.Core.Bool.{true}
use lib.Dec.{lit≤}
use lib.Ieee.{Float}
use lib.Ieee.Scale.{finite}
use Rattle.plain.specs.Doubles.{◌⊖◌, ◌⊗◌}
use Rattle.plain.proofs.Bounded.{Under, finite-under, weaken_under, neg-under, ⊖-under, ⊗-under}
use Rattle.angle.specs.Wrap.{wrapped}
use Rattle.angle.specs.declared.sine.SineCosine.{SineCosine}
use Rattle.angle.proofs.Sizes.{UnderBoth, wrapped-under, sine-cosine-under, wrap-finite, sine-finite}
use Rattle.rotation.specs.Matrix.{oriented}
use Rattle.rotation.specs.Finite.{Finite}
use Rattle.rotation.specs.Overflow.{FiniteProducts, FiniteMatrix}
use Rattle.rotation.specs.declared.nutation.Sums.{Sums}

two : {x y : Float} → Under 233 x → Under 233 y → Under 467 (x ⊗ y)
two a b = ⊗-under {j = 233} {k = 233} (lit≤ tt) a b

three : {x y z : Float} → Under 233 x → Under 233 y → Under 233 z → Under 701 (x ⊗ y ⊗ z)
three a b c = ⊗-under {j = 467} {k = 233} (lit≤ tt) (two a b) c

difference : {x y : Float} → Under 467 x → Under 701 y → Under 703 (x ⊖ y)
difference a b = ⊖-under {j = 701} (lit≤ tt) (weaken_under 701 (lit≤ tt) a) b

-- all is finite, whatever the angles are, if the declination is
pub oriented-finite : (ra dec w : Float) → finite dec ≡ true → Finite (oriented ra dec w)
unfolding oriented
oriented-finite ra dec w D =
    let a = sine-cosine-under (wrapped ra) in
    let d = sine-cosine-under dec in
    let m = sine-cosine-under (wrapped w) in
    record {
      ra = finite-under _ (wrapped-under ra);
      dec = D;
      w = finite-under _ (wrapped-under w);
      m11 = finite-under _ (difference (neg-under (two m.cosine a.sine)) (three m.sine d.sine a.cosine));
      m12 = finite-under _ (difference (two m.cosine a.cosine) (three m.sine d.sine a.sine));
      m13 = finite-under _ (two m.sine d.cosine);
      m21 = finite-under _ (difference (two m.sine a.sine) (three m.cosine d.sine a.cosine));
      m22 = finite-under _ (difference (neg-under (two m.sine a.cosine)) (three m.cosine d.sine a.sine));
      m23 = finite-under _ (two m.cosine d.cosine);
      m31 = finite-under _ (two d.cosine a.cosine);
      m32 = finite-under _ (two d.cosine a.sine);
      m33 = finite-under _ d.sine;
    }

products-finite : {a d m : SineCosine} → UnderBoth a → UnderBoth d → UnderBoth m → FiniteProducts a d m
products-finite a d m =
    record {
      cw-sa = finite-under _ (two m.cosine a.sine);
      cw-ca = finite-under _ (two m.cosine a.cosine);
      sw-sa = finite-under _ (two m.sine a.sine);
      sw-ca = finite-under _ (two m.sine a.cosine);
      sw-sd = finite-under _ (two m.sine d.sine);
      cw-sd = finite-under _ (two m.cosine d.sine);
      sw-sd-ca = finite-under _ (three m.sine d.sine a.cosine);
      sw-sd-sa = finite-under _ (three m.sine d.sine a.sine);
      cw-sd-ca = finite-under _ (three m.cosine d.sine a.cosine);
      cw-sd-sa = finite-under _ (three m.cosine d.sine a.sine);
    }

pub matrix-finite : (s : Sums) → finite s.ra ≡ true → finite s.dec ≡ true → finite s.w ≡ true → FiniteMatrix s
matrix-finite s a d w =
    record {
      Ra = a;
      DEC = d;
      W = w;
      wrap_ra = wrap-finite _ a;
      wrap_w = wrap-finite _ w;
      pair_ra = sine-finite _ (finite-under _ (wrapped-under s.ra));
      pair_dec = sine-finite _ d;
      pair_w = sine-finite _ (finite-under _ (wrapped-under s.w));
      products = products-finite (sine-cosine-under _) (sine-cosine-under _) (sine-cosine-under _);
    }
