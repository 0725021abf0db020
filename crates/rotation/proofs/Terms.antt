-- A sum that has reached term i stands at the first i coefficients, or at all of them where there are no more. Assumes nothing.
use mathlib.Core.Path.{◌≡◌, refl, ◌∙◌, ap, subst}
use mathlib.Core.Bool.{Bool, true, false}
use mathlib.Core.List.{List}
use Prim.Native.Nat.{ℕ, ◌+◌, ◌≤◌, ◌<◌}
use native.Mathlib.Omega.{arith}
use native.Mathlib.Numerals.{add-one}
use lib.Dec.{ltb}
use lib.Ieee.{Float}
use lib.ListN.{length}
use borrow.Author.Tests.{ltb-true, ltb-false}
use Rattle.angle.specs.Sine.{sine_cosine}
use Rattle.angle.specs.declared.sine.SineCosine.{SineCosine}
use Rattle.rotation.specs.Elements.{sine, cosine, angle, nutated, nutated_all}
use Rattle.rotation.specs.Terms.{Adds, AddsAll}
use Rattle.rotation.specs.declared.epoch.Centuries.{Centuries}
use Rattle.rotation.specs.declared.nutation.Sums.{Sums}

pub record Reached (part : SineCosine → Float) (t : Centuries) (degree : ℕ) (angles cs : List Float) (start sum : Float) (i : ℕ) : Type 0 where
  pub early : i ≤ length cs → sum ≡ nutated part t degree angles cs start i
  pub late : length cs ≤ i → sum ≡ nutated part t degree angles cs start (length cs)

module _ (part : SineCosine → Float) (t : Centuries) (degree : ℕ) (angles cs : List Float) (start : Float) where
  no-term : Reached part t degree angles cs start start 0
  unfolding nutated
  no-term = record { early = λ h. refl; late = λ h. ap (nutated part t degree angles cs start) (none h) }
    where
      none : length cs ≤ 0 → 0 ≡ length cs
      none h = omega arith

  one_more : (i : ℕ) (sum r : Float) → Reached part t degree angles cs start sum i → Adds sum cs i (part (sine_cosine (angle t degree angles i))) r
      → Reached part t degree angles cs start r (i + 1)
  unfolding nutated
  one_more i sum r s a = record { early = λ h. there (omega arith); late = λ h. by (ltb i (length cs)) refl h }
    where
      there : i < length cs → r ≡ nutated part t degree angles cs start (i + 1)
      there h = rw (add-one, a.there h, s.early (omega arith))

      whole : length cs ≤ i + 1 → i < length cs → i + 1 ≡ length cs
      whole h l = omega arith

      by : (b : Bool) → ltb i (length cs) ≡ b → length cs ≤ i + 1 → r ≡ nutated part t degree angles cs start (length cs)
      by true e h = there (ltb-true _ _ e) ∙ ap (nutated part t degree angles cs start) (whole h (ltb-true _ _ e))
      by false e h = a.beyond (ltb-false _ _ e) ∙ s.late (ltb-false _ _ e)

-- RA, DEC and W have reached term i
pub record ReachedAll (t : Centuries) (degree : ℕ) (angles ra dec pm : List Float) (start sums : Sums) (i : ℕ) : Type 0 where
  pub at_ra : Reached sine t degree angles ra start.ra sums.ra i
  pub at_dec : Reached cosine t degree angles dec start.dec sums.dec i
  pub at_w : Reached sine t degree angles pm start.w sums.w i

module _ (t : Centuries) (degree : ℕ) (angles ra dec pm : List Float) (start : Sums) where
  pub no-terms : ReachedAll t degree angles ra dec pm start start 0
  no-terms =
      record {
        at_ra = no-term sine t degree angles ra start.ra;
        at_dec = no-term cosine t degree angles dec start.dec;
        at_w = no-term sine t degree angles pm start.w;
      }

  pub more-terms : (i : ℕ) (sums r : Sums) (pair : SineCosine) → ReachedAll t degree angles ra dec pm start sums i
      → pair ≡ sine_cosine (angle t degree angles i) → AddsAll sums pair i ra dec pm r → ReachedAll t degree angles ra dec pm start r (i + 1)
  more-terms i sums r pair s p a =
      record {
        at_ra = one_more sine t degree angles ra start.ra i _ _ s.at_ra (subst (λ q. Adds sums.ra ra i (sine q) r.ra) p a.to_ra);
        at_dec = one_more cosine t degree angles dec start.dec i _ _ s.at_dec (subst (λ q. Adds sums.dec dec i (cosine q) r.dec) p a.to_dec);
        at_w = one_more sine t degree angles pm start.w i _ _ s.at_w (subst (λ q. Adds sums.w pm i (sine q) r.w) p a.to_w);
      }

  pub all-terms : (i : ℕ) (sums : Sums) → ReachedAll t degree angles ra dec pm start sums i → length ra ≤ i → length dec ≤ i → length pm ≤ i
      → sums ≡ nutated_all t degree angles ra dec pm start
  unfolding nutated_all
  all-terms i sums s r d p = rw (← s.at_ra.late r, ← s.at_dec.late d, ← s.at_w.late p) refl
