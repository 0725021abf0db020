-- What is read of a number in the class is the nearest double: w·10^k is rounded once and does not overflow, and outside the class nothing is read.
-- Assumes nothing.
use Prim.Native.Nat.{ℕ}
use mathlib.Core.Path.{◌≡◌, refl, ap, ◌∙◌}
use mathlib.Core.Bool.{Bool, true, false}
use mathlib.Core.List.{List}
use native.Mathlib.Omega.{arith}
use lib.Dec.{T}
use lib.IntN.{ℤ}
use lib.Ieee.{binary64}
use lib.Ieee.Scale.{finite}
use Rattle.std.specs.Prelude.{if◌then◌else◌}
use Rattle.plain.proofs.Bounded.{finite-under}
use Rattle.plain.proofs.Nearest.{nearest-law, nearest-only}
use Rattle.refusal.specs.declared.Refusal.TheVariants as R
use Rattle.decimal.specs.Form.{Written, number, broken, written}
use Rattle.decimal.specs.Class.{in_class, top, bottom, scaled_by, signed, valued, reading}
use Rattle.decimal.specs.Values.{ReadNearest, WritesOutside, Values}
use Rattle.decimal.specs.declared.Reading.TheVariants.{Number, OutsideClass}
use Rattle.decimal.proofs.Bounded.{bottom-pos, scaled-below}

scaled-finite : (w : ℕ) (k : ℤ) → in_class w k ≡ true → T (finite (scaled_by w k))
scaled-finite w k c = rw (finite-under {k = 200} (scaled_by w k) (record { is = scaled-below w k c })) tt

-- what is read, by whether the number is in the class
read-inside : (bs : List ℕ) (m : Bool) (w : ℕ) (k : ℤ) → written bs ≡ number m w k → in_class w k ≡ true → reading bs ≡ Number (signed m (scaled_by w k))
unfolding reading
read-inside bs m w k e c = ap valued e ∙ rw c

read-outside : (bs : List ℕ) (m : Bool) (w : ℕ) (k : ℤ) → written bs ≡ number m w k → in_class w k ≡ false → reading bs ≡ OutsideClass R.Number
unfolding reading
read-outside bs m w k e c = ap valued e ∙ rw c

inside : (bs : List ℕ) (m : Bool) (w : ℕ) (k : ℤ) → written bs ≡ number m w k → in_class w k ≡ true → ReadNearest bs m w k
inside bs m w k e c = record {
  value = scaled_by w k;
  nearest = nearest-law binary64 (top w k) (bottom k) (bottom-pos k) (scaled-finite w k c);
  only = nearest-only binary64 (top w k) (bottom k) (bottom-pos k) (scaled-finite w k c);
  is_read = read-inside bs m w k e c;
}

writes-outside : (bs : List ℕ) (v : Written) → written bs ≡ v → valued v ≡ OutsideClass R.Number → WritesOutside bs
writes-outside bs broken e o = absurd (let z : ◌≡◌ {A = ℕ} 0 1 = cc in omega arith)
writes-outside bs (number m w k) e o = by (in_class w k) refl o
  where
    by : (t : Bool) → in_class w k ≡ t → (if t then Number (signed m (scaled_by w k)) else OutsideClass R.Number) ≡ OutsideClass R.Number → WritesOutside bs
    by true c o = absurd (let z : ◌≡◌ {A = ℕ} 0 1 = cc in omega arith)
    by false c o = record { minus = m; w = w; k = k; form = e; outside = c }

outside : (bs : List ℕ) → reading bs ≡ OutsideClass R.Number → WritesOutside bs
unfolding reading
outside bs o = writes-outside bs (written bs) refl o

pub values : Values
values = record { inside = inside; six = λ bs. (outside bs, λ w. read-outside bs w.minus w.w w.k w.form w.outside) }
