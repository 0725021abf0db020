-- Nutation found in buffers: the counts decide as the documents' lists do, and the parts of the buffers are the lists. Assumes nothing.
use mathlib.Core.Path.{◌≡◌, refl, sym, ◌∙◌}
use mathlib.Core.Bool.{Bool, true, false, ◌&&◌, and-false}
use mathlib.Core.List.{List, []}
use Prim.Native.Nat.{ℕ, ◌+◌, ◌*◌, ◌%◌, ◌≤◌, ◌<◌, min, max}
use native.Mathlib.Nat.{mod-add-div, mul-le-mul_left}
use native.Mathlib.Omega.{arith}
use borrow.Author.Tests.{le-leb, lt-leb, leb-true, leb-false, eqb-true}
use lib.Dec.{leb, eqb}
use lib.Ieee.{Float}
use lib.ListN.{length, take}
use Rattle.std.specs.Prelude.{Option, Some, None, Result, Ok, Err}
use Rattle.refusal.specs.declared.Refusal.TheVariants.{Incomplete, BadDegree, MixedKind, WrongCount}
use Rattle.rotation.specs.Elements.{CUBIC, GROUPS, groups}
use Rattle.plain.proofs.Tests.{both, true-false}
use Rattle.variables.specs.declared.variable.FindError.{FindError}
use Rattle.variables.specs.declared.variable.FindError.TheVariants as F
use Rattle.wanted.specs.Elements.{enough_groups, enough_angles}
use Rattle.wanted.specs.Steps.{is_there, Looks}
use Rattle.wanted.proofs.Fronts.{front}
use Rattle.wanted.proofs.Found.{counted, crowded, mixed, absent}
use Rattle.degree.specs.Degree.{Low}
use Rattle.nutation.specs.Found.{any_mixed}
use Rattle.nutation.specs.Terms.{COEFFICIENTS, ANGLES, count_of, weighed, counted_of, terms_of}
use Rattle.nutation.specs.Answer.{Base, Fronts, by_terms, by_kinds}
use Rattle.nutation.specs.declared.terms.Lengths.{Lengths}

-- ---- coefficients

-- the count is that of the list, up to one more than the most; the list is the buffer's front, where it has room
pub record Held (xs after : List Float) (r : Result ℕ FindError) : Type 0 where
  pub count : count_of r ≡ min (length xs) (COEFFICIENTS + 1)
  pub front : length xs ≤ COEFFICIENTS → take (length xs) after ≡ xs

pub coefficients : {there numeric : Bool} {xs before after : List Float} (r : Result ℕ FindError) → Looks there numeric xs before r after → numeric ≡ true
    → length before ≡ COEFFICIENTS → (there ≡ false → xs ≡ []) → Held xs after r
coefficients {xs = xs} {before} {after} (Ok n) l e h none =
    let f = counted l n refl in
    record { count = omega (arith, f.count, f.roomy); front = λ _. front xs before after (length xs) f.written f.roomy refl }
coefficients {xs = xs} (Err F.TooMany) l e h none =
    let f = crowded l refl in
    record { count = omega (arith, f.crowded); front = λ k. absurd (omega (arith, f.crowded)) }
coefficients (Err F.Mixed) l e h none = true-false (sym e ∙ (mixed l refl).strings)
coefficients {after = after} (Err F.Absent) l e h none =
    let z = none (absent l refl) in
    rw z (record { count = refl; front = λ _. refl })

-- a length up to one more than the most
abbrev up_to : ℕ → ℕ
up_to n = min n (COEFFICIENTS + 1)

abbrev longest : (x y z : ℕ) → ℕ
longest x y z = max x (max y z)

-- ---- whole groups, few and enough

-- few groups cover counts so cut as they cover the lengths
cut-one : (g m : ℕ) → g ≤ GROUPS → leb (up_to m) g ≡ leb m g
cut-one g m h = by (leb m g) refl
  where
    by : (b : Bool) → leb m g ≡ b → leb (up_to m) g ≡ b
    by true e = let k : m ≤ g = leb-true _ _ e in le-leb (up_to m) g (omega arith)
    by false e = let k : g < m = leb-false _ _ e in lt-leb (up_to m) g (omega arith)

cut-max : (x y : ℕ) → max (up_to x) (up_to y) ≡ up_to (max x y)
cut-max x y = omega arith

cut-longest : (g x y z : ℕ) → g ≤ GROUPS → leb (longest (up_to x) (up_to y) (up_to z)) g ≡ leb (longest x y z) g
cut-longest g x y z h = rw (cut-max y z, cut-max x (max y z)) (cut-one g (longest x y z) h)

module _ (degree n : ℕ) where
  cut-enough : (x y z : ℕ) → enough_groups degree n (up_to x) (up_to y) (up_to z) ≡ enough_groups degree n x y z
  cut-enough x y z = by (leb (groups degree n) GROUPS) refl
    where
      by : (b : Bool) → leb (groups degree n) GROUPS ≡ b → enough_groups degree n (up_to x) (up_to y) (up_to z) ≡ enough_groups degree n x y z
      by true e = rw (cut-longest (groups degree n) x y z (leb-true _ _ e))
      by false e = rw (e, and-false (eqb (n % (degree + 1)) 0))

  -- more values than a buffer holds are no whole groups, or too many of them
  crowded-groups : (x y z : ℕ) → degree ≤ CUBIC → ANGLES < n → enough_groups degree n x y z ≡ false
  crowded-groups x y z low h = by (eqb (n % (degree + 1)) 0) (leb (groups degree n) GROUPS) refl refl
    where
      by : (b c : Bool) → eqb (n % (degree + 1)) 0 ≡ b → leb (groups degree n) GROUPS ≡ c → enough_groups degree n x y z ≡ false
      by true true e f =
          let whole : n % (degree + 1) ≡ 0 = eqb-true _ _ e in
          let few : (degree + 1) * groups degree n ≤ (degree + 1) * GROUPS = mul-le-mul_left (degree + 1) (leb-true _ _ f) in
          absurd (omega (arith, mod-add-div n (degree + 1)))
      by true false e f = rw (e, f)
      by false c e f = rw e

  -- what is enough: at most 32 groups, and one for each coefficient
  enough-groups : (x y z : ℕ) → enough_groups degree n x y z ≡ true → (groups degree n ≤ GROUPS) × (longest x y z ≤ groups degree n)
  enough-groups x y z e =
      let a = both (eqb (n % (degree + 1)) 0 && leb (groups degree n) GROUPS) (leb (longest x y z) (groups degree n)) e in
      (leb-true _ _ (both (eqb (n % (degree + 1)) 0) (leb (groups degree n) GROUPS) a.0).1, leb-true _ _ a.1)

-- ---- angles and coefficients together

module _ (epoch : Float) (base : Base) (angles ra dec pm before : List Float) (angles' ra' dec' pm' : List Float) (r d p : Result ℕ FindError)
    (lr : Held ra ra' r) (ld : Held dec dec' d) (lp : Held pm pm' p) (room : length before ≡ ANGLES) (degree : ℕ) (low : degree ≤ CUBIC) where
  -- of angles that have room
  weighed-by : (b : Bool) → enough_angles degree angles ra dec pm ≡ b → take (length angles) angles' ≡ angles
      → by_terms epoch angles' ra' dec' pm' base (weighed degree (length angles) (count_of r) (count_of d) (count_of p))
      ≡ by_kinds epoch true degree angles ra dec pm base
  weighed-by true e f =
      let g = enough-groups degree (length angles) (length ra) (length dec) (length pm) e in
      let l : longest (length ra) (length dec) (length pm) ≤ COEFFICIENTS = omega arith in
      let x : count_of r ≡ length ra = lr.count ∙ omega arith in
      let y : count_of d ≡ length dec = ld.count ∙ omega arith in
      let z : count_of p ≡ length pm = lp.count ∙ omega arith in
      rw (x, y, z, e, f, lr.front (omega arith), ld.front (omega arith), lp.front (omega arith))
  weighed-by false e f = rw (lr.count, ld.count, lp.count, cut-enough degree (length angles) (length ra) (length dec) (length pm), e)

  pub decided : {there numeric : Bool} (a : Result ℕ FindError) → Looks there numeric angles before a angles' → there ≡ true → numeric ≡ true
      → by_terms epoch angles' ra' dec' pm' base (counted_of degree a r d p) ≡ by_kinds epoch true degree angles ra dec pm base
  decided (Ok n) l e i =
      let f = counted l n refl in
      rw f.count (weighed-by (enough_angles degree angles ra dec pm) refl (front angles before angles' (length angles) f.written f.roomy refl))
  decided (Err F.TooMany) l e i =
      rw (crowded-groups degree (length angles) (length ra) (length dec) (length pm) low (omega (arith, (crowded l refl).crowded)))
  decided (Err F.Mixed) l e i = true-false (sym i ∙ (mixed l refl).strings)
  decided (Err F.Absent) l e i = true-false (sym e ∙ absent l refl)

-- ---- counts that are well are within the buffers

module _ (angles ra dec pm : List Float) (n : Lengths)
    (size : length angles ≡ ANGLES) (size_ra : length ra ≡ COEFFICIENTS) (size_dec : length dec ≡ COEFFICIENTS) (size_pm : length pm ≡ COEFFICIENTS) where
  fronts-by : (b : Bool) (degree m x y z : ℕ) → degree ≤ CUBIC → enough_groups degree m x y z ≡ b → Ok n ≡ weighed degree m x y z
      → m ≤ length angles → Fronts n angles ra dec pm
  fronts-by true degree m x y z low e w h =
      let g : Ok n ≡ Ok (record { degree = degree; angles = m; ra = x; dec = y; pm = z }) = rw e at w in
      let s : n ≡ record { degree = degree; angles = m; ra = x; dec = y; pm = z } = cc in
      let u = enough-groups degree m x y z e in
      rw s
      (record {
        in_angles = h;
        in_ra = omega arith;
        in_dec = omega arith;
        in_pm = omega arith;
        low = low;
        for_ra = omega arith;
        for_dec = omega arith;
        for_pm = omega arith;
      })
  fronts-by false degree m x y z low e w h =
      let g : Ok n ≡ Err WrongCount = rw e at w in absurd (let o : ◌≡◌ {A = ℕ} 0 1 = cc in omega arith)

  fronts : {there numeric : Bool} {xs before : List Float} (degree : ℕ) (a r d p : Result ℕ FindError) → degree ≤ CUBIC → Looks there numeric xs before a angles
      → Ok n ≡ counted_of degree a r d p → length before ≡ ANGLES → Fronts n angles ra dec pm
  fronts degree (Ok m) r d p low f w b =
      let c = counted f m refl in
      fronts-by (enough_groups degree m (count_of r) (count_of d) (count_of p)) degree m (count_of r) (count_of d) (count_of p) low refl w
      (omega (arith, c.count, c.roomy))
  fronts degree (Err F.TooMany) r d p low f w b = absurd (let o : ◌≡◌ {A = ℕ} 0 1 = cc in omega arith)
  fronts degree (Err F.Mixed) r d p low f w b = absurd (let o : ◌≡◌ {A = ℕ} 0 1 = cc in omega arith)
  fronts degree (Err F.Absent) r d p low f w b = absurd (let o : ◌≡◌ {A = ℕ} 0 1 = cc in omega arith)

  fronts-of : {there numeric : Bool} {xs before : List Float} (t : Bool) (degree : Option ℕ) (mixed u : Bool) (a r d p : Result ℕ FindError) → is_there a ≡ t
      → any_mixed a r d p ≡ u → Low degree → Looks there numeric xs before a angles → Ok n ≡ terms_of degree mixed a r d p
      → length before ≡ ANGLES → Fronts n angles ra dec pm
  fronts-of false degree mixed u a r d p e f low l w b =
      let g : Ok n ≡ Err Incomplete = rw e at w in absurd (let z : ◌≡◌ {A = ℕ} 0 1 = cc in omega arith)
  fronts-of true None mixed u a r d p e f low l w b =
      let g : Ok n ≡ Err BadDegree = rw e at w in absurd (let z : ◌≡◌ {A = ℕ} 0 1 = cc in omega arith)
  fronts-of true (Some x) true u a r d p e f low l w b =
      let g : Ok n ≡ Err MixedKind = rw e at w in absurd (let z : ◌≡◌ {A = ℕ} 0 1 = cc in omega arith)
  fronts-of true (Some x) false true a r d p e f low l w b =
      let g : Ok n ≡ Err MixedKind = rw (e, f) at w in absurd (let z : ◌≡◌ {A = ℕ} 0 1 = cc in omega arith)
  fronts-of true (Some x) false false a r d p e f low l w b = fronts x a r d p (low.cubic x refl) l (rw (e, f) at w) b

  -- what it came to, where it came to counts
  pub served : {there numeric : Bool} {xs before : List Float} (degree : Option ℕ) (mixed : Bool) (a r d p : Result ℕ FindError) → Low degree
      → Looks there numeric xs before a angles → Ok n ≡ terms_of degree mixed a r d p → length before ≡ ANGLES → Fronts n angles ra dec pm
  served degree mixed a r d p = fronts-of (is_there a) degree mixed (any_mixed a r d p) a r d p refl refl
