-- No evaluation overflows: the values of an undamaged pool are below 2^200 in size, and a body has at most 32 coefficients. Assumes nothing.
use Prim.Native.Nat.{ℕ, zero, suc, ◌+◌, ◌%◌, ◌≤◌, max}
use native.Mathlib.Nat.{zero-div}
use native.Mathlib.Omega.{arith}
use mathlib.Core.Path.{◌≡◌, refl, sym, ap, subst}
use mathlib.Core.Bool.{Bool, true, false, ◌&&◌, ◌||◌}
use mathlib.Core.List.{List, [], ◌∷◌}
use borrow.Author.Tests.{leb-true}
use lib.Dec.{eqb, leb, lit<}
use lib.Ieee.{Float, nan, round}
use lib.ListN.{length, get_or}
use Rattle.std.specs.Prelude.{if◌then◌else◌, Some, Result, Ok}
use Rattle.plain.specs.Doubles.{printed}
use Rattle.plain.proofs.Bounded.{Under}
use Rattle.rotation.specs.Elements.{LINEAR, CUBIC, GROUPS, groups, Enough}
use Rattle.rotation.specs.Codes.{system_of}
use Rattle.rotation.specs.Table.{row_of, neptune_angle, neptune_ra, neptune_dec, neptune_pm}
use Rattle.rotation.specs.Builtin.{neptunes}
use Rattle.rotation.specs.Finite.{Finite, SmallPolynomial, SmallValues, SmallInput}
use Rattle.rotation.specs.Overflow.{NeverOverflows}
use Rattle.rotation.specs.declared.elements.Elements.{Elements}
use Rattle.rotation.specs.declared.matrix.Orientation.{Orientation}
use Rattle.rotation.proofs.Overflow.{never-overflows}
use Rattle.rotation.proofs.Answers.{row-never-overflows, builtin-finite}
use Rattle.statement.specs.Statements.{Values, numbers, strings, Statement}
use Rattle.plain.proofs.Each.{Each, each_append, each_at, each_weaken}
use Rattle.plain.proofs.Tests.{both, true-false}
use Rattle.layout.specs.State.{Pool, program, flat}
use Rattle.layout.specs.Memory.{decode}
use Rattle.layout.specs.Damage.{small}
use Rattle.layout.proofs.Sound.{sound-of}
use Rattle.layout.proofs.Legal.{Fair, FairValues}
use Rattle.layout.proofs.Holds.{decode-legal}
use Rattle.variables.specs.Variables.{Datum, number, string, has, assigns, any, since, each, gives, variable, present}
use Rattle.variables.specs.Found.{numbers_among, doubles}
use Rattle.variables.proofs.Presence.{absent-empty}
use Rattle.wanted.specs.Names.{name_of}
use Rattle.wanted.specs.Elements.{there, list, polynomial, elements, few_values, nutating, enough_angles, well_counted, angles}
use Rattle.degree.specs.Degree.{degree}
use Rattle.degree.proofs.Degrees.{degree-low}
use Rattle.globe.specs.Orientation.{orientation_reply}
use Rattle.wanted.specs.declared.name.Wanted.{Wanted}
use Rattle.wanted.specs.declared.name.Wanted.TheVariants as W
use Rattle.globe.specs.declared.source.Source.{Source}
use Rattle.globe.specs.declared.source.Source.TheVariants as S
use Rattle.promises.specs.Calls.{asked, library, oriented}
use Rattle.promises.specs.Demands.{NoOverflow}
use Rattle.layout.proofs.Small.{small-below}
use Rattle.refusal.specs.declared.Refusal.{Refusal}
use Rattle.promises.proofs.Oriented.{given-exactly, builtin-exactly}

-- ---- the values of a variable

-- a number is small; nothing is asked of a string
abbrev SmallDatum : Datum → Type 0
SmallDatum (number w) = small w ≡ true
SmallDatum (string s) = Unit {0}

abbrev pub SmallStatement : Statement → Type 0
SmallStatement x = FairValues x.values

each-small : (v : Values) → FairValues v → Each SmallDatum (each v)
each-small (numbers []) f = tt
each-small (numbers (w ∷ ws)) f = (f.0, each-small (numbers ws) f.1)
each-small (strings []) f = tt
each-small (strings (s ∷ ss)) f = (tt, each-small (strings ss) f.1)

among-under : (vs : List Datum) → Each SmallDatum vs → Each (Under 200) (numbers_among vs)
among-under [] f = tt
among-under (number w ∷ vs) f = (record { is = small-below w f.0 }, among-under vs f.1)
among-under (string s ∷ vs) f = among-under vs f.1

module _ (name : List ℕ) where
  each-since : (ss : List Statement) → Each SmallStatement ss → Each SmallStatement (since name ss)
  unfolding since
  each-since [] f = tt
  each-since (s ∷ ss) f = by (any (assigns name) ss) (each-since ss f.1)
    where
      by : (b : Bool) → Each SmallStatement (since name ss) → Each SmallStatement (if b then since name ss else (s ∷ ss))
      by true g = g
      by false g = f

  given-small : (ss : List Statement) → Each SmallStatement ss → Each SmallDatum (flat (gives name) ss)
  unfolding flat
  given-small [] f = tt
  given-small (s ∷ ss) f = each_append SmallDatum (gives name s) (flat (gives name) ss) (by (has name s)) (given-small ss f.1)
    where
      by : (b : Bool) → Each SmallDatum (if b then each s.values else [])
      by true = each-small s.values f.0
      by false = tt

  pub doubles-under : (s : Pool) → Each SmallStatement (program s) → Each (Under 200) (doubles name s)
  unfolding variable
  doubles-under s f =
      among-under (variable name s) (given-small (since name (program s)) (each-since (program s) f))

absent_none : (name : List ℕ) (s : Pool) → present name s ≡ false → doubles name s ≡ []
absent_none name s e = ap numbers_among (absent-empty name s e)

-- ---- a body's polynomials and coefficients

nought-under : Under 200 (printed 0 0)
unfolding printed round
nought-under = record { is = lit< tt }

get_or-under : (xs : List Float) (i : ℕ) → Each (Under 200) xs → Under 200 (get_or xs i (printed 0 0))
get_or-under [] i f = nought-under
get_or-under (x ∷ xs) zero f = f.0
get_or-under (x ∷ xs) (suc i) f = get_or-under xs i f.1

small-polynomial : (xs : List Float) → Each (Under 200) xs → SmallPolynomial (polynomial xs)
small-polynomial xs f = record { c0 = (get_or-under xs 0 f).is; c1 = (get_or-under xs 1 f).is; c2 = (get_or-under xs 2 f).is }

small-values : (xs : List Float) → Each (Under 200) xs → SmallValues xs
small-values xs f = record { each = λ i h. (each_at (Under 200) xs i nan h f).is }

record Counted (degree : ℕ) (angles ra dec pm : List Float) : Type 0 where
  few : groups degree (length angles) ≤ GROUPS
  enough : Enough degree angles ra dec pm

module _ (degree : ℕ) (low : degree ≤ CUBIC) where
  counted-there : (angles ra dec pm : List Float) → enough_angles degree angles ra dec pm ≡ true → Counted degree angles ra dec pm
  counted-there angles ra dec pm e =
      let l = length angles in
      let most = max (length ra) (max (length dec) (length pm)) in
      let whole = eqb (l % (degree + 1)) 0 in
      let a = both (whole && leb (groups degree l) GROUPS) (leb most (groups degree l)) e in
      let m : most ≤ groups degree l = leb-true _ _ a.1 in
      record {
        few = leb-true _ _ (both whole (leb (groups degree l) GROUPS) a.0).1;
        enough = record { low = low; for_ra = omega arith; for_dec = omega arith; for_pm = omega arith };
      }

  module _ (s : Pool) (n k : ℕ) where
    counted-absent : nutating s n ≡ false → Counted degree [] (list s n W.NutPrecRa) (list s n W.NutPrecDec) (list s n W.NutPrecPm)
    counted-absent e =
        let a = neither (there s n W.NutPrecRa || there s n W.NutPrecDec) (there s n W.NutPrecPm) e in
        let b = neither (there s n W.NutPrecRa) (there s n W.NutPrecDec) a.0 in
        record {
          few = omega (arith, zero-div (degree + 1));
          enough = record { low = low; for_ra = none W.NutPrecRa b.0; for_dec = none W.NutPrecDec b.1; for_pm = none W.NutPrecPm a.1 };
        }
      where
        neither : (x y : Bool) → (x || y) ≡ false → (x ≡ false) × (y ≡ false)
        neither true y e = true-false e
        neither false y e = (refl, e)

        none : (w : Wanted) → there s n w ≡ false → length (list s n w) ≤ groups degree 0
        none w e = omega (arith, ap length (absent_none (name_of n w) s e))

    counted : well_counted s n k degree ≡ true → Counted degree (angles s n k) (list s n W.NutPrecRa) (list s n W.NutPrecDec) (list s n W.NutPrecPm)
    counted e = by (nutating s n) refl (both (few_values (list s n W.PoleRa) && few_values (list s n W.PoleDec) && few_values (list s n W.Pm)) _ e).1
      where
        by : (b : Bool) → nutating s n ≡ b
            → (if b then enough_angles degree (list s k W.NutPrecAngles) (list s n W.NutPrecRa) (list s n W.NutPrecDec) (list s n W.NutPrecPm) else true) ≡ true
            → Counted degree (if b then list s k W.NutPrecAngles else []) (list s n W.NutPrecRa) (list s n W.NutPrecDec) (list s n W.NutPrecPm)
        by true q h = counted-there (list s k W.NutPrecAngles) (list s n W.NutPrecRa) (list s n W.NutPrecDec) (list s n W.NutPrecPm) h
        by false q h = counted-absent q

small-input : (s : Pool) (n k d : ℕ) → Each SmallStatement (program s) → degree s n k ≡ Some d → well_counted s n k d ≡ true
    → SmallInput (elements s n) d (angles s n k) (list s n W.NutPrecRa) (list s n W.NutPrecDec) (list s n W.NutPrecPm)
small-input s n k d f g e =
    let c = counted d ((degree-low (nutating s n) s k refl).cubic d g) s n k e in
    record {
      pole_ra = small-polynomial (list s n W.PoleRa) (under n W.PoleRa);
      pole_dec = small-polynomial (list s n W.PoleDec) (under n W.PoleDec);
      meridian = small-polynomial (list s n W.Pm) (under n W.Pm);
      few = c.few;
      enough = c.enough;
      system = system (nutating s n);
      for_ra = small-values (list s n W.NutPrecRa) (under n W.NutPrecRa);
      for_dec = small-values (list s n W.NutPrecDec) (under n W.NutPrecDec);
      for_pm = small-values (list s n W.NutPrecPm) (under n W.NutPrecPm);
    }
  where
    under : (i : ℕ) (w : Wanted) → Each (Under 200) (list s i w)
    under i w = doubles-under (name_of i w) s f

    system : (b : Bool) → SmallValues (if b then list s k W.NutPrecAngles else [])
    system true = small-values (list s k W.NutPrecAngles) (under k W.NutPrecAngles)
    system false = small-values [] tt

-- ---- every orientation

module _ (m : List ℕ) (n : ℕ) (epoch : Float) (o : Orientation) where
  pool-steps : (k d : ℕ) → orientation_reply S.Pool m n epoch ≡ Ok o → system_of n ≡ Some k → degree (decode m) n k ≡ Some d
      → NeverOverflows (elements (decode m) n) epoch d (angles (decode m) n k)
      (list (decode m) n W.NutPrecRa) (list (decode m) n W.NutPrecDec) (list (decode m) n W.NutPrecPm)
  pool-steps k d e l g =
      let h = (given-exactly m n epoch o).0 e in
      let fair = (decode-legal m (sound-of m h.0)).statements in
      let legal = h.1.legal in
      let same : h.1.system ≡ k = cc in
      let told = subst (λ (i : ℕ). degree (decode m) n i ≡ Some h.1.degree) same h.1.announced in
      let alike : h.1.degree ≡ d = cc in
      let counts = subst (λ (i : ℕ). well_counted (decode m) n i h.1.degree ≡ true) same h.1.counts in
      never-overflows _ epoch d _ _ _ _ h.1.reach
      (small-input (decode m) n k d (each_weaken Fair SmallStatement (λ x g. g.values) (program (decode m)) fair) g
      (subst (λ (i : ℕ). well_counted (decode m) n k i ≡ true) alike counts))

  table-steps : (row : Elements) → orientation_reply S.Builtin m n epoch ≡ Ok o → row_of n ≡ Some row
      → NeverOverflows row epoch LINEAR (neptunes n neptune_angle) (neptunes n neptune_ra) (neptunes n neptune_dec) (neptunes n neptune_pm)
  table-steps row e l = row-never-overflows n epoch row ((builtin-exactly m n epoch o).0 e).reach l

finite : (source : Source) (m : List ℕ) (n : ℕ) (epoch : Float) (o : Orientation) → orientation_reply source m n epoch ≡ Ok o → Finite o
unfolding orientation_reply
finite S.Builtin m n epoch o e = builtin-finite n epoch o e
finite S.Pool m n epoch o e =
    let h = ((given-exactly m n epoch o).0 e).1 in
    subst Finite (sym h.evaluation) (pool-steps m n epoch o h.system h.degree e h.legal h.announced).answer

pub no_overflow : NoOverflow library
unfolding asked
no_overflow =
    record {
      answers = λ source m n epoch o e. finite source m n epoch o (same e);
      pools = λ m n k d epoch o e l g. pool-steps m n epoch o k d (same e) l g;
      tables = λ m n epoch o row e l. table-steps m n epoch o row (same e) l;
    }
  where
    same : {r : Result Orientation Refusal} {o : Orientation} → oriented r ≡ oriented (Ok o) → r ≡ Ok o
    same e = cc
