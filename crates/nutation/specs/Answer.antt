-- The answer by nutation, once by the buffers that the variables were found in, and once by the texts of a pool; that the two are one is a
-- law of proofs/. Definitions only.
use Rattle.std.specs.Prelude.{ℕ, ◌≤◌, Bool, true, ◌&&◌, not, List, Float, length, take, if◌then◌else◌, Option, Some, None, Result, Ok, Err}
use Rattle.refusal.specs.declared.Refusal.{Refusal}
use Rattle.refusal.specs.declared.Refusal.TheVariants.{Incomplete, BadDegree, MixedKind, WrongCount}
use Rattle.rotation.specs.Elements.{CUBIC, groups}
use Rattle.rotation.specs.Evaluation.{evaluated}
use Rattle.rotation.specs.declared.elements.Elements.{Elements}
use Rattle.rotation.specs.declared.matrix.Orientation.{Orientation}
use Rattle.layout.specs.State.{Pool}
use Rattle.variables.specs.declared.variable.FindError.{FindError}
use Rattle.wanted.specs.Elements.{there, numeric, list, nutating, angles, enough_angles}
use Rattle.wanted.specs.Steps.{is_mixed}
use Rattle.wanted.specs.declared.name.Wanted.TheVariants as W
use Rattle.degree.specs.Degree.{degree}
use Rattle.nutation.specs.declared.terms.Lengths.{Lengths}

-- what pole and meridian came to
abbrev pub Base : Type 0
Base = Result Elements FindError

abbrev pub Answer : Type 0
Answer = Result Orientation Refusal

-- where pole and meridian have 1 to 3 values each, the evaluation; else 12
abbrev pub by_base : (epoch : Float) (degree : ℕ) (angles ra dec pm : List Float) → Base → Answer
by_base epoch degree angles ra dec pm (Ok e) = Ok (evaluated e epoch degree angles ra dec pm)
by_base epoch degree angles ra dec pm (Err e) = Err WrongCount

-- ---- by the buffers

-- the counts are within the buffers, and each of the three has an angle for every coefficient
pub record Fronts (n : Lengths) (angles ra dec pm : List Float) : Type 0 where
  pub in_angles : n.angles ≤ length angles
  pub in_ra : n.ra ≤ length ra
  pub in_dec : n.dec ≤ length dec
  pub in_pm : n.pm ≤ length pm
  pub low : n.degree ≤ CUBIC
  pub for_ra : n.ra ≤ groups n.degree n.angles
  pub for_dec : n.dec ≤ groups n.degree n.angles
  pub for_pm : n.pm ≤ groups n.degree n.angles

-- the lists are the fronts of the buffers
abbrev pub by_terms : (epoch : Float) (angles ra dec pm : List Float) → Base → Result Lengths Refusal → Answer
by_terms epoch angles ra dec pm base (Err refusal) = Err refusal
by_terms epoch angles ra dec pm base (Ok n) =
    by_base epoch n.degree (take n.angles angles) (take n.ra ra) (take n.dec dec) (take n.pm pm) base

-- ---- by the texts

-- 16 comes before 12
abbrev pub by_kinds : (epoch : Float) (numeric : Bool) (degree : ℕ) (angles ra dec pm : List Float) → Base → Answer
by_kinds epoch numeric degree angles ra dec pm base =
    if numeric
    then (if enough_angles degree angles ra dec pm then by_base epoch degree angles ra dec pm base else Err WrongCount)
    else Err MixedKind

-- 23 before these
abbrev pub by_degree : (epoch : Float) (numeric : Bool) → Option ℕ → (angles ra dec pm : List Float) → Base → Answer
by_degree epoch numeric (Some d) angles ra dec pm base = by_kinds epoch numeric d angles ra dec pm base
by_degree epoch numeric None angles ra dec pm base = Err BadDegree

-- and 11, where the angles are missing, before all
abbrev pub by_angles : (epoch : Float) (there numeric : Bool) → Option ℕ → (angles ra dec pm : List Float) → Base → Answer
by_angles epoch there numeric degree angles ra dec pm base =
    if there then by_degree epoch numeric degree angles ra dec pm base else Err Incomplete

-- no string is in the nutation variables that are there, nor in the angles where one of them is
abbrev pub numeric_nutation : Pool → (n k : ℕ) → Bool
numeric_nutation s n k =
    numeric s n W.NutPrecRa && numeric s n W.NutPrecDec && numeric s n W.NutPrecPm
    && (if nutating s n then numeric s k W.NutPrecAngles else true)

-- a string in one of pole and meridian is told with those in the nutation variables
abbrev pub by_nutation : Pool → (n k : ℕ) (epoch : Float) → Base → Answer
by_nutation s n k epoch base =
    by_angles epoch (if nutating s n then there s k W.NutPrecAngles else true) (not (is_mixed base) && numeric_nutation s n k) (degree s n k)
    (angles s n k) (list s n W.NutPrecRa) (list s n W.NutPrecDec) (list s n W.NutPrecPm) base
