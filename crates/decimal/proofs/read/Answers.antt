-- `read` meets its contract: what is left after each part is worth the same, up to the tests of the class. Assumes nothing.
use Prim.Native.Nat.{ℕ}
use mathlib.Core.Path.{◌≡◌, ap, ◌∙◌}
use mathlib.Core.Bool.{Bool}
use mathlib.Core.List.{List}
use lib.ListN.{drop}
use Rattle.std.specs.Prelude.{Option}
use Rattle.plain.specs.Bytes.{digit}
use Rattle.plain.specs.Runs.{run, skip}
use Rattle.decimal.specs.Form.{minus, pointed, written}
use Rattle.decimal.specs.Class.{valued, reading}
use Rattle.decimal.specs.Parts.{SignAt, WholeAt, whole_written}
use Rattle.decimal.specs.declared.sign.Sign.{Sign}
use Rattle.decimal.specs.declared.whole.Whole.{Whole}
use Rattle.decimal.proofs.read.Goals as goal

signed : (bs : List ℕ) (s : Sign) → SignAt bs 0 s → valued (pointed s.minus (run digit (drop s.end bs)) (skip digit (drop s.end bs))) ≡ reading bs
unfolding reading written
signed bs s S =
    ap (λ (m : Bool). valued (pointed m (run digit (drop s.end bs)) (skip digit (drop s.end bs)))) S.is-minus
    ∙ ap (λ (l : List ℕ). valued (pointed (minus bs) (run digit l) (skip digit l))) S.rest

parts : (bs : List ℕ) (s : Sign) (n : Option Whole) → SignAt bs 0 s → WholeAt bs s.end n → valued (whole_written s.minus bs n) ≡ reading bs
parts bs s n S N = N.worth s.minus ∙ signed bs s S

pub returns-in_default : goal.returns-in_default
returns-in_default c = rw c.in_default.is at (parts _ _ _ c.read_sign-sign.ensures c.read_whole.ensures)

pub returns-in_default-read_exponent : goal.returns-in_default-read_exponent
returns-in_default-read_exponent c =
    c.in_default-read_exponent.ensures.worth _ _ ∙ rw c.in-Some.is at (parts _ _ _ c.read_sign-sign.ensures c.read_whole.ensures)

pub returns : goal.returns
returns c = c.scale.ensures ∙ c.in-Some-read_exponent.ensures.worth _ _ ∙ parts _ _ _ c.read_sign-sign.ensures c.in-Some.ensures
