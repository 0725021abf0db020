-- `by_nutation` meets its contract: what the four variables found in their buffers and the degree come to settles the answer. Assumes nothing.
use mathlib.Core.Path.{refl, sym, ap, ◌∙◌}
use Rattle.std.specs.Prelude.{Ok}
use Rattle.std.proofs.lemmas.Result.{err_from_is_err_and}
use Rattle.degree.proofs.Degrees.{degree-low}
use Rattle.nutation.specs.Answer.{by_base, by_terms}
use Rattle.nutation.proofs.Coefficients.{served}
use Rattle.nutation.proofs.Settled.{settled}
use Rattle.nutation.proofs.answer.by_nutation.Goals as goal

pub judge-requires : goal.judge-requires
judge-requires c = degree-low _ _ _ c.find-degree.ensures

pub returns-in_err-lengths : goal.returns-in_err-lengths
returns-in_err-lengths c =
    let a = c.args in
    let p = err_from_is_err_and c.from_residual.result c.from_residual.ensures.1 in
    rw (p.1, p.2)
    (ap (by_terms _ _ _ _ _ _) (sym c.in_err-lengths.was)
    ∙ settled _ _ _ a.epoch a.base _ _ _ _ _ c.find-r.ensures c.find-d.ensures c.find-p.ensures c.any_there-wanted.ensures
    c.find_angles-a.ensures refl refl refl refl _ _ c.judge.result c.find-degree.ensures c.is_mixed.ensures c.judge.ensures)

pub returns-in_default : goal.returns-in_default
returns-in_default c =
    let a = c.args in
    ap (by_base _ _ _ _ _ _) (sym c.in_default.is)
    ∙ ap (by_terms _ _ _ _ _ _) (sym c.in_ok-lengths.was)
    ∙ settled _ _ _ a.epoch a.base _ _ _ _ _ c.find-r.ensures c.find-d.ensures c.find-p.ensures c.any_there-wanted.ensures
    c.find_angles-a.ensures refl refl refl refl _ _ c.judge.result c.find-degree.ensures c.is_mixed.ensures c.judge.ensures

pub evaluate-requires : goal.evaluate-requires
evaluate-requires c =
    served _ _ _ _ c.in_ok-lengths.lengths c.find_angles-a.auto.out c.find-r.auto.out c.find-d.auto.out c.find-p.auto.out
    c.find-degree.result c.is_mixed.result c.find_angles-a.result c.find-r.result c.find-d.result c.find-p.result
    (degree-low _ _ _ c.find-degree.ensures) c.find_angles-a.ensures (sym c.in_ok-lengths.was ∙ c.judge.ensures) refl

pub returns : goal.returns
returns c =
    let a = c.args in
    ap Ok c.evaluate.ensures
    ∙ ap (by_base _ _ _ _ _ _) (sym c.in-Ok.is)
    ∙ ap (by_terms _ _ _ _ _ _) (sym c.in_ok-lengths.was)
    ∙ settled _ _ _ a.epoch a.base _ _ _ _ _ c.find-r.ensures c.find-d.ensures c.find-p.ensures c.any_there-wanted.ensures
    c.find_angles-a.ensures refl refl refl refl _ _ c.judge.result c.find-degree.ensures c.is_mixed.ensures c.judge.ensures
