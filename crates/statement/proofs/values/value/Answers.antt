-- `value` meets its contract: each way out is one case of `given_at`. Assumes nothing.
use Prim.Native.Nat.{ℕ}
use native.Mathlib.Omega.{arith}
use native.Mathlib.Nat.{add-zero}
use mathlib.Core.Path.{refl, sym, ap, ◌∙◌}
use mathlib.Core.List.{[], ◌∷◌}
use Rattle.std.specs.Prelude.{Result}
use Rattle.value.specs.declared.Word.{Word}
use Rattle.value.specs.declared.faults.LineFault.{LineFault}
use Rattle.std.proofs.lemmas.Result.{err_from_is_err_and}
use Rattle.plain.specs.Bytes.{OPEN}
use Rattle.value.specs.Value.{bytes_in, value_of}
use Rattle.value.proofs.Found.{value-long}
use Rattle.value.proofs.Standing.{stands-within}
use Rattle.statement.specs.Values.{rest, alone, taken, given_at}
use Rattle.statement.proofs.values.value.Goals as goal

pub overflow_add-at : goal.overflow_add-at
overflow_add-at c =
    let a = c.args in
    omega (arith, stands-within OPEN a.line.now a.at _ (omega arith) c.stands.ensures c.if-stands.true)

pub returns-then-stands : goal.returns-then-stands
unfolding given_at
returns-then-stands c = simp (sym c.stands.ensures, c.if-stands.true) c.list.ensures

pub returns-in_err-word : goal.returns-in_err-word
unfolding given_at
returns-in_err-word c =
    let p = err_from_is_err_and c.from_residual.result c.from_residual.ensures.1 in
    rw (p.1, p.2)
    (simp (sym c.stands.ensures, c.if-stands.false)
    (ap (λ (r : Result Word LineFault). taken (alone c.args.line.now r)) (sym c.in_err-word.was ∙ c.read_value.ensures)))

pub returns : goal.returns
unfolding given_at
returns c =
    let line = c.args.line.now in
    let v = value_of line c.in_ok-word.word in
    let e = sym c.in_ok-word.was ∙ c.read_value.ensures in
    simp (sym c.stands.ensures, c.if-stands.false)
    (c.rest.ensures (v ∷ []) refl (add-zero (bytes_in v) ∙ value-long line c.args.at c.in_ok-word.word (sym e) ∙ sym c.long.ensures)
    ∙ ap (λ (k : ℕ). taken (rest (v ∷ []) line k)) c.end.ensures
    ∙ ap (λ (r : Result Word LineFault). taken (alone line r)) e)
