-- `run` meets its contract: the run is what stands from its start to its end; past the line's end there is none. Assumes nothing.
use native.Mathlib.Omega.{arith}
use mathlib.Core.Path.{sym}
use Rattle.plain.proofs.Places.{past_after, take_past, run-beyond}
use Rattle.value.specs.Classes.{is}
use Rattle.value.proofs.classes.run.Goals as goal

pub slice_bounds-result-count : goal.slice_bounds-result-count
slice_bounds-result-count c =
    let a = c.args in
    omega (arith, c.past-end.ensures, past_after (is a.k) a.line.now a.at)

pub slice_bounds-result-start : goal.slice_bounds-result-start
slice_bounds-result-start c =
    let a = c.args in
    omega (arith, c.past-end.ensures, past_after (is a.k) a.line.now a.at)

pub returns-then-end-line : goal.returns-then-end-line
returns-then-end-line c =
    let a = c.args in
    rw c.past-end.ensures (take_past (is a.k) a.line.now a.at)

pub returns : goal.returns
returns c =
    let a = c.args in
    sym (run-beyond (is a.k) a.line.now a.at (omega (arith, c.past-end.ensures)))
