-- `is_open_orderly` meets its contract: each way out before the last is a limit that is passed. Assumes nothing.
use mathlib.Core.Path.{sym, ap, ◌∙◌}
use native.Mathlib.Omega.{arith}
use Rattle.layout.specs.Limits.{TEXTWORDS}
use Rattle.layout.specs.Damage.{orderly}
use Rattle.layout.specs.Totals.{under}
use Rattle.layout.specs.declared.front.Totals.{Totals}
use Rattle.layout.proofs.Asking.{kept-over, counted-over, values-over, bytes-over, all-kept}
use Rattle.layout.proofs.check.is_open_orderly.Goals as goal

pub returns-then-m-gt-LONGEST_KEPT : goal.returns-then-m-gt-LONGEST_KEPT
returns-then-m-gt-LONGEST_KEPT c = sym (kept-over c.args.m.now (omega arith))

pub returns-then-m-gt-MOST_COUNTED : goal.returns-then-m-gt-MOST_COUNTED
returns-then-m-gt-MOST_COUNTED c = sym (counted-over c.args.m.now (omega arith))

pub returns-then-m-gt-VALUES : goal.returns-then-m-gt-VALUES
returns-then-m-gt-VALUES c = sym (values-over c.args.m.now c.requires.sizes.words (omega arith))

pub returns-then-m-gt-BYTES : goal.returns-then-m-gt-BYTES
returns-then-m-gt-BYTES c =
    sym (bytes-over c.args.m.now c.requires.sizes.words (omega arith))

pub returns : goal.returns
returns c =
    let m = c.args.m.now in
    c.is_orderly.ensures ∙ ap (λ (x : Totals). orderly TEXTWORDS (under x m)) c.totals_merged.ensures ∙ sym (all-kept m (omega arith) (omega arith))
