-- `all_distinct` meets its contract: what is left is distinct exactly when all is, since each word passed stands only once.
-- Assumes nothing.
use Prim.Native.Nat.{ℕ, ◌+◌, ◌-◌}
use mathlib.Core.Path.{◌≡◌, sym, ap, ap₂, ◌∙◌}
use mathlib.Core.List.{List}
use lib.ListN.{length, drop, take, get_or}
use Rattle.std.specs.Prelude.{Option}
use Rattle.std.specs.Option.{is_some}
use Rattle.words.specs.Halves.{upper, found}
use Rattle.words.proofs.Chains.{found-within, found-beyond}
use Rattle.words.proofs.Steps.{distinct-next, distinct-stop, distinct-end, rest_part}
use Rattle.words.proofs.scan.all_distinct.Goals as goal

-- what `place_of` says of the part that is lent, said of what is left
rest : (ws : List ℕ) (i u : ℕ) (r : Option ℕ) → u ≡ upper (get_or ws i 0) → r ≡ found u (take (length ws - (i + 1)) (drop (i + 1) ws))
    → is_some r ≡ is_some (found (upper (get_or ws i 0)) (drop (i + 1) ws))
rest ws i u r e f = ap is_some (f ∙ ap₂ found e (rest_part ws (i + 1)))

pub returns-then-is_some : goal.returns-then-is_some
returns-then-is_some c =
    let ws = c.args.ws.now in
    let i = c.loop-i.i in
    let s = sym (rest ws i _ _ c.upper.ensures c.place_of.ensures) ∙ sym c.is_some.ensures ∙ c.if-is_some.true in
    distinct-stop ws i c.loop-i-test.true (found-within _ _ s) ∙ c.loop-i.invariant

pub loop-i-preserved : goal.loop-i-preserved
loop-i-preserved c =
    let ws = c.args.ws.now in
    let i = c.loop-i.i in
    let s = sym (rest ws i _ _ c.upper.ensures c.place_of.ensures) ∙ sym c.is_some.ensures ∙ c.if-is_some.false in
    distinct-next ws i c.loop-i-test.true (found-beyond _ _ s) ∙ c.loop-i.invariant

pub returns : goal.returns
returns c = distinct-end _ _ c.loop-i.auto.i-end c.loop-i-test.false ∙ c.loop-i.invariant
