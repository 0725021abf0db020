-- `all_fair` meets its contract: the bytes left are fair exactly when all are, since each word passed is. Assumes nothing.
use mathlib.Core.Path.{◌≡◌, sym, ap, ◌∙◌}
use Prim.Native.Nat.{ℕ, ◌-◌, ◌*◌, ◌/◌}
use Rattle.words.specs.Over.{part}
use Rattle.words.specs.Halves.{all}
use native.Mathlib.Omega.{arith}
use Rattle.plain.specs.Bytes.{fair}
use Rattle.octets.specs.Octets.{octets}
use Rattle.octets.proofs.Tested.{tested-start, words-next, words-stop}
use Rattle.octets.proofs.fair.all_fair.Goals as goal

pub loop-k-init : goal.loop-k-init
loop-k-init c = tested-start fair (octets c.args.ws.now) 0 c.args.n

pub returns-then-not-word_fair : goal.returns-then-not-word_fair
returns-then-not-word_fair c =
    let a = c.args in
    words-stop fair (octets a.ws.now) a.n c.loop-k.k c.loop-k-test.true (sym c.word_fair.ensures ∙ c.if-not-word_fair.true) ∙ c.loop-k.invariant

pub loop-k-preserved : goal.loop-k-preserved
loop-k-preserved c =
    let a = c.args in
    words-next fair (octets a.ws.now) a.n c.loop-k.k c.loop-k-test.true (sym c.word_fair.ensures ∙ c.if-not-word_fair.false) ∙ c.loop-k.invariant

pub returns : goal.returns
returns c =
    let a = c.args in
    let e : a.n / 8 ≡ c.loop-k.k = omega arith in
    c.bytes_fair.ensures ∙ ap (λ (k : ℕ). all fair (part (8 * k) (a.n - 8 * k) (octets a.ws.now))) e ∙ c.loop-k.invariant
