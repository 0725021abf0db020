-- `all_named` meets its contract: the names left are legal exactly when all are, since each one passed is. Assumes nothing.
use mathlib.Core.Path.{◌≡◌, sym, ap, ◌∙◌}
use mathlib.Core.Bool.{Bool, true, false}
use mathlib.Core.List.{List}
use Prim.Native.Nat.{ℕ, ◌+◌, ◌*◌, ◌-◌, ◌≤◌, ◌<◌}
use native.Mathlib.Omega.{arith}
use lib.ListN.{length, take, drop}
use lib.Seq.{drop-drop}
use Rattle.words.proofs.Steps.{drop-next, drop-end}
use Rattle.names.specs.Names.{NAMEWORDS, holds_name}
use Rattle.layout.specs.Damage.{all_named}
use Rattle.layout.proofs.check.all_named.Goals as goal

-- the four words from place 4 · i on, and what is left after them
module _ (hs ns : List ℕ) (i : ℕ) (h : i < length hs) (t : Bool) (e : t ≡ holds_name (take (NAMEWORDS * i + NAMEWORDS - NAMEWORDS * i) (drop (NAMEWORDS * i) ns))) where
  name : List ℕ
  name = take NAMEWORDS (drop (NAMEWORDS * i) ns)

  asked : holds_name name ≡ t
  unfolding name
  asked = let q : NAMEWORDS * i + NAMEWORDS - NAMEWORDS * i ≡ NAMEWORDS = omega arith in sym (e ∙ ap (λ (k : ℕ). holds_name (take k (drop (NAMEWORDS * i) ns))) q)

  stop : t ≡ false → all_named (drop i hs) (drop (NAMEWORDS * i) ns) ≡ false
  unfolding all_named name
  stop f = ap (λ (l : List ℕ). all_named l (drop (NAMEWORDS * i) ns)) (drop-next hs i 0 h) ∙ rw (asked ∙ f)

  next : t ≡ true → all_named (drop (i + 1) hs) (drop (NAMEWORDS * (i + 1)) ns) ≡ all_named (drop i hs) (drop (NAMEWORDS * i) ns)
  unfolding all_named name
  next f =
      let q : NAMEWORDS * i + NAMEWORDS ≡ NAMEWORDS * (i + 1) = omega arith in
      let r : drop NAMEWORDS (drop (NAMEWORDS * i) ns) ≡ drop (NAMEWORDS * (i + 1)) ns = drop-drop NAMEWORDS (NAMEWORDS * i) ns ∙ ap (λ (k : ℕ). drop k ns) q in
      sym (ap (λ (l : List ℕ). all_named l (drop (NAMEWORDS * i) ns)) (drop-next hs i 0 h) ∙ rw (asked ∙ f) (ap (all_named (drop (i + 1) hs)) r))

none_left : (hs ns : List ℕ) (i : ℕ) → i ≤ length hs → length hs ≤ i → true ≡ all_named (drop i hs) (drop (NAMEWORDS * i) ns)
unfolding all_named
none_left hs ns i h k = sym (ap (λ (l : List ℕ). all_named l (drop (NAMEWORDS * i) ns)) (drop-end hs i h k))

pub returns-then-not-holds_name : goal.returns-then-not-holds_name
returns-then-not-holds_name c =
    let l = c.loop-i in
    let a = c.args in
    sym (stop a.heads.now a.names.now l.i c.loop-i-test.true _ c.holds_name.ensures c.if-not-holds_name.true) ∙ l.invariant

pub loop-i-preserved : goal.loop-i-preserved
loop-i-preserved c =
    let l = c.loop-i in
    let a = c.args in
    next a.heads.now a.names.now l.i c.loop-i-test.true _ c.holds_name.ensures c.if-not-holds_name.false ∙ l.invariant

pub returns : goal.returns
returns c =
    let a = c.args in
    none_left a.heads.now a.names.now c.loop-i.i c.loop-i.auto.i-end c.loop-i-test.false ∙ c.loop-i.invariant
