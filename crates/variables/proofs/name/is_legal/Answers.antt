-- `is_legal` meets its contract: all bytes are name bytes exactly when the run of them ends where the name does. Assumes nothing.
use Prim.Native.Nat.{ℕ, suc}
use mathlib.Core.Path.{◌≡◌, refl, sym, ap, ◌∙◌}
use mathlib.Core.Bool.{Bool, true, false}
use mathlib.Core.List.{List, [], ◌∷◌}
use native.Mathlib.Nat.{zero-add}
use lib.Dec.{eqb, leb, eqb-zero-suc, eqb-suc-suc}
use lib.ListN.{length}
use Rattle.std.specs.Prelude.{if◌then◌else◌}
use Rattle.plain.specs.Bytes.{within}
use Rattle.std.proofs.lemmas.Bool.Decides.{nat_tests}
use native.Mathlib.Omega.{arith}
use Rattle.plain.specs.Runs.{run, past}
use Rattle.value.specs.Classes.{name_byte}
use Rattle.statement.specs.Head.{NAME}
use Rattle.words.specs.Halves.{all}
use Rattle.names.specs.Names.{legal}
use Rattle.variables.proofs.name.is_legal.Goals as goal

all-run : (p : ℕ → Bool) (bs : List ℕ) → all p bs ≡ eqb (length (run p bs)) (length bs)
unfolding all
all-run p [] = refl
all-run p (b ∷ bs) = by (p b) (all-run p bs)
  where
    by : (t : Bool) → all p bs ≡ eqb (length (run p bs)) (length bs) → (if t then all p bs else false) ≡ eqb (length (if t then b ∷ run p bs else [])) (suc (length bs))
    by true e = e ∙ sym (eqb-suc-suc (length (run p bs)) (length bs))
    by false e = sym (eqb-zero-suc (length bs))

all_past : (p : ℕ → Bool) (bs : List ℕ) → eqb (past p bs 0) (length bs) ≡ all p bs
unfolding past
all_past p bs = ap (λ (k : ℕ). eqb k (length bs)) (zero-add (length (run p bs))) ∙ sym (all-run p bs)

pub returns-then-contains : goal.returns-then-contains
unfolding legal
returns-then-contains c =
    let n = c.args.name.now in
    let r = c.new.ensures in
    let u = c.if-contains.ensures.cases in
    let a : leb 1 (length n) ≡ true = grind (arith, nat_tests) in
    let b : leb (length n) NAME ≡ true = grind (arith, nat_tests) in
    ap (λ (k : ℕ). eqb k (length n)) c.past.ensures ∙ all_past name_byte n ∙ rw (a, b)

pub returns-else-contains : goal.returns-else-contains
unfolding legal
returns-else-contains c =
    let n = c.args.name.now in
    let r = c.new.ensures in
    let v = rw (r.start, r.end, r.exhausted) at c.if-contains.ensures.value in
    let w : within 1 NAME (length n) ≡ false = grind (arith, nat_tests) in
    c.if-contains.false ∙ rw w
