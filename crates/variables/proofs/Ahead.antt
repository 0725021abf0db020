-- What is ahead of a search forward: the values with the name of the statements from a place on, and what the statement there gives of
-- them. Assumes nothing.
use Prim.Native.Nat.{ℕ, ◌+◌, ◌*◌, ◌<◌}
use mathlib.Core.Path.{◌≡◌, sym, ap, ap₂, ◌∙◌}
use mathlib.Core.Bool.{Bool, true, false}
use mathlib.Core.List.{List, [], ◌++◌}
use native.Mathlib.Omega.{arith}
use lib.ListN.{length, drop, get_or}
use Rattle.plain.specs.Lists.{equal}
use Rattle.statement.specs.Statements.{Statement}
use Rattle.words.specs.Over.{part}
use Rattle.words.specs.Halves.{lower}
use Rattle.words.proofs.Halves.{sum-take-next}
use Rattle.names.specs.Names.{NAMEWORDS}
use Rattle.layout.specs.State.{program, flat}
use Rattle.layout.specs.Memory.{statement_count, head_words, decode}
use Rattle.layout.proofs.Areas.{length-heads}
use Rattle.layout.proofs.Sound.{Sound}
use Rattle.variables.specs.Variables.{Datum, has, each, gives, variable}
use Rattle.variables.specs.Walk.{Begins}
use Rattle.variables.proofs.Counts.{length-each}
use Rattle.variables.proofs.Held.{head_at, offset_at, statement_at, program-end, count_at, program-next}
use Rattle.variables.proofs.Names.{Hands, has-told, head-told}

abbrev pub left : (name m : List ℕ) (s : ℕ) → List Datum
left name m s = flat (gives name) (drop s (program (decode m)))

-- all of the variable, where it begins
pub left-all : {name m : List ℕ} {s value count strings : ℕ} → Begins name m s value count strings → left name m s ≡ variable name (decode m)
unfolding variable
left-all {name} B = ap (flat (gives name)) (sym B.here)

-- nothing, where the statements end
pub left-none : (name m : List ℕ) (s : ℕ) → Sound m → s ≡ statement_count m → left name m s ≡ []
unfolding flat
left-none name m s S e = ap (flat (gives name)) (program-end m S s e)

-- ---- the statement at place s

module _ {m name words heads names : List ℕ} (H : Hands m name words heads names) {s value : ℕ} (o : value ≡ offset_at m s) (h : s < statement_count m) where
  abbrev n : ℕ
  n = lower (get_or heads s 0)

  abbrev x : Statement
  x = statement_at m s

  pub count-told : n ≡ lower (head_at m s)
  count-told = ap lower (head-told H s)

  pub length-given : length (each x.values) ≡ n
  length-given = length-each x.values ∙ count_at m H.sound s h ∙ sym count-told

  pub offset-next : value + n ≡ offset_at m (s + 1)
  offset-next = ap₂ (λ (a b : ℕ). a + b) o count-told ∙ sym (sum-take-next s (head_words m) (omega (arith, length-heads m H.sound.sizes)))

  left-next : left name m s ≡ gives name x ++ left name m (s + 1)
  unfolding flat
  left-next = ap (flat (gives name)) (program-next m H.sound s h)

  module _ (t : Bool) (e : t ≡ equal (part (NAMEWORDS * s) NAMEWORDS names) words) where
    tells : has name x ≡ t
    tells = has-told H s h t e

    pub left_other : t ≡ false → left name m s ≡ left name m (s + 1)
    left_other f = left-next ∙ rw (tells ∙ f)

    pub left-given : t ≡ true → left name m s ≡ each x.values ++ left name m (s + 1)
    left-given f = left-next ∙ rw (tells ∙ f)
