-- What a state must be for a memory to hold it undamaged stays so when a text is put last or left out. Assumes nothing.
use Prim.Native.Nat.{ℕ}
use mathlib.Core.Path.{◌≡◌, refl, sym, ap, ◌∙◌, subst}
use mathlib.Core.Bool.{Bool, true, false}
use mathlib.Core.List.{List, [], ◌∷◌, ◌++◌, map}
use borrow.Author.Tests.{ne_eqb, eqb-false}
use lib.Dec.{eqb}
use Rattle.std.specs.Prelude.{if◌then◌else◌}
use Rattle.statement.specs.Statements.{Statement}
use Rattle.words.proofs.Halves.{Different}
use Rattle.plain.proofs.Each.{Each, each_append, each_left, each_right}
use Rattle.layout.specs.State.{Text, Pool, program}
use Rattle.layout.proofs.Legal.{label_of, Fair, Legal, program-append, program-one}
use Rattle.pool.specs.Held.{held}
use Rattle.loading.specs.Load.{with}
use Rattle.pool.specs.Remove.{without}
use Rattle.promises.proofs.Labels.{Apart, neither, apart-with, apart-without}

pub record Proper (s : Pool) : Type 0 where
  pub labels : Apart s
  pub each : Each Fair (program s)

-- ---- the same as the memory's laws say it: no two labels are equal

abbrev Other : ℕ → ℕ → Type 0
Other label l = l ≡ label → ⊥

free-others : (label : ℕ) (s : Pool) → held label s ≡ false → Each (Other label) (map label_of s)
unfolding held
free-others label [] e = tt
free-others label (t ∷ s) e = let p = neither (eqb t.label label) (held label s) e in (eqb-false t.label label p.0, free-others label s p.1)

others-free : (label : ℕ) (s : Pool) → Each (Other label) (map label_of s) → held label s ≡ false
unfolding held
others-free label [] f = refl
others-free label (t ∷ s) f = rw (ne_eqb t.label label f.0) (others-free label s f.1)

apart-different : (s : Pool) → Apart s → Different (map label_of s)
apart-different [] a = tt
apart-different (t ∷ s) a = (free-others t.label s a.0, apart-different s a.1)

different-apart : (s : Pool) → Different (map label_of s) → Apart s
different-apart [] d = tt
different-apart (t ∷ s) d = (others-free t.label s d.0, different-apart s d.1)

pub proper-legal : (s : Pool) → Proper s → Legal s
proper-legal s p = record { labels = apart-different s p.labels; statements = p.each }

pub legal-proper : (s : Pool) → Legal s → Proper s
legal-proper s l = record { labels = different-apart s l.labels; each = l.statements }

-- ---- none, one more, one fewer

pub proper-none : Proper []
unfolding program
proper-none = record { labels = tt; each = tt }

pub proper-with : (s : Pool) (t : Text) → Proper s → held t.label s ≡ false → Each Fair t.body → Proper (with s t)
proper-with s t p free new =
    let e : program (with s t) ≡ program s ++ t.body = program-append s (t ∷ []) ∙ ap (λ (l : List Statement). program s ++ l) (program-one t) in
    record { labels = apart-with s t p.labels free; each = subst (Each Fair) (sym e) (each_append Fair (program s) t.body p.each new) }

each-without : (P : Statement → Type 0) (label : ℕ) (s : Pool) → Each P (program s) → Each P (program (without label s))
unfolding program without
each-without P label [] f = tt
each-without P label (t ∷ s) f = by (eqb t.label label) (each-without P label s (each_right P t.body (program s) f))
  where
    by : (b : Bool) → Each P (program (without label s)) → Each P (program (if b then s else (t ∷ without label s)))
    by true g = each_right P t.body (program s) f
    by false g = each_append P t.body (program (without label s)) (each_left P t.body (program s) f) g

pub proper-without : (label : ℕ) (s : Pool) → Proper s → Proper (without label s)
proper-without label s p = record { labels = apart-without label s p.labels; each = each-without Fair label s p.each }
