-- No name that is not on the list counts: its statements are none of those that have a listed name, and the others are left as they are. Assumes
-- nothing.
use mathlib.Core.Path.{◌≡◌, refl, sym, ap, ◌∙◌}
use mathlib.Core.Bool.{Bool, true, false}
use mathlib.Core.List.{List, [], ◌∷◌}
use Rattle.std.specs.Prelude.{if◌then◌else◌}
use Rattle.plain.specs.Lists.{equal}
use Rattle.plain.proofs.Tests.{true-false}
use Rattle.statement.specs.Statements.{Statement}
use Rattle.words.proofs.Same.{same-equal}
use Rattle.layout.specs.State.{program}
use Rattle.layout.specs.Memory.{decode}
use Rattle.variables.specs.Variables.{has}
use Rattle.promises.specs.Calls.{asked, library}
use Rattle.promises.proofs.Said.{state_of, asked-says}
use Rattle.reads.specs.Names.{Name, names}
use Rattle.unread.specs.Unread.{call, has_one, others, on_list, NoOtherCounts}
use Rattle.unread.proofs.Chosen.{chosen, same_answer}

-- a statement with a name that is not on the list has none that is
off_list : (ns : List Name) (name : Name) (s : Statement) → on_list name ns ≡ false → has name s ≡ true → has_one ns s ≡ false
unfolding on_list has_one
off_list [] name s o h = refl
off_list (n ∷ ns) name s o h = by (equal name n) refl o (λ f. off_list ns name s f h)
  where
    by : (b : Bool) → equal name n ≡ b → (if b then true else on_list name ns) ≡ false → (on_list name ns ≡ false → has_one ns s ≡ false)
        → (if has n s then true else has_one ns s) ≡ false
    by true e f g = true-false f
    by false e f g = rw (ap (λ (x : Name). equal x n) (same-equal s.name name h) ∙ e) (g f)

module _ (ns : List Name) (name : Name) (o : on_list name ns ≡ false) where
  chosen-others : (ss : List Statement) → chosen ns (others name ss) ≡ chosen ns ss
  unfolding chosen others
  chosen-others [] = refl
  chosen-others (s ∷ ss) = by (has name s) refl (chosen-others ss)
    where
      by : (b : Bool) → has name s ≡ b → chosen ns (others name ss) ≡ chosen ns ss
          → chosen ns (if b then others name ss else (s ∷ others name ss)) ≡ (if has_one ns s then s ∷ chosen ns ss else chosen ns ss)
      by true e g = rw (off_list ns name s o e) g
      by false e g = ap (λ (l : List Statement). if has_one ns s then s ∷ l else l) g

pub no-other-counts : NoOtherCounts library
no-other-counts q name c = by (on_list name (names q)) refl
  where
    same : on_list name (names q) ≡ false → asked (call q) c.one ≡ asked (call q) c.other
    same o =
        asked-says c.one c.undamaged (call q)
        ∙ same_answer q (state_of c.one) (state_of c.other)
        (sym (chosen-others (names q) name o (program (decode c.one))) ∙ ap (chosen (names q)) c.alike
        ∙ chosen-others (names q) name o (program (decode c.other)))
        ∙ sym (asked-says c.other c.other_undamaged (call q))

    by : (b : Bool) → on_list name (names q) ≡ b → b ≡ true
    by true o = refl
    by false o = absurd (c.differs (same o))
