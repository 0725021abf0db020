-- The words of the open text can be written, of one that was just opened and of one that was fed; and what is written then is what the call tells of.
-- Assumes nothing.
use Prim.Native.Nat.{ℕ, ◌+◌, ◌<◌}
use native.Mathlib.Omega.{arith}
use mathlib.Core.Path.{◌≡◌, ap, ◌∙◌}
use mathlib.Core.Bool.{true}
use mathlib.Core.List.{List, [], ◌∷◌}
use lib.ListN.{get_or}
use Rattle.words.specs.Halves.{HALF, joined}
use Rattle.words.specs.Over.{over}
use Rattle.words.proofs.Each.{WORD}
use Rattle.layout.specs.Limits.{OPEN_AT, TEXTS_AT}
use Rattle.layout.specs.Memory.{text_count, open_label}
use Rattle.layout.specs.Damage.{sound}
use Rattle.layout.proofs.Sound.{sound-of}
use Rattle.feeding.specs.Parts.{Open, fed}
use Rattle.bookmark.specs.Words.{open_words}
use Rattle.bookmark.specs.Marked as B
use Rattle.bookmark.specs.declared.mark.Bookmark.{Bookmark}
use Rattle.entering.specs.Entries.{Entry, complete_on}
use Rattle.entering.proofs.Lines.{ordered, fitted}
use Rattle.taking.specs.Marked.{open_of}
use Rattle.taking.specs.Taking.{Fine, Takes}
use Rattle.intake.specs.Opened.{open_in, beginning, stowed}
use Rattle.intake.specs.State.{Begins, Finds, Stowable}

-- its word, and then the words that keep where it stands
pub stows : (m : List ℕ) (label : ℕ) (b : Bookmark) (m1 m2 : List ℕ) → m1 ≡ over (TEXTS_AT + text_count m) (joined label b.entered.statements ∷ []) m
    → m2 ≡ over OPEN_AT (open_words (B.open_of b)) m1 → m2 ≡ stowed label (open_of m b)
stows m label b m1 m2 p q = q ∙ ap (over OPEN_AT (open_words (B.open_of b))) p

-- just opened
pub stowable-begun : (m : List ℕ) (label : ℕ) (b : Bookmark) → sound m ≡ true → label < HALF → Begins b → Stowable m label b
stowable-begun m label b e l g = record {
  sizes = (sound-of m e).sizes;
  few = omega (arith, ap (λ (o : Open Entry). o.progress.entered.statements) (g.is m));
  short = l;
}

pub begun-stowed : (m : List ℕ) (label : ℕ) (b : Bookmark) → Begins b → (last : List ℕ) → last ≡ stowed label (open_of m b) → last ≡ stowed label (beginning m)
begun-stowed m label b g last p = p ∙ ap (stowed label) (g.is m)

-- a label is a word's upper half
pub label-short : (m : List ℕ) (label : ℕ) → ((i : ℕ) → get_or m i 0 < WORD) → label ≡ open_label m → label < HALF
label-short m label w e = omega (arith, w (TEXTS_AT + text_count m))

-- fed
pub stowable-fed : (m : List ℕ) (label : ℕ) (b : Bookmark) → label < HALF → Fine m b → Stowable m label b
stowable-fed m label b l f = record {
  sizes = (ordered m b.entered f.ready).sizes;
  few = omega (arith, (fitted m b.entered f.ready).statements, f.ready.statements);
  short = l;
}

pub fed-stowed : (m part : List ℕ) (b : Bookmark) → Finds m b → (after : List ℕ) (r : Bookmark) → Takes m b part after r
    → (label : ℕ) → label ≡ open_label m → (last : List ℕ) → last ≡ stowed label (open_of after r) → last ≡ stowed (open_label m) (fed complete_on (open_in m) part)
fed-stowed m part b f after r t label l last p =
    p ∙ (λ i. stowed (l i) (t.is i)) ∙ ap (λ (o : Open Entry). stowed (open_label m) (fed complete_on o part)) f.is
