-- A line that is squeezed opens the section that the whole line opens, whatever follows. Assumes nothing.
use Prim.Native.Nat.{ℕ, ◌≤◌, ◌<◌}
use native.Mathlib.Omega.{arith}
use mathlib.Core.Path.{◌≡◌, refl, sym, ◌∙◌}
use mathlib.Core.Bool.{Bool, true, false, ◌&&◌}
use mathlib.Core.List.{List, [], ◌∷◌, ◌++◌, append_assoc}
use lib.Dec.{eqb}
use lib.ListN.{length, take, length-append}
use lib.Seq.{length-take-le}
use Rattle.std.specs.Prelude.{if◌then◌else◌}
use Rattle.plain.specs.Runs.{skip, none}
use Rattle.value.specs.Classes.{blank}
use Rattle.text.specs.Delimiters.{BEGINDATA, BEGINTEXT, word, exactly, mark_of}
use Rattle.text.specs.Lengths.{LONGEST_LINE}
use Rattle.feeding.specs.Kept.{ROOM, squeezed}

-- ---- a byte after the word

module _ (b : ℕ) (l : List ℕ) where
  -- a blank there is nothing
  none-blank : (k : List ℕ) → blank b ≡ true → none (skip blank (k ++ b ∷ l)) ≡ none (skip blank (k ++ l))
  none-blank [] e = rw e
  none-blank (c ∷ k) e = by (blank c) (none-blank k e)
    where
      by : (t : Bool) → none (skip blank (k ++ b ∷ l)) ≡ none (skip blank (k ++ l))
          → none (if t then skip blank (k ++ b ∷ l) else (c ∷ k ++ b ∷ l)) ≡ none (if t then skip blank (k ++ l) else (c ∷ k ++ l))
      by true h = h
      by false h = refl

  word_blank : (w k : List ℕ) → length w ≤ length k → blank b ≡ true → word w (k ++ b ∷ l) ≡ word w (k ++ l)
  word_blank [] k h e = none-blank k e
  word_blank (w ∷ ws) [] h e = absurd (omega arith)
  word_blank (w ∷ ws) (c ∷ k) h e = rw (word_blank ws k (omega arith) e)

  -- another byte makes the line another
  none_other : (k : List ℕ) → blank b ≡ false → none (skip blank (k ++ b ∷ l)) ≡ false
  none_other [] e = rw e
  none_other (c ∷ k) e = by (blank c) (none_other k e)
    where
      by : (t : Bool) → none (skip blank (k ++ b ∷ l)) ≡ false → none (if t then skip blank (k ++ b ∷ l) else (c ∷ k ++ b ∷ l)) ≡ false
      by true h = h
      by false h = refl

  and-false : (t : Bool) → (t && false) ≡ false
  and-false true = refl
  and-false false = refl

  word-other : (w k : List ℕ) → length w ≤ length k → blank b ≡ false → word w (k ++ b ∷ l) ≡ false
  word-other [] k h e = none_other k e
  word-other (w ∷ ws) [] h e = absurd (omega arith)
  word-other (w ∷ ws) (c ∷ k) h e = rw (word-other ws k (omega arith) e) (and-false (eqb c w))

-- ---- the squeezed line

module _ (w : List ℕ) (short : length w ≤ LONGEST_LINE) (b : ℕ) (l : List ℕ) where
  exactly-squeezed : (k : List ℕ) → ROOM ≤ length k → exactly w (k ++ b ∷ l) ≡ exactly w (squeezed k b ++ l)
  exactly-squeezed [] h = absurd (omega arith)
  exactly-squeezed (c ∷ k) h = by (blank c) refl (blank b) refl
    where
      by : (t : Bool) → blank c ≡ t → (u : Bool) → blank b ≡ u
          → word w (if t then skip blank (k ++ b ∷ l) else (c ∷ k ++ b ∷ l))
          ≡ word w (skip blank ((if t then k ++ b ∷ [] else (if u then c ∷ k else (take LONGEST_LINE (c ∷ k) ++ b ∷ []))) ++ l))
      by true e u f = rw (append_assoc k (b ∷ []) l)
      by false e true f = rw e (word_blank b l w (c ∷ k) (omega arith) f)
      by false e false f =
          rw e (word-other b l w (c ∷ k) (omega arith) f
          ∙ sym (rw (append_assoc (take 131 k) (b ∷ []) l)
          (word-other b l w (take LONGEST_LINE (c ∷ k)) (omega (arith, length-take-le LONGEST_LINE (c ∷ k) (omega arith))) f)))

pub mark-squeezed : (k : List ℕ) (b : ℕ) (l : List ℕ) → ROOM ≤ length k → mark_of (k ++ b ∷ l) ≡ mark_of (squeezed k b ++ l)
unfolding mark_of
mark-squeezed k b l h = rw (exactly-squeezed BEGINDATA (omega arith) b l k h, exactly-squeezed BEGINTEXT (omega arith) b l k h)

-- it is no shorter than a line that is too long
pub squeezed-long : (k : List ℕ) (b : ℕ) → ROOM ≤ length k → LONGEST_LINE < length (squeezed k b)
squeezed-long [] b h = absurd (omega arith)
squeezed-long (c ∷ k) b h = by (blank c) (blank b)
  where
    by : (t u : Bool) → LONGEST_LINE < length (if t then k ++ b ∷ [] else (if u then c ∷ k else (take LONGEST_LINE (c ∷ k) ++ b ∷ [])))
    by true u = omega (arith, length-append k (b ∷ []))
    by false true = omega arith
    by false false = omega (arith, length-append (take LONGEST_LINE (c ∷ k)) (b ∷ []), length-take-le LONGEST_LINE (c ∷ k) (omega arith))

-- nor longer than what is kept
pub squeezed-short : (k : List ℕ) (b : ℕ) → ROOM ≡ length k → length (squeezed k b) ≤ ROOM
squeezed-short [] b h = absurd (omega arith)
squeezed-short (c ∷ k) b h = by (blank c) (blank b)
  where
    by : (t u : Bool) → length (if t then k ++ b ∷ [] else (if u then c ∷ k else (take LONGEST_LINE (c ∷ k) ++ b ∷ []))) ≤ ROOM
    by true u = omega (arith, length-append k (b ∷ []))
    by false true = omega arith
    by false false = omega (arith, length-append (take LONGEST_LINE (c ∷ k)) (b ∷ []), length-take-le LONGEST_LINE (c ∷ k) (omega arith))
