-- Reading a text line by line, what is kept of a line is enough: one over 132 bytes is answered by its mark alone. Assumes nothing.
use Prim.Native.Nat.{ℕ, ◌+◌, ◌≤◌, ◌<◌}
use native.Mathlib.Omega.{arith}
use mathlib.Core.Path.{◌≡◌, refl, sym, ap, ◌∙◌}
use mathlib.Core.Bool.{Bool, true, false}
use mathlib.Core.List.{List, [], ◌∷◌, ◌++◌, append_assoc}
use borrow.Author.Tests.{ltb-true, lt-ltb}
use lib.Dec.{ltb}
use lib.ListN.{length, length-append}
use Rattle.std.specs.Prelude.{if◌then◌else◌}
use Rattle.value.specs.declared.faults.Fault.{Fault}
use Rattle.value.specs.declared.faults.Fault.TheVariants as F
use Rattle.statement.specs.Statements.{Event}
use Rattle.statement.specs.declared.values.Reader.{Reader}
use Rattle.statement.specs.declared.values.Reader.TheVariants as R
use Rattle.text.specs.Delimiters.{mark_of}
use Rattle.text.specs.Lengths.{LONGEST_LINE, counts_as_data}
use Rattle.text.specs.Line.{Outcome, next, fault, marked, answered}
use Rattle.text.specs.Lines.{lines}
use Rattle.text.specs.Text.{Read, fine, refused, finished, preceded, continued, read_from, read_text}
use Rattle.text.specs.declared.delimiters.Mark.{Mark}
use Rattle.text.specs.declared.delimiters.Mark.TheVariants as M
use Rattle.feeding.specs.Kept.{ROOM, squeezed}
use Rattle.feeding.specs.Parts.{capped, folded}
use Rattle.feeding.specs.Reading.{Progress, going, stopped, answering, completed, ending}
use Rattle.feeding.proofs.Squeezing.{mark-squeezed, squeezed-long}
use Rattle.feeding.proofs.Keeping.{Squeezes}

-- ---- a line over 132 bytes

module _ (r : Reader) (x : List ℕ) (h : LONGEST_LINE < length x) where
  answered-long : answered r x ≡ (if counts_as_data (mark_of x) r then fault F.TooLong LONGEST_LINE else marked (mark_of x) r x)
  unfolding answered
  answered-long = rw (lt-ltb LONGEST_LINE (length x) h)

  -- another one with the same mark
  same-mark : (y : List ℕ) → LONGEST_LINE < length y → mark_of x ≡ mark_of y → answered r x ≡ answered r y
  unfolding answered
  same-mark y g e = answered-long ∙ rw (lt-ltb LONGEST_LINE (length y) g, e) (by (mark_of y) r)
    where
      by : (m : Mark) (r : Reader)
          → (if counts_as_data m r then fault F.TooLong LONGEST_LINE else marked m r x)
          ≡ (if counts_as_data m r then fault F.TooLong LONGEST_LINE else marked m r y)
      by M.Data r = refl
      by M.Text r = refl
      by M.Plain R.Text = refl
      by M.Plain R.Data = refl
      by M.Plain (R.List k) = refl

  -- if it has no fault, it is a text section's
  long-in-text : (q : Reader) (fs : List Event) → answered r x ≡ next q fs → q ≡ R.Text
  long-in-text q fs e = by (mark_of x) r (sym answered-long ∙ e)
    where
      by : (m : Mark) (r : Reader) → (if counts_as_data m r then fault F.TooLong LONGEST_LINE else marked m r x) ≡ next q fs → q ≡ R.Text
      by M.Data r f = cc
      by M.Text r f = cc
      by M.Plain R.Text f = cc
      by M.Plain R.Data f = cc
      by M.Plain (R.List k) f = cc

pub answered-squeezed : (r : Reader) (k : List ℕ) (b : ℕ) (l : List ℕ) → ROOM ≤ length k → answered r (k ++ b ∷ l) ≡ answered r (squeezed k b ++ l)
answered-squeezed r k b l h =
    same-mark r (k ++ b ∷ l) (omega (arith, length-append k (b ∷ l))) (squeezed k b ++ l)
    (omega (arith, squeezed-long k b h, length-append (squeezed k b) l)) (mark-squeezed k b l h)

pub completed-squeezes : Squeezes completed
completed-squeezes = record { squeezes = by }
  where
    by : (p : Progress) (number : ℕ) (k : List ℕ) (b : ℕ) (l : List ℕ) → ROOM ≤ length k
        → completed p number (k ++ b ∷ l) ≡ completed p number (squeezed k b ++ l)
    by (stopped q n j) number k b l h = refl
    by (going r es) number k b l h = ap (λ (o : Outcome). answering es o number) (answered-squeezed r k b l h)

-- ---- all lines

-- how long the last line is matters only inside a list, where no line is too long
finished-capped : (r : Reader) (l : List ℕ) (q : Reader) (fs : List Event) → answered r l ≡ next q fs
    → (number : ℕ) → finished q number (length l) ≡ finished q number (capped (length l))
finished-capped r l q fs e number = by (ltb ROOM (length l)) refl
  where
    by : (t : Bool) → ltb ROOM (length l) ≡ t → finished q number (length l) ≡ finished q number (if t then ROOM else length l)
    by true f = let g = ltb-true ROOM (length l) f in rw (long-in-text r l (omega arith) q fs e)
    by false f = refl

stopped-stays : (q : Fault) (n k number long : ℕ) (ls : List (List ℕ)) → ending (folded completed (stopped q n k) number long ls) ≡ refused q n k
unfolding folded
stopped-stays q n k number long [] = refl
stopped-stays q n k number long (l ∷ ls) = stopped-stays q n k (number + 1) (capped (length l)) ls

preceded-twice : (es fs : List Event) (x : Read) → preceded (es ++ fs) x ≡ preceded es (preceded fs x)
preceded-twice es fs (fine gs) = rw (append_assoc es fs gs)
preceded-twice es fs (refused q n k) = refl

-- a last line so long may be told as another that comes to the same
read-folded : (r : Reader) (es : List Event) (number long told : ℕ) (ls : List (List ℕ)) → finished r number long ≡ finished r number told
    → ending (folded completed (going r es) number told ls) ≡ preceded es (read_from r number long ls)
unfolding folded read_from
read-folded r es number long told [] f = ap (preceded es) (sym f)
read-folded r es number long told (l ∷ ls) f =
    by (answered r l) refl (λ q fs. read-folded q (es ++ fs) (number + 1) (length l) (capped (length l)) ls)
  where
    by : (o : Outcome) → answered r l ≡ o
        → ((q : Reader) (fs : List Event) → finished q (number + 1) (length l) ≡ finished q (number + 1) (capped (length l))
        → ending (folded completed (going q (es ++ fs)) (number + 1) (capped (length l)) ls) ≡ preceded (es ++ fs) (read_from q (number + 1) (length l) ls))
        → ending (folded completed (answering es o (number + 1)) (number + 1) (capped (length l)) ls)
        ≡ preceded es (continued o (number + 1) (λ q. read_from q (number + 1) (length l) ls))
    by (next q fs) e on = on q fs (finished-capped r l q fs e (number + 1)) ∙ preceded-twice es fs (read_from q (number + 1) (length l) ls)
    by (fault q k) e on = stopped-stays q (number + 1) k (number + 1) (capped (length l)) ls

pub text-folded : (text : List ℕ) → read_text text ≡ ending (folded completed (going R.Text []) 0 0 (lines text))
unfolding read_text
text-folded text = sym (read-folded R.Text [] 0 0 0 (lines text) refl ∙ by (read_from R.Text 0 0 (lines text)))
  where
    by : (x : Read) → preceded [] x ≡ x
    by (fine es) = refl
    by (refused q n k) = refl
