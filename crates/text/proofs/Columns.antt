-- The line that a refusal names is a line of the text, and its column one of the line's bytes or one past them, 133 at most: every fault of a
-- line has its place there, a line that may be faulty has 132 bytes at most or is told at the 133rd, and so has one that leaves a list
-- open. Assumes nothing.
use Prim.Native.Nat.{ℕ, ◌+◌, ◌-◌, ◌≤◌}
use native.Mathlib.Omega.{arith}
use mathlib.Core.Path.{◌≡◌, refl, sym, ap, ◌∙◌}
use mathlib.Core.Bool.{Bool, true, false, ◌&&◌}
use mathlib.Core.List.{List, [], ◌∷◌, ◌++◌}
use borrow.Author.Tests.{ltb-true, ltb-false}
use lib.Dec.{ltb}
use lib.ListN.{length, take, drop}
use Rattle.plain.specs.Bytes.{fair}
use Rattle.std.specs.Prelude.{Option, Some, None, Result, Ok, Err, if◌then◌else◌}
use Rattle.plain.specs.Runs.{past}
use Rattle.plain.proofs.Tests.{true-false}
use Rattle.value.specs.declared.faults.Fault.{Fault}
use Rattle.value.specs.declared.faults.Fault.TheVariants as F
use Rattle.value.specs.declared.faults.LineFault.{LineFault}
use Rattle.statement.specs.Head.{head}
use Rattle.statement.specs.Statements.{Event, opened}
use Rattle.statement.specs.Values.{Given, given, wrong, listed, given_at}
use Rattle.statement.specs.declared.head.Named.{Named}
use Rattle.statement.specs.declared.values.Reader.{Reader}
use Rattle.statement.specs.declared.values.Reader.TheVariants as R
use Rattle.statement.proofs.Pointed.{HeadUpTo, GivenUpTo, head-within, listed-within, given-within}
use Rattle.text.specs.Columns.{column_of, Pointed}
use Rattle.text.specs.Delimiters.{mark_of}
use Rattle.text.specs.Lengths.{LONGEST_LINE, counts_as_data}
use Rattle.text.specs.Line.{Outcome, next, fault, adding, stated, fairly, section, marked, answered}
use Rattle.text.specs.Lines.{lines}
use Rattle.text.specs.Text.{Read, fine, refused, finished, preceded, continued, read_from, read_text}
use Rattle.text.specs.declared.delimiters.Mark.{Mark}
use Rattle.text.specs.declared.delimiters.Mark.TheVariants as M

-- ---- a line

-- a reader that a line leaves: a list is left open by a line of 132 bytes at most
abbrev Leaves : ℕ → Reader → Type 0
Leaves n R.Text = Unit
Leaves n R.Data = Unit
Leaves n (R.List k) = n ≤ LONGEST_LINE

abbrev Points : ℕ → Outcome → Type 0
Points n (next r es) = Leaves n r
Points n (fault q k) = (k ≤ n) × (k ≤ LONGEST_LINE)

module _ (line : List ℕ) where
  module _ (short : length line ≤ LONGEST_LINE) where
    leaves : (r : Reader) → Leaves (length line) r
    leaves R.Text = tt
    leaves R.Data = tt
    leaves (R.List k) = short

    points-adding : (es : List Event) (g : Given) → GivenUpTo (length line) g → Points (length line) (adding es g)
    points-adding es (given r vs) h = leaves r
    points-adding es (wrong q k) h = (h, omega arith)

    points-stated : (h : Result (Option Named) LineFault) → HeadUpTo (length line) h → Points (length line) (stated line h)
    points-stated (Ok None) u = tt
    points-stated (Ok (Some h)) u = points-adding (opened (take (h.end - h.start) (drop h.start line)) h.operator ∷ []) (given_at line h.at) (given-within line h.at u)
    points-stated (Err q) u = (u, omega arith)

    points-fairly : (o : Outcome) → Points (length line) o → Points (length line) (fairly line o)
    points-fairly o h = by (ltb (past fair line 0) (length line)) refl
      where
        by : (t : Bool) → ltb (past fair line 0) (length line) ≡ t → Points (length line) (if t then fault F.BadByte (past fair line 0) else o)
        by true e = let l = ltb-true (past fair line 0) (length line) e in (omega arith, omega arith)
        by false e = h

  points-section : (r s : Reader) → Leaves (length line) s → Points (length line) (section r s)
  points-section R.Text s h = h
  points-section R.Data s h = h
  points-section (R.List k) s h = (omega arith, omega arith)

  -- a line that is not too long
  points-marked : (m : Mark) (r : Reader) → (counts_as_data m r ≡ true → length line ≤ LONGEST_LINE) → Points (length line) (marked m r line)
  points-marked M.Data r h = points-section r R.Data tt
  points-marked M.Text r h = points-section r R.Text tt
  points-marked M.Plain R.Text h = tt
  points-marked M.Plain R.Data h = points-fairly (h refl) (stated line (head line)) (points-stated (h refl) (head line) (head-within line))
  points-marked M.Plain (R.List k) h = points-fairly (h refl) (adding [] (listed k line 0)) (points-adding (h refl) [] (listed k line 0) (listed-within line k 0))

  points-answered : (r : Reader) → Points (length line) (answered r line)
  unfolding answered
  points-answered r = by (ltb LONGEST_LINE (length line)) (counts_as_data (mark_of line) r) refl refl
    where
      by : (t u : Bool) → ltb LONGEST_LINE (length line) ≡ t → counts_as_data (mark_of line) r ≡ u
          → Points (length line) (if t && u then fault F.TooLong LONGEST_LINE else marked (mark_of line) r line)
      by true true e d = let l = ltb-true LONGEST_LINE (length line) e in (omega arith, omega arith)
      by true false e d = points-marked (mark_of line) r (λ c. true-false (sym c ∙ d))
      by false u e d = points-marked (mark_of line) r (λ c. omega (arith, ltb-false LONGEST_LINE (length line) e))

-- ---- a text

-- a line of some lines that come after so many, and a place in it
record PointsTo (ls : List (List ℕ)) (before number place : ℕ) : Type 0 where
  earlier : List (List ℕ)
  line : List ℕ
  later : List (List ℕ)
  split : ls ≡ earlier ++ line ∷ later
  number_is : number ≡ before + (length earlier + 1)
  within : place ≤ length line
  most : place ≤ LONGEST_LINE

abbrev ReadPoints : List (List ℕ) → (before : ℕ) → Read → Type 0
ReadPoints ls before (fine es) = Unit
ReadPoints ls before (refused q number place) = PointsTo ls before number place

points-here : (l : List ℕ) (ls : List (List ℕ)) (before k : ℕ) → k ≤ length l → k ≤ LONGEST_LINE → PointsTo (l ∷ ls) before (before + 1) k
points-here l ls before k h g = record { earlier = []; line = l; later = ls; split = refl; number_is = omega arith; within = h; most = g }

points_later : (l : List ℕ) (ls : List (List ℕ)) (before : ℕ) (x : Read) → ReadPoints ls (before + 1) x → ReadPoints (l ∷ ls) before x
points_later l ls before (fine es) p = tt
points_later l ls before (refused q n k) p =
    record {
      earlier = l ∷ p.earlier;
      line = p.line;
      later = p.later;
      split = ap (λ (x : List (List ℕ)). l ∷ x) p.split;
      number_is = omega (arith, p.number_is);
      within = p.within;
      most = p.most;
    }

points-preceded : (ls : List (List ℕ)) (before : ℕ) (es : List Event) (x : Read) → ReadPoints ls before x → ReadPoints ls before (preceded es x)
points-preceded ls before es (fine fs) p = tt
points-preceded ls before es (refused q n k) p = p

-- the end of the text after line l
points-end : (l : List ℕ) (r : Reader) (before : ℕ) → Leaves (length l) r → ReadPoints (l ∷ []) before (finished r (before + 1) (length l))
points-end l R.Text before h = tt
points-end l R.Data before h = tt
points-end l (R.List k) before h = points-here l [] before (length l) (omega arith) h

-- a line, and what is read after it
points-line : (l : List ℕ) (ls : List (List ℕ)) (r : Reader) (before : ℕ) (more : Reader → Read)
    → ((s : Reader) → Leaves (length l) s → ReadPoints (l ∷ ls) before (more s)) → ReadPoints (l ∷ ls) before (continued (answered r l) (before + 1) more)
points-line l ls r before more f = by (answered r l) (points-answered l r)
  where
    by : (o : Outcome) → Points (length l) o → ReadPoints (l ∷ ls) before (continued o (before + 1) more)
    by (next s es) p = points-preceded (l ∷ ls) before es (more s) (f s p)
    by (fault q k) p = points-here l ls before k p.0 p.1

-- the lines after line l
points-after : (l : List ℕ) (r : Reader) (before : ℕ) (ls : List (List ℕ)) → Leaves (length l) r → ReadPoints (l ∷ ls) before (read_from r (before + 1) (length l) ls)
unfolding read_from
points-after l r before [] h = points-end l r before h
points-after l r before (m ∷ ls) h =
    points_later l (m ∷ ls) before (read_from r (before + 1) (length l) (m ∷ ls))
    (points-line m ls r (before + 1) (λ s. read_from s (before + 1 + 1) (length m) ls) (λ s g. points-after m s (before + 1) ls g))

points-lines : (ls : List (List ℕ)) → ReadPoints ls 0 (read_from R.Text 0 0 ls)
unfolding read_from
points-lines [] = tt
points-lines (l ∷ ls) = points-line l ls R.Text 0 (λ s. read_from s 1 (length l) ls) (λ s h. points-after l s 0 ls h)

module _ (text : List ℕ) (q : Fault) (number place : ℕ) (e : read_text text ≡ refused q number place) where
  points-text : PointsTo (lines text) 0 number place
  unfolding read_text
  points-text = rw e at (points-lines (lines text))

  pub refused-pointed : Pointed text number (column_of place)
  refused-pointed =
      let p = points-text in
      record {
        earlier = p.earlier;
        line = p.line;
        later = p.later;
        split = p.split;
        number_is = omega (arith, p.number_is);
        least = omega arith;
        within = omega (arith, p.within);
        most = omega (arith, p.most);
      }

  -- a place is counted from 0, and so is 132 at most
  pub place-most : place ≤ LONGEST_LINE
  place-most = points-text.most
