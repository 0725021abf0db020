-- A fault of a line is told at a place that a bookmark keeps: a line that may be faulty has 132 bytes at most, or is told at the 133rd. Assumes nothing.
use Prim.Native.Nat.{ℕ, ◌+◌, ◌-◌, ◌≤◌}
use native.Mathlib.Omega.{arith}
use mathlib.Core.Path.{◌≡◌, refl, sym, ◌∙◌}
use mathlib.Core.Bool.{Bool, true, false, ◌&&◌}
use mathlib.Core.List.{List, [], ◌∷◌}
use borrow.Author.Tests.{ltb-true, ltb-false}
use lib.Dec.{ltb}
use lib.ListN.{length, take, drop}
use Rattle.plain.specs.Bytes.{fair}
use Rattle.std.specs.Prelude.{Option, None, Some, Result, Ok, Err, if◌then◌else◌}
use Rattle.plain.specs.Runs.{past}
use Rattle.plain.proofs.Tests.{true-false}
use Rattle.value.specs.declared.faults.Fault.TheVariants as F
use Rattle.value.specs.declared.faults.LineFault.{LineFault}
use Rattle.statement.specs.Head.{head}
use Rattle.statement.specs.Statements.{Event, opened, Statement}
use Rattle.statement.specs.Values.{Given, given, wrong, listed, given_at}
use Rattle.statement.specs.declared.head.Named.{Named}
use Rattle.statement.specs.declared.values.Reader.{Reader}
use Rattle.statement.specs.declared.values.Reader.TheVariants as R
use Rattle.statement.proofs.Pointed.{HeadUpTo, GivenUpTo, head-within, listed-within, given-within}
use Rattle.text.specs.Delimiters.{mark_of}
use Rattle.text.specs.Lengths.{LONGEST_LINE, counts_as_data}
use Rattle.text.specs.Line.{Outcome, next, fault, adding, stated, fairly, section, marked, answered}
use Rattle.text.specs.declared.delimiters.Mark.{Mark}
use Rattle.text.specs.declared.delimiters.Mark.TheVariants as M
use Rattle.feeding.specs.Parts.{MOST}
use Rattle.layout.specs.State.{Pool}
use Rattle.bookmark.specs.declared.mark.Standing.{Standing}
use Rattle.bookmark.specs.declared.mark.Standing.TheVariants as S
use Rattle.bookmark.proofs.Numbered.{InLine}
use Rattle.opening.specs.Storing.{Progress, extended, fitting, stored, storing_line, overflowed_line, by_standing, complete}
use Rattle.opening.proofs.Fitting.{by_room}

-- a fault's place, if it is one
abbrev Near : Outcome → Type 0
Near (next r es) = Unit {0}
Near (fault q k) = k ≤ LONGEST_LINE

module _ (line : List ℕ) where
  module _ (short : length line ≤ LONGEST_LINE) where
    near-adding : (es : List Event) (g : Given) → GivenUpTo (length line) g → Near (adding es g)
    near-adding es (given r vs) h = tt
    near-adding es (wrong q k) h = omega arith

    near-stated : (h : Result (Option Named) LineFault) → HeadUpTo (length line) h → Near (stated line h)
    near-stated (Ok None) u = tt
    near-stated (Ok (Some h)) u =
        near-adding (opened (take (h.end - h.start) (drop h.start line)) h.operator ∷ []) (given_at line h.at) (given-within line h.at u)
    near-stated (Err f) u = omega arith

    near-fairly : (o : Outcome) → Near o → Near (fairly line o)
    near-fairly o h = by (ltb (past fair line 0) (length line)) refl
      where
        by : (t : Bool) → ltb (past fair line 0) (length line) ≡ t → Near (if t then fault F.BadByte (past fair line 0) else o)
        by true e = omega (arith, ltb-true (past fair line 0) (length line) e)
        by false e = h

  near-section : (r s : Reader) → Near (section r s)
  near-section R.Text s = tt
  near-section R.Data s = tt
  near-section (R.List k) s = omega arith

  near-marked : (m : Mark) (r : Reader) → (counts_as_data m r ≡ true → length line ≤ LONGEST_LINE) → Near (marked m r line)
  near-marked M.Data r h = near-section r R.Data
  near-marked M.Text r h = near-section r R.Text
  near-marked M.Plain R.Text h = tt
  near-marked M.Plain R.Data h = near-fairly (h refl) (stated line (head line)) (near-stated (h refl) (head line) (head-within line))
  near-marked M.Plain (R.List k) h = near-fairly (h refl) (adding [] (listed k line 0)) (near-adding (h refl) [] (listed k line 0) (listed-within line k 0))

  near-answered : (r : Reader) → Near (answered r line)
  unfolding answered
  near-answered r = by (ltb LONGEST_LINE (length line)) (counts_as_data (mark_of line) r) refl refl
    where
      by : (t u : Bool) → ltb LONGEST_LINE (length line) ≡ t → counts_as_data (mark_of line) r ≡ u
          → Near (if t && u then fault F.TooLong LONGEST_LINE else marked (mark_of line) r line)
      by true true e d = omega arith
      by true false e d = near-marked (mark_of line) r (λ c. true-false (sym c ∙ d))
      by false u e d = near-marked (mark_of line) r (λ c. omega (arith, ltb-false LONGEST_LINE (length line) e))

-- ---- so an open text's fault can be kept

module _ (s : Pool) (number : ℕ) (h : number ≤ MOST + 1) where
  line-stored : (r : Reader) (body : List Statement) → InLine (stored s r body).standing
  line-stored r body = by (fitting s body)
    where
      by : (t : Bool) → InLine (by_room t r body).standing
      by true = tt
      by false = tt

  line-storing : (r : Reader) (body : List Statement) (o : Outcome) → Near o → InLine (storing_line s r body o number).standing
  line-storing r body (next q es) n = line-stored q (extended r body es)
  line-storing r body (fault q k) n = (h, n)

  line-overflowed : (body : List Statement) (o : Outcome) → Near o → InLine (overflowed_line body o number).standing
  line-overflowed body (next q es) n = tt
  line-overflowed body (fault q k) n = (h, n)

  pub in-line : (p : Progress) (line : List ℕ) → InLine p.standing → InLine (complete s p number line).standing
  unfolding complete
  in-line p line = by p.body p.standing
    where
      by : (body : List Statement) (t : Standing) → InLine t → InLine (by_standing s body t number line).standing
      by body (S.Storing r) i = line-storing r body (answered r line) (near-answered line r)
      by body (S.Overflowed r) i = line-overflowed body (answered r line) (near-answered line r)
      by body (S.Faulted f) i = i
