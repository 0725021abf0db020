-- What holds of every fault, of a delimiter line and of what a line's own bytes say holds of the answer to the line. Assumes nothing.
use Prim.Native.Nat.{ℕ, ◌+◌, ◌≤◌}
use native.Mathlib.Omega.{arith}
use mathlib.Core.Bool.{Bool, true, false}
use mathlib.Core.List.{List, [], ◌∷◌}
use mathlib.Core.Path.{◌≡◌, refl}
use borrow.Author.Tests.{ltb-false}
use lib.Dec.{ltb}
use lib.ListN.{length}
use Rattle.plain.specs.Bytes.{fair}
use Rattle.std.specs.Prelude.{if◌then◌else◌}
use Rattle.plain.specs.Runs.{run, past}
use Rattle.plain.proofs.Each.{Each}
use Rattle.value.specs.declared.faults.Fault.{Fault}
use Rattle.value.specs.declared.faults.Fault.TheVariants as F
use Rattle.statement.specs.Head.{head}
use Rattle.statement.specs.Values.{listed}
use Rattle.statement.specs.declared.values.Reader.{Reader}
use Rattle.statement.specs.declared.values.Reader.TheVariants as R
use Rattle.statement.proofs.OneKind.{FairLine}
use Rattle.text.specs.Delimiters.{mark_of}
use Rattle.text.specs.Lengths.{LONGEST_LINE, too_long}
use Rattle.text.specs.Line.{Outcome, next, fault, adding, stated, fairly, section, plain, marked, answered}
use Rattle.text.specs.declared.delimiters.Mark.{Mark}
use Rattle.text.specs.declared.delimiters.Mark.TheVariants as M

-- what a line of fair bytes says that is no delimiter
abbrev pub said : Reader → List ℕ → Outcome
said R.Text line = next R.Text []
said R.Data line = stated line (head line)
said (R.List k) line = adding [] (listed k line 0)

abbrev pub FairTo : Reader → List ℕ → Type 0
FairTo R.Text line = Unit
FairTo R.Data line = FairLine line
FairTo (R.List k) line = FairLine line

all-run : (p : ℕ → Bool) (bs : List ℕ) → length bs ≤ length (run p bs) → Each (λ b. p b ≡ true) bs
all-run p [] h = tt
all-run p (b ∷ bs) h = by (p b) refl h (all-run p bs)
  where
    by : (t : Bool) → p b ≡ t → length (b ∷ bs) ≤ length (if t then b ∷ run p bs else []) → (length bs ≤ length (run p bs) → Each (λ b. p b ≡ true) bs)
        → Each (λ b. p b ≡ true) (b ∷ bs)
    by true e h f = (e, f (omega arith))
    by false e h f = absurd (omega arith)

all_fair : (line : List ℕ) → ltb (past fair line 0) (length line) ≡ false → FairLine line
unfolding past
all_fair line e = all-run fair line (omega (arith, ltb-false (0 + length (run fair line)) (length line) e))

module _ (P : Outcome → Type 0) (faulty : (q : Fault) (k : ℕ) → P (fault q k)) where
  holds-fairly : (line : List ℕ) (o : Outcome) → (FairLine line → P o) → P (fairly line o)
  holds-fairly line o h = by (ltb (past fair line 0) (length line)) refl
    where
      by : (t : Bool) → ltb (past fair line 0) (length line) ≡ t → P (if t then fault F.BadByte (past fair line 0) else o)
      by true e = faulty F.BadByte (past fair line 0)
      by false e = h (all_fair line e)

  holds_plain : (r : Reader) (line : List ℕ) → (FairTo r line → P (said r line)) → P (plain r line)
  holds_plain R.Text line h = h tt
  holds_plain R.Data line h = holds-fairly line (said R.Data line) h
  holds_plain (R.List k) line h = holds-fairly line (said (R.List k) line) h

  pub holds-section : (r s : Reader) → P (next s []) → P (section r s)
  holds-section R.Text s h = h
  holds-section R.Data s h = h
  holds-section (R.List k) s h = faulty F.OpenList 0

  module _ (r : Reader) (line : List ℕ) (in-data : P (section r R.Data)) (in-text : P (section r R.Text)) (h : FairTo r line → P (said r line)) where
    holds-marked : (m : Mark) → P (marked m r line)
    holds-marked M.Data = in-data
    holds-marked M.Text = in-text
    holds-marked M.Plain = holds_plain r line h

    pub holds-answered : P (answered r line)
    unfolding answered
    holds-answered = by (too_long (mark_of line) r (length line))
      where
        by : (t : Bool) → P (if t then fault F.TooLong LONGEST_LINE else marked (mark_of line) r line)
        by true = faulty F.TooLong LONGEST_LINE
        by false = holds-marked (mark_of line)
