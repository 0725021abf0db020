-- Reading some lines and then others is reading them all: the reader and the events after the first lines are all that the others need.
-- Assumes nothing.
use Prim.Native.Nat.{ℕ, ◌+◌}
use native.Mathlib.Nat.{add-zero}
use native.Mathlib.Omega.{arith}
use mathlib.Core.Path.{◌≡◌, refl, sym, ap, ◌∙◌}
use mathlib.Core.List.{List, [], ◌∷◌, ◌++◌, append_assoc, append-nil}
use lib.ListN.{length}
use Rattle.plain.specs.Bytes.{LF}
use Rattle.value.specs.declared.faults.Fault.{Fault}
use Rattle.statement.specs.Statements.{Event}
use Rattle.statement.specs.declared.values.Reader.{Reader}
use Rattle.statement.specs.declared.values.Reader.TheVariants as R
use Rattle.text.specs.Lines.{lines}
use Rattle.text.specs.Line.{Outcome, next, fault, answered}
use Rattle.text.specs.Text.{Read, fine, refused, finished, preceded, continued, read_from, read_text}
use Rattle.text.proofs.LineEnds.{lines_join}

-- some lines read without fault: the reader that they leave, and all that they add; or the first fault
pub data Passed : Type 0 where
  passed : Reader → List Event → Passed
  stopped : Fault → (line place : ℕ) → Passed

-- what a line adds, before what the lines after it add
abbrev pub after : List Event → Passed → Passed
after es (passed r fs) = passed r (es ++ fs)
after es (stopped q n k) = stopped q n k

-- the outcome of line `number`, and the lines after it
abbrev pub passed_by : Outcome → (number : ℕ) → (Reader → Passed) → Passed
passed_by (next r es) number more = after es (more r)
passed_by (fault q k) number more = stopped q number k

-- the lines after so many
unfoldable pub passing : Reader → (number : ℕ) → List (List ℕ) → Passed
passing r number [] = passed r []
passing r number (l ∷ ls) = passed_by (answered r l) (number + 1) (λ s. passing s (number + 1) ls)

-- how long the last of some lines is, or the line before them where there is none
abbrev pub last_long : ℕ → List (List ℕ) → ℕ
last_long long [] = long
last_long long (l ∷ ls) = last_long (length l) ls

pub last-long : (long : ℕ) (ls : List (List ℕ)) (l : List ℕ) → last_long long (ls ++ l ∷ []) ≡ length l
last-long long [] l = refl
last-long long (m ∷ ls) l = last-long (length m) ls l

-- lines that were passed, and what is read after them
abbrev pub read_on : Passed → (Reader → Read) → Read
read_on (passed r es) more = preceded es (more r)
read_on (stopped q n k) more = refused q n k

preceded-none : (x : Read) → preceded [] x ≡ x
preceded-none (fine es) = refl
preceded-none (refused q n k) = refl

preceded-twice : (es fs : List Event) (x : Read) → preceded (es ++ fs) x ≡ preceded es (preceded fs x)
preceded-twice es fs (fine gs) = rw (append_assoc es fs gs)
preceded-twice es fs (refused q n k) = refl

on-after : (es : List Event) (p : Passed) (more : Reader → Read) → read_on (after es p) more ≡ preceded es (read_on p more)
on-after es (passed r fs) more = preceded-twice es fs (more r)
on-after es (stopped q n k) more = refl

-- reading lines and then more lines
pub read-append : (r : Reader) (number long : ℕ) (ls ms : List (List ℕ))
    → read_from r number long (ls ++ ms) ≡ read_on (passing r number ls) (λ s. read_from s (number + length ls) (last_long long ls) ms)
unfolding read_from passing
read-append r number long [] ms = rw (add-zero number) (sym (preceded-none (read_from r number long ms)))
read-append r number long (l ∷ ls) ms = by (answered r l) (λ s. read-append s (number + 1) (length l) ls ms)
  where
    by : (o : Outcome)
        → ((s : Reader) → read_from s (number + 1) (length l) (ls ++ ms) ≡ read_on (passing s (number + 1) ls) (λ s. read_from s (number + 1 + length ls) (last_long (length l) ls) ms))
        → continued o (number + 1) (λ s. read_from s (number + 1) (length l) (ls ++ ms))
        ≡ read_on (passed_by o (number + 1) (λ s. passing s (number + 1) ls)) (λ s. read_from s (number + length (l ∷ ls)) (last_long (length l) ls) ms)
    by (next s es) f =
        let z : number + length (l ∷ ls) ≡ number + 1 + length ls = omega arith in
        rw (z, f s) (sym (on-after es (passing s (number + 1) ls) (λ s. read_from s (number + 1 + length ls) (last_long (length l) ls) ms)))
    by (fault q k) f = refl

-- reading lines to the end
pub read-passed : (r : Reader) (number long : ℕ) (ls : List (List ℕ))
    → read_from r number long ls ≡ read_on (passing r number ls) (λ s. finished s (number + length ls) (last_long long ls))
unfolding read_from
read-passed r number long ls = ap (read_from r number long) (sym (append-nil ls)) ∙ read-append r number long ls []

-- a text that is joined to another at a line end
pub read_join : (xs ys : List ℕ) → let ls = lines (xs ++ LF ∷ []) in
    read_text ((xs ++ LF ∷ []) ++ ys) ≡ read_on (passing R.Text 0 ls) (λ s. read_from s (length ls) (last_long 0 ls) (lines ys))
unfolding read_text
read_join xs ys =
    let ls = lines (xs ++ LF ∷ []) in
    let z : 0 + length ls ≡ length ls = omega arith in
    rw (lines_join xs ys) (rw z at (read-append R.Text 0 0 ls (lines ys)))
