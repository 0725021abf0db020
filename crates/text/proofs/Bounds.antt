-- A line opens at most one statement, and gives no more values and no more bytes in strings than it has bytes. Assumes nothing.
use Prim.Native.Nat.{ℕ, ◌-◌, ◌≤◌, ◌<◌}
use native.Mathlib.Omega.{arith}
use mathlib.Core.Path.{◌≡◌, refl, ap}
use mathlib.Core.Bool.{Bool, true, false}
use mathlib.Core.List.{List, [], ◌∷◌, map}
use borrow.Author.Tests.{ltb-true}
use lib.Dec.{ltb}
use lib.ListN.{length, take, drop}
use Rattle.std.specs.Prelude.{Option, Some, None, Result, Ok, Err, if◌then◌else◌}
use Rattle.plain.specs.Runs.{past}
use Rattle.value.specs.Classes.{blank, name_byte}
use Rattle.value.specs.declared.faults.Fault.{Fault}
use Rattle.value.specs.declared.faults.LineFault.{LineFault}
use Rattle.statement.specs.Values.{Given, given, wrong, listed, given_at}
use Rattle.statement.specs.Statements.{Event, opened, value, openings, givings, bytes_given}
use Rattle.statement.specs.Head.{head_named, opening, head}
use Rattle.statement.specs.declared.values.Reader.{Reader}
use Rattle.statement.specs.declared.values.Reader.TheVariants as R
use Rattle.statement.specs.declared.head.Named.{Named}
use Rattle.statement.proofs.Bounds.{MostGiven, most-listed, most-given}
use Rattle.statement.proofs.Events.{openings-append, givings-append, bytes_given-append, openings-values, givings-values, bytes_given-values}
use Rattle.text.specs.Line.{Outcome, next, fault, adding, stated, section, answered, counted}
use Rattle.text.specs.declared.line.Step.{Step}
use Rattle.text.proofs.Answers.{said, holds-section, holds-answered}

-- at most one statement is opened and at most n values and n bytes are given
abbrev Few : ℕ → Outcome → Type 0
Few n (next r es) = (openings es ≤ 1) × (givings es ≤ n) × (bytes_given es ≤ n)
Few n (fault q k) = Unit

few-adding : (n : ℕ) (es : List Event) (g : Given) → openings es ≤ 1 → givings es ≡ 0 → bytes_given es ≡ 0 → MostGiven n g → Few n (adding es g)
few-adding n es (wrong q k) a b l h = tt
few-adding n es (given r vs) a b l h = (
  omega (arith, openings-append es (map value vs), openings-values vs),
  omega (arith, givings-append es (map value vs), givings-values vs),
  omega (arith, bytes_given-append es (map value vs), bytes_given-values vs),
)

few-stated : (line : List ℕ) (h : Result (Option Named) LineFault) → 0 < length line → Few (length line) (stated line h)
few-stated line (Ok None) h = (omega arith, omega arith, omega arith)
few-stated line (Ok (Some d)) h =
    few-adding (length line) (opened (take (d.end - d.start) (drop d.start line)) d.operator ∷ []) (given_at line d.at) (omega arith) refl refl (most-given line d.at h)
few-stated line (Err q) h = tt

few_head : (line : List ℕ) → Few (length line) (stated line (head line))
unfolding head
few_head line = by (ltb (past blank line 0) (length line)) refl
  where
    n : ℕ
    n = past blank line 0

    by : (t : Bool) → ltb n (length line) ≡ t → Few (length line) (stated line (if t then opening (head_named line n (past name_byte line n)) else Ok None))
    by true e = few-stated line (opening (head_named line n (past name_byte line n))) (omega (arith, ltb-true n (length line) e))
    by false e = (omega arith, omega arith, omega arith)

few-said : (r : Reader) (line : List ℕ) → Few (length line) (said r line)
few-said R.Text line = (omega arith, omega arith, omega arith)
few-said R.Data line = few_head line
few-said (R.List k) line = few-adding (length line) [] (listed k line 0) (omega arith) refl refl (most-listed k line 0)

few-answered : (r : Reader) (line : List ℕ) → Few (length line) (answered r line)
few-answered r line = holds-answered (Few (length line)) faulty r line (opens R.Data) (opens R.Text) (λ f. few-said r line)
  where
    faulty : (q : Fault) (k : ℕ) → Few (length line) (fault q k)
    faulty q k = tt

    opens : (s : Reader) → Few (length line) (section r s)
    opens s = holds-section (Few (length line)) faulty r s (omega arith, omega arith, omega arith)

counts-few : (n : ℕ) (o : Outcome) (s : Step) → Few n o → counted o ≡ Ok s → (s.opened ≤ 1) × (s.given ≤ n) × (s.bytes ≤ n)
counts-few n (fault q k) s f e = let z : ◌≡◌ {A = ℕ} 0 1 = cc in absurd (omega arith)
counts-few n (next r es) s f e =
    let q : record { reader = r; opened = openings es; given = givings es; bytes = bytes_given es } ≡ s = cc in
    (omega (arith, ap (λ (x : Step). x.opened) q), omega (arith, ap (λ (x : Step). x.given) q), omega (arith, ap (λ (x : Step). x.bytes) q))

-- the answer to a line
pub line-counts : (r : Reader) (line : List ℕ) (s : Step) → counted (answered r line) ≡ Ok s → (s.opened ≤ 1) × (s.given ≤ length line) × (s.bytes ≤ length line)
line-counts r line s e = counts-few (length line) (answered r line) s (few-answered r line) e
