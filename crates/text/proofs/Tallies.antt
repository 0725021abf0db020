-- What a text is tallied at, a line at a time: the counts so far and what is left to read make all. Assumes nothing.
use Prim.Native.Nat.{ℕ, ◌+◌, ◌-◌, ◌≤◌}
use native.Mathlib.Nat.{zero-add, add-zero, add_assoc}
use native.Mathlib.Omega.{arith}
use mathlib.Core.Path.{◌≡◌, refl, sym, ap, ◌∙◌}
use mathlib.Core.List.{List, []}
use lib.ListN.{length, take, drop, length-drop, drop_of_length-le}
use lib.Seq.{length-take-le}
use Rattle.std.specs.Prelude.{Result, Ok, Err}
use Rattle.value.specs.Faults.{faulty}
use Rattle.value.specs.declared.faults.LineFault.{LineFault}
use Rattle.value.specs.declared.faults.Fault.TheVariants as F
use Rattle.statement.specs.Statements.{Event, openings, givings, bytes_given}
use Rattle.statement.specs.declared.values.Kind.{Kind}
use Rattle.statement.specs.declared.values.Reader.{Reader}
use Rattle.statement.specs.declared.values.Reader.TheVariants as R
use Rattle.statement.proofs.Events.{openings-append, givings-append, bytes_given-append}
use Rattle.text.specs.Lines.{lines, Cuts}
use Rattle.text.specs.Line.{Outcome, next, fault, answered, counted}
use Rattle.text.specs.Text.{Read, fine, refused, finished, preceded, continued, read_from, read_text, in_line, tallied}
use Rattle.text.specs.declared.Counts.{Counts}
use Rattle.text.specs.declared.TextFault.{TextFault}
use Rattle.text.specs.declared.line.Step.{Step}
use Rattle.text.specs.declared.lines.Cut.{Cut}
use Rattle.text.proofs.Bounds.{line-counts}

-- so many statements, values and bytes, and those of what is left
abbrev pub plus : (statements values bytes : ℕ) → Result Counts TextFault → Result Counts TextFault
plus s v w (Ok c) = Ok (record { statements = s + c.statements; values = v + c.values; bytes = w + c.bytes })
plus s v w (Err f) = Err f

pub plus_none : (r : Result Counts TextFault) → plus 0 0 0 r ≡ r
plus_none (Ok c) = rw (zero-add c.statements, zero-add c.values, zero-add c.bytes)
plus_none (Err f) = refl

plus-plus : (s v w a b d : ℕ) (r : Result Counts TextFault) → plus s v w (plus a b d r) ≡ plus (s + a) (v + b) (w + d) r
plus-plus s v w a b d (Ok c) = rw (add_assoc s a c.statements, add_assoc v b c.values, add_assoc w d c.bytes)
plus-plus s v w a b d (Err f) = refl

tallied-preceded : (es : List Event) (x : Read) → tallied (preceded es x) ≡ plus (openings es) (givings es) (bytes_given es) (tallied x)
tallied-preceded es (fine fs) = rw (openings-append es fs, givings-append es fs, bytes_given-append es fs)
tallied-preceded es (refused q n k) = refl

-- ---- one line

going_on : (o : Outcome) (number : ℕ) (more : Reader → Read) (t : Step) → counted o ≡ Ok t → tallied (continued o number more) ≡ plus t.opened t.given t.bytes (tallied (more t.reader))
going_on (next s es) number more t e =
    let q : record { reader = s; opened = openings es; given = givings es; bytes = bytes_given es } ≡ t = cc in
    tallied-preceded es (more s) ∙ ap (λ (x : Step). plus x.opened x.given x.bytes (tallied (more x.reader))) q
going_on (fault q k) number more t e = let z : ◌≡◌ {A = ℕ} 0 1 = cc in absurd (omega arith)

stopping : (o : Outcome) (number : ℕ) (more : Reader → Read) (f : LineFault) → counted o ≡ Err f → tallied (continued o number more) ≡ Err (in_line number f)
stopping (next s es) number more f e = let z : ◌≡◌ {A = ℕ} 0 1 = cc in absurd (omega arith)
stopping (fault w j) number more f e = let q : faulty w j ≡ f = cc in ap (λ (x : LineFault). Err (in_line number x)) q

-- ---- one turn, from the line that is cut at a place of the text

module _ (text : List ℕ) (at : ℕ) (c : Cut) (cuts : Cuts text at c) where
  line-length : length (take (c.end - at) (drop at text)) ≡ c.end - at
  line-length = length-take-le (c.end - at) (drop at text) (omega (arith, length-drop at text, cuts.ends, cuts.stays))

  module _ (r : Reader) (number long s v w : ℕ) (answer : Result Step LineFault) (e : answer ≡ counted (answered r (take (c.end - at) (drop at text)))) where
    turn_on : (t : Step) → answer ≡ Ok t
        → plus (s + t.opened) (v + t.given) (w + t.bytes) (tallied (read_from t.reader (number + 1) (c.end - at) (lines (drop c.next text)))) ≡ plus s v w (tallied (read_from r number long (lines (drop at text))))
    unfolding read_from
    turn_on t q =
        sym
        (ap (λ (ls : List (List ℕ)). plus s v w (tallied (read_from r number long ls))) cuts.line
        ∙ ap (plus s v w) (going_on (answered r (take (c.end - at) (drop at text))) (number + 1) (λ x. read_from x (number + 1) (length (take (c.end - at) (drop at text))) (lines (drop c.next text))) t (sym e ∙ q))
        ∙ plus-plus s v w t.opened t.given t.bytes (tallied (read_from t.reader (number + 1) (length (take (c.end - at) (drop at text))) (lines (drop c.next text))))
        ∙ rw line-length
        )

    pub turn-off : (f : LineFault) → answer ≡ Err f → Err (in_line (number + 1) f) ≡ plus s v w (tallied (read_from r number long (lines (drop at text))))
    unfolding read_from
    turn-off f q =
        sym
        (ap (λ (ls : List (List ℕ)). plus s v w (tallied (read_from r number long ls))) cuts.line
        ∙ ap (plus s v w) (stopping (answered r (take (c.end - at) (drop at text))) (number + 1) (λ x. read_from x (number + 1) (length (take (c.end - at) (drop at text))) (lines (drop c.next text))) f (sym e ∙ q))
        )

    turn-counts : (t : Step) → answer ≡ Ok t → (t.opened ≤ 1) × (t.given ≤ c.end - at) × (t.bytes ≤ c.end - at)
    turn-counts t q =
        let l = line-counts r (take (c.end - at) (drop at text)) t (sym e ∙ q) in
        (l.0, omega (arith, l.1, line-length), omega (arith, l.2, line-length))

-- ---- the end

-- no list is left open
pub closed : (r : Reader) (number long : ℕ) → ((k : Kind) → r ≡ R.List k → ⊥) → finished r number long ≡ fine []
closed R.Text number long h = refl
closed R.Data number long h = refl
closed (R.List k) number long h = absurd (h k refl)

module _ (text : List ℕ) (at : ℕ) (r : Reader) (number long s v w : ℕ) (h : length text ≤ at) where
  at-text-end : tallied (finished r number long) ≡ tallied (read_from r number long (lines (drop at text)))
  unfolding read_from lines
  at-text-end = rw (drop_of_length-le text h)

  pub end-admits : finished r number long ≡ fine [] → Ok (record { statements = s; values = v; bytes = w }) ≡ plus s v w (tallied (read_from r number long (lines (drop at text))))
  end-admits e = rw (sym at-text-end, e, add-zero s, add-zero v, add-zero w)

  pub end-refuses : finished r number long ≡ refused F.OpenList number long → Err (in_line number (faulty F.OpenList long)) ≡ plus s v w (tallied (read_from r number long (lines (drop at text))))
  end-refuses e = rw (sym at-text-end, e)

-- ---- all turns

-- after some lines of a text, with so many statements, values and bytes: the counts are small, and what is left to read completes them
pub record SoFar (text : List ℕ) (r : Reader) (at number long statements values bytes : ℕ) : Type 0 where
  pub opens : statements ≤ number
  pub counts : number ≤ at
  pub gives : values ≤ at
  pub spells : bytes ≤ at
  pub stays : at ≤ length text + 1
  pub left : plus statements values bytes (tallied (read_from r number long (lines (drop at text)))) ≡ tallied (read_text text)

pub at_first : (text : List ℕ) → SoFar text R.Text 0 0 0 0 0 0
unfolding read_text
at_first text =
    record {
      opens = omega arith;
      counts = omega arith;
      gives = omega arith;
      spells = omega arith;
      stays = omega arith;
      left = plus_none (tallied (read_from R.Text 0 0 (lines text)));
    }

-- one line more
pub turn : (text : List ℕ) (r : Reader) (at number long s v w : ℕ) → SoFar text r at number long s v w
    → (c : Cut) → Cuts text at c → (answer : Result Step LineFault) → answer ≡ counted (answered r (take (c.end - at) (drop at text)))
    → (t : Step) → answer ≡ Ok t → SoFar text t.reader c.next (number + 1) (c.end - at) (s + t.opened) (v + t.given) (w + t.bytes)
turn text r at number long s v w f c cuts answer e t q =
    let k = turn-counts text at c cuts r number long s v w answer e t q in
    record {
      opens = omega (arith, f.opens, k.0);
      counts = omega (arith, f.counts, cuts.starts, cuts.ends);
      gives = omega (arith, f.gives, k.1, cuts.starts, cuts.ends);
      spells = omega (arith, f.spells, k.2, cuts.starts, cuts.ends);
      stays = cuts.stays;
      left = turn_on text at c cuts r number long s v w answer e t q ∙ f.left;
    }
