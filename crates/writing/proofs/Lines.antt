-- A line that the rules admit is written as its events are. Assumes nothing.
use Prim.Native.Nat.{ℕ, ◌+◌, ◌-◌, ◌≤◌}
use native.Mathlib.Omega.{arith}
use mathlib.Core.Path.{◌≡◌, sym, ap, subst, ◌∙◌}
use mathlib.Core.Bool.{Bool, true, false}
use mathlib.Core.List.{List, [], ◌∷◌, ◌++◌, map}
use lib.Dec.{ltb}
use lib.ListN.{length, take, drop}
use Rattle.std.specs.Prelude.{Some, Ok, if◌then◌else◌}
use Rattle.plain.specs.Runs.{past}
use Rattle.plain.specs.Bytes.{fair}
use Rattle.text.specs.Delimiters.{mark_of}
use Rattle.text.specs.Lengths.{LONGEST_LINE, too_long}
use Rattle.value.specs.Value.{Value}
use Rattle.statement.specs.Values.{Given, given, wrong, listed, given_at}
use Rattle.statement.specs.Statements.{Event, opened, value}
use Rattle.statement.specs.Head.{head}
use Rattle.text.specs.Line.{Outcome, next, fault, adding, stated, fairly, section, plain, marked, answered}
use Rattle.value.specs.declared.faults.Fault.{Fault}
use Rattle.value.specs.declared.faults.Fault.TheVariants as F
use Rattle.statement.specs.declared.values.Reader.{Reader}
use Rattle.statement.specs.declared.values.Reader.TheVariants as R
use Rattle.text.specs.declared.delimiters.Mark.TheVariants as M
use Rattle.statement.specs.declared.values.Kind.{Kind}
use Rattle.statement.specs.declared.head.Named.{Named}
use Rattle.statement.specs.declared.head.Operator.{Operator}
use Rattle.words.specs.Over.{over}
use Rattle.words.specs.Halves.{upper}
use Rattle.words.proofs.Over.{length_over}
use Rattle.names.specs.Names.{packed}
use Rattle.layout.specs.Limits.{WORDS}
use Rattle.page.specs.Writing.{Page, page, bare_head, opened_on, given_on, written_on}
use Rattle.writing.specs.Pens.{Ready, Roomy, Turns, Gives}
use Rattle.page.specs.declared.pen.Pen.{Pen}
use Rattle.writing.specs.declared.give.Turn.{Turn}
use Rattle.writing.proofs.Giving.{list-one, given-one}
use Rattle.page.proofs.Pages.{HeadBefore, values-written, bare-headed}

-- ---- what an admitted line adds

-- it adds these first events, and then values
pub record Adds (fs : List Event) (g : Given) (s : Reader) (es : List Event) : Type 0 where
  pub values : List Value
  pub given : g ≡ given s values
  pub events : fs ++ map value values ≡ es

pub adding-next : (fs : List Event) (g : Given) (s : Reader) (es : List Event) → adding fs g ≡ next s es → Adds fs g s es
adding-next fs (given r vs) s es e = let q : r ≡ s = cc in record { values = vs; given = rw q; events = cc }
adding-next fs (wrong q k) s es e = let z : ◌≡◌ {A = ℕ} 0 1 = cc in absurd (omega arith)

pub fairly-next : (line : List ℕ) (o : Outcome) (s : Reader) (es : List Event) → fairly line o ≡ next s es → o ≡ next s es
fairly-next line o s es = by (ltb (past fair line 0) (length line))
  where
    by : (b : Bool) → (if b then fault F.BadByte (past fair line 0) else o) ≡ next s es → o ≡ next s es
    by true e = let z : ◌≡◌ {A = ℕ} 0 1 = cc in absurd (omega arith)
    by false e = e

pub section-next : (r t s : Reader) (es : List Event) → section r t ≡ next s es → next t [] ≡ next s es
section-next R.Text t s es e = e
section-next R.Data t s es e = e
section-next (R.List k) t s es e = let z : ◌≡◌ {A = ℕ} 0 1 = cc in absurd (omega arith)

pub answered-next : (r : Reader) (line : List ℕ) (s : Reader) (es : List Event) → answered r line ≡ next s es → marked (mark_of line) r line ≡ next s es
unfolding answered
answered-next r line s es = by (too_long (mark_of line) r (length line))
  where
    by : (b : Bool) → (if b then fault F.TooLong LONGEST_LINE else marked (mark_of line) r line) ≡ next s es → marked (mark_of line) r line ≡ next s es
    by true e = let z : ◌≡◌ {A = ℕ} 0 1 = cc in absurd (omega arith)
    by false e = e

-- by the reader
module _ (line : List ℕ) (r s : Reader) (es : List Event) where
  pub text-next : r ≡ R.Text → plain r line ≡ next s es → next R.Text [] ≡ next s es
  text-next q e = rw q at e

  pub data-next : r ≡ R.Data → plain r line ≡ next s es → stated line (head line) ≡ next s es
  data-next q e = fairly-next line (stated line (head line)) s es (rw q at e)

  pub list-next : (k : Kind) → r ≡ R.List k → plain r line ≡ next s es → adding [] (listed k line 0) ≡ next s es
  list-next k q e = fairly-next line (adding [] (listed k line 0)) s es (rw q at e)

  -- by the section that the line opens, if any
  pub data-mark : mark_of line ≡ M.Data → answered r line ≡ next s es → next R.Data [] ≡ next s es
  data-mark q e = section-next r R.Data s es (rw q at (answered-next r line s es e))

  pub text-mark : mark_of line ≡ M.Text → answered r line ≡ next s es → next R.Text [] ≡ next s es
  text-mark q e = section-next r R.Text s es (rw q at (answered-next r line s es e))

  pub plain-mark : mark_of line ≡ M.Plain → answered r line ≡ next s es → plain r line ≡ next s es
  plain-mark q e = rw q at (answered-next r line s es e)

-- a faulty line is not admitted
pub not-faulty : {X : Type 0} (q : Fault) (k : ℕ) (s : Reader) (es : List Event) → fault q k ≡ next s es → X
not-faulty q k s es e = let z : ◌≡◌ {A = ℕ} 0 1 = cc in absurd (omega arith)

-- ---- how it is written

-- after a statement is opened, values can be given to it
pub opened-ready : (line name : List ℕ) (o : Operator) (m mid : List ℕ) (pen begun : Pen) → Roomy pen line
    → page mid begun ≡ opened_on name o (page m pen) → Ready begun line
unfolding opened_on
opened-ready line name o m mid pen begun r e =
    let h : begun.heads ≡ pen.heads + 1 = ap (λ (p : Page). p.pen.heads) e in
    let v : begun.values ≡ pen.values = ap (λ (p : Page). p.pen.values) e in
    let b : begun.bytes ≡ pen.bytes = ap (λ (p : Page). p.pen.bytes) e in
    let s = r.ready.storable in
    record {
      some = omega arith;
      head = subst (λ (x : ℕ). upper x ≤ 3) (sym (ap (λ (p : Page). p.pen.head) e)) (bare-headed o 0).tag;
      storable = record { values = omega (arith, s.values); bytes = omega (arith, s.bytes); long = s.long };
    }

module _ (m : List ℕ) (pen : Pen) (s : Reader) (es : List Event) where
  -- nothing is added
  pub nothing-turns : (r : Reader) → next r [] ≡ next s es → Turns (written_on es (page m pen)) s m (record { pen = pen; reader = r })
  unfolding written_on
  nothing-turns r e = let p : [] ≡ es = cc in record { left = rw (sym p); reader = cc }

  module _ (line : List ℕ) (d : Roomy pen line) (z : length m ≡ WORDS) where
    -- values are given to the statement opened last
    pub list_written : (k : Kind) (after : List ℕ) (r : Turn) → Gives (listed k line 0) (page m pen) after r
        → adding [] (listed k line 0) ≡ next s es → Turns (written_on es (page m pen)) s after r
    list_written k after r f e =
        let a = adding-next [] (listed k line 0) s es e in
        let t = f s a.values a.given in
        let o = list-one k line 0 s a.values a.given in
        let h : HeadBefore (page m pen) = record { some = d.ready.some; values = omega (arith, d.apart); bytes = omega (arith, d.apart, d.ready.storable.values); long = omega arith } in
        record { left = t.left ∙ sym (values-written o.strings a.values (page m pen) h o.alike) ∙ rw a.events; reader = t.reader }

    -- a statement is opened, and values are given to it
    pub statement-written : (h : Named) (mid : List ℕ) (begun : Pen) (after : List ℕ) (r : Turn)
        → page mid begun ≡ opened_on (take (h.end - h.start) (drop h.start line)) h.operator (page m pen)
        → Gives (given_at line h.at) (page mid begun) after r
        → stated line (Ok (Some h)) ≡ next s es → Turns (written_on es (page m pen)) s after r
    unfolding written_on opened_on
    statement-written h mid begun after r p f v =
        let name = take (h.end - h.start) (drop h.start line) in
        let o = h.operator in
        let i = h.at in
        let a = adding-next (opened name o ∷ []) (given_at line i) s es v in
        let t = f s a.values a.given in
        let k = given-one line i s a.values a.given in
        let named = over pen.names (packed name) m in
        let b : HeadBefore (opened_on name o (page m pen)) = record {
          some = omega arith;
          values = omega (arith, d.apart);
          bytes = omega (arith, d.apart, d.ready.storable.values);
          long = omega (arith, z, length_over pen.heads (bare_head o ∷ []) named, length_over pen.names (packed name) m);
        } in
        let w = values-written k.strings a.values (opened_on name o (page m pen)) b k.alike in
        record { left = t.left ∙ ap (given_on a.values) p ∙ sym w ∙ ap (λ (fs : List Event). written_on fs (page m pen)) a.events; reader = t.reader }
