-- A text is written a line at a time: what is left to write onto this page is what was to be written onto the first. Assumes nothing.
use Prim.Native.Nat.{ℕ, ◌+◌, ◌-◌, ◌≤◌}
use native.Mathlib.Omega.{arith}
use mathlib.Core.Path.{◌≡◌, refl, sym, ap, subst, ◌∙◌}
use mathlib.Core.List.{List, [], ◌++◌}
use lib.ListN.{length, take, drop, length-drop, drop_of_length-le}
use lib.Seq.{length-take-le}
use Rattle.text.specs.Lines.{lines, Cuts}
use Rattle.text.specs.Line.{Outcome, next, fault, answered}
use Rattle.statement.specs.Statements.{Event, openings, givings, bytes_given}
use Rattle.text.specs.Text.{Read, fine, refused, finished, preceded, continued, read_from, read_text, added}
use Rattle.statement.specs.declared.values.Reader.{Reader}
use Rattle.statement.specs.declared.values.Reader.TheVariants as R
use Rattle.text.specs.declared.lines.Cut.{Cut}
use Rattle.statement.proofs.Events.{openings-append, givings-append, bytes_given-append}
use Rattle.layout.specs.Limits.{LONGEST_LOAD}
use Rattle.page.specs.Writing.{Page, page, written_on}
use Rattle.page.specs.Pens.{Room}
use Rattle.writing.specs.Pens.{Roomy, Admits, Writes}
use Rattle.page.specs.declared.pen.Pen.{Pen}
use Rattle.writing.specs.declared.give.Turn.{Turn}
use Rattle.page.proofs.Pages.{written-append, written-room}

-- ---- a line of an admitted text, and the lines after it

-- the line adds `first`, and what is read after it adds the rest
pub record Goes (o : Outcome) (more : Reader → Read) (es : List Event) : Type 0 where
  pub reader : Reader
  pub first : List Event
  pub rest : List Event
  pub outcome : o ≡ next reader first
  pub reads : more reader ≡ fine rest
  pub events : first ++ rest ≡ es

preceding : (r : Reader) (fs : List Event) (more : Reader → Read) (x : Read) (es : List Event) → more r ≡ x → preceded fs x ≡ fine es → Goes (next r fs) more es
preceding r fs more (fine gs) es q e = record { reader = r; first = fs; rest = gs; outcome = refl; reads = q; events = cc }
preceding r fs more (refused w n k) es q e = let z : ◌≡◌ {A = ℕ} 0 1 = cc in absurd (omega arith)

pub then-fine : (o : Outcome) (number : ℕ) (more : Reader → Read) (es : List Event) → continued o number more ≡ fine es → Goes o more es
then-fine (next r fs) number more es e = preceding r fs more (more r) es refl e
then-fine (fault q k) number more es e = let z : ◌≡◌ {A = ℕ} 0 1 = cc in absurd (omega arith)

finished-fine : (r : Reader) (number long : ℕ) (es : List Event) → finished r number long ≡ fine es → es ≡ []
finished-fine R.Text number long es e = cc
finished-fine R.Data number long es e = cc
finished-fine (R.List k) number long es e = let z : ◌≡◌ {A = ℕ} 0 1 = cc in absurd (omega arith)

-- ---- the loop

pub record Passes (text : List ℕ) (final : Page) (at : ℕ) (m : List ℕ) (pen : Pen) (r : Reader) : Type 0 where
  pub number : ℕ
  pub last : ℕ
  pub events : List Event
  pub reads : read_from r number last (lines (drop at text)) ≡ fine events
  pub written : written_on events (page m pen) ≡ final
  pub room : Room pen (openings events) (givings events) (bytes_given events)
  pub stays : at ≤ length text + 1

module _ (text : List ℕ) (m : List ℕ) (pen : Pen) (a : Admits text pen) where
  pub at_first : Passes text (written_on (added (read_text text)) (page m pen)) 0 m pen R.Text
  unfolding read_text
  at_first = record {
    number = 0;
    last = 0;
    events = a.events;
    reads = a.reads;
    written = rw a.reads;
    room = a.room;
    stays = omega arith;
  }

module _ (text : List ℕ) (final : Page) (at : ℕ) (m : List ℕ) (pen : Pen) (r : Reader) (f : Passes text final at m pen r) where
  -- one line more
  module _ (c : Cut) (cuts : Cuts text at c) where
    line : List ℕ
    line = take (c.end - at) (drop at text)

    line-long : length line ≤ length text
    unfolding line
    line-long = omega (arith, length-take-le (c.end - at) (drop at text) (omega (arith, length-drop at text, cuts.ends, cuts.stays)), cuts.ends, cuts.stays)

    pub roomy : length text ≤ LONGEST_LOAD → Roomy pen (take (c.end - at) (drop at text))
    unfolding line
    roomy h =
        let d = f.room in
        record {
          ready = record {
            some = d.some;
            head = d.head.tag;
            storable = record { values = omega (arith, d.values); bytes = omega (arith, d.bytes); long = omega (arith, line-long) };
          };
          apart = omega (arith, d.heads);
          names = omega (arith, d.names);
        }

    pub one_more : (m' : List ℕ) (t : Turn)
        → Writes (answered r (take (c.end - at) (drop at text))) (page m pen) m' t
        → Passes text final c.next m' t.pen t.reader
    unfolding read_from
    one_more m' t w =
        let l = take (c.end - at) (drop at text) in
        let more : Reader → Read = λ s. read_from s (f.number + 1) (length l) (lines (drop c.next text)) in
        let e : continued (answered r l) (f.number + 1) more ≡ fine f.events = rw cuts.line at f.reads in
        let g = then-fine (answered r l) (f.number + 1) more f.events e in
        let u = w g.reader g.first g.outcome in
        let o : openings f.events ≡ openings g.first + openings g.rest = ap openings (sym g.events) ∙ openings-append g.first g.rest in
        let v : givings f.events ≡ givings g.first + givings g.rest = ap givings (sym g.events) ∙ givings-append g.first g.rest in
        let x : bytes_given f.events ≡ bytes_given g.first + bytes_given g.rest = ap bytes_given (sym g.events) ∙ bytes_given-append g.first g.rest in
        let d : Room pen (openings g.first + openings g.rest) (givings g.first + givings g.rest) (bytes_given g.first + bytes_given g.rest) = rw (o, v, x) at f.room in
        let room = written-room g.first (page m pen) (openings g.rest) (givings g.rest) (bytes_given g.rest) d in
        record {
          number = f.number + 1;
          last = length l;
          events = g.rest;
          reads = rw u.reader g.reads;
          written = ap (written_on g.rest) u.left ∙ sym (written-append g.first g.rest (page m pen)) ∙ ap (λ (es : List Event). written_on es (page m pen)) g.events ∙ f.written;
          room = subst (λ (p : Page). Room p.pen (openings g.rest) (givings g.rest) (bytes_given g.rest)) (sym u.left) room;
          stays = cuts.stays;
        }

  -- no line is left
  pub at_last : length text ≤ at → page m pen ≡ final
  unfolding read_from lines written_on
  at_last h =
      let e : finished r f.number f.last ≡ fine f.events = rw (drop_of_length-le text h) at f.reads in
      let n : f.events ≡ [] = finished-fine r f.number f.last f.events e in
      rw n at f.written
