-- What the code knows where it writes a line, and where it counts what the line adds, is what completing the line asks. Assumes nothing.
use Prim.Native.Nat.{ℕ, ◌+◌, ◌≤◌}
use native.Mathlib.Omega.{arith}
use mathlib.Core.Path.{◌≡◌, refl, sym, ap, subst, ◌∙◌}
use mathlib.Core.Bool.{Bool, true, false}
use mathlib.Core.List.{List, [], ◌∷◌}
use borrow.Author.Tests.{ltb-true, ltb-false}
use lib.Dec.{ltb}
use lib.ListN.{length}
use Rattle.statement.specs.Statements.{Event, opened, value, openings, givings, bytes_given}
use Rattle.statement.specs.declared.values.Reader.{Reader}
use Rattle.text.specs.Lengths.{LONGEST_LINE}
use Rattle.text.specs.Line.{Outcome, next, answered, counted}
use Rattle.text.proofs.Bounds.{line-counts}
use Rattle.layout.specs.Memory.{decode, laid_behind}
use Rattle.layout.specs.Damage.{Framed}
use Rattle.page.specs.Pens.{Stretches, Tells}
use Rattle.page.specs.Writing.{Page, page, written_on}
use Rattle.page.specs.declared.pen.Pen.{Pen}
use Rattle.writing.specs.Pens.{Roomy, Writes}
use Rattle.writing.specs.declared.give.Turn.{Turn}
use Rattle.bookmark.specs.declared.mark.Entered.{Entered}
use Rattle.bookmark.specs.declared.mark.Standing.TheVariants as S
use Rattle.opening.specs.Storing.{extended, fitting}
use Rattle.entering.specs.Entries.{entry, body_of}
use Rattle.entering.specs.Counts.{emptied, grown, Few, Countable, room_for}
use Rattle.entering.specs.Pens.{pen_at, Penned, place_on}
use Rattle.entering.specs.Lines.{Bears, Ready, Completes, Steps, Adds, Lays}
use Rattle.entering.proofs.Numbers.{places-most}
use Rattle.entering.proofs.Lines.{at-line, short-line, ordered, penned, roomy, lays-line, Places, placing-line}
use Rattle.entering.proofs.Completing.{bears, room_fits, overflows, stores, nothing-laid}

same-events : (o : Outcome) (q p : Reader) (es fs : List Event) → o ≡ next q es → o ≡ next p fs → es ≡ fs
same-events o q p es fs e f = cc

-- ---- where a line is written

module _ (m : List ℕ) (e : Entered) (r : Reader) (line : List ℕ) (given : ℕ) (p : Adds m e r line given) where
  pub laid_as : (m2 : List ℕ) → m2 ≡ laid_behind (decode m) (extended r (body_of (entry m e)) p.events) m → Lays m e r line m2
  laid_as m2 k = λ s es f. k ∙ ap (λ (x : List Event). laid_behind (decode m) (extended r (body_of (entry m e)) x) m) (same-events (answered r line) p.after s p.events es p.is f)

  bearing : Bears r (body_of (entry m e))
  bearing = bears m e p.ready r p.standing

  pub found : Penned m e r
  found = penned m e p.ready r bearing

  pub writable : (pen : Pen) → pen ≡ pen_at m e r → Roomy pen line
  writable pen q = rw q (roomy m e p.ready r line bearing (short-line r line p.after p.events p.is p.some))

  module _ (pen : Pen) (q : pen ≡ pen_at m e r) (m1 : List ℕ) (t : Turn) (w : Writes (answered r line) (page m pen) m1 t) where
    left : page m1 t.pen ≡ written_on p.events (page m (pen_at m e r))
    left = (w p.after p.events p.is).left ∙ ap (λ (x : Pen). written_on p.events (page m x)) q

    placing : given ≡ 0 → Places m e p.ready r p.events
    placing z = at-line _ (placing-line m e p.ready) r line p.after p.events p.is bearing p.fits p.some (p.gives ∙ z)

    pub can-place : given ≡ 0 → Stretches t.pen × Tells t.pen 1
    can-place z =
        let l = ap (λ (x : Page). x.pen) left in
        (subst Stretches (sym l) (placing z).stretches, subst (λ (x : Pen). Tells x 1) (sym l) (placing z).tells)

    pub lays-place : given ≡ 0 → (m2 : List ℕ) → m2 ≡ (place_on (page m1 t.pen)).memory → Lays m e r line m2
    lays-place z m2 k = laid_as m2 (k ∙ ap (λ (x : Page). (place_on x).memory) left ∙ (placing z).lays)

    pub lays-some : (given ≡ 0 → ⊥) → Lays m e r line m1
    lays-some z =
        laid_as m1
        (ap (λ (x : Page). x.memory) left ∙ at-line _ (lays-line m e p.ready) r line p.after p.events p.is bearing p.fits (some given p.gives z))
      where
        some : (n : ℕ) → givings p.events ≡ n → (n ≡ 0 → ⊥) → 1 ≤ givings p.events
        some n g f = omega arith

-- ---- where it is counted

no_bytes : (es : List Event) → givings es ≡ 0 → bytes_given es ≡ 0
no_bytes [] e = refl
no_bytes (opened n o ∷ es) e = no_bytes es e
no_bytes (value v ∷ es) e = absurd (omega arith)

module _ (r : Reader) (line : List ℕ) (q : Reader) (n k b : ℕ) (p : Steps r line q n k b) where
  bounds : (n ≤ 1) × (k ≤ LONGEST_LINE) × (b ≤ LONGEST_LINE)
  bounds = by (ltb 0 (openings p.events + givings p.events)) refl
    where
      c : counted (answered r line) ≡ counted (next q p.events)
      c = ap counted p.is

      l : (openings p.events ≤ 1) × (givings p.events ≤ length line) × (bytes_given p.events ≤ length line)
      l = line-counts r line (record { reader = q; opened = openings p.events; given = givings p.events; bytes = bytes_given p.events }) c

      by : (t : Bool) → ltb 0 (openings p.events + givings p.events) ≡ t → (n ≤ 1) × (k ≤ LONGEST_LINE) × (b ≤ LONGEST_LINE)
      by true f =
          let s = short-line r line q p.events p.is (omega (arith, ltb-true 0 (openings p.events + givings p.events) f)) in
          (omega (arith, l.0, p.opens), omega (arith, l.1, p.gives), omega (arith, l.2, p.spells))
      by false f =
          let z = ltb-false 0 (openings p.events + givings p.events) f in
          (omega (arith, p.opens), omega (arith, p.gives), omega (arith, p.spells, no_bytes p.events (omega arith)))

  module _ (m : List ℕ) (e : Entered) (a : Ready m e) (h : e.standing ≡ S.Storing r) where
    held : Penned m e r
    held = penned m e a r (bears m e a r h)

    pub countable : Countable e r n k b
    countable =
        let d = held in
        let c = bounds in
        record {
          few = record {
            statements = omega (arith, d.statements, c.0);
            values = omega (arith, d.values, c.1, places-most r);
            bytes = omega (arith, d.bytes, c.2);
          };
          some = d.some;
        }

    pub framed : Framed m
    framed = (ordered m e a).sizes

    module _ (sums : Entered) (g : sums ≡ grown e r q n k b) where
      pub few : Few sums
      few =
          let d = held in
          let c = bounds in
          rw g (record {
            statements = omega (arith, d.statements, c.0);
            values = omega (arith, d.values, c.1, places-most q);
            bytes = omega (arith, d.bytes, c.2);
          })

      -- as the events count
      as-events : sums ≡ grown e r q (openings p.events) (givings p.events) (bytes_given p.events)
      as-events = g ∙ (λ i. grown e r q (sym p.opens i) (sym p.gives i) (sym p.spells i))

      fits-as : (t : Bool) → t ≡ room_for m sums → t ≡ fitting (decode m) (extended r (body_of (entry m e)) p.events)
      fits-as t u = u ∙ ap (room_for m) as-events ∙ room_fits m e a r h line q p.events p.is

      pub overflowing : (t : Bool) (x : Entered) → t ≡ room_for m sums → t ≡ false → x ≡ emptied (S.Overflowed q) → (number : ℕ) → Completes m e number line m x
      overflowing t x u f z number = overflows m e a r h line q p.events p.is number x (sym (fits-as t u) ∙ f) z

      pub storing : (t : Bool) → t ≡ room_for m sums → t ≡ true → (after : List ℕ) → Lays m e r line after → (number : ℕ) → Completes m e number line after sums
      storing t u f after l number = stores m e a r h line q p.events p.is number after sums (sym (fits-as t u) ∙ f) (l q p.events p.is) as-events

      pub nothing-added : n ≡ 0 → k ≡ 0 → Lays m e r line m
      nothing-added i j = λ s es f.
          let z : p.events ≡ es = same-events (answered r line) q s p.events es p.is f in
          nothing-laid m e a r h line s es f (omega (arith, ap openings z, ap givings z, p.opens, p.gives))

      adds : (t : Bool) → t ≡ room_for m sums → t ≡ true → 1 ≤ n + k → Adds m e r line k
      adds t u f i = record {
        after = q;
        events = p.events;
        ready = a;
        standing = h;
        is = p.is;
        fits = sym (fits-as t u) ∙ f;
        some = omega (arith, p.opens, p.gives);
        gives = p.gives;
      }

      -- what it adds is to be written
      pub to_write : (t : Bool) → t ≡ room_for m sums → t ≡ true → 1 ≤ n + k → (number : ℕ)
          → Adds m e r line k × ((after : List ℕ) → Lays m e r line after → Completes m e number line after sums)
      to_write t u f i number = (adds t u f i, λ after l. storing t u f after l number)
