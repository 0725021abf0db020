-- When a text is refused, and where, without the scanner: at the first line that is faulty to the reader that the lines before it leave,
-- or at the last line where a list is left open. Assumes nothing.
use Prim.Native.Nat.{ℕ, ◌+◌, ◌≤◌}
use native.Mathlib.Nat.{zero-add}
use native.Mathlib.Omega.{arith}
use mathlib.Core.Logic.{◌⊎◌, inl, inr, ◌↔◌}
use mathlib.Core.Path.{◌≡◌, refl, sym, ap, ◌∙◌}
use mathlib.Core.List.{List, [], ◌∷◌, ◌++◌, append-nil}
use lib.ListN.{length, length-append}
use Rattle.value.specs.declared.faults.Fault.{Fault}
use Rattle.value.specs.declared.faults.Fault.TheVariants as F
use Rattle.statement.specs.Statements.{Event}
use Rattle.statement.specs.declared.values.Reader.{Reader}
use Rattle.statement.specs.declared.values.Reader.TheVariants as R
use Rattle.statement.specs.declared.values.Kind.{Kind}
use Rattle.text.specs.Lines.{lines}
use Rattle.text.specs.Line.{Outcome, next, fault, answered}
use Rattle.text.specs.Text.{fine, refused, finished, preceded, read_from, read_text}
use Rattle.text.proofs.Passing.{Passed, passed, stopped, after, passed_by, passing, last_long, read_on, read-append, read-passed}

-- the lines before one line are read without fault, and that line is faulty to the reader that they leave
pub record FirstFaulty (ls : List (List ℕ)) (q : Fault) (number place : ℕ) : Type 0 where
  pub earlier : List (List ℕ)
  pub line : List ℕ
  pub later : List (List ℕ)
  pub split : ls ≡ earlier ++ line ∷ later
  pub number_is : number ≡ length earlier + 1
  pub reader : Reader
  pub added : List Event
  pub passes : passing R.Text 0 earlier ≡ passed reader added
  pub faulty : answered reader line ≡ fault q place

-- all lines are read without fault, and leave a list open
pub record LeftOpen (ls : List (List ℕ)) (q : Fault) (number place : ℕ) : Type 0 where
  pub reader : Reader
  pub added : List Event
  pub passes : passing R.Text 0 ls ≡ passed reader added
  pub kind : Kind
  pub inside : reader ≡ R.List kind
  pub fault-is : q ≡ F.OpenList
  pub number_is : number ≡ length ls
  pub place_is : place ≡ last_long 0 ls

-- all lines are read without fault, add these events and leave no list open
pub record AllRead (ls : List (List ℕ)) (es : List Event) : Type 0 where
  pub reader : Reader
  pub passes : passing R.Text 0 ls ≡ passed reader es
  pub outside : (reader ≡ R.Text) ⊎ (reader ≡ R.Data)

-- ---- the line where reading stops

record Stops (r : Reader) (before : ℕ) (ls : List (List ℕ)) (q : Fault) (number place : ℕ) : Type 0 where
  earlier : List (List ℕ)
  line : List ℕ
  later : List (List ℕ)
  split : ls ≡ earlier ++ line ∷ later
  number_is : number ≡ before + (length earlier + 1)
  reader : Reader
  added : List Event
  passes : passing r before earlier ≡ passed reader added
  faulty : answered reader line ≡ fault q place

stops-later : (es : List Event) (p : Passed) (q : Fault) (n k : ℕ) → after es p ≡ stopped q n k → p ≡ stopped q n k
stops-later es (passed r fs) q n k e = let z : ◌≡◌ {A = ℕ} 0 1 = cc in absurd (omega arith)
stops-later es (stopped w m j) q n k e = e

stops : (r : Reader) (before : ℕ) (ls : List (List ℕ)) (q : Fault) (n k : ℕ) → passing r before ls ≡ stopped q n k → Stops r before ls q n k
unfolding passing
stops r before [] q n k e = let z : ◌≡◌ {A = ℕ} 0 1 = cc in absurd (omega arith)
stops r before (l ∷ ls) q n k e = by (answered r l) refl e (λ s. stops s (before + 1) ls q n k)
  where
    by : (o : Outcome) → answered r l ≡ o → passed_by o (before + 1) (λ s. passing s (before + 1) ls) ≡ stopped q n k
        → ((s : Reader) → passing s (before + 1) ls ≡ stopped q n k → Stops s (before + 1) ls q n k) → Stops r before (l ∷ ls) q n k
    by (fault w j) a e f =
        let z : before + 1 ≡ n = cc in
        record {
          earlier = [];
          line = l;
          later = ls;
          split = refl;
          number_is = omega arith;
          reader = r;
          added = [];
          passes = refl;
          faulty = a ∙ cc;
        }
    by (next s es) a e f =
        let t = f s (stops-later es (passing s (before + 1) ls) q n k e) in
        record {
          earlier = l ∷ t.earlier;
          line = t.line;
          later = t.later;
          split = ap (λ (x : List (List ℕ)). l ∷ x) t.split;
          number_is = omega (arith, t.number_is);
          reader = t.reader;
          added = es ++ t.added;
          passes = rw (a, t.passes);
          faulty = t.faulty;
        }

first-faulty : (ls : List (List ℕ)) (q : Fault) (n k : ℕ) → passing R.Text 0 ls ≡ stopped q n k → FirstFaulty ls q n k
first-faulty ls q n k e =
    let t = stops R.Text 0 ls q n k e in
    record {
      earlier = t.earlier;
      line = t.line;
      later = t.later;
      split = t.split;
      number_is = omega (arith, t.number_is);
      reader = t.reader;
      added = t.added;
      passes = t.passes;
      faulty = t.faulty;
    }

-- ---- the end of all lines

refused-open : (r : Reader) (es : List Event) (n k : ℕ) (q : Fault) (number place : ℕ) → preceded es (finished r n k) ≡ refused q number place
    → ((d : Kind) × (r ≡ R.List d)) × (q ≡ F.OpenList) × (number ≡ n) × (place ≡ k)
refused-open R.Text es n k q number place e = let z : ◌≡◌ {A = ℕ} 0 1 = cc in absurd (omega arith)
refused-open R.Data es n k q number place e = let z : ◌≡◌ {A = ℕ} 0 1 = cc in absurd (omega arith)
refused-open (R.List d) es n k q number place e = ((d, refl), cc, cc, cc)

open-refused : (r : Reader) (es : List Event) (n k : ℕ) (d : Kind) → r ≡ R.List d → preceded es (finished r n k) ≡ refused F.OpenList n k
open-refused r es n k d e = rw e

fine-outside : (r : Reader) (fs : List Event) (n k : ℕ) (es : List Event) → preceded fs (finished r n k) ≡ fine es
    → ((r ≡ R.Text) ⊎ (r ≡ R.Data)) × (fs ≡ es)
fine-outside R.Text fs n k es e = (inl refl, sym (append-nil fs) ∙ cc)
fine-outside R.Data fs n k es e = (inr refl, sym (append-nil fs) ∙ cc)
fine-outside (R.List d) fs n k es e = let z : ◌≡◌ {A = ℕ} 0 1 = cc in absurd (omega arith)

outside-fine : (r : Reader) (es : List Event) (n k : ℕ) → (r ≡ R.Text) ⊎ (r ≡ R.Data) → preceded es (finished r n k) ≡ fine es
outside-fine r es n k (inl e) = rw (e, append-nil es)
outside-fine r es n k (inr e) = rw (e, append-nil es)

-- a list is open after some line only
some-lines : (ls : List (List ℕ)) (r : Reader) (es : List Event) (d : Kind) → passing R.Text 0 ls ≡ passed r es → r ≡ R.List d → 1 ≤ length ls
unfolding passing
some-lines [] r es d e x = let z : ◌≡◌ {A = ℕ} 0 1 = cc in absurd (omega arith)
some-lines (l ∷ ls) r es d e x = omega arith

-- ---- a text

read_whole : (text : List ℕ) → let ls = lines text in read_text text ≡ read_on (passing R.Text 0 ls) (λ s. finished s (length ls) (last_long 0 ls))
unfolding read_text
read_whole text = rw zero-add at (read-passed R.Text 0 0 (lines text))

module _ (text : List ℕ) (q : Fault) (number place : ℕ) where
  faulty-or-open : read_text text ≡ refused q number place → FirstFaulty (lines text) q number place ⊎ LeftOpen (lines text) q number place
  faulty-or-open e = by (passing R.Text 0 ls) refl (sym (read_whole text) ∙ e)
    where
      ls : List (List ℕ)
      ls = lines text

      by : (p : Passed) → passing R.Text 0 ls ≡ p → read_on p (λ s. finished s (length ls) (last_long 0 ls)) ≡ refused q number place
          → FirstFaulty ls q number place ⊎ LeftOpen ls q number place
      by (passed r es) a x =
          let t = refused-open r es (length ls) (last_long 0 ls) q number place x in
          inr (record { reader = r; added = es; passes = a; kind = t.0.0; inside = t.0.1; fault-is = t.1; number_is = t.2; place_is = t.3 })
      by (stopped w n k) a x = inl (first-faulty ls q number place (a ∙ cc))

  faulty-refused : FirstFaulty (lines text) q number place → read_text text ≡ refused q number place
  unfolding read_text read_from
  faulty-refused f =
      rw (f.split, read-append R.Text 0 0 f.earlier (f.line ∷ f.later), f.passes, f.faulty, f.number_is, zero-add (length f.earlier))

  open-left-refused : LeftOpen (lines text) q number place → read_text text ≡ refused q number place
  open-left-refused f =
      rw (read_whole text, f.passes, f.fault-is, f.number_is, f.place_is) (open-refused f.reader f.added (length (lines text)) (last_long 0 (lines text)) f.kind f.inside)

  -- a text is refused just where one line is the first faulty one, or a list is left open
  pub refused-exactly : (read_text text ≡ refused q number place) ↔ (FirstFaulty (lines text) q number place ⊎ LeftOpen (lines text) q number place)
  refused-exactly = (faulty-or-open, by)
    where
      by : FirstFaulty (lines text) q number place ⊎ LeftOpen (lines text) q number place → read_text text ≡ refused q number place
      by (inl f) = faulty-refused f
      by (inr f) = open-left-refused f

  -- the line that is named is a line of the text
  pub number-within : read_text text ≡ refused q number place → (1 ≤ number) × (number ≤ length (lines text))
  number-within e = by (faulty-or-open e)
    where
      by : FirstFaulty (lines text) q number place ⊎ LeftOpen (lines text) q number place → (1 ≤ number) × (number ≤ length (lines text))
      by (inl f) = (omega (arith, f.number_is), omega (arith, f.number_is, ap length f.split, length-append f.earlier (f.line ∷ f.later)))
      by (inr f) = (omega (arith, f.number_is, some-lines (lines text) f.reader f.added f.kind f.passes f.inside), omega (arith, f.number_is))

-- a text is admitted just where all its lines are read without fault and no list is left open
pub admitted-exactly : (text : List ℕ) (es : List Event) → (read_text text ≡ fine es) ↔ AllRead (lines text) es
admitted-exactly text es = (to, from)
  where
    ls : List (List ℕ)
    ls = lines text

    by : (p : Passed) → passing R.Text 0 ls ≡ p → read_on p (λ s. finished s (length ls) (last_long 0 ls)) ≡ fine es → AllRead ls es
    by (passed r fs) a x =
        let t = fine-outside r fs (length ls) (last_long 0 ls) es x in
        record { reader = r; passes = a ∙ ap (passed r) t.1; outside = t.0 }
    by (stopped w n k) a x = let z : ◌≡◌ {A = ℕ} 0 1 = cc in absurd (omega arith)

    to : read_text text ≡ fine es → AllRead ls es
    to e = by (passing R.Text 0 ls) refl (sym (read_whole text) ∙ e)

    from : AllRead ls es → read_text text ≡ fine es
    from f = rw (read_whole text, f.passes) (outside-fine f.reader es (length ls) (last_long 0 ls) f.outside)
