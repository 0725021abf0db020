-- Every statement of an admitted text is legal: its name is a name, it has a value at least, and its values are of one kind, numbers as
-- they are read or strings of 60 fair bytes at most; and no value that is read is left out. Assumes nothing.
use Prim.Native.Nat.{ℕ, ◌+◌, ◌-◌, ◌≤◌}
use native.Mathlib.Omega.{arith}
use mathlib.Core.Path.{◌≡◌, refl, ap}
use mathlib.Core.List.{List, [], ◌∷◌, ◌++◌, map, append-nil}
use lib.Ieee.{Float, binary64, to_bits}
use lib.ListN.{length, take, drop, length-append}
use Rattle.plain.proofs.Each.{Each, each_append}
use Rattle.decimal.specs.Class.{reading}
use Rattle.decimal.specs.declared.Reading.TheVariants as D
use Rattle.value.specs.Value.{Value}
use Rattle.std.specs.Prelude.{Option, Some, None, Result, Ok, Err}
use Rattle.value.specs.declared.faults.LineFault.{LineFault}
use Rattle.statement.specs.Statements.{Event, opened, value, Statement, how_many, how_long, Gathered, gathered, statements, givings, bytes_given}
use Rattle.statement.specs.Head.{head}
use Rattle.statement.specs.Values.{bytes_in_all, Given, given, wrong, listed, given_at}
use Rattle.statement.specs.declared.values.Reader.{Reader}
use Rattle.statement.specs.declared.values.Reader.TheVariants as R
use Rattle.statement.specs.declared.head.Named.{Named}
use Rattle.statement.specs.declared.head.Operator.{Operator}
use Rattle.statement.specs.declared.values.Kind.{Kind}
use Rattle.statement.specs.declared.values.Kind.TheVariants as K
use Rattle.statement.proofs.OneKind.{FairLine, Taking, Full, Led, Good, LegalValue, LegalValues, taking-append, all-kept, some-value, legal-values, good-listed, good-given}
use Rattle.statement.proofs.Events.{givings-append, givings-values, bytes_given-append, bytes_given-values}
use Rattle.statement.proofs.Names.{LegalName, LegalHead, legal-head}
use Rattle.text.specs.Lines.{lines}
use Rattle.text.specs.Line.{Outcome, next, fault, adding, stated, section, answered}
use Rattle.text.specs.Text.{Read, fine, refused, finished, preceded, continued, read_from, read_text}
use Rattle.text.proofs.Answers.{FairTo, said, holds-answered}

-- a statement whose numbers' bits are all so
pub record Legal (P : ℕ → Type 0) (s : Statement) : Type 0 where
  pub named : LegalName s.name
  pub filled : 1 ≤ how_many s.values
  pub values : LegalValues P s.values

-- how many values some statements have together, and how many bytes in strings
abbrev pub total : List Statement → ℕ
total [] = 0
total (s ∷ ss) = how_many s.values + total ss

abbrev pub total_length : List Statement → ℕ
total_length [] = 0
total_length (s ∷ ss) = how_long s.values + total_length ss

bytes-append : (vs ws : List Value) → bytes_in_all (vs ++ ws) ≡ bytes_in_all vs + bytes_in_all ws
bytes-append [] ws = omega arith
bytes-append (v ∷ vs) ws = let h = bytes-append vs ws in omega arith

gathered-values : (vs : List Value) (es : List Event)
    → gathered (map value vs ++ es) ≡ record { loose = vs ++ (gathered es).loose; statements = (gathered es).statements }
gathered-values [] es = refl
gathered-values (v ∷ vs) es = rw (gathered-values vs es)

-- the values that a reader's list still gets: outside a list none, and a list of their kind is left
record Filled (j : Kind) (vs : List Value) : Type 0 where
  to : Kind
  taking : Taking j vs to
  full : Full to

abbrev Awaited : Reader → List Value → Type 0
Awaited R.Text vs = vs ≡ []
Awaited R.Data vs = vs ≡ []
Awaited (R.List j) vs = Filled j vs

-- what follows a reader: the values that its list still gets, and legal statements, with all values that are given
record Sound (P : ℕ → Type 0) (r : Reader) (es : List Event) (g : Gathered) : Type 0 where
  so : Each (LegalValue P) g.loose
  enough : Awaited r g.loose
  legal : Each (Legal P) g.statements
  many : length g.loose + total g.statements ≡ givings es
  long : bytes_in_all g.loose + total_length g.statements ≡ bytes_given es

-- a line after which sound events are sound before it too
abbrev Step : (ℕ → Type 0) → Reader → Outcome → Type 0
Step P r (next s fs) = (es : List Event) → Sound P s es (gathered es) → Sound P r (fs ++ es) (gathered (fs ++ es))
Step P r (fault q k) = Unit

-- what is read from a reader on is sound
abbrev SoundRead : (ℕ → Type 0) → Reader → Read → Type 0
SoundRead P r (fine es) = Sound P r es (gathered es)
SoundRead P r (refused q n k) = Unit

-- a list's values in one line, and those that it still gets
filling : (j : Kind) (r : Reader) (vs ws : List Value) → Led j vs r → Awaited r ws → Filled j (vs ++ ws)
filling j R.Text vs ws l a = absurd l.after
filling j R.Data vs ws l a = rw (a, append-nil vs) (record { to = l.to; taking = l.taking; full = l.after })
filling j (R.List k) vs ws l a = record { to = a.to; taking = taking-append j k a.to vs ws (rw l.after at l.taking) a.taking; full = a.full }

module _ (P : ℕ → Type 0) where
  step-list : (j : Kind) (g : Given) → Good P j g → Step P (R.List j) (adding [] g)
  step-list j (wrong q k) h = tt
  step-list j (given s vs) h = λ es e.
      let ws = (gathered es).loose in
      rw (gathered-values vs es)
      (record {
        so = each_append (LegalValue P) vs ws h.0 e.so;
        enough = filling j s vs ws h.1 e.enough;
        legal = e.legal;
        many = omega (arith, e.many, length-append vs ws, givings-append (map value vs) es, givings-values vs);
        long = omega (arith, e.long, bytes-append vs ws, bytes_given-append (map value vs) es, bytes_given-values vs);
      })

  step-statement : (n : List ℕ) (o : Operator) (g : Given) → LegalName n → Good P K.Empty g → Step P R.Data (adding (opened n o ∷ []) g)
  step-statement n o (wrong q k) l h = tt
  step-statement n o (given s vs) l h = λ es e.
      let ws = (gathered es).loose in
      let f = filling K.Empty s vs ws h.1 e.enough in
      let k = all-kept (vs ++ ws) f.to f.taking in
      rw (gathered-values vs es)
      (record {
        so = tt;
        enough = refl;
        legal = (
          record {
            named = l;
            filled = omega (arith, k.0, some-value (vs ++ ws) f.to f.taking f.full);
            values = legal-values P (vs ++ ws) (each_append (LegalValue P) vs ws h.0 e.so);
          },
          e.legal,
        );
        many = omega (arith, e.many, k.0, length-append vs ws, givings-append (map value vs) es, givings-values vs);
        long = omega (arith, e.long, k.1, bytes-append vs ws, bytes_given-append (map value vs) es, bytes_given-values vs);
      })

  step-section : (r s : Reader) → ((vs : List Value) → Awaited s vs → vs ≡ []) → Step P r (section r s)
  step-section R.Text s f = λ es e. record { so = e.so; enough = f (gathered es).loose e.enough; legal = e.legal; many = e.many; long = e.long }
  step-section R.Data s f = λ es e. record { so = e.so; enough = f (gathered es).loose e.enough; legal = e.legal; many = e.many; long = e.long }
  step-section (R.List k) s f = tt

  sound-before : (r s : Reader) (fs : List Event) (x : Read) → Step P r (next s fs) → SoundRead P s x → SoundRead P r (preceded fs x)
  sound-before r s fs (fine es) f h = f es h
  sound-before r s fs (refused q n k) f h = tt

  sound-end : (r : Reader) (number long : ℕ) → SoundRead P r (finished r number long)
  sound-end R.Text number long = record { so = tt; enough = refl; legal = tt; many = refl; long = refl }
  sound-end R.Data number long = record { so = tt; enough = refl; legal = tt; many = refl; long = refl }
  sound-end (R.List k) number long = tt

  from-sound : (r : Reader) (x : Read) (es : List Event) → SoundRead P r x → x ≡ fine es → Sound P r es (gathered es)
  from-sound r (fine fs) es h e = let z : fs ≡ es = cc in rw z at h
  from-sound r (refused q n k) es h e = let z : ◌≡◌ {A = ℕ} 0 1 = cc in absurd (omega arith)

  module _ (read : (bs : List ℕ) (x : Float) → reading bs ≡ D.Number x → P (to_bits binary64 x)) where
    step-stated : (line : List ℕ) (h : Result (Option Named) LineFault) → FairLine line → LegalHead line h → Step P R.Data (stated line h)
    step-stated line (Ok None) f l = λ es e. e
    step-stated line (Ok (Some h)) f l = step-statement (take (h.end - h.start) (drop h.start line)) h.operator (given_at line h.at) l (good-given P read line f h.at)
    step-stated line (Err q) f l = tt

    step-said : (r : Reader) (line : List ℕ) → FairTo r line → Step P r (said r line)
    step-said R.Text line f = λ es e. e
    step-said R.Data line f = step-stated line (head line) f (legal-head line)
    step-said (R.List k) line f = step-list k (listed k line 0) (good-listed P read line f k 0)

    step-answered : (r : Reader) (line : List ℕ) → Step P r (answered r line)
    step-answered r line = holds-answered (Step P r) (λ q k. tt) r line (step-section r R.Data (λ vs e. e)) (step-section r R.Text (λ vs e. e)) (step-said r line)

    sound-lines : (r : Reader) (number long : ℕ) (ls : List (List ℕ)) → SoundRead P r (read_from r number long ls)
    unfolding read_from
    sound-lines r number long [] = sound-end r number long
    sound-lines r number long (l ∷ ls) = by (answered r l) (step-answered r l) (λ s. sound-lines s (number + 1) (length l) ls)
      where
        by : (o : Outcome) → Step P r o → ((s : Reader) → SoundRead P s (read_from s (number + 1) (length l) ls))
            → SoundRead P r (continued o (number + 1) (λ s. read_from s (number + 1) (length l) ls))
        by (next s fs) f g = sound-before r s fs (read_from s (number + 1) (length l) ls) f (g s)
        by (fault q k) f g = tt

    sound-text : (text : List ℕ) (es : List Event) → read_text text ≡ fine es → Sound P R.Text es (gathered es)
    unfolding read_text
    sound-text text es e = from-sound R.Text (read_text text) es (sound-lines R.Text 0 0 (lines text)) e

    -- the statements of an admitted text, where the bits of every number that is read are so
    pub all-legal : (text : List ℕ) (es : List Event) → read_text text ≡ fine es → Each (Legal P) (statements es)
    all-legal text es e = (sound-text text es e).legal

module _ (text : List ℕ) (es : List Event) (e : read_text text ≡ fine es) where
  sound : Sound (λ v. Unit) R.Text es (gathered es)
  sound = sound-text (λ v. Unit) (λ bs x r. tt) text es e

  -- every value of an admitted text stands in a statement
  pub none-loose : (gathered es).loose ≡ []
  none-loose = sound.enough

  -- and none is left out for its kind
  pub all-given : total (statements es) ≡ givings es
  all-given = omega (arith, sound.many, ap length none-loose)

  pub all-spelled : total_length (statements es) ≡ bytes_given es
  all-spelled = omega (arith, sound.long, ap bytes_in_all none-loose)
