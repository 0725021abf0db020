-- A line that has no fault adds nothing, or opens a statement and gives it its first values, or gives values to the list that is open: what holds
-- of these three holds of every line. Assumes nothing.
use Prim.Native.Nat.{ℕ, ◌-◌}
use mathlib.Core.List.{List, [], ◌∷◌, map}
use lib.ListN.{take, drop}
use Rattle.plain.proofs.Each.{Each}
use Rattle.std.specs.Prelude.{Option, None, Some, Result, Ok, Err}
use Rattle.value.specs.Value.{Value}
use Rattle.value.specs.declared.faults.LineFault.{LineFault}
use Rattle.statement.specs.Head.{head}
use Rattle.statement.specs.Statements.{Event, opened, value}
use Rattle.statement.specs.Values.{Given, given, wrong, listed, given_at}
use Rattle.statement.specs.declared.head.Named.{Named}
use Rattle.statement.specs.declared.head.Operator.{Operator}
use Rattle.statement.specs.declared.values.Kind.{Kind}
use Rattle.statement.specs.declared.values.Kind.TheVariants as K
use Rattle.statement.specs.declared.values.Reader.{Reader}
use Rattle.statement.specs.declared.values.Reader.TheVariants as R
use Rattle.statement.proofs.Names.{LegalName, LegalHead, legal-head}
use Rattle.statement.proofs.OneKind.{FairLine, LegalValue, Led, Good, good-listed, good-given}
use Rattle.text.specs.Line.{Outcome, next, fault, adding, stated, section, answered}
use Rattle.text.proofs.Answers.{FairTo, said, holds-answered}
use Rattle.loading.proofs.Admitted.{Small, read_small}

-- a reader outside any list
abbrev pub Outside : Reader → Type 0
Outside R.Text = Unit
Outside R.Data = Unit
Outside (R.List k) = ⊥

-- a property of a line that takes one reader to another and adds such events
abbrev pub Sort : Type 1
Sort = Reader → Reader → List Event → Type 0

pub record Holds (Q : Sort) : Type 0 where
  pub quiet : (r s : Reader) → Outside r → Outside s → Q r s []
  pub opens : (n : List ℕ) (o : Operator) (s : Reader) (vs : List Value) → LegalName n → Each (LegalValue Small) vs → Led K.Empty vs s
      → Q R.Data s (opened n o ∷ map value vs)
  pub gives : (k : Kind) (s : Reader) (vs : List Value) → Each (LegalValue Small) vs → Led k vs s → Q (R.List k) s (map value vs)

-- of an outcome, if it is no fault
abbrev pub Faultless : Sort → Reader → Outcome → Type 0
Faultless Q r (next s es) = Q r s es
Faultless Q r (fault q k) = Unit

module _ (Q : Sort) (h : Holds Q) where
  in-statement : (n : List ℕ) (o : Operator) (g : Given) → LegalName n → Good Small K.Empty g → Faultless Q R.Data (adding (opened n o ∷ []) g)
  in-statement n o (given s vs) l g = h.opens n o s vs l g.0 g.1
  in-statement n o (wrong q k) l g = tt

  in_list : (k : Kind) (g : Given) → Good Small k g → Faultless Q (R.List k) (adding [] g)
  in_list k (given s vs) g = h.gives k s vs g.0 g.1
  in_list k (wrong q j) g = tt

  in-section : (r s : Reader) → Outside s → Faultless Q r (section r s)
  in-section R.Text s f = h.quiet R.Text s tt f
  in-section R.Data s f = h.quiet R.Data s tt f
  in-section (R.List k) s f = tt

  in-data : (line : List ℕ) (d : Result (Option Named) LineFault) → FairLine line → LegalHead line d → Faultless Q R.Data (stated line d)
  in-data line (Ok None) f l = h.quiet R.Data R.Data tt tt
  in-data line (Ok (Some d)) f l =
      in-statement (take (d.end - d.start) (drop d.start line)) d.operator (given_at line d.at) l (good-given Small read_small line f d.at)
  in-data line (Err q) f l = tt

  in-said : (r : Reader) (line : List ℕ) → FairTo r line → Faultless Q r (said r line)
  in-said R.Text line f = h.quiet R.Text R.Text tt tt
  in-said R.Data line f = in-data line (head line) f (legal-head line)
  in-said (R.List k) line f = in_list k (listed k line 0) (good-listed Small read_small line f k 0)

  pub every-line : (r : Reader) (line : List ℕ) → Faultless Q r (answered r line)
  every-line r line = holds-answered (Faultless Q r) (λ q k. tt) r line (in-section r R.Data tt) (in-section r R.Text tt) (in-said r line)
