-- A line that lies whole in a part, by its places: its bytes run up to the first LF. Assumes nothing.
use Prim.Native.Nat.{ℕ, ◌+◌, ◌-◌, ◌≤◌, ◌<◌}
use native.Mathlib.Numerals.{add-one}
use native.Mathlib.Omega.{arith}
use mathlib.Core.Path.{◌≡◌, refl, sym, ap, ◌∙◌}
use mathlib.Core.Bool.{Bool, true, false, not}
use mathlib.Core.List.{List, [], ◌∷◌, ◌++◌}
use borrow.Author.Tests.{eqb-true}
use lib.Dec.{eqb}
use lib.ListN.{length, take, drop, get_or, length-drop}
use lib.Seq.{drop-cons, length-take-le}
use Rattle.plain.specs.Bytes.{LF}
use Rattle.std.specs.Prelude.{if◌then◌else◌}
use Rattle.plain.specs.Runs.{run, skip, past}
use Rattle.plain.proofs.Each.{Each}
use Rattle.plain.proofs.Places.{past_after, take_past}
use Rattle.plain.proofs.Runs.{run-skip, run-each, drop_past}
use Rattle.value.specs.Classes.{line_byte}
use Rattle.text.specs.Lines.{without_cr, lines, Cuts}
use Rattle.text.specs.declared.lines.Cut.{Cut}
use Rattle.text.proofs.LineEnds.{line_at}
use Rattle.feeding.specs.Parts.{MOST, Open, fed}
use Rattle.feeding.proofs.Keeping.{Squeezes}
use Rattle.feeding.proofs.WholeLines.{lined, fed-whole-line}

-- what follows the bytes of a line begins with an LF
skip-LF : (bs : List ℕ) (b : ℕ) (r : List ℕ) → skip line_byte bs ≡ b ∷ r → b ≡ LF
skip-LF [] b r e = let z : ◌≡◌ {A = ℕ} 0 1 = cc in absurd (omega arith)
skip-LF (c ∷ bs) b r e = by (eqb c LF) refl e (skip-LF bs b r)
  where
    by : (t : Bool) → eqb c LF ≡ t → (if not t then skip line_byte bs else (c ∷ bs)) ≡ b ∷ r → (skip line_byte bs ≡ b ∷ r → b ≡ LF) → b ≡ LF
    by true f e on = let z : c ≡ b = cc in sym z ∙ eqb-true c LF f
    by false f e on = on e

-- a line's bytes are all of them bytes of a line
pub run-again : (p : ℕ → Bool) (bs : List ℕ) → run p (run p bs) ≡ run p bs
run-again p [] = refl
run-again p (b ∷ bs) = by (p b) refl (run-again p bs)
  where
    by : (t : Bool) → p b ≡ t → run p (run p bs) ≡ run p bs → run p (if t then b ∷ run p bs else []) ≡ (if t then b ∷ run p bs else [])
    by true e f = rw (e, f)
    by false e f = refl

-- the line's bytes end at e, where the LF stands
module _ (part : List ℕ) (i e : ℕ) (q : e ≡ past line_byte part i) (h : e < length part) where
  from-LF : drop e part ≡ LF ∷ drop (e + 1) part
  from-LF =
      let z : drop e part ≡ get_or part e 0 ∷ drop (e + 1) part = rw (add-one e) (drop-cons part e 0 h) in
      let y : get_or part e 0 ≡ LF = skip-LF (drop i part) (get_or part e 0) (drop (e + 1) part) (sym (rw q (drop_past line_byte part i)) ∙ z) in
      z ∙ rw y

  bytes-are : take (e - i) (drop i part) ≡ run line_byte (drop i part)
  bytes-are = rw q (take_past line_byte part i)

  pub splits : drop i part ≡ take (e - i) (drop i part) ++ LF ∷ drop (e + 1) part
  splits = sym (run-skip line_byte (drop i part)) ∙ rw (bytes-are, ← drop_past line_byte part i, ← q, from-LF)

  -- the line as it is cut there
  cut-is : (c : Cut) → Cuts part i c → c.next ≡ e + 1 → take (c.end - i) (drop i part) ≡ without_cr (take (e - i) (drop i part))
  cut-is c cuts f =
      let y : take (c.end - i) (drop i part) ∷ lines (drop c.next part) ≡ without_cr (take (e - i) (drop i part)) ∷ lines (drop (e + 1) part) =
      sym cuts.line ∙ line_at part i e (omega (arith, past_after line_byte part i)) q ∙ rw from-LF in
      cc

-- while nothing is kept, a line that ends in a part is read where it lies
module _ {P : Type 0} (complete : P → ℕ → List ℕ → P) (s : Squeezes complete) (o : Open P) (none : o.kept ≡ []) (settled : o.pending ≡ false) where
  pub fed-line-at : (part : List ℕ) (i e : ℕ) → e ≡ past line_byte part i → e < length part → o.bytes + (e + 1 - i) ≤ MOST
      → fed complete o (drop i part) ≡ fed complete (lined complete o (without_cr (take (e - i) (drop i part))) (e + 1 - i)) (drop (e + 1) part)
  fed-line-at part i e q h g =
      let w = past_after line_byte part i in
      let m : length line ≡ e - i = length-take-le (e - i) (drop i part) (omega (arith, length-drop i part)) in
      let z : length line + 1 ≡ e + 1 - i = omega arith in
      ap (fed complete o) (splits part i e q h) ∙ fed-whole-line complete s o line (drop (e + 1) part) all (omega arith) none settled ∙ rw z
    where
      line : List ℕ
      line = take (e - i) (drop i part)

      all : Each (λ b. line_byte b ≡ true) line
      all = rw (bytes-are part i e q h) (run-each line_byte (drop i part))

  -- the line as it is cut there
  pub fed-cut : (part : List ℕ) (i : ℕ) (c : Cut) → Cuts part i c → c.next ≡ past line_byte part i + 1 → c.next ≤ length part
      → o.bytes + (c.next - i) ≤ MOST
      → fed complete o (drop i part) ≡ fed complete (lined complete o (take (c.end - i) (drop i part)) (c.next - i)) (drop c.next part)
  fed-cut part i c cuts f h g =
      fed-line-at part i (past line_byte part i) refl (omega arith) (rw (← f) g)
      ∙ rw (← cut-is part i (past line_byte part i) refl (omega arith) c cuts f, ← f)
