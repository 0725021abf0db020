-- Some bytes of a line, fed one by one, are all kept but for a CR at their end, which waits: any other CR is settled by the byte after it.
-- Assumes nothing.
use Prim.Native.Nat.{ℕ, suc, ◌+◌, ◌≤◌}
use native.Mathlib.Omega.{arith}
use mathlib.Core.Path.{◌≡◌, refl, sym, ap, ◌∙◌}
use mathlib.Core.Bool.{Bool, true, false}
use mathlib.Core.List.{List, [], ◌∷◌}
use borrow.Author.Tests.{eqb-true}
use lib.Dec.{eqb, ltb, leb-suc-suc}
use lib.ListN.{length}
use Rattle.plain.specs.Bytes.{CR}
use Rattle.std.specs.Prelude.{if◌then◌else◌}
use Rattle.plain.proofs.Each.{Each}
use Rattle.value.specs.Classes.{line_byte}
use Rattle.text.specs.Lines.{without_cr}
use Rattle.feeding.specs.Kept.{keep, keep_all, settled}
use Rattle.feeding.specs.Parts.{MOST, Open, fed}
use Rattle.feeding.proofs.Steps.{amid, step-amid}

-- the last of some bytes is a CR
abbrev pub last_cr : List ℕ → Bool
last_cr [] = false
last_cr (b ∷ []) = eqb b CR
last_cr (b ∷ c ∷ bs) = last_cr (c ∷ bs)

-- it is what makes them longer than without it
pub last_cr-longer : (bs : List ℕ) → last_cr bs ≡ ltb (length (without_cr bs)) (length bs)
last_cr-longer [] = refl
last_cr-longer (b ∷ []) = by (eqb b CR)
  where
    by : (u : Bool) → u ≡ ltb (length (if u then [] else (b ∷ []))) 1
    by true = refl
    by false = refl
last_cr-longer (b ∷ c ∷ bs) = last_cr-longer (c ∷ bs) ∙ sym (leb-suc-suc (suc (length (without_cr (c ∷ bs)))) (length (c ∷ bs)))

-- all but the CR that waits are kept
kept-last : (k : List ℕ) (b : ℕ) (u : Bool) → (if u then k else keep k b) ≡ keep_all k (if u then [] else (b ∷ []))
kept-last k b true = refl
kept-last k b false = refl

-- the byte after it settles it
kept_next : (k : List ℕ) (b : ℕ) (u : Bool) → eqb b CR ≡ u → settled (if u then k else keep k b) u ≡ keep k b
kept_next k b true e = rw (eqb-true b CR e)
kept_next k b false e = refl

module _ {P : Type 0} (complete : P → ℕ → List ℕ → P) where
  pub fed-run : (o : Open P) (b : ℕ) (bs : List ℕ) → Each (λ c. line_byte c ≡ true) (b ∷ bs) → o.bytes + length (b ∷ bs) ≤ MOST
      → fed complete o (b ∷ bs)
      ≡ amid o (keep_all (settled o.kept o.pending) (without_cr (b ∷ bs))) (last_cr (b ∷ bs)) (o.bytes + length (b ∷ bs))
  unfolding fed
  fed-run o b [] f h =
      step-amid complete o b (omega arith) f.0 (eqb b CR) refl
      ∙ rw (kept-last (settled o.kept o.pending) b (eqb b CR))
  fed-run o b (c ∷ bs) f h =
      let z : o.bytes + 1 + length (c ∷ bs) ≡ o.bytes + length (b ∷ c ∷ bs) = omega arith in
      ap (λ (x : Open P). fed complete x (c ∷ bs)) (step-amid complete o b (omega arith) f.0 (eqb b CR) refl)
      ∙ fed-run (amid o (if eqb b CR then k else keep k b) (eqb b CR) (o.bytes + 1)) c bs f.1 (omega arith)
      ∙ rw (kept_next k b (eqb b CR) refl, z)
    where
      k : List ℕ
      k = settled o.kept o.pending
