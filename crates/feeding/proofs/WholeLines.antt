-- The rest of a line with its LF, fed byte by byte, is one complete line: what is kept stands for what came. Assumes nothing.
use Prim.Native.Nat.{ℕ, ◌+◌, ◌≤◌, ◌<◌}
use native.Mathlib.Omega.{arith}
use mathlib.Core.Path.{◌≡◌, refl, sym, ap, ◌∙◌}
use mathlib.Core.Bool.{Bool, true, false}
use mathlib.Core.List.{List, [], ◌∷◌, ◌++◌, append_assoc, append-nil}
use borrow.Author.Tests.{eqb-true}
use lib.Dec.{eqb}
use lib.ListN.{length}
use Rattle.plain.specs.Bytes.{LF, CR}
use Rattle.std.specs.Prelude.{if◌then◌else◌}
use Rattle.plain.proofs.Each.{Each}
use Rattle.value.specs.Classes.{line_byte}
use Rattle.text.specs.Lines.{without_cr}
use Rattle.feeding.specs.Kept.{ROOM, keep, settled}
use Rattle.feeding.specs.Parts.{MOST, more, Open, step, fed, capped}
use Rattle.feeding.proofs.Keeping.{Squeezes, Stands, stands-itself, stands-keep, stands-length, stands-line}
use Rattle.feeding.proofs.Going.{awaiting, more-is}
use Rattle.feeding.proofs.Counting.{step-within}
use Rattle.feeding.proofs.Steps.{amid, step-amid}

-- after a complete line, of which so many bytes came just now
abbrev pub lined : {P : Type 0} → (complete : P → ℕ → List ℕ → P) → Open P → (line : List ℕ) → (count : ℕ) → Open P
lined complete o line count =
    record {
      progress = complete o.progress (more o.number) line;
      number = more o.number;
      long = capped (length line);
      kept = [];
      pending = false;
      bytes = o.bytes + count;
    }

-- ---- a line with a CR that waits, and one byte more

abbrev joining : List ℕ → (pending : Bool) → List ℕ
joining w true = w ++ CR ∷ []
joining w false = w

inner-byte : (b : ℕ) (bs : List ℕ) → eqb b CR ≡ false → without_cr (b ∷ bs) ≡ b ∷ without_cr bs
inner-byte b [] e = rw e
inner-byte b (c ∷ bs) e = refl

on-CR : (w : List ℕ) (t : Bool) (bs : List ℕ) → joining w t ++ without_cr (CR ∷ bs) ≡ w ++ without_cr (awaiting t (CR ∷ bs))
on-CR w false bs = refl
on-CR w true bs = append_assoc w (CR ∷ []) (without_cr (CR ∷ bs))

on-byte : (w : List ℕ) (t : Bool) (b : ℕ) (bs : List ℕ) → eqb b CR ≡ false
    → (joining w t ++ b ∷ []) ++ without_cr bs ≡ w ++ without_cr (awaiting t (b ∷ bs))
on-byte w false b bs e = append_assoc w (b ∷ []) (without_cr bs) ∙ ap (λ (l : List ℕ). w ++ l) (sym (inner-byte b bs e))
on-byte w true b bs e =
    append_assoc (w ++ CR ∷ []) (b ∷ []) (without_cr bs) ∙ append_assoc w (CR ∷ []) (b ∷ without_cr bs)
    ∙ ap (λ (l : List ℕ). w ++ CR ∷ l) (sym (inner-byte b bs e))

none_left : (w : List ℕ) (t : Bool) → w ++ without_cr (awaiting t []) ≡ w
none_left w true = append-nil w
none_left w false = append-nil w

module _ {P : Type 0} (complete : P → ℕ → List ℕ → P) (s : Squeezes complete) where
  stands-settled : (k w : List ℕ) (t : Bool) → Stands complete k w → Stands complete (settled k t) (joining w t)
  stands-settled k w true d = stands-keep complete s k w CR d
  stands-settled k w false d = d

  at-LF : (o : Open P) (w : List ℕ) → Stands complete o.kept w → o.bytes < MOST → step complete o LF ≡ lined complete o w 1
  at-LF o w d h =
      step-within complete o LF h
      ∙ rw (stands-line complete o.kept w d o.progress (more o.number), stands-length complete o.kept w d, more-is o.bytes (omega arith))

  -- all bytes up to the LF
  to-LF : (o : Open P) (bs rest w : List ℕ) → Stands complete o.kept w → Each (λ b. line_byte b ≡ true) bs → o.bytes + length bs < MOST
      → fed complete o (bs ++ LF ∷ rest) ≡ fed complete (lined complete o (w ++ without_cr (awaiting o.pending bs)) (length bs + 1)) rest
  unfolding fed
  to-LF o [] rest w d f h =
      ap (λ (x : Open P). fed complete x rest) (at-LF o w d (omega arith) ∙ ap (λ (l : List ℕ). lined complete o l 1) (sym (none_left w o.pending)))
  to-LF o (b ∷ bs) rest w d f h =
      let z : o.bytes + 1 + (length bs + 1) ≡ o.bytes + (length (b ∷ bs) + 1) = omega arith in
      ap (λ (x : Open P). fed complete x (bs ++ LF ∷ rest)) (step-amid complete o b (omega arith) f.0 (eqb b CR) refl)
      ∙ by (eqb b CR) refl (λ j v u g. to-LF (amid o j u (o.bytes + 1)) bs rest v g f.1 (omega arith) ∙ rw z)
    where
      k : List ℕ
      k = settled o.kept o.pending

      v : List ℕ
      v = joining w o.pending

      e : Stands complete k v
      e = stands-settled o.kept w o.pending d

      -- after the line
      after : List ℕ → Open P
      after line = fed complete (lined complete o line (length (b ∷ bs) + 1)) rest

      by : (u : Bool) → eqb b CR ≡ u
          → ((j x : List ℕ) (u : Bool) → Stands complete j x
          → fed complete (amid o j u (o.bytes + 1)) (bs ++ LF ∷ rest) ≡ after (x ++ without_cr (awaiting u bs)))
          → fed complete (amid o (if u then k else keep k b) u (o.bytes + 1)) (bs ++ LF ∷ rest) ≡ after (w ++ without_cr (awaiting o.pending (b ∷ bs)))
      by true f on = on k v true e ∙ ap after (rw (eqb-true b CR f) (on-CR w o.pending bs))
      by false f on =
          on (keep k b) (v ++ b ∷ []) false (stands-keep complete s k v b e) ∙ ap after (on-byte w o.pending b bs f)

  module _ (o : Open P) (line rest : List ℕ) (f : Each (λ b. line_byte b ≡ true) line) (h : o.bytes + length line < MOST) where
    -- whatever is kept of the line already
    pub fed-line : length o.kept ≤ ROOM
        → fed complete o (line ++ LF ∷ rest) ≡ fed complete (lined complete o (o.kept ++ without_cr (awaiting o.pending line)) (length line + 1)) rest
    fed-line g = to-LF o line rest o.kept (stands-itself complete o.kept g) f h

    -- where nothing is kept and no CR waits: the line that lies in the part
    pub fed-whole-line : o.kept ≡ [] → o.pending ≡ false
        → fed complete o (line ++ LF ∷ rest) ≡ fed complete (lined complete o (without_cr line) (length line + 1)) rest
    fed-whole-line e g = fed-line (omega (arith, ap length e)) ∙ rw (e, g)
