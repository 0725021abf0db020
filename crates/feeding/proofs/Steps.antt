-- One byte of a line, taken while the line goes on. Assumes nothing.
use Prim.Native.Nat.{ℕ, ◌+◌, ◌<◌}
use native.Mathlib.Omega.{arith}
use mathlib.Core.Path.{◌≡◌, refl, sym, ◌∙◌}
use mathlib.Core.Bool.{Bool, true, false, not}
use mathlib.Core.List.{List, [], ◌∷◌}
use lib.Dec.{eqb}
use Rattle.plain.specs.Bytes.{LF, CR}
use Rattle.std.specs.Prelude.{if◌then◌else◌}
use Rattle.value.specs.Classes.{line_byte}
use Rattle.feeding.specs.Kept.{keep, settled}
use Rattle.feeding.specs.Parts.{MOST, Open, ended, step, fed}
use Rattle.feeding.proofs.Going.{more-is}
use Rattle.feeding.proofs.Counting.{step-within}

-- an open text amid the line that goes on
abbrev pub amid : {P : Type 0} → Open P → (kept : List ℕ) → (pending : Bool) → (bytes : ℕ) → Open P
amid o kept pending bytes =
    record { progress = o.progress; number = o.number; long = o.long; kept = kept; pending = pending; bytes = bytes }

pub no-LF : (b : ℕ) → line_byte b ≡ true → eqb b LF ≡ false
no-LF b = by (eqb b LF)
  where
    by : (t : Bool) → not t ≡ true → t ≡ false
    by true e = sym e
    by false e = refl

pub step-amid : {P : Type 0} (complete : P → ℕ → List ℕ → P) (o : Open P) (b : ℕ) → o.bytes < MOST → line_byte b ≡ true → (u : Bool) → eqb b CR ≡ u
    → step complete o b ≡ amid o (if u then settled o.kept o.pending else keep (settled o.kept o.pending) b) u (o.bytes + 1)
step-amid complete o b h e true f = step-within complete o b h ∙ rw (no-LF b e, f, more-is o.bytes (omega arith))
step-amid complete o b h e false f = step-within complete o b h ∙ rw (no-LF b e, f, more-is o.bytes (omega arith))

-- an LF alone
pub fed-LF : {P : Type 0} (complete : P → ℕ → List ℕ → P) (o : Open P) → o.bytes < MOST → fed complete o (LF ∷ []) ≡ ended complete o
unfolding fed
fed-LF complete o h = step-within complete o LF h
