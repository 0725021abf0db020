-- There is room for a text more exactly when the totals leave it. Assumes nothing.
use Prim.Native.Nat.{ℕ, ◌+◌, ◌≤◌}
use native.Mathlib.Omega.{arith}
use mathlib.Core.Path.{◌≡◌, refl, sym, ap, ◌∙◌}
use mathlib.Core.Bool.{Bool, true, false}
use mathlib.Core.List.{List, [], ◌∷◌}
use lib.ListN.{length, length-append}
use Rattle.plain.proofs.Tests.{is_false}
use Rattle.layout.specs.State.{Text, Pool, program, flat, values_of, bytes_of, values, string_bytes}
use Rattle.layout.specs.Limits.{TEXTS, STATEMENTS, VALUES, BYTES, room}
use Rattle.layout.specs.Memory.{text_count, statement_count, value_count, byte_count, decode}
use Rattle.layout.specs.Damage.{sound}
use Rattle.layout.proofs.Holds.{length-decode, length-program, length-held, length-bytes-held}
use Rattle.layout.proofs.Legal.{Fits, fits-of, of-fits, program-append, program-one, values-append, bytes-append}
use Rattle.layout.proofs.Sound.{sound-of}
use Rattle.loading.specs.Load.{with, Counted}

-- the counts of a state with a text more
module _ (s : Pool) (t : Text) where
  pub texts-with : length (with s t) ≡ length s + 1
  texts-with = length-append s (t ∷ [])

  pub statements-with : length (program (with s t)) ≡ length (program s) + length t.body
  statements-with = ap length (program-append s (t ∷ [])) ∙ rw (program-one t) (length-append (program s) t.body)

  pub values-with : length (values (with s t)) ≡ length (values s) + length (flat values_of t.body)
  values-with = ap length (values-append s (t ∷ [])) ∙ rw (program-one t) (length-append (values s) (flat values_of t.body))

  pub bytes-with : length (string_bytes (with s t)) ≡ length (string_bytes s) + length (flat bytes_of t.body)
  bytes-with = ap length (bytes-append s (t ∷ [])) ∙ rw (program-one t) (length-append (string_bytes s) (flat bytes_of t.body))

-- there is room for so many statements, values and bytes behind what the totals tell
pub record Leaves (m : List ℕ) (n k b : ℕ) : Type 0 where
  pub texts : text_count m + 1 ≤ TEXTS
  pub statements : statement_count m + n ≤ STATEMENTS
  pub values : value_count m + k ≤ VALUES
  pub bytes : byte_count m + b ≤ BYTES

module _ (m : List ℕ) (e : sound m ≡ true) (t : Text) (n k b : ℕ) (c : Counted t n k b) where
  pub leaves-fits : Leaves m n k b → Fits (with (decode m) t)
  leaves-fits l =
      let S = sound-of m e in
      record {
        texts = omega (arith, l.texts, texts-with (decode m) t, length-decode m S);
        statements = omega (arith, l.statements, statements-with (decode m) t, length-program m S, c.statements=);
        values = omega (arith, l.values, values-with (decode m) t, length-held m S, c.values=);
        bytes = omega (arith, l.bytes, bytes-with (decode m) t, length-bytes-held m S, c.bytes=);
      }

  pub fits-leaves : Fits (with (decode m) t) → Leaves m n k b
  fits-leaves f =
      let S = sound-of m e in
      record {
        texts = omega (arith, f.texts, texts-with (decode m) t, length-decode m S);
        statements = omega (arith, f.statements, statements-with (decode m) t, length-program m S, c.statements=);
        values = omega (arith, f.values, values-with (decode m) t, length-held m S, c.values=);
        bytes = omega (arith, f.bytes, bytes-with (decode m) t, length-bytes-held m S, c.bytes=);
      }

  has_room : Leaves m n k b → true ≡ room (with (decode m) t)
  has_room l = sym (of-fits (with (decode m) t) (leaves-fits l))

  pub no_room : (Leaves m n k b → ⊥) → false ≡ room (with (decode m) t)
  no_room f = sym (is_false (room (with (decode m) t)) (λ r. f (fits-leaves (fits-of (with (decode m) t) r))))

  -- a test that decides it
  pub decides : (x : Bool) → (x ≡ true → Leaves m n k b) → (x ≡ false → Leaves m n k b → ⊥) → x ≡ room (with (decode m) t)
  decides true y z = has_room (y refl)
  decides false y z = no_room (z refl)
