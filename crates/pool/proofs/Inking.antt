-- Bytes written into the strings' words of a memory: none change nothing, one list after another is one, and words written before them
-- may be written afterwards. Assumes nothing.
use mathlib.Core.Path.{◌≡◌, sym, ap, ◌∙◌}
use mathlib.Core.List.{List, [], ◌++◌}
use Prim.Native.Nat.{ℕ, ◌+◌, ◌≤◌, ◌<◌}
use native.Mathlib.Omega.{arith}
use lib.ListN.{length, drop}
use Rattle.words.specs.Over.{over, part}
use Rattle.plain.proofs.Each.{each_take, each-drop}
use Rattle.words.proofs.Each.{WORD, Words}
use Rattle.words.proofs.Over.{over-same}
use Rattle.octets.proofs.Bytes.{Bytes}
use Rattle.octets.proofs.Inked.{inked-nil}
use Rattle.octets.proofs.Areas.{length-inked-in, over-inked-in, inked-in-append}
use Rattle.layout.specs.Limits.{WORDS, BYTEWORDS, BYTES_AT}
use Rattle.layout.proofs.Holds.{inked_at}

pub ink-none : (at : ℕ) (m : List ℕ) → Words m → inked_at at [] m ≡ m
ink-none at m w =
    let v : Words (part BYTES_AT BYTEWORDS m) = each_take (λ x. x < WORD) BYTEWORDS (drop BYTES_AT m) (each-drop (λ x. x < WORD) BYTES_AT m w) in
    ap (λ (l : List ℕ). over BYTES_AT l m) (inked-nil at (part BYTES_AT BYTEWORDS m) v) ∙ over-same BYTES_AT BYTEWORDS m

module _ (at : ℕ) (bs m : List ℕ) (n : length m ≡ WORDS) where
  pub ink-length : length (inked_at at bs m) ≡ WORDS
  ink-length = length-inked-in BYTES_AT BYTEWORDS at bs m (omega arith) ∙ n

  pub ink-over : (b : ℕ) (ys : List ℕ) → b + length ys ≤ BYTES_AT → inked_at at bs (over b ys m) ≡ over b ys (inked_at at bs m)
  ink-over b ys h = sym (over-inked-in BYTES_AT BYTEWORDS at bs m (omega arith) b ys h)

  pub ink-append : (ys : List ℕ) → Bytes bs → inked_at (at + length bs) ys (inked_at at bs m) ≡ inked_at at (bs ++ ys) m
  ink-append ys f = inked-in-append BYTES_AT BYTEWORDS at bs m (omega arith) ys f
