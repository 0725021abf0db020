-- A label is none of the held ones exactly where no held text's word has it; an open text's is none. Assumes nothing.
use Prim.Native.Nat.{ℕ}
use native.Mathlib.Omega.{arith}
use mathlib.Core.Path.{◌≡◌, sym, ◌∙◌}
use mathlib.Core.Bool.{true, false}
use mathlib.Core.List.{List}
use borrow.Author.Tests.{ltb-false, le-ltb}
use lib.ListN.{length}
use Rattle.plain.proofs.Each.{Each}
use Rattle.words.specs.Halves.{upper, place}
use Rattle.words.proofs.Halves.{place-absent, absent-place}
use Rattle.layout.specs.Memory.{text_words, decode, opens, open_label}
use Rattle.layout.specs.Damage.{sound}
use Rattle.layout.proofs.Sound.{sound-of, sound-open}
use Rattle.pool.specs.Held.{held}
use Rattle.pool.proofs.Labels.{held-placed}
use Rattle.keeping.proofs.Merged.{merged-label}

pub none-held : (label : ℕ) (m : List ℕ) → held label (decode m) ≡ false → Each (λ w. upper w ≡ label → ⊥) (text_words m)
none-held label m h = absent-place label (text_words m) (ltb-false (place label (text_words m)) (length (text_words m)) (held-placed label m ∙ h))

module _ (m : List ℕ) (e : sound m ≡ true) where
  pub label-free : opens m ≡ true → held (open_label m) (decode m) ≡ false
  label-free o =
      let p = place-absent (open_label m) (text_words m) (merged-label m (sound-of m e) (sound-open m e o).orderly) in
      sym (held-placed (open_label m) m) ∙ le-ltb (place (open_label m) (text_words m)) (length (text_words m)) (omega arith)
