-- What the memories are after the calls on a text in parts: with one open beside the held texts, or without. Assumes nothing.
use Prim.Native.Nat.{ℕ}
use mathlib.Core.Path.{◌≡◌}
use mathlib.Core.Bool.{true, false}
use mathlib.Core.List.{List}
use Rattle.layout.specs.Memory.{decode, opens, open_label}
use Rattle.layout.specs.Damage.{sound}

-- undamaged, beside the same held texts, with a text open under this label
pub record Beside (m : List ℕ) (label : ℕ) (after : List ℕ) : Type 0 where
  pub undamaged : sound after ≡ true
  pub is_open : opens after ≡ true
  pub same : decode after ≡ decode m
  pub labelled : open_label after ≡ label

-- undamaged, with none open
pub record Without (s : List ℕ) (after : List ℕ) : Type 0 where
  pub undamaged : sound after ≡ true
  pub none_open : opens after ≡ false
  pub same : decode after ≡ decode s
