-- The line that goes on as the code keeps it, at the start of an array: its bytes, and those that make it longer. Definitions only.
use Rattle.std.specs.Prelude.{ℕ, ◌≡◌, Bool, List, length, take}
use Rattle.feeding.specs.Kept.{keep_all, settled}
use Rattle.feeding.specs.declared.kept.Kept.{Kept}

abbrev pub line : Kept → List ℕ
line k = take k.used k.bytes

pub record Keeps (k : Kept) (run : List ℕ) (r : Kept) : Type 0 where
  pub long : length (line r) ≡ r.used
  pub is : line r ≡ keep_all (line k) run

pub record Settles (k : Kept) (pending : Bool) (r : Kept) : Type 0 where
  pub long : length (line r) ≡ r.used
  pub is : line r ≡ settled (line k) pending
