-- A name written from the start is the one at its place of a list, and past the list's end there is none. Assumes nothing.
use mathlib.Core.Path.{◌≡◌, sym, ap}
use mathlib.Core.List.{List, []}
use Prim.Native.Nat.{ℕ, ◌≤◌}
use lib.ListN.{length, get_or, get_or-eq_default}
use Rattle.words.specs.Placed.{Writes}
use Rattle.words.proofs.Placed.{writes-same, writes_nothing}
use Rattle.reads.specs.Names.{Name}

module _ (names : List Name) {m : List ℕ} where
  pub at_place : {place k r : ℕ} {n : List ℕ} → place ≡ k → Writes 0 (get_or names k []) m r n → Writes 0 (get_or names place []) m r n
  at_place e w = writes-same (ap (λ (i : ℕ). get_or names i []) (sym e)) w

  pub past-last : (place : ℕ) → length names ≤ place → Writes 0 (get_or names place []) m 0 m
  past-last place h = writes-same (sym (get_or-eq_default names [] h)) (writes_nothing 0 m)
