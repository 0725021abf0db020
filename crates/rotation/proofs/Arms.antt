-- What is answered at the literal of an arm is answered at the number that is matched. Assumes nothing.
use mathlib.Core.Path.{◌≡◌, sym, ap, ◌∙◌}
use Prim.Native.Nat.{ℕ}

pub arm : {A : Type 0} (f : ℕ → A) {r : A} {n k : ℕ} → r ≡ f k → n ≡ k → r ≡ f n
arm f h e = h ∙ ap f (sym e)
