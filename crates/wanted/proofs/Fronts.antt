-- What was written from a buffer's start on is its front. Assumes nothing.
use mathlib.Core.Path.{◌≡◌, refl, sym, ap, ◌∙◌}
use mathlib.Core.List.{List}
use Prim.Native.Nat.{ℕ, ◌≤◌}
use native.Mathlib.Omega.{arith}
use lib.ListN.{length, take}
use lib.Seq.{take_all}
use Rattle.words.specs.Over.{over}
use Rattle.words.proofs.Over.{part-over, length_over}

pub front : {A : Type 0} (xs before after : List A) (n : ℕ) → after ≡ over 0 xs before → length xs ≤ length before → n ≡ length xs → take n after ≡ xs
front {A} xs before after n e h k =
    ap (λ (i : ℕ). take i after) k ∙ ap (take (length xs)) e ∙ part-over 0 xs before (omega arith)

-- as many as there are places take them all
pub over-all : {A : Type 0} (xs before : List A) → length xs ≡ length before → over 0 xs before ≡ xs
over-all xs before h =
    sym (take_all (length before) (over 0 xs before) (omega (arith, length_over 0 xs before)))
    ∙ front xs before (over 0 xs before) (length before) refl (omega arith) (omega arith)
