-- The count that runs down over a list's items never cuts a list short: a value takes a byte at least, so that no more values than
-- bytes stand in a line. Assumes nothing.
use Prim.Native.Nat.{ℕ, zero, suc, ◌+◌, ◌-◌, ◌≤◌}
use native.Mathlib.Omega.{arith}
use mathlib.Core.Path.{◌≡◌, refl, sym, ◌∙◌}
use mathlib.Core.List.{List}
use borrow.Author.Tests.{le-ltb}
use lib.Ieee.{Float}
use lib.ListN.{length}
use Rattle.std.specs.Prelude.{Result, Ok, Err}
use Rattle.plain.proofs.Places.{past_end}
use Rattle.value.specs.Classes.{separator}
use Rattle.value.specs.declared.Word.TheVariants as W
use Rattle.value.specs.declared.faults.LineFault.{LineFault}
use Rattle.statement.specs.Values.{item, Items, further, items_up_to, items}
use Rattle.statement.specs.declared.values.Item.{Item}
use Rattle.statement.specs.declared.values.Item.TheVariants as I
use Rattle.statement.specs.declared.values.Kind.{Kind}
use Rattle.statement.specs.declared.values.Kind.TheVariants as K
use Rattle.statement.proofs.Found.{number-on, string-on}

pub beyond : (kind : Kind) (line : List ℕ) (i : ℕ) → length line ≤ i → item kind line i ≡ Ok I.End
unfolding item
beyond kind line i h = rw (past_end separator line i h, le-ltb i (length line) h)

same-further : (kind : Kind) (line : List ℕ) (m : Result Item LineFault) (f g : Kind → ℕ → Items) → ((x : Float) (k : ℕ) → m ≡ Ok (I.Value (W.Number x k)) → f K.Numbers k ≡ g K.Numbers k)
    → ((s n k : ℕ) → m ≡ Ok (I.Value (W.String s n k)) → f K.Strings k ≡ g K.Strings k) → further kind line m f ≡ further kind line m g
same-further kind line (Ok I.End) f g h e = refl
same-further kind line (Ok (I.Close k)) f g h e = refl
same-further kind line (Ok (I.Value (W.Number x k))) f g h e = rw (h x k refl)
same-further kind line (Ok (I.Value (W.String s n k))) f g h e = rw (e s n k refl)
same-further kind line (Err q) f g h e = refl

one_more : (n : ℕ) (line : List ℕ) (kind : Kind) (i : ℕ) → length line ≤ n + i → items_up_to n line kind i ≡ items_up_to (suc n) line kind i
unfolding items_up_to
one_more zero line kind i h = sym (rw (beyond kind line i (omega arith)))
one_more (suc n) line kind i h =
    same-further kind line (item kind line i) (items_up_to n line) (items_up_to (suc n) line)
    (λ x k q. one_more n line K.Numbers k (omega (arith, number-on kind line i x k q)))
    (λ s l k q. one_more n line K.Strings k (omega (arith, string-on kind line i s l k q)))

some_more : (d : ℕ) (line : List ℕ) (kind : Kind) (i : ℕ) → items_up_to (d + length line) line kind i ≡ items kind line i
some_more zero line kind i = let z : 0 + length line ≡ length line = omega arith in rw z
some_more (suc d) line kind i =
    let z : suc d + length line ≡ suc (d + length line) = omega arith in
    rw z (sym (one_more (d + length line) line kind i (omega arith)) ∙ some_more d line kind i)

-- looked for among as many as the line has bytes, or more, the items are the same
pub enough : (n : ℕ) (line : List ℕ) (kind : Kind) (i : ℕ) → length line ≤ n → items_up_to n line kind i ≡ items kind line i
enough n line kind i h =
    let z : n - length line + length line ≡ n = omega arith in
    rw z at (some_more (n - length line) line kind i)
