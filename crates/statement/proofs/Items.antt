-- The items of a list in a line, one at a time: what is counted so far and what is left make all. Assumes nothing.
use Prim.Native.Nat.{ℕ, zero, suc, ◌+◌, ◌-◌, ◌<◌}
use native.Mathlib.Nat.{not-suc-le-zero, add-zero, zero-add}
use native.Mathlib.Omega.{arith}
use mathlib.Core.Path.{◌≡◌, sym, ◌∙◌}
use mathlib.Core.List.{List}
use lib.ListN.{length}
use Rattle.std.specs.Prelude.{Option, Some, None, Result, Ok, Err}
use Rattle.value.specs.Value.{end_of, long_of}
use Rattle.value.specs.declared.Word.{Word}
use Rattle.value.specs.declared.faults.LineFault.{LineFault}
use Rattle.statement.specs.Values.{bytes_in_all, kind_of, item, Items, ended, further, items_up_to, tally}
use Rattle.statement.specs.declared.values.Counted.{Counted}
use Rattle.statement.specs.declared.values.Item.{Item}
use Rattle.statement.specs.declared.values.Item.TheVariants as I
use Rattle.statement.specs.declared.values.Kind.{Kind}
use Rattle.statement.proofs.Found.{item-long}

-- so many values and bytes, and those of the items
abbrev pub with_items : (given bytes : ℕ) → Items → Counted
with_items n b is = record { kind = is.kind; given = n + length is.values; bytes = b + bytes_in_all is.values; stop = is.stop }

pub none_yet : (is : Items) → with_items 0 0 is ≡ tally is
none_yet is = rw (zero-add (length is.values), zero-add (bytes_in_all is.values))

-- ---- one turn

pub turn : (line : List ℕ) (kind : Kind) (i left : ℕ) → 0 < left → items_up_to left line kind i ≡ further kind line (item kind line i) (items_up_to (left - 1) line)
unfolding items_up_to
turn line kind i zero h = absurd (not-suc-le-zero h)
turn line kind i (suc n) h = let z : suc n - 1 ≡ n = omega arith in rw z

stopped : (kind : Kind) (n b : ℕ) (s : Result (Option ℕ) LineFault) → record { kind = kind; given = n; bytes = b; stop = s } ≡ with_items n b (ended kind s)
stopped kind n b s = rw (add-zero n, add-zero b)

module _ (n b : ℕ) (line : List ℕ) (kind : Kind) (i left : ℕ) where
  -- nothing is left to look for
  pub at_last : left ≡ 0 → record { kind = kind; given = n; bytes = b; stop = Ok None } ≡ with_items n b (items_up_to left line kind i)
  unfolding items_up_to
  at_last e = rw e (stopped kind n b (Ok None))

  module _ (h : 0 < left) (m : Result Item LineFault) (e : m ≡ item kind line i) where
    pub at-end : m ≡ Ok I.End → record { kind = kind; given = n; bytes = b; stop = Ok None } ≡ with_items n b (items_up_to left line kind i)
    at-end q = rw (turn line kind i left h, sym e, q) (stopped kind n b (Ok None))

    pub at-close : (k : ℕ) → m ≡ Ok (I.Close k) → record { kind = kind; given = n; bytes = b; stop = Ok (Some k) } ≡ with_items n b (items_up_to left line kind i)
    at-close k q = rw (turn line kind i left h, sym e, q) (stopped kind n b (Ok (Some k)))

    pub at-fault : (f : LineFault) → m ≡ Err f → record { kind = kind; given = n; bytes = b; stop = Err f } ≡ with_items n b (items_up_to left line kind i)
    at-fault f q = rw (turn line kind i left h, sym e, q) (stopped kind n b (Err f))

    pub at-value : (w : Word) → m ≡ Ok (I.Value w)
        → with_items (n + 1) (b + long_of w) (items_up_to (left - 1) line (kind_of w) (end_of w)) ≡ with_items n b (items_up_to left line kind i)
    at-value w q =
        let is = items_up_to (left - 1) line (kind_of w) (end_of w) in
        let l = length is.values in
        let o = bytes_in_all is.values in
        let z : n + 1 + l ≡ n + suc l = omega arith in
        let y : b + long_of w + o ≡ b + (long_of w + o) = omega arith in
        rw (turn line kind i left h, sym e, q, z, item-long kind line i w (sym e ∙ q), y)
