-- What came of reading is answered by a listing or by one line, and the output has room for both. Assumes nothing.
use mathlib.Core.Path.{◌≡◌, sym, ap, ◌∙◌}
use mathlib.Core.List.{List, [], ◌∷◌, ◌++◌}
use Prim.Native.Nat.{ℕ, ◌≤◌}
use native.Mathlib.Nat.{zero-add}
use native.Mathlib.Omega.{arith}
use lib.ListN.{length, take}
use Rattle.plain.specs.Bytes.{LF}
use Rattle.std.specs.declared.option.Option.{Option}
use Rattle.std.specs.declared.option.Option.TheVariants.{Some, None}
use Rattle.words.specs.Placed.{Writes}
use Rattle.words.proofs.Placed.{writes-same, writes-length}
use Rattle.listing.specs.Listing.{listing}
use Rattle.listing.specs.Lists.{SIZE, Lists}
use Rattle.listing.specs.Input.{UNREADABLE, printed}
use Rattle.listing.proofs.Listed.{listing-fits}

-- ---- bytes that came

-- their listing is printed
pub prints-listing : (input : Option ℕ) (count : ℕ) (room : List ℕ) → input ≡ Some count → {text out after : List ℕ} {r : ℕ}
    → text ≡ take count room → Lists text out r after → Writes 0 (printed room input) out r after
unfolding printed
prints-listing input count room e {text} t l =
    writes-same (ap listing t ∙ ap (printed room) (sym e)) (record { next = l.size ∙ sym (zero-add (length (listing text))); output = l.output })

-- ---- a read that failed

pub prints-unreadable : (input : Option ℕ) (room : List ℕ) → input ≡ None → {out after : List ℕ} {r : ℕ}
    → Writes 0 (UNREADABLE ++ (LF ∷ [])) out r after → Writes 0 (printed room input) out r after
unfolding printed
prints-unreadable input room e w = writes-same (ap (printed room) (sym e)) w

-- ---- what is answered is in the output

printed-fits : (room : List ℕ) (input : Option ℕ) → length (printed room input) ≤ SIZE
unfolding printed
printed-fits room (Some count) = listing-fits (take count room)
printed-fits room None = omega arith

pub within-output : (room : List ℕ) (input : Option ℕ) {out after : List ℕ} {r : ℕ} → Writes 0 (printed room input) out r after → SIZE ≡ length out → r ≤ length after
within-output room input w n = omega (arith, w.next, printed-fits room input, writes-length w)
