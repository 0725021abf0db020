-- What is written is told, where it is what the code's list has. Assumes nothing.
use mathlib.Core.Path.{◌≡◌, ◌∙◌}
use mathlib.Core.List.{List, []}
use Prim.Native.Nat.{ℕ, ◌≤◌, ◌<◌}
use native.Mathlib.Nat.{zero-add}
use borrow.Author.Tests.{lt-ltb, le-ltb}
use lib.ListN.{length, get_or}
use Rattle.rotation.specs.Codes.{system_of}
use Rattle.std.specs.Prelude.{Some, None}
use Rattle.words.specs.Placed.{Writes}
use Rattle.words.proofs.Placed.{writes-same, writes_nothing}
use Rattle.reads.specs.Names.{Name, orientation_names, radii_names, listed, LONGEST_NAME, told, Tells}
use Rattle.reads.specs.declared.Asked.{Asked}
use Rattle.reads.specs.declared.Asked.TheVariants as A

-- the lists of a code, by its system
none : (asked : Asked) (n : ℕ) → system_of n ≡ None → [] ≡ listed asked n
unfolding listed
none A.Orientation n e = rw e
none A.Radii n e = rw e

module _ (n s : ℕ) (e : system_of n ≡ Some s) where
  pub of-orientation : {m : ℕ} → m ≡ n → orientation_names m (Some s) ≡ listed A.Orientation n
  unfolding listed
  of-orientation f = rw (f, e)

  pub of-radii : {m : ℕ} → m ≡ n → radii_names m (Some s) ≡ listed A.Radii n
  unfolding listed
  of-radii f = rw (f, e)

module _ (asked : Asked) (n place : ℕ) {m : List ℕ} where
  tells : {r : ℕ} {o xs : List ℕ} → xs ≡ told asked n place (length m) → Writes 0 xs m r o → Tells asked n place m r o
  tells e w = let v = writes-same e w in record { count = v.next ∙ zero-add _; buffer = v.output }

  pub without-room : length m < LONGEST_NAME → Tells asked n place m 0 m
  without-room h = tells (rw (lt-ltb _ _ h)) (writes_nothing 0 m)

  module _ (room : LONGEST_NAME ≤ length m) where
    pub in-room : {names : List Name} {r : ℕ} {o : List ℕ} → names ≡ listed asked n → Writes 0 (get_or names place []) m r o → Tells asked n place m r o
    in-room e w = tells (rw (le-ltb _ _ room, e)) w

    pub without-system : system_of n ≡ None → Tells asked n place m 0 m
    without-system e = in-room {names = []} (none asked n e) (writes_nothing 0 m)
