-- A text that was just opened is one to which nothing was fed: nothing of it stands behind what is held, and it is read as it begins. Assumes nothing.
use Prim.Native.Nat.{ℕ}
use native.Mathlib.Omega.{arith}
use mathlib.Core.Path.{◌≡◌, refl, sym, ap, subst, ◌∙◌}
use mathlib.Core.Bool.{true, false}
use mathlib.Core.List.{List}
use Rattle.words.specs.Halves.{sum}
use Rattle.layout.specs.Memory.{cut_statements, decode, opens}
use Rattle.layout.specs.Damage.{total_bytes, sound}
use Rattle.layout.proofs.Sound.{sound-of}
use Rattle.pool.specs.Held.{held}
use Rattle.feeding.specs.Parts.{opening}
use Rattle.opening.specs.Storing.{start}
use Rattle.intake.specs.Opened.{state_in, stowed, beginning}
use Rattle.intake.specs.Calls.{open_reply, open_memory}
use Rattle.keeping.proofs.OfParts.{Beside}
use Rattle.keeping.proofs.Kept.{Kept}
use Rattle.keeping.proofs.Numbers.{Numbers}
use Rattle.keeping.proofs.ReadStowed.{stowed-label, stowed-opens, stowed-decode, stowed-sound, stowed-state}
use Rattle.keeping.proofs.Free.{none-held}

module _ (label : ℕ) (m : List ℕ) (e : sound m ≡ true) (o : opens m ≡ false) (h : held label (decode m) ≡ false) where
  pub opens_as : open_memory label m ≡ stowed label (beginning m)
  unfolding open_memory open_reply
  opens_as = rw (e, o, h) refl

  begun : Kept (decode m) (beginning m).progress
  unfolding sum total_bytes
  begun = record {
    held = sound-of m e;
    same = refl;
    behind = record {
      few = omega (arith, (sound-of m e).sizes.statements);
      small = omega (arith, (sound-of m e).sizes.values);
      brief = omega (arith, (sound-of m e).sizes.bytes);
      names = tt;
      operators = tt;
      counts = tt;
      values= = refl;
      fitting = tt;
      bytes= = refl;
      letters = tt;
    };
    borne = tt;
    in-line = tt;
  }

  at_zero : Numbers (beginning m)
  at_zero = record { number = omega arith; long = omega arith; room = omega arith; bytes = omega arith }

  pub opened-beside : Beside m label (open_memory label m)
  opened-beside = subst (Beside m label) (sym opens_as) (record {
    undamaged = stowed-sound label (beginning m) begun (omega arith) (omega arith) (none-held label m h);
    is_open = stowed-opens label (beginning m) begun;
    same = stowed-decode label (beginning m) begun;
    labelled = stowed-label label (beginning m) begun;
  })

  pub opened-state : state_in (open_memory label m) ≡ opening start
  unfolding cut_statements
  opened-state = ap state_in opens_as ∙ stowed-state label (beginning m) begun at_zero tt
