-- Dropping writes one word of the front, and what is held stays; closing puts the held texts with one more, which can be held. Assumes nothing.
use Prim.Native.Nat.{ℕ}
use native.Mathlib.Omega.{arith}
use mathlib.Core.Path.{◌≡◌, refl, sym, ap, ◌∙◌}
use mathlib.Core.Bool.{true, false, not}
use mathlib.Core.List.{List, [], ◌∷◌}
use lib.Dec.{eqb, lit<}
use Rattle.layout.specs.State.{Text, Pool}
use Rattle.layout.specs.Limits.{OPEN_AT, room}
use Rattle.layout.specs.Memory.{decode, put, opens, open_label, NONE_OPEN}
use Rattle.layout.specs.Damage.{sound}
use Rattle.layout.proofs.Areas.{get_d_over}
use Rattle.layout.proofs.Holds.{decode-legal, decode-put, put-sound}
use Rattle.layout.proofs.Legal.{Fits, Legal, fits-of, legal-add}
use Rattle.layout.proofs.Sound.{sound-of, of-sound}
use Rattle.loading.specs.Load.{with}
use Rattle.pool.specs.Replies.{done}
use Rattle.loading.proofs.Loaded.{absent}
use Rattle.opening.specs.Closing.{closed, close_answer, closed_pool}
use Rattle.opening.proofs.Storable.{Storable}
use Rattle.opening.proofs.Undamaged.{storable-closed, room-closed}
use Rattle.intake.specs.Opened.{open_in, state_in, shut}
use Rattle.keeping.proofs.OfParts.{Without}
use Rattle.keeping.proofs.Alike.{Alike, alike-decode, alike-orderly, alike-open}
use Rattle.keeping.proofs.Kept.{kept-room, kept-storable}
use Rattle.keeping.proofs.ReadOpened.{open_kept}
use Rattle.keeping.proofs.Free.{label-free}

module _ (m : List ℕ) (e : sound m ≡ true) where
  -- ---- dropped

  pub shut-without : Without m (shut m)
  shut-without =
      let a : Alike (shut m) m = alike-open (NONE_OPEN ∷ []) m (omega arith) in
      let n : opens (shut m) ≡ false =
      ap (λ (x : ℕ). not (eqb x 0)) (get_d_over OPEN_AT (NONE_OPEN ∷ []) m 0 (lit< tt) (omega (arith, (sound-of m e).sizes.words))) in
      record { undamaged = of-sound (shut m) (alike-orderly a (sound-of m e)) n; none_open = n; same = alike-decode a }

  -- ---- closed

  module _ (o : opens m ≡ true) (d : done (close_answer (decode m) (state_in m)) ≡ true) where
    abbrev s : Pool
    s = decode m

    abbrev t : Text
    t = record { label = open_label m; body = (closed s (state_in m)).progress.body }

    storable-open : Storable s (state_in m).progress
    storable-open = kept-storable (open_in m).progress (open_kept m e o)

    roomy : room s ≡ true
    roomy = kept-room (open_in m).progress (open_kept m e o)

    pool-is : closed_pool s (open_label m) (state_in m) ≡ with s t
    unfolding closed_pool
    pool-is = rw d refl

    pub fits : Fits (with s t)
    fits = fits-of (with s t) (room-closed s roomy (open_label m) (state_in m) storable-open d)

    legal : Legal (with s t)
    legal =
        legal-add s t (decode-legal m (sound-of m e)) (absent (open_label m) s (label-free m e o)) (storable-closed s roomy (state_in m) storable-open).fair

    pub closed-sound : sound (put (closed_pool s (open_label m) (state_in m)) m) ≡ true
    closed-sound = ap (λ (x : Pool). sound (put x m)) pool-is ∙ put-sound (with s t) m fits (sound-of m e).sizes.words legal

    pub closed-texts : decode (put (closed_pool s (open_label m) (state_in m)) m) ≡ closed_pool s (open_label m) (state_in m)
    closed-texts = ap (λ (x : Pool). decode (put x m)) pool-is ∙ decode-put (with s t) m fits (sound-of m e).sizes.words legal ∙ sym pool-is
