-- A kept line made longer by a run, as the code does it: written where there is room, and the rest squeezed in. Assumes nothing.
use Prim.Native.Nat.{ℕ, ◌+◌, ◌-◌, ◌≤◌, ◌<◌}
use native.Mathlib.Omega.{arith}
use mathlib.Core.Path.{◌≡◌, sym, ap, ◌∙◌}
use mathlib.Core.List.{List, [], ◌∷◌, ◌++◌}
use lib.ListN.{length, take, drop, length-append, length-drop, take-append-drop}
use lib.Seq.{take_all, length-take-le}
use Rattle.feeding.specs.Kept.{ROOM, squeezed, keep, keep_all}
use Rattle.feeding.specs.Stored.{line, Keeps}
use Rattle.feeding.specs.declared.kept.Kept.{Kept}
use Rattle.feeding.proofs.Squeezing.{squeezed-long, squeezed-short}
use Rattle.feeding.proofs.Storing.{keep_all-append, keep_all-room, keep-full}

-- ---- a full line

full-stays : (k run : List ℕ) → length k ≡ ROOM → length (keep_all k run) ≡ ROOM
full-stays k [] h = h
full-stays k (b ∷ bs) h = full-stays (keep k b) bs (rw (keep-full k b h) long)
  where
    long : length (squeezed k b) ≡ ROOM
    long = omega (arith, squeezed-long k b (omega arith), squeezed-short k b (sym h))

-- ---- any line

pub line-long : (k : Kept) → length k.bytes ≡ ROOM → length (line k) ≡ k.used
line-long k h = length-take-le k.used k.bytes (omega arith)

module _ (k : Kept) (run stored : List ℕ) (h : length k.bytes ≡ ROOM) where
  -- all of the run has room
  pub keeps-room : (g : k.used + length run ≤ ROOM) → take (k.used + length run) stored ≡ line k ++ run
      → Keeps k run (record { bytes = stored; used = k.used + length run; within = g })
  keeps-room g e =
      let l = line-long k h in
      record {
        long = ap length e ∙ length-append (line k) run ∙ ap (λ (n : ℕ). n + length run) l;
        is = e ∙ sym (keep_all-room (line k) run (omega arith));
      }

  -- as much as has room, and the rest
  pub keeps-squeezed : ROOM - k.used < length run → length stored ≡ ROOM
      → take (k.used + length (take (ROOM - k.used) run)) stored ≡ line k ++ take (ROOM - k.used) run
      → (r : List ℕ) → r ≡ keep_all stored (take (length run - (ROOM - k.used)) (drop (ROOM - k.used) run))
      → (w : ROOM ≤ ROOM) → Keeps k run (record { bytes = r; used = ROOM; within = w })
  keeps-squeezed g m e r f w =
      record { long = length-take-le ROOM r (omega (arith, r-long)); is = take_all ROOM r (omega (arith, r-long)) ∙ r-is }
    where
      n : ℕ
      n = ROOM - k.used

      head-long : length (take n run) ≡ n
      head-long = length-take-le n run (omega arith)

      stored_is : stored ≡ keep_all (line k) (take n run)
      stored_is =
          sym (take_all (k.used + length (take n run)) stored (omega (arith, head-long))) ∙ e
          ∙ sym (keep_all-room (line k) (take n run) (omega (arith, head-long, line-long k h)))

      r-long : length r ≡ ROOM
      r-long = ap length f ∙ full-stays stored (take (length run - n) (drop n run)) m

      r-is : r ≡ keep_all (line k) run
      r-is =
          f ∙ rw (take_all (length run - n) (drop n run) (omega (arith, length-drop n run)), stored_is)
          (sym (keep_all-append (line k) (take n run) (drop n run)) ∙ ap (keep_all (line k)) (take-append-drop n run))
