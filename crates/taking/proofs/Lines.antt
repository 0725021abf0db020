-- One line in a part: its bytes are held if it goes on, and it is completed where its LF stands. Assumes nothing.
use Prim.Native.Nat.{ℕ, suc, ◌+◌, ◌-◌, ◌≤◌, ◌<◌}
use native.Mathlib.Omega.{arith}
use mathlib.Core.Path.{◌≡◌, refl, sym, subst, ◌∙◌}
use mathlib.Core.Bool.{Bool, true, false, ◌&&◌}
use mathlib.Core.List.{List, [], ◌∷◌}
use lib.Dec.{eqb, ltb}
use lib.ListN.{length, take, drop, get_or, length-drop, drop_of_length-le}
use lib.Pointwise.{pointwise}
use lib.Seq.{drop-cons, take_all}
use Rattle.std.proofs.Common.{Bor}
use Rattle.std.specs.Prelude.{Option, None, Some, MatchOption, unwrap_or, if◌then◌else◌}
use Rattle.plain.specs.Bytes.{CR}
use Rattle.plain.specs.Runs.{run, past}
use Rattle.plain.proofs.Each.{Each}
use Rattle.plain.proofs.Places.{past_after, past-within, take_past}
use Rattle.plain.proofs.Runs.{run-each}
use Rattle.value.specs.Classes.{line_byte}
use Rattle.text.specs.Lines.{without_cr}
use Rattle.text.proofs.LineEnds.{without_cr-last}
use Rattle.feeding.specs.Kept.{ROOM}
use Rattle.feeding.specs.Parts.{MOST, more, capped, fed}
use Rattle.feeding.specs.Stored.{line, Keeps, Settles}
use Rattle.feeding.specs.declared.kept.Kept.{Kept}
use Rattle.feeding.proofs.Going.{more-is}
use Rattle.feeding.proofs.Longer.{line-long}
use Rattle.feeding.proofs.LinesAt.{fed-line-at, run-again}
use Rattle.feeding.proofs.Runs.{last_cr-longer, fed-run}
use Rattle.feeding.proofs.Steps.{fed-LF}
use Rattle.bookmark.specs.declared.mark.Bookmark.{Bookmark}
use Rattle.bookmark.specs.declared.mark.Entered.{Entered}
use Rattle.entering.specs.Entries.{entry}
use Rattle.taking.specs.Marked.{open_of, between}
use Rattle.entering.specs.Entries.{complete_on}
use Rattle.entering.specs.Lines.{Completes}
use Rattle.taking.specs.Taking.{Unbroken, Holds, Ends, Reaches}
use Rattle.taking.specs.declared.part.Reached.{Reached}
use Rattle.taking.proofs.Squeezing.{completing-squeezes}

-- ---- bytes without a CR at their end

without-by : (bs : List ℕ) (n : ℕ) → length bs ≡ suc n → without_cr bs ≡ (if pointwise eqb (drop n bs) (CR ∷ []) then take n bs else bs)
without-by bs n h = without_cr-last bs n h ∙ rw (drop-cons bs n 0 (omega arith), drop_of_length-le bs {i = suc n} (omega arith)) (by (eqb (get_or bs n 0) CR))
  where
    by : (t : Bool) → (if t then take n bs else bs) ≡ (if t && true then take n bs else bs)
    by true = refl
    by false = refl

-- what is left where a suffix goes, or all bytes
pub without-stripped : (bs : Bor (List ℕ)) (left : Option (Bor (List ℕ)))
    → MatchOption left (pointwise eqb (drop (length bs.now - 1) bs.now) (CR ∷ []) ≡ false) (λ x.
    (pointwise eqb (drop (length bs.now - 1) bs.now) (CR ∷ []) ≡ true) × (x.now ≡ take (length bs.now - 1) bs.now)
    × (length x.now + 1 ≡ length bs.now))
    → (unwrap_or left bs).now ≡ without_cr bs.now
without-stripped bs None e = same bs.now e
  where
    same : (l : List ℕ) → pointwise eqb (drop (length l - 1) l) (CR ∷ []) ≡ false → l ≡ without_cr l
    same [] e = refl
    same (b ∷ l) e = sym (without-by (b ∷ l) (length (b ∷ l) - 1) (omega arith) ∙ rw e)
without-stripped bs (Some x) e = e.1 ∙ sym (without-by bs.now (length bs.now - 1) (omega arith) ∙ rw e.0)

-- ---- bytes of one line

pub first-within : (bs : List ℕ) (e : ℕ) → e ≡ past line_byte bs 0 → e ≤ length bs
first-within bs e q = omega (arith, past-within line_byte bs 0 (omega arith))

pub unbroken-run : (bs : List ℕ) (e : ℕ) → e ≡ past line_byte bs 0 → Unbroken (take e bs)
unbroken-run bs e q =
    let z : past line_byte bs 0 - 0 ≡ past line_byte bs 0 = omega arith in
    let y : take e bs ≡ run line_byte bs = rw (q, ← z) (take_past line_byte bs 0) in
    rw y (run-again line_byte bs)

-- those after the last LF
pub unbroken-rest : (bs : List ℕ) (i : ℕ) → length bs ≤ past line_byte bs i → i ≤ length bs → Unbroken (drop i bs)
unbroken-rest bs i h g = sym (take_past line_byte bs i) ∙ take_all (past line_byte bs i - i) (drop i bs) (omega (arith, length-drop i bs))

pub holds-none : (b : Bookmark) (bytes : List ℕ) → length bytes ≡ 0 → Holds b bytes b
unfolding fed
holds-none b [] e = record { is = λ m. refl; entered = refl; total = omega arith }
holds-none b (x ∷ xs) e = absurd (omega arith)

pub holds-run : (b : Bookmark) (bytes : List ℕ) → b.total + length bytes ≤ MOST → Unbroken bytes → (length bytes ≡ 0 → ⊥)
    → (shorn : List ℕ) (k l : Kept) → shorn ≡ without_cr bytes → Settles b.kept b.pending k → Keeps k shorn l
    → Holds b bytes
    (record {
      entered = b.entered;
      number = b.number;
      long = b.long;
      kept = l;
      pending = ltb (length shorn) (length bytes);
      total = b.total + length bytes;
    })
holds-run b [] h f g shorn k l e s t = absurd (g refl)
holds-run b (x ∷ xs) h f g shorn k l e s t =
    record {
      is = λ m. rw (t.is, s.is, e, ← last_cr-longer (x ∷ xs)) (sym (fed-run complete_on (open_of m b) x xs each h));
      entered = refl;
      total = refl;
    }
  where
    each : Each (λ c. line_byte c ≡ true) (x ∷ xs)
    each = subst (λ (l : List ℕ). Each (λ c. line_byte c ≡ true) l) f (run-each line_byte (x ∷ xs))

-- ---- the LF

pub ends-line : (m : List ℕ) (b : Bookmark) → length b.kept.bytes ≡ ROOM → b.total < MOST
    → (w : 0 ≤ ROOM) (after : List ℕ) (number : ℕ) (r : Entered) → number ≡ more b.number
    → (kept : List ℕ) → kept ≡ line b.kept → Completes m b.entered number kept after r
    → Ends m b after
    (record {
      entered = r;
      number = number;
      long = b.kept.used;
      kept = record { bytes = b.kept.bytes; used = 0; within = w };
      pending = false;
      total = b.total + 1;
    })
ends-line m b a h w after number r e kept k f =
    let d : Completes m b.entered number (line b.kept) after r = subst (λ (l : List ℕ). Completes m b.entered number l after r) k f in
    record {
      is = sym (fed-LF complete_on (open_of m b) h ∙ rw (line-long b.kept a, more-is b.total (omega arith), ← e, ← d.is));
      ready = d.ready;
      none = refl;
      settled = refl;
      total = refl;
    }

-- ---- lines that lie whole in a part

module _ (m : List ℕ) (e : Entered) (number long : ℕ) (part : List ℕ) where
  module _ (after : List ℕ) (r : Reached) (d : Reaches m e number long part after r) where
    pub reaches-line : (end : ℕ) → end ≡ past line_byte part r.at → end < length part
        → (line : List ℕ) → line ≡ without_cr (take (end - r.at) (drop r.at part))
        → (later : List ℕ) (n : ℕ) (x : Entered) → n ≡ more r.number → Completes after r.entered n line later x
        → (l : ℕ) → l ≡ capped (length line)
        → Reaches m e number long part later (record { entered = x; number = n; long = l; at = end + 1 })
    reaches-line end q g line f later n x o c l w =
        record {
          within = omega arith;
          ready = c.ready;
          is = λ bytes h.
              let i = r.at in
              let y : i ≤ end = omega (arith, past_after line_byte part i) in
              let z : bytes + i + (end + 1 - i) ≡ bytes + (end + 1) = omega arith in
              d.is bytes h
              ∙ fed-line-at complete_on completing-squeezes (between (entry after r.entered) r.number r.long (bytes + i)) refl refl part i end q g
              (omega arith)
              ∙ rw (← f, z, w, o, c.is, o);
        }
