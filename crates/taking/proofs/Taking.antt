-- A part is fed by its bytes up to the first LF, its whole lines, and the bytes after the last LF; past the limit one byte more is counted.
-- Assumes nothing.
use Prim.Native.Nat.{ℕ, suc, ◌+◌, ◌-◌, ◌≤◌, ◌<◌}
use native.Mathlib.Omega.{arith}
use mathlib.Core.Path.{◌≡◌, sym, ap, ◌∙◌}
use mathlib.Core.List.{List, [], ◌∷◌, ◌++◌}
use lib.ListN.{length, take, drop, get_or, length-drop, take-append-drop}
use lib.Seq.{drop-cons, take_all, length-take-le}
use Rattle.plain.specs.Bytes.{LF}
use Rattle.plain.specs.Runs.{past}
use Rattle.value.specs.Classes.{line_byte}
use Rattle.feeding.specs.Parts.{MOST, more, Open, holding, fed}
use Rattle.feeding.specs.Stored.{line}
use Rattle.feeding.proofs.Counting.{bytes-fed, fed-past, fed-over}
use Rattle.feeding.proofs.Going.{more-is}
use Rattle.feeding.proofs.Joining.{fed-append, fed-thrice}
use Rattle.feeding.proofs.LinesAt.{splits}
use Rattle.bookmark.specs.declared.mark.Bookmark.{Bookmark}
use Rattle.entering.specs.Entries.{Entry}
use Rattle.taking.specs.Marked.{open_of}
use Rattle.entering.specs.Entries.{complete_on}
use Rattle.taking.specs.Taking.{Fine, Takes, Holds, Ends}

-- a part from a place on, as the code lends it
pub from_place : (bs : List ℕ) (i : ℕ) → i ≤ length bs → take (length bs - i) (drop i bs) ≡ drop i bs
from_place bs i h = take_all (length bs - i) (drop i bs) (omega (arith, length-drop i bs))

-- ---- the line that goes on, and what follows it

module _ (m : List ℕ) (b : Bookmark) (part : List ℕ) (e : ℕ) (h : Bookmark) (y : Holds b (take e part) h) where
  pub takes-lines : e ≡ past line_byte part 0 → e < length part
      → (after : List ℕ) (g : Bookmark) → Ends m h after g
      → (later : List ℕ) (r : Bookmark) → Takes after g (take (length part - (e + 1)) (drop (e + 1) part)) later r → Takes m b part later r
  takes-lines q w after g f later r t =
      let z : e - 0 ≡ e = omega arith in
      let s : part ≡ take e part ++ LF ∷ drop (e + 1) part = rw z at (splits part 0 e q w) in
      record {
        is = t.is ∙ ap (fed complete_on (open_of after g)) (from_place part (e + 1) (omega arith))
            ∙ ap (λ (o : Open Entry). fed complete_on o (drop (e + 1) part)) (f.is ∙ ap (λ (o : Open Entry). fed complete_on o (LF ∷ [])) (y.is m))
            ∙ sym (ap (fed complete_on (open_of m b)) s ∙ fed-thrice complete_on (open_of m b) (take e part) LF (drop (e + 1) part));
        fine = t.fine;
      }

-- ---- the limit

module _ (m : List ℕ) (b : Bookmark) (part : List ℕ) where
  pub takes_none : Fine m b → MOST < b.total → Takes m b part m b
  takes_none f h = record { is = sym (fed-past complete_on (open_of m b) part h); fine = f }

  -- the bytes up to it are fed, and there are more
  pub takes-over : b.total ≤ MOST → MOST - b.total < length part
      → (after : List ℕ) (x : Bookmark) → Takes m b (take (MOST - b.total) part) after x
      → Takes m b part after
      (record { entered = x.entered; number = x.number; long = x.long; kept = x.kept; pending = x.pending; total = MOST + 1 })
  takes-over h g after x t =
      record {
        is = counted ∙ sym (fed-over complete_on (open_of after x) (get_or part n 0) (drop (suc n) part) at_most)
            ∙ ap (fed complete_on (open_of after x)) (sym (drop-cons part n 0 g)) ∙ ap (λ (o : Open Entry). fed complete_on o (drop n part)) t.is
            ∙ sym (fed-append complete_on (open_of m b) (take n part) (drop n part)) ∙ ap (fed complete_on (open_of m b)) (take-append-drop n part);
        fine = record { ready = t.fine.ready; most = omega arith };
      }
    where
      n : ℕ
      n = MOST - b.total

      at_most : x.total ≡ MOST
      at_most =
          let l : length (take n part) ≡ n = length-take-le n part (omega arith) in
          ap (λ (o : Open Entry). o.bytes) t.is ∙ bytes-fed complete_on (open_of m b) (take n part) (omega arith) ∙ omega arith

      counted : open_of after (record { entered = x.entered; number = x.number; long = x.long; kept = x.kept; pending = x.pending; total = MOST + 1 })
          ≡ holding (open_of after x) (line x.kept) x.pending
      counted = let z : more x.total ≡ MOST + 1 = more-is x.total (omega (arith, at_most)) ∙ omega (arith, at_most) in rw z
