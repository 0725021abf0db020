-- A bookmark as the code has it is the open text that its words say: the kept line is copied to the start of an array. Assumes nothing.
use Prim.Native.Nat.{ℕ, ◌+◌, ◌%◌, ◌≤◌}
use native.Mathlib.Omega.{arith}
use mathlib.Core.Path.{◌≡◌, refl, sym, ap, ◌∙◌}
use mathlib.Core.List.{List, [], ◌∷◌}
use lib.Dec.{eqb}
use lib.ListN.{length, take, drop, get_or, replicate}
use lib.Seq.{length-take-le}
use Rattle.words.specs.Over.{over, part}
use Rattle.words.proofs.Over.{over-append, part-over}
use Rattle.octets.specs.Octets.{octets, packed}
use Rattle.octets.proofs.Bytes.{length-octets}
use Rattle.feeding.specs.Kept.{ROOM}
use Rattle.feeding.specs.Stored.{line}
use Rattle.feeding.specs.declared.kept.Kept.{Kept}
use Rattle.bookmark.specs.declared.mark.Bookmark.{Bookmark}
use Rattle.bookmark.specs.declared.mark.Standing.{Standing}
use Rattle.bookmark.specs.Limits.{NUMBERWORDS, LINEWORDS, COUNTS, LENGTHS}
use Rattle.bookmark.specs.Numbers.{standing_words, standing_of}
use Rattle.bookmark.specs.Words.{OPEN, bit, number_words, open_words, read_open}
use Rattle.bookmark.specs.Marked.{open_of, Readable, Reads, LineReadable, ReadsLine}
use Rattle.bookmark.proofs.Spelled.{numbers-spelled, length-numbers}

pub reads-line : (ws : List ℕ) (used : ℕ) (bytes : List ℕ) → LineReadable ws used → bytes ≡ over 0 (part 0 used (octets ws)) (replicate ROOM 0)
    → (w : used ≤ ROOM) → ReadsLine ws used (record { bytes = bytes; used = used; within = w })
reads-line ws used bytes h e w =
    let x = take used (octets ws) in
    let l : length x ≡ used = length-take-le used (octets ws) (omega (arith, h.kept, h.words, length-octets ws)) in
    let p : take (length x) (over 0 x (replicate ROOM 0)) ≡ x = part-over 0 x (replicate ROOM 0) (omega (arith, h.kept)) in
    let q : take used bytes ≡ x = ap (take used) e ∙ ap (λ (n : ℕ). take n (over 0 x (replicate ROOM 0))) (sym l) ∙ p in
    record { is = q; as_long = refl; long = ap length q ∙ l }

pub reads : (ws : List ℕ) (statements : ℕ) → Readable ws → (s : Standing)
    → s ≡ standing_of (get_or ws 3 0) (get_or ws 4 0) (get_or ws 5 0) (get_or ws 6 0) (get_or ws 7 0)
    → (k : Kept) → ReadsLine (drop NUMBERWORDS ws) (get_or ws 10 0) k
    → Reads ws statements (record {
      entered = record { standing = s; statements = statements; values = get_or ws 1 0; bytes = get_or ws 2 0 };
      number = get_or ws 8 0 % COUNTS;
      long = get_or ws 9 0 % LENGTHS;
      kept = k;
      pending = eqb (get_or ws 11 0 % 2) 1;
      total = get_or ws 12 0;
    })
unfolding read_open
reads ws statements h s e k l =
    record {
      is = λ i. record {
        progress = record { standing = e i; statements = statements; values = get_or ws 1 0; bytes = get_or ws 2 0 };
        number = get_or ws 8 0 % COUNTS;
        long = get_or ws 9 0 % LENGTHS;
        kept = l.is i;
        pending = eqb (get_or ws 11 0 % 2) 1;
        bytes = get_or ws 12 0;
      };
      long = l.long;
    }

-- ---- and is written as it

pub numbers-written : (b : Bookmark) → length (line b.kept) ≡ b.kept.used → (s : List ℕ) → s ≡ standing_words b.entered.standing
    → (p : ℕ) → p ≡ bit b.pending
    → OPEN ∷ b.entered.values ∷ b.entered.bytes ∷ get_or s 0 0 ∷ get_or s 1 0 ∷ get_or s 2 0 ∷ get_or s 3 0 ∷ get_or s 4 0 ∷ b.number ∷ b.long ∷ b.kept.used ∷ p
    ∷ b.total ∷ []
    ≡ number_words (open_of b)
numbers-written b l s e p q =
    let u : b.kept.used ≡ length (line b.kept) = sym l in
    (λ i. OPEN ∷ b.entered.values ∷ b.entered.bytes ∷ get_or (e i) 0 0 ∷ get_or (e i) 1 0 ∷ get_or (e i) 2 0 ∷ get_or (e i) 3 0 ∷ get_or (e i) 4 0 ∷ b.number
    ∷ b.long ∷ u i ∷ q i ∷ b.total ∷ [])
    ∙ sym (numbers-spelled (open_of b))

pub words-written : (at : ℕ) (b : Bookmark) (m ns ls x y : List ℕ) → ns ≡ number_words (open_of b) → ls ≡ packed LINEWORDS (line b.kept)
    → x ≡ over at ns m → y ≡ over (at + NUMBERWORDS) ls x → y ≡ over at (open_words (open_of b)) m
unfolding open_words
words-written at b m ns ls x y n l e f =
    let o = open_of b in
    let ps = packed LINEWORDS o.kept in
    let k : at + NUMBERWORDS ≡ at + length (number_words o) = ap (λ (j : ℕ). at + j) (sym (length-numbers o)) in
    f ∙ (λ i. over (k i) (l i) (e i)) ∙ (λ i. over (at + length (number_words o)) ps (over at (n i) m)) ∙ sym (over-append at (number_words o) ps m)
