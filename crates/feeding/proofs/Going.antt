-- What is left to read of an open text: a byte more may be taken into it or left in the rest, and at the end only the last line is left.
-- Assumes nothing.
use Prim.Native.Nat.{ℕ, ◌+◌, ◌≤◌}
use mathlib.Core.Path.{◌≡◌, refl, sym, ap, ◌∙◌}
use mathlib.Core.Bool.{Bool, true, false, ◌&&◌}
use mathlib.Core.List.{List, [], ◌∷◌, ◌++◌, append_assoc, append-nil}
use borrow.Author.Tests.{eqb-true, le-ltb}
use lib.Dec.{eqb}
use lib.ListN.{length, length-append}
use Rattle.plain.specs.Bytes.{LF, CR}
use Rattle.std.specs.Prelude.{if◌then◌else◌}
use Rattle.plain.specs.Runs.{none}
use Rattle.text.specs.Lines.{before, at_lf, lines}
use Rattle.feeding.specs.Kept.{ROOM, keep, settled}
use Rattle.feeding.specs.Parts.{MOST, more, Open, Ended, holding, ended, taken, last_line, lastly, capped, folded}
use Rattle.feeding.proofs.Keeping.{Squeezes, keep-room, keep_some, capped-within, Stands, stands-itself, stands-keep, stands-capped, stands-line}

-- bytes before the first of some lines, or alone on a last line
abbrev pub front : List ℕ → List (List ℕ) → List (List ℕ)
front k [] = if none k then [] else (k ∷ [])
front k (l ∷ ls) = (k ++ l) ∷ ls

-- a CR that waits, and the bytes that are to come
abbrev pub awaiting : (pending : Bool) → List ℕ → List ℕ
awaiting true rest = CR ∷ rest
awaiting false rest = rest

-- all that the text comes to, if these bytes are its rest
abbrev pub reading : {P : Type 0} → (complete : P → ℕ → List ℕ → P) → Open P → List ℕ → Ended P
reading complete o rest = folded complete o.progress o.number o.long (front o.kept (lines (awaiting o.pending rest)))

pub more-is : (n : ℕ) → n ≤ MOST → more n ≡ n + 1
more-is n h = rw (le-ltb MOST n h)

pub settled-room : (k : List ℕ) (pending : Bool) → length k ≤ ROOM → length (settled k pending) ≤ ROOM
settled-room k true h = keep-room k CR h
settled-room k false h = h

front-none : (ls : List (List ℕ)) → front [] ls ≡ ls
front-none [] = refl
front-none (l ∷ ls) = refl

some-append : (k : List ℕ) (b : ℕ) → none (k ++ b ∷ []) ≡ false
some-append [] b = refl
some-append (c ∷ k) b = refl

front-before : (k : List ℕ) (b : ℕ) (ls : List (List ℕ)) → front k (before b ls) ≡ front (k ++ b ∷ []) ls
front-before k b [] = rw (some-append k b)
front-before k b (l ∷ ls) = rw (append_assoc k (b ∷ []) l)

module _ {P : Type 0} (complete : P → ℕ → List ℕ → P) where
  -- ---- what is kept, before the first of some lines

  -- another first line that comes to the same
  folded-line : (p : P) (number long : ℕ) (x y : List ℕ) (ls : List (List ℕ)) → complete p (number + 1) x ≡ complete p (number + 1) y
      → capped (length x) ≡ capped (length y) → folded complete p number long (x ∷ ls) ≡ folded complete p number long (y ∷ ls)
  unfolding folded
  folded-line p number long x y ls e f =
      ap (λ (q : P). folded complete q (number + 1) (capped (length x)) ls) e
      ∙ ap (λ (n : ℕ). folded complete (complete p (number + 1) y) (number + 1) n ls) f

  folded-front : (p : P) (number long : ℕ) (k w : List ℕ) (ls : List (List ℕ)) → Stands complete k w → none k ≡ none w
      → folded complete p number long (front k ls) ≡ folded complete p number long (front w ls)
  folded-front p number long k w (l ∷ ls) d e =
      folded-line p number long (k ++ l) (w ++ l) ls (d.same p (number + 1) l) (rw (length-append k l, length-append w l) (d.long (length l)))
  folded-front p number long k w [] d e = rw e (by (none w))
    where
      by : (t : Bool) → folded complete p number long (if t then [] else (k ∷ [])) ≡ folded complete p number long (if t then [] else (w ∷ []))
      by true = refl
      by false = folded-line p number long k w [] (stands-line complete k w d p (number + 1)) (stands-capped complete k w d)

  module _ (s : Squeezes complete) where
    -- one byte more of the line
    folded-kept : (p : P) (number long : ℕ) (k : List ℕ) (b : ℕ) (ls : List (List ℕ)) → length k ≤ ROOM
        → folded complete p number long (front k (before b ls)) ≡ folded complete p number long (front (keep k b) ls)
    folded-kept p number long k b ls h =
        rw (front-before k b ls)
        (sym (folded-front p number long (keep k b) (k ++ b ∷ []) ls (stands-keep complete s k k b (stands-itself complete k h))
        (keep_some k b ∙ sym (some-append k b))))

    -- ---- one byte

    module _ (p : P) (number long : ℕ) (k : List ℕ) (h : length k ≤ ROOM) (b : ℕ) (rest : List ℕ) where
      -- an LF ends the line
      at-end : eqb b LF ≡ true
          → folded complete p number long (front k (lines (b ∷ rest)))
          ≡ folded complete (complete p (number + 1) k) (number + 1) (length k) (front [] (lines rest))
      unfolding lines folded
      at-end e = rw (e, append-nil k, front-none (lines rest), capped-within (length k) h)

      -- any other byte is the line's, but for a CR, which waits
      within : eqb b LF ≡ false → (u : Bool) → eqb b CR ≡ u
          → folded complete p number long (front k (lines (b ∷ rest)))
          ≡ folded complete p number long (front (if u then k else keep k b) (lines (awaiting u rest)))
      unfolding lines
      within e true f = rw (eqb-true b CR f)
      within e false f = rw (e, f) (folded-kept p number long k b (lines rest) h)

    -- a CR that waits is the line's, unless an LF comes
    settled_on : (p : P) (number long : ℕ) (k : List ℕ) (pending : Bool) (b : ℕ) (rest : List ℕ) → length k ≤ ROOM → eqb b LF ≡ false
        → folded complete p number long (front k (lines (awaiting pending (b ∷ rest))))
        ≡ folded complete p number long (front (settled k pending) (lines (b ∷ rest)))
    unfolding lines
    settled_on p number long k false b rest h e = refl
    settled_on p number long k true b rest h e =
        rw e (folded-kept p number long k CR (if eqb b CR && at_lf rest then lines rest else before b (lines rest)) h)

    settled-off : (pending : Bool) (b : ℕ) (rest : List ℕ) → eqb b LF ≡ true → lines (awaiting pending (b ∷ rest)) ≡ lines (b ∷ rest)
    unfolding lines
    settled-off false b rest e = refl
    settled-off true b rest e = rw e

    pub read_byte : (o : Open P) (b : ℕ) (rest : List ℕ) → length o.kept ≤ ROOM → o.number ≤ MOST
        → reading complete o (b ∷ rest) ≡ reading complete (taken complete o b) rest
    read_byte o b rest g h = by (eqb b LF) refl (eqb b CR) refl
      where
        k : List ℕ
        k = settled o.kept o.pending

        on : eqb b LF ≡ false → reading complete o (b ∷ rest) ≡ folded complete o.progress o.number o.long (front k (lines (b ∷ rest)))
        on e = settled_on o.progress o.number o.long o.kept o.pending b rest g e

        by : (t : Bool) → eqb b LF ≡ t → (u : Bool) → eqb b CR ≡ u
            → reading complete o (b ∷ rest)
            ≡ reading complete (if t then ended complete o else (if u then holding o k true else holding o (keep k b) false)) rest
        by true e u f =
            rw (settled-off o.pending b rest e, more-is o.number h) (at-end o.progress o.number o.long o.kept g b rest e)
        by false e true f = on e ∙ within o.progress o.number o.long k (settled-room o.kept o.pending g) b rest e true f
        by false e false f = on e ∙ within o.progress o.number o.long k (settled-room o.kept o.pending g) b rest e false f

    -- ---- the end of the text

    last-line : (o : Open P) (k : List ℕ) → length k ≤ ROOM → o.number ≤ MOST
        → folded complete o.progress o.number o.long (front k []) ≡ last_line complete o k
    unfolding folded
    last-line o k g h = rw (more-is o.number h) (by (none k))
      where
        by : (t : Bool) → folded complete o.progress o.number o.long (if t then [] else (k ∷ []))
            ≡ (if t then record { progress = o.progress; number = o.number; long = o.long }
            else record { progress = complete o.progress (o.number + 1) k; number = o.number + 1; long = length k })
        by true = refl
        by false = rw (capped-within (length k) g)

    pub read-end : (o : Open P) → length o.kept ≤ ROOM → o.number ≤ MOST → reading complete o [] ≡ lastly complete o
    unfolding lines lastly
    read-end o g h = by o.pending
      where
        by : (t : Bool)
            → folded complete o.progress o.number o.long (front o.kept (lines (awaiting t []))) ≡ last_line complete o (settled o.kept t)
        by false = last-line o o.kept g h
        by true = folded-kept o.progress o.number o.long o.kept CR [] g ∙ last-line o (keep o.kept CR) (keep-room o.kept CR g) h
