-- Packing and unpacking: a legal name comes back, and so do the words that hold one. Assumes nothing.
use mathlib.Core.Path.{◌≡◌, refl, sym, ap, ◌∙◌}
use mathlib.Core.Bool.{Bool, true, false, ◌&&◌}
use mathlib.Core.List.{List, [], ◌∷◌, ◌++◌}
use Prim.Native.Nat.{ℕ, zero, suc, ◌+◌, ◌≤◌, ◌<◌}
use native.Mathlib.Omega.{arith}
use borrow.Author.Tests.{eqb-true, leb-true, le-leb, ltb-true, ltb-false}
use lib.Dec.{eqb, leb, ltb, lit<}
use lib.ListN.{length, drop, get_or, get_or-eq_default}
use Rattle.std.specs.Prelude.{if◌then◌else◌}
use Rattle.plain.specs.Runs.{run, skip}
use Rattle.plain.specs.Bytes.{within}
use Rattle.plain.proofs.Runs.{run-skip, run_length, run-each}
use Rattle.value.specs.Classes.{name_byte}
use Rattle.statement.specs.Head.{NAME}
use Rattle.words.specs.Halves.{all}
use Rattle.plain.proofs.Tests.{both, first_then}
use Rattle.plain.proofs.Each.{Each, each_at}
use Rattle.words.proofs.Each.{Words, all-each, each_all}
use Rattle.words.proofs.Steps.{drop-next, drop-end}
use Rattle.octets.specs.Octets.{bytes_of, octets}
use Rattle.octets.proofs.Eight.{word, bytes_word, word_bytes}
use Rattle.octets.proofs.Bytes.{length-octets}
use Rattle.names.specs.Names.{NAMEWORDS, legal, word_at, packed, unpacked, holds_name}
use Rattle.names.proofs.Bytes.{name_below}
use Rattle.names.proofs.Tapering.{zeros, ends}

-- ---- a name with zeros after it, up to so many bytes

-- the n bytes from place i on; past the end they are zeros
abbrev padded : (n i : ℕ) → List ℕ → List ℕ
padded zero i bs = []
padded (suc n) i bs = get_or bs i 0 ∷ padded n (i + 1) bs

-- every byte is below 256
below : (bs : List ℕ) → Each (λ b. name_byte b ≡ true) bs → (i : ℕ) → get_or bs i 0 < 256
below [] f i = lit< tt
below (b ∷ bs) f zero = let h = name_below b f.0 in omega arith
below (b ∷ bs) f (suc i) = below bs f.1 i

module _ (n : List ℕ) (f : Each (λ b. name_byte b ≡ true) n) where
  bytes-at : (k : ℕ) → bytes_of (word_at n k)
      ≡ get_or n k 0 ∷ get_or n (k + 1) 0 ∷ get_or n (k + 2) 0 ∷ get_or n (k + 3) 0 ∷ get_or n (k + 4) 0 ∷ get_or n (k + 5) 0 ∷ get_or n (k + 6) 0 ∷ get_or n (k + 7) 0 ∷ []
  bytes-at k =
      bytes_word (get_or n k 0) (get_or n (k + 1) 0) (get_or n (k + 2) 0) (get_or n (k + 3) 0) (get_or n (k + 4) 0) (get_or n (k + 5) 0) (get_or n (k + 6) 0) (get_or n (k + 7) 0)
      (below n f k) (below n f (k + 1)) (below n f (k + 2)) (below n f (k + 3)) (below n f (k + 4)) (below n f (k + 5)) (below n f (k + 6)) (below n f (k + 7))

  pub bytes_packed : octets (packed n) ≡ padded 32 0 n
  unfolding octets
  bytes_packed = λ i. bytes-at 0 i ++ (bytes-at 8 i ++ (bytes-at 16 i ++ (bytes-at 24 i ++ [])))

-- past the end every byte is zero
zeros-padded : (n : List ℕ) (k i : ℕ) → length n ≤ i → zeros (padded k i n) ≡ true
unfolding all
zeros-padded n zero i h = refl
zeros-padded n (suc k) i h = rw (get_or-eq_default n 0 h) (zeros-padded n k (i + 1) (omega arith))

module _ (n : List ℕ) (f : Each (λ b. name_byte b ≡ true) n) where
  -- before it the bytes are the name's
  run-padded : (k i : ℕ) → i ≤ length n → length n ≤ i + k → run name_byte (padded k i n) ≡ drop i n
  run-padded zero i h l = sym (drop-end n i h (omega arith))
  run-padded (suc k) i h l = by (ltb i (length n)) refl (λ g. run-padded k (i + 1) (omega arith) (omega arith))
    where
      by : (t : Bool) → ltb i (length n) ≡ t → (i < length n → run name_byte (padded k (i + 1) n) ≡ drop (i + 1) n)
          → (if name_byte (get_or n i 0) then get_or n i 0 ∷ run name_byte (padded k (i + 1) n) else []) ≡ drop i n
      by true e r = let g = ltb-true i (length n) e in rw (each_at (λ b. name_byte b ≡ true) n i 0 g f) (sym (drop-next n i 0 g ∙ ap (λ (l : List ℕ). get_or n i 0 ∷ l) (sym (r g))))
      by false e r = let g = ltb-false i (length n) e in rw (get_or-eq_default n 0 g) (sym (drop-end n i h g))

  ends-padded : (k i : ℕ) → ends (padded k i n) ≡ true
  unfolding all
  ends-padded zero i = refl
  ends-padded (suc k) i = by (ltb i (length n)) refl (ends-padded k (i + 1))
    where
      by : (t : Bool) → ltb i (length n) ≡ t → ends (padded k (i + 1) n) ≡ true
          → zeros (if name_byte (get_or n i 0) then skip name_byte (padded k (i + 1) n) else (get_or n i 0 ∷ padded k (i + 1) n)) ≡ true
      by true e r = let g = ltb-true i (length n) e in rw (each_at (λ b. name_byte b ≡ true) n i 0 g f) r
      by false e r = let g = ltb-false i (length n) e in rw (get_or-eq_default n 0 g) (zeros-padded n k (i + 1) (omega arith))

-- ---- a legal name comes back

-- what a legal name is, as facts
pub record Legible (n : List ℕ) : Type 0 where
  pub some : 1 ≤ length n
  pub few : length n ≤ NAME
  pub each : Each (λ b. name_byte b ≡ true) n

pub legible-of : (n : List ℕ) → legal n ≡ true → Legible n
unfolding legal
legible-of n e =
    let a = both (within 1 NAME (length n)) (all name_byte n) e in
    let b = both (leb 1 (length n)) (leb (length n) NAME) a.0 in
    record { some = leb-true _ _ b.0; few = leb-true _ _ b.1; each = all-each name_byte n a.1 }

pub of-legible : (n : List ℕ) → Legible n → legal n ≡ true
unfolding legal
of-legible n L =
    let a : leb 1 (length n) ≡ true = le-leb _ _ L.some in
    let b : leb (length n) NAME ≡ true = le-leb _ _ L.few in
    let c : all name_byte n ≡ true = each_all name_byte n L.each in
    λ i. a i && b i && c i

module _ (n : List ℕ) (e : legal n ≡ true) where
  pub unpacked-packed : unpacked (packed n) ≡ n
  unfolding unpacked
  unpacked-packed =
      let L = legible-of n e in
      ap (run name_byte) (bytes_packed n L.each) ∙ run-padded n L.each 32 0 (omega arith) (omega (arith, L.few))

  pub holds-packed : holds_name (packed n) ≡ true
  unfolding holds_name
  holds-packed =
      let L = legible-of n e in
      let a : leb 1 (length (unpacked (packed n))) ≡ true = le-leb 1 (length (unpacked (packed n))) (omega (arith, ap length unpacked-packed, L.some)) in
      let b : ends (octets (packed n)) ≡ true = ap ends (bytes_packed n L.each) ∙ ends-padded n L.each 32 0 in
      λ i. a i && b i

-- ---- words that hold a name come back

-- the name in four words is legal
pub legal-unpacked : (ws : List ℕ) → length ws ≤ NAMEWORDS → holds_name ws ≡ true → legal (unpacked ws) ≡ true
unfolding holds_name unpacked
legal-unpacked ws l e =
    let a = both (leb 1 (length (unpacked ws))) (ends (octets ws)) e in
    of-legible (unpacked ws)
    (record {
      some = leb-true _ _ a.0;
      few = omega (arith, run_length name_byte (octets ws), length-octets ws);
      each = run-each name_byte (octets ws);
    })

-- zeros at the end are read as no bytes are
get_or-zeros : (xs zs : List ℕ) → zeros zs ≡ true → (i : ℕ) → get_or (xs ++ zs) i 0 ≡ get_or xs i 0
unfolding all
get_or-zeros [] [] e i = refl
get_or-zeros [] (z ∷ zs) e zero = sym (eqb-true 0 z (first_then (eqb 0 z) (zeros zs) e).0)
get_or-zeros [] (z ∷ zs) e (suc i) = get_or-zeros [] zs (first_then (eqb 0 z) (zeros zs) e).1 i
get_or-zeros (x ∷ xs) zs e zero = refl
get_or-zeros (x ∷ xs) zs e (suc i) = get_or-zeros xs zs e i

word-equal : (xs ys : List ℕ) → ((i : ℕ) → get_or xs i 0 ≡ get_or ys i 0) → (k : ℕ) → word_at xs k ≡ word_at ys k
word-equal xs ys f k = λ i. word (f k i) (f (k + 1) i) (f (k + 2) i) (f (k + 3) i) (f (k + 4) i) (f (k + 5) i) (f (k + 6) i) (f (k + 7) i)

-- the bytes of words that hold a name are the name's, and zeros
bytes-unpacked : (ws : List ℕ) → holds_name ws ≡ true → (i : ℕ) → get_or (unpacked ws) i 0 ≡ get_or (octets ws) i 0
unfolding holds_name unpacked
bytes-unpacked ws e i =
    sym (get_or-zeros (unpacked ws) (skip name_byte (octets ws)) (both (leb 1 (length (unpacked ws))) (ends (octets ws)) e).1 i)
    ∙ ap (λ (l : List ℕ). get_or l i 0) (run-skip name_byte (octets ws))

pub packed-unpacked : (ws : List ℕ) → length ws ≡ NAMEWORDS → Words ws → holds_name ws ≡ true → packed (unpacked ws) ≡ ws
unfolding octets
packed-unpacked [] l f e = absurd (omega arith)
packed-unpacked (a ∷ []) l f e = absurd (omega arith)
packed-unpacked (a ∷ b ∷ []) l f e = absurd (omega arith)
packed-unpacked (a ∷ b ∷ c ∷ []) l f e = absurd (omega arith)
packed-unpacked (a ∷ b ∷ c ∷ d ∷ x ∷ ws) l f e = absurd (omega arith)
packed-unpacked (a ∷ b ∷ c ∷ d ∷ []) l f e =
    let ws = a ∷ b ∷ c ∷ d ∷ [] in
    let q = word-equal (unpacked ws) (octets ws) (bytes-unpacked ws e) in
    let p0 : word_at (unpacked ws) 0 ≡ a = q 0 ∙ word_bytes a f.0 in
    let p1 : word_at (unpacked ws) 8 ≡ b = q 8 ∙ word_bytes b f.1.0 in
    let p2 : word_at (unpacked ws) 16 ≡ c = q 16 ∙ word_bytes c f.1.1.0 in
    let p3 : word_at (unpacked ws) 24 ≡ d = q 24 ∙ word_bytes d f.1.1.1.0 in
    λ i. p0 i ∷ p1 i ∷ p2 i ∷ p3 i ∷ []

-- ---- so names may be compared by their words

module _ (n ws : List ℕ) (e : legal n ≡ true) (l : length ws ≡ NAMEWORDS) (f : Words ws) (g : holds_name ws ≡ true) where
  pub same_name : unpacked ws ≡ n → ws ≡ packed n
  same_name q = sym (packed-unpacked ws l f g) ∙ ap packed q

  pub same-words : ws ≡ packed n → unpacked ws ≡ n
  same-words q = ap unpacked q ∙ unpacked-packed n e
