-- What a load and a removal leave in a memory: a text added at the end of every column and of the strings' bytes, and a text's gap
-- closed in all of them, with the front written, are the changed state put. Assumes nothing.
use mathlib.Core.Path.{◌≡◌, refl, sym, ap, ap₂, subst, ◌∙◌}
use mathlib.Core.List.{List, [], ◌∷◌, ◌++◌}
use Prim.Native.Nat.{ℕ, ◌+◌, ◌≤◌, ◌<◌}
use native.Mathlib.Nat.{zero-add}
use native.Mathlib.Omega.{arith}
use lib.ListN.{length, drop, length-append, length-take}
use Rattle.statement.specs.Statements.{Statement}
use Rattle.words.specs.Over.{over, part, moved}
use Rattle.words.proofs.Each.{WORD, Words}
use Rattle.words.proofs.Over.{length_over, over-same}
use Rattle.plain.proofs.Each.{each_take, each-drop}
use Rattle.octets.specs.Octets.{octets}
use Rattle.octets.proofs.Bytes.{Bytes, bytes-octets}
use Rattle.octets.proofs.Inked.{inked-is}
use Rattle.octets.proofs.Areas.{area-before, over-inked-in, inked-in-append}
use Rattle.layout.specs.State.{Text, Pool, program, flat, bytes_of, string_bytes}
use Rattle.layout.specs.Limits.{WORDS, BYTEWORDS, TEXTS_AT, HEADS_AT, BYTES_AT}
use Rattle.layout.specs.Memory.{front, put}
use Rattle.layout.proofs.Columns.{At, at_left, at_right, Column, laid, laid-parts, Within, Stands, Room, put_columns, add_columns, close_columns, stands-over, add-put, close-put, flat_append}
use Rattle.layout.proofs.Legal.{Fits, program-append, program-last, bytes-append}
use Rattle.layout.proofs.Holds.{Holds, per_text, per_statement, spaced-texts, spaced-statements, texts-before, statements-before, inked_at, put-columns, room-texts, room-statements, holds_texts, holds-statements, holds-bytes, length-laid-texts}

-- ---- writing the strings' bytes and writing words of the columns before them may change places

pub ink-add : {A : Type 0} (cs : List (Column A)) (at : ℕ) (bs m : List ℕ) → length m ≡ WORDS → Within BYTES_AT cs → (old new : List A) → Room cs (old ++ new)
    → add_columns cs old new (inked_at at bs m) ≡ inked_at at bs (add_columns cs old new m)
ink-add [] at bs m n w old new r = refl
ink-add (c ∷ cs) at bs m n w old new r =
    let b = c.base + length (laid c old) in
    let h : b + length (laid c new) ≤ BYTES_AT = omega (arith, r.0, w.0, ap length (flat_append c.lay old new), length-append (laid c old) (laid c new)) in
    ap (add_columns cs old new) (over-inked-in BYTES_AT BYTEWORDS at bs m (omega arith) b (laid c new) h)
    ∙ ink-add cs at bs (over b (laid c new) m) (length_over b (laid c new) m ∙ n) w.1 old new r.1

ink-moved : (at : ℕ) (bs m : List ℕ) → length m ≡ WORDS → (to from k : ℕ) → to ≤ from → from + k ≤ BYTES_AT → moved to from k (inked_at at bs m) ≡ inked_at at bs (moved to from k m)
ink-moved at bs m n to from k d h =
    ap (λ (x : List ℕ). over to x (inked_at at bs m)) (area-before BYTES_AT BYTEWORDS at bs m (omega arith) from k h)
    ∙ over-inked-in BYTES_AT BYTEWORDS at bs m (omega arith) to (part from k m) (omega (arith, length-take k (drop from m)))

pub ink-close : {A : Type 0} (cs : List (Column A)) (at : ℕ) (bs m : List ℕ) → length m ≡ WORDS → Within BYTES_AT cs → (before gap after : List A) → Room cs (before ++ (gap ++ after))
    → close_columns cs before gap after (inked_at at bs m) ≡ inked_at at bs (close_columns cs before gap after m)
ink-close [] at bs m n w before gap after r = refl
ink-close (c ∷ cs) at bs m n w before gap after r =
    let X = laid c before in
    let G = laid c gap in
    let Y = laid c after in
    let to = c.base + length X in
    let from = c.base + length X + length G in
    let h : from + length Y ≤ BYTES_AT = omega (arith, r.0, w.0, ap length (laid-parts c before gap after), length-append X (G ++ Y), length-append G Y) in
    ap (close_columns cs before gap after) (ink-moved at bs m n to from (length Y) (omega arith) h)
    ∙ ink-close cs at bs (moved to from (length Y) m) (length_over to (part from (length Y) m) m ∙ n) w.1 before gap after r.1

-- what stands in the columns stays
pub ink-stands : {A : Type 0} (cs : List (Column A)) (at : ℕ) (bs m : List ℕ) → length m ≡ WORDS → Within BYTES_AT cs → (xs : List A) → Room cs xs → Stands cs xs m → Stands cs xs (inked_at at bs m)
ink-stands [] at bs m n w xs r s = tt
ink-stands (c ∷ cs) at bs m n w xs r s =
    (area-before BYTES_AT BYTEWORDS at bs m (omega arith) c.base (length (laid c xs)) (omega (arith, r.0, w.0)) ∙ s.0, ink-stands cs at bs m n w.1 xs r.1 s.1)

-- the statements' columns stay while the texts' column is written
stands-texts : (s t : Pool) (m : List ℕ) → Room per_text t → Stands per_statement (program s) m → Stands per_statement (program s) (put_columns per_text t m)
stands-texts s t m r k = stands-over per_statement (program s) m HEADS_AT TEXTS_AT _ spaced-statements r.0 k

-- ---- bytes written behind the first of those that are held

module _ (m : List ℕ) (w : Words m) (n : length m ≡ WORDS) (xs : List ℕ) (h : At 0 xs (octets (part BYTES_AT BYTEWORDS m))) where
  abbrev p : List ℕ
  p = part BYTES_AT BYTEWORDS m

  -- bytes that are there already
  pub ink-same : inked_at 0 xs m ≡ m
  ink-same =
      let v : Words p = each_take (λ x. x < WORD) BYTEWORDS (drop BYTES_AT m) (each-drop (λ x. x < WORD) BYTES_AT m w) in
      let e : octets p ≡ over 0 xs (octets p) = sym (ap (λ (l : List ℕ). over 0 l (octets p)) (sym h) ∙ over-same 0 (length xs) (octets p)) in
      ap (λ (l : List ℕ). over BYTES_AT l m) (sym (inked-is 0 xs p p v refl e)) ∙ over-same BYTES_AT BYTEWORDS m

  pub ink-behind : (ys : List ℕ) → inked_at (length xs) ys m ≡ inked_at 0 (xs ++ ys) m
  ink-behind ys =
      let f : Bytes xs = subst Bytes h (each_take (λ b. b < 256) (length xs) (octets p) (bytes-octets p)) in
      ap₂ (λ (k : ℕ) (l : List ℕ). inked_at k ys l) (sym (zero-add (length xs))) (sym ink-same) ∙ inked-in-append BYTES_AT BYTEWORDS 0 xs m (omega arith) ys f

-- ---- a text added

module _ (m : List ℕ) (s : Pool) (t : Text) (H : Holds m s) (F : Fits (s ++ (t ∷ []))) (w : Words m) where
  bytes-last : string_bytes (s ++ (t ∷ [])) ≡ string_bytes s ++ flat bytes_of t.body
  bytes-last = ap (flat bytes_of) (program-last s t) ∙ flat_append bytes_of (program s) t.body

  pub added : over 0 (front (s ++ (t ∷ []))) (add_columns per_statement (program s) t.body (add_columns per_text s (t ∷ []) (inked_at (length (string_bytes s)) (flat bytes_of t.body) m))) ≡ put (s ++ (t ∷ [])) m
  added =
      let u = s ++ (t ∷ []) in
      let x = inked_at 0 (string_bytes u) m in
      let r = room-texts u (omega (arith, F.texts)) in
      let k : inked_at (length (string_bytes s)) (flat bytes_of t.body) m ≡ x =
      ink-behind m w H.words (string_bytes s) (holds-bytes m s H) (flat bytes_of t.body) ∙ ap (λ (l : List ℕ). inked_at 0 l m) (sym bytes-last) in
      let a : add_columns per_text s (t ∷ []) x ≡ put_columns per_text u x =
      add-put per_text s (t ∷ []) x TEXTS_AT spaced-texts r (ink-stands per_text 0 (string_bytes u) m H.words texts-before s (room-texts s H.fits.texts) (holds_texts m s H)) in
      let b : add_columns per_statement (program s) t.body (put_columns per_text u x) ≡ put_columns per_statement (program u) (put_columns per_text u x) =
      add-put per_statement (program s) t.body (put_columns per_text u x) HEADS_AT spaced-statements (subst (Room per_statement) (program-last s t) (room-statements u F))
      (stands-texts s u x r (ink-stands per_statement 0 (string_bytes u) m H.words statements-before (program s) (room-statements s H.fits) (holds-statements m s H)))
      ∙ ap (λ (l : List Statement). put_columns per_statement l (put_columns per_text u x)) (sym (program-last s t)) in
      ap (λ (l : List ℕ). over 0 (front u) (add_columns per_statement (program s) t.body (add_columns per_text s (t ∷ []) l))) k
      ∙ ap (λ (l : List ℕ). over 0 (front u) l) (ap (add_columns per_statement (program s) t.body) a ∙ b) ∙ sym (put-columns u m)

-- ---- a text removed

module _ (m : List ℕ) (a : Pool) (t : Text) (b : Pool) (H : Holds m (a ++ (t ∷ b))) where
  pub program-parted : program (a ++ (t ∷ b)) ≡ program a ++ (t.body ++ program b)
  unfolding program
  program-parted = program-append a (t ∷ b)

  pub bytes-parted : string_bytes (a ++ (t ∷ b)) ≡ string_bytes a ++ (flat bytes_of t.body ++ string_bytes b)
  bytes-parted =
      ap (flat bytes_of) program-parted ∙ flat_append bytes_of (program a) (t.body ++ program b)
      ∙ ap (λ (l : List ℕ). string_bytes a ++ l) (flat_append bytes_of t.body (program b))

  bytes-at : At 0 (string_bytes a ++ (flat bytes_of t.body ++ string_bytes b)) (octets (part BYTES_AT BYTEWORDS m))
  bytes-at = subst (λ (l : List ℕ). At 0 l (octets (part BYTES_AT BYTEWORDS m))) bytes-parted (holds-bytes m (a ++ (t ∷ b)) H)

  -- the bytes behind the gap, where they stand
  pub bytes-behind : part (length (string_bytes a) + length (flat bytes_of t.body)) (length (string_bytes b)) (octets (part BYTES_AT BYTEWORDS m)) ≡ string_bytes b
  bytes-behind =
      let q = octets (part BYTES_AT BYTEWORDS m) in
      let x = string_bytes a in
      let y = flat bytes_of t.body in
      let k : At (0 + length x + length y) (string_bytes b) q = at_right (0 + length x) y (string_bytes b) q (at_right 0 x (y ++ string_bytes b) q bytes-at) in
      ap (λ (i : ℕ). part (i + length y) (length (string_bytes b)) q) (sym (zero-add (length x))) ∙ k

  fits-ends : Room per_text (a ++ b)
  fits-ends = (omega (arith, length-laid-texts (a ++ b), length-append a b, length-append a (t ∷ b), H.fits.texts), tt)

  pub closed : Words m → over 0 (front (a ++ b)) (close_columns per_statement (program a) t.body (program b) (close_columns per_text a (t ∷ []) b (inked_at (length (string_bytes a)) (string_bytes b) m))) ≡ put (a ++ b) m
  closed w =
      let u = a ++ b in
      let v = a ++ (t ∷ b) in
      let x = inked_at 0 (string_bytes u) m in
      let k : inked_at (length (string_bytes a)) (string_bytes b) m ≡ x =
      ink-behind m w H.words (string_bytes a) (at_left 0 (string_bytes a) (flat bytes_of t.body ++ string_bytes b) (octets (part BYTES_AT BYTEWORDS m)) bytes-at) (string_bytes b)
      ∙ ap (λ (l : List ℕ). inked_at 0 l m) (sym (bytes-append a b)) in
      let p : close_columns per_text a (t ∷ []) b x ≡ put_columns per_text u x =
      close-put per_text a (t ∷ []) b x TEXTS_AT spaced-texts (room-texts v H.fits.texts) (ink-stands per_text 0 (string_bytes u) m H.words texts-before v (room-texts v H.fits.texts) (holds_texts m v H)) in
      let s : Stands per_statement (program v) (put_columns per_text u x) =
      stands-texts v u x fits-ends (ink-stands per_statement 0 (string_bytes u) m H.words statements-before (program v) (room-statements v H.fits) (holds-statements m v H)) in
      let q : close_columns per_statement (program a) t.body (program b) (put_columns per_text u x) ≡ put_columns per_statement (program u) (put_columns per_text u x) =
      close-put per_statement (program a) t.body (program b) (put_columns per_text u x) HEADS_AT spaced-statements (subst (Room per_statement) program-parted (room-statements v H.fits))
      (subst (λ (l : List Statement). Stands per_statement l (put_columns per_text u x)) program-parted s)
      ∙ ap (λ (l : List Statement). put_columns per_statement l (put_columns per_text u x)) (sym (program-append a b)) in
      ap (λ (l : List ℕ). over 0 (front u) (close_columns per_statement (program a) t.body (program b) (close_columns per_text a (t ∷ []) b l))) k
      ∙ ap (λ (l : List ℕ). over 0 (front u) l) (ap (close_columns per_statement (program a) t.body (program b)) p ∙ q) ∙ sym (put-columns u m)
