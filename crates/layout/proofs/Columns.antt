-- Any number of columns at once: each lays the same elements out from its base on, by its own function, and ends before the next
-- one begins. What writing them all, adding to them all and closing a gap in them all do to a memory. Assumes nothing.
use mathlib.Core.Path.{◌≡◌, refl, sym, ap, subst, ◌∙◌}
use mathlib.Core.List.{List, [], ◌∷◌, ◌++◌, map, append_assoc, append-nil}
use Prim.Native.Nat.{ℕ, ◌+◌, ◌≤◌}
use native.Mathlib.Omega.{arith}
use lib.ListN.{length, take, drop, length-append}
use lib.Seq.{take-append_seam, take-take, take-add, drop_at, drop-drop}
use Rattle.words.specs.Over.{over, part, moved}
use Rattle.words.proofs.Over.{over-prefix, part-before, part-after, part-over, length_over}
use Rattle.layout.specs.State.{flat}

-- ---- lists laid out for each element

module _ {A B : Type 0} (f : A → List B) where
  pub flat_append : (xs ys : List A) → flat f (xs ++ ys) ≡ flat f xs ++ flat f ys
  unfolding flat
  flat_append [] ys = refl
  flat_append (x ∷ xs) ys = ap (λ (r : List B). f x ++ r) (flat_append xs ys) ∙ sym (append_assoc (f x) (flat f xs) (flat f ys))

  pub flat-one : (x : A) → flat f (x ∷ []) ≡ f x
  unfolding flat
  flat-one x = append-nil (f x)

pub flat_map : {A B : Type 0} (f : A → B) (xs : List A) → flat (λ x. f x ∷ []) xs ≡ map f xs
unfolding flat
flat_map f [] = refl
flat_map {B = B} f (x ∷ xs) = ap (λ (r : List B). f x ∷ r) (flat_map f xs)

-- ---- words that stand in a memory

-- xs stands in m from place o on
abbrev pub At : (o : ℕ) → (xs m : List ℕ) → Type 0
At o xs m = part o (length xs) m ≡ xs

pub at_before : (o : ℕ) (xs : List ℕ) (at : ℕ) (ys m : List ℕ) → o + length xs ≤ at → At o xs m → At o xs (over at ys m)
at_before o xs at ys m h e = part-before o (length xs) at ys m h ∙ e

pub at_after : (o : ℕ) (xs : List ℕ) (at : ℕ) (ys m : List ℕ) → at + length ys ≤ o → At o xs m → At o xs (over at ys m)
at_after o xs at ys m h e = part-after o (length xs) at ys m h ∙ e

pub at_left : (o : ℕ) (xs ys m : List ℕ) → At o (xs ++ ys) m → At o xs m
at_left o xs ys m h =
    sym (take-take (length xs) (length (xs ++ ys)) (drop o m) (omega (arith, length-append xs ys)))
    ∙ ap (take (length xs)) h ∙ take-append_seam xs ys

pub at_right : (o : ℕ) (xs ys m : List ℕ) → At o (xs ++ ys) m → At (o + length xs) ys m
at_right o xs ys m h =
    let r = drop o m in
    let l = at_left o xs ys m h in
    ap (take (length ys)) (sym (drop-drop (length xs) o m))
    ∙ sym (drop_at (take (length xs) r) (take (length ys) (drop (length xs) r)) (length xs) (ap length l))
    ∙ ap (drop (length xs)) (sym (take-add (length xs) (length ys) r) ∙ ap (λ (k : ℕ). take k r) (sym (length-append xs ys)) ∙ h)
    ∙ drop_at xs ys (length xs) refl

-- the middle of what stands is closed by moving its end down
pub close : (o : ℕ) (xs gap ys m : List ℕ) → At o (xs ++ (gap ++ ys)) m
    → moved (o + length xs) (o + length xs + length gap) (length ys) m ≡ over o (xs ++ ys) m
close o xs gap ys m h =
    let a : At o xs m = at_left o xs (gap ++ ys) m h in
    let b : At (o + length xs + length gap) ys m = at_right (o + length xs) gap ys m (at_right o xs (gap ++ ys) m h) in
    ap (λ (l : List ℕ). over (o + length xs) l m) b ∙ sym (over-prefix o xs ys m (length xs) (sym a))

-- ---- columns

pub record Column (A : Type 0) : Type 0 where
  pub base : ℕ
  pub end : ℕ
  pub lay : A → List ℕ

module _ {A : Type 0} where
  -- a column's words for some elements
  abbrev pub laid : Column A → List A → List ℕ
  laid c xs = flat c.lay xs

  pub laid-parts : (c : Column A) (xs gap ys : List A) → laid c (xs ++ (gap ++ ys)) ≡ laid c xs ++ (laid c gap ++ laid c ys)
  laid-parts c xs gap ys = flat_append c.lay xs (gap ++ ys) ∙ ap (λ (l : List ℕ). laid c xs ++ l) (flat_append c.lay gap ys)

  -- the columns follow each other from place lo on
  abbrev pub Spaced : (lo : ℕ) → List (Column A) → Type 0
  Spaced lo [] = Unit {0}
  Spaced lo (c ∷ cs) = (lo ≤ c.base) × (c.base ≤ c.end) × Spaced c.end cs

  -- they end within n words
  abbrev pub Within : (n : ℕ) → List (Column A) → Type 0
  Within n [] = Unit {0}
  Within n (c ∷ cs) = (c.end ≤ n) × Within n cs

  -- each has room for the elements
  abbrev pub Room : List (Column A) → List A → Type 0
  Room [] xs = Unit {0}
  Room (c ∷ cs) xs = (c.base + length (laid c xs) ≤ c.end) × Room cs xs

  -- the elements stand in each
  abbrev pub Stands : List (Column A) → List A → List ℕ → Type 0
  Stands [] xs m = Unit {0}
  Stands (c ∷ cs) xs m = At c.base (laid c xs) m × Stands cs xs m

  -- ---- writing

  -- m with the elements written into each column
  abbrev pub put_columns : List (Column A) → List A → List ℕ → List ℕ
  put_columns [] xs m = m
  put_columns (c ∷ cs) xs m = put_columns cs xs (over c.base (laid c xs) m)

  pub length-put_columns : (cs : List (Column A)) (xs : List A) (m : List ℕ) → length (put_columns cs xs m) ≡ length m
  length-put_columns [] xs m = refl
  length-put_columns (c ∷ cs) xs m = length-put_columns cs xs (over c.base (laid c xs) m) ∙ length_over c.base (laid c xs) m

  -- what stands before all columns stays
  pub at-put_columns : (cs : List (Column A)) (xs : List A) (m : List ℕ) (lo o : ℕ) (ys : List ℕ) → Spaced lo cs → o + length ys ≤ lo → At o ys m → At o ys (put_columns cs xs m)
  at-put_columns [] xs m lo o ys p h a = a
  at-put_columns (c ∷ cs) xs m lo o ys p h a =
      at-put_columns cs xs (over c.base (laid c xs) m) c.end o ys p.2 (omega (arith, p.0, p.1)) (at_before o ys c.base (laid c xs) m (omega (arith, p.0)) a)

  -- so does what follows them all
  pub part-put_columns : (cs : List (Column A)) (xs : List A) (m : List ℕ) (o n : ℕ) → Within o cs → Room cs xs → part o n (put_columns cs xs m) ≡ part o n m
  part-put_columns [] xs m o n w r = refl
  part-put_columns (c ∷ cs) xs m o n w r =
      part-put_columns cs xs (over c.base (laid c xs) m) o n w.1 r.1 ∙ part-after o n c.base (laid c xs) m (omega (arith, r.0, w.0))

  -- what is written before all columns leaves them
  pub stands-over : (cs : List (Column A)) (xs : List A) (m : List ℕ) (lo at : ℕ) (ys : List ℕ) → Spaced lo cs → at + length ys ≤ lo → Stands cs xs m → Stands cs xs (over at ys m)
  stands-over [] xs m lo at ys p h s = tt
  stands-over (c ∷ cs) xs m lo at ys p h s =
      (at_after c.base (laid c xs) at ys m (omega (arith, p.0)) s.0, stands-over cs xs m c.end at ys p.2 (omega (arith, p.0, p.1)) s.1)

  pub put-stands : (cs : List (Column A)) (xs : List A) (m : List ℕ) (lo : ℕ) → Spaced lo cs → Room cs xs → Within (length m) cs → Stands cs xs (put_columns cs xs m)
  put-stands [] xs m lo p r w = tt
  put-stands (c ∷ cs) xs m lo p r w =
      let l = length_over c.base (laid c xs) m in (
        at-put_columns cs xs (over c.base (laid c xs) m) c.end c.base (laid c xs) p.2 r.0 (part-over c.base (laid c xs) m (omega (arith, r.0, w.0))),
        put-stands cs xs (over c.base (laid c xs) m) c.end p.2 r.1 (subst (λ (n : ℕ). Within n cs) (sym l) w.1),
      )

  -- ---- adding at the end

  -- m with `new` written into each column after the elements that stand there
  abbrev pub add_columns : List (Column A) → (old new : List A) → List ℕ → List ℕ
  add_columns [] old new m = m
  add_columns (c ∷ cs) old new m = add_columns cs old new (over (c.base + length (laid c old)) (laid c new) m)

  pub add-put : (cs : List (Column A)) (old new : List A) (m : List ℕ) (lo : ℕ) → Spaced lo cs → Room cs (old ++ new) → Stands cs old m
      → add_columns cs old new m ≡ put_columns cs (old ++ new) m
  add-put [] old new m lo p r s = refl
  add-put (c ∷ cs) old new m lo p r s =
      let e : over (c.base + length (laid c old)) (laid c new) m ≡ over c.base (laid c (old ++ new)) m =
      sym (ap (λ (l : List ℕ). over c.base l m) (flat_append c.lay old new) ∙ over-prefix c.base (laid c old) (laid c new) m (length (laid c old)) (sym s.0)) in
      ap (add_columns cs old new) e
      ∙ add-put cs old new (over c.base (laid c (old ++ new)) m) c.end p.2 r.1 (stands-over cs old m c.end c.base (laid c (old ++ new)) p.2 r.0 s.1)

  -- ---- closing a gap

  -- m with what stands after `gap` in each column moved down to where `gap` begins
  abbrev pub close_columns : List (Column A) → (before gap after : List A) → List ℕ → List ℕ
  close_columns [] before gap after m = m
  close_columns (c ∷ cs) before gap after m =
      close_columns cs before gap after
      (moved (c.base + length (laid c before)) (c.base + length (laid c before) + length (laid c gap)) (length (laid c after)) m)

  pub close-put : (cs : List (Column A)) (before gap after : List A) (m : List ℕ) (lo : ℕ) → Spaced lo cs → Room cs (before ++ (gap ++ after)) → Stands cs (before ++ (gap ++ after)) m
      → close_columns cs before gap after m ≡ put_columns cs (before ++ after) m
  close-put [] before gap after m lo p r s = refl
  close-put (c ∷ cs) before gap after m lo p r s =
      let X = laid c before in
      let G = laid c gap in
      let Y = laid c after in
      let b = c.base in
      let t = laid-parts c before gap after in
      let f = flat_append c.lay before after in
      let e : moved (b + length X) (b + length X + length G) (length Y) m ≡ over b (laid c (before ++ after)) m =
      close b X G Y m (subst (λ (l : List ℕ). At b l m) t s.0) ∙ ap (λ (l : List ℕ). over b l m) (sym f) in
      let h : b + length (laid c (before ++ after)) ≤ c.end =
      omega (arith, r.0, ap length t, length-append X (G ++ Y), length-append G Y, ap length f, length-append X Y) in
      ap (close_columns cs before gap after) e
      ∙ close-put cs before gap after (over b (laid c (before ++ after)) m) c.end p.2 r.1
      (stands-over cs (before ++ (gap ++ after)) m c.end b (laid c (before ++ after)) p.2 h s.1)
