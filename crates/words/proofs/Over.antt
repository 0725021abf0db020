-- Words written over others: what stays, what is read back, and which writings may change places. Assumes nothing.
use mathlib.Core.Path.{◌≡◌, refl, sym, ap, ap₂, subst, ◌∙◌}
use mathlib.Core.List.{List, [], ◌∷◌, ◌++◌, map}
use Prim.Native.Nat.{ℕ, zero, suc, ◌+◌, ◌-◌, ◌≤◌, ◌<◌}
use native.Mathlib.Numerals.{add-one}
use native.Mathlib.Nat.{zero-add, suc-add, le_of_suc-le-suc, not-suc-le-zero}
use native.Mathlib.Omega.{arith}
use lib.ListN.{length, take, drop, get_or, set, length-map, get_or-map}
use lib.Seq.{take-suc, length-take-le, paste}
use Rattle.std.proofs.lemmas.List.{append_assoc, drop-drop}
use Rattle.words.specs.Over.{over, part}
use Rattle.plain.proofs.Each.{Each}

-- a place that lies before what begins at 0
before-zero : {X : Type 0} {n : ℕ} → suc n ≤ 0 → X
before-zero h = absurd (not-suc-le-zero h)

-- ---- nothing, one word, one list after another

pub over-nil : {A : Type 0} (at : ℕ) (m : List A) → over at [] m ≡ m
unfolding over
over-nil at [] = refl
over-nil zero (y ∷ m) = refl
over-nil {A} (suc at) (y ∷ m) = ap (λ (r : List A). y ∷ r) (over-nil at m)

pub over-past : {A : Type 0} (at : ℕ) (xs m : List A) → length m ≤ at → over at xs m ≡ m
unfolding over
over-past at xs [] h = refl
over-past zero xs (y ∷ m) h = before-zero h
over-past {A} (suc at) xs (y ∷ m) h = ap (λ (r : List A). y ∷ r) (over-past at xs m (le_of_suc-le-suc h))

pub length_over : {A : Type 0} (at : ℕ) (xs m : List A) → length (over at xs m) ≡ length m
unfolding over
length_over at xs [] = refl
length_over zero [] (y ∷ m) = refl
length_over zero (x ∷ xs) (y ∷ m) = ap suc (length_over zero xs m)
length_over (suc at) xs (y ∷ m) = ap suc (length_over at xs m)

-- a store
pub over-one : {A : Type 0} (at : ℕ) (v : A) (m : List A) → set m at v ≡ over at (v ∷ []) m
unfolding over
over-one at v [] = refl
over-one {A} zero v (y ∷ m) = ap (λ (r : List A). v ∷ r) (sym (over-nil zero m))
over-one {A} (suc at) v (y ∷ m) = ap (λ (r : List A). y ∷ r) (over-one at v m)

pub over-append : {A : Type 0} (at : ℕ) (xs ys m : List A) → over at (xs ++ ys) m ≡ over (at + length xs) ys (over at xs m)
unfolding over
over-append at xs ys [] = refl
over-append zero [] ys (y ∷ m) = refl
over-append {A} zero (x ∷ xs) ys (y ∷ m) =
    ap (λ (r : List A). x ∷ r) (over-append zero xs ys m)
    ∙ ap (λ (k : ℕ). over (suc k) ys (x ∷ over zero xs m)) (zero-add (length xs))
    ∙ ap (λ (k : ℕ). over k ys (x ∷ over zero xs m)) (sym (zero-add (suc (length xs))))
over-append {A} (suc at) xs ys (y ∷ m) =
    ap (λ (r : List A). y ∷ r) (over-append at xs ys m)
    ∙ ap (λ (k : ℕ). over k ys (y ∷ over at xs m)) (sym (suc-add at (length xs)))

-- one word more
pub over-snoc : {A : Type 0} (at : ℕ) (xs : List A) (v : A) (m : List A) → set (over at xs m) (at + length xs) v ≡ over at (xs ++ (v ∷ [])) m
over-snoc at xs v m = over-one (at + length xs) v (over at xs m) ∙ sym (over-append at xs (v ∷ []) m)

-- ---- what is there already

pub over-same : {A : Type 0} (at n : ℕ) (m : List A) → over at (part at n m) m ≡ m
unfolding over
over-same at n [] = refl
over-same zero zero (y ∷ m) = refl
over-same {A} zero (suc n) (y ∷ m) = ap (λ (r : List A). y ∷ r) (over-same zero n m)
over-same {A} (suc at) n (y ∷ m) = ap (λ (r : List A). y ∷ r) (over-same at n m)

-- a list that begins with what is there already
pub over-prefix : {A : Type 0} (at : ℕ) (p x m : List A) (n : ℕ) → p ≡ part at n m → over at (p ++ x) m ≡ over (at + length p) x m
over-prefix {A} at p x m n e =
    over-append at p x m ∙ ap (λ (r : List A). over (at + length p) x (over at r m)) e ∙ ap (over (at + length p) x) (over-same at n m)

-- ---- what is read after a writing

pub get_or-over-after : {A : Type 0} (at : ℕ) (xs m : List A) (i : ℕ) (d : A) → at + length xs ≤ i → get_or (over at xs m) i d ≡ get_or m i d
unfolding over
get_or-over-after at xs [] i d h = refl
get_or-over-after zero [] (y ∷ m) i d h = refl
get_or-over-after zero (x ∷ xs) (y ∷ m) zero d h = let z : suc (length xs) ≤ 0 = omega arith in before-zero z
get_or-over-after zero (x ∷ xs) (y ∷ m) (suc i) d h = get_or-over-after zero xs m i d (omega arith)
get_or-over-after (suc at) xs (y ∷ m) zero d h = let z : suc at ≤ 0 = omega arith in before-zero z
get_or-over-after (suc at) xs (y ∷ m) (suc i) d h = get_or-over-after at xs m i d (omega arith)

pub take-over : {A : Type 0} (n at : ℕ) (xs m : List A) → n ≤ at → take n (over at xs m) ≡ take n m
unfolding over
take-over zero at xs m h = refl
take-over (suc n) at xs [] h = refl
take-over (suc n) zero xs (y ∷ m) h = before-zero h
take-over {A} (suc n) (suc at) xs (y ∷ m) h = ap (λ (r : List A). y ∷ r) (take-over n at xs m (le_of_suc-le-suc h))

pub drop-over : {A : Type 0} (n at : ℕ) (xs m : List A) → at + length xs ≤ n → drop n (over at xs m) ≡ drop n m
unfolding over
drop-over n at xs [] h = refl
drop-over n zero [] (y ∷ m) h = refl
drop-over zero zero (x ∷ xs) (y ∷ m) h = let z : suc (length xs) ≤ 0 = omega arith in before-zero z
drop-over (suc n) zero (x ∷ xs) (y ∷ m) h = drop-over n zero xs m (omega arith)
drop-over zero (suc at) xs (y ∷ m) h = let z : suc at ≤ 0 = omega arith in before-zero z
drop-over (suc n) (suc at) xs (y ∷ m) h = drop-over n at xs m (omega arith)

-- a part that ends before what is written
pub part-before : {A : Type 0} (o n at : ℕ) (xs m : List A) → o + n ≤ at → part o n (over at xs m) ≡ part o n m
unfolding over
part-before o n at xs [] h = refl
part-before zero n at xs (y ∷ m) h = take-over n at xs (y ∷ m) (omega arith)
part-before (suc o) n zero xs (y ∷ m) h = let z : suc o ≤ 0 = omega arith in before-zero z
part-before (suc o) n (suc at) xs (y ∷ m) h = part-before o n at xs m (omega arith)

-- a part that begins after it
pub part-after : {A : Type 0} (o n at : ℕ) (xs m : List A) → at + length xs ≤ o → part o n (over at xs m) ≡ part o n m
part-after o n at xs m h = ap (take n) (drop-over o at xs m h)

-- what is written is read back
pub part-over : {A : Type 0} (at : ℕ) (xs m : List A) → at + length xs ≤ length m → part at (length xs) (over at xs m) ≡ xs
unfolding over
part-over zero [] [] h = refl
part-over (suc at) [] [] h = refl
part-over zero (x ∷ xs) [] h = let z : suc (length xs) ≤ 0 = omega arith in before-zero z
part-over (suc at) (x ∷ xs) [] h = let z : suc at ≤ 0 = omega arith in before-zero z
part-over zero [] (y ∷ m) h = refl
part-over {A} zero (x ∷ xs) (y ∷ m) h = ap (λ (r : List A). x ∷ r) (part-over zero xs m (omega arith))
part-over (suc at) xs (y ∷ m) h = part-over at xs m (omega arith)

-- ---- a part of a list that was lent comes back

put_front : {A : Type 0} (ys m : List A) → length ys ≤ length m → ys ++ drop (length ys) m ≡ over 0 ys m
unfolding over
put_front [] [] h = refl
put_front [] (y ∷ m) h = refl
put_front (x ∷ ys) [] h = before-zero h
put_front {A} (x ∷ ys) (y ∷ m) h = ap (λ (l : List A). x ∷ l) (put_front ys m (omega arith))

put-at : {A : Type 0} (at : ℕ) (ys m : List A) → at + length ys ≤ length m → take at m ++ (ys ++ drop (length ys) (drop at m)) ≡ over at ys m
unfolding over
put-at zero ys m h = put_front ys m (omega arith)
put-at (suc at) ys [] h = let z : suc at ≤ 0 = omega arith in before-zero z
put-at {A} (suc at) ys (y ∷ m) h = ap (λ (l : List A). y ∷ l) (put-at at ys m (omega arith))

-- as a function that lends `&mut m[a..a + n]` finds it
pub put_back : {A : Type 0} (a n : ℕ) (ys m : List A) → a + n ≤ length m → length ys ≡ n → take a m ++ (ys ++ drop (a + n - a) (drop a m)) ≡ over a ys m
put_back {A} a n ys m h l =
    let e : a + n - a ≡ length ys = omega arith in
    ap (λ (k : ℕ). take a m ++ (ys ++ drop k (drop a m))) e ∙ put-at a ys m (omega arith)

-- as `copy_within` leaves it
pub paste-over : {A : Type 0} (at n : ℕ) (xs m : List A) → n ≤ length xs → at + n ≤ length m → paste m at xs n ≡ over at (take n xs) m
paste-over {A} at n xs m h k =
    let l : length (take n xs) ≡ n = length-take-le n xs h in
    let e : drop (at + n) m ≡ drop n (drop at m) = sym (drop-drop n at m) in
    rw (append_assoc, e) (subst (λ (i : ℕ). take at m ++ (take n xs ++ drop i (drop at m)) ≡ over at (take n xs) m) l (put-at at (take n xs) m (omega arith)))

-- ---- two writings that do not meet

pub over-comm : {A : Type 0} (a : ℕ) (xs : List A) (b : ℕ) (ys m : List A) → a + length xs ≤ b → over b ys (over a xs m) ≡ over a xs (over b ys m)
unfolding over
over-comm a xs b ys [] h = refl
over-comm zero [] b ys (y ∷ m) h = sym (over-nil zero (over b ys (y ∷ m)))
over-comm zero (x ∷ xs) zero ys (y ∷ m) h = let z : suc (length xs) ≤ 0 = omega arith in before-zero z
over-comm {A} zero (x ∷ xs) (suc b) ys (y ∷ m) h = ap (λ (r : List A). x ∷ r) (over-comm zero xs b ys m (omega arith))
over-comm (suc a) xs zero ys (y ∷ m) h = let z : suc a ≤ 0 = omega arith in before-zero z
over-comm {A} (suc a) xs (suc b) ys (y ∷ m) h = ap (λ (r : List A). y ∷ r) (over-comm a xs b ys m (omega arith))

-- ---- written over again, behind a list, and within a part

pub over-again : {A : Type 0} (a : ℕ) (xs ys m : List A) → length xs ≡ length ys → over a ys (over a xs m) ≡ over a ys m
unfolding over
over-again a xs ys [] e = refl
over-again zero [] [] (y ∷ m) e = refl
over-again zero [] (z ∷ ys) (y ∷ m) e = refl
over-again zero (x ∷ xs) [] (y ∷ m) e = absurd (omega arith)
over-again {A} zero (x ∷ xs) (z ∷ ys) (y ∷ m) e = ap (λ (l : List A). z ∷ l) (over-again zero xs ys m (omega arith))
over-again {A} (suc a) xs ys (y ∷ m) e = ap (λ (l : List A). y ∷ l) (over-again a xs ys m e)

pub over-behind : {A : Type 0} (ys xs m : List A) (k : ℕ) → over (length ys + k) xs (ys ++ m) ≡ ys ++ over k xs m
unfolding over
over-behind [] xs m k = ap (λ (i : ℕ). over i xs m) (zero-add k)
over-behind {A} (y ∷ ys) xs m k = ap (λ (i : ℕ). over i xs (y ∷ (ys ++ m))) (suc-add (length ys) k) ∙ ap (λ (l : List A). y ∷ l) (over-behind ys xs m k)

over-front : {A : Type 0} (at n : ℕ) (xs m : List A) → at + length xs ≤ n → over 0 (over at xs (take n m)) m ≡ over at xs m
unfolding over
over-front at n xs [] h = refl
over-front zero zero [] (y ∷ m) h = refl
over-front zero zero (x ∷ xs) (y ∷ m) h = let z : suc (length xs) ≤ 0 = omega arith in before-zero z
over-front (suc at) zero xs (y ∷ m) h = let z : suc at ≤ 0 = omega arith in before-zero z
over-front {A} zero (suc n) [] (y ∷ m) h = ap (λ (l : List A). y ∷ l) (over-same 0 n m)
over-front {A} zero (suc n) (x ∷ xs) (y ∷ m) h = ap (λ (l : List A). x ∷ l) (over-front zero n xs m (omega arith))
over-front {A} (suc at) (suc n) xs (y ∷ m) h = ap (λ (l : List A). y ∷ l) (over-front at n xs m (omega arith))

pub over-within : {A : Type 0} (a at n : ℕ) (xs m : List A) → at + length xs ≤ n → over a (over at xs (part a n m)) m ≡ over (a + at) xs m
unfolding over
over-within a at n xs [] h = refl
over-within zero at n xs (y ∷ m) h = over-front at n xs (y ∷ m) h ∙ ap (λ (i : ℕ). over i xs (y ∷ m)) (sym (zero-add at))
over-within {A} (suc a) at n xs (y ∷ m) h = ap (λ (l : List A). y ∷ l) (over-within a at n xs m h) ∙ ap (λ (i : ℕ). over i xs (y ∷ m)) (sym (suc-add a at))

-- ---- loops that copy, one word a turn

pub over-turn : {A : Type 0} (at : ℕ) (xs m : List A) (j : ℕ) (d : A) → j < length xs → set (over at (take j xs) m) (at + j) (get_or xs j d) ≡ over at (take (j + 1) xs) m
over-turn {A} at xs m j d h =
    let e : length (take j xs) ≡ j = length-take-le j xs (omega arith) in
    ap (λ (i : ℕ). set (over at (take j xs) m) (at + i) (get_or xs j d)) (sym e)
    ∙ over-snoc at (take j xs) (get_or xs j d) m
    ∙ ap (λ (r : List A). over at r m) (sym (take-suc xs j d h) ∙ ap (λ (i : ℕ). take i xs) (sym (add-one j)))

pub map-take : {A B : Type 0} (f : A → B) (n : ℕ) (xs : List A) → map f (take n xs) ≡ take n (map f xs)
map-take f zero xs = refl
map-take f (suc n) [] = refl
map-take {B = B} f (suc n) (x ∷ xs) = ap (λ (l : List B). f x ∷ l) (map-take f n xs)

-- the same through a function
pub over-turn-map : {A B : Type 0} (f : A → B) (at : ℕ) (xs : List A) (m : List B) (j : ℕ) (d : A) → j < length xs
    → set (over at (map f (take j xs)) m) (at + j) (f (get_or xs j d)) ≡ over at (map f (take (j + 1) xs)) m
over-turn-map {B = B} f at xs m j d h =
    ap₂ (λ (r : List B) (y : B). set (over at r m) (at + j) y) (map-take f j xs) (sym (get_or-map f xs j d))
    ∙ over-turn at (map f xs) m j (f d) (omega (arith, length-map xs f))
    ∙ ap (λ (r : List B). over at r m) (sym (map-take f (j + 1) xs))

-- ---- a fact of every word, of those that are written and of those that were there

pub each_over : {A : Type 0} (P : A → Type 0) (at : ℕ) (xs m : List A) → Each P xs → Each P m → Each P (over at xs m)
unfolding over
each_over P at xs [] f g = tt
each_over P zero [] (y ∷ m) f g = g
each_over P zero (x ∷ xs) (y ∷ m) f g = (f.0, each_over P zero xs m f.1 g.1)
each_over P (suc at) xs (y ∷ m) f g = (g.0, each_over P at xs m f g.1)
