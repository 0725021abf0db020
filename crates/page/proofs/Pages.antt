-- What events leave on a page: values of one kind given at once are values given one by one, and the pen keeps its room.
-- Assumes nothing.
use Prim.Native.Nat.{ℕ, suc, ◌+◌, ◌*◌, ◌-◌, ◌≤◌, ◌<◌}
use native.Mathlib.Nat.{add-zero}
use native.Mathlib.Omega.{arith}
use mathlib.Core.Path.{◌≡◌, refl, sym, ap, subst, ◌∙◌}
use mathlib.Core.Bool.{Bool, true, false}
use mathlib.Core.List.{List, [], ◌∷◌, ◌++◌, map}
use borrow.Author.Tests.{ne_eqb, ltb-true, ltb-false, le-ltb}
use lib.Dec.{ltb}
use lib.Ieee.{binary64, to_bits}
use lib.ListN.{length, get_or}
use Rattle.std.specs.Prelude.{if◌then◌else◌}
use Rattle.value.specs.Value.{Value, number, string, bytes_in}
use Rattle.statement.specs.Statements.{Event, opened, value, openings, givings, bytes_given}
use Rattle.statement.specs.declared.head.Operator.{Operator}
use Rattle.statement.specs.declared.head.Operator.TheVariants as O
use Rattle.words.specs.Over.{over}
use Rattle.words.specs.Halves.{HALF, upper}
use Rattle.words.proofs.Over.{over-append, over-comm, length_over}
use Rattle.octets.specs.Octets.{inked_in}
use Rattle.words.proofs.Over as parts
use Rattle.octets.proofs.Areas.{length-inked-in, over-inked-in}
use Rattle.names.specs.Names.{word_at, packed}
use Rattle.layout.specs.Limits.{BYTES_AT, BYTEWORDS}
use Rattle.page.specs.Writing.{Page, page, bare_head, opened_on, stored_on, stored_all, counting, told_on, given_on, written_on}
use Rattle.page.specs.Pens.{Headed, Room}
use Rattle.page.proofs.Alike.{Alike, any-alike}

-- ---- words

-- a word that is written again
pub over-again : {A : Type 0} (at : ℕ) (x y : A) (m : List A) → over at (x ∷ []) (over at (y ∷ []) m) ≡ over at (x ∷ []) m
over-again at x y m = parts.over-again at (y ∷ []) (x ∷ []) m refl

-- four words, one after the other
pub over-four : (at a b c d : ℕ) (m : List ℕ)
    → over (at + 3) (d ∷ []) (over (at + 2) (c ∷ []) (over (at + 1) (b ∷ []) (over at (a ∷ []) m))) ≡ over at (a ∷ b ∷ c ∷ d ∷ []) m
over-four at a b c d m =
    let p : at + 1 + 1 ≡ at + 2 = omega arith in
    let q : at + 2 + 1 ≡ at + 3 = omega arith in
    let m1 = over at (a ∷ []) m in
    let m2 = over (at + 1) (b ∷ []) m1 in
    sym
    (over-append at (a ∷ []) (b ∷ c ∷ d ∷ []) m
    ∙ over-append (at + 1) (b ∷ []) (c ∷ d ∷ []) m1
    ∙ ap (λ (k : ℕ). over k (c ∷ d ∷ []) m2) p
    ∙ over-append (at + 2) (c ∷ []) (d ∷ []) m2
    ∙ ap (λ (k : ℕ). over k (d ∷ []) (over (at + 2) (c ∷ []) m2)) q)

-- the same, as a name's words are stored
pub name-stored : (at : ℕ) (name ws m m1 m2 m3 m4 : List ℕ) → ws ≡ packed name
    → m1 ≡ over at (get_or ws 0 0 ∷ []) m → m2 ≡ over (at + 1) (get_or ws 1 0 ∷ []) m1 → m3 ≡ over (at + 2) (get_or ws 2 0 ∷ []) m2 → m4 ≡ over (at + 3) (get_or ws 3 0 ∷ []) m3
    → m4 ≡ over at (packed name) m
name-stored at name ws m m1 m2 m3 m4 e a b c d =
    rw (d, c, b, a, e) (over-four at (word_at name 0) (word_at name 8) (word_at name 16) (word_at name 24) m)

-- ---- the pen after values are stored

stored-head : (v : Value) (p : Page) → ((stored_on v p).pen.heads ≡ p.pen.heads) × ((stored_on v p).pen.head ≡ p.pen.head)
stored-head (number x) p = (refl, refl)
stored-head (string s) p = (refl, refl)

pub stored-heads : (vs : List Value) (p : Page) → ((stored_all vs p).pen.heads ≡ p.pen.heads) × ((stored_all vs p).pen.head ≡ p.pen.head)
unfolding stored_all
stored-heads [] p = (refl, refl)
stored-heads (v ∷ vs) p = let r = stored-heads vs (stored_on v p) in let s = stored-head v p in (r.0 ∙ s.0, r.1 ∙ s.1)

pub stored-values : (v : Value) (p : Page) → (stored_on v p).pen.values ≡ p.pen.values + 1
stored-values (number x) p = refl
stored-values (string s) p = refl

pub stored_bytes : (v : Value) (p : Page) → (stored_on v p).pen.bytes ≡ p.pen.bytes + bytes_in v
stored_bytes (number x) p = sym (add-zero p.pen.bytes)
stored_bytes (string s) p = refl

-- ---- values are told after they are stored, or before

-- the head of the statement opened last stands before the values and before the strings' bytes
pub record HeadBefore (p : Page) : Type 0 where
  pub some : 1 ≤ p.pen.heads
  pub values : p.pen.heads ≤ p.pen.values
  pub bytes : p.pen.heads ≤ BYTES_AT
  pub long : BYTES_AT + BYTEWORDS ≤ length p.memory

before-stored : (v : Value) (p : Page) → HeadBefore p → HeadBefore (stored_on v p)
before-stored (number x) p h = record {
  some = h.some;
  values = omega (arith, h.values);
  bytes = h.bytes;
  long = omega (arith, h.long, length_over p.pen.values (to_bits binary64 x ∷ []) p.memory);
}
before-stored (string s) p h =
    let m = inked_in BYTES_AT BYTEWORDS p.pen.bytes s p.memory in
    record {
      some = h.some;
      values = omega (arith, h.values);
      bytes = h.bytes;
      long = omega (arith, h.long, length_over p.pen.values (length s ∷ []) m, length-inked-in BYTES_AT BYTEWORDS p.pen.bytes s p.memory h.long);
    }

-- at least one value is told
abbrev told : (strings : Bool) (n : ℕ) → Page → Page
told strings n p =
    page
    (over (p.pen.heads - 1) (counting strings n p.pen.head ∷ []) p.memory)
    (record {
      heads = p.pen.heads;
      names = p.pen.names;
      values = p.pen.values;
      bytes = p.pen.bytes;
      head = counting strings n p.pen.head;
    })

told-some : (strings : Bool) (n : ℕ) (p : Page) → 0 < n → told_on strings n p ≡ told strings n p
unfolding told_on
told-some strings n p h = rw (ne_eqb n 0 (λ e. omega arith))

before-told : (strings : Bool) (n : ℕ) (p : Page) → HeadBefore p → HeadBefore (told strings n p)
before-told strings n p h = record {
  some = h.some;
  values = h.values;
  bytes = h.bytes;
  long = omega (arith, h.long, length_over (p.pen.heads - 1) (counting strings n p.pen.head ∷ []) p.memory);
}

module _ (strings : Bool) (n : ℕ) where
  stored-told : (v : Value) (p : Page) → HeadBefore p → stored_on v (told strings n p) ≡ told strings n (stored_on v p)
  stored-told (number x) p h =
      let w = counting strings n p.pen.head ∷ [] in
      ap (λ (m : List ℕ). page m (told strings n (stored_on (number x) p)).pen)
      (over-comm (p.pen.heads - 1) w p.pen.values (to_bits binary64 x ∷ []) p.memory (omega (arith, h.some, h.values)))
  stored-told (string s) p h =
      let w = counting strings n p.pen.head ∷ [] in
      let a = p.pen.heads - 1 in
      ap (λ (m : List ℕ). page m (told strings n (stored_on (string s) p)).pen)
      (ap (over p.pen.values (length s ∷ [])) (sym (over-inked-in BYTES_AT BYTEWORDS p.pen.bytes s p.memory h.long a w (omega (arith, h.some, h.bytes))))
      ∙ over-comm a w p.pen.values (length s ∷ []) (inked_in BYTES_AT BYTEWORDS p.pen.bytes s p.memory) (omega (arith, h.some, h.values)))

  all_told : (vs : List Value) (p : Page) → HeadBefore p → stored_all vs (told strings n p) ≡ told strings n (stored_all vs p)
  unfolding stored_all
  all_told [] p h = refl
  all_told (v ∷ vs) p h = ap (stored_all vs) (stored-told v p h) ∙ all_told vs (stored_on v p) (before-stored v p h)

-- told twice
counting-twice : (strings : Bool) (n k h : ℕ) → counting strings k (counting strings n h) ≡ counting strings (n + k) h
counting-twice false n k h = omega arith
counting-twice true n k h = by (ltb (upper h) 2) refl
  where
    by : (t : Bool) → ltb (upper h) 2 ≡ t
        → (if ltb (upper ((if t then h + 2 * HALF else h) + n)) 2 then ((if t then h + 2 * HALF else h) + n) + 2 * HALF else ((if t then h + 2 * HALF else h) + n)) + k
        ≡ (if t then h + 2 * HALF else h) + (n + k)
    by true e = rw (le-ltb (upper (h + 2 * HALF + n)) 2 (omega arith)) (omega arith)
    by false e = rw (le-ltb (upper (h + n)) 2 (omega (arith, ltb-false (upper h) 2 e))) (omega arith)

told-twice : (strings : Bool) (n k : ℕ) (p : Page) → told strings k (told strings n p) ≡ told strings (n + k) p
told-twice strings n k p =
    let a = p.pen.heads - 1 in
    let h = p.pen.head in
    let z = counting-twice strings n k h in
    let e : over a (counting strings k (counting strings n h) ∷ []) (over a (counting strings n h ∷ []) p.memory) ≡ over a (counting strings (n + k) h ∷ []) p.memory =
    over-again a (counting strings k (counting strings n h)) (counting strings n h) p.memory ∙ ap (λ (x : ℕ). over a (x ∷ []) p.memory) z in
    λ i. page (e i) (record { heads = p.pen.heads; names = p.pen.names; values = p.pen.values; bytes = p.pen.bytes; head = z i })

-- ---- values of one kind, given at once

module _ (b : Bool) where
  -- of one kind they are told as one kind
  given-told : (v : Value) (vs : List Value) (p : Page) → Alike b (v ∷ vs) → given_on (v ∷ vs) p ≡ told b (suc (length vs)) (stored_all vs (stored_on v p))
  unfolding stored_all
  given-told v vs p a =
      let q = stored_all vs (stored_on v p) in
      ap (λ (t : Bool). told_on t (suc (length vs)) q) (any-alike b v vs a) ∙ told-some b (suc (length vs)) q (omega arith)

  given-more : (v : Value) (vs : List Value) (p : Page) → HeadBefore p → Alike b (v ∷ vs) → given_on vs (given_on (v ∷ []) p) ≡ given_on (v ∷ vs) p
  unfolding told_on stored_all
  given-more v [] p h a = refl
  given-more v (w ∷ ws) p h a =
      let q = stored_on v p in
      let r = stored_all (w ∷ ws) q in
      let n = length ws in
      let z : 1 + suc n ≡ suc (suc n) = omega arith in
      ap (given_on (w ∷ ws)) (given-told v [] p (a.0, tt))
      ∙ given-told w ws (told b 1 q) a.1
      ∙ ap (told b (suc n)) (all_told b 1 (w ∷ ws) q (before-stored v p h))
      ∙ told-twice b 1 (suc n) r
      ∙ ap (λ (k : ℕ). told b k r) z
      ∙ sym (given-told v (w ∷ ws) p a)

  pub values-written : (vs : List Value) (p : Page) → HeadBefore p → Alike b vs → written_on (map value vs) p ≡ given_on vs p
  unfolding written_on told_on stored_all
  values-written [] p h a = refl
  values-written (v ∷ vs) p h a =
      let e = given-told v [] p (a.0, tt) in
      let g : HeadBefore (given_on (v ∷ []) p) = subst HeadBefore (sym e) (before-told b 1 (stored_on v p) (before-stored v p h)) in
      values-written vs (given_on (v ∷ []) p) g a.1 ∙ given-more v vs p h a

-- ---- all events

pub written-append : (es fs : List Event) (p : Page) → written_on (es ++ fs) p ≡ written_on fs (written_on es p)
unfolding written_on
written-append [] fs p = refl
written-append (opened n o ∷ es) fs p = written-append es fs (opened_on n o p)
written-append (value v ∷ es) fs p = written-append es fs (given_on (v ∷ []) p)

pub bare-headed : (o : Operator) (most : ℕ) → Headed (bare_head o) most
bare-headed O.Direct most = record { tag = omega arith; count = omega arith }
bare-headed O.Append most = record { tag = omega arith; count = omega arith }

-- a head that counts one value more; there are few
headed-more : (strings : Bool) (h most : ℕ) → most < BYTES_AT → Headed h most → Headed (counting strings 1 h) (most + 1)
headed-more false h most l f = record { tag = omega (arith, f.tag, f.count); count = omega (arith, f.tag, f.count) }
headed-more true h most l f = by (ltb (upper h) 2) refl
  where
    by : (t : Bool) → ltb (upper h) 2 ≡ t → Headed ((if t then h + 2 * HALF else h) + 1) (most + 1)
    by true e = record { tag = omega (arith, ltb-true (upper h) 2 e, f.count); count = omega (arith, ltb-true (upper h) 2 e, f.count) }
    by false e = record { tag = omega (arith, f.tag, f.count); count = omega (arith, f.tag, f.count) }

-- the room that is left
pub written-room : (es : List Event) (p : Page) (a b c : ℕ) → Room p.pen (openings es + a) (givings es + b) (bytes_given es + c) → Room (written_on es p).pen a b c
unfolding written_on opened_on told_on stored_all
written-room [] p a b c r = record {
  some = r.some;
  heads = omega (arith, r.heads);
  names = omega (arith, r.names);
  values = omega (arith, r.values);
  bytes = omega (arith, r.bytes);
  head = r.head;
}
written-room (opened n o ∷ es) p a b c r = written-room es (opened_on n o p) a b c (record {
  some = omega arith;
  heads = omega (arith, r.heads);
  names = omega (arith, r.names);
  values = omega (arith, r.values);
  bytes = omega (arith, r.bytes);
  head = bare-headed o p.pen.values;
})
written-room (value (number x) ∷ es) p a b c r = written-room es (given_on (number x ∷ []) p) a b c (record {
  some = r.some;
  heads = omega (arith, r.heads);
  names = omega (arith, r.names);
  values = omega (arith, r.values);
  bytes = omega (arith, r.bytes);
  head = headed-more false p.pen.head p.pen.values (omega (arith, r.values)) r.head;
})
written-room (value (string s) ∷ es) p a b c r = written-room es (given_on (string s ∷ []) p) a b c (record {
  some = r.some;
  heads = omega (arith, r.heads);
  names = omega (arith, r.names);
  values = omega (arith, r.values);
  bytes = omega (arith, r.bytes);
  head = headed-more true p.pen.head p.pen.values (omega (arith, r.values)) r.head;
})
