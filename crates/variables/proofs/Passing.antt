-- The walk backward: the statements from place s on are passed, none of them a direct assignment to the name, and their values with the name
-- are counted, and the strings among them. Assumes nothing.
use Prim.Native.Nat.{ℕ, ◌+◌, ◌*◌, ◌-◌, ◌/◌, ◌%◌, ◌≤◌, ◌<◌}
use mathlib.Core.Path.{◌≡◌, sym, ap, ap₂, ◌∙◌}
use mathlib.Core.Bool.{Bool, true, false}
use mathlib.Core.List.{List, [], ◌∷◌, reverse}
use native.Mathlib.Omega.{arith}
use borrow.Author.Tests.{eq-eqb, ne_eqb}
use lib.Dec.{eqb}
use lib.ListN.{length, take, drop, get_or}
use Rattle.std.specs.Prelude.{if◌then◌else◌}
use Rattle.std.proofs.lemmas.List.{length-reverse, get_or-reverse, get_or_default}
use Rattle.plain.specs.Lists.{equal}
use Rattle.statement.specs.Statements.{Statement}
use Rattle.words.specs.Over.{part}
use Rattle.words.specs.Halves.{upper, lower, sum}
use Rattle.words.proofs.Halves.{sum-take-next}
use Rattle.names.specs.Names.{NAMEWORDS}
use Rattle.layout.specs.State.{program, flat}
use Rattle.layout.specs.Memory.{statement_count, value_count, head_words, decode}
use Rattle.layout.proofs.Areas.{length-heads}
use Rattle.layout.proofs.Sound.{Sound}
use Rattle.variables.specs.Variables.{Datum, has, assigns, any, since, each, gives, variable}
use Rattle.variables.specs.Walk.{string_count, Begins}
use Rattle.variables.proofs.Counts.{length-each, count_most, count_cut}
use Rattle.variables.proofs.Held.{head_at, offset_at, values_at, bytes_from, statement_at, offset-end, program-end, length-values_at, count_at, program-next}
use Rattle.variables.proofs.Names.{Hands, has-told, head-told}
use Rattle.variables.proofs.Since.{since-all, since-here, none-past, length-past, count_past}

-- one word back
pub sum_back : (ws : List ℕ) (k : ℕ) → 0 < k → k ≤ length ws → sum (take k ws) ≡ sum (take (k - 1) ws) + lower (get_or ws (k - 1) 0)
sum_back ws k h l =
    let e : k ≡ k - 1 + 1 = omega arith in
    ap (λ (j : ℕ). sum (take j ws)) e ∙ sum-take-next (k - 1) ws (omega arith)

-- one text more of those that are passed from the last one back
pub text_back : (ws : List ℕ) (k w : ℕ) → (k < length (reverse ws)) × (w ≡ get_or (reverse ws) k w)
    → sum (take (length ws - k) ws) ≡ sum (take (length ws - (k + 1)) ws) + lower w
text_back ws k w p =
    let h : k < length ws = omega (arith, length-reverse ws, p.0) in
    let a : length ws - k - 1 ≡ length ws - (k + 1) = omega arith in
    let b : length ws - 1 - k ≡ length ws - (k + 1) = omega arith in
    let e : w ≡ get_or ws (length ws - (k + 1)) 0 =
    p.1 ∙ get_or-reverse ws k w h ∙ ap (λ (i : ℕ). get_or ws i w) b ∙ get_or_default ws (length ws - (k + 1)) w 0 (omega arith) in
    sum_back ws (length ws - k) (omega arith) (omega arith)
    ∙ ap₂ (λ (i j : ℕ). sum (take i ws) + lower (get_or ws j 0)) a a
    ∙ ap (λ (v : ℕ). sum (take (length ws - (k + 1)) ws) + lower v) (sym e)

-- ---- the statements passed

pub record Passed (name m : List ℕ) (s value count strings : ℕ) : Type 0 where
  pub within : s ≤ statement_count m
  pub none : any (assigns name) (drop s (program (decode m))) ≡ false
  pub offset : value ≡ offset_at m s
  pub size : count ≡ length (flat (gives name) (drop s (program (decode m))))
  pub kinds : strings ≡ string_count (flat (gives name) (drop s (program (decode m))))
  pub few : value + count ≤ value_count m

pub passed_none : (name m : List ℕ) (s : ℕ) → Sound m → s ≡ statement_count m → Passed name m s (value_count m) 0 0
unfolding any flat string_count
passed_none name m s S e =
    let d = program-end m S s e in
    record {
      within = omega arith;
      none = ap (any (assigns name)) d;
      offset = sym (ap (offset_at m) e ∙ offset-end m S);
      size = sym (ap (λ (l : List Statement). length (flat (gives name) l)) d);
      kinds = sym (ap (λ (l : List Statement). string_count (flat (gives name) l)) d);
      few = omega arith;
    }

-- all are passed
pub begins-first : (name m : List ℕ) (s value count strings : ℕ) → s ≡ 0 → Passed name m s value count strings → Begins name m s value count strings
unfolding variable
begins-first name m s value count strings z P =
    let d : drop s (program (decode m)) ≡ program (decode m) = ap (λ (k : ℕ). drop k (program (decode m))) z in
    let e : since name (program (decode m)) ≡ program (decode m) = since-all name (program (decode m)) (sym (ap (any (assigns name)) d) ∙ P.none) in
    record {
      within = P.within;
      here = e ∙ sym d;
      offset = P.offset;
      size = P.size ∙ ap (λ (l : List Statement). length (flat (gives name) l)) (d ∙ sym e);
      kinds = P.kinds ∙ ap (λ (l : List Statement). string_count (flat (gives name) l)) (d ∙ sym e);
    }

-- ---- the statement before them

module _ {m name words heads names : List ℕ} (H : Hands m name words heads names) {s value count strings : ℕ} (P : Passed name m s value count strings) (h : 0 < s) where
  abbrev k : ℕ
  k = s - 1

  abbrev head : ℕ
  head = get_or heads k 0

  abbrev n : ℕ
  n = lower head

  abbrev x : Statement
  x = statement_at m k

  there : k < statement_count m
  there = omega (arith, P.within)

  next : drop k (program (decode m)) ≡ x ∷ drop s (program (decode m))
  next =
      let e : k + 1 ≡ s = omega arith in
      program-next m H.sound k there ∙ ap (λ (j : ℕ). x ∷ drop j (program (decode m))) e

  offset-back : value ≡ offset_at m k + n
  offset-back =
      P.offset
      ∙ sum_back (head_words m) s h (omega (arith, P.within, length-heads m H.sound.sizes))
      ∙ ap (λ (w : ℕ). offset_at m k + lower w) (sym (head-told H k))

  pub values-left : n ≤ value
  values-left = omega (arith, offset-back)

  pub count_left : count + n ≤ value_count m
  count_left = omega (arith, offset-back, P.few)

  -- no more are strings than there are
  pub strings-left : (r : ℕ) → r ≡ (if eqb (upper head / 2) 0 then 0 else n) → strings + r ≤ value_count m
  strings-left r e = omega (arith, P.size, P.kinds, count_most (flat (gives name) (drop s (program (decode m)))), count_left, by (eqb (upper head / 2) 0) r e)
    where
      by : (t : Bool) (r : ℕ) → r ≡ (if t then 0 else n) → r ≤ n
      by true r e = omega arith
      by false r e = omega arith

  offset-there : value - n ≡ offset_at m k
  offset-there = omega (arith, offset-back)

  module _ (t : Bool) (e : t ≡ equal (part (NAMEWORDS * k) NAMEWORDS names) words) where
    tells : has name x ≡ t
    tells = has-told H k there t e

    -- nothing has no strings
    none : {vs : List Datum} → vs ≡ [] → string_count vs ≡ 0
    unfolding string_count
    none e = ap string_count e

    pub pass-other : t ≡ false → Passed name m k (value - n) count strings
    pass-other f =
        let g : gives name x ≡ [] = rw (tells ∙ f) in
        record {
          within = omega (arith, P.within);
          none = none-past name _ x _ P.none next (rw (tells ∙ f));
          offset = offset-there;
          size = omega (arith, P.size, length-past name _ x _ next, ap length g);
          kinds = omega (arith, P.kinds, count_past name _ x _ next, none g);
          few = omega (arith, P.few);
        }

    module _ (f : t ≡ true) (r : ℕ) (q : r ≡ (if eqb (upper head / 2) 0 then 0 else n)) where
      given : gives name x ≡ each x.values
      given = rw (tells ∙ f)

      size-more : length (flat (gives name) (drop k (program (decode m)))) ≡ count + n
      size-more =
          omega (arith, P.size, length-past name _ x _ next, ap length given, length-each x.values, count_at m H.sound k there, ap lower (head-told H k))

      kinds-here : string_count (each x.values) ≡ r
      kinds-here =
          count_cut (upper (head_at m k) / 2) (values_at m k) (bytes_from m k)
          ∙ ap (λ (j : ℕ). if eqb (upper (head_at m k) / 2) 0 then 0 else j) (length-values_at m H.sound k there)
          ∙ sym (q ∙ ap (λ (w : ℕ). if eqb (upper w / 2) 0 then 0 else lower w) (head-told H k))

      kinds-more : string_count (flat (gives name) (drop k (program (decode m)))) ≡ strings + r
      kinds-more = omega (arith, P.kinds, count_past name _ x _ next, ap string_count given, kinds-here)

      pub pass-append : (upper head % 2 ≡ 0 → ⊥) → Passed name m k (value - n) (count + n) (strings + r)
      pass-append a = record {
        within = omega (arith, P.within);
        none = none-past name _ x _ P.none next (rw (tells ∙ f, ne_eqb (upper (head_at m k) % 2) 0 (λ z. a (ap (λ (w : ℕ). upper w % 2) (head-told H k) ∙ z))));
        offset = offset-there;
        size = sym size-more;
        kinds = sym kinds-more;
        few = omega (arith, P.few, offset-back);
      }

      pub begins-here : upper head % 2 ≡ 0 → Begins name m k (value - n) (count + n) (strings + r)
      unfolding variable
      begins-here a =
          let e = since-here name (program (decode m)) x _ P.none k next (rw (tells ∙ f, eq-eqb (upper (head_at m k) % 2) 0 (sym (ap (λ (w : ℕ). upper w % 2) (head-told H k)) ∙ a))) in
          record {
            within = omega (arith, P.within);
            here = e;
            offset = offset-there;
            size = sym (ap (λ (l : List Statement). length (flat (gives name) l)) e ∙ size-more);
            kinds = sym (ap (λ (l : List Statement). string_count (flat (gives name) l)) e ∙ kinds-more);
          }
