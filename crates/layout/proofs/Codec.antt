-- Cutting a state out of the areas' words and laying it out into them are each other's inverse. Assumes nothing.
use mathlib.Core.Path.{◌≡◌, refl, sym, ap, ap₂, subst, ◌∙◌}
use mathlib.Core.Bool.{true}
use mathlib.Core.List.{List, [], ◌∷◌, ◌++◌, map}
use Prim.Native.Nat.{ℕ, zero, suc, ◌+◌, ◌*◌, ◌-◌, ◌/◌, ◌%◌, ◌≤◌, ◌<◌}
use native.Mathlib.Omega.{arith}
use lib.ListN.{length, take, drop, length-append, length-take, length-drop, take-append-drop}
use lib.Seq.{take_at, drop_at, length-take-le}
use Rattle.plain.specs.Bytes.{fair}
use Rattle.statement.specs.Statements.{how_many, Statement}
use Rattle.statement.specs.declared.head.Operator.{Operator}
use Rattle.statement.specs.declared.head.Operator.TheVariants.{Direct, Append}
use Rattle.words.specs.Halves.{HALF, upper, lower, joined, sum}
use Rattle.plain.proofs.Each.{Each, each_append, each_take, each-drop, each_weaken}
use Rattle.words.proofs.Each.{Words, WORD}
use Rattle.words.proofs.Halves.{upper-joined, lower-joined, joined-halves}
use Rattle.layout.specs.State.{Text, Pool, program, flat, words_of, values_of, bytes_of}
use Rattle.names.specs.Names.{NAMEWORDS, packed, unpacked}
use Rattle.layout.specs.Memory.{operator_number, operator_of, kind_number, cut_values, bytes_taken, cut_statements, cut_texts, text_word, head_word, name_of}
use Rattle.layout.specs.Damage.{fits, total_bytes}
use Rattle.names.proofs.Names.{unpacked-packed, packed-unpacked, legal-unpacked, holds-packed}
use Rattle.layout.proofs.Sound.{Named, Fitting}
use Rattle.layout.proofs.Legal.{Fair, label_of}
use Rattle.layout.proofs.Passing.{total-append}
use Rattle.layout.proofs.Spelling.{length-words, cut-values, Brief, brief-fair, brief-few, taken-spelled, fits-values, letters-values, kind-most, kind-cut, many-cut, words-cut-values, spelled-cut, fair-cut-values, bounded-cut-values}

-- ---- operators and kinds in a head's upper number

operator-back : (o : Operator) → operator_of (operator_number o) ≡ o
operator-back Direct = refl
operator-back Append = refl

number-back : (n : ℕ) → n ≤ 1 → operator_number (operator_of n) ≡ n
number-back zero h = refl
number-back (suc zero) h = refl
number-back (suc (suc n)) h = absurd (omega arith)

operator-most : (o : Operator) → operator_number o ≤ 1
operator-most Direct = omega arith
operator-most Append = omega arith

abbrev tag : Statement → ℕ
tag x = kind_number x.values * 2 + operator_number x.operator

-- ---- laid out, then cut

-- fewer values than a head word can count, fewer statements than a text's word can
abbrev pub Short : Statement → Type 0
Short x = how_many x.values < HALF

abbrev pub ShortText : Text → Type 0
ShortText t = length t.body < HALF

-- what a head's word says of its statement
module _ (x : Statement) (g : Short x) where
  pub head-tag : upper (head_word x) ≡ tag x
  head-tag = upper-joined (tag x) (how_many x.values) g

  pub head-kind : upper (head_word x) / 2 ≡ kind_number x.values
  head-kind = omega (arith, head-tag, operator-most x.operator)

  pub head-operator : operator_of (upper (head_word x) % 2) ≡ x.operator
  head-operator =
      let e : upper (head_word x) % 2 ≡ operator_number x.operator = omega (arith, head-tag, operator-most x.operator) in
      ap operator_of e ∙ operator-back x.operator

  pub head-count : lower (head_word x) ≡ how_many x.values
  head-count = lower-joined (tag x) (how_many x.values) g

  module _ (vs : List ℕ) where
    counted : length (values_of x) ≡ lower (head_word x)
    counted = length-words x.values ∙ sym head-count

    -- its values are those that it counts
    pub head-values : take (lower (head_word x)) (values_of x ++ vs) ≡ values_of x
    head-values = take_at (values_of x) vs (lower (head_word x)) counted

    pub head-rest : drop (lower (head_word x)) (values_of x ++ vs) ≡ vs
    head-rest = drop_at (values_of x) vs (lower (head_word x)) counted

    -- and its bytes those that they take
    pub head_bytes : Brief x.values → bytes_taken (upper (head_word x) / 2) (take (lower (head_word x)) (values_of x ++ vs)) ≡ length (bytes_of x)
    head_bytes f = ap₂ (λ (k : ℕ) (ws : List ℕ). bytes_taken k ws) head-kind head-values ∙ taken-spelled x.values f

pub cut-statements : (ss : List Statement) → Each Fair ss → Each Short ss → cut_statements (map head_word ss) (flat name_of ss) (flat values_of ss) (flat bytes_of ss) ≡ ss
unfolding cut_statements flat
cut-statements [] f g = refl
cut-statements (x ∷ ss) f g =
    let k = upper (head_word x) / 2 in
    let ws = take (lower (head_word x)) (values_of x ++ flat values_of ss) in
    let n : unpacked (take NAMEWORDS (name_of x ++ flat name_of ss)) ≡ x.name = unpacked-packed x.name f.0.name in
    let v : cut_values k ws (bytes_of x ++ flat bytes_of ss) ≡ x.values =
    ap₂ (λ (k : ℕ) (ws : List ℕ). cut_values k ws (bytes_of x ++ flat bytes_of ss)) (head-kind x g.0) (head-values x g.0 (flat values_of ss)) ∙ cut-values x.values (flat bytes_of ss) in
    let d : drop (bytes_taken k ws) (bytes_of x ++ flat bytes_of ss) ≡ flat bytes_of ss = drop_at (bytes_of x) (flat bytes_of ss) (bytes_taken k ws) (sym (head_bytes x g.0 (flat values_of ss) (brief-fair x.values f.0.values))) in
    let r : cut_statements (map head_word ss) (flat name_of ss) (drop (lower (head_word x)) (values_of x ++ flat values_of ss)) (drop (bytes_taken k ws) (bytes_of x ++ flat bytes_of ss)) ≡ ss =
    ap₂ (cut_statements (map head_word ss) (flat name_of ss)) (head-rest x g.0 (flat values_of ss)) d ∙ cut-statements ss f.1 g.1 in
    λ i. record { name = n i; operator = head-operator x g.0 i; values = v i } ∷ r i

pub cut-texts : (s : Pool) → Each ShortText s → cut_texts (map text_word s) (program s) ≡ s
unfolding cut_texts program
cut-texts [] g = refl
cut-texts (t ∷ s) g =
    let u : upper (text_word t) ≡ t.label = upper-joined t.label (length t.body) g.0 in
    let l : lower (text_word t) ≡ length t.body = lower-joined t.label (length t.body) g.0 in
    let b : take (lower (text_word t)) (t.body ++ program s) ≡ t.body = take_at t.body (program s) (lower (text_word t)) (sym l) in
    let d : drop (lower (text_word t)) (t.body ++ program s) ≡ program s = drop_at t.body (program s) (lower (text_word t)) (sym l) in
    let r : cut_texts (map text_word s) (drop (lower (text_word t)) (t.body ++ program s)) ≡ s = ap (cut_texts (map text_word s)) d ∙ cut-texts s g.1 in
    λ i. record { label = u i; body = b i } ∷ r i

-- no statement has more values than all have, and no text more statements
pub each-short : (ss : List Statement) → length (flat values_of ss) < HALF → Each Short ss
unfolding flat
each-short [] h = tt
each-short (x ∷ ss) h =
    let l : length (values_of x ++ flat values_of ss) ≡ length (values_of x) + length (flat values_of ss) = length-append (values_of x) (flat values_of ss) in
    (omega (arith, length-words x.values), each-short ss (omega arith))

pub each-short-text : (s : Pool) → length (program s) < HALF → Each ShortText s
unfolding program
each-short-text [] h = tt
each-short-text (t ∷ s) h =
    let l : length (t.body ++ program s) ≡ length t.body + length (program s) = length-append t.body (program s) in
    (omega arith, each-short-text s (omega arith))

-- ---- what is laid out adds up

pub sum-texts : (s : Pool) → Each ShortText s → sum (map text_word s) ≡ length (program s)
unfolding sum program
sum-texts [] g = refl
sum-texts (t ∷ s) g = omega (arith, lower-joined t.label (length t.body) g.0, sum-texts s g.1, length-append t.body (program s))

pub sum-heads : (ss : List Statement) → Each Short ss → sum (map head_word ss) ≡ length (flat values_of ss)
unfolding sum flat
sum-heads [] g = refl
sum-heads (x ∷ ss) g = omega (arith, head-count x g.0, length-words x.values, sum-heads ss g.1, length-append (values_of x) (flat values_of ss))

bytes-brief : (ss : List Statement) → Each (λ x. Brief x.values) ss → Each Short ss → total_bytes (map head_word ss) (flat values_of ss) ≡ length (flat bytes_of ss)
unfolding total_bytes flat
bytes-brief [] f g = refl
bytes-brief (x ∷ ss) f g =
    let r = head-rest x g.0 (flat values_of ss) in
    let e : total_bytes (map head_word ss) (drop (lower (head_word x)) (values_of x ++ flat values_of ss)) ≡ length (flat bytes_of ss) = ap (total_bytes (map head_word ss)) r ∙ bytes-brief ss f.1 g.1 in
    omega (arith, head_bytes x g.0 (flat values_of ss) f.0, e, length-append (bytes_of x) (flat bytes_of ss))

pub bytes-heads : (ss : List Statement) → Each Fair ss → Each Short ss → total_bytes (map head_word ss) (flat values_of ss) ≡ length (flat bytes_of ss)
bytes-heads ss f g = bytes-brief ss (each_weaken Fair (λ x. Brief x.values) (λ x h. brief-fair x.values h.values) ss f) g

-- as well where there are few bytes, and whatever stands behind the values
each-brief : (ss : List Statement) → length (flat bytes_of ss) < HALF → Each (λ x. Brief x.values) ss
unfolding flat
each-brief [] h = tt
each-brief (x ∷ ss) h = let l = length-append (bytes_of x) (flat bytes_of ss) in (brief-few x.values (omega arith), each-brief ss (omega arith))

pub bytes-few : (ss : List Statement) (vs : List ℕ) → Each Short ss → length (flat bytes_of ss) < HALF → total_bytes (map head_word ss) (flat values_of ss ++ vs) ≡ length (flat bytes_of ss)
bytes-few ss vs g h = total-append (map head_word ss) (flat values_of ss) vs (omega (arith, sum-heads ss g)) ∙ bytes-brief ss (each-brief ss h) g

pub length-laid-names : (ss : List Statement) → length (flat name_of ss) ≡ NAMEWORDS * length ss
unfolding flat
length-laid-names [] = refl
length-laid-names (x ∷ ss) = omega (arith, length-append (name_of x) (flat name_of ss), length-laid-names ss)

-- ---- what is laid out is as the damage conditions ask

pub labels-laid : (s : Pool) → Each ShortText s → map upper (map text_word s) ≡ map label_of s
labels-laid [] g = refl
labels-laid (t ∷ s) g = ap₂ (λ (x : ℕ) (y : List ℕ). x ∷ y) (upper-joined t.label (length t.body) g.0) (labels-laid s g.1)

pub named-laid : (ss : List Statement) → Each Fair ss → Named (map head_word ss) (flat name_of ss)
unfolding flat
named-laid [] f = tt
named-laid (x ∷ ss) f = (holds-packed x.name f.0.name, named-laid ss f.1)

pub operators-laid : (ss : List Statement) → Each Short ss → Each (λ h. upper h ≤ 3) (map head_word ss)
operators-laid [] g = tt
operators-laid (x ∷ ss) g = (omega (arith, head-tag x g.0, kind-most x.values, operator-most x.operator), operators-laid ss g.1)

pub counts-laid : (ss : List Statement) → Each Fair ss → Each Short ss → Each (λ h. 1 ≤ lower h) (map head_word ss)
counts-laid [] f g = tt
counts-laid (x ∷ ss) f g = (omega (arith, head-count x g.0, f.0.some), counts-laid ss f.1 g.1)

pub fitting-laid : (ss : List Statement) → Each Fair ss → Each Short ss → Fitting (map head_word ss) (flat values_of ss)
unfolding flat
fitting-laid [] f g = tt
fitting-laid (x ∷ ss) f g = (
  subst (λ (k : ℕ). Each (λ w. fits k w ≡ true) (take (lower (head_word x)) (values_of x ++ flat values_of ss))) (sym (head-kind x g.0))
      (subst (Each (λ w. fits (kind_number x.values) w ≡ true)) (sym (head-values x g.0 (flat values_of ss))) (fits-values x.values f.0.values)),
  subst (Fitting (map head_word ss)) (sym (head-rest x g.0 (flat values_of ss))) (fitting-laid ss f.1 g.1),
)

pub letters-laid : (ss : List Statement) → Each Fair ss → Each (λ b. fair b ≡ true) (flat bytes_of ss)
unfolding flat
letters-laid [] f = tt
letters-laid (x ∷ ss) f = each_append (λ b. fair b ≡ true) (bytes_of x) (flat bytes_of ss) (letters-values x.values f.0.values) (letters-laid ss f.1)

-- ---- cut, then laid out

pub length_cut : (hs ns vs bs : List ℕ) → length (cut_statements hs ns vs bs) ≡ length hs
unfolding cut_statements
length_cut [] ns vs bs = refl
length_cut (h ∷ hs) ns vs bs = ap suc (length_cut hs (drop NAMEWORDS ns) (drop (lower h) vs) (drop (bytes_taken (upper h / 2) (take (lower h) vs)) bs))

pub heads-cut : (hs ns vs bs : List ℕ) → Each (λ h. upper h ≤ 3) hs → sum hs ≤ length vs → map head_word (cut_statements hs ns vs bs) ≡ hs
unfolding cut_statements sum
heads-cut [] ns vs bs f k = refl
heads-cut (h ∷ hs) ns vs bs f k =
    let ws = take (lower h) vs in
    let l : length ws ≡ lower h = length-take-le (lower h) vs (omega arith) in
    let d : length (drop (lower h) vs) ≡ length vs - lower h = length-drop (lower h) vs in
    let t : kind_number (cut_values (upper h / 2) ws bs) * 2 + operator_number (operator_of (upper h % 2)) ≡ upper h =
    omega (arith, kind-cut (upper h / 2) ws bs (omega (arith, f.0)), number-back (upper h % 2) (omega arith)) in
    let e : joined (kind_number (cut_values (upper h / 2) ws bs) * 2 + operator_number (operator_of (upper h % 2))) (how_many (cut_values (upper h / 2) ws bs)) ≡ h =
    ap₂ joined t (many-cut (upper h / 2) ws bs ∙ l) ∙ joined-halves h in
    ap₂ (λ (x : ℕ) (y : List ℕ). x ∷ y) e (heads-cut hs (drop NAMEWORDS ns) (drop (lower h) vs) (drop (bytes_taken (upper h / 2) ws) bs) f.1 (omega arith))

pub values-cut : (hs ns vs bs : List ℕ) → Fitting hs vs → sum hs ≡ length vs → total_bytes hs vs ≤ length bs → flat values_of (cut_statements hs ns vs bs) ≡ vs
unfolding cut_statements sum flat total_bytes
values-cut [] ns [] bs f k b = refl
values-cut [] ns (v ∷ vs) bs f k b = absurd (omega arith)
values-cut (h ∷ hs) ns vs bs f k b =
    let ws = take (lower h) vs in
    let t = bytes_taken (upper h / 2) ws in
    let d : length (drop (lower h) vs) ≡ length vs - lower h = length-drop (lower h) vs in
    ap₂ (λ (x y : List ℕ). x ++ y) (words-cut-values (upper h / 2) ws bs f.0 (omega arith))
    (values-cut hs (drop NAMEWORDS ns) (drop (lower h) vs) (drop t bs) f.1 (omega arith) (omega (arith, length-drop t bs)))
    ∙ take-append-drop (lower h) vs

pub bytes_cut : (hs ns vs bs : List ℕ) → Fitting hs vs → total_bytes hs vs ≡ length bs → flat bytes_of (cut_statements hs ns vs bs) ≡ bs
unfolding cut_statements flat total_bytes
bytes_cut [] ns vs [] f b = refl
bytes_cut [] ns vs (x ∷ bs) f b = absurd (omega arith)
bytes_cut (h ∷ hs) ns vs bs f b =
    let ws = take (lower h) vs in
    let t = bytes_taken (upper h / 2) ws in
    ap₂ (λ (x y : List ℕ). x ++ y) (spelled-cut (upper h / 2) ws bs f.0)
    (bytes_cut hs (drop NAMEWORDS ns) (drop (lower h) vs) (drop t bs) f.1 (omega (arith, length-drop t bs)))
    ∙ take-append-drop t bs

pub names-cut : (hs ns vs bs : List ℕ) → length ns ≡ NAMEWORDS * length hs → Words ns → Named hs ns → flat name_of (cut_statements hs ns vs bs) ≡ ns
unfolding cut_statements flat
names-cut [] [] vs bs k w f = refl
names-cut [] (n ∷ ns) vs bs k w f = absurd (omega arith)
names-cut (h ∷ hs) ns vs bs k w f =
    let d : length (drop NAMEWORDS ns) ≡ length ns - NAMEWORDS = length-drop NAMEWORDS ns in
    let e : packed (unpacked (take NAMEWORDS ns)) ≡ take NAMEWORDS ns =
    packed-unpacked (take NAMEWORDS ns) (length-take-le NAMEWORDS ns (omega arith)) (each_take (λ w. w < WORD) NAMEWORDS ns w) f.0 in
    ap₂ (λ (x y : List ℕ). x ++ y) e
    (names-cut hs (drop NAMEWORDS ns) (drop (lower h) vs) (drop (bytes_taken (upper h / 2) (take (lower h) vs)) bs) (omega arith) (each-drop (λ w. w < WORD) NAMEWORDS ns w) f.1)
    ∙ take-append-drop NAMEWORDS ns

pub words-cut : (ws : List ℕ) (ss : List Statement) → sum ws ≤ length ss → map text_word (cut_texts ws ss) ≡ ws
unfolding cut_texts sum
words-cut [] ss k = refl
words-cut (w ∷ ws) ss k =
    let l : length (take (lower w) ss) ≡ lower w = length-take-le (lower w) ss (omega arith) in
    let d : length (drop (lower w) ss) ≡ length ss - lower w = length-drop (lower w) ss in
    let e : joined (upper w) (length (take (lower w) ss)) ≡ w = ap (joined (upper w)) l ∙ joined-halves w in
    ap₂ (λ (x : ℕ) (y : List ℕ). x ∷ y) e (words-cut ws (drop (lower w) ss) (omega arith))

pub program-cut : (ws : List ℕ) (ss : List Statement) → sum ws ≡ length ss → program (cut_texts ws ss) ≡ ss
unfolding cut_texts sum program
program-cut [] [] k = refl
program-cut [] (x ∷ ss) k = absurd (omega arith)
program-cut (w ∷ ws) ss k =
    let d : length (drop (lower w) ss) ≡ length ss - lower w = length-drop (lower w) ss in
    ap (λ (y : List Statement). take (lower w) ss ++ y) (program-cut ws (drop (lower w) ss) (omega arith)) ∙ take-append-drop (lower w) ss

-- ---- what is cut is fair

pub labels-cut : (ws : List ℕ) (ss : List Statement) → map label_of (cut_texts ws ss) ≡ map upper ws
unfolding cut_texts
labels-cut [] ss = refl
labels-cut (w ∷ ws) ss = ap (λ (l : List ℕ). upper w ∷ l) (labels-cut ws (drop (lower w) ss))

pub fair-cut : (hs ns vs bs : List ℕ) → Named hs ns → Each (λ h. 1 ≤ lower h) hs → sum hs ≤ length vs → Fitting hs vs → Each (λ b. fair b ≡ true) bs → Each Fair (cut_statements hs ns vs bs)
unfolding cut_statements sum
fair-cut [] ns vs bs f g k e b = tt
fair-cut (h ∷ hs) ns vs bs f g k e b =
    let ws = take (lower h) vs in
    let t = bytes_taken (upper h / 2) ws in
    let l : length ws ≡ lower h = length-take-le (lower h) vs (omega arith) in
    let d : length (drop (lower h) vs) ≡ length vs - lower h = length-drop (lower h) vs in
    let n : length (take NAMEWORDS ns) ≤ NAMEWORDS = omega (arith, length-take NAMEWORDS ns) in (
      record { name = legal-unpacked (take NAMEWORDS ns) n f.0; some = omega (arith, many-cut (upper h / 2) ws bs, g.0); values = fair-cut-values (upper h / 2) ws bs e.0 b },
      fair-cut hs (drop NAMEWORDS ns) (drop (lower h) vs) (drop t bs) f.1 g.1 (omega arith) e.1 (each-drop (λ b. fair b ≡ true) t bs b),
    )

pub bounded-cut : (hs ns vs bs : List ℕ) → Words vs → Each (λ x. Words (words_of x.values)) (cut_statements hs ns vs bs)
unfolding cut_statements
bounded-cut [] ns vs bs f = tt
bounded-cut (h ∷ hs) ns vs bs f =
    let ws = take (lower h) vs in (
      bounded-cut-values (upper h / 2) ws bs (each_take (λ w. w < WORD) (lower h) vs f),
      bounded-cut hs (drop NAMEWORDS ns) (drop (lower h) vs) (drop (bytes_taken (upper h / 2) ws) bs) (each-drop (λ w. w < WORD) (lower h) vs f),
    )

pub bounded-labels : (ws : List ℕ) (ss : List Statement) → Words ws → Each (λ t. t.label < HALF) (cut_texts ws ss)
unfolding cut_texts
bounded-labels [] ss f = tt
bounded-labels (w ∷ ws) ss f = (omega (arith, f.0), bounded-labels ws (drop (lower w) ss) f.1)
