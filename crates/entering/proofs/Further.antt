-- Statements laid one after the other are laid at once, and the last of them goes on where it stands: its words are in each column behind those of
-- the statements before it. Assumes nothing.
use Prim.Native.Nat.{ℕ, zero, suc, ◌+◌, ◌*◌, ◌-◌, ◌≤◌}
use native.Mathlib.Omega.{arith}
use mathlib.Core.Path.{◌≡◌, refl, sym, ap, ◌∙◌}
use mathlib.Core.List.{List, [], ◌∷◌, ◌++◌, append-nil}
use lib.ListN.{length, length-append}
use Rattle.statement.specs.Statements.{Statement}
use Rattle.words.specs.Over.{over}
use Rattle.words.proofs.Over.{over-append, over-comm, over-again, length_over}
use Rattle.octets.proofs.Bytes.{Bytes}
use Rattle.names.specs.Names.{NAMEWORDS, packed}
use Rattle.layout.specs.Limits.{WORDS, STATEMENTS, VALUES, HEADS_AT, NAMES_AT, VALUES_AT, BYTES_AT}
use Rattle.layout.specs.State.{Pool, program, flat, values_of, bytes_of, values, string_bytes}
use Rattle.layout.specs.Memory.{head_word, name_of, laid_behind}
use Rattle.layout.proofs.Codec.{length-laid-names}
use Rattle.layout.proofs.Columns.{flat_append, flat_map, flat-one}
use Rattle.layout.proofs.Holds.{inked_at, length-laid-heads}
use Rattle.page.specs.Writing.{page, pen_behind}
use Rattle.page.specs.declared.pen.Pen.{Pen}
use Rattle.pool.proofs.Inking.{ink-over, ink-append, ink-length}
use Rattle.loading.proofs.Laid.{laid_on}

-- ---- words written in three columns, and bytes before them

module _ (h n v : ℕ) (hs ns vs : List ℕ) where
  abbrev pub in_three : List ℕ → List ℕ
  in_three m = over v vs (over n ns (over h hs m))

  pub length_three : (m : List ℕ) → length (in_three m) ≡ length m
  length_three m = length_over v vs (over n ns (over h hs m)) ∙ length_over n ns (over h hs m) ∙ length_over h hs m

  -- bytes may be written before them
  pub ink-three : (at : ℕ) (bs m : List ℕ) → length m ≡ WORDS → h + length hs ≤ n → n + length ns ≤ v → v + length vs ≤ BYTES_AT
      → inked_at at bs (in_three m) ≡ in_three (inked_at at bs m)
  ink-three at bs m e a b c =
      let x = over h hs m in
      let y = over n ns x in
      let l = length_over h hs m ∙ e in
      ink-over at bs y (length_over n ns x ∙ l) v vs c
      ∙ ap (over v vs) (ink-over at bs x l n ns (omega arith) ∙ ap (over n ns) (ink-over at bs m e h hs (omega arith)))

-- one list behind another in each
three-append : (h n v : ℕ) (hs hs' ns ns' vs vs' m : List ℕ) → h + length hs + length hs' ≤ n → n + length ns + length ns' ≤ v
    → in_three (h + length hs) (n + length ns) (v + length vs) hs' ns' vs' (in_three h n v hs ns vs m) ≡ in_three h n v (hs ++ hs') (ns ++ ns') (vs ++ vs') m
three-append h n v hs hs' ns ns' vs vs' m a b =
    let x = over h hs m in
    let y = over h (hs ++ hs') m in
    let c : over (h + length hs) hs' (over v vs (over n ns x)) ≡ over v vs (over n ns y) =
    sym (over-comm (h + length hs) hs' v vs (over n ns x) (omega arith))
    ∙ ap (over v vs) (sym (over-comm (h + length hs) hs' n ns x (omega arith)) ∙ ap (over n ns) (sym (over-append h hs hs' m))) in
    let d : over (n + length ns) ns' (over v vs (over n ns y)) ≡ over v vs (over n (ns ++ ns') y) =
    sym (over-comm (n + length ns) ns' v vs (over n ns y) (omega arith)) ∙ ap (over v vs) (sym (over-append n ns ns' y)) in
    ap (over (v + length vs) vs') (ap (over (n + length ns) ns') c ∙ d) ∙ sym (over-append v vs vs' (over n (ns ++ ns') y))

-- what was written there before is gone where no more of it was
over-longer : (a : ℕ) (xs ys m : List ℕ) → length xs ≤ length ys → over a ys (over a xs m) ≡ over a ys m
unfolding over
over-longer a xs ys [] h = refl
over-longer zero [] ys (y ∷ m) h = refl
over-longer zero (x ∷ xs) [] (y ∷ m) h = absurd (omega arith)
over-longer zero (x ∷ xs) (z ∷ ys) (y ∷ m) h = ap (λ (l : List ℕ). z ∷ l) (over-longer zero xs ys m (omega arith))
over-longer (suc a) xs ys (y ∷ m) h = ap (λ (l : List ℕ). y ∷ l) (over-longer a xs ys m h)

-- the first column's one word is written again, and the last column goes on behind some of its words
three-on : (h n v : ℕ) (w w' : ℕ) (ns keep place ws m : List ℕ) → h + 1 ≤ n → n + length ns ≤ v → length place ≤ length ws
    → over (v + length keep) ws (over h (w' ∷ []) (in_three h n v (w ∷ []) ns (keep ++ place) m)) ≡ in_three h n v (w' ∷ []) ns (keep ++ ws) m
three-on h n v w w' ns keep place ws m a b c =
    let x = over h (w ∷ []) m in
    let y = over n ns (over h (w' ∷ []) m) in
    let d : over h (w' ∷ []) (over v (keep ++ place) (over n ns x)) ≡ over v (keep ++ place) y =
    sym (over-comm h (w' ∷ []) v (keep ++ place) (over n ns x) (omega arith))
    ∙ ap (over v (keep ++ place)) (sym (over-comm h (w' ∷ []) n ns x a) ∙ ap (over n ns) (over-again h (w ∷ []) (w' ∷ []) m refl)) in
    ap (over (v + length keep) ws) (d ∙ over-append v keep place y) ∙ over-longer (v + length keep) place ws (over v keep y) c ∙ sym (over-append v keep ws y)

-- ---- statements behind those of a pool

abbrev pub heads : List Statement → List ℕ
heads ss = flat (λ x. head_word x ∷ []) ss

-- a pen behind the statements of a pool and some more
pub record Behind (s : Pool) (ss : List Statement) (pen : Pen) : Type 0 where
  pub heads : pen.heads ≡ HEADS_AT + (length (program s) + length ss)
  pub names : pen.names ≡ NAMES_AT + NAMEWORDS * (length (program s) + length ss)
  pub values : pen.values ≡ VALUES_AT + (length (values s) + length (flat values_of ss))
  pub bytes : pen.bytes ≡ length (string_bytes s) + length (flat bytes_of ss)

-- the columns have room for both
pub record Room (s : Pool) (ss : List Statement) : Type 0 where
  pub statements : length (program s) + length ss ≤ STATEMENTS
  pub values : length (values s) + length (flat values_of ss) ≤ VALUES

module _ (s : Pool) (m : List ℕ) where
  -- the pen behind the pool's own
  abbrev pub pen₀ : Pen
  pen₀ = pen_behind (length (program s)) (length (values s)) (length (string_bytes s))

  pub laid-behind : (ss : List Statement) → laid_behind s ss m ≡ laid_on ss (page m pen₀)
  unfolding laid_behind
  laid-behind ss = rw (sym (flat_map head_word ss))

  -- some statements, and others behind them
  pub laid-further : (xs ys : List Statement) (pen : Pen) → length m ≡ WORDS → Room s (xs ++ ys) → Bytes (flat bytes_of xs) → Behind s xs pen
      → laid_on ys (page (laid_behind s xs m) pen) ≡ laid_behind s (xs ++ ys) m
  laid-further xs ys pen e r f b =
      let h = pen₀.heads in
      let n = pen₀.names in
      let v = pen₀.values in
      let at = pen₀.bytes in
      let hx = heads xs in
      let nx = flat name_of xs in
      let vx = flat values_of xs in
      let bx = flat bytes_of xs in
      let hy = heads ys in
      let ny = flat name_of ys in
      let vy = flat values_of ys in
      let by = flat bytes_of ys in
      let lh = length-laid-heads xs in
      let lh' = length-laid-heads ys in
      let ln = length-laid-names xs in
      let ln' = length-laid-names ys in
      let la = length-append xs ys in
      let lv : length (flat values_of (xs ++ ys)) ≡ length vx + length vy = ap length (flat_append values_of xs ys) ∙ length-append vx vy in
      let qh : pen.heads ≡ h + length hx = omega (arith, b.heads) in
      let qn : pen.names ≡ n + length nx = omega (arith, b.names) in
      let qv : pen.values ≡ v + length vx = omega (arith, b.values) in
      let ah : h + length hx + length hy ≤ n = omega (arith, r.statements) in
      let an : n + length nx + length ny ≤ v = omega (arith, r.statements) in
      let av : v + length vx + length vy ≤ BYTES_AT = omega (arith, r.values) in
      (λ i. in_three (qh i) (qn i) (qv i) hy ny vy (inked_at (b.bytes i) by (laid-behind xs i)))
      ∙ ap (in_three (h + length hx) (n + length nx) (v + length vx) hy ny vy)
      (ink-three h n v hx nx vx (at + length bx) by (inked_at at bx m) (ink-length at bx m e) (omega arith) (omega arith) (omega arith)
      ∙ ap (in_three h n v hx nx vx) (ink-append at bx m e by f))
      ∙ three-append h n v hx hy nx ny vx vy (inked_at at (bx ++ by) m) ah an
      ∙ sym (λ i. in_three h n v (flat_append (λ x. head_word x ∷ []) xs ys i) (flat_append name_of xs ys i) (flat_append values_of xs ys i) (inked_at at (flat_append bytes_of xs ys i) m))
      ∙ sym (laid-behind (xs ++ ys))

  pub length-laid : (ss : List Statement) → length m ≡ WORDS → length (laid_behind s ss m) ≡ WORDS
  length-laid ss e =
      let at = pen₀.bytes in
      let bs = flat bytes_of ss in
      ap length (laid-behind ss)
      ∙ length_three pen₀.heads pen₀.names pen₀.values (heads ss) (flat name_of ss) (flat values_of ss) (inked_at at bs m) ∙ ink-length at bs m e

  -- one statement
  laid_one : (x : Statement) (k : List ℕ) (pen : Pen)
      → laid_on (x ∷ []) (page k pen) ≡ in_three pen.heads pen.names pen.values (head_word x ∷ []) (name_of x) (values_of x) (inked_at pen.bytes (bytes_of x) k)
  unfolding flat
  laid_one x k pen =
      λ i. in_three pen.heads pen.names pen.values (head_word x ∷ []) (append-nil (name_of x) i) (append-nil (values_of x) i) (inked_at pen.bytes (append-nil (bytes_of x) i) k)

-- how many values there are with one statement more
pub length_last : (f : Statement → List ℕ) (ss : List Statement) (x : Statement) → length (flat f (ss ++ (x ∷ []))) ≡ length (flat f ss) + length (f x)
length_last f ss x =
    ap length (flat_append f ss (x ∷ [])) ∙ length-append (flat f ss) (flat f (x ∷ [])) ∙ ap (λ (l : List ℕ). length (flat f ss) + length l) (flat-one f x)

-- x is to be y: its name stays, some of its values' words stay and others come behind them, and bytes come behind its own
pub record Goes (x y : Statement) (keep ws bs : List ℕ) : Type 0 where
  pub place : List ℕ
  pub stood : values_of x ≡ keep ++ place
  pub few : length place ≤ length ws
  pub name : x.name ≡ y.name
  pub words : values_of y ≡ keep ++ ws
  pub letters : bytes_of y ≡ bytes_of x ++ bs

-- a pen where it goes on
pub record Within (s : Pool) (ss : List Statement) (x : Statement) (keep : List ℕ) (pen : Pen) : Type 0 where
  pub heads : pen.heads ≡ HEADS_AT + (length (program s) + length ss) + 1
  pub names : pen.names ≡ NAMES_AT + NAMEWORDS * (length (program s) + length ss + 1)
  pub values : pen.values ≡ VALUES_AT + (length (values s) + length (flat values_of ss)) + length keep
  pub bytes : pen.bytes ≡ length (string_bytes s) + length (flat bytes_of ss) + length (bytes_of x)

module _ (s : Pool) (m : List ℕ) (e : length m ≡ WORDS) (ss : List Statement) (x y : Statement) where
  -- the pen before the last statement
  abbrev pen₁ : Pen
  pen₁ = pen_behind (length (program s) + length ss) (length (values s) + length (flat values_of ss)) (length (string_bytes s) + length (flat bytes_of ss))

  laid-last : (z : Statement) → Room s (ss ++ (z ∷ [])) → Bytes (flat bytes_of ss)
      → in_three pen₁.heads pen₁.names pen₁.values (head_word z ∷ []) (name_of z) (values_of z) (inked_at pen₁.bytes (bytes_of z) (laid_behind s ss m))
      ≡ laid_behind s (ss ++ (z ∷ [])) m
  laid-last z r f =
      sym (laid_one s m z (laid_behind s ss m) pen₁)
      ∙ laid-further s m ss (z ∷ []) pen₁ e r f (record { heads = refl; names = refl; values = refl; bytes = refl })

  pub last-further : (keep ws bs : List ℕ) (pen : Pen) → Goes x y keep ws bs → Within s ss x keep pen → Room s (ss ++ (x ∷ [])) → Room s (ss ++ (y ∷ []))
      → Bytes (flat bytes_of ss) → Bytes (bytes_of x) → laid_behind s (ss ++ (x ∷ [])) m ≡ m
      → over pen.values ws (over (pen.heads - 1) (head_word y ∷ []) (inked_at pen.bytes bs m)) ≡ laid_behind s (ss ++ (y ∷ [])) m
  last-further keep ws bs pen g b rx ry f fx stands =
      let h = pen₁.heads in
      let n = pen₁.names in
      let v = pen₁.values in
      let at = pen₁.bytes in
      let k = laid_behind s ss m in
      let la = length-append ss (x ∷ []) in
      let lv = length_last values_of ss x in
      let lk : length k ≡ WORDS = length-laid s m ss e in
      let sx : m ≡ in_three h n v (head_word x ∷ []) (name_of x) (keep ++ g.place) (inked_at at (bytes_of x) k) =
      sym (laid-last x rx f ∙ stands) ∙ (λ i. in_three h n v (head_word x ∷ []) (name_of x) (g.stood i) (inked_at at (bytes_of x) k)) in
      let ink : inked_at (at + length (bytes_of x)) bs m ≡ in_three h n v (head_word x ∷ []) (name_of x) (keep ++ g.place) (inked_at at (bytes_of x ++ bs) k) =
      ap (inked_at (at + length (bytes_of x)) bs) sx
      ∙ ink-three h n v (head_word x ∷ []) (name_of x) (keep ++ g.place) (at + length (bytes_of x)) bs (inked_at at (bytes_of x) k) (ink-length at (bytes_of x) k lk)
      (omega (arith, rx.statements)) (omega (arith, rx.statements)) (omega (arith, rx.values, ap length g.stood))
      ∙ ap (in_three h n v (head_word x ∷ []) (name_of x) (keep ++ g.place)) (ink-append at (bytes_of x) k lk bs fx) in
      let bh : pen.heads - 1 ≡ h = omega (arith, b.heads) in
      (λ i. over (b.values i) ws (over (bh i) (head_word y ∷ []) (inked_at (b.bytes i) bs m)))
      ∙ ap (λ (l : List ℕ). over (v + length keep) ws (over h (head_word y ∷ []) l)) ink
      ∙ three-on h n v (head_word x) (head_word y) (name_of x) keep g.place ws (inked_at at (bytes_of x ++ bs) k) (omega (arith, rx.statements)) (omega (arith, rx.statements)) g.few
      ∙ (λ i. in_three h n v (head_word y ∷ []) (packed (g.name i)) (sym g.words i) (inked_at at (sym g.letters i) k))
      ∙ laid-last y ry f
