-- Events written one after the other leave what their statements leave that are laid out in the columns at once, with the bytes of
-- their strings before them. Assumes nothing.
use Prim.Native.Nat.{ℕ, suc, ◌+◌, ◌*◌, ◌-◌, ◌≤◌}
use native.Mathlib.Nat.{add-zero}
use native.Mathlib.Omega.{arith}
use mathlib.Core.Path.{◌≡◌, refl, sym, ap, ◌∙◌}
use mathlib.Core.List.{List, [], ◌∷◌, ◌++◌, map, append_assoc, append-nil}
use lib.ListN.{length}
use Rattle.value.specs.Value.{Value, number, string}
use Rattle.statement.specs.Statements.{Event, opened, value, Statement, Gathered, gathered, statements, givings}
use Rattle.statement.specs.declared.head.Operator.{Operator}
use Rattle.words.specs.Over.{over}
use Rattle.words.proofs.Over.{over-nil, over-append, over-comm, over-again, length_over}
use Rattle.octets.proofs.Bytes.{Bytes}
use Rattle.names.specs.Names.{NAMEWORDS, packed}
use Rattle.layout.specs.State.{flat, values_of, bytes_of}
use Rattle.layout.specs.Limits.{WORDS, BYTES_AT}
use Rattle.layout.specs.Memory.{head_word, name_of}
use Rattle.layout.proofs.Codec.{length-laid-names}
use Rattle.layout.proofs.Holds.{inked_at, length-laid-heads}
use Rattle.page.specs.Writing.{Page, page, bare_head, opened_on, stored_all, told_on, given_on, written_on}
use Rattle.page.specs.declared.pen.Pen.{Pen}
use Rattle.pool.proofs.Inking.{ink-length, ink-over, ink-append}
use Rattle.loading.proofs.Kept.{word_in, letters_in, told_head, head_after, statement_of, Keeps, keeps, Whole}

abbrev heads : List Statement → List ℕ
heads ss = flat (λ x. head_word x ∷ []) ss

-- statements laid out where the pen stands
abbrev pub laid_on : List Statement → Page → List ℕ
laid_on ss p =
    over p.pen.values (flat values_of ss)
    (over p.pen.names (flat name_of ss)
    (over p.pen.heads (flat (λ x. head_word x ∷ []) ss) (inked_at p.pen.bytes (flat bytes_of ss) p.memory)))

-- the areas are long enough for n statements and k values more
pub record Apart (pen : Pen) (n k : ℕ) : Type 0 where
  pub some : 1 ≤ pen.heads
  pub heads : pen.heads + n ≤ pen.names
  pub names : pen.names + NAMEWORDS * n ≤ pen.values
  pub values : pen.values + k ≤ BYTES_AT

-- the memory has its size, and writing no bytes leaves it
pub record Even (p : Page) : Type 0 where
  pub long : length p.memory ≡ WORDS
  pub still : inked_at p.pen.bytes [] p.memory ≡ p.memory

-- the head of the statement opened last stands in the memory
record Begun (p : Page) : Type 0 where
  stands : over (p.pen.heads - 1) (p.pen.head ∷ []) p.memory ≡ p.memory

-- values for the statement opened last, and then statements
abbrev pub behind : Gathered → Page → List ℕ
behind g p =
    over p.pen.values (map word_in g.loose ++ flat values_of g.statements)
    (over p.pen.names (flat name_of g.statements)
    (over p.pen.heads (heads g.statements)
    (over (p.pen.heads - 1) (head_after p.pen.head g.loose ∷ [])
    (inked_at p.pen.bytes (flat letters_in g.loose ++ flat bytes_of g.statements) p.memory))))

-- ---- words written in two orders

-- a head, a name and a statement's words behind them
over-opened : (h n : ℕ) (w bare : ℕ) (ns hs rest m : List ℕ) → h + suc (length hs) ≤ n
    → over (n + length ns) rest (over (h + 1) hs (over (h + 1 - 1) (w ∷ []) (over h (bare ∷ []) (over n ns m)))) ≡ over n (ns ++ rest) (over h (w ∷ hs) m)
over-opened h n w bare ns hs rest m a =
    let z : h + 1 - 1 ≡ h = omega arith in
    let x = over h (w ∷ []) m in
    let b : over (h + 1 - 1) (w ∷ []) (over h (bare ∷ []) (over n ns m)) ≡ over n ns x =
    rw z (over-again h (bare ∷ []) (w ∷ []) (over n ns m) refl) ∙ sym (over-comm h (w ∷ []) n ns m (omega arith)) in
    let c : over (h + 1) hs (over n ns x) ≡ over n ns (over h (w ∷ hs) m) =
    sym (over-comm (h + 1) hs n ns x (omega arith)) ∙ ap (over n ns) (sym (over-append h (w ∷ []) hs m)) in
    ap (over (n + length ns) rest) (ap (over (h + 1) hs) b ∙ c) ∙ sym (over-append n ns rest (over h (w ∷ hs) m))

-- a value's word, and the head that counts it
over-given : (h n v : ℕ) (w told last : ℕ) (hs ns rest m : List ℕ) → 1 ≤ h → h + length hs ≤ n → n + length ns ≤ v
    → over (v + 1) rest (over n ns (over h hs (over (h - 1) (last ∷ []) (over (h - 1) (told ∷ []) (over v (w ∷ []) m)))))
    ≡ over v (w ∷ rest) (over n ns (over h hs (over (h - 1) (last ∷ []) m)))
over-given h n v w told last hs ns rest m s a b =
    let x = over (h - 1) (last ∷ []) m in
    let y = over h hs x in
    let c : over (h - 1) (last ∷ []) (over (h - 1) (told ∷ []) (over v (w ∷ []) m)) ≡ over v (w ∷ []) x =
    over-again (h - 1) (told ∷ []) (last ∷ []) (over v (w ∷ []) m) refl ∙ sym (over-comm (h - 1) (last ∷ []) v (w ∷ []) m (omega arith)) in
    let d : over h hs (over v (w ∷ []) x) ≡ over v (w ∷ []) y = sym (over-comm h hs v (w ∷ []) x (omega arith)) in
    let e : over n ns (over v (w ∷ []) y) ≡ over v (w ∷ []) (over n ns y) = sym (over-comm n ns v (w ∷ []) y b) in
    ap (over (v + 1) rest) (ap (over n ns) (ap (over h hs) c ∙ d) ∙ e) ∙ sym (over-append v (w ∷ []) rest (over n ns y))

-- ---- a statement is opened

module _ (name : List ℕ) (o : Operator) (p : Page) (q : Even p) (n k : ℕ) (a : Apart p.pen (suc n) k) where
  -- bytes may be written before it
  ink-opened : (at : ℕ) (bs : List ℕ) → inked_at at bs (opened_on name o p).memory ≡ (opened_on name o (page (inked_at at bs p.memory) p.pen)).memory
  unfolding opened_on
  ink-opened at bs =
      let h = p.pen.heads in
      let i = p.pen.names in
      let m = p.memory in
      ink-over at bs (over i (packed name) m) (length_over i (packed name) m ∙ q.long) h (bare_head o ∷ []) (omega (arith, a.heads, a.names, a.values))
      ∙ ap (over h (bare_head o ∷ [])) (ink-over at bs m q.long i (packed name) (omega (arith, a.names, a.values)))

  even-opened : Even (opened_on name o p)
  unfolding opened_on
  even-opened = record {
    long = length_over p.pen.heads (bare_head o ∷ []) (over p.pen.names (packed name) p.memory) ∙ length_over p.pen.names (packed name) p.memory ∙ q.long;
    still = ink-opened p.pen.bytes [] ∙ ap (λ (m : List ℕ). (opened_on name o (page m p.pen)).memory) q.still;
  }

  begun_opened : Begun (opened_on name o p)
  unfolding opened_on
  begun_opened =
      let z : p.pen.heads + 1 - 1 ≡ p.pen.heads = omega arith in
      record { stands = rw z (over-again p.pen.heads (bare_head o ∷ []) (bare_head o ∷ []) (over p.pen.names (packed name) p.memory) refl) }

  apart-opened : Apart (opened_on name o p).pen n k
  unfolding opened_on
  apart-opened = record { some = omega arith; heads = omega (arith, a.heads); names = omega (arith, a.names); values = a.values }

-- with what follows it
behind-opened : (name : List ℕ) (o : Operator) (p : Page) (g : Gathered) → Even p → (k : ℕ) → Apart p.pen (suc (length g.statements)) k → Keeps g.loose
    → behind g (opened_on name o p) ≡ laid_on (statement_of name o g.loose ∷ g.statements) p
unfolding opened_on flat
behind-opened name o p g q k a s =
    let ss = g.statements in
    let at = p.pen.bytes in
    let v = p.pen.values in
    let bs = flat letters_in g.loose ++ flat bytes_of ss in
    let w = head_after (bare_head o) g.loose in
    let vs = map word_in g.loose ++ flat values_of ss in
    ap (λ (m : List ℕ). over v vs (over (p.pen.names + NAMEWORDS) (flat name_of ss) (over (p.pen.heads + 1) (heads ss) (over (p.pen.heads + 1 - 1) (w ∷ []) m))))
    (ink-opened name o p q (length ss) k a at bs)
    ∙ ap (over v vs)
    (over-opened p.pen.heads p.pen.names w (bare_head o) (packed name) (heads ss) (flat name_of ss) (inked_at at bs p.memory) (omega (arith, length-laid-heads ss, a.heads)))
    ∙ (λ i. over v (s.words i ++ flat values_of ss)
    (over p.pen.names (packed name ++ flat name_of ss) (over p.pen.heads (s.head name o i ∷ heads ss) (inked_at at (s.letters i ++ flat bytes_of ss) p.memory))))

-- ---- a value is given

-- the page after it, whatever its kind
abbrev valued : Value → Page → Page
valued v p =
    page
    (over (p.pen.heads - 1) (told_head v p.pen.head ∷ []) (over p.pen.values (word_in v ∷ []) (inked_at p.pen.bytes (letters_in v) p.memory)))
    (record {
      heads = p.pen.heads;
      names = p.pen.names;
      values = p.pen.values + 1;
      bytes = p.pen.bytes + length (letters_in v);
      head = told_head v p.pen.head;
    })

given-valued : (v : Value) (p : Page) → Even p → given_on (v ∷ []) p ≡ valued v p
unfolding told_on stored_all
given-valued (number x) p q =
    let v = number x in
    λ i. page (over (p.pen.heads - 1) (told_head v p.pen.head ∷ []) (over p.pen.values (word_in v ∷ []) (sym q.still i)))
    (record { heads = p.pen.heads; names = p.pen.names; values = p.pen.values + 1; bytes = sym (add-zero p.pen.bytes) i; head = told_head v p.pen.head })
given-valued (string s) p q = refl

module _ (v : Value) (b : Bytes (letters_in v)) (p : Page) (q : Even p) (n k : ℕ) (a : Apart p.pen n (k + 1)) where
  -- bytes may be written with its own
  ink-valued : (bs : List ℕ)
      → inked_at (p.pen.bytes + length (letters_in v)) bs (valued v p).memory
      ≡ over (p.pen.heads - 1) (told_head v p.pen.head ∷ []) (over p.pen.values (word_in v ∷ []) (inked_at p.pen.bytes (letters_in v ++ bs) p.memory))
  ink-valued bs =
      let at = p.pen.bytes + length (letters_in v) in
      let i = p.pen.values in
      let m = inked_at p.pen.bytes (letters_in v) p.memory in
      let l = ink-length p.pen.bytes (letters_in v) p.memory q.long in
      ink-over at bs (over i (word_in v ∷ []) m) (length_over i (word_in v ∷ []) m ∙ l) (p.pen.heads - 1) (told_head v p.pen.head ∷ []) (omega (arith, a.some, a.heads, a.names, a.values))
      ∙ ap (over (p.pen.heads - 1) (told_head v p.pen.head ∷ []))
      (ink-over at bs m l i (word_in v ∷ []) (omega (arith, a.values)) ∙ ap (over i (word_in v ∷ [])) (ink-append p.pen.bytes (letters_in v) p.memory q.long bs b))

  even-valued : Even (valued v p)
  even-valued =
      let i = p.pen.values in
      let m = inked_at p.pen.bytes (letters_in v) p.memory in
      record {
        long = length_over (p.pen.heads - 1) (told_head v p.pen.head ∷ []) (over i (word_in v ∷ []) m) ∙ length_over i (word_in v ∷ []) m ∙ ink-length p.pen.bytes (letters_in v) p.memory q.long;
        still = ink-valued [] ∙ ap (λ (bs : List ℕ). over (p.pen.heads - 1) (told_head v p.pen.head ∷ []) (over i (word_in v ∷ []) (inked_at p.pen.bytes bs p.memory))) (append-nil (letters_in v));
      }

  begun-valued : Begun (valued v p)
  begun-valued =
      let m = over p.pen.values (word_in v ∷ []) (inked_at p.pen.bytes (letters_in v) p.memory) in
      record { stands = over-again (p.pen.heads - 1) (told_head v p.pen.head ∷ []) (told_head v p.pen.head ∷ []) m refl }

  apart-valued : Apart (valued v p).pen n k
  apart-valued = record { some = a.some; heads = a.heads; names = omega (arith, a.names); values = omega (arith, a.values) }

-- with what follows it
behind-valued : (v : Value) (p : Page) (g : Gathered) → Bytes (letters_in v) → Even p → (k : ℕ) → Apart p.pen (length g.statements) (k + 1)
    → behind g (valued v p) ≡ behind (record { loose = v ∷ g.loose; statements = g.statements }) p
unfolding flat
behind-valued v p g b q k a =
    let ss = g.statements in
    let rest = map word_in g.loose ++ flat values_of ss in
    let w = head_after (told_head v p.pen.head) g.loose in
    let bs = flat letters_in g.loose ++ flat bytes_of ss in
    ap (λ (m : List ℕ). over (p.pen.values + 1) rest (over p.pen.names (flat name_of ss) (over p.pen.heads (heads ss) (over (p.pen.heads - 1) (w ∷ []) m))))
    (ink-valued v b p q (length ss) k a bs)
    ∙ over-given p.pen.heads p.pen.names p.pen.values (word_in v) (told_head v p.pen.head) w (heads ss) (flat name_of ss) rest (inked_at p.pen.bytes (letters_in v ++ bs) p.memory)
    a.some (omega (arith, length-laid-heads ss, a.heads)) (omega (arith, length-laid-names ss, a.names))
    ∙ ap (λ (l : List ℕ). over p.pen.values (word_in v ∷ rest) (over p.pen.names (flat name_of ss) (over p.pen.heads (heads ss) (over (p.pen.heads - 1) (w ∷ []) (inked_at p.pen.bytes l p.memory)))))
    (sym (append_assoc (letters_in v) (flat letters_in g.loose) (flat bytes_of ss)))

-- ---- all events

-- what holds of the events after a value holds with it, whether or not the head of the statement opened last stands
value_written : (v : Value) (es : List Event)
    → ((p : Page) → Whole es → Even p → Begun p → Apart p.pen (length (statements es)) (givings es) → (written_on es p).memory ≡ behind (gathered es) p)
    → (p : Page) → Whole (value v ∷ es) → Even p → Apart p.pen (length (statements es)) (givings es + 1) → (written_on (value v ∷ es) p).memory ≡ behind (gathered (value v ∷ es)) p
unfolding written_on flat
value_written v es f p w q a =
    let l = length (statements es) in
    let k = givings es in
    ap (λ (x : Page). (written_on es x).memory) (given-valued v p q)
    ∙ f (valued v p) w.1 (even-valued v w.0 p q l k a) (begun-valued v w.0 p q l k a) (apart-valued v w.0 p q l k a)
    ∙ behind-valued v p (gathered es) w.0 q k a

begun-written : (es : List Event) (p : Page) → Whole es → Even p → Begun p → Apart p.pen (length (statements es)) (givings es) → (written_on es p).memory ≡ behind (gathered es) p
unfolding written_on flat
begun-written [] p w q s a =
    let x = over (p.pen.heads - 1) (p.pen.head ∷ []) (inked_at p.pen.bytes [] p.memory) in
    sym
    (over-nil p.pen.values (over p.pen.names [] (over p.pen.heads [] x))
    ∙ over-nil p.pen.names (over p.pen.heads [] x)
    ∙ over-nil p.pen.heads x
    ∙ ap (over (p.pen.heads - 1) (p.pen.head ∷ [])) q.still
    ∙ s.stands)
begun-written (opened n o ∷ es) p w q s a =
    let g = gathered es in
    let ss : List Statement = statement_of n o g.loose ∷ g.statements in
    let l = length g.statements in
    let k = givings es in
    begun-written es (opened_on n o p) w.1 (even-opened n o p q l k a) (begun_opened n o p q l k a) (apart-opened n o p q l k a)
    ∙ behind-opened n o p g q k a (keeps g.loose w.0)
    ∙ ap (λ (m : List ℕ). over p.pen.values (flat values_of ss) (over p.pen.names (flat name_of ss) (over p.pen.heads (heads ss) m)))
    (ap (inked_at p.pen.bytes (flat bytes_of ss)) (sym s.stands)
    ∙ ink-over p.pen.bytes (flat bytes_of ss) p.memory q.long (p.pen.heads - 1) (p.pen.head ∷ []) (omega (arith, a.some, a.heads, a.names, a.values)))
begun-written (value v ∷ es) p w q s a = value_written v es (begun-written es) p w q a

pub given-written : (v : Value) (es : List Event) (p : Page) → Whole (value v ∷ es) → Even p → Apart p.pen (length (statements es)) (givings es + 1)
    → (written_on (value v ∷ es) p).memory ≡ behind (gathered (value v ∷ es)) p
given-written v es p w q a = value_written v es (begun-written es) p w q a

-- events that open a statement before any value
pub all-written : (es : List Event) (p : Page) → (gathered es).loose ≡ [] → Whole es → Even p → Apart p.pen (length (statements es)) (givings es)
    → (written_on es p).memory ≡ laid_on (statements es) p
unfolding written_on flat
all-written [] p e w q a =
    let x = inked_at p.pen.bytes [] p.memory in
    sym (over-nil p.pen.values (over p.pen.names [] (over p.pen.heads [] x)) ∙ over-nil p.pen.names (over p.pen.heads [] x) ∙ over-nil p.pen.heads x ∙ q.still)
all-written (opened n o ∷ es) p e w q a =
    let g = gathered es in
    let l = length g.statements in
    let k = givings es in
    begun-written es (opened_on n o p) w.1 (even-opened n o p q l k a) (begun_opened n o p q l k a) (apart-opened n o p q l k a)
    ∙ behind-opened n o p g q k a (keeps g.loose w.0)
all-written (value v ∷ es) p e w q a = let z : ◌≡◌ {A = ℕ} 0 1 = cc in absurd (omega arith)
