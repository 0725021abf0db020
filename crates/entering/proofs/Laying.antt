-- What is laid behind what a memory holds leaves all that is before it, and is read back: so the pool is the same, the text has the statements that
-- were laid, and laying them again changes nothing. Assumes nothing.
use Prim.Native.Nat.{ℕ, ◌+◌, ◌*◌, ◌≤◌, ◌<◌}
use native.Mathlib.Omega.{arith}
use mathlib.Core.Path.{◌≡◌, refl, sym, ap, ◌∙◌}
use mathlib.Core.Bool.{Bool, false, ◌&&◌}
use mathlib.Core.List.{List, [], map}
use lib.Dec.{eqb, leb, lit<}
use lib.ListN.{length, take, drop, get_or}
use lib.Seq.{get_or-take}
use Rattle.plain.specs.Bytes.{fair}
use Rattle.std.specs.Prelude.{if◌then◌else◌}
use Rattle.plain.proofs.Each.{Each, each_weaken}
use Rattle.statement.specs.Statements.{Statement}
use Rattle.words.specs.Halves.{upper, lower, sum, distinct, all}
use Rattle.words.specs.Over.{over, part}
use Rattle.words.proofs.Each.{Words}
use Rattle.words.proofs.Over.{over-same, over-again, part-before, part-after, part-over, take-over, length_over}
use Rattle.octets.specs.Octets.{octets, inked}
use Rattle.octets.proofs.Areas.{area-before, area-inked}
use Rattle.octets.proofs.Bytes.{Bytes, length-octets}
use Rattle.octets.proofs.Inked.{inked-is, inked-nil, octets-inked, words-inked}
use Rattle.names.specs.Names.{NAMEWORDS}
use Rattle.layout.specs.Limits.{TEXTS, STATEMENTS, VALUES, BYTES, BYTEWORDS, WORDS, TEXTS_AT, HEADS_AT, NAMES_AT, VALUES_AT, BYTES_AT}
use Rattle.layout.specs.State.{Pool, program, flat, values_of, bytes_of, values, string_bytes}
use Rattle.layout.specs.Memory.{text_count, statement_count, value_count, byte_count, text_words, head_words, name_words, value_words, held_bytes, cut_statements, cut_texts, decode, head_word, name_of, laid_behind}
use Rattle.layout.specs.Damage.{all_named, all_fit, total_bytes, orderly}
use Rattle.layout.proofs.Areas.{length_part}
use Rattle.layout.proofs.Bytes.{fair-below}
use Rattle.layout.proofs.Codec.{cut-statements, each-short, letters-laid, length-laid-names}
use Rattle.layout.proofs.Columns.{flat_map}
use Rattle.layout.proofs.Holds.{inked_at, length-laid-heads, length-program, length-held, length-bytes-held}
use Rattle.layout.proofs.Legal.{Fair}
use Rattle.layout.proofs.Sound.{Orderly}
use Rattle.opening.proofs.Fitting.{Fitted}
use Rattle.pool.proofs.Inking.{ink-length}
use Rattle.entering.specs.Entries.{body_behind}
use Rattle.entering.proofs.Further.{in_three, length_three, heads, pen₀, laid-behind}

-- ---- words in three columns, and bytes behind them

-- y is m with words written from these places on, and bytes: what is read before them, and where they are
pub record Lies (m y : List ℕ) (h n v at : ℕ) (hs ns vs bs : List ℕ) : Type 0 where
  pub long : length y ≡ WORDS
  pub early : (o k : ℕ) → o + k ≤ h → part o k y ≡ part o k m
  pub names-before : (k : ℕ) → NAMES_AT + k ≤ n → part NAMES_AT k y ≡ part NAMES_AT k m
  pub values-before : (k : ℕ) → VALUES_AT + k ≤ v → part VALUES_AT k y ≡ part VALUES_AT k m
  pub bytes-before : (k : ℕ) → k ≤ at → take k (octets (part BYTES_AT BYTEWORDS y)) ≡ take k (octets (part BYTES_AT BYTEWORDS m))
  pub heads-at : part h (length hs) y ≡ hs
  pub names_at : part n (length ns) y ≡ ns
  pub values-at : part v (length vs) y ≡ vs
  pub bytes-at : at + length bs ≤ BYTES → part at (length bs) (octets (part BYTES_AT BYTEWORDS y)) ≡ bs
  pub again : in_three h n v hs ns vs (inked_at at bs y) ≡ y
  pub still : (k : ℕ) → inked_at k [] y ≡ y

module _ (m : List ℕ) (e : length m ≡ WORDS) (h n v at : ℕ) (hs ns vs bs : List ℕ) (f : Bytes bs)
    (ah : h + length hs ≤ NAMES_AT) (an : NAMES_AT ≤ n) (bn : n + length ns ≤ VALUES_AT) (av : VALUES_AT ≤ v) (bv : v + length vs ≤ BYTES_AT) where
  abbrev x : List ℕ
  x = inked_at at bs m

  abbrev y : List ℕ
  y = in_three h n v hs ns vs x

  abbrev p : List ℕ
  p = part BYTES_AT BYTEWORDS m

  long : length y ≡ WORDS
  long = length_three h n v hs ns vs x ∙ ink-length at bs m e

  -- before all of them
  early : (o k : ℕ) → o + k ≤ h → part o k y ≡ part o k m
  early o k g =
      part-before o k v vs (over n ns (over h hs x)) (omega arith) ∙ part-before o k n ns (over h hs x) (omega arith) ∙ part-before o k h hs x g
      ∙ area-before BYTES_AT BYTEWORDS at bs m (omega arith) o k (omega arith)

  -- before the second, and before the third
  names-before : (k : ℕ) → NAMES_AT + k ≤ n → part NAMES_AT k y ≡ part NAMES_AT k m
  names-before k g =
      part-before NAMES_AT k v vs (over n ns (over h hs x)) (omega arith) ∙ part-before NAMES_AT k n ns (over h hs x) g ∙ part-after NAMES_AT k h hs x ah
      ∙ area-before BYTES_AT BYTEWORDS at bs m (omega arith) NAMES_AT k (omega arith)

  values-before : (k : ℕ) → VALUES_AT + k ≤ v → part VALUES_AT k y ≡ part VALUES_AT k m
  values-before k g =
      part-before VALUES_AT k v vs (over n ns (over h hs x)) g ∙ part-after VALUES_AT k n ns (over h hs x) bn ∙ part-after VALUES_AT k h hs x (omega arith)
      ∙ area-before BYTES_AT BYTEWORDS at bs m (omega arith) VALUES_AT k (omega arith)

  -- the bytes
  area-y : part BYTES_AT BYTEWORDS y ≡ inked at bs p
  area-y =
      part-after BYTES_AT BYTEWORDS v vs (over n ns (over h hs x)) bv ∙ part-after BYTES_AT BYTEWORDS n ns (over h hs x) (omega arith)
      ∙ part-after BYTES_AT BYTEWORDS h hs x (omega arith) ∙ area-inked BYTES_AT BYTEWORDS at bs m (omega arith)

  octets-y : octets (part BYTES_AT BYTEWORDS y) ≡ over at bs (octets p)
  octets-y = ap octets area-y ∙ octets-inked at bs p f

  bytes-before : (k : ℕ) → k ≤ at → take k (octets (part BYTES_AT BYTEWORDS y)) ≡ take k (octets p)
  bytes-before k g = ap (take k) octets-y ∙ take-over k at bs (octets p) g

  -- each is read back
  heads-at : part h (length hs) y ≡ hs
  heads-at =
      part-before h (length hs) v vs (over n ns (over h hs x)) (omega arith) ∙ part-before h (length hs) n ns (over h hs x) (omega arith)
      ∙ part-over h hs x (omega (arith, ink-length at bs m e))

  names_at : part n (length ns) y ≡ ns
  names_at =
      part-before n (length ns) v vs (over n ns (over h hs x)) (omega arith)
      ∙ part-over n ns (over h hs x) (omega (arith, length_over h hs x, ink-length at bs m e))

  values-at : part v (length vs) y ≡ vs
  values-at = part-over v vs (over n ns (over h hs x)) (omega (arith, length_over n ns (over h hs x), length_over h hs x, ink-length at bs m e))

  bytes-at : at + length bs ≤ BYTES → part at (length bs) (octets (part BYTES_AT BYTEWORDS y)) ≡ bs
  bytes-at g =
      let l : length p ≡ BYTEWORDS = length_part BYTES_AT BYTEWORDS m (omega arith) in
      ap (part at (length bs)) octets-y ∙ part-over at bs (octets p) (omega (arith, length-octets p))

  -- written again
  words-y : Words (part BYTES_AT BYTEWORDS y)
  words-y = rw area-y (words-inked at bs p f)

  ink-again : inked_at at bs y ≡ y
  ink-again =
      let q = part BYTES_AT BYTEWORDS y in
      let z : octets q ≡ over at bs (octets q) = octets-y ∙ sym (ap (over at bs) octets-y ∙ over-again at bs bs (octets p) refl) in
      ap (λ (l : List ℕ). over BYTES_AT l y) (sym (inked-is at bs q q words-y refl z)) ∙ over-same BYTES_AT BYTEWORDS y

  same : (o : ℕ) (xs : List ℕ) → part o (length xs) y ≡ xs → over o xs y ≡ y
  same o xs a = ap (λ (l : List ℕ). over o l y) (sym a) ∙ over-same o (length xs) y

  again : in_three h n v hs ns vs (inked_at at bs y) ≡ y
  again =
      ap (in_three h n v hs ns vs) ink-again
      ∙ ap (λ (l : List ℕ). over v vs (over n ns l)) (same h hs heads-at) ∙ ap (over v vs) (same n ns names_at) ∙ same v vs values-at

  -- no bytes written change nothing
  still : (k : ℕ) → inked_at k [] y ≡ y
  still k = ap (λ (l : List ℕ). over BYTES_AT l y) (inked-nil k (part BYTES_AT BYTEWORDS y) words-y) ∙ over-same BYTES_AT BYTEWORDS y

  lies : Lies m y h n v at hs ns vs bs
  lies = record {
    long = long;
    early = early;
    names-before = names-before;
    values-before = values-before;
    bytes-before = bytes-before;
    heads-at = heads-at;
    names_at = names_at;
    values-at = values-at;
    bytes-at = bytes-at;
    again = again;
    still = still;
  }

-- ---- statements behind those that a memory holds

-- the bytes of fair statements are bytes
pub bytes-fair : (ss : List Statement) → Each Fair ss → Bytes (flat bytes_of ss)
bytes-fair ss f = each_weaken _ _ (λ b e. omega (arith, fair-below b e)) (flat bytes_of ss) (letters-laid ss f)

-- document 01's conditions, of what is read for them
abbrev asked : (most long texts statements count bytes : ℕ) → (tw hw nw vw bw : List ℕ) → Bool
asked most long t n k b tw hw nw vw bw =
    if eqb long WORDS && (leb t most && leb n STATEMENTS && leb k VALUES && leb b BYTES)
    then distinct tw && all_named hw nw && all (λ h. leb (upper h) 3) hw && (all (λ h. leb 1 (lower h)) hw && eqb (sum hw) k) && eqb (sum tw) n
    && all_fit hw vw && eqb (total_bytes hw vw) b && all fair bw
    else false

module _ (m : List ℕ) (S : Orderly TEXTS m) (b : List Statement) (F : Fitted (decode m) b) (f : Each Fair b) where
  abbrev s : Pool
  s = decode m

  abbrev pub laid : List ℕ
  laid = laid_behind s b m

  held= : length (program s) ≡ statement_count m
  held= = length-program m S

  given= : length (values s) ≡ value_count m
  given= = length-held m S

  spelled= : length (string_bytes s) ≡ byte_count m
  spelled= = length-bytes-held m S

  pub lying : Lies m laid (pen₀ s m).heads (pen₀ s m).names (pen₀ s m).values (pen₀ s m).bytes (heads b) (flat name_of b) (flat values_of b) (flat bytes_of b)
  lying =
      let z = length-laid-heads b in
      let l = length-laid-names b in
      rw (laid-behind s m b)
      (lies m S.sizes.words (pen₀ s m).heads (pen₀ s m).names (pen₀ s m).values (pen₀ s m).bytes (heads b) (flat name_of b) (flat values_of b) (flat bytes_of b)
      (bytes-fair b f) (omega (arith, F.statements)) (omega arith) (omega (arith, F.statements)) (omega arith) (omega (arith, F.values)))

  -- the words before the statements
  pub front-laid : take HEADS_AT laid ≡ take HEADS_AT m
  front-laid = lying.early 0 HEADS_AT (omega arith)

  word= : (i : ℕ) → i < HEADS_AT → get_or laid i 0 ≡ get_or m i 0
  word= i k = sym (get_or-take HEADS_AT laid i 0 k) ∙ ap (λ (l : List ℕ). get_or l i 0) front-laid ∙ get_or-take HEADS_AT m i 0 k

  c0 : text_count laid ≡ text_count m
  c0 = word= 0 (lit< tt)

  c1 : statement_count laid ≡ statement_count m
  c1 = word= 1 (lit< tt)

  c2 : value_count laid ≡ value_count m
  c2 = word= 2 (lit< tt)

  c3 : byte_count laid ≡ byte_count m
  c3 = word= 3 (lit< tt)

  -- what is held
  texts= : text_words laid ≡ text_words m
  texts= = ap (λ (k : ℕ). part TEXTS_AT k laid) c0 ∙ lying.early TEXTS_AT (text_count m) (omega (arith, S.sizes.texts))

  heads= : head_words laid ≡ head_words m
  heads= = ap (λ (k : ℕ). part HEADS_AT k laid) c1 ∙ lying.early HEADS_AT (statement_count m) (omega (arith, held=))

  names= : name_words laid ≡ name_words m
  names= = ap (λ (k : ℕ). part NAMES_AT (NAMEWORDS * k) laid) c1 ∙ lying.names-before (NAMEWORDS * statement_count m) (omega (arith, held=))

  values= : value_words laid ≡ value_words m
  values= = ap (λ (k : ℕ). part VALUES_AT k laid) c2 ∙ lying.values-before (value_count m) (omega (arith, given=))

  bytes= : held_bytes laid ≡ held_bytes m
  bytes= = ap (λ (k : ℕ). take k (octets (part BYTES_AT BYTEWORDS laid))) c3 ∙ lying.bytes-before (byte_count m) (omega (arith, spelled=))

  pub decode-laid : decode laid ≡ decode m
  unfolding decode
  decode-laid = λ i. cut_texts (texts= i) (cut_statements (heads= i) (names= i) (values= i) (bytes= i))

  pub orderly-laid : orderly TEXTS laid ≡ orderly TEXTS m
  unfolding orderly
  orderly-laid =
      let l : length laid ≡ length m = lying.long ∙ sym S.sizes.words in
      λ i. asked TEXTS (l i) (c0 i) (c1 i) (c2 i) (c3 i) (texts= i) (heads= i) (names= i) (values= i) (bytes= i)

  -- the text
  pub body-laid : body_behind (length b) (length (flat values_of b)) (length (flat bytes_of b)) laid ≡ b
  body-laid =
      let p : statement_count laid ≡ length (program s) = c1 ∙ sym held= in
      let q : value_count laid ≡ length (values s) = c2 ∙ sym given= in
      let r : byte_count laid ≡ length (string_bytes s) = c3 ∙ sym spelled= in
      let x : part (HEADS_AT + statement_count laid) (length b) laid ≡ map head_word b =
      (λ i. part (HEADS_AT + p i) (sym (length-laid-heads b) i) laid) ∙ lying.heads-at ∙ flat_map head_word b in
      let y : part (NAMES_AT + NAMEWORDS * statement_count laid) (NAMEWORDS * length b) laid ≡ flat name_of b =
      (λ i. part (NAMES_AT + NAMEWORDS * p i) (sym (length-laid-names b) i) laid) ∙ lying.names_at in
      let z : part (VALUES_AT + value_count laid) (length (flat values_of b)) laid ≡ flat values_of b =
      (λ i. part (VALUES_AT + q i) (length (flat values_of b)) laid) ∙ lying.values-at in
      let w : take (length (flat bytes_of b)) (drop (byte_count laid) (octets (part BYTES_AT BYTEWORDS laid))) ≡ flat bytes_of b =
      (λ i. take (length (flat bytes_of b)) (drop (r i) (octets (part BYTES_AT BYTEWORDS laid)))) ∙ lying.bytes-at F.bytes in
      (λ i. cut_statements (x i) (y i) (z i) (w i)) ∙ cut-statements b f (each-short b (omega (arith, F.values)))

  pub again-laid : laid_behind s b laid ≡ laid
  again-laid = laid-behind s laid b ∙ lying.again
