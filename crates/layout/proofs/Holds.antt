-- A memory holds a state: a sound one what it decodes to, and one that was put into what was put. Assumes nothing.
use mathlib.Core.Path.{◌≡◌, sym, ap, ap₂, subst, ◌∙◌}
use mathlib.Core.Bool.{true, false, not}
use mathlib.Core.List.{List, [], ◌∷◌, map}
use Prim.Native.Nat.{ℕ, ◌*◌, ◌≤◌, ◌<◌}
use native.Mathlib.Nat.{zero-add}
use native.Mathlib.Omega.{arith}
use lib.Dec.{eqb, lit<}
use lib.ListN.{length, take, drop, get_or, length-map}
use Rattle.plain.specs.Bytes.{fair}
use Rattle.statement.specs.Statements.{Statement}
use Rattle.words.specs.Halves.{upper, lower, sum}
use Rattle.words.specs.Over.{over, part}
use Rattle.plain.proofs.Each.{Each, each_take, each-drop, each_weaken}
use Rattle.words.proofs.Each.{Words, WORD}
use Rattle.words.proofs.Halves.{Different}
use Rattle.words.proofs.Over.{length_over, part-over, part-after}
use Rattle.octets.specs.Octets.{octets, inked_in}
use Rattle.octets.proofs.Bytes.{Bytes, length-octets}
use Rattle.octets.proofs.Areas.{length-inked-in, octets-area}
use Rattle.names.specs.Names.{NAMEWORDS}
use Rattle.layout.specs.State.{Text, Pool, program, flat, words_of, values_of, bytes_of, values, string_bytes}
use Rattle.layout.specs.Limits.{TEXTS, TEXTWORDS, WORDS, BYTEWORDS, OPEN_AT, TEXTS_AT, HEADS_AT, NAMES_AT, VALUES_AT, BYTES_AT}
use Rattle.layout.specs.Memory.{text_count, statement_count, value_count, byte_count, text_words, head_words, name_words, value_words, held_bytes, cut_statements, cut_texts, decode, opens, text_word, head_word, name_of, front, put}
use Rattle.layout.specs.Damage.{Framed, total_bytes, sound}
use Rattle.layout.proofs.Areas.{get_d_over, length_part, length-texts, length-heads, length-names, length-values, length-bytes}
use Rattle.layout.proofs.Bytes.{fair-below}
use Rattle.layout.proofs.Sound.{Orderly, Named, Fitting, of-sound}
use Rattle.layout.proofs.Columns.{At, at_after, Column, Spaced, Within, Room, Stands, put_columns, at-put_columns, part-put_columns, length-put_columns, stands-over, put-stands, flat_map}
use Rattle.layout.proofs.Legal.{FitsIn, Fits, Fair, Legal, Bounded}
use Rattle.layout.proofs.Codec.{Short, ShortText, cut-statements, cut-texts, each-short, each-short-text, sum-texts, sum-heads, bytes-heads, length-laid-names, length_cut, heads-cut, values-cut, bytes_cut, names-cut, words-cut, program-cut, labels-cut, fair-cut, bounded-cut, bounded-labels, labels-laid, named-laid, operators-laid, counts-laid, fitting-laid, letters-laid}

pub record Holds (m : List ℕ) (s : Pool) : Type 0 where
  pub words : length m ≡ WORDS
  pub text_count= : text_count m ≡ length s
  pub statement_count= : statement_count m ≡ length (program s)
  pub value_count= : value_count m ≡ length (values s)
  pub byte_count= : byte_count m ≡ length (string_bytes s)
  pub texts : text_words m ≡ map text_word s
  pub heads : head_words m ≡ map head_word (program s)
  pub names : name_words m ≡ flat name_of (program s)
  pub values : value_words m ≡ values s
  pub bytes : held_bytes m ≡ string_bytes s
  pub fits : FitsIn TEXTWORDS s

-- ---- a sound memory holds what it decodes to

module _ {most : ℕ} (m : List ℕ) (S : Orderly most m) where
  abbrev ss : List Statement
  ss = cut_statements (head_words m) (name_words m) (value_words m) (held_bytes m)

  length-ss : length ss ≡ statement_count m
  length-ss = length_cut (head_words m) (name_words m) (value_words m) (held_bytes m) ∙ length-heads m S.sizes

  heads= : sum (head_words m) ≡ length (value_words m)
  heads= = S.values= ∙ sym (length-values m S.sizes)

  bytes= : total_bytes (head_words m) (value_words m) ≡ length (held_bytes m)
  bytes= = S.bytes= ∙ sym (length-bytes m S.sizes)

  -- the statements of a sound memory are those cut out of its areas
  pub program-decode : program (decode m) ≡ ss
  unfolding decode
  program-decode = program-cut (text_words m) ss (S.statements= ∙ sym length-ss)

  pub texts-decode : map text_word (decode m) ≡ text_words m
  unfolding decode
  texts-decode = words-cut (text_words m) ss (omega (arith, S.statements=, length-ss))

  pub heads-decode : map head_word (program (decode m)) ≡ head_words m
  heads-decode = ap (map head_word) program-decode ∙ heads-cut (head_words m) (name_words m) (value_words m) (held_bytes m) S.operators (omega (arith, heads=))

  pub values-decode : values (decode m) ≡ value_words m
  values-decode = ap (flat values_of) program-decode ∙ values-cut (head_words m) (name_words m) (value_words m) (held_bytes m) S.fitting heads= (omega (arith, bytes=))

  pub bytes-decode : string_bytes (decode m) ≡ held_bytes m
  bytes-decode = ap (flat bytes_of) program-decode ∙ bytes_cut (head_words m) (name_words m) (value_words m) (held_bytes m) S.fitting bytes=

  pub names-decode : Words m → flat name_of (program (decode m)) ≡ name_words m
  names-decode w =
      ap (flat name_of) program-decode
      ∙ names-cut (head_words m) (name_words m) (value_words m) (held_bytes m) (length-names m S.sizes ∙ sym (ap (λ (k : ℕ). NAMEWORDS * k) (length-heads m S.sizes)))
      (each_take (λ x. x < WORD) (NAMEWORDS * statement_count m) (drop NAMES_AT m) (each-drop (λ x. x < WORD) NAMES_AT m w)) S.names

  pub length-decode : length (decode m) ≡ text_count m
  length-decode = sym (length-map (decode m) text_word) ∙ ap length texts-decode ∙ length-texts m S.sizes

  pub length-program : length (program (decode m)) ≡ statement_count m
  length-program = ap length program-decode ∙ length-ss

  pub length-held : length (values (decode m)) ≡ value_count m
  length-held = ap length values-decode ∙ length-values m S.sizes

  pub length-bytes-held : length (string_bytes (decode m)) ≡ byte_count m
  length-bytes-held = ap length bytes-decode ∙ length-bytes m S.sizes

  fits_in : (n : ℕ) → text_count m ≤ n → FitsIn n (decode m)
  fits_in n h = record {
    texts = omega (arith, length-decode);
    statements = omega (arith, length-program, S.sizes.statements);
    values = omega (arith, length-held, S.sizes.values);
    bytes = omega (arith, length-bytes-held, S.sizes.bytes);
  }

  pub decode-fits : FitsIn most (decode m)
  decode-fits = fits_in most S.few

  pub decode-legal : Legal (decode m)
  unfolding decode
  decode-legal = record {
    labels = subst Different (sym (labels-cut (text_words m) ss)) S.labels;
    statements = subst (Each Fair) (sym program-decode) (fair-cut (head_words m) (name_words m) (value_words m) (held_bytes m) S.names S.counts (omega (arith, heads=)) S.fitting S.letters);
  }

  pub decode-bounded : Words m → Bounded (decode m)
  unfolding decode
  decode-bounded w =
      let p : (o n : ℕ) → Words (part o n m) = λ o n. each_take (λ x. x < WORD) n (drop o m) (each-drop (λ x. x < WORD) o m w) in
      record {
        labels = bounded-labels (text_words m) ss (p TEXTS_AT (text_count m));
        values = subst (Each (λ x. Words (words_of x.values))) (sym program-decode) (bounded-cut (head_words m) (name_words m) (value_words m) (held_bytes m) (p VALUES_AT (value_count m)));
      }

  pub holds-decode : Words m → Holds m (decode m)
  holds-decode w = record {
    words = S.sizes.words;
    text_count= = sym length-decode;
    statement_count= = sym length-program;
    value_count= = sym length-held;
    byte_count= = sym length-bytes-held;
    texts = sym texts-decode;
    heads = sym heads-decode;
    names = sym (names-decode w);
    values = sym values-decode;
    bytes = sym bytes-decode;
    fits = fits_in TEXTWORDS S.sizes.texts;
  }

-- ---- a memory that holds a legal state decodes to it, and is sound

module _ (m : List ℕ) (s : Pool) (H : Holds m s) where
  short : Each Short (program s)
  short = each-short (program s) (omega (arith, H.fits.values))

  short-texts : Each ShortText s
  short-texts = each-short-text s (omega (arith, H.fits.statements))

  pub decode-holds : Each Fair (program s) → decode m ≡ s
  unfolding decode
  decode-holds f =
      ap₂ cut_texts H.texts ((λ i. cut_statements (H.heads i) (H.names i) (H.values i) (H.bytes i)) ∙ cut-statements (program s) f short)
      ∙ cut-texts s short-texts

  pub holds-framed : Framed m
  holds-framed = record {
    words = H.words;
    texts = omega (arith, H.text_count=, H.fits.texts);
    statements = omega (arith, H.statement_count=, H.fits.statements);
    values = omega (arith, H.value_count=, H.fits.values);
    bytes = omega (arith, H.byte_count=, H.fits.bytes);
  }

  pub holds-orderly : (most : ℕ) → length s ≤ most → Legal s → Orderly most m
  holds-orderly most h L = record {
    sizes = holds-framed;
    few = omega (arith, H.text_count=);
    labels = subst (λ (ws : List ℕ). Different (map upper ws)) (sym H.texts) (subst Different (sym (labels-laid s short-texts)) L.labels);
    names = subst (λ (hs : List ℕ). Named hs (name_words m)) (sym H.heads) (subst (Named (map head_word (program s))) (sym H.names) (named-laid (program s) L.statements));
    operators = subst (Each (λ h. upper h ≤ 3)) (sym H.heads) (operators-laid (program s) short);
    counts = subst (Each (λ h. 1 ≤ lower h)) (sym H.heads) (counts-laid (program s) L.statements short);
    values= = ap sum H.heads ∙ sum-heads (program s) short ∙ sym H.value_count=;
    statements= = ap sum H.texts ∙ sum-texts s short-texts ∙ sym H.statement_count=;
    fitting = subst (λ (hs : List ℕ). Fitting hs (value_words m)) (sym H.heads) (subst (Fitting (map head_word (program s))) (sym H.values) (fitting-laid (program s) L.statements short));
    bytes= = ap₂ total_bytes H.heads H.values ∙ bytes-heads (program s) L.statements short ∙ sym H.byte_count=;
    letters = subst (Each (λ b. fair b ≡ true)) (sym H.bytes) (letters-laid (program s) L.statements);
  }

-- ---- the memory's columns

-- one word for each text
abbrev pub per_text : List (Column Text)
per_text = record { base = TEXTS_AT; end = HEADS_AT; lay = λ t. text_word t ∷ [] } ∷ []

-- a head, a name and values for each statement
abbrev pub per_statement : List (Column Statement)
per_statement =
    record { base = HEADS_AT; end = NAMES_AT; lay = λ x. head_word x ∷ [] }
    ∷ record { base = NAMES_AT; end = VALUES_AT; lay = name_of }
    ∷ record { base = VALUES_AT; end = BYTES_AT; lay = values_of }
    ∷ []

pub spaced-texts : Spaced TEXTS_AT per_text
spaced-texts = (omega arith, omega arith, tt)

pub spaced-statements : Spaced HEADS_AT per_statement
spaced-statements = (omega arith, omega arith, (omega arith, omega arith, (omega arith, omega arith, tt)))

-- the strings' bytes stand behind all columns
pub texts-before : Within BYTES_AT per_text
texts-before = (omega arith, tt)

pub statements-before : Within BYTES_AT per_statement
statements-before = (omega arith, (omega arith, (omega arith, tt)))

-- m with bytes written over those of strings from place `at` on
abbrev pub inked_at : (at : ℕ) → (bs m : List ℕ) → List ℕ
inked_at at bs m = inked_in BYTES_AT BYTEWORDS at bs m

pub put-columns : (s : Pool) (m : List ℕ) → put s m ≡ over 0 (front s) (put_columns per_statement (program s) (put_columns per_text s (inked_at 0 (string_bytes s) m)))
unfolding put
put-columns s m =
    sym (λ i. over 0 (front s) (over VALUES_AT (values s) (over NAMES_AT (flat name_of (program s)) (over HEADS_AT (flat_map head_word (program s) i) (over TEXTS_AT (flat_map text_word s i) (inked_at 0 (string_bytes s) m))))))

pub length-laid-texts : (s : Pool) → length (flat (λ t. text_word t ∷ []) s) ≡ length s
length-laid-texts s = ap length (flat_map text_word s) ∙ length-map s text_word

pub length-laid-heads : (ss : List Statement) → length (flat (λ x. head_word x ∷ []) ss) ≡ length ss
length-laid-heads ss = ap length (flat_map head_word ss) ∙ length-map ss head_word

pub room-texts : (s : Pool) → length s ≤ TEXTWORDS → Room per_text s
room-texts s h = (omega (arith, length-laid-texts s), tt)

pub room-statements : {most : ℕ} (s : Pool) → FitsIn most s → Room per_statement (program s)
room-statements s F =
    (omega (arith, length-laid-heads (program s), F.statements), (omega (arith, length-laid-names (program s), F.statements), (omega (arith, F.values), tt)))

-- an area that is read as so many words, and one in which words stand
area-at : (o n : ℕ) (xs m : List ℕ) → n ≡ length xs → part o n m ≡ xs → At o xs m
area-at o n xs m e p = ap (λ (k : ℕ). part o k m) (sym e) ∙ p

at-area : (o n : ℕ) (xs m : List ℕ) → n ≡ length xs → At o xs m → part o n m ≡ xs
at-area o n xs m e a = ap (λ (k : ℕ). part o k m) e ∙ a

module _ (m : List ℕ) (s : Pool) (H : Holds m s) where
  pub holds_texts : Stands per_text s m
  holds_texts = (area-at TEXTS_AT (text_count m) _ m (H.text_count= ∙ sym (length-laid-texts s)) (H.texts ∙ sym (flat_map text_word s)), tt)

  pub holds-statements : Stands per_statement (program s) m
  holds-statements = (
    area-at HEADS_AT (statement_count m) _ m (H.statement_count= ∙ sym (length-laid-heads (program s))) (H.heads ∙ sym (flat_map head_word (program s))),
    (
      area-at NAMES_AT (NAMEWORDS * statement_count m) _ m (ap (λ (k : ℕ). NAMEWORDS * k) H.statement_count= ∙ sym (length-laid-names (program s))) H.names,
      (area-at VALUES_AT (value_count m) _ m H.value_count= H.values, tt),
    ),
  )

  -- all bytes of strings stand at the beginning of theirs
  pub holds-bytes : At 0 (string_bytes s) (octets (part BYTES_AT BYTEWORDS m))
  holds-bytes = ap (λ (k : ℕ). take k (octets (part BYTES_AT BYTEWORDS m))) (sym H.byte_count=) ∙ H.bytes

-- what stands in a memory, column by column
pub record Standing (s : Pool) (m : List ℕ) : Type 0 where
  pub texts : Stands per_text s m
  pub statements : Stands per_statement (program s) m
  pub bytes : At 0 (string_bytes s) (octets (part BYTES_AT BYTEWORDS m))

-- its totals are those of a state
pub record Told (s : Pool) (m : List ℕ) : Type 0 where
  pub texts : text_count m ≡ length s
  pub statements : statement_count m ≡ length (program s)
  pub values : value_count m ≡ length (values s)
  pub bytes : byte_count m ≡ length (string_bytes s)

pub holds_of : (s : Pool) (m : List ℕ) → length m ≡ WORDS → Told s m → Standing s m → FitsIn TEXTWORDS s → Holds m s
holds_of s m n z S F =
    let t = S.texts in
    let r = S.statements in
    record {
      words = n;
      text_count= = z.texts;
      statement_count= = z.statements;
      value_count= = z.values;
      byte_count= = z.bytes;
      texts = at-area TEXTS_AT (text_count m) _ m (z.texts ∙ sym (length-laid-texts s)) t.0 ∙ flat_map text_word s;
      heads = at-area HEADS_AT (statement_count m) _ m (z.statements ∙ sym (length-laid-heads (program s))) r.0 ∙ flat_map head_word (program s);
      names = at-area NAMES_AT (NAMEWORDS * statement_count m) _ m (ap (λ (k : ℕ). NAMEWORDS * k) z.statements ∙ sym (length-laid-names (program s))) r.1.0;
      values = at-area VALUES_AT (value_count m) _ m z.values r.1.1.0;
      bytes = ap (λ (k : ℕ). take k (octets (part BYTES_AT BYTEWORDS m))) z.bytes ∙ S.bytes;
      fits = F;
    }

-- ---- a memory that was put into holds what was put

-- the bytes of a legal state's strings are bytes
pub bytes-legal : (s : Pool) → Legal s → Bytes (string_bytes s)
bytes-legal s L = each_weaken _ _ (λ b e. omega (arith, fair-below b e)) (string_bytes s) (letters-laid (program s) L.statements)

module _ (s : Pool) (m : List ℕ) (F : Fits s) (n : length m ≡ WORDS) where
  abbrev m₀ : List ℕ
  m₀ = inked_at 0 (string_bytes s) m

  abbrev m₁ : List ℕ
  m₁ = put_columns per_text s m₀

  abbrev m₂ : List ℕ
  m₂ = put_columns per_statement (program s) m₁

  abbrev m₃ : List ℕ
  m₃ = over 0 (front s) m₂

  n₀ : length m₀ ≡ WORDS
  n₀ = length-inked-in BYTES_AT BYTEWORDS 0 (string_bytes s) m (omega arith) ∙ n

  n₁ : length m₁ ≡ WORDS
  n₁ = length-put_columns per_text s m₀ ∙ n₀

  n₂ : length m₂ ≡ WORDS
  n₂ = length-put_columns per_statement (program s) m₁ ∙ n₁

  texts₃ : Stands per_text s m₃
  texts₃ =
      let r = room-texts s (omega (arith, F.texts)) in
      let a = put-stands per_text s m₀ TEXTS_AT spaced-texts r (omega (arith, n₀), tt) in
      let b = at-put_columns per_statement (program s) m₁ HEADS_AT TEXTS_AT _ spaced-statements r.0 a.0 in
      (at_after TEXTS_AT _ 0 (front s) m₂ (omega arith) b, tt)

  statements₃ : Stands per_statement (program s) m₃
  statements₃ =
      let w : Within (length m₁) per_statement = (omega (arith, n₁), (omega (arith, n₁), (omega (arith, n₁), tt))) in
      stands-over per_statement (program s) m₂ HEADS_AT 0 (front s) spaced-statements (omega arith)
      (put-stands per_statement (program s) m₁ HEADS_AT spaced-statements (room-statements s F) w)

  -- the columns and the totals are written before the strings' bytes
  area₃ : part BYTES_AT BYTEWORDS m₃ ≡ part BYTES_AT BYTEWORDS m₀
  area₃ =
      part-after BYTES_AT BYTEWORDS 0 (front s) m₂ (omega arith)
      ∙ part-put_columns per_statement (program s) m₁ BYTES_AT BYTEWORDS statements-before (room-statements s F)
      ∙ part-put_columns per_text s m₀ BYTES_AT BYTEWORDS texts-before (room-texts s (omega (arith, F.texts)))

  bytes₃ : Bytes (string_bytes s) → At 0 (string_bytes s) (octets (part BYTES_AT BYTEWORDS m₃))
  bytes₃ f =
      let p = part BYTES_AT BYTEWORDS m in
      let l : length p ≡ BYTEWORDS = length_part BYTES_AT BYTEWORDS m (omega arith) in
      ap (λ (x : List ℕ). part 0 (length (string_bytes s)) (octets x)) area₃
      ∙ ap (part 0 (length (string_bytes s))) (octets-area BYTES_AT BYTEWORDS 0 (string_bytes s) m (omega arith) f)
      ∙ part-over 0 (string_bytes s) (octets p) (omega (arith, length-octets p, F.bytes))

  told₃ : Told s m₃
  told₃ =
      let z : (i : ℕ) → i < 5 → get_or m₃ i 0 ≡ get_or (front s) i 0 = λ i h. ap (λ (k : ℕ). get_or m₃ k 0) (sym (zero-add i)) ∙ get_d_over 0 (front s) m₂ i h (omega (arith, n₂)) in
      record { texts = z 0 (lit< tt); statements = z 1 (lit< tt); values = z 2 (lit< tt); bytes = z 3 (lit< tt) }

  holds₃ : Bytes (string_bytes s) → Holds m₃ s
  holds₃ f =
      holds_of s m₃ (length_over 0 (front s) m₂ ∙ n₂) told₃ (record { texts = texts₃; statements = statements₃; bytes = bytes₃ f })
      (record { texts = omega (arith, F.texts); statements = F.statements; values = F.values; bytes = F.bytes })

  pub put_holds : Bytes (string_bytes s) → Holds (put s m) s
  put_holds f = subst (λ (x : List ℕ). Holds x s) (sym (put-columns s m)) (holds₃ f)

  pub decode-put : Legal s → decode (put s m) ≡ s
  decode-put L = decode-holds (put s m) s (put_holds (bytes-legal s L)) L.statements

  -- no text is open
  pub put-closed : opens (put s m) ≡ false
  put-closed =
      let e : get_or (put s m) OPEN_AT 0 ≡ 0 = ap (λ (x : List ℕ). get_or x OPEN_AT 0) (put-columns s m) ∙ get_d_over 0 (front s) m₂ 4 (lit< tt) (omega (arith, n₂)) in
      ap (λ (x : ℕ). not (eqb x 0)) e

  pub put-sound : Legal s → sound (put s m) ≡ true
  put-sound L = of-sound (put s m) (holds-orderly (put s m) s (put_holds (bytes-legal s L)) TEXTS F.texts L) put-closed
