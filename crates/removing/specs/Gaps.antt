-- A text's gap in every area of a memory, and the memory with the gap closed. Definitions only.
use Rattle.std.specs.Prelude.{ℕ, ◌+◌, ◌-◌, ◌*◌, ◌≤◌, ◌<◌, ◌≡◌, List, [], ◌∷◌, length, drop, get_or}
use Rattle.words.specs.Over.{over, part, moved}
use Rattle.words.specs.Halves.{lower, sum}
use Rattle.octets.specs.Octets.{octets, inked_in}
use Rattle.names.specs.Names.{NAMEWORDS}
use Rattle.layout.specs.Limits.{TEXTWORDS, STATEMENTS, VALUES, BYTES, WORDS, BYTEWORDS, TEXTS_AT, HEADS_AT, NAMES_AT, VALUES_AT, BYTES_AT}
use Rattle.layout.specs.Memory.{NONE_OPEN, text_count, statement_count, value_count, byte_count, value_words}
use Rattle.layout.specs.Damage.{Framed, total_bytes}
use Rattle.removing.specs.declared.gap.Gap.{Gap}

-- the gap of so many elements behind so many, among all that there are
abbrev pub gap_among : (all before inside : ℕ) → Gap
gap_among n b i = record { before = b; inside = i; after = n - b - i }

-- ---- the gap of the text at a place

abbrev pub text_gap : (place : ℕ) → List ℕ → Gap
text_gap place m = gap_among (text_count m) place 1

-- its statements
abbrev pub statements_before : (place : ℕ) → List ℕ → ℕ
statements_before place m = sum (part TEXTS_AT place m)

abbrev pub statements_inside : (place : ℕ) → List ℕ → ℕ
statements_inside place m = lower (get_or m (TEXTS_AT + place) 0)

abbrev pub statement_gap : (place : ℕ) → List ℕ → Gap
statement_gap place m = gap_among (statement_count m) (statements_before place m) (statements_inside place m)

-- the values of the statements in a gap
abbrev pub values_before : Gap → List ℕ → ℕ
values_before s m = sum (part HEADS_AT s.before m)

abbrev pub values_inside : Gap → List ℕ → ℕ
values_inside s m = sum (part (HEADS_AT + s.before) s.inside m)

abbrev pub value_gap : Gap → List ℕ → Gap
value_gap s m = gap_among (value_count m) (values_before s m) (values_inside s m)

-- the bytes of the strings among them
abbrev pub bytes_before : Gap → List ℕ → ℕ
bytes_before s m = total_bytes (part HEADS_AT s.before m) (value_words m)

abbrev pub bytes_inside : Gap → List ℕ → ℕ
bytes_inside s m = total_bytes (part (HEADS_AT + s.before) s.inside m) (drop (values_before s m) (value_words m))

abbrev pub byte_gap : Gap → List ℕ → Gap
byte_gap s m = gap_among (byte_count m) (bytes_before s m) (bytes_inside s m)

-- ---- closing it

-- what stands after the gap is moved down to where it begins
abbrev pub closing : (at : ℕ) → Gap → List ℕ → List ℕ
closing at g m = moved (at + g.before) (at + g.before + g.inside) g.after m

-- four words a statement
abbrev pub fourfold : Gap → Gap
fourfold g = record { before = NAMEWORDS * g.before; inside = NAMEWORDS * g.inside; after = NAMEWORDS * g.after }

-- how many are left
abbrev pub left : Gap → ℕ
left g = g.before + g.after

-- among the bytes of strings
abbrev pub closing_bytes : Gap → List ℕ → List ℕ
closing_bytes g m = inked_in BYTES_AT BYTEWORDS g.before (part (g.before + g.inside) g.after (octets (part BYTES_AT BYTEWORDS m))) m

-- in every area
unfoldable pub closed : (texts statements values bytes : Gap) → List ℕ → List ℕ
closed t s v b m = closing VALUES_AT v (closing NAMES_AT (fourfold s) (closing HEADS_AT s (closing TEXTS_AT t (closing_bytes b m))))

-- the memory without the text at a place: every area, and then the words in front
unfoldable pub taken_out : (place : ℕ) → List ℕ → List ℕ
unfolding closed
taken_out place m =
    let t = text_gap place m in
    let s = statement_gap place m in
    let v = value_gap s m in
    let b = byte_gap s m in
    over 0 (left t ∷ left s ∷ left v ∷ left b ∷ NONE_OPEN ∷ []) (closed t s v b m)

-- ---- what the functions require: the gap lies within the totals

pub record Spanned (s : Gap) (m : List ℕ) : Type 0 where
  pub sizes : Framed m
  pub statements : s.before + s.inside ≤ statement_count m
  pub values : values_before s m + values_inside s m ≤ value_count m
  pub bytes : bytes_before s m + bytes_inside s m ≤ byte_count m

pub record Gapped (place : ℕ) (m : List ℕ) : Type 0 where
  pub text : place < text_count m
  pub rest : Spanned (statement_gap place m) m

-- a gap with what stands around it
abbrev pub whole : Gap → ℕ
whole g = g.before + g.inside + g.after

pub record Closes (t s v b : Gap) (m : List ℕ) : Type 0 where
  pub words : length m ≡ WORDS
  pub texts : whole t ≤ TEXTWORDS
  pub statements : whole s ≤ STATEMENTS
  pub values : whole v ≤ VALUES
  pub bytes : whole b ≤ BYTES
