-- The memory of a pool, word by word (docs/LAYOUT.md): `decode` reads the texts that it holds, `put` writes them, with no text open.
-- Definitions only.
use Rattle.std.specs.Prelude.{ℕ, ◌+◌, ◌*◌, ◌/◌, ◌%◌, Bool, not, List, [], ◌∷◌, map, eqb, length, take, drop, get_or, if◌then◌else◌}
use Rattle.statement.specs.Statements.{Values, numbers, strings, how_many, Statement}
use Rattle.statement.specs.declared.head.Operator.{Operator}
use Rattle.statement.specs.declared.head.Operator.TheVariants.{Direct, Append}
use Rattle.words.specs.Over.{over, part}
use Rattle.words.specs.Halves.{upper, lower, joined, sum}
use Rattle.octets.specs.Octets.{octets, inked_in}
use Rattle.names.specs.Names.{NAMEWORDS, packed, unpacked}
use Rattle.layout.specs.State.{Text, Pool, program, flat, values_of, bytes_of, values, string_bytes}
use Rattle.layout.specs.Limits.{OPEN_AT, TEXTS_AT, HEADS_AT, NAMES_AT, VALUES_AT, BYTES_AT, BYTEWORDS}

-- ---- from memory

-- the totals: texts, statements, values, bytes of strings
abbrev pub text_count : List ℕ → ℕ
text_count m = get_or m 0 0

abbrev pub statement_count : List ℕ → ℕ
statement_count m = get_or m 1 0

abbrev pub value_count : List ℕ → ℕ
value_count m = get_or m 2 0

abbrev pub byte_count : List ℕ → ℕ
byte_count m = get_or m 3 0

-- the words in use of each area
abbrev pub text_words : List ℕ → List ℕ
text_words m = part TEXTS_AT (text_count m) m

abbrev pub head_words : List ℕ → List ℕ
head_words m = part HEADS_AT (statement_count m) m

abbrev pub name_words : List ℕ → List ℕ
name_words m = part NAMES_AT (NAMEWORDS * statement_count m) m

abbrev pub value_words : List ℕ → List ℕ
value_words m = part VALUES_AT (value_count m) m

-- the bytes in use of the strings' words
abbrev pub held_bytes : List ℕ → List ℕ
held_bytes m = take (byte_count m) (octets (part BYTES_AT BYTEWORDS m))

-- an operator's number: 0 is `=`, 1 is `+=`
abbrev pub operator_number : Operator → ℕ
operator_number Direct = 0
operator_number Append = 1

abbrev pub operator_of : ℕ → Operator
operator_of n = if eqb n 0 then Direct else Append

-- a head's upper number is kind · 2 + operator; kind 0 is numbers, 1 is strings
abbrev pub kind_number : Values → ℕ
kind_number (numbers bits) = 0
kind_number (strings ss) = 1

-- strings cut out of bytes by their lengths
unfoldable pub cut_strings : (lengths bytes : List ℕ) → List (List ℕ)
cut_strings [] bs = []
cut_strings (n ∷ ns) bs = take n bs ∷ cut_strings ns (drop n bs)

-- a statement's values, of its words and the bytes from there on; and how many bytes they take
abbrev pub cut_values : (kind : ℕ) (words bytes : List ℕ) → Values
cut_values kind ws bs = if eqb kind 0 then numbers ws else strings (cut_strings ws bs)

abbrev pub bytes_taken : (kind : ℕ) (words : List ℕ) → ℕ
bytes_taken kind ws = if eqb kind 0 then 0 else sum ws

-- statements cut out of heads, names, values and bytes
unfoldable pub cut_statements : (heads names values bytes : List ℕ) → List Statement
unfolding unpacked cut_strings
cut_statements [] ns vs bs = []
cut_statements (h ∷ hs) ns vs bs =
    record {
      name = unpacked (take NAMEWORDS ns);
      operator = operator_of (upper h % 2);
      values = cut_values (upper h / 2) (take (lower h) vs) bs;
    }
    ∷ cut_statements hs (drop NAMEWORDS ns) (drop (lower h) vs) (drop (bytes_taken (upper h / 2) (take (lower h) vs)) bs)

-- texts cut out of the texts' words and the statements
unfoldable pub cut_texts : List ℕ → List Statement → Pool
cut_texts [] ss = []
cut_texts (w ∷ ws) ss = record { label = upper w; body = take (lower w) ss } ∷ cut_texts ws (drop (lower w) ss)

unfoldable pub decode : List ℕ → Pool
unfolding cut_texts cut_statements
decode m = cut_texts (text_words m) (cut_statements (head_words m) (name_words m) (value_words m) (held_bytes m))

-- ---- the open text

-- "One text may be open at a time": whether one is
abbrev pub opens : List ℕ → Bool
opens m = not (eqb (get_or m OPEN_AT 0) 0)

-- its word stands behind those of the held texts: its label, and how many statements it has so far
abbrev pub open_word : List ℕ → ℕ
open_word m = get_or m (TEXTS_AT + text_count m) 0

abbrev pub open_label : List ℕ → ℕ
open_label m = upper (open_word m)

abbrev pub open_statements : List ℕ → ℕ
open_statements m = lower (open_word m)

-- how many values, and bytes in strings
abbrev pub open_values : List ℕ → ℕ
open_values m = get_or m (OPEN_AT + 1) 0

abbrev pub open_bytes : List ℕ → ℕ
open_bytes m = get_or m (OPEN_AT + 2) 0

-- the memory as it stands with the open text's statements and values "put after the held ones": its totals count them
abbrev pub merged : List ℕ → List ℕ
merged m =
    over 0
    ((text_count m + 1) ∷ (statement_count m + open_statements m) ∷ (value_count m + open_values m) ∷ (byte_count m + open_bytes m) ∷ [])
    m

-- its statements so far, cut out of what stands behind the held ones
unfoldable pub open_body : List ℕ → List Statement
unfolding cut_statements
open_body m =
    cut_statements
    (part (HEADS_AT + statement_count m) (open_statements m) m)
    (part (NAMES_AT + NAMEWORDS * statement_count m) (NAMEWORDS * open_statements m) m)
    (part (VALUES_AT + value_count m) (open_values m) m)
    (take (open_bytes m) (drop (byte_count m) (octets (part BYTES_AT BYTEWORDS m))))

abbrev pub open_text : List ℕ → Text
open_text m = record { label = open_label m; body = open_body m }

-- ---- to memory

abbrev pub text_word : Text → ℕ
text_word t = joined t.label (length t.body)

abbrev pub head_word : Statement → ℕ
head_word s = joined (kind_number s.values * 2 + operator_number s.operator) (how_many s.values)

abbrev pub name_of : Statement → List ℕ
name_of s = packed s.name

-- no text is open
abbrev pub NONE_OPEN : ℕ
NONE_OPEN = 0

-- the words in front: the totals, and that no text is open
abbrev pub front : Pool → List ℕ
front s = length s ∷ length (program s) ∷ length (values s) ∷ length (string_bytes s) ∷ NONE_OPEN ∷ []

-- m with the state s written into its areas and in front; every word that s does not use stays
unfoldable pub put : Pool → List ℕ → List ℕ
put s m =
    over 0 (front s)
    (over VALUES_AT (values s)
    (over NAMES_AT (flat name_of (program s))
    (over HEADS_AT (map head_word (program s))
    (over TEXTS_AT (map text_word s) (inked_in BYTES_AT BYTEWORDS 0 (string_bytes s) m)))))

-- m with some statements written behind those of the state s
unfoldable pub laid_behind : Pool → List Statement → List ℕ → List ℕ
laid_behind s ss m =
    over (VALUES_AT + length (values s)) (flat values_of ss)
    (over (NAMES_AT + NAMEWORDS * length (program s)) (flat name_of ss)
    (over (HEADS_AT + length (program s)) (map head_word ss)
    (inked_in BYTES_AT BYTEWORDS (length (string_bytes s)) (flat bytes_of ss) m)))
