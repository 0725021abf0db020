-- The open text of a memory, and the memory with it: "One text may be open at a time." Definitions only.
use Rattle.std.specs.Prelude.{ℕ, ◌+◌, Bool, true, false, List, [], ◌∷◌, eqb}
use Rattle.statement.specs.Statements.{Values, numbers, strings, Statement}
use Rattle.statement.specs.declared.values.Reader.{Reader}
use Rattle.statement.specs.declared.values.Reader.TheVariants as R
use Rattle.words.specs.Halves.{joined}
use Rattle.words.specs.Over.{over, part}
use Rattle.layout.specs.Limits.{OPEN_AT, OPENWORDS, TEXTS_AT}
use Rattle.layout.specs.Memory.{text_count, open_statements, open_body, NONE_OPEN}
use Rattle.feeding.specs.Parts.{Open, opening}
use Rattle.bookmark.specs.Words.{open_words, read_open}
use Rattle.bookmark.specs.Borne.{settled_reader}
use Rattle.bookmark.specs.declared.mark.Standing.{Standing}
use Rattle.bookmark.specs.declared.mark.Standing.TheVariants as S
use Rattle.bookmark.specs.declared.mark.Entered.{Entered}
use Rattle.opening.specs.Storing.{Progress}
use Rattle.entering.specs.Entries.{Entry, progress_of}

-- the same open text, of whose complete lines something else is told
abbrev pub telling : {P Q : Type 0} → (P → Q) → Open P → Open Q
telling f o = record { progress = f o.progress; number = o.number; long = o.long; kept = o.kept; pending = o.pending; bytes = o.bytes }

-- ---- read from the memory

abbrev pub is_strings : Values → Bool
is_strings (numbers bits) = false
is_strings (strings ss) = true

-- the one number +0 that holds the place of a list's first value
abbrev pub is_place : Values → Bool
is_place (numbers []) = false
is_place (numbers (b ∷ [])) = eqb b 0
is_place (numbers (b ∷ c ∷ bs)) = false
is_place (strings ss) = false

-- a reader as far as the statement stored last bears it out
abbrev pub borne_reader : List Statement → Reader → Reader
borne_reader [] r = settled_reader false false false r
borne_reader (s ∷ []) r = settled_reader true (is_strings s.values) (is_place s.values) r
borne_reader (s ∷ t ∷ ss) r = borne_reader (t ∷ ss) r

abbrev pub borne_standing : List Statement → Standing → Standing
borne_standing body (S.Storing r) = S.Storing (borne_reader body r)
borne_standing body (S.Overflowed r) = S.Overflowed r
borne_standing body (S.Faulted f) = S.Faulted f

abbrev pub borne : List Statement → Entered → Entered
borne body e =
    record { standing = borne_standing body e.standing; statements = e.statements; values = e.values; bytes = e.bytes }

-- the open text as its words say, beside the memory
abbrev pub open_in : List ℕ → Open Entry
open_in m =
    telling (λ (e : Entered). record { memory = m; entered = borne (open_body m) e })
    (read_open (open_statements m) (part OPEN_AT OPENWORDS m))

-- with its statements so far
abbrev pub state_in : List ℕ → Open Progress
state_in m = telling progress_of (open_in m)

-- ---- written into the memory

-- its word behind those of the held texts, and the words that keep where it stands
abbrev pub stowed : (label : ℕ) → Open Entry → List ℕ
stowed label o =
    over OPEN_AT (open_words (telling (λ (e : Entry). e.entered) o))
    (over (TEXTS_AT + text_count o.progress.memory) (joined label o.progress.entered.statements ∷ []) o.progress.memory)

-- a text that was just opened: "A text opens in a text section", and nothing came yet
abbrev pub beginning : List ℕ → Open Entry
beginning m = opening (record { memory = m; entered = record { standing = S.Storing R.Text; statements = 0; values = 0; bytes = 0 } })

-- no text is open any more, and every other word stays
abbrev pub shut : List ℕ → List ℕ
shut m = over OPEN_AT (NONE_OPEN ∷ []) m
