-- What the complete lines of an open text come to: its statements so far, stored behind those that the pool holds; too little room for them, after
-- which lines are still read, because a faulty one is told before 7; or the first fault. Definitions only.
use Rattle.std.specs.Prelude.{ℕ, ◌+◌, ◌≡◌, Bool, true, ◌&&◌, List, [], ◌∷◌, ◌++◌, map, leb, length, if◌then◌else◌}
use Rattle.plain.specs.Lists.{Each}
use Rattle.value.specs.Faults.{faulty}
use Rattle.value.specs.Value.{Value}
use Rattle.value.specs.declared.faults.Fault.{Fault}
use Rattle.statement.specs.Statements.{Values, numbers, strings, Statement, Event, numbers_in, strings_in, of_one_kind, gathered}
use Rattle.statement.specs.declared.values.Kind.{Kind}
use Rattle.statement.specs.declared.values.Kind.TheVariants as K
use Rattle.statement.specs.declared.values.Reader.{Reader}
use Rattle.statement.specs.declared.values.Reader.TheVariants as R
use Rattle.text.specs.Line.{Outcome, next, fault, answered}
use Rattle.text.specs.Text.{in_line}
use Rattle.bookmark.specs.declared.mark.Standing.{Standing}
use Rattle.bookmark.specs.declared.mark.Standing.TheVariants as S
use Rattle.layout.specs.State.{Pool, program, flat, values_of, bytes_of, values, string_bytes}
use Rattle.layout.specs.Limits.{STATEMENTS, VALUES, BYTES}
use Rattle.layout.specs.Fair.{Fair}

pub record Progress : Type 0 where
  pub body : List Statement
  pub standing : Standing

-- a text opens in a text section, with nothing stored
abbrev pub start : Progress
start = record { body = []; standing = S.Storing R.Text }

-- ---- the statements with what a line adds

-- a list without a value so far holds one in their place, a number +0, so that no statement is without values
abbrev pub PLACEHOLDER : Values
PLACEHOLDER = numbers (0 ∷ [])

abbrev pub placed : Values → Values
placed (numbers []) = PLACEHOLDER
placed (numbers (b ∷ bs)) = numbers (b ∷ bs)
placed (strings ss) = strings ss

abbrev pub with_place : Statement → Statement
with_place s = record { name = s.name; operator = s.operator; values = placed s.values }

-- the first values of a list take the place that was held for them
abbrev pub in_place : List Value → Values → Values
in_place [] old = old
in_place (v ∷ vs) old = of_one_kind (v ∷ vs)

abbrev pub joined_to : Values → List Value → Values
joined_to (numbers bs) vs = numbers (bs ++ numbers_in vs)
joined_to (strings ss) vs = strings (ss ++ strings_in vs)

abbrev pub of_kind : Kind → List Value → Values → Values
of_kind K.Empty vs old = in_place vs old
of_kind K.Numbers vs old = joined_to old vs
of_kind K.Strings vs old = joined_to old vs

-- values that go on a list of an earlier line
abbrev pub gone_on : Reader → List Value → Values → Values
gone_on R.Text vs old = old
gone_on R.Data vs old = old
gone_on (R.List k) vs old = of_kind k vs old

-- the statement opened last has such values now
abbrev pub on_last : (Values → Values) → List Statement → List Statement
on_last f [] = []
on_last f (s ∷ []) = record { name = s.name; operator = s.operator; values = f s.values } ∷ []
on_last f (s ∷ t ∷ ss) = s ∷ on_last f (t ∷ ss)

unfoldable pub extended : Reader → List Statement → List Event → List Statement
extended r body es = on_last (gone_on r (gathered es).loose) body ++ map with_place (gathered es).statements

-- ---- a line is complete

-- the limits are kept, that of texts apart
unfoldable pub fitting : Pool → List Statement → Bool
fitting s body =
    leb (length (program s) + length body) STATEMENTS && leb (length (values s) + length (flat values_of body)) VALUES
    && leb (length (string_bytes s) + length (flat bytes_of body)) BYTES

-- what is stored can be held beside the held texts
pub record Storable (s : Pool) (p : Progress) : Type 0 where
  pub fits : fitting s p.body ≡ true
  pub fair : Each Fair p.body

-- stored where it fits; else nothing of the text is stored any more
abbrev pub stored : Pool → Reader → List Statement → Progress
stored s r body = if fitting s body then record { body = body; standing = S.Storing r } else record { body = []; standing = S.Overflowed r }

abbrev pub stopping : Fault → (line place : ℕ) → Progress
stopping q line place = record { body = []; standing = S.Faulted (in_line line (faulty q place)) }

abbrev pub storing_line : Pool → Reader → List Statement → Outcome → (number : ℕ) → Progress
storing_line s r body (next after es) number = stored s after (extended r body es)
storing_line s r body (fault q k) number = stopping q number k

abbrev pub overflowed_line : List Statement → Outcome → (number : ℕ) → Progress
overflowed_line body (next after es) number = record { body = body; standing = S.Overflowed after }
overflowed_line body (fault q k) number = stopping q number k

abbrev pub by_standing : Pool → List Statement → Standing → (number : ℕ) → List ℕ → Progress
by_standing s body (S.Storing r) number line = storing_line s r body (answered r line) number
by_standing s body (S.Overflowed r) number line = overflowed_line body (answered r line) number
by_standing s body (S.Faulted f) number line = record { body = body; standing = S.Faulted f }

-- line `number` of the text that is open beside the held ones
unfoldable pub complete : Pool → Progress → (number : ℕ) → List ℕ → Progress
unfolding extended fitting
complete s p number line = by_standing s p.body p.standing number line
