-- An open text beside the memory of its pool: "any fault is told at closing only", and until then each complete line that is fine and fits is
-- stored behind the held statements. Definitions only.
use Rattle.std.specs.Prelude.{ℕ, ◌+◌, ◌*◌, List, length, take, drop}
use Rattle.words.specs.Over.{part}
use Rattle.octets.specs.Octets.{octets}
use Rattle.names.specs.Names.{NAMEWORDS}
use Rattle.layout.specs.Limits.{HEADS_AT, NAMES_AT, VALUES_AT, BYTES_AT, BYTEWORDS}
use Rattle.statement.specs.Statements.{Statement}
use Rattle.layout.specs.State.{Pool, flat, values_of, bytes_of}
use Rattle.layout.specs.Memory.{statement_count, value_count, byte_count, cut_statements, decode, laid_behind}
use Rattle.bookmark.specs.declared.mark.Entered.{Entered}
use Rattle.opening.specs.Storing.{Progress, complete}

-- the memory, and what the complete lines came to: how they stand, and how much of them is stored
pub record Entry : Type 0 where
  pub memory : List ℕ
  pub entered : Entered

abbrev pub entry : (m : List ℕ) → Entered → Entry
entry m e = record { memory = m; entered = e }

-- its statements so far, cut out of what stands behind the held ones
abbrev pub body_behind : (statements values bytes : ℕ) → List ℕ → List Statement
body_behind n k b m =
    cut_statements
    (part (HEADS_AT + statement_count m) n m)
    (part (NAMES_AT + NAMEWORDS * statement_count m) (NAMEWORDS * n) m)
    (part (VALUES_AT + value_count m) k m)
    (take b (drop (byte_count m) (octets (part BYTES_AT BYTEWORDS m))))

abbrev pub body_of : Entry → List Statement
body_of e = body_behind e.entered.statements e.entered.values e.entered.bytes e.memory

abbrev pub progress_of : Entry → Progress
progress_of e = record { body = body_of e; standing = e.entered.standing }

-- the statements written behind those of the pool s, and counted
abbrev pub entering : Pool → Progress → List ℕ → Entry
entering s p m =
    record {
      memory = laid_behind s p.body m;
      entered = record {
        standing = p.standing;
        statements = length p.body;
        values = length (flat values_of p.body);
        bytes = length (flat bytes_of p.body);
      };
    }

-- line `number` of the text is complete
unfoldable pub complete_on : Entry → (number : ℕ) → (line : List ℕ) → Entry
unfolding complete laid_behind
complete_on e number line =
    entering (decode e.memory) (complete (decode e.memory) (progress_of e) number line) e.memory
