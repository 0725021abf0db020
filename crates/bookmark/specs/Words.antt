-- The thirty words that keep where an open text stands: what is written for one, and what any thirty words say. Definitions only.
use Rattle.std.specs.Prelude.{ℕ, ◌%◌, Bool, true, false, List, [], ◌∷◌, ◌++◌, eqb, length, take, drop, get_or}
use Rattle.octets.specs.Octets.{octets, packed}
use Rattle.feeding.specs.Parts.{Open}
use Rattle.bookmark.specs.declared.mark.Entered.{Entered}
use Rattle.bookmark.specs.Limits.{NUMBERWORDS, LINEWORDS, COUNTS, LENGTHS}
use Rattle.bookmark.specs.Numbers.{standing_words, standing_of}

-- a text is open
abbrev pub OPEN : ℕ
OPEN = 1

abbrev pub bit : Bool → ℕ
bit true = 1
bit false = 0

-- the numbers; how many statements there are is not among them, but stands in the open text's word behind those of the held texts
unfoldable pub number_words : Open Entered → List ℕ
unfolding standing_words
number_words o =
    OPEN ∷ o.progress.values ∷ o.progress.bytes ∷ standing_words o.progress.standing
    ++ o.number ∷ o.long ∷ length o.kept ∷ bit o.pending ∷ o.bytes ∷ []

-- the line that goes on, eight bytes to a word, the first one highest, zeros behind them
unfoldable pub open_words : Open Entered → List ℕ
unfolding number_words packed
open_words o = number_words o ++ packed LINEWORDS o.kept

-- what the words say, the number of statements given; it is an open text where word 0 is not 0
unfoldable pub read_open : (statements : ℕ) → (ws : List ℕ) → Open Entered
unfolding standing_of octets
read_open statements ws =
    record {
      progress =
          record {
            standing = standing_of (get_or ws 3 0) (get_or ws 4 0) (get_or ws 5 0) (get_or ws 6 0) (get_or ws 7 0);
            statements = statements;
            values = get_or ws 1 0;
            bytes = get_or ws 2 0;
          };
      number = get_or ws 8 0 % COUNTS;
      long = get_or ws 9 0 % LENGTHS;
      kept = take (get_or ws 10 0) (octets (drop NUMBERWORDS ws));
      pending = eqb (get_or ws 11 0 % 2) 1;
      bytes = get_or ws 12 0;
    }
