-- The limits that an open text keeps to: what any thirty words say keeps to them, where the two that can damage a pool do, and what keeps to them
-- is written in words of 64 bits. Assumes nothing.
use Prim.Native.Nat.{ℕ, ◌+◌, ◌%◌, ◌≤◌, ◌<◌}
use native.Mathlib.Omega.{arith}
use mathlib.Core.Bool.{Bool, true, false}
use mathlib.Core.List.{List}
use lib.Dec.{eqb, lit<}
use lib.ListN.{length, drop, get_or, length-take}
use Rattle.std.specs.Prelude.{if◌then◌else◌}
use Rattle.plain.proofs.Each.{each_append, each_take}
use Rattle.words.proofs.Each.{WORD, Words}
use Rattle.octets.specs.Octets.{octets, packed}
use Rattle.octets.proofs.Bytes.{Bytes, bytes-octets, words-packed}
use Rattle.feeding.specs.Kept.{ROOM}
use Rattle.feeding.specs.Parts.{MOST, Open}
use Rattle.value.specs.declared.faults.Fault.{Fault}
use Rattle.value.specs.declared.faults.Fault.TheVariants as F
use Rattle.statement.specs.declared.values.Kind.TheVariants as K
use Rattle.statement.specs.declared.values.Reader.{Reader}
use Rattle.statement.specs.declared.values.Reader.TheVariants as R
use Rattle.bookmark.specs.declared.mark.Entered.{Entered}
use Rattle.bookmark.specs.declared.mark.Standing.{Standing}
use Rattle.bookmark.specs.declared.mark.Standing.TheVariants as S
use Rattle.bookmark.specs.Limits.{NUMBERWORDS, LINEWORDS, COUNTS, PLACES}
use Rattle.bookmark.specs.Numbers.{STORING, OVERFLOWED, reader_number, reader_of, fault_number, fault_of, standing_words, standing_of}
use Rattle.bookmark.specs.Words.{bit, number_words, open_words, read_open}
use Rattle.bookmark.proofs.Numbered.{InLine}

pub record Within (o : Open Entered) : Type 0 where
  pub standing : InLine o.progress.standing
  pub number : o.number ≤ MOST + 1
  pub long : o.long ≤ ROOM
  pub room : length o.kept ≤ ROOM
  pub kept : Bytes o.kept
  pub bytes : o.bytes ≤ MOST + 1

-- ---- what words say

module _ (way reader fault line place : ℕ) where
  standing-within : InLine (standing_of way reader fault line place)
  unfolding standing_of
  standing-within = by (eqb (way % 3) STORING) (eqb (way % 3) OVERFLOWED)
    where
      by : (s o : Bool)
          → InLine (if s then S.Storing (reader_of reader) else (if o then S.Overflowed (reader_of reader) else S.Faulted (record { fault = fault_of fault; line = line % COUNTS; place = place % PLACES })))
      by true o = tt
      by false true = tt
      by false false = (omega arith, omega arith)

pub read-within : (statements : ℕ) (ws : List ℕ) → get_or ws 10 0 ≤ ROOM → get_or ws 12 0 ≤ MOST + 1 → Within (read_open statements ws)
unfolding read_open
read-within statements ws h g =
    record {
      standing = standing-within (get_or ws 3 0) (get_or ws 4 0) (get_or ws 5 0) (get_or ws 6 0) (get_or ws 7 0);
      number = omega arith;
      long = omega arith;
      room = simp length-take (omega arith);
      kept = each_take (λ b. b < 256) (get_or ws 10 0) (octets (drop NUMBERWORDS ws)) (bytes-octets (drop NUMBERWORDS ws));
      bytes = g;
    }

-- ---- what is written

reader-below : (r : Reader) → reader_number r < WORD
reader-below R.Text = lit< tt
reader-below R.Data = lit< tt
reader-below (R.List K.Empty) = lit< tt
reader-below (R.List K.Numbers) = lit< tt
reader-below (R.List K.Strings) = lit< tt

fault-below : (q : Fault) → fault_number q < WORD
fault-below F.TooLong = lit< tt
fault-below F.BadByte = lit< tt
fault-below F.BadName = lit< tt
fault-below F.NoOperator = lit< tt
fault-below F.BadValue = lit< tt
fault-below F.OpenList = lit< tt
fault-below F.RestOfLine = lit< tt
fault-below F.OutsideClass = lit< tt

bit_below : (b : Bool) → bit b < WORD
bit_below true = lit< tt
bit_below false = lit< tt

standing-below : (s : Standing) → InLine s → Words (standing_words s)
unfolding standing_words
standing-below (S.Storing r) h = (lit< tt, (reader-below r, (lit< tt, (lit< tt, (lit< tt, tt)))))
standing-below (S.Overflowed r) h = (lit< tt, (reader-below r, (lit< tt, (lit< tt, (lit< tt, tt)))))
standing-below (S.Faulted f) h =
    (lit< tt, (lit< tt, (fault-below f.fault, (omega (arith, h.0), (omega (arith, h.1), tt)))))

pub words-below : (o : Open Entered) → Within o → o.progress.values < WORD → o.progress.bytes < WORD → Words (open_words o)
unfolding open_words number_words
words-below o w v b =
    each_append (λ x. x < WORD) (number_words o) (packed LINEWORDS o.kept) (
      lit< tt,
      (
        v,
        (
          b,
          each_append (λ x. x < WORD) (standing_words o.progress.standing) _ (standing-below o.progress.standing w.standing)
              (omega (arith, w.number), (omega (arith, w.long), (omega (arith, w.room), (bit_below o.pending, (omega (arith, w.bytes), tt))))),
        ),
      ),
    )
    (words-packed LINEWORDS o.kept w.kept)
