-- Where a closing points: its text's lines are counted to one past the limit, and the last one is kept to 133 bytes, so that its answer has a line
-- and a column within these. Assumes nothing.
use Prim.Native.Nat.{ℕ, ◌+◌, ◌≤◌}
use native.Mathlib.Omega.{arith}
use mathlib.Core.Path.{◌≡◌, refl}
use mathlib.Core.Bool.{Bool, true, false}
use mathlib.Core.List.{List}
use borrow.Author.Tests.{ltb-false}
use lib.Dec.{ltb}
use lib.ListN.{length}
use Rattle.std.specs.Prelude.{if◌then◌else◌}
use Rattle.plain.specs.Runs.{none}
use Rattle.refusal.specs.declared.Refusal.TheVariants.{TextTooLong}
use Rattle.statement.specs.declared.values.Reader.{Reader}
use Rattle.statement.specs.declared.values.Reader.TheVariants as R
use Rattle.layout.specs.State.{Pool}
use Rattle.layout.specs.Limits.{TEXTS}
use Rattle.layout.specs.Memory.{decode, opens}
use Rattle.layout.specs.Damage.{sound}
use Rattle.pool.specs.Replies.{Reply, reply_line, reply_column, refusing}
use Rattle.feeding.specs.Kept.{ROOM, settled}
use Rattle.feeding.specs.Parts.{MOST, Open, Ended, more, lastly}
use Rattle.feeding.proofs.Going.{settled-room}
use Rattle.bookmark.specs.declared.mark.Standing.{Standing}
use Rattle.bookmark.specs.declared.mark.Standing.TheVariants as S
use Rattle.bookmark.proofs.Numbered.{InLine}
use Rattle.opening.specs.Storing.{Progress, complete}
use Rattle.opening.specs.Closing.{at_end, end_reply, closed, close_answer}
use Rattle.intake.specs.Opened.{state_in}
use Rattle.keeping.proofs.Places.{in-line}
use Rattle.keeping.proofs.ReadOpened.{open_kept, open-numbers}

pub record Pointing (r : Ended Progress) : Type 0 where
  pub in-line : InLine r.progress.standing
  pub number : r.number ≤ MOST + 1
  pub long : r.long ≤ ROOM

pub record Near (r : Reply) : Type 0 where
  pub line : reply_line r ≤ MOST + 1
  pub column : reply_column r ≤ ROOM + 1

more-most : (n : ℕ) → n ≤ MOST + 1 → more n ≤ MOST + 1
more-most n h = by (ltb MOST n) refl
  where
    by : (t : Bool) → ltb MOST n ≡ t → (if t then n else n + 1) ≤ MOST + 1
    by true e = h
    by false e = omega (arith, ltb-false MOST n e)

module _ (s : Pool) (o : Open Progress) (i : InLine o.progress.standing) (number : o.number ≤ MOST + 1) (long : o.long ≤ ROOM) (room : length o.kept ≤ ROOM) where
  abbrev line : List ℕ
  line = settled o.kept o.pending

  closed-pointing : Pointing (closed s o)
  unfolding lastly
  closed-pointing = by (none line)
    where
      by : (t : Bool)
          → Pointing (if t then record { progress = o.progress; number = o.number; long = o.long } else record { progress = complete s o.progress (more o.number) line; number = more o.number; long = length line })
      by true = record { in-line = i; number = number; long = long }
      by false = record {
        in-line = in-line s (more o.number) (more-most o.number number) o.progress line i;
        number = more-most o.number number;
        long = settled-room o.kept o.pending room;
      }

end-near : (r : Reader) (number long : ℕ) (fits : Bool) → number ≤ MOST + 1 → long ≤ ROOM → Near (at_end r number long fits)
end-near R.Text number long true n l = record { line = omega arith; column = omega arith }
end-near R.Text number long false n l = record { line = omega arith; column = omega arith }
end-near R.Data number long true n l = record { line = omega arith; column = omega arith }
end-near R.Data number long false n l = record { line = omega arith; column = omega arith }
end-near (R.List k) number long fits n l = record { line = n; column = omega arith }

standing-near : (s : Pool) (t : Standing) (number long : ℕ) → InLine t → number ≤ MOST + 1 → long ≤ ROOM → Near (end_reply s t number long)
standing-near s (S.Storing r) number long i n l = end-near r number long (ltb (length s) TEXTS) n l
standing-near s (S.Overflowed r) number long i n l = end-near r number long false n l
standing-near s (S.Faulted f) number long i n l = record { line = i.0; column = omega (arith, i.1) }

module _ (m : List ℕ) (e : sound m ≡ true) (o : opens m ≡ true) where
  pub end-pointing : Pointing (closed (decode m) (state_in m))
  end-pointing =
      let n = open-numbers m e o in
      closed-pointing (decode m) (state_in m) (open_kept m e o).in-line n.number n.long n.room

  pub close-near : Near (close_answer (decode m) (state_in m))
  unfolding close_answer
  close-near = by (ltb MOST (state_in m).bytes)
    where
      c : Ended Progress
      c = closed (decode m) (state_in m)

      by : (t : Bool) → Near (if t then refusing TextTooLong else end_reply (decode m) c.progress.standing c.number c.long)
      by true = record { line = omega arith; column = omega arith }
      by false = let p = end-pointing in standing-near (decode m) c.progress.standing c.number c.long p.in-line p.number p.long
