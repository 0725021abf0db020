-- The closing of an open text is done, or refused with a number that is not 8 and not 15, and with a line only where it points: each end of the text by
-- itself. Assumes nothing.
use Prim.Native.Nat.{ℕ}
use mathlib.Core.Path.{◌≡◌, refl, sym, ◌∙◌}
use mathlib.Core.Bool.{Bool, true, false}
use lib.Dec.{ltb}
use lib.ListN.{length}
use Rattle.std.specs.Prelude.{if◌then◌else◌}
use Rattle.plain.proofs.Tests.{true-false}
use Rattle.refusal.specs.Numbers.{number_of}
use Rattle.refusal.specs.declared.Refusal.TheVariants.{TextTooLong}
use Rattle.value.specs.Faults.{refusal_of}
use Rattle.value.specs.declared.faults.Fault.{Fault}
use Rattle.value.specs.declared.faults.Fault.TheVariants as F
use Rattle.statement.specs.declared.values.Reader.{Reader}
use Rattle.statement.specs.declared.values.Reader.TheVariants as H
use Rattle.layout.specs.State.{Pool}
use Rattle.layout.specs.Limits.{TEXTS}
use Rattle.pool.specs.Replies.{Reply, reply_number, reply_line, reply_column, done, refusing}
use Rattle.feeding.specs.Parts.{MOST, Open}
use Rattle.bookmark.specs.declared.mark.Standing.{Standing}
use Rattle.bookmark.specs.declared.mark.Standing.TheVariants as S
use Rattle.opening.specs.Storing.{Progress}
use Rattle.opening.specs.Closing.{at_end, end_reply, closed, close_answer}
use Rattle.promises.specs.Calls.{close_load, ends_open}
use Rattle.promises.specs.Demands.{points}

-- a closing's refusal ends the open text
abbrev pub Ends : Reply → Type 0
Ends r = done r ≡ false → ends_open close_load (reply_number r) ≡ true

-- a reply has a line and a column only with a number that points
pub record Lined (r : Reply) : Type 0 where
  pub others : points (reply_number r) ≡ false → (reply_line r ≡ 0) × (reply_column r ≡ 0)

pub record Told (r : Reply) : Type 0 where
  pub ends : Ends r
  pub lined : Lined r

fault-ends : (q : Fault) → ends_open close_load (number_of (refusal_of q)) ≡ true
fault-ends F.TooLong = refl
fault-ends F.BadByte = refl
fault-ends F.BadName = refl
fault-ends F.NoOperator = refl
fault-ends F.BadValue = refl
fault-ends F.OpenList = refl
fault-ends F.RestOfLine = refl
fault-ends F.OutsideClass = refl

pub fault-number : (q : Fault) → points (number_of (refusal_of q)) ≡ true
fault-number F.TooLong = refl
fault-number F.BadByte = refl
fault-number F.BadName = refl
fault-number F.NoOperator = refl
fault-number F.BadValue = refl
fault-number F.OpenList = refl
fault-number F.RestOfLine = refl
fault-number F.OutsideClass = refl

end-told : (r : Reader) (number long : ℕ) (fits : Bool) → Told (at_end r number long fits)
end-told H.Text number long true = record { ends = λ e. true-false e; lined = record { others = λ e. (refl, refl) } }
end-told H.Text number long false = record { ends = λ e. refl; lined = record { others = λ e. (refl, refl) } }
end-told H.Data number long true = record { ends = λ e. true-false e; lined = record { others = λ e. (refl, refl) } }
end-told H.Data number long false = record { ends = λ e. refl; lined = record { others = λ e. (refl, refl) } }
end-told (H.List k) number long fits = record { ends = λ e. refl; lined = record { others = λ e. true-false e } }

standing-told : (s : Pool) (x : Standing) (number long : ℕ) → Told (end_reply s x number long)
standing-told s (S.Storing r) number long = end-told r number long (ltb (length s) TEXTS)
standing-told s (S.Overflowed r) number long = end-told r number long false
standing-told s (S.Faulted f) number long =
    record { ends = λ e. fault-ends f.fault; lined = record { others = λ e. true-false (sym (fault-number f.fault) ∙ e) } }

pub told : (s : Pool) (o : Open Progress) → Told (close_answer s o)
unfolding close_answer
told s o = by (ltb MOST o.bytes)
  where
    by : (b : Bool) → Told (if b then refusing TextTooLong else end_reply s (closed s o).progress.standing (closed s o).number (closed s o).long)
    by true = record { ends = λ e. refl; lined = record { others = λ e. (refl, refl) } }
    by false = standing-told s (closed s o).progress.standing (closed s o).number (closed s o).long
