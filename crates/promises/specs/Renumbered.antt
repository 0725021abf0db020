-- "Every text that was refused 5 is refused with exactly one of the new numbers at the same line, and no other text is": the answer of a load
-- beside the one that the same text had before, when five kinds of fault had one number. Definitions only.
use Rattle.std.specs.Prelude.{ℕ, ◌≡◌, true, List, ◌↔◌, Ok, Err}
use Rattle.plain.specs.Bytes.{within}
use Rattle.refusal.specs.Numbers.{SUCCESS, number_of}
use Rattle.refusal.specs.Before.{SYNTAX, number_before}
use Rattle.refusal.specs.declared.Refusal.{Refusal}
use Rattle.loading.specs.Load.{load_reply}
use Rattle.pool.specs.Replies.{Reply, reply_line}
use Rattle.promises.specs.Calls.{Answer, load, Build, number, line}

-- a reply's number as it was told before
abbrev pub reply_before : Reply → ℕ
reply_before (Ok u) = SUCCESS
reply_before (Err e) = number_before e.refusal

-- an answer of a load, beside the number and the line that were told before
pub record Renumbers (before line_before : ℕ) (a : Answer) : Type 0 where
  pub five : (before ≡ SYNTAX) ↔ (within 17 21 (number a) ≡ true)
  pub others : (before ≡ SYNTAX → ⊥) → number a ≡ before
  pub lines : line a ≡ line_before

pub record Renumbered (b : Build) : Type 0 where
  pub loads : (label : ℕ) (bytes m : List ℕ) → Renumbers (reply_before (load_reply label bytes m)) (reply_line (load_reply label bytes m)) (b.answer (load label bytes) m)
  -- no two refusals share a number, so that a text has exactly one
  pub exactly_one : (p q : Refusal) → number_of p ≡ number_of q → p ≡ q
