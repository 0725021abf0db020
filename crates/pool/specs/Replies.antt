-- "Success is number 0 with line 0, and fetch also tells the count (0 when refused). A refusal returns its number, for 3 to 6 the line
-- (0 for all others), and no values; pool and buffers keep every byte." "give the column, counted from 1, beside the line for 3 to 6 and all
-- the new ones." Definitions only.
use Rattle.std.specs.Prelude.{ℕ, Bool, true, false, Result, Ok, Err}
use Rattle.refusal.specs.Numbers.{SUCCESS, number_of}
use Rattle.refusal.specs.declared.Refusal.{Refusal}
use Rattle.pool.specs.declared.reply.Refused.{Refused}
use Rattle.pool.specs.declared.reply.Counts.{Counts}
use Rattle.pool.specs.Refusing.{plain}

-- ---- calls that change the pool

abbrev pub Reply : Type 0
Reply = Result (Unit {0}) Refused

abbrev pub reply_number : Reply → ℕ
reply_number (Ok u) = SUCCESS
reply_number (Err e) = number_of e.refusal

abbrev pub reply_line : Reply → ℕ
reply_line (Ok u) = 0
reply_line (Err e) = e.line

abbrev pub reply_column : Reply → ℕ
reply_column (Ok u) = 0
reply_column (Err e) = e.column

abbrev pub done : Reply → Bool
done (Ok u) = true
done (Err e) = false

-- a refusal that has no line and no column
abbrev pub refusing : Refusal → Reply
refusing q = Err (plain q)

-- a refusal for a fault in a text
abbrev pub refusing_at : Refusal → (line column : ℕ) → Reply
refusing_at q line column = Err (record { refusal = q; line = line; column = column })

-- ---- fetch: how many values were written, or how many bytes of a string

abbrev pub Fetched : Type 0
Fetched = Result ℕ Refusal

abbrev pub fetched_number : Fetched → ℕ
fetched_number (Ok n) = SUCCESS
fetched_number (Err q) = number_of q

abbrev pub fetched_count : Fetched → ℕ
fetched_count (Ok n) = n
fetched_count (Err q) = 0

-- ---- totals

abbrev pub Counted : Type 0
Counted = Result Counts Refusal

abbrev pub counts_number : Counted → ℕ
counts_number (Ok c) = SUCCESS
counts_number (Err q) = number_of q

abbrev pub counts_texts : Counted → ℕ
counts_texts (Ok c) = c.texts
counts_texts (Err q) = 0

abbrev pub counts_statements : Counted → ℕ
counts_statements (Ok c) = c.statements
counts_statements (Err q) = 0

abbrev pub counts_values : Counted → ℕ
counts_values (Ok c) = c.values
counts_values (Err q) = 0
