-- "A refusal returns its number .. and no values": the answers of the two calls as numbers; position, target and move are 0 where there are
-- none. Definitions only.
use Rattle.std.specs.Prelude.{ℕ, ℤ, pos, Result, Ok, Err}
use Rattle.drive.specs.declared.answer.Motion.{Motion}
use Rattle.refusal.specs.declared.Refusal.{Refusal}
use Rattle.refusal.specs.Numbers.{SUCCESS, number_of}

abbrev pub placed_number : Result ℕ Refusal → ℕ
placed_number (Ok n) = SUCCESS
placed_number (Err q) = number_of q

abbrev pub placed_position : Result ℕ Refusal → ℕ
placed_position (Ok n) = n
placed_position (Err q) = 0

abbrev pub moved_number : Result Motion Refusal → ℕ
moved_number (Ok m) = SUCCESS
moved_number (Err q) = number_of q

abbrev pub moved_target : Result Motion Refusal → ℕ
moved_target (Ok m) = m.target
moved_target (Err q) = 0

abbrev pub moved_move : Result Motion Refusal → ℤ
moved_move (Ok m) = m.way
moved_move (Err q) = pos 0
