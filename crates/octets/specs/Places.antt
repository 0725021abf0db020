-- Places of bytes that the words have. Definitions only.
use Rattle.std.specs.Prelude.{ℕ, ◌+◌, ◌*◌, ◌≤◌, List, ◌≡◌, length}
use Rattle.words.specs.Over.{part}
use Rattle.octets.specs.Octets.{octets, inked}

-- the words have n bytes from place `at` on
pub record Has (at n : ℕ) (ws : List ℕ) : Type 0 where
  pub fits : at + n ≤ 8 * length ws

-- they have them, and the buffer has room for them
pub record Copies (from n : ℕ) (ws out : List ℕ) : Type 0 where
  pub fits : from + n ≤ 8 * length ws
  pub room : n ≤ length out

-- they have them, and they are moved down
pub record Lowers (to from n : ℕ) (ws : List ℕ) : Type 0 where
  pub down : to ≤ from
  pub fits : from + n ≤ 8 * length ws

-- some of n bytes are moved down, and how many is answered
pub record MovesSome (to from n : ℕ) (before : List ℕ) (r : ℕ) (after : List ℕ) : Type 0 where
  pub some : 1 ≤ r
  pub most : r ≤ n
  pub output : after ≡ inked to (part from r (octets before)) before

-- a memory has n words from place `area` on, and among their bytes some are moved down
pub record LowersIn (area n to from count : ℕ) (m : List ℕ) : Type 0 where
  pub inside : area + n ≤ length m
  pub down : to ≤ from
  pub fits : from + count ≤ 8 * n
