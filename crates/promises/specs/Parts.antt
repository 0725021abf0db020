-- "Cut anywhere, also inside a delimiter or between CR and LF, the outcome at closing is that of one load of the joined bytes, with 4,194,304
-- bytes as the limit here." Of any build. Definitions only.
use Rattle.std.specs.Prelude.{ℕ, ◌≤◌, ◌≡◌, true, List, ◌++◌, length, if◌then◌else◌}
use Rattle.layout.specs.Limits.{LONGEST_LOAD}
use Rattle.layout.specs.Memory.{decode}
use Rattle.loading.specs.Load.{text_of, with}
use Rattle.pool.specs.Replies.{done}
use Rattle.feeding.specs.Parts.{joined}
use Rattle.opening.specs.Closing.{loaded_answer}
use Rattle.intake.specs.Calls.{are_bytes}
use Rattle.promises.specs.Calls as C
use Rattle.promises.specs.Calls.{Build, accepted}
use Rattle.promises.specs.Histories.{fed_under}

pub record CutAnywhere (b : Build) : Type 0 where
  -- the answer at closing, and the texts then held
  pub answers :
      (label : ℕ) (parts : List (List ℕ)) (m : List ℕ) → are_bytes (joined parts) ≡ true → accepted (b.answer (C.open_load label) m) ≡ true
      → b.answer C.close_load (fed_under b label parts m) ≡ C.replied (loaded_answer label (joined parts) (decode m))
  pub texts :
      (label : ℕ) (parts : List (List ℕ)) (m : List ℕ) → are_bytes (joined parts) ≡ true → accepted (b.answer (C.open_load label) m) ≡ true
      → decode (b.memory C.close_load (fed_under b label parts m))
      ≡ (if done (loaded_answer label (joined parts) (decode m)) then with (decode m) (text_of label (joined parts)) else decode m)
  -- within the limit of a load they are those of one
  pub as_loaded :
      (label : ℕ) (parts : List (List ℕ)) (m : List ℕ) → are_bytes (joined parts) ≡ true → accepted (b.answer (C.open_load label) m) ≡ true → length (joined parts) ≤ LONGEST_LOAD
      → (b.answer C.close_load (fed_under b label parts m) ≡ b.answer (C.load label (joined parts)) m)
      × (decode (b.memory C.close_load (fed_under b label parts m)) ≡ decode (b.memory (C.load label (joined parts)) m))
  -- "Until closing, queries see the pool as it stood at opening"
  pub until_closing :
      (label : ℕ) (parts : List (List ℕ)) (m : List ℕ) → are_bytes (joined parts) ≡ true → accepted (b.answer (C.open_load label) m) ≡ true
      → (c : C.Call) → C.query c ≡ true → b.answer c (fed_under b label parts m) ≡ b.answer c m
  -- two parts leave what their join leaves, word for word
  pub joins :
      (part more m : List ℕ) → are_bytes part ≡ true
      → b.memory (C.feed_part more) (b.memory (C.feed_part part) m) ≡ b.memory (C.feed_part (part ++ more)) m
