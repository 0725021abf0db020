-- Demand 3: "After any sequence of calls every answer equals that of an empty pool into which only the texts still held are loaded, in the
-- order of their latest accepted load; a variable is its last direct assignment followed by all later appendings, or all appendings."
-- Definitions only.
use Rattle.std.specs.Prelude.{ℕ, ◌-◌, ◌≡◌, List, [], map, Float, take, get_or, Ok}
use Rattle.std.specs.Float.{binary64}
use Rattle.std.specs.Float.Ieee.{of_bits}
use Rattle.layout.specs.State.{Pool, program}
use Rattle.variables.specs.Variables as D
use Rattle.variables.specs.Variables.{Datum}
use Rattle.promises.specs.Calls.{Call, fetch, fetch_string, fetched, spelled, Build}
use Rattle.promises.specs.Histories.{after, Fresh, Typed, Replay, texts, OfHeldTexts}
use Rattle.promises.specs.Sentence.{Said}

-- these doubles are the values of the name, as the sentence has them, and all of them are numbers
pub record Spoken (name : List ℕ) (s : Pool) (xs : List Float) : Type 0 where
  pub bits : List ℕ
  pub said : Said name (program s) (map D.number bits)
  pub are : xs ≡ map (of_bits binary64) bits

-- these bytes are the string at the place among the values of the name, as the sentence has them
pub record SpokenAt (name : List ℕ) (place : ℕ) (s : Pool) (bytes : List ℕ) : Type 0 where
  pub values : List Datum
  pub said : Said name (program s) values
  pub there : get_or values (place - 1) (D.string []) ≡ D.string bytes

pub record Demand3 (b : Build) : Type 0 where
  pub replay : Replay b
  pub held : OfHeldTexts b
  pub sentence :
      (m : List ℕ) → Fresh b m → (history : List Call) (name : List ℕ) (buffer left : List Float) (n : ℕ) → Typed history
      → b.answer (fetch name buffer) (after b history m) ≡ fetched (Ok n) left
      → Spoken name (texts b history m) (take n left)
  pub strings :
      (m : List ℕ) → Fresh b m → (history : List Call) (name : List ℕ) (place : ℕ) (buffer left : List ℕ) (n : ℕ) → Typed history
      → b.answer (fetch_string name place buffer) (after b history m) ≡ spelled (Ok n) left
      → SpokenAt name place (texts b history m) (take n left)
