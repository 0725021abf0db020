-- Names as a pool's memory has them, four words each, told by their places; and places in the order of the names. Definitions only.
use Rattle.std.specs.Prelude.{ℕ, zero, suc, ◌+◌, ◌-◌, ◌*◌, ◌/◌, ◌≤◌, ◌<◌, ◌≡◌, true, List, [], ◌∷◌, map, ltb, length, take, drop, if◌then◌else◌, Option, None, Some}
use Rattle.plain.specs.Lists.{equal}
use Rattle.words.specs.Over.{over, part}
use Rattle.words.specs.Halves.{all}
use Rattle.names.specs.Names.{NAMEWORDS, unpacked, holds_name}
use Rattle.order.specs.Order.{before, inserted}

-- ---- names in words

-- how many names some words hold
abbrev pub name_count : List ℕ → ℕ
name_count ws = length ws / NAMEWORDS

-- the words of the name at a place, and the name
abbrev pub words_at : List ℕ → ℕ → List ℕ
words_at ws place = part (NAMEWORDS * place) NAMEWORDS ws

abbrev pub name_at : List ℕ → ℕ → List ℕ
name_at ws place = unpacked (words_at ws place)

-- the first so many names, in turn
unfoldable pub cut_names : (count : ℕ) → List ℕ → List (List ℕ)
cut_names zero ws = []
cut_names (suc k) ws = unpacked (take NAMEWORDS ws) ∷ cut_names k (drop NAMEWORDS ws)

-- names in byte order, each once
unfoldable pub ordered : List (List ℕ) → List (List ℕ)
unfolding inserted
ordered [] = []
ordered (n ∷ ns) = inserted n (ordered ns)

-- every place has a legal name
pub record Legible (ws : List ℕ) : Type 0 where
  pub legible : (place : ℕ) → place < name_count ws → holds_name (words_at ws place) ≡ true

-- ---- places

-- the names at the first places of a list
abbrev pub names_at : (ws : List ℕ) (held : ℕ) (places : List ℕ) → List (List ℕ)
names_at ws held places = map (name_at ws) (take held places)

-- the first ones are places of names
pub record Places (ws : List ℕ) (held : ℕ) (places : List ℕ) : Type 0 where
  pub few : held ≤ length places
  pub within : all (λ p. ltb p (name_count ws)) (take held places) ≡ true

-- where a name belongs among names in order, and none where it is one of them
abbrev pub later : ℕ → Option ℕ → Option ℕ
later k (Some j) = Some (k + j)
later k None = None

unfoldable pub spot : List ℕ → List (List ℕ) → Option ℕ
unfolding before
spot n [] = Some 0
spot n (k ∷ ks) = if before n k then Some 0 else (if equal n k then None else later 1 (spot n ks))

-- what finding the spot of the name at a place needs, among the names at some places
pub record Spotting (ws : List ℕ) (place : ℕ) (ps : List ℕ) : Type 0 where
  pub names : Legible ws
  pub places : Places ws (length ps) ps
  pub named : place < name_count ws

-- a place is put among the first ones, those from there on moving up by one
abbrev pub raised : (at held place : ℕ) → List ℕ → List ℕ
raised at held place places = over at (place ∷ part at (held - at) places) places

-- one name more: what it needs, and what it gives
pub record Inserting (ws : List ℕ) (held place : ℕ) (ps : List ℕ) : Type 0 where
  pub names : Legible ws
  pub places : Places ws held ps
  pub named : place < name_count ws
  pub room : held < length ps

pub record Inserts (ws : List ℕ) (held place : ℕ) (before : List ℕ) (r : ℕ) (after : List ℕ) : Type 0 where
  pub places : Places ws r after
  pub few : r ≤ held + 1
  pub sized : length after ≡ length before
  pub names : names_at ws r after ≡ inserted (name_at ws place) (names_at ws held before)

-- all of them
pub record Ordering (ws ps : List ℕ) : Type 0 where
  pub names : Legible ws
  pub room : name_count ws ≤ length ps

pub record Orders (ws : List ℕ) (before : List ℕ) (r : ℕ) (after : List ℕ) : Type 0 where
  pub places : Places ws r after
  pub few : r ≤ name_count ws
  pub sized : length after ≡ length before
  pub names : names_at ws r after ≡ ordered (cut_names (name_count ws) ws)
