-- The totals as numbers of their own, and a memory under totals that are not its own: so each condition is asked by one function of a memory as it
-- stands, and of the memory with the open text "put after the held ones". Definitions only.
use Rattle.std.specs.Prelude.{ℕ, ◌+◌, ◌≤◌, ◌≡◌, Bool, ◌&&◌, List, [], ◌∷◌, eqb, leb, length}
use Rattle.words.specs.Over.{over}
use Rattle.words.specs.Halves.{HALF, upper, lower, sum, distinct, all}
use Rattle.layout.specs.Limits.{TEXTS, STATEMENTS, VALUES, BYTES, TEXTWORDS, WORDS}
use Rattle.layout.specs.Memory.{text_count, statement_count, value_count, byte_count, open_statements, open_values, open_bytes}
use Rattle.layout.specs.Damage.{Framed, all_named, all_fit, total_bytes}
use Rattle.layout.specs.declared.front.Totals.{Totals}

abbrev pub under : Totals → List ℕ → List ℕ
under t m = over 0 (t.texts ∷ t.statements ∷ t.values ∷ t.bytes ∷ []) m

-- those that a memory holds, and those with the open text's beside them: `merged m` is m under these
abbrev pub own_totals : List ℕ → Totals
own_totals m = record { texts = text_count m; statements = statement_count m; values = value_count m; bytes = byte_count m }

abbrev pub merged_totals : List ℕ → Totals
merged_totals m =
    record {
      texts = text_count m + 1;
      statements = statement_count m + open_statements m;
      values = value_count m + open_values m;
      bytes = byte_count m + open_bytes m;
    }

-- "totals within the limits", of so many texts
abbrev pub within : (most : ℕ) → Totals → Bool
within most t = leb t.texts most && leb t.statements STATEMENTS && leb t.values VALUES && leb t.bytes BYTES

-- "every statement's count at least 1 and the counts adding up to the total"
abbrev pub sums : (heads : List ℕ) → (total : ℕ) → Bool
sums hs n = all (λ h. leb 1 (lower h)) hs && eqb (sum hs) n

-- the conditions on the words in use of each area, but for the strings' bytes: of labels, names and operators, and of the counts
abbrev pub names_asked : (texts heads names : List ℕ) → Bool
names_asked ws hs ns = distinct ws && all_named hs ns && all (λ h. leb (upper h) 3) hs

abbrev pub counts_asked : (texts heads values : List ℕ) → Totals → Bool
counts_asked ws hs vs t = sums hs t.values && (eqb (sum ws) t.statements && all_fit hs vs && eqb (total_bytes hs vs) t.bytes)

-- few enough to be summed, and as many values as are counted
pub record Countable (ws hs vs : List ℕ) (t : Totals) : Type 0 where
  pub texts : length ws ≤ HALF
  pub heads : length hs ≤ HALF
  pub values : length vs ≡ t.values
  pub few : t.values ≤ HALF

-- what asking the conditions requires
pub record Sizes (most : ℕ) (m : List ℕ) : Type 0 where
  pub words : length m ≡ WORDS
  pub few : most ≤ TEXTWORDS

-- what reading the open text's words requires: its own stands behind those of the held texts
pub record Behind (m : List ℕ) : Type 0 where
  pub sizes : Framed m
  pub few : text_count m ≤ TEXTS

-- so that its counts can be added to the totals
pub record Addable (m : List ℕ) : Type 0 where
  pub behind : Behind m
  pub values : open_values m ≤ VALUES
  pub bytes : open_bytes m ≤ BYTES
