-- "Curators fear that a caption moves a globe": a caption's text, and what is claimed of it. Definitions only.
use Rattle.std.specs.Prelude.{ℕ, ◌≡◌, true, false, List, [], ◌∷◌, ◌++◌, Ok}
use Rattle.std.specs.Float.{binary64}
use Rattle.std.specs.Float.Ieee.{to_bits}
use Rattle.plain.specs.Ascii.{ascii}
use Rattle.plain.specs.Doubles.{printed}
use Rattle.statement.specs.Statements.{numbers, strings, Statement}
use Rattle.statement.specs.declared.head.Operator.TheVariants.{Direct}
use Rattle.layout.specs.State.{Pool}
use Rattle.layout.specs.Memory.{decode, opens}
use Rattle.layout.specs.Damage.{sound}
use Rattle.loading.specs.Load.{text_of}
use Rattle.feeding.specs.Parts.{joined}
use Rattle.promises.specs.Ascii.{in_data}
use Rattle.promises.specs.Calls.{load, close_load, remove, replied, Build}
use Rattle.promises.specs.Histories.{whole, in_parts, coming, after, fed_under, Fresh}
use Rattle.reads.specs.Names.{Query}
use Rattle.unread.specs.Unread.{call}

-- a string, and where it stands on the panel
unfoldable pub caption : List ℕ
caption = in_data "CAPTION = 'Mars'\nCAPTION_PLACE = ( 40.5, 3 )\n"

-- what it states
abbrev pub caption_states : List Statement
caption_states =
    record { name = ascii "CAPTION"; operator = Direct; values = strings (ascii "Mars" ∷ []) }
    ∷ record {
      name = ascii "CAPTION_PLACE";
      operator = Direct;
      values = numbers (to_bits binary64 (printed 405 1) ∷ to_bits binary64 (printed 3 0) ∷ []);
    }
    ∷ []

-- an empty pool takes it, under any label, and in parts wherever it is cut
pub record CaptionAccepted (b : Build) : Type 0 where
  pub stated : (label : ℕ) → (text_of label caption).body ≡ caption_states
  pub loaded : (m : List ℕ) → Fresh b m → (label : ℕ) → b.answer (load label caption) m ≡ replied (Ok tt)
  pub fed :
      (m : List ℕ) → Fresh b m → (label : ℕ) (parts : List (List ℕ)) → joined parts ≡ caption
      → b.answer close_load (fed_under b label parts m) ≡ replied (Ok tt)

-- no answer about a globe changes, whatever the label, and in parts wherever it is cut
pub record CaptionMovesNothing (b : Build) : Type 0 where
  pub loaded : (q : Query) (m : List ℕ) → sound m ≡ true → (label : ℕ) → b.answer (call q) (b.memory (load label caption) m) ≡ b.answer (call q) m
  pub fed :
      (q : Query) (m : List ℕ) → sound m ≡ true → opens m ≡ false → (label : ℕ) (parts : List (List ℕ)) → joined parts ≡ caption
      → b.answer (call q) (after b (coming label (in_parts parts)) m) ≡ b.answer (call q) m
  -- held at any place and taken out; brought again; held at another place
  pub removed :
      (q : Query) (m : List ℕ) → sound m ≡ true → (label : ℕ) (front back : Pool) → decode m ≡ front ++ (text_of label caption ∷ back)
      → b.answer (call q) (b.memory (remove label) m) ≡ b.answer (call q) m
  pub reloaded :
      (q : Query) (m : List ℕ) → sound m ≡ true → (label : ℕ) (front back : Pool) → decode m ≡ front ++ (text_of label caption ∷ back)
      → b.answer (call q) (after b (remove label ∷ coming label (whole caption)) m) ≡ b.answer (call q) m
  pub refed :
      (q : Query) (m : List ℕ) → sound m ≡ true → opens m ≡ false → (label : ℕ) (front back : Pool) → decode m ≡ front ++ (text_of label caption ∷ back)
      → (parts : List (List ℕ)) → joined parts ≡ caption
      → b.answer (call q) (after b (remove label ∷ coming label (in_parts parts)) m) ≡ b.answer (call q) m
  pub moved :
      (q : Query) (m m' : List ℕ) → sound m ≡ true → sound m' ≡ true → (label : ℕ) (front middle back : Pool)
      → decode m ≡ front ++ (text_of label caption ∷ (middle ++ back)) → decode m' ≡ front ++ (middle ++ (text_of label caption ∷ back))
      → b.answer (call q) m ≡ b.answer (call q) m'
