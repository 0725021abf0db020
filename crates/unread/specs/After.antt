-- "loading, removing or re-ordering held texts that contain no statement of any name a given .. query may read .. leaves that query's answer the
-- same": after any sequence of calls on a pool that was just made empty, each by itself. Of any build. Definitions only.
use Rattle.std.specs.Prelude.{ℕ, ◌≡◌, true, false, List, [], ◌∷◌, ◌++◌}
use Rattle.layout.specs.State.{Text, Pool}
use Rattle.loading.specs.Load.{text_of}
use Rattle.feeding.specs.Parts.{joined}
use Rattle.intake.specs.Calls.{are_bytes}
use Rattle.promises.specs.Calls.{Call, Build, remove}
use Rattle.promises.specs.Histories.{whole, in_parts, coming, none, nothing, after, still, Fresh, Typed, texts}
use Rattle.reads.specs.Names.{Query, names}
use Rattle.unread.specs.Unread.{call, contains, contains_under}

-- the query answers after the history, and after it with further calls, the same
abbrev pub Unmoved : (b : Build) → Query → (m : List ℕ) (history further : List Call) → Type 0
Unmoved b q m history further = b.answer (call q) (after b (history ++ further) m) ≡ b.answer (call q) (after b history m)

pub record MovesNothingAfter (b : Build) : Type 0 where
  -- "loading", accepted or refused
  pub loaded :
      (q : Query) (m : List ℕ) → Fresh b m → (history : List Call) → Typed history → (label : ℕ) (bytes : List ℕ)
      → contains (names q) (text_of label bytes) ≡ false → Unmoved b q m history (coming label (whole bytes))
  -- the same in parts, where the history leaves none open
  pub fed :
      (q : Query) (m : List ℕ) → Fresh b m → (history : List Call) → Typed history → (still b history m nothing).opened ≡ none → (label : ℕ) (parts : List (List ℕ))
      → are_bytes (joined parts) ≡ true → contains (names q) (text_of label (joined parts)) ≡ false → Unmoved b q m history (coming label (in_parts parts))
  -- "removing"
  pub removed :
      (q : Query) (m : List ℕ) → Fresh b m → (history : List Call) → Typed history → (label : ℕ)
      → contains_under (names q) label (texts b history m) ≡ false → Unmoved b q m history (remove label ∷ [])
  -- "re-ordering": taken out and loaded again, or fed again
  pub reloaded :
      (q : Query) (m : List ℕ) → Fresh b m → (history : List Call) → Typed history → (label : ℕ) (bytes : List ℕ)
      → contains_under (names q) label (texts b history m) ≡ false → contains (names q) (text_of label bytes) ≡ false
      → Unmoved b q m history (remove label ∷ coming label (whole bytes))
  pub refed :
      (q : Query) (m : List ℕ) → Fresh b m → (history : List Call) → Typed history → (still b history m nothing).opened ≡ none → (label : ℕ) (parts : List (List ℕ))
      → contains_under (names q) label (texts b history m) ≡ false → are_bytes (joined parts) ≡ true
      → contains (names q) (text_of label (joined parts)) ≡ false → Unmoved b q m history (remove label ∷ coming label (in_parts parts))
  -- held at another place after another history
  pub moved :
      (q : Query) (m m' : List ℕ) → Fresh b m → Fresh b m' → (history history' : List Call) → Typed history → Typed history'
      → (front middle back : Pool) (t : Text) → contains (names q) t ≡ false
      → texts b history m ≡ front ++ (t ∷ (middle ++ back)) → texts b history' m' ≡ front ++ (middle ++ (t ∷ back))
      → b.answer (call q) (after b history m) ≡ b.answer (call q) (after b history' m')
