-- An open text that is written into its memory is read back: its words are over the front alone, so that what is held and what stands behind it stay,
-- and the words say what they were written for. Assumes nothing.
use Prim.Native.Nat.{ℕ, ◌+◌, ◌≤◌, ◌<◌}
use native.Mathlib.Nat.{add-zero}
use native.Mathlib.Omega.{arith}
use mathlib.Core.Path.{◌≡◌, sym, ap, transport, ◌∙◌}
use mathlib.Core.Bool.{true, not}
use mathlib.Core.List.{List, [], ◌∷◌}
use lib.Dec.{eqb, lit<}
use lib.ListN.{length, get_or}
use Rattle.plain.proofs.Each.{Each}
use Rattle.statement.specs.Statements.{Statement}
use Rattle.words.specs.Halves.{HALF, upper, lower, joined}
use Rattle.words.specs.Over.{over, part}
use Rattle.words.proofs.Halves.{upper-joined, lower-joined}
use Rattle.words.proofs.Over.{length_over, part-over, get_or-over-after}
use Rattle.octets.proofs.Bytes.{Bytes}
use Rattle.layout.specs.State.{Pool}
use Rattle.layout.specs.Limits.{TEXTS, WORDS, OPENWORDS, OPEN_AT, TEXTS_AT}
use Rattle.layout.specs.Memory.{text_count, text_words, decode, opens, open_word, open_label, open_statements, open_values, open_bytes, open_body}
use Rattle.layout.specs.Damage.{sound}
use Rattle.layout.proofs.Areas.{get_d_over}
use Rattle.layout.proofs.Sound.{Orderly, of-sound-open}
use Rattle.feeding.specs.Kept.{ROOM}
use Rattle.feeding.specs.Parts.{MOST, Open}
use Rattle.bookmark.specs.Words.{open_words, read_open}
use Rattle.bookmark.specs.declared.mark.Entered.{Entered}
use Rattle.bookmark.specs.declared.mark.Standing.{Standing}
use Rattle.bookmark.proofs.ReadBack.{read_back}
use Rattle.bookmark.proofs.Spelled.{length-words, word-open, word-values, word_bytes, word_kept, word_total}
use Rattle.bookmark.proofs.Within.{Within}
use Rattle.entering.specs.Entries.{Entry, entry, body_behind, body_of, progress_of}
use Rattle.intake.specs.Opened.{telling, borne_standing, borne, open_in, state_in, stowed}
use Rattle.keeping.proofs.Alike.{Alike, texts#=, alike-decode, alike-body, alike-orderly, alike_then, alike-open, alike-word, alike-texts}
use Rattle.keeping.proofs.Behind.{Behind, alike-behind}
use Rattle.keeping.proofs.Merged.{behind-merged}
use Rattle.keeping.proofs.Kept.{Kept}
use Rattle.keeping.proofs.Numbers.{Numbers}
use Rattle.keeping.proofs.ReadBorne.{standing-stays}

module _ {s : Pool} (label : ℕ) (o : Open Entry) (k : Kept s o.progress) where
  abbrev x : List ℕ
  x = o.progress.memory

  abbrev e : Entered
  e = o.progress.entered

  abbrev marked : Open Entered
  marked = telling (λ (p : Entry). p.entered) o

  abbrev ws : List ℕ
  ws = open_words marked

  abbrev w : ℕ
  w = joined label e.statements

  abbrev y : List ℕ
  y = over (TEXTS_AT + text_count x) (w ∷ []) x

  abbrev pub left : List ℕ
  left = stowed label o

  words-y : length y ≡ WORDS
  words-y = length_over (TEXTS_AT + text_count x) (w ∷ []) x ∙ k.held.sizes.words

  thirty : length ws ≡ OPENWORDS
  thirty = length-words marked

  few : e.statements < HALF
  few = omega (arith, k.behind.few)

  pub alike : Alike left x
  alike = alike_then (alike-open ws y (omega (arith, thirty))) (alike-word w x (omega (arith, k.held.few)))

  -- ---- its words

  open-word : (i : ℕ) → i < OPENWORDS → get_or left (OPEN_AT + i) 0 ≡ get_or ws i 0
  open-word i h = get_d_over OPEN_AT ws y i (omega (arith, thirty)) (omega (arith, thirty, words-y))

  word= : open_word left ≡ w
  word= =
      ap (λ (j : ℕ). get_or left (TEXTS_AT + j) 0) (texts#= alike)
      ∙ get_or-over-after OPEN_AT ws y (TEXTS_AT + text_count x) 0 (omega (arith, thirty))
      ∙ ap (λ (j : ℕ). get_or y j 0) (sym (add-zero (TEXTS_AT + text_count x)))
      ∙ get_d_over (TEXTS_AT + text_count x) (w ∷ []) x 0 (lit< tt) (omega (arith, k.held.sizes.words, k.held.few))

  pub stowed-label : open_label left ≡ label
  stowed-label = ap upper word= ∙ upper-joined label e.statements few

  statements= : open_statements left ≡ e.statements
  statements= = ap lower word= ∙ lower-joined label e.statements few

  values= : open_values left ≡ e.values
  values= = open-word 1 (lit< tt) ∙ word-values marked

  bytes= : open_bytes left ≡ e.bytes
  bytes= = open-word 2 (lit< tt) ∙ word_bytes marked

  pub stowed-opens : opens left ≡ true
  stowed-opens = ap (λ (n : ℕ). not (eqb n 0)) (open-word 0 (lit< tt) ∙ word-open marked)

  -- ---- what is held, and the text's statements

  pub stowed-decode : decode left ≡ s
  stowed-decode = alike-decode alike ∙ k.same

  stowed-orderly : Orderly TEXTS left
  stowed-orderly = alike-orderly alike k.held

  stowed-behind : Behind left e.statements e.values e.bytes
  stowed-behind = alike-behind alike e.statements e.values e.bytes k.behind

  pub stowed-body : body_of (entry left e) ≡ body_of o.progress
  stowed-body = alike-body alike e.statements e.values e.bytes

  body= : open_body left ≡ body_of o.progress
  unfolding open_body
  body= = (λ i. body_behind (statements= i) (values= i) (bytes= i) left) ∙ stowed-body

  -- undamaged, where the label is none of the held ones
  pub stowed-sound : length o.kept ≤ ROOM → o.bytes ≤ MOST + 1 → Each (λ u. upper u ≡ label → ⊥) (text_words x) → sound left ≡ true
  stowed-sound r c f =
      of-sound-open left stowed-orderly stowed-opens (record {
        orderly =
            behind-merged left stowed-orderly
            (transport (λ i. Behind left (sym statements= i) (sym values= i) (sym bytes= i)) stowed-behind)
            (transport (λ i. Each (λ u. upper u ≡ sym stowed-label i → ⊥) (sym (alike-texts alike) i)) f);
        kept = omega (arith, open-word 10 (lit< tt), word_kept marked);
        counted = omega (arith, open-word 12 (lit< tt), word_total marked);
      })

  -- ---- the text

  module _ (n : Numbers o) (f : Bytes o.kept) where
    within : Within marked
    within = record { standing = k.in-line; number = n.number; long = n.long; room = n.room; kept = f; bytes = n.bytes }

    read= : read_open (open_statements left) (part OPEN_AT OPENWORDS left) ≡ marked
    read= =
        (λ i. read_open (statements= i) (part OPEN_AT (sym thirty i) left)) ∙ ap (read_open e.statements) (part-over OPEN_AT ws y (omega (arith, thirty, words-y)))
        ∙ read_back marked within

    stays : borne (open_body left) e ≡ e
    stays =
        ap (λ (t : Standing). record { standing = t; statements = e.statements; values = e.values; bytes = e.bytes })
        (ap (λ (l : List Statement). borne_standing l e.standing) body= ∙ standing-stays (body_of o.progress) e.standing k.borne)

    -- as it was, but for the memory
    pub stowed-open : open_in left ≡ telling (λ (p : Entry). entry left p.entered) o
    stowed-open =
        ap (telling (λ (d : Entered). entry left (borne (open_body left) d))) read=
        ∙ ap (λ (d : Entered). record { progress = entry left d; number = o.number; long = o.long; kept = o.kept; pending = o.pending; bytes = o.bytes }) stays

    pub stowed-state : state_in left ≡ telling progress_of o
    stowed-state =
        ap (telling progress_of) stowed-open
        ∙ ap
        (λ (l : List Statement). record {
          progress = record { body = l; standing = e.standing };
          number = o.number;
          long = o.long;
          kept = o.kept;
          pending = o.pending;
          bytes = o.bytes;
        })
        stowed-body
