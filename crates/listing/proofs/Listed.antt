-- What the calls leave and answer is what the listing is made of: an empty pool into which the text is loaded. Assumes nothing.
use mathlib.Core.Path.{◌≡◌, refl, sym, ap, ap₂, subst, ◌∙◌}
use mathlib.Core.Bool.{Bool, true, false}
use mathlib.Core.List.{List, []}
use Prim.Native.Nat.{ℕ, ◌≤◌}
use native.Mathlib.Nat.{zero-add}
use native.Mathlib.Omega.{arith}
use borrow.Author.Tests.{eq-eqb}
use lib.ListN.{length, replicate, length-replicate}
use Rattle.std.specs.Prelude.{Ok, Err, if◌then◌else◌}
use Rattle.refusal.specs.Numbers.{number_of}
use Rattle.refusal.specs.declared.Refusal.TheVariants.{DamagedPool, TextOpen}
use Rattle.words.specs.Placed.{Room, Writes}
use Rattle.words.proofs.Placed.{writes-same}
use Rattle.layout.specs.State.{Pool}
use Rattle.layout.specs.Limits.{WORDS}
use Rattle.layout.specs.Memory.{decode, opens}
use Rattle.layout.specs.Damage.{sized, sound}
use Rattle.layout.proofs.Sound.{sound-of}
use Rattle.pool.specs.Replies.{Reply, done, refusing}
use Rattle.pool.specs.Empty.{empty_reply, emptied, Empties}
use Rattle.loading.specs.Load.{text_of, with, load_answer, load_reply, load_memory, Loads}
use Rattle.pool.specs.declared.reply.Refused.{Refused}
use Rattle.pool.proofs.Emptying.{empty-sound, empty-decode, empty-shut}
use Rattle.loading.proofs.Loaded.{load-sound, load-decode}
use Rattle.shown.specs.Shown.{shown}
use Rattle.shown.specs.Shows.{Showing}
use Rattle.listing.specs.Listing.{LABEL, refusal_line, loaded, told, listing}
use Rattle.listing.specs.Lists.{SIZE, Lists}
use Rattle.listing.proofs.Longest.{shown-fits, refusal-fits}

-- what is written is the listing
lists : {text xs out : List ℕ} {r : ℕ} {after : List ℕ} → xs ≡ listing text → Writes 0 xs out r after → Lists text out r after
lists {text} e w = let v = writes-same e w in record { size = v.next ∙ zero-add (length (listing text)); output = v.output }

-- ---- the calls

module _ (text first empty memory : List ℕ) (made reply : Reply) (n : WORDS ≡ length first) (E : Empties first made empty) (L : Loads LABEL text empty reply memory) where
  whole : sized first ≡ true
  whole = eq-eqb (length first) WORDS (sym n)

  empty-whole : sound empty ≡ true
  empty-whole = ap sound E.memory ∙ empty-sound first whole

  nothing : decode empty ≡ []
  nothing = ap decode E.memory ∙ empty-decode first whole

  empty-closed : opens empty ≡ false
  empty-closed = ap (λ (m : List ℕ). opens m) E.memory ∙ empty-shut first whole

  undamaged : sound memory ≡ true
  undamaged = ap sound L.memory ∙ load-sound LABEL text empty empty-whole

  answered : reply ≡ load_answer LABEL text []
  unfolding load_reply
  answered =
      L.reply
      ∙ ap₂ (λ (t o : Bool). if t then (if o then refusing TextOpen else load_answer LABEL text (decode empty)) else refusing DamagedPool) empty-whole empty-closed
      ∙ ap (load_answer LABEL text) nothing

  held : reply ≡ Ok tt → decode memory ≡ loaded text
  held d =
      ap decode L.memory
      ∙ load-decode LABEL text empty empty-whole
      ∙ ap₂ (λ (r : Reply) (s : Pool). if done r then with s (text_of LABEL text) else s) (sym L.reply ∙ d) nothing

  -- ---- an accepted text is shown

  module _ (d : reply ≡ Ok tt) where
    is-shown : shown (decode memory) ≡ listing text
    unfolding listing
    is-shown = ap shown (held d) ∙ ap (λ (r : Reply). told r (loaded text)) (sym d ∙ answered)

    pub showing : (out : List ℕ) → length out ≡ SIZE → Showing memory out
    showing out l = record { whole = undamaged; room = record { fits = omega (arith, shown-fits memory (sound-of memory undamaged)) } }

    pub lists-shown : (out : List ℕ) (r : ℕ) (after : List ℕ) → Writes 0 (shown (decode memory)) out r after → Lists text out r after
    lists-shown out r after w = lists is-shown w

  -- ---- and another is refused

  module _ (q : Refused) (d : reply ≡ Err q) (number : ℕ) (e : number ≡ number_of q.refusal) where
    is-refused : refusal_line number q.line q.column ≡ listing text
    unfolding listing
    is-refused =
        ap (λ (n : ℕ). refusal_line n q.line q.column) e ∙ ap (λ (r : Reply). told r (loaded text)) (sym d ∙ answered)

    pub lists-refused : (out : List ℕ) (r : ℕ) (after : List ℕ) → Writes 0 (refusal_line number q.line q.column) out r after → Lists text out r after
    lists-refused out r after w = lists is-refused w

pub room-refusal : (number line column : ℕ) (out : List ℕ) → length out ≡ SIZE → Room 0 (refusal_line number line column) out
room-refusal number line column out l = record { fits = omega (arith, refusal-fits number line column) }

-- ---- so every listing has room

pub listing-fits : (text : List ℕ) → length (listing text) ≤ SIZE
listing-fits text = by (load_reply LABEL text empty) refl
  where
    first : List ℕ
    first = replicate WORDS 0

    empty : List ℕ
    empty = emptied (empty_reply first) first

    memory : List ℕ
    memory = load_memory LABEL text empty

    n : WORDS ≡ length first
    n = sym (length-replicate {A = ℕ} WORDS 0)

    E : Empties first (empty_reply first) empty
    E = record { reply = refl; memory = refl }

    L : Loads LABEL text empty (load_reply LABEL text empty) memory
    L = record { reply = refl; memory = refl }

    by : (r : Reply) → load_reply LABEL text empty ≡ r → length (listing text) ≤ SIZE
    by (Ok u) d =
        subst (λ (l : List ℕ). length l ≤ SIZE) (is-shown text first empty memory _ _ n E L d)
        (shown-fits memory (sound-of memory (undamaged text first empty memory _ _ n E L)))
    by (Err q) d =
        subst (λ (l : List ℕ). length l ≤ SIZE) (is-refused text first empty memory _ _ n E L q d (number_of q.refusal) refl) (refusal-fits (number_of q.refusal) q.line q.column)
