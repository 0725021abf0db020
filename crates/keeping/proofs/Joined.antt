-- Two parts leave the memory that their bytes leave at once: between them only words of the front are written, which completing a line neither reads nor
-- writes, and which are written over at the end. Assumes nothing.
use Prim.Native.Nat.{ℕ, ◌+◌, ◌*◌, ◌≤◌, ◌<◌}
use native.Mathlib.Omega.{arith}
use mathlib.Core.Path.{◌≡◌, refl, sym, ap, ap₂, subst, ◌∙◌}
use mathlib.Core.Bool.{Bool, true, false}
use mathlib.Core.List.{List, [], ◌∷◌, ◌++◌, map}
use lib.ListN.{length}
use Rattle.std.specs.Prelude.{Ok, if◌then◌else◌}
use Rattle.plain.proofs.Tests.{true-false}
use Rattle.refusal.specs.declared.Refusal.TheVariants.{NotHeld, DamagedPool}
use Rattle.statement.specs.Statements.{Statement}
use Rattle.words.specs.Halves.{joined}
use Rattle.words.specs.Over.{over}
use Rattle.words.proofs.Over.{length_over, over-comm, over-again}
use Rattle.octets.proofs.Areas.{over-inked-in}
use Rattle.names.specs.Names.{NAMEWORDS}
use Rattle.layout.specs.State.{Pool, program, flat, values_of, bytes_of, values, string_bytes}
use Rattle.layout.specs.Limits.{WORDS, OPENWORDS, TEXTWORDS, BYTEWORDS, OPEN_AT, TEXTS_AT, HEADS_AT, NAMES_AT, VALUES_AT, BYTES_AT}
use Rattle.layout.specs.Memory.{text_count, decode, opens, open_label, head_word, name_of, laid_behind}
use Rattle.layout.specs.Damage.{sound}
use Rattle.layout.proofs.Holds.{inked_at, length-decode}
use Rattle.pool.specs.Replies.{done, refusing}
use Rattle.feeding.specs.Parts.{Open, fed}
use Rattle.feeding.proofs.Joining.{fed-append}
use Rattle.bookmark.specs.Words.{open_words}
use Rattle.bookmark.proofs.Spelled.{length-words}
use Rattle.opening.specs.Storing.{Progress, complete}
use Rattle.entering.specs.Entries.{Entry, entry, progress_of, entering, complete_on}
use Rattle.intake.specs.Opened.{telling, open_in, stowed}
use Rattle.intake.specs.Calls.{are_bytes, feed_reply, feed_memory}
use Rattle.keeping.proofs.Alike.{Alike, texts#=, alike-decode, alike-body, alike_then, alike-open, alike-word}
use Rattle.keeping.proofs.Fed.{part-kept, feeds-as, after, after_kept, after-numbers, after-bytes, fed-beside}
use Rattle.keeping.proofs.Kept.{Kept, complete-kept}
use Rattle.keeping.proofs.Numbers.{Numbers}
use Rattle.keeping.proofs.Telling.{told-fed}
use Rattle.keeping.proofs.ReadStowed.{stowed-open}

-- ---- statements laid behind, and words written before

laid-over : (s : Pool) (b : List Statement) (a : ℕ) (ys m : List ℕ) → length m ≡ WORDS → a + length ys ≤ HEADS_AT → laid_behind s b (over a ys m) ≡ over a ys (laid_behind s b m)
unfolding laid_behind
laid-over s b a ys m e h =
    let v = VALUES_AT + length (values s) in
    let n = NAMES_AT + NAMEWORDS * length (program s) in
    let p = HEADS_AT + length (program s) in
    let vs = flat values_of b in
    let ns = flat name_of b in
    let hs = map head_word b in
    let at = length (string_bytes s) in
    let x = inked_at at (flat bytes_of b) m in
    ap (λ (l : List ℕ). over v vs (over n ns (over p hs l))) (sym (over-inked-in BYTES_AT BYTEWORDS at (flat bytes_of b) m (omega arith) a ys (omega arith)))
    ∙ ap (λ (l : List ℕ). over v vs (over n ns l)) (over-comm a ys p hs x (omega arith))
    ∙ ap (over v vs) (over-comm a ys n ns (over p hs x) (omega arith))
    ∙ over-comm a ys v vs (over n ns (over p hs x)) (omega arith)

-- ---- an entry with other words in front

module _ (t : ℕ) (few : t < TEXTWORDS) (w : ℕ) (ws : List ℕ) (long : length ws ≡ OPENWORDS) where
  abbrev fronted : List ℕ → List ℕ
  fronted x = over OPEN_AT ws (over (TEXTS_AT + t) (w ∷ []) x)

  abbrev moved : Entry → Entry
  moved e = entry (fronted e.memory) e.entered

  fronted-alike : (x : List ℕ) → text_count x ≡ t → Alike (fronted x) x
  fronted-alike x q =
      subst (λ (j : ℕ). Alike (over OPEN_AT ws (over (TEXTS_AT + j) (w ∷ []) x)) x) q
      (alike_then (alike-open ws (over (TEXTS_AT + text_count x) (w ∷ []) x) (omega arith)) (alike-word w x (omega arith)))

  laid-fronted : (s : Pool) (b : List Statement) (x : List ℕ) → length x ≡ WORDS → laid_behind s b (fronted x) ≡ fronted (laid_behind s b x)
  laid-fronted s b x e =
      laid-over s b OPEN_AT ws (over (TEXTS_AT + t) (w ∷ []) x) (length_over (TEXTS_AT + t) (w ∷ []) x ∙ e) (omega arith)
      ∙ ap (over OPEN_AT ws) (laid-over s b (TEXTS_AT + t) (w ∷ []) x e (omega arith))

  module _ (s : Pool) (q : length s ≡ t) where
    count : (e : Entry) → Kept s e → text_count e.memory ≡ t
    count e k = sym (length-decode e.memory k.held) ∙ ap length k.same ∙ q

    -- completing a line goes by
    moved-complete : (e : Entry) (number : ℕ) (line : List ℕ) → Kept s e → moved (complete_on e number line) ≡ complete_on (moved e) number line
    unfolding complete_on
    moved-complete e number line k =
        let x = e.memory in
        let a = fronted-alike x (count e k) in
        let p = complete (decode x) (progress_of e) number line in
        let z : progress_of (moved e) ≡ progress_of e =
        ap (λ (l : List Statement). record { body = l; standing = e.entered.standing }) (alike-body a e.entered.statements e.entered.values e.entered.bytes) in
        ap (λ (l : List ℕ). entry l (entering (decode x) p x).entered) (sym (laid-fronted (decode x) p.body x k.held.sizes.words))
        ∙ sym (ap₂ (λ (d : Pool) (y : Progress). entering d (complete d y number line) (fronted x)) (alike-decode a) z)

    moved-fed : (o : Open Entry) → Kept s o.progress → Numbers o → (part : List ℕ) → telling moved (fed complete_on o part) ≡ fed complete_on (telling moved o) part
    moved-fed o k n part =
        told-fed complete_on (Kept s) (λ e number line h i. complete-kept e i number line h) complete_on moved moved-complete o part n.number k

    -- and the words in front are written again
    moved-stowed : (label : ℕ) (o : Open Entry) → Kept s o.progress → stowed label (telling moved o) ≡ stowed label o
    moved-stowed label o k =
        let x = o.progress.memory in
        let c = count o.progress k in
        let vs = open_words (telling (λ (e : Entry). e.entered) o) in
        let l = length-words (telling (λ (e : Entry). e.entered) o) in
        let u = joined label o.progress.entered.statements ∷ [] in
        let f : text_count (fronted x) ≡ t = texts#= (fronted-alike x c) ∙ c in
        ap (λ (j : ℕ). over OPEN_AT vs (over (TEXTS_AT + j) u (fronted x))) f
        ∙ ap (over OPEN_AT vs) (over-comm OPEN_AT ws (TEXTS_AT + t) u (over (TEXTS_AT + t) (w ∷ []) x) (omega arith))
        ∙ over-again OPEN_AT ws vs (over (TEXTS_AT + t) u (over (TEXTS_AT + t) (w ∷ []) x)) (omega arith)
        ∙ ap (over OPEN_AT vs) (over-again (TEXTS_AT + t) (w ∷ []) u x refl)
        ∙ ap (λ (j : ℕ). over OPEN_AT vs (over (TEXTS_AT + j) u x)) (sym c)

-- ---- two parts

-- nothing is fed where none is open
pub unfed : (part m : List ℕ) → (sound m ≡ true → opens m ≡ true → ⊥) → feed_memory part m ≡ m
unfolding feed_memory feed_reply
unfed part m n = by (sound m) (opens m) n
  where
    by : (t u : Bool) → (t ≡ true → u ≡ true → ⊥) → (if done (if t then (if u then Ok tt else refusing NotHeld) else refusing DamagedPool) then stowed (open_label m) (fed complete_on (open_in m) part) else m) ≡ m
    by true true h = absurd (h refl refl)
    by true false h = refl
    by false u h = refl

module _ (part more m : List ℕ) (f : are_bytes part ≡ true) where
  joined-open : sound m ≡ true → opens m ≡ true → feed_memory more (feed_memory part m) ≡ feed_memory (part ++ more) m
  joined-open e o =
      let l = open_label m in
      let s = decode m in
      let o₁ = after part m e o in
      let k₁ = after_kept part m e o in
      let n₁ = after-numbers part m e o in
      let m₁ = feed_memory part m in
      let B = fed-beside part m e o in
      let x₁ = o₁.progress.memory in
      let c : text_count x₁ ≡ length s = sym (length-decode x₁ k₁.held) ∙ ap length k₁.same in
      let w = joined l o₁.progress.entered.statements in
      let ws = open_words (telling (λ (p : Entry). p.entered) o₁) in
      let few : length s < TEXTWORDS = omega (arith, k₁.held.few) in
      let long = length-words (telling (λ (p : Entry). p.entered) o₁) in
      let r : open_in m₁ ≡ telling (moved (length s) few w ws long) o₁ =
      ap open_in (feeds-as part m e o) ∙ stowed-open l o₁ k₁ n₁ (after-bytes part m e o f)
      ∙ ap (λ (j : ℕ). telling (λ (p : Entry). entry (over OPEN_AT ws (over (TEXTS_AT + j) (w ∷ []) x₁)) p.entered) o₁) c in
      feeds-as more m₁ B.undamaged B.is_open
      ∙ ap₂ (λ (a : ℕ) (x : Open Entry). stowed a (fed complete_on x more)) B.labelled r
      ∙ ap (stowed l) (sym (moved-fed (length s) few w ws long s refl o₁ k₁ n₁ more))
      ∙ moved-stowed (length s) few w ws long s refl l (fed complete_on o₁ more) (part-kept s o₁ k₁ n₁ more)
      ∙ ap (stowed l) (sym (fed-append complete_on (open_in m) part more))
      ∙ sym (feeds-as (part ++ more) m e o)

  pub parts_join : feed_memory more (feed_memory part m) ≡ feed_memory (part ++ more) m
  parts_join = by (sound m) (opens m) refl refl
    where
      closed : (sound m ≡ true → opens m ≡ true → ⊥) → feed_memory more (feed_memory part m) ≡ feed_memory (part ++ more) m
      closed n = ap (feed_memory more) (unfed part m n) ∙ unfed more m n ∙ sym (unfed (part ++ more) m n)

      by : (t u : Bool) → sound m ≡ t → opens m ≡ u → feed_memory more (feed_memory part m) ≡ feed_memory (part ++ more) m
      by true true e o = joined-open e o
      by false u e o = closed (λ a b. true-false (sym a ∙ e))
      by true false e o = closed (λ a b. true-false (sym b ∙ o))
