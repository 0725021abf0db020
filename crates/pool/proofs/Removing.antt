-- The answers of a removal: the pool is not ready for it, the label is not held, or the other texts are put. Assumes nothing.
use mathlib.Core.Path.{◌≡◌, sym, ap, subst, ◌∙◌}
use mathlib.Core.Bool.{true, false}
use mathlib.Core.List.{List, ◌∷◌, ◌++◌, map}
use Prim.Native.Nat.{ℕ, ◌≤◌, ◌<◌}
use native.Mathlib.Omega.{arith}
use borrow.Author.Tests.{lt-ltb, le-ltb}
use lib.ListN.{length}
use Rattle.std.specs.Prelude.{Ok, Err}
use Rattle.refusal.specs.declared.Refusal.{Refusal}
use Rattle.refusal.specs.declared.Refusal.TheVariants.{NotHeld}
use Rattle.words.specs.Halves.{place}
use Rattle.plain.proofs.Each.{Each}
use Rattle.words.proofs.Each.{Words}
use Rattle.layout.specs.State.{Pool, program}
use Rattle.layout.specs.Memory.{text_count, text_words, text_word, decode, put}
use Rattle.layout.proofs.Areas.{length-texts}
use Rattle.layout.proofs.Sound.{Sound, sound-of}
use Rattle.layout.proofs.Codec.{ShortText, each-short-text}
use Rattle.layout.proofs.Holds.{Holds, holds-decode, texts-decode, decode-fits, decode-legal}
use Rattle.layout.proofs.Legal.{Fair}
use Rattle.removing.specs.Gaps.{Gapped, taken_out}
use Rattle.removing.proofs.Removal.{gapped, taken-out}
use Rattle.pool.specs.Ready.{with_none_open}
use Rattle.pool.specs.Replies.{refusing}
use Rattle.pool.specs.Held.{held}
use Rattle.pool.specs.Remove.{without, remove_answer, remove_reply, remove_memory, Removes}
use Rattle.pool.proofs.Labels.{held-placed}
use Rattle.pool.proofs.Parted.{Parted, parted}
use Rattle.pool.proofs.Tested.{closed-sound, closed-shut, closed-refused}

-- the texts of a sound memory are short enough to be counted
short : (m : List ℕ) → Sound m → Each ShortText (decode m)
short m S = each-short-text (decode m) (omega (arith, (decode-fits m S).statements))

-- ---- the text under a held label, in a sound memory

module _ (l : ℕ) (m : List ℕ) (S : Sound m) where
  abbrev at : ℕ
  at = place l (text_words m)

  place-decode : at ≡ place l (map text_word (decode m))
  place-decode = ap (place l) (sym (texts-decode m S))

  held-here : at < text_count m → held l (decode m) ≡ true
  held-here h = sym (held-placed l m) ∙ lt-ltb at (length (text_words m)) (omega (arith, length-texts m S.sizes))

  held-nowhere : text_count m ≤ at → held l (decode m) ≡ false
  held-nowhere h = sym (held-placed l m) ∙ le-ltb at (length (text_words m)) (omega (arith, length-texts m S.sizes))

  module _ (w : Words m) (h : at < text_count m) where
    P : Parted l (decode m)
    P = parted l (decode m) (short m S) (held-here h)

    H : Holds m (P.before ++ (P.text ∷ P.after))
    H = subst (Holds m) P.all (holds-decode m S w)

    F : Each Fair (program (P.before ++ (P.text ∷ P.after)))
    F = subst (λ (s : Pool). Each Fair (program s)) P.all (decode-legal m S).statements

    here : at ≡ length P.before
    here = place-decode ∙ P.here

    pub gapped-here : Gapped at m
    gapped-here = subst (λ (k : ℕ). Gapped k m) (sym here) (gapped m P.before P.text P.after H F)

    pub taken_here : taken_out at m ≡ put (without l (decode m)) m
    taken_here = ap (λ (k : ℕ). taken_out k m) here ∙ taken-out m P.before P.text P.after H F w ∙ sym (ap (λ (s : Pool). put s m) P.rest)

-- ---- the answers

module _ (l : ℕ) (m : List ℕ) where
  pub remove-refused : (q : Refusal) → with_none_open m ≡ Err q → Removes l m (refusing q) m
  unfolding remove_reply remove_memory
  remove-refused q e = let r : remove_reply l m ≡ refusing q = closed-refused m q (remove_answer l (decode m)) e in record { reply = sym r; memory = rw r }

  pub remove-missing : with_none_open m ≡ Ok tt → text_count m ≤ place l (text_words m) → Removes l m (refusing NotHeld) m
  unfolding remove_reply remove_memory
  remove-missing e h =
      let s = closed-sound m e in
      let n = held-nowhere l m (sound-of m s) h in
      record { reply = rw (s, closed-shut m e, n); memory = rw (s, closed-shut m e, n) }

  pub remove-done : with_none_open m ≡ Ok tt → Words m → place l (text_words m) < text_count m → (after : List ℕ) → after ≡ taken_out (place l (text_words m)) m → Removes l m (Ok tt) after
  unfolding remove_reply remove_memory
  remove-done e w h after a =
      let s = closed-sound m e in
      let S = sound-of m s in
      let n = held-here l m S h in
      record { reply = rw (s, closed-shut m e, n); memory = rw (s, closed-shut m e, n) (a ∙ taken_here l m S w h) }
