-- A statement has a legal name exactly when it has the name's words: words that hold a name are that name's. Assumes nothing.
use Prim.Native.Nat.{ℕ, zero, suc, ◌+◌, ◌*◌, ◌<◌}
use mathlib.Core.Path.{◌≡◌, refl, sym, ap, ap₂, ◌∙◌}
use mathlib.Core.Bool.{Bool, true, false}
use mathlib.Core.List.{List, [], ◌∷◌}
use native.Mathlib.Nat.{not-suc-le-zero, le_of_suc-le-suc}
use native.Mathlib.Omega.{arith}
use lib.ListN.{length, take, drop, get_or, length-drop}
use lib.Seq.{drop-drop, length-take-le}
use Rattle.plain.specs.Lists.{equal}
use Rattle.words.specs.Over.{part}
use Rattle.plain.proofs.Tests.{true-false, is_false}
use Rattle.plain.proofs.Each.{each_take, each-drop}
use Rattle.words.proofs.Each.{WORD, Words}
use Rattle.words.proofs.Same.{same_refl, same-equal}
use Rattle.names.specs.Names.{NAMEWORDS, legal, packed, unpacked, holds_name}
use Rattle.names.proofs.Names.{same_name, same-words}
use Rattle.layout.specs.Memory.{statement_count, head_words, name_words}
use Rattle.layout.proofs.Areas.{length-heads, length-names}
use Rattle.layout.proofs.Sound.{Named, Sound}
use Rattle.variables.specs.Variables.{has}
use Rattle.variables.proofs.Held.{words_at, head_at, statement_at}

named-at : (hs ns : List ℕ) (k : ℕ) → k < length hs → Named hs ns → holds_name (take NAMEWORDS (drop (NAMEWORDS * k) ns)) ≡ true
named-at [] ns k h f = absurd (not-suc-le-zero h)
named-at (x ∷ hs) ns zero h f = f.0
named-at (x ∷ hs) ns (suc k) h f =
    let e : NAMEWORDS + NAMEWORDS * k ≡ NAMEWORDS * suc k = omega arith in
    sym (ap (λ (l : List ℕ). holds_name (take NAMEWORDS l)) (drop-drop (NAMEWORDS * k) NAMEWORDS ns ∙ ap (λ (j : ℕ). drop j ns) e))
    ∙ named-at hs (drop NAMEWORDS ns) k (le_of_suc-le-suc h) f.1

words-part : (o n : ℕ) (ws : List ℕ) → Words ws → Words (part o n ws)
words-part o n ws W = each_take (λ w. w < WORD) n (drop o ws) (each-drop (λ w. w < WORD) o ws W)

-- ---- a name that is asked for, and a statement's

module _ (n m : List ℕ) (e : legal n ≡ true) (S : Sound m) (W : Words (name_words m)) (k : ℕ) (h : k < statement_count m) where
  length-words : length (words_at m k) ≡ NAMEWORDS
  length-words =
      length-take-le NAMEWORDS (drop (NAMEWORDS * k) (name_words m))
      (omega (arith, length-drop (NAMEWORDS * k) (name_words m), length-names m S.sizes))

  words-words : Words (words_at m k)
  words-words = words-part (NAMEWORDS * k) NAMEWORDS (name_words m) W

  named : holds_name (words_at m k) ≡ true
  named = named-at (head_words m) (name_words m) k (omega (arith, length-heads m S.sizes)) S.names

  pub has_words : has n (statement_at m k) ≡ equal (words_at m k) (packed n)
  has_words = by (equal (words_at m k) (packed n)) refl
    where
      by : (t : Bool) → equal (words_at m k) (packed n) ≡ t → equal (unpacked (words_at m k)) n ≡ t
      by true f =
          ap (λ (l : List ℕ). equal l n) (same-words n (words_at m k) e length-words words-words named (same-equal (words_at m k) (packed n) f))
          ∙ same_refl n
      by false f =
          is_false (equal (unpacked (words_at m k)) n)
          (λ q.
          let r = same_name n (words_at m k) e length-words words-words named (same-equal (unpacked (words_at m k)) n q) in
          true-false (sym (same_refl (packed n)) ∙ sym (ap (λ (l : List ℕ). equal l (packed n)) r) ∙ f))

-- ---- what a loop over a pool's statements has in hand: a legal name, its words, and two areas

pub record Hands (pool name words heads names : List ℕ) : Type 0 where
  pub sound : Sound pool
  pub fit : Words names
  pub legal= : legal name ≡ true
  pub words= : words ≡ packed name
  pub heads= : heads ≡ head_words pool
  pub names= : names ≡ name_words pool

module _ {pool name words heads names : List ℕ} (H : Hands pool name words heads names) where
  pub length-hands : length heads ≡ statement_count pool
  length-hands = ap length H.heads= ∙ length-heads pool H.sound.sizes

  pub room-hands : length names ≡ NAMEWORDS * statement_count pool
  room-hands = ap length H.names= ∙ length-names pool H.sound.sizes

  -- the test of a statement's words tells whether it has the name
  pub has-told : (k : ℕ) → k < statement_count pool → (t : Bool) → t ≡ equal (part (NAMEWORDS * k) NAMEWORDS names) words → has name (statement_at pool k) ≡ t
  has-told k h t e =
      has_words name pool H.legal= H.sound (rw H.names= at H.fit) k h
      ∙ sym (e ∙ ap₂ (λ (x y : List ℕ). equal (part (NAMEWORDS * k) NAMEWORDS x) y) H.names= H.words=)

  pub head-told : (k : ℕ) → get_or heads k 0 ≡ head_at pool k
  head-told k = ap (λ (l : List ℕ). get_or l k 0) H.heads=
