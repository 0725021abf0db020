-- A label is held exactly when some text's word has it. Assumes nothing.
use Prim.Native.Nat.{ℕ, suc}
use native.Mathlib.Omega.{arith}
use mathlib.Core.Path.{◌≡◌, refl, sym, ap, ◌∙◌}
use mathlib.Core.Bool.{Bool, true, false}
use mathlib.Core.List.{List, [], ◌∷◌}
use borrow.Author.Tests.{lt-ltb, le-ltb, ltb-true, ltb-false}
use lib.Dec.{eqb, ltb}
use lib.ListN.{length, drop}
use Rattle.std.specs.Prelude.{if◌then◌else◌, Option, Some, None}
use Rattle.std.specs.Option.{is_some}
use Rattle.statement.specs.Statements.{Statement}
use Rattle.words.specs.Halves.{upper, lower, place, found}
use Rattle.layout.specs.Memory.{text_words, head_words, name_words, value_words, held_bytes, cut_statements, cut_texts, decode}
use Rattle.pool.specs.Held.{held}

next-below : (a b : ℕ) → ltb a b ≡ ltb (suc a) (suc b)
next-below a b = by (ltb a b) refl
  where
    by : (t : Bool) → ltb a b ≡ t → t ≡ ltb (suc a) (suc b)
    by true e = sym (lt-ltb (suc a) (suc b) (omega (arith, ltb-true a b e)))
    by false e = sym (le-ltb (suc a) (suc b) (omega (arith, ltb-false a b e)))

held_cut : (label : ℕ) (ws : List ℕ) (ss : List Statement) → ltb (place label ws) (length ws) ≡ held label (cut_texts ws ss)
unfolding place held cut_texts
held_cut label [] ss = refl
held_cut label (w ∷ ws) ss = by (eqb (upper w) label) (held_cut label ws (drop (lower w) ss))
  where
    by : (t : Bool) → ltb (place label ws) (length ws) ≡ held label (cut_texts ws (drop (lower w) ss))
        → ltb (if t then 0 else suc (place label ws)) (suc (length ws)) ≡ (if t then true else held label (cut_texts ws (drop (lower w) ss)))
    by true e = lt-ltb 0 (suc (length ws)) (omega arith)
    by false e = sym (next-below (place label ws) (length ws)) ∙ e

pub held-placed : (label : ℕ) (m : List ℕ) → ltb (place label (text_words m)) (length (text_words m)) ≡ held label (decode m)
unfolding decode
held-placed label m = held_cut label (text_words m) (cut_statements (head_words m) (name_words m) (value_words m) (held_bytes m))

-- ---- what is found of a label among the texts' words

told : (b : Bool) (k : ℕ) → is_some (if b then Some k else None) ≡ b
told true k = refl
told false k = refl

pub held-found : (label : ℕ) (m : List ℕ) → is_some (found label (text_words m)) ≡ held label (decode m)
held-found label m = told (ltb (place label (text_words m)) (length (text_words m))) (place label (text_words m)) ∙ held-placed label m

abbrev number : Option ℕ → ℕ
number (Some k) = k
number None = 0

pub found-place : (label : ℕ) (ws : List ℕ) (k : ℕ) → Some k ≡ found label ws → k ≡ place label ws
found-place label ws k = by (ltb (place label ws) (length ws))
  where
    by : (b : Bool) → Some k ≡ (if b then Some (place label ws) else None) → k ≡ place label ws
    by true e = ap number e
    by false e = cc
