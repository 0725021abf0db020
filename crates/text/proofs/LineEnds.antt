-- The first line of a text is its longest run without an LF, less one CR just before the LF; the other lines are those of what
-- follows the LF. Assumes nothing.
use Prim.Native.Nat.{ℕ, zero, suc, ◌+◌, ◌-◌, ◌≤◌, ◌<◌}
use native.Mathlib.Nat.{not-suc-le-zero}
use native.Mathlib.Omega.{arith}
use mathlib.Core.Path.{◌≡◌, refl, ◌∙◌}
use mathlib.Core.Bool.{Bool, true, false, ◌&&◌, not}
use mathlib.Core.List.{List, [], ◌∷◌, ◌++◌}
use borrow.Author.Tests.{eq-eqb, ne_eqb}
use lib.Dec.{eqb}
use lib.ListN.{length, take, drop, get_or, length-drop, drop_of_length-le}
use lib.Seq.{drop-cons, drop-drop, take-take, get_or-drop, get_or-take, length-take-le}
use Rattle.plain.specs.Bytes.{LF, CR}
use Rattle.std.specs.Prelude.{if◌then◌else◌}
use Rattle.plain.specs.Runs.{run, skip, past}
use Rattle.plain.proofs.Places.{past_after, past-within, take_past}
use Rattle.plain.proofs.Runs.{drop_past}
use Rattle.value.specs.Classes.{line_byte}
use Rattle.text.specs.Lines.{before, at_lf, without_cr, lines, Cuts}

-- ---- lists

-- a line of such bytes, by what follows them: an LF, or nothing
abbrev pub line_of : (bytes following : List ℕ) → List ℕ
line_of r [] = r
line_of r (b ∷ bs) = without_cr r

longer : (b c : ℕ) (r s : List ℕ) → line_of (b ∷ c ∷ r) s ≡ b ∷ line_of (c ∷ r) s
longer b c r [] = refl
longer b c r (d ∷ s) = refl

-- the first line of a text, and the lines after it
pub first-line : (b : ℕ) (bs : List ℕ) → lines (b ∷ bs) ≡ line_of (run line_byte (b ∷ bs)) (skip line_byte (b ∷ bs)) ∷ lines (drop 1 (skip line_byte (b ∷ bs)))
unfolding lines
first-line b [] = by (eqb b LF) (eqb b CR)
  where
    by : (t u : Bool) → (if t then [] ∷ [] else (if u && false then [] else ((b ∷ []) ∷ []))) ≡ line_of (if not t then b ∷ [] else []) (if not t then [] else (b ∷ [])) ∷ lines (drop 1 (if not t then [] else (b ∷ [])))
    by true u = refl
    by false true = refl
    by false false = refl
first-line b (c ∷ cs) = by (eqb b LF) (eqb b CR) refl (eqb c LF) (lines (c ∷ cs)) (run line_byte cs) (skip line_byte cs) refl (first-line c cs)
  where
    by : (t u : Bool) → eqb b CR ≡ u → (v : Bool) (ls : List (List ℕ)) (r s : List ℕ) → ls ≡ lines (c ∷ cs)
        → ls ≡ line_of (if not v then c ∷ r else []) (if not v then s else (c ∷ cs)) ∷ lines (drop 1 (if not v then s else (c ∷ cs)))
        → (if t then [] ∷ ls else (if u && v then ls else before b ls))
        ≡ line_of (if not t then b ∷ (if not v then c ∷ r else []) else []) (if not t then (if not v then s else (c ∷ cs)) else (b ∷ c ∷ cs))
        ∷ lines (drop 1 (if not t then (if not v then s else (c ∷ cs)) else (b ∷ c ∷ cs)))
    by true u q v ls r s x e = rw x
    by false true q true ls r s x e = rw q e
    by false true q false ls r s x e = rw (e, longer b c r s)
    by false false q true ls r s x e = rw (q, e)
    by false false q false ls r s x e = rw (e, longer b c r s)

first_of : (bs : List ℕ) → 0 < length bs → lines bs ≡ line_of (run line_byte bs) (skip line_byte bs) ∷ lines (drop 1 (skip line_byte bs))
first_of [] h = absurd (not-suc-le-zero h)
first_of (b ∷ bs) h = first-line b bs

pub without_cr-last : (r : List ℕ) (n : ℕ) → length r ≡ suc n → without_cr r ≡ (if eqb (get_or r n 0) CR then take n r else r)
without_cr-last [] n e = absurd (omega arith)
without_cr-last (b ∷ []) zero e = refl
without_cr-last (b ∷ []) (suc n) e = absurd (omega arith)
without_cr-last (b ∷ c ∷ r) zero e = absurd (omega arith)
without_cr-last (b ∷ c ∷ r) (suc n) e = rw (without_cr-last (c ∷ r) n (omega arith)) (by (eqb (get_or (c ∷ r) n 0) CR))
  where
    by : (t : Bool) → b ∷ (if t then take n (c ∷ r) else (c ∷ r)) ≡ (if t then b ∷ take n (c ∷ r) else (b ∷ c ∷ r))
    by true = refl
    by false = refl

-- ---- places

module _ (text : List ℕ) (i e : ℕ) (h : i < length text) (q : e ≡ past line_byte text i) where
  pub ends-after : i ≤ e
  ends-after = omega (arith, past_after line_byte text i)

  pub ends-within : e ≤ length text
  ends-within = omega (arith, past-within line_byte text i (omega arith))

  -- the line at a place, and the lines after it
  pub line_at : lines (drop i text) ≡ line_of (take (e - i) (drop i text)) (drop e text) ∷ lines (drop (e + 1) text)
  line_at =
      rw (first_of (drop i text) (omega (arith, length-drop i text)), ← take_past line_byte text i, ← drop_past line_byte text i, drop-drop 1 (past line_byte text i) text, q)

  -- where no LF ends the line
  pub cut-last : length text ≤ e → Cuts text i (record { end = e; next = e + 1 })
  cut-last g =
      record {
        starts = ends-after;
        ends = omega arith;
        stays = omega (arith, ends-within);
        line = line_at ∙ rw (drop_of_length-le text g);
      }

  module _ (g : e < length text) where
    before-LF : lines (drop i text) ≡ without_cr (take (e - i) (drop i text)) ∷ lines (drop (e + 1) text)
    before-LF = line_at ∙ rw (drop-cons text e 0 g)

    -- where nothing stands before it
    pub cut-empty : e ≤ i → Cuts text i (record { end = e; next = e + 1 })
    cut-empty f =
        let z : e - i ≡ 0 = omega arith in
        record { starts = ends-after; ends = omega arith; stays = omega (arith, ends-within); line = before-LF ∙ rw z }

    module _ (f : i < e) where
      last-is : without_cr (take (e - i) (drop i text)) ≡ (if eqb (get_or text (e - 1) 0) CR then take (e - 1 - i) (drop i text) else take (e - i) (drop i text))
      last-is =
          let n = e - 1 - i in
          let z : e - i ≡ suc n = omega arith in
          let y : i + n ≡ e - 1 = omega arith in
          let m : length (take (suc n) (drop i text)) ≡ suc n = length-take-le (suc n) (drop i text) (omega (arith, length-drop i text, ends-within)) in
          rw (z, without_cr-last (take (suc n) (drop i text)) n m, get_or-take (suc n) (drop i text) n 0 (omega arith), get_or-drop i text n 0, y, take-take n (suc n) (drop i text) (omega arith))

      -- where a CR does
      pub cut-CR : get_or text (e - 1) 0 ≡ CR → Cuts text i (record { end = e - 1; next = e + 1 })
      cut-CR x =
          record {
            starts = omega arith;
            ends = omega arith;
            stays = omega (arith, ends-within);
            line = before-LF ∙ rw (last-is, eq-eqb (get_or text (e - 1) 0) CR x);
          }

      -- where another byte does
      pub cut-LF : (get_or text (e - 1) 0 ≡ CR → ⊥) → Cuts text i (record { end = e; next = e + 1 })
      cut-LF x =
          record {
            starts = ends-after;
            ends = omega arith;
            stays = omega (arith, ends-within);
            line = before-LF ∙ rw (last-is, ne_eqb (get_or text (e - 1) 0) CR x);
          }

-- ---- two texts

some-line : (bs : List ℕ) → 0 < length (lines (bs ++ LF ∷ []))
unfolding lines
some-line [] = omega arith
some-line (b ∷ bs) = by (eqb b LF) (eqb b CR && at_lf (bs ++ LF ∷ [])) (lines (bs ++ LF ∷ [])) (some-line bs)
  where
    by : (t u : Bool) (ls : List (List ℕ)) → 0 < length ls → 0 < length (if t then [] ∷ ls else (if u then ls else before b ls))
    by true u ls h = omega arith
    by false true ls h = h
    by false false [] h = omega arith
    by false false (l ∷ ls) h = omega arith

before-append : (b : ℕ) (ls ms : List (List ℕ)) → 0 < length ls → before b (ls ++ ms) ≡ before b ls ++ ms
before-append b [] ms h = absurd (not-suc-le-zero h)
before-append b (l ∷ ls) ms h = refl

at-LF : (xs ys : List ℕ) → at_lf ((xs ++ LF ∷ []) ++ ys) ≡ at_lf (xs ++ LF ∷ [])
at-LF [] ys = refl
at-LF (x ∷ xs) ys = refl

-- texts joined at a line end have the lines of both
pub lines_join : (xs ys : List ℕ) → lines ((xs ++ LF ∷ []) ++ ys) ≡ lines (xs ++ LF ∷ []) ++ lines ys
unfolding lines
lines_join [] ys = refl
lines_join (x ∷ xs) ys = rw (at-LF xs ys, lines_join xs ys) (by (eqb x LF) (eqb x CR && at_lf (xs ++ LF ∷ [])))
  where
    by : (t u : Bool)
        → (if t then [] ∷ (lines (xs ++ LF ∷ []) ++ lines ys) else (if u then lines (xs ++ LF ∷ []) ++ lines ys else before x (lines (xs ++ LF ∷ []) ++ lines ys)))
        ≡ (if t then [] ∷ lines (xs ++ LF ∷ []) else (if u then lines (xs ++ LF ∷ []) else before x (lines (xs ++ LF ∷ [])))) ++ lines ys
    by true u = refl
    by false true = refl
    by false false = before-append x (lines (xs ++ LF ∷ [])) (lines ys) (some-line xs)
