-- A run of bytes kept at once: they are written behind those in use, and what does not fit squeezes the full line. Assumes nothing.
use Prim.Native.Nat.{ℕ, suc, ◌+◌, ◌≤◌, ◌<◌}
use native.Mathlib.Nat.{add-zero}
use native.Mathlib.Numerals.{add-one}
use native.Mathlib.Omega.{arith}
use mathlib.Core.Path.{◌≡◌, refl, sym, ap, ◌∙◌}
use mathlib.Core.Bool.{Bool, true, false}
use mathlib.Core.List.{List, [], ◌∷◌, ◌++◌, append_assoc, append-nil}
use borrow.Author.Tests.{lt-ltb, le-ltb}
use lib.ListN.{length, take, drop, get_or, set, length-append, length-drop, drop_of_length-le}
use lib.Seq.{drop-cons, drop-drop, get_or-append-add, get_or-drop, get_or-take, length-take-le, set_split}
use lib.Seq.{take_at, take-suc}
use Rattle.std.specs.Prelude.{if◌then◌else◌}
use Rattle.value.specs.Classes.{blank}
use Rattle.text.specs.Lengths.{LONGEST_LINE}
use Rattle.feeding.specs.Kept.{ROOM, squeezed, keep, keep_all}
use Rattle.feeding.specs.Slid.{slid}

pub keep_all-append : (k xs ys : List ℕ) → keep_all k (xs ++ ys) ≡ keep_all (keep_all k xs) ys
keep_all-append k [] ys = refl
keep_all-append k (x ∷ xs) ys = keep_all-append (keep k x) xs ys

-- where there is room
pub keep_all-room : (k run : List ℕ) → length k + length run ≤ ROOM → keep_all k run ≡ k ++ run
unfolding keep
keep_all-room k [] h = sym (append-nil k)
keep_all-room k (b ∷ bs) h =
    rw (lt-ltb (length k) ROOM (omega arith))
    (keep_all-room (k ++ b ∷ []) bs (omega (arith, length-append k (b ∷ []))) ∙ append_assoc k (b ∷ []) bs)

pub keep-full : (k : List ℕ) (b : ℕ) → length k ≡ ROOM → keep k b ≡ squeezed k b
unfolding keep
keep-full k b h = rw (le-ltb (length k) ROOM (omega arith))

-- ---- blanks in front

next-window : (t : List ℕ) → ROOM < length t → drop 1 (take ROOM t) ++ get_or t ROOM 0 ∷ [] ≡ take ROOM (drop 1 t)
next-window [] h = absurd (omega arith)
next-window (x ∷ t) h = sym (take-suc t LONGEST_LINE 0 (omega arith))

module _ (full run : List ℕ) (f : length full ≡ ROOM) where
  slid-long : (n : ℕ) → n ≤ length run → length (slid full run n) ≡ ROOM
  slid-long n h = length-take-le ROOM (drop n (full ++ run)) (omega (arith, length-drop n (full ++ run), length-append full run))

  -- the next byte of the run is the one behind what is kept
  behind : (n : ℕ) → get_or (drop n (full ++ run)) ROOM 0 ≡ get_or run n 0
  behind n =
      let z : n + ROOM ≡ length full + n = omega arith in
      get_or-drop n (full ++ run) ROOM 0 ∙ rw z (get_or-append-add full run n 0)

  pub slid-first : (n : ℕ) → get_or (slid full run n) 0 0 ≡ get_or (full ++ run) n 0
  slid-first n = get_or-take ROOM (drop n (full ++ run)) 0 0 (omega arith) ∙ get_or-drop n (full ++ run) 0 0 ∙ rw (add-zero n)

  pub slid-start : keep_all full run ≡ keep_all (slid full run 0) (drop 0 run)
  slid-start = ap (λ (k : List ℕ). keep_all k run) (sym (take_at full run ROOM f))

  -- a blank in front goes
  pub slid-next : (n : ℕ) → n < length run → blank (get_or (full ++ run) n 0) ≡ true
      → keep_all (slid full run n) (drop n run) ≡ keep_all (slid full run (n + 1)) (drop (n + 1) run)
  slid-next n h e =
      let t = drop n (full ++ run) in
      let z : drop 1 t ≡ drop (n + 1) (full ++ run) = drop-drop 1 n (full ++ run) in
      let y : keep (slid full run n) (get_or run n 0) ≡ slid full run (n + 1) =
      keep-full (slid full run n) (get_or run n 0) (slid-long n (omega arith))
      ∙ rw (slid-first n, e, ← behind n) (next-window t (omega (arith, length-drop n (full ++ run), length-append full run)) ∙ ap (take ROOM) z) in
      ap (keep_all (slid full run n)) (drop-cons run n 0 h)
      ∙ ap (λ (k : List ℕ). keep_all k (drop (suc n) run)) y
      ∙ ap (λ (j : ℕ). keep_all (slid full run (n + 1)) (drop j run)) (sym (add-one n))

-- ---- a byte in front that is no blank

-- r is the full line k with another last byte
record Firm (k r : List ℕ) : Type 0 where
  long : length r ≡ ROOM
  front : blank (get_or r 0 0) ≡ false
  same : take LONGEST_LINE r ≡ take LONGEST_LINE k

keep-firm : (r : List ℕ) (b : ℕ) → length r ≡ ROOM → blank (get_or r 0 0) ≡ false → keep r b ≡ (if blank b then r else (take LONGEST_LINE r ++ b ∷ []))
keep-firm r b l f = keep-full r b l ∙ rw f

first-stays : (r : List ℕ) (b : ℕ) → length r ≡ ROOM → get_or (take LONGEST_LINE r ++ b ∷ []) 0 0 ≡ get_or r 0 0
first-stays [] b h = absurd (omega arith)
first-stays (c ∷ r) b h = refl

firm-keep : (k r : List ℕ) (b : ℕ) → Firm k r → Firm k (keep r b)
firm-keep k r b m = rw (keep-firm r b m.long m.front) (by (blank b))
  where
    l : length (take LONGEST_LINE r) ≡ LONGEST_LINE
    l = length-take-le LONGEST_LINE r (omega (arith, m.long))

    by : (t : Bool) → Firm k (if t then r else (take LONGEST_LINE r ++ b ∷ []))
    by true = m
    by false =
        record {
          long = omega (arith, l, length-append (take LONGEST_LINE r) (b ∷ []));
          front = rw (first-stays r b m.long) m.front;
          same = take_at (take LONGEST_LINE r) (b ∷ []) LONGEST_LINE l ∙ m.same;
        }

firm-all : (k r xs : List ℕ) → Firm k r → Firm k (keep_all r xs)
firm-all k r [] m = m
firm-all k r (x ∷ xs) m = firm-all k (keep r x) xs (firm-keep k r x m)

module _ (full run : List ℕ) (i : ℕ) (f : length full ≡ ROOM) (g : blank (get_or full 0 0) ≡ false) (h : i < length run) where
  one_more : keep_all full (take (i + 1) run) ≡ keep (keep_all full (take i run)) (get_or run i 0)
  one_more =
      ap (λ (n : ℕ). keep_all full (take n run)) (add-one i) ∙ ap (keep_all full) (take-suc run i 0 h)
      ∙ keep_all-append full (take i run) (get_or run i 0 ∷ [])

  before : Firm full (keep_all full (take i run))
  before = firm-all full full (take i run) (record { long = f; front = g; same = refl })

  is-next : keep_all full (take (i + 1) run)
      ≡ (if blank (get_or run i 0) then keep_all full (take i run) else (take LONGEST_LINE (keep_all full (take i run)) ++ get_or run i 0 ∷ []))
  is-next = one_more ∙ keep-firm (keep_all full (take i run)) (get_or run i 0) before.long before.front

  -- a blank is nothing
  pub blank-last : blank (get_or run i 0) ≡ true → keep_all full (take (i + 1) run) ≡ keep_all full (take i run)
  blank-last e = is-next ∙ rw e

  -- another byte takes the last place
  pub byte_last : blank (get_or run i 0) ≡ false → keep_all full (take (i + 1) run) ≡ set full LONGEST_LINE (get_or run i 0)
  byte_last e =
      is-next ∙ rw (e, before.same)
      (sym (set_split full LONGEST_LINE (get_or run i 0) (omega arith) ∙ rw (drop_of_length-le full {i = ROOM} (omega arith))))
