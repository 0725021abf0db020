-- What is written in quotes is read back, there is one way to write a string, and a string's bytes are bytes of the line. Assumes nothing.
use Prim.Native.Nat.{ℕ, suc, ◌+◌, ◌<◌}
use native.Mathlib.Nat.{add-zero}
use native.Mathlib.Omega.{arith}
use mathlib.Core.Path.{◌≡◌, refl, sym, ap, ◌∙◌}
use mathlib.Core.Bool.{Bool, true, false}
use mathlib.Core.List.{List, [], ◌∷◌, ◌++◌}
use borrow.Author.Tests.{eqb-true, ltb-true, ltb-false}
use lib.Dec.{eqb, ltb}
use lib.ListN.{length, take, drop, get_or, drop_of_length-le}
use lib.Seq.{get_or-drop}
use Rattle.plain.specs.Bytes.{QUOTE}
use Rattle.std.specs.Prelude.{if◌then◌else◌}
use Rattle.plain.proofs.Each.{Each, each-drop}
use Rattle.plain.proofs.Runs.{drop-byte}
use Rattle.value.specs.Classes.{stands}
use Rattle.value.specs.Strings.{Scanned, closed, unclosed, preceding, scanned, contents, undoubled, doubled, quoted}
use Rattle.value.proofs.Found.{undoubled-at}
use Rattle.value.proofs.Scanning.{scan-plain, scan-twice, scan-close}
use Rattle.value.proofs.Standing.{stands-within}

-- ---- written and read

-- a string's bytes doubled and a quote, before anything but a quote
pub scan-doubled : (s rest : List ℕ) → stands QUOTE rest 0 ≡ false → scanned (doubled s ++ QUOTE ∷ rest) ≡ closed s (length (doubled s) + 1)
scan-doubled [] rest h = scan-close rest h
scan-doubled (b ∷ s) rest h = by (eqb b QUOTE) refl (scan-doubled s rest h)
  where
    by : (t : Bool) → eqb b QUOTE ≡ t → scanned (doubled s ++ QUOTE ∷ rest) ≡ closed s (length (doubled s) + 1)
        → scanned ((if t then QUOTE ∷ QUOTE ∷ doubled s else b ∷ doubled s) ++ QUOTE ∷ rest)
        ≡ closed (b ∷ s) (length (if t then QUOTE ∷ QUOTE ∷ doubled s else b ∷ doubled s) + 1)
    by true e f =
        let z : 2 + (length (doubled s) + 1) ≡ length (QUOTE ∷ QUOTE ∷ doubled s) + 1 = omega arith in
        scan-twice (doubled s ++ QUOTE ∷ rest) ∙ rw (f, z, eqb-true b QUOTE e)
    by false e f =
        let z : 1 + (length (doubled s) + 1) ≡ length (b ∷ doubled s) + 1 = omega arith in
        scan-plain b (doubled s ++ QUOTE ∷ rest) e ∙ rw (f, z)

-- a string that is written is read as itself
pub undoubled-quoted : (s : List ℕ) → undoubled (quoted s) ≡ s
undoubled-quoted s = ap contents (scan-doubled s [] refl)

-- ---- there is one way to write a string

-- what is read as a string is its bytes doubled, and a quote
abbrev Doubled : List ℕ → Scanned → Type 0
Doubled bs unclosed = Unit
Doubled bs (closed s k) = take k bs ≡ doubled s ++ QUOTE ∷ []

doubled-quote : (s : Scanned) (bs : List ℕ) → Doubled bs s → Doubled (QUOTE ∷ QUOTE ∷ bs) (preceding QUOTE 2 s)
doubled-quote unclosed bs h = tt
doubled-quote (closed s k) bs h = let z : 2 + k ≡ suc (suc k) = omega arith in rw (z, h)

doubled-byte : (b : ℕ) (s : Scanned) (bs : List ℕ) → eqb b QUOTE ≡ false → Doubled bs s → Doubled (b ∷ bs) (preceding b 1 s)
doubled-byte b unclosed bs e h = tt
doubled-byte b (closed s k) bs e h = let z : 1 + k ≡ suc k = omega arith in rw (e, z, h)

pub scanned-doubled : (bs : List ℕ) → Doubled bs (scanned bs)
unfolding scanned
scanned-doubled [] = tt
scanned-doubled (b ∷ []) = by (eqb b QUOTE) refl
  where
    by : (t : Bool) → eqb b QUOTE ≡ t → Doubled (b ∷ []) (if t then closed [] 1 else unclosed)
    by true e = rw (eqb-true b QUOTE e)
    by false e = tt
scanned-doubled (b ∷ c ∷ bs) = by (eqb b QUOTE) (eqb c QUOTE) refl refl (scanned-doubled bs) (scanned-doubled (c ∷ bs))
  where
    by : (t u : Bool) → eqb b QUOTE ≡ t → eqb c QUOTE ≡ u → Doubled bs (scanned bs) → Doubled (c ∷ bs) (scanned (c ∷ bs))
        → Doubled (b ∷ c ∷ bs) (if t then (if u then preceding QUOTE 2 (scanned bs) else closed [] 1) else preceding b 1 (scanned (c ∷ bs)))
    by true true e f g h = rw (eqb-true b QUOTE e, eqb-true c QUOTE f) (doubled-quote (scanned bs) bs g)
    by true false e f g h = rw (eqb-true b QUOTE e)
    by false u e f g h = doubled-byte b (scanned (c ∷ bs)) (c ∷ bs) e h

-- ---- the bytes of a string

module _ (P : ℕ → Type 0) (q : P QUOTE) where
  each-preceding : (b n : ℕ) (s : Scanned) → P b → Each P (contents s) → Each P (contents (preceding b n s))
  each-preceding b n unclosed p h = tt
  each-preceding b n (closed bs k) p h = (p, h)

  each-scanned : (bs : List ℕ) → Each P bs → Each P (contents (scanned bs))
  unfolding scanned
  each-scanned [] h = tt
  each-scanned (b ∷ []) h = by (eqb b QUOTE)
    where
      by : (t : Bool) → Each P (contents (if t then closed [] 1 else unclosed))
      by true = tt
      by false = tt
  each-scanned (b ∷ c ∷ bs) h = by (eqb b QUOTE) (eqb c QUOTE) (each-scanned bs h.1.1) (each-scanned (c ∷ bs) h.1)
    where
      by : (t u : Bool) → Each P (contents (scanned bs)) → Each P (contents (scanned (c ∷ bs)))
          → Each P (contents (if t then (if u then preceding QUOTE 2 (scanned bs) else closed [] 1) else preceding b 1 (scanned (c ∷ bs))))
      by true true f g = each-preceding QUOTE 2 (scanned bs) q f
      by true false f g = tt
      by false u f g = each-preceding b 1 (scanned (c ∷ bs)) h.0 g

  -- what holds of every byte of a line and of a quote holds of every byte of a string in it
  pub each-undoubled : (line : List ℕ) (i : ℕ) → Each P line → Each P (undoubled (drop i line))
  each-undoubled line i h = rw (undoubled-at line i) (each-scanned (drop (i + 1) line) (each-drop P (i + 1) line h))

-- ---- a string copied a byte at a time

-- how many bytes of the line a byte of a string takes
abbrev pub width : ℕ → ℕ
width b = if eqb b QUOTE then 2 else 1

some_left : (b n : ℕ) (s : Scanned) → 0 < length (contents (preceding b n s)) → contents (preceding b n s) ≡ b ∷ contents s
some_left b n unclosed h = absurd (omega arith)
some_left b n (closed bs k) h = refl

none_left : 0 < length (contents (scanned [])) → ⊥
unfolding scanned
none_left h = omega arith

none-closed : 0 < length (contents (closed [] 1)) → ⊥
none-closed h = omega arith

module _ (line : List ℕ) (i : ℕ) (h : 0 < length (contents (scanned (drop i line)))) where
  -- while a string has bytes left, the line has
  pub byte_left : i < length line
  byte_left = by (ltb i (length line)) refl
    where
      by : (t : Bool) → ltb i (length line) ≡ t → i < length line
      by true e = ltb-true i (length line) e
      by false e = absurd (none_left (rw (drop_of_length-le line (ltb-false i (length line) e)) at h))

  next-plain : eqb (get_or line i 0) QUOTE ≡ false → contents (scanned (drop i line)) ≡ get_or line i 0 ∷ contents (scanned (drop (i + 1) line))
  next-plain e =
      let b = get_or line i 0 in
      let p : scanned (drop i line) ≡ preceding b 1 (scanned (drop (i + 1) line)) = ap scanned (drop-byte line i b byte_left refl) ∙ scan-plain b (drop (i + 1) line) e in
      ap contents p ∙ some_left b 1 (scanned (drop (i + 1) line)) (rw p at h)

  next-quote : eqb (get_or line i 0) QUOTE ≡ true → contents (scanned (drop i line)) ≡ QUOTE ∷ contents (scanned (drop (i + 2) line))
  next-quote e = by (stands QUOTE line (i + 1)) refl
    where
      p : drop i line ≡ QUOTE ∷ drop (i + 1) line
      p = drop-byte line i QUOTE byte_left (eqb-true (get_or line i 0) QUOTE e)

      by : (u : Bool) → stands QUOTE line (i + 1) ≡ u → contents (scanned (drop i line)) ≡ QUOTE ∷ contents (scanned (drop (i + 2) line))
      by true y =
          let g : i + 1 < length line = stands-within QUOTE line (i + 1) true (omega arith) (sym y) refl in
          let z : i + 1 + 1 ≡ i + 2 = omega arith in
          let w : drop (i + 1) line ≡ QUOTE ∷ drop (i + 2) line =
          drop-byte line (i + 1) QUOTE g (eqb-true (get_or line (i + 1) 0) QUOTE y) ∙ ap (λ (j : ℕ). QUOTE ∷ drop j line) z in
          let o : scanned (drop i line) ≡ preceding QUOTE 2 (scanned (drop (i + 2) line)) =
          ap scanned (p ∙ ap (λ (l : List ℕ). QUOTE ∷ l) w) ∙ scan-twice (drop (i + 2) line) in
          ap contents o ∙ some_left QUOTE 2 (scanned (drop (i + 2) line)) (rw o at h)
      by false y =
          let o : stands QUOTE (drop (i + 1) line) 0 ≡ false =
          ap (λ (x : ℕ). eqb x QUOTE) (get_or-drop (i + 1) line 0 0 ∙ ap (λ (j : ℕ). get_or line j 0) (add-zero (i + 1))) ∙ y in
          let w : scanned (drop i line) ≡ closed [] 1 = ap scanned p ∙ scan-close (drop (i + 1) line) o in
          absurd (none-closed (rw w at h))

  -- the next byte is the line's, and the others follow it
  pub next-byte : contents (scanned (drop i line)) ≡ get_or line i 0 ∷ contents (scanned (drop (i + width (get_or line i 0)) line))
  next-byte = by (eqb (get_or line i 0) QUOTE) refl
    where
      by : (t : Bool) → eqb (get_or line i 0) QUOTE ≡ t
          → contents (scanned (drop i line)) ≡ get_or line i 0 ∷ contents (scanned (drop (i + (if t then 2 else 1)) line))
      by true e = next-quote e ∙ ap (λ (b : ℕ). b ∷ contents (scanned (drop (i + 2) line))) (sym (eqb-true (get_or line i 0) QUOTE e))
      by false e = next-plain e
