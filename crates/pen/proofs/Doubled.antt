-- A string with each quote written twice is written byte by byte. Assumes nothing.
use mathlib.Core.Path.{◌≡◌, refl, sym, ap, ◌∙◌}
use mathlib.Core.Bool.{Bool, true, false}
use mathlib.Core.List.{List, [], ◌∷◌, ◌++◌}
use Prim.Native.Nat.{ℕ, ◌+◌, ◌<◌}
use native.Mathlib.Numerals.{add-one}
use native.Mathlib.Omega.{arith}
use borrow.Author.Tests.{eq-eqb}
use lib.Dec.{eqb}
use lib.ListN.{length, take, drop, get_or, length-drop, take-append-drop}
use lib.Seq.{take-suc, length-take-le, get_or-take, get_or-drop}
use Rattle.std.specs.Prelude.{if◌then◌else◌}
use Rattle.plain.specs.Bytes.{QUOTE}
use Rattle.value.specs.Strings.{doubled}
use Rattle.words.specs.Over.{part}
use Rattle.words.proofs.Steps.{drop-next}
use Rattle.octets.specs.Octets.{octets}
use Rattle.octets.specs.Places.{Has}
use Rattle.octets.proofs.Bytes.{length-octets}

doubled-append : (xs ys : List ℕ) → doubled (xs ++ ys) ≡ doubled xs ++ doubled ys
doubled-append [] ys = refl
doubled-append (b ∷ xs) ys = by (eqb b QUOTE) (doubled-append xs ys)
  where
    by : (t : Bool) → doubled (xs ++ ys) ≡ doubled xs ++ doubled ys
        → (if t then QUOTE ∷ QUOTE ∷ doubled (xs ++ ys) else (b ∷ doubled (xs ++ ys))) ≡ (if t then QUOTE ∷ QUOTE ∷ doubled xs else (b ∷ doubled xs)) ++ doubled ys
    by true r = ap (λ (l : List ℕ). QUOTE ∷ QUOTE ∷ l) r
    by false r = ap (λ (l : List ℕ). b ∷ l) r

-- ---- one byte

pub doubled-quote : (b : ℕ) → b ≡ QUOTE → doubled (b ∷ []) ≡ (QUOTE ∷ []) ++ (QUOTE ∷ [])
doubled-quote b h = rw (eq-eqb b QUOTE h)

-- ---- the byte at place i of some bytes of words

module _ (ws : List ℕ) (from n : ℕ) (H : Has from n ws) where
  abbrev s : List ℕ
  s = part from n (octets ws)

  pub length-bytes : length s ≡ n
  length-bytes = length-take-le n (drop from (octets ws)) (omega (arith, length-drop from (octets ws), length-octets ws, H.fits))

  module _ (i : ℕ) (h : i < n) (b : ℕ) (e : b ≡ get_or (octets ws) (from + i) 0) where
    byte : get_or s i 0 ≡ b
    byte = get_or-take n (drop from (octets ws)) i 0 h ∙ get_or-drop from (octets ws) i 0 ∙ sym e

    within : i < length s
    within = omega (arith, length-bytes)

    pub doubled-next : doubled (take (i + 1) s) ≡ doubled (take i s) ++ doubled (b ∷ [])
    doubled-next =
        ap doubled (ap (λ (k : ℕ). take k s) (add-one i) ∙ take-suc s i 0 within ∙ ap (λ (x : ℕ). take i s ++ (x ∷ [])) byte)
        ∙ doubled-append (take i s) (b ∷ [])

    pub doubled-split : doubled s ≡ doubled (take i s) ++ (doubled (b ∷ []) ++ doubled (drop (i + 1) s))
    doubled-split =
        ap doubled (sym (take-append-drop i s) ∙ ap (λ (l : List ℕ). take i s ++ l) (drop-next s i 0 within ∙ ap (λ (x : ℕ). x ∷ drop (i + 1) s) byte))
        ∙ doubled-append (take i s) (b ∷ drop (i + 1) s)
        ∙ ap (λ (l : List ℕ). doubled (take i s) ++ l) (doubled-append (b ∷ []) (drop (i + 1) s))
