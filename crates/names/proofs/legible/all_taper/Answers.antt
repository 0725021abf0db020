-- `all_taper` meets its contract: after a word of name bytes only, what is asked of the rest is what is asked of all.
-- Assumes nothing.
use mathlib.Core.Path.{◌≡◌, sym, ap, ◌∙◌}
use mathlib.Core.Bool.{true, false}
use mathlib.Core.List.{List, ◌∷◌}
use Prim.Native.Nat.{ℕ, ◌+◌, ◌-◌, ◌%◌, ◌≤◌, ◌<◌}
use native.Mathlib.Omega.{arith}
use lib.ListN.{length, take, drop, get_or}
use Rattle.words.specs.Halves.{all}
use Rattle.words.proofs.Steps.{drop-next, drop-end, rest_part}
use Rattle.plain.proofs.Each.{each-drop}
use Rattle.words.proofs.Each.{WORD, words_of}
use Rattle.octets.specs.Octets.{bytes_of, octets}
use Rattle.names.proofs.Tapering.{zeros, ends, ends_through, ends_last, ends-never, zeros-words}
use Rattle.names.proofs.legible.all_taper.Goals as goal

-- what the word at place i tells of the words from there on
module _ (ws : List ℕ) (i : ℕ) (h : i < length ws) where
  abbrev w : ℕ
  w = get_or ws i 0

  abbrev rest : List ℕ
  rest = drop (i + 1) ws

  here : ends (octets (drop i ws)) ≡ ends (octets (w ∷ rest))
  here = ap (λ (l : List ℕ). ends (octets l)) (drop-next ws i 0 h)

  never : ends (bytes_of w) ≡ false → ends (octets (drop i ws)) ≡ false
  never e = here ∙ ends-never w rest e

  last : ((j : ℕ) → get_or ws j 0 < WORD) → ends (bytes_of w) ≡ true → w % 256 ≡ 0 → zeros (take (length ws - (i + 1)) rest) ≡ ends (octets (drop i ws))
  last f e z = ap zeros (rest_part ws (i + 1)) ∙ sym (here ∙ ends_last w rest e z ∙ zeros-words rest (each-drop (λ w. w < WORD) (i + 1) ws (words_of ws f)))

  through : ends (bytes_of w) ≡ true → (w % 256 ≡ 0 → ⊥) → ends (octets rest) ≡ ends (octets (drop i ws))
  through e n = sym (here ∙ ends_through w rest e n)

none_left : (ws : List ℕ) (i : ℕ) → i ≤ length ws → length ws ≤ i → true ≡ ends (octets (drop i ws))
unfolding octets all
none_left ws i h k = sym (ap (λ (l : List ℕ). ends (octets l)) (drop-end ws i h k))

pub returns : goal.returns
returns c = none_left _ _ c.loop-i.auto.i-end c.loop-i-test.false ∙ c.loop-i.invariant

pub returns-then-tapers : goal.returns-then-tapers
returns-then-tapers c =
    c.all_zero.ensures
    ∙ last c.args.ws.now c.loop-i.i c.loop-i-test.true (λ j. omega (arith, c.type_inv.ws j)) (sym c.filled.ensures ∙ sym c.tapers.ensures ∙ c.if-tapers.true) c.if-w-eq0.true
    ∙ c.loop-i.invariant

pub returns-else-tapers : goal.returns-else-tapers
returns-else-tapers c =
    c.if-tapers.false ∙ sym (never _ _ c.loop-i-test.true (sym c.filled.ensures ∙ sym c.tapers.ensures ∙ c.if-tapers.false)) ∙ c.loop-i.invariant

pub returns-then-not-tapers : goal.returns-then-not-tapers
returns-then-not-tapers c =
    sym (never _ _ c.loop-i-test.true (sym c.tapers-in-loop-i.ensures ∙ c.if-not-tapers.true)) ∙ c.loop-i.invariant

pub loop-i-preserved : goal.loop-i-preserved
loop-i-preserved c =
    through _ _ c.loop-i-test.true (sym c.tapers-in-loop-i.ensures ∙ c.if-not-tapers.false) c.if-w-eq0.false ∙ c.loop-i.invariant
