-- The values of the statement at a place of an undamaged memory are written as numbers or as strings, as its kind is. Assumes nothing.
use mathlib.Core.Path.{◌≡◌, sym, ap, ap₂, subst, ◌∙◌}
use mathlib.Core.Bool.{true, false}
use mathlib.Core.List.{List, map}
use Prim.Native.Nat.{ℕ, ◌+◌, ◌/◌, ◌≤◌, ◌<◌}
use native.Mathlib.Omega.{arith}
use borrow.Author.Tests.{ne_eqb}
use lib.Dec.{eqb, leb}
use lib.ListN.{length, take, drop, get_or}
use Rattle.value.specs.Strings.{STRING}
use Rattle.statement.specs.Statements.{Values, strings}
use Rattle.words.specs.Over.{part}
use Rattle.words.specs.Halves.{upper, lower, sum, all}
use Rattle.words.specs.Placed.{Room, Writes}
use Rattle.words.proofs.Each.{each_all}
use Rattle.words.proofs.Placed.{writes-same}
use Rattle.octets.specs.Octets.{octets}
use Rattle.layout.specs.Limits.{BYTES_AT, BYTEWORDS}
use Rattle.layout.specs.Memory.{byte_count, head_words, value_words, held_bytes, cut_strings, bytes_taken}
use Rattle.layout.specs.Damage.{Framed, Counted, total_bytes, sound}
use Rattle.layout.proofs.Areas.{length-heads, length-values, length-bytewords}
use Rattle.layout.proofs.Sound.{Sound, sound-of}
use Rattle.variables.specs.Variables.{string, each}
use Rattle.variables.proofs.Held.{values-within, fits-at}
use Rattle.shown.specs.Shown.{value_lines}
use Rattle.shown.specs.Shows.{head_of, words_of, stated, Stating, spelt, Spelling}
use Rattle.shown.proofs.Strings.{Short, cut-front, bytes-within}

module _ (m : List ℕ) (k value at : ℕ) (out : List ℕ) (T : Stating m k value at out) (u : sound m ≡ true) where
  S : Sound m
  S = sound-of m u

  sized : Framed m
  sized = S.sizes

  abbrev kind : ℕ
  kind = upper (head_of m k) / 2

  abbrev first : ℕ
  first = total_bytes (take k (head_words m)) (value_words m)

  -- ---- what is read of the areas

  module _ (heads values : List ℕ) (e : heads ≡ head_words m) (v : values ≡ value_words m) where
    pub held : k < length heads
    held = omega (arith, T.held, ap length e, length-heads m sized)

    head= : get_or heads k 0 ≡ head_of m k
    head= = ap (λ (l : List ℕ). get_or l k 0) e

    pub words-within : value + lower (get_or heads k 0) ≤ length values
    words-within = omega (arith, T.offset, ap lower head=, values-within m S k T.held, ap length v)

    pub counted : Counted (take k heads) values
    counted =
        record {
          within = omega (arith, T.offset, ap (λ (l : List ℕ). sum (take k l)) e, words-within);
          few = omega (arith, ap length v, length-values m sized, sized.values);
        }

    module _ (words : List ℕ) (w : words ≡ part value (lower (get_or heads k 0)) values) where
      words= : words ≡ words_of m k
      words= = w ∙ (λ i. part (T.offset i) (lower (head= i)) (v i))

      -- ---- strings

      module _ (z : upper (get_or heads k 0) / 2 ≡ 0 → ⊥) (from : ℕ) (f : from ≡ total_bytes (take k heads) values) (bytes : List ℕ) (b : bytes ≡ part BYTES_AT BYTEWORDS m) where
        strings-kind : eqb kind 0 ≡ false
        strings-kind = ne_eqb kind 0 (λ y. z (ap (λ (h : ℕ). upper h / 2) head= ∙ y))

        from= : from ≡ first
        from= = f ∙ ap₂ (λ (x y : List ℕ). total_bytes (take k x) y) e v

        short : Short (words_of m k)
        short = rw strings-kind at (fits-at m S k T.held)

        fits : first + sum (words_of m k) ≤ byte_count m
        fits =
            let t : bytes_taken kind (words_of m k) ≡ sum (words_of m k) = rw strings-kind in
            omega (arith, t, bytes-within k (head_words m) (value_words m) (omega (arith, T.held, length-heads m sized)), S.bytes=)

        string-lines : value_lines (each (stated m k)) ≡ spelt bytes from words
        string-lines =
            let area = octets (part BYTES_AT BYTEWORDS m) in
            let x : stated m k ≡ strings (cut_strings (words_of m k) (drop first (held_bytes m))) = rw strings-kind in
            ap (λ (v : Values). value_lines (each v)) x
            ∙ ap (λ (l : List (List ℕ)). value_lines (map string l)) (cut-front (words_of m k) area first (byte_count m) short fits)
            ∙ sym (λ i. spelt (b i) (from= i) (words= i))

        pub spelling : Spelling bytes from words at out
        spelling =
            record {
              short = ap (all (λ n. leb n STRING)) words= ∙ each_all (λ n. leb n STRING) (words_of m k) short;
              fits = omega (arith, from=, ap sum words=, fits, sized.bytes, ap length b, length-bytewords m sized);
              room = subst (λ (l : List ℕ). Room at l out) string-lines T.room;
            }

        pub writes-strings : {r : ℕ} {o : List ℕ} → Writes at (spelt bytes from words) out r o → Writes at (value_lines (each (stated m k))) out r o
        writes-strings = writes-same (sym string-lines)
