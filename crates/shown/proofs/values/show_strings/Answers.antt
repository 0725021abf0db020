-- `show_strings` meets its contract: after i turns the lines of the first i strings are written, and the next one's bytes begin where
-- theirs end. Assumes nothing.
use mathlib.Core.Path.{◌≡◌, sym, ap, subst, ◌∙◌}
use mathlib.Core.List.{List, [], ◌∷◌, ◌++◌}
use Prim.Native.Nat.{ℕ, ◌+◌, ◌≤◌, ◌<◌}
use native.Mathlib.Nat.{add-zero}
use native.Mathlib.Omega.{arith}
use lib.ListN.{length, take, drop, get_or, length-map, get_or-map}
use lib.Seq.{drop-drop}
use Rattle.plain.specs.Bytes.{LF}
use Rattle.value.specs.Strings.{quoted}
use Rattle.words.specs.Over.{part}
use Rattle.words.specs.Halves.{sum}
use Rattle.words.specs.Placed.{Room, Writes}
use Rattle.words.proofs.Each.{all-each}
use Rattle.octets.specs.Octets.{octets}
use Rattle.layout.specs.Memory.{cut_strings}
use Rattle.layout.proofs.Spelling.{many-cut}
use Rattle.variables.specs.Variables.{Datum, string}
use Rattle.pen.specs.Quoted.{Quoting}
use Rattle.shown.specs.Shown.{value_line, value_lines}
use Rattle.shown.specs.Shows.{spelt, Spelling}
use Rattle.shown.proofs.Writing.{writes-none, writes-all, room_next, writes-next}
use Rattle.shown.proofs.Strings.{Short, string-at, string-next, string-within}
use Rattle.shown.proofs.values.show_strings.Invariants.{held, Spelled}
use Rattle.shown.proofs.values.show_strings.Goals as goal

length-held : (bytes : List ℕ) (from : ℕ) (ls : List ℕ) → length (held bytes from ls) ≡ length ls
length-held bytes from ls = length-map (cut_strings ls (drop from (octets bytes))) string ∙ many-cut 1 ls (drop from (octets bytes))

none-spelled : (bytes : List ℕ) (from : ℕ) (ls : List ℕ) (at : ℕ) (out : List ℕ) → Spelled bytes from ls at out from at 0 out
unfolding sum
none-spelled bytes from ls at out = record { place = sym (add-zero from); lines = writes-none value_line (held bytes from ls) }

module _ (bytes : List ℕ) (from : ℕ) (ls : List ℕ) (at : ℕ) (out : List ℕ) (S : Spelling bytes from ls at out) where
  short : Short ls
  short = all-each _ ls S.short

  -- a turn
  module _ (i : ℕ) (h : i < length ls) (byte end : ℕ) (now : List ℕ) (P : Spelled bytes from ls at out byte end i now) where
    abbrev n : ℕ
    n = get_or ls i 0

    abbrev line : List ℕ
    line = quoted (part byte n (octets bytes)) ++ (LF ∷ [])

    within : i < length (held bytes from ls)
    within = omega (arith, length-held bytes from ls)

    here : get_or (held bytes from ls) i (string []) ≡ string (part byte n (octets bytes))
    here =
        get_or-map string (cut_strings ls (drop from (octets bytes))) i []
        ∙ ap string
        (string-at ls (drop from (octets bytes)) i short h
        ∙ ap (take n) (drop-drop (sum (take i ls)) from (octets bytes) ∙ ap (λ (k : ℕ). drop k (octets bytes)) (sym P.place)))

    fits : byte + n ≤ from + sum ls
    fits = omega (arith, P.place, string-within ls i short h)

    quoting : Quoting end bytes byte n now
    unfolding value_lines
    quoting =
        record {
          bytes = record { fits = omega (arith, fits, S.fits) };
          room = subst (λ (v : Datum). Room end (value_line v) now) here (room_next value_line (held bytes from ls) i (string []) within P.lines S.room);
        }

    one_more : (end' : ℕ) (now' : List ℕ) → Writes end line now end' now' → Spelled bytes from ls at out (byte + n) end' (i + 1) now'
    one_more end' now' w =
        record {
          place = omega (arith, P.place, string-next ls i short h);
          lines = writes-next value_line (held bytes from ls) i (string []) within P.lines (subst (λ (v : Datum). Writes end (value_line v) now end' now') (sym here) w);
        }

all-spelled : (bytes : List ℕ) (from : ℕ) (ls : List ℕ) (at : ℕ) (out : List ℕ) (byte end i : ℕ) (now : List ℕ) → length ls ≤ i → Spelled bytes from ls at out byte end i now
    → Writes at (spelt bytes from ls) out end now
unfolding value_lines
all-spelled bytes from ls at out byte end i now h P = writes-all value_line (held bytes from ls) i (omega (arith, length-held bytes from ls)) P.lines

pub loop-length-init : goal.loop-length-init
loop-length-init c = none-spelled _ _ _ _ _

pub write_quoted-end-requires : goal.write_quoted-end-requires
write_quoted-end-requires c =
    quoting _ _ _ _ _ c.requires c.loop-length.length-index c.loop-length-test.true _ _ _ c.loop-length.invariant

pub overflow_add-byte : goal.overflow_add-byte
overflow_add-byte c =
    omega (arith, fits _ _ _ _ _ c.requires c.loop-length.length-index c.loop-length-test.true _ _ _ c.loop-length.invariant, c.requires.fits)

pub loop-length-preserved : goal.loop-length-preserved
loop-length-preserved c =
    one_more _ _ _ _ _ c.requires c.loop-length.length-index c.loop-length-test.true _ _ _ c.loop-length.invariant _ _ c.write_quoted-end.ensures

pub returns : goal.returns
returns c = all-spelled _ _ _ _ _ _ _ c.loop-length.length-index _ c.loop-length-test.false c.loop-length.invariant
