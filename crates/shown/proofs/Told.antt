-- A variable's values told statement by statement: the lines written and those of the statements that are left are all lines.
-- Assumes nothing.
use mathlib.Core.Path.{◌≡◌, sym, ap, subst, ◌∙◌}
use mathlib.Core.Bool.{Bool, true, false}
use mathlib.Core.List.{List, [], ◌++◌, append_assoc, append-nil}
use Prim.Native.Nat.{ℕ, ◌+◌, ◌*◌, ◌≤◌, ◌<◌}
use native.Mathlib.Omega.{arith}
use lib.ListN.{get_or}
use Rattle.plain.specs.Lists.{equal}
use Rattle.words.specs.Over.{part}
use Rattle.words.specs.Halves.{lower}
use Rattle.words.specs.Placed.{Room, Writes}
use Rattle.words.proofs.Placed.{writes_nothing, writes-same, room-first, room-then, writes_then}
use Rattle.names.specs.Names.{NAMEWORDS}
use Rattle.layout.specs.Memory.{statement_count, value_count}
use Rattle.layout.proofs.Areas.{length-values}
use Rattle.layout.proofs.Sound.{Sound}
use Rattle.variables.specs.Variables.{Datum, each}
use Rattle.variables.specs.Walk.{Begins}
use Rattle.variables.proofs.Held.{offset_at, values-within}
use Rattle.variables.proofs.Names.{Hands}
use Rattle.variables.proofs.Ahead.{left, left-all, left-none, count-told, offset-next, left_other, left-given}
use Rattle.shown.specs.Shown.{value_lines}
use Rattle.shown.specs.Shows.{lines, stated, Stating}
use Rattle.shown.proofs.Together.{lines_none, lines-append}

pub record Told (name m : List ℕ) (at : ℕ) (out : List ℕ) (s value end : ℕ) (now : List ℕ) : Type 0 where
  pub within : s ≤ statement_count m
  pub offset : value ≡ offset_at m s
  pub done : List ℕ
  pub written : Writes at done out end now
  pub whole : done ++ value_lines (left name m s) ≡ lines m name

pub told_none : (name m : List ℕ) (at : ℕ) (out : List ℕ) (s value count strings : ℕ) → Begins name m s value count strings → Told name m at out s value at out
told_none name m at out s value count strings B =
    record { within = B.within; offset = B.offset; done = []; written = writes_nothing at out; whole = ap value_lines (left-all B) }

pub told-all : {name m : List ℕ} {at : ℕ} {out : List ℕ} {s value end : ℕ} {now : List ℕ} → Sound m → statement_count m ≤ s → Told name m at out s value end now → Writes at (lines m name) out end now
told-all {name} {m} {s = s} S h T =
    let e : value_lines (left name m s) ≡ [] = ap value_lines (left-none name m s S (omega (arith, T.within))) ∙ lines_none in
    writes-same (sym (append-nil T.done) ∙ sym (ap (λ (l : List ℕ). T.done ++ l) e) ∙ T.whole) T.written

-- ---- the statement at place s

module _ {m name words heads names : List ℕ} (H : Hands m name words heads names) {at : ℕ} {out : List ℕ} {s value end : ℕ} {now : List ℕ}
    (T : Told name m at out s value end now) (h : s < statement_count m) where
  abbrev n : ℕ
  n = lower (get_or heads s 0)

  pub values-end : value + n ≤ value_count m
  values-end = omega (arith, T.offset, count-told H T.offset h, values-within m H.sound s h, length-values m H.sound.sizes)

  module _ (t : Bool) (e : t ≡ equal (part (NAMEWORDS * s) NAMEWORDS names) words) where
    -- it has another name
    pub told-other : t ≡ false → Told name m at out (s + 1) (value + n) end now
    told-other f =
        record {
          within = omega arith;
          offset = offset-next H T.offset h;
          done = T.done;
          written = T.written;
          whole = sym (ap (λ (l : List Datum). T.done ++ value_lines l) (left_other H T.offset h t e f)) ∙ T.whole;
        }

    -- it has the name
    module _ (f : t ≡ true) where
      abbrev own : List ℕ
      own = value_lines (each (stated m s))

      rest : value_lines (left name m s) ≡ own ++ value_lines (left name m (s + 1))
      rest = ap value_lines (left-given H T.offset h t e f) ∙ lines-append (each (stated m s)) (left name m (s + 1))

      pub told-stating : Room at (lines m name) out → Stating m s value end now
      told-stating r =
          record {
            held = h;
            offset = T.offset;
            room =
                let l = own ++ value_lines (left name m (s + 1)) in
                room-first own (value_lines (left name m (s + 1)))
                (room-then T.done l (subst (λ (x : List ℕ). Room at x out) (sym T.whole ∙ ap (λ (x : List ℕ). T.done ++ x) rest) r) T.written);
          }

      pub told_more : {end' : ℕ} {now' : List ℕ} → Writes end own now end' now' → Told name m at out (s + 1) (value + n) end' now'
      told_more w =
          record {
            within = omega arith;
            offset = offset-next H T.offset h;
            done = T.done ++ own;
            written = writes_then T.done own T.written w;
            whole = append_assoc T.done own (value_lines (left name m (s + 1))) ∙ sym (ap (λ (x : List ℕ). T.done ++ x) rest) ∙ T.whole;
          }
