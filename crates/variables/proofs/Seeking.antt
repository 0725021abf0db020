-- The search forward for a value by its place: the value that is wanted is, from the statement reached on, at the place that is left.
-- Assumes nothing.
use Prim.Native.Nat.{ℕ, ◌+◌, ◌*◌, ◌-◌, ◌≤◌, ◌<◌}
use mathlib.Core.Path.{◌≡◌, sym, ap, ◌∙◌}
use mathlib.Core.Bool.{Bool, true, false}
use mathlib.Core.List.{List, [], ◌++◌}
use native.Mathlib.Omega.{arith}
use lib.ListN.{length, drop, get_or, length-append, get_or-append}
use lib.Seq.{get_or-append-add}
use Rattle.plain.specs.Lists.{equal}
use Rattle.statement.specs.Statements.{Statement}
use Rattle.words.specs.Over.{part}
use Rattle.words.specs.Halves.{lower}
use Rattle.names.specs.Names.{NAMEWORDS}
use Rattle.layout.specs.State.{program}
use Rattle.layout.specs.Limits.{VALUES}
use Rattle.layout.specs.Memory.{statement_count, decode}
use Rattle.layout.proofs.Areas.{length-values}
use Rattle.layout.proofs.Sound.{Sound}
use Rattle.variables.specs.Variables.{Datum, string, each, variable}
use Rattle.variables.specs.Walk.{Begins}
use Rattle.variables.specs.Places.{Stands}
use Rattle.variables.proofs.Counts.{length-each}
use Rattle.variables.proofs.Held.{offset_at, statement_at, values-within, program-next}
use Rattle.variables.proofs.Names.{Hands}
use Rattle.variables.proofs.Ahead.{left, left-all, left-none, count-told, length-given, offset-next, left_other, left-given}

pub record Sought (name m : List ℕ) (place s value index : ℕ) : Type 0 where
  pub within : s ≤ statement_count m
  pub offset : value ≡ offset_at m s
  pub inside : index < length (left name m s)
  pub same : get_or (variable name (decode m)) place (string []) ≡ get_or (left name m s) index (string [])

pub sought-none : (name m : List ℕ) (place s value count strings : ℕ) → Begins name m s value count strings → place < count → Sought name m place s value place
sought-none name m place s value count strings B h =
    let e = left-all B in
    record {
      within = B.within;
      offset = B.offset;
      inside = omega (arith, ap length e, B.size);
      same = sym (ap (λ (l : List Datum). get_or l place (string [])) e);
    }

-- it is found before the last statement is passed
pub sought-found : (name m : List ℕ) (place s value index : ℕ) → Sound m → statement_count m ≤ s → Sought name m place s value index → ⊥
sought-found name m place s value index S h P = omega (arith, P.inside, ap length (left-none name m s S (omega (arith, P.within))))

-- ---- the statement at place s

module _ {m name words heads names : List ℕ} (H : Hands m name words heads names) {place s value index : ℕ} (P : Sought name m place s value index)
    (h : s < statement_count m) where
  abbrev n : ℕ
  n = lower (get_or heads s 0)

  abbrev x : Statement
  x = statement_at m s

  abbrev later : List Datum
  later = left name m (s + 1)

  pub sought-few : value + n ≤ VALUES
  sought-few = omega (arith, P.offset, count-told H P.offset h, values-within m H.sound s h, length-values m H.sound.sizes, H.sound.sizes.values)

  long : length (each x.values) ≡ n
  long = length-given H P.offset h

  module _ (t : Bool) (e : t ≡ equal (part (NAMEWORDS * s) NAMEWORDS names) words) where
    pub seek-other : t ≡ false → Sought name m place (s + 1) (value + n) index
    seek-other f =
        let g = left_other H P.offset h t e f in
        record {
          within = omega arith;
          offset = offset-next H P.offset h;
          inside = omega (arith, ap length g, P.inside);
          same = P.same ∙ ap (λ (l : List Datum). get_or l index (string [])) g;
        }

    module _ (f : t ≡ true) where
      taken : left name m s ≡ each x.values ++ later
      taken = left-given H P.offset h t e f

      at : get_or (variable name (decode m)) place (string []) ≡ get_or (each x.values ++ later) index (string [])
      at = P.same ∙ ap (λ (l : List Datum). get_or l index (string [])) taken

      pub seek-here : index < n → Stands name m place s value index
      seek-here g = record {
        stated = x;
        rest = drop (s + 1) (program (decode m));
        here = program-next m H.sound s h;
        offset = P.offset;
        inside = omega (arith, long, length-each x.values);
        same = at ∙ get_or-append (each x.values) later (string []) index (omega (arith, long));
      }

      pub seek-past : n ≤ index → Sought name m place (s + 1) (value + n) (index - n)
      seek-past g =
          let i : index ≡ length (each x.values) + (index - n) = omega (arith, long) in
          record {
            within = omega arith;
            offset = offset-next H P.offset h;
            inside = omega (arith, ap length taken, length-append (each x.values) later, long, P.inside);
            same = at ∙ ap (λ (k : ℕ). get_or (each x.values ++ later) k (string [])) i ∙ get_or-append-add (each x.values) later (index - n) (string []);
          }
