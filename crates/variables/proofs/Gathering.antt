-- The gathering forward: what is left to write, from the place reached on, makes the variable that is wanted. Assumes nothing.
use Prim.Native.Nat.{ℕ, ◌+◌, ◌*◌, ◌/◌, ◌≤◌, ◌<◌}
use mathlib.Core.Path.{◌≡◌, refl, sym, ap, ap₂, ◌∙◌}
use mathlib.Core.Bool.{Bool, true, false}
use mathlib.Core.List.{List, ◌++◌, map}
use native.Mathlib.Omega.{arith}
use lib.Ieee.{Float, binary64, of_bits}
use lib.ListN.{length, get_or, length-append, length-map}
use Rattle.plain.specs.Lists.{equal}
use Rattle.statement.specs.Statements.{Statement}
use Rattle.words.specs.Over.{over, part}
use Rattle.words.specs.Halves.{upper, lower, all}
use Rattle.words.proofs.Each.{each_all}
use Rattle.words.proofs.Over.{over-nil, over-append, length_over}
use Rattle.names.specs.Names.{NAMEWORDS}
use Rattle.layout.specs.Memory.{statement_count, value_words, decode}
use Rattle.layout.specs.Damage.{small}
use Rattle.layout.proofs.Sound.{Sound}
use Rattle.variables.specs.Variables.{Datum, each}
use Rattle.variables.specs.Found.{numbers_among, doubles}
use Rattle.variables.specs.Walk.{string_count, Begins}
use Rattle.variables.proofs.Counts.{count-append, numbers-append, numbers-cut, small_cut}
use Rattle.variables.proofs.Held.{head_at, offset_at, values_at, bytes_from, statement_at, values-within, length-values_at, fits-at}
use Rattle.variables.proofs.Names.{Hands}
use Rattle.variables.proofs.Ahead.{left, left-all, left-none, count-told, length-given, offset-next, left_other, left-given}

pub record Gathered (name m : List ℕ) (before out : List Float) (s value at : ℕ) : Type 0 where
  pub within : s ≤ statement_count m
  pub offset : value ≡ offset_at m s
  pub rest : over at (numbers_among (left name m s)) out ≡ over 0 (doubles name (decode m)) before
  pub numeric : string_count (left name m s) ≡ 0
  pub space : at + length (left name m s) ≤ length out
  pub long : length out ≡ length before

pub gathered_none : (name m : List ℕ) (out : List Float) (s value count strings : ℕ) → Begins name m s value count strings → strings ≡ 0 → count ≤ length out → Gathered name m out out s value 0
gathered_none name m out s value count strings B z h =
    let e = left-all B in
    record {
      within = B.within;
      offset = B.offset;
      rest = ap (λ (l : List Datum). over 0 (numbers_among l) out) e;
      numeric = ap string_count e ∙ sym B.kinds ∙ z;
      space = omega (arith, ap length e, B.size);
      long = refl;
    }

pub gathered-all : (name m : List ℕ) (before out : List Float) (s value at : ℕ) → Sound m → statement_count m ≤ s → Gathered name m before out s value at
    → out ≡ over 0 (doubles name (decode m)) before
gathered-all name m before out s value at S h G =
    let d = left-none name m s S (omega (arith, G.within)) in
    sym (over-nil at out) ∙ sym (ap (λ (l : List Datum). over at (numbers_among l) out) d) ∙ G.rest

-- ---- the statement at place s

module _ {m name words heads names : List ℕ} (H : Hands m name words heads names) (values : List ℕ) (v : values ≡ value_words m)
    {before out : List Float} {s value at : ℕ} (G : Gathered name m before out s value at) (h : s < statement_count m) where
  abbrev n : ℕ
  n = lower (get_or heads s 0)

  abbrev x : Statement
  x = statement_at m s

  abbrev later : List Datum
  later = left name m (s + 1)

  -- the bits of its values
  abbrev bits : List ℕ
  bits = part value n values

  count= : n ≡ lower (head_at m s)
  count= = count-told H G.offset h

  bits= : bits ≡ values_at m s
  bits= = λ i. part (G.offset i) (count= i) (v i)

  pub length-bits : length bits ≡ n
  length-bits = ap length bits= ∙ length-values_at m H.sound s h ∙ sym count=

  pub bits-within : value + n ≤ length values
  bits-within = omega (arith, G.offset, count=, ap length v, values-within m H.sound s h)

  module _ (t : Bool) (e : t ≡ equal (part (NAMEWORDS * s) NAMEWORDS names) words) where
    pub gather-other : t ≡ false → Gathered name m before out (s + 1) (value + n) at
    gather-other f =
        let g = left_other H G.offset h t e f in
        record {
          within = omega arith;
          offset = offset-next H G.offset h;
          rest = sym (ap (λ (l : List Datum). over at (numbers_among l) out) g) ∙ G.rest;
          numeric = sym (ap string_count g) ∙ G.numeric;
          space = omega (arith, ap length g, G.space);
          long = G.long;
        }

    module _ (f : t ≡ true) where
      taken : left name m s ≡ each x.values ++ later
      taken = left-given H G.offset h t e f

      length_taken : length (left name m s) ≡ n + length later
      length_taken = omega (arith, ap length taken, length-append (each x.values) later, length-given H G.offset h)

      counts : string_count (each x.values) + string_count later ≡ 0
      counts = sym (ap string_count taken ∙ count-append (each x.values) later) ∙ G.numeric

      -- none of its values is a string
      plain : string_count (each x.values) ≡ 0
      plain = omega (arith, counts)

      reals : numbers_among (left name m s) ≡ map (of_bits binary64) bits ++ numbers_among later
      reals =
          ap numbers_among taken
          ∙ numbers-append (each x.values) later
          ∙ ap (λ (l : List Float). l ++ numbers_among later)
          (numbers-cut (bytes_from m s) (upper (head_at m s) / 2) (values_at m s) plain ∙ sym (ap (map (of_bits binary64)) bits=))

      pub bits_small : all small bits ≡ true
      bits_small =
          ap (all small) bits=
          ∙ each_all small (values_at m s) (small_cut (bytes_from m s) (upper (head_at m s) / 2) (values_at m s) plain (fits-at m H.sound s h))

      pub gather-room : at + n ≤ length out
      gather-room = omega (arith, length_taken, G.space)

      pub gather-copy : (after : List Float) → after ≡ over at (map (of_bits binary64) bits) out → Gathered name m before after (s + 1) (value + n) (at + n)
      gather-copy after e =
          let ws = map (of_bits binary64) bits in
          let l : length after ≡ length out = ap length e ∙ length_over at ws out in
          let k : n ≡ length ws = sym (length-map bits (of_bits binary64) ∙ length-bits) in
          record {
            within = omega arith;
            offset = offset-next H G.offset h;
            rest =
                ap₂ (λ (j : ℕ) (o : List Float). over (at + j) (numbers_among later) o) k e
                ∙ sym (over-append at ws (numbers_among later) out)
                ∙ sym (ap (λ (l : List Float). over at l out) reals)
                ∙ G.rest;
            numeric = omega (arith, counts);
            space = omega (arith, length_taken, G.space, l);
            long = l ∙ G.long;
          }
