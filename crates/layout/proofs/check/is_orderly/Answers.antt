-- `is_orderly` meets its contract: past each condition, what is left to ask is what was to ask. Assumes nothing.
use mathlib.Core.Path.{◌≡◌, sym, ap, ◌∙◌}
use mathlib.Core.Bool.{Bool, true, false, ◌&&◌}
use mathlib.Core.List.{List}
use Prim.Native.Nat.{ℕ, ◌*◌}
use native.Mathlib.Omega.{arith}
use lib.ListN.{length, take}
use Rattle.plain.specs.Bytes.{fair}
use Rattle.words.specs.Halves.{all}
use Rattle.octets.specs.Octets.{octets}
use Rattle.names.specs.Names.{NAMEWORDS}
use Rattle.words.specs.Over.{part}
use Rattle.layout.specs.Limits.{BYTEWORDS, TEXTS_AT, HEADS_AT, NAMES_AT, VALUES_AT, BYTES_AT}
use Rattle.layout.specs.Damage.{orderly}
use Rattle.layout.specs.Totals.{under, within, counts_asked, Sizes}
use Rattle.layout.specs.declared.front.Totals.{Totals}
use Rattle.layout.proofs.Areas.{length_part}
use Rattle.layout.proofs.Sound.{Limited, limited-of}
use Rattle.layout.proofs.Asking.{over-limits, Slices, enough-names, countable, in_code}
use Rattle.layout.proofs.check.is_orderly.Goals as goal
use Rattle.layout.proofs.check.is_orderly.Goals.{Else-not-are_named}

-- ---- a condition that holds is passed, and one that fails decides
pass : {s a : Bool} (r : Bool) → s ≡ a && r → a ≡ true → s ≡ r
pass r e f = e ∙ ap (λ (x : Bool). x && r) f

fail : {s a : Bool} (r : Bool) → s ≡ a && r → a ≡ false → false ≡ s
fail r e f = sym (e ∙ ap (λ (x : Bool). x && r) f)

-- ---- the limits
limited : (most : ℕ) (t : Totals) (r : Bool) → r ≡ within most t → r ≡ true → Limited most t
limited most t r e h = limited-of most t (sym e ∙ h)

pub returns-then-not-is_limited : goal.returns-then-not-is_limited
returns-then-not-is_limited c =
    sym (over-limits c.args.most c.args.totals c.args.m.now c.requires.words (sym c.is_limited.ensures ∙ c.if-not-is_limited.true))

-- ---- the areas
pub part_of-texts-requires : goal.part_of-texts-requires
part_of-texts-requires c = let p = c.requires in omega (arith, (limited c.args.most c.args.totals c.is_limited.result c.is_limited.ensures c.if-not-is_limited.false).texts, p.words, p.few)

pub part_of-heads-requires : goal.part_of-heads-requires
part_of-heads-requires c = omega (arith, (limited c.args.most c.args.totals c.is_limited.result c.is_limited.ensures c.if-not-is_limited.false).statements, c.requires.words)

pub overflow_mul-totals : goal.overflow_mul-totals
overflow_mul-totals c = omega (arith, (limited c.args.most c.args.totals c.is_limited.result c.is_limited.ensures c.if-not-is_limited.false).statements)

pub part_of-names-requires : goal.part_of-names-requires
part_of-names-requires c = omega (arith, (limited c.args.most c.args.totals c.is_limited.result c.is_limited.ensures c.if-not-is_limited.false).statements, c.requires.words)

pub part_of-values-requires : goal.part_of-values-requires
part_of-values-requires c = omega (arith, (limited c.args.most c.args.totals c.is_limited.result c.is_limited.ensures c.if-not-is_limited.false).values, c.requires.words)

module _ {most : ℕ} {t : Totals} {m texts heads names values : List ℕ} {r : Bool} where
  slices : Sizes most m → r ≡ within most t → r ≡ true → texts ≡ part TEXTS_AT t.texts m → heads ≡ part HEADS_AT t.statements m
      → names ≡ part NAMES_AT (NAMEWORDS * t.statements) m → values ≡ part VALUES_AT t.values m → Slices most t m texts heads names values
  slices z e l a b d v = record { sizes = z; limits = sym e ∙ l; texts= = a; heads= = b; names= = d; values= = v }

pub are_named-requires : goal.are_named-requires
are_named-requires c = enough-names (slices c.requires c.is_limited.ensures c.if-not-is_limited.false c.part_of-texts.ensures c.part_of-heads.ensures c.part_of-names.ensures c.part_of-values.ensures)

pub returns-then-not-are_named : goal.returns-then-not-are_named
returns-then-not-are_named c = fail _ (in_code (slices c.requires c.is_limited.ensures c.if-not-is_limited.false c.part_of-texts.ensures c.part_of-heads.ensures c.part_of-names.ensures c.part_of-values.ensures)) (sym c.are_named.ensures ∙ c.if-not-are_named.true)

-- past the names: the areas' words, and what is left to ask
module _ (c : Else-not-are_named) where
  lent : Slices c.args.most c.args.totals c.args.m.now c.part_of-texts.result.now c.part_of-heads.result.now c.part_of-names.result.now c.part_of-values.result.now
  lent = slices c.requires c.is_limited.ensures c.if-not-is_limited.false c.part_of-texts.ensures c.part_of-heads.ensures c.part_of-names.ensures c.part_of-values.ensures

  left : orderly c.args.most (under c.args.totals c.args.m.now)
      ≡ counts_asked c.part_of-texts.result.now c.part_of-heads.result.now c.part_of-values.result.now c.args.totals
      && all fair (take c.args.totals.bytes (octets (part BYTES_AT BYTEWORDS c.args.m.now)))
  left = pass _ (in_code lent) (sym c.are_named.ensures ∙ c.if-not-are_named.false)

pub are_counted-requires : goal.are_counted-requires
are_counted-requires c = countable (lent (goal.at.are_counted-requires c).Else-not-are_named)

pub returns-else-are_counted : goal.returns-else-are_counted
returns-else-are_counted c =
    c.if-are_counted.false ∙ fail _ (left (goal.at.returns-else-are_counted c).Else-not-are_named) (sym c.are_counted.ensures ∙ c.if-are_counted.false)

pub part_of-requires : goal.part_of-requires
part_of-requires c = omega (arith, c.requires.words)

pub all_fair-requires : goal.all_fair-requires
all_fair-requires c =
    let l = length_part BYTES_AT BYTEWORDS c.args.m.now (omega (arith, c.requires.words)) in
    record { fits = omega (arith, ap length c.part_of.ensures, l, (limited c.args.most c.args.totals c.is_limited.result c.is_limited.ensures c.if-not-is_limited.false).bytes) }

pub returns-then-are_counted : goal.returns-then-are_counted
returns-then-are_counted c =
    c.all_fair.ensures ∙ ap (λ (ws : List ℕ). all fair (take c.args.totals.bytes (octets ws))) c.part_of.ensures
    ∙ sym (pass _ (left (goal.at.returns-then-are_counted c).Else-not-are_named) (sym c.are_counted.ensures ∙ c.if-are_counted.true))
