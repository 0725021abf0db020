-- `show_statement` meets its contract: the kind decides whether the words are numbers' bits or strings' lengths. Assumes nothing.
use native.Mathlib.Omega.{arith}
use borrow.Author.Tests.{eqb-false}
use Rattle.shown.proofs.Stated.{held, words-within, counted, spelling, writes-strings}
use Rattle.shown.proofs.values.show_statement.Goals as goal

pub offset_bounds-heads-s : goal.offset_bounds-heads-s
offset_bounds-heads-s c =
    omega (arith, held _ _ _ _ _ c.requires c.args.pool.tested _ _ c.heads-heads.ensures c.values-values.ensures)

pub bounds-heads-s : goal.bounds-heads-s
bounds-heads-s c =
    omega (arith, held _ _ _ _ _ c.requires c.args.pool.tested _ _ c.heads-heads.ensures c.values-values.ensures)

pub part_of-words-requires : goal.part_of-words-requires
part_of-words-requires c =
    rw c.value_count.ensures (words-within _ _ _ _ _ c.requires c.args.pool.tested _ _ c.heads-heads.ensures c.values-values.ensures)

pub sum_bytes-from-requires : goal.sum_bytes-from-requires
sum_bytes-from-requires c =
    counted _ _ _ _ _ c.requires c.args.pool.tested _ _ c.heads-heads.ensures c.values-values.ensures

pub show_strings-requires : goal.show_strings-requires
show_strings-requires c =
    spelling _ _ _ _ _ c.requires c.args.pool.tested _ _ c.heads-heads.ensures c.values-values.ensures _ (rw c.value_count.ensures at c.part_of-words.ensures) (eqb-false _ _ (rw c.holds_numbers.ensures at c.if-holds_numbers.false)) _ c.sum_bytes-from.ensures _
    c.bytes.ensures

pub returns : goal.returns
returns c =
    writes-strings _ _ _ _ _ c.requires c.args.pool.tested _ _ c.heads-heads.ensures c.values-values.ensures _ (rw c.value_count.ensures at c.part_of-words.ensures) (eqb-false _ _ (rw c.holds_numbers.ensures at c.if-holds_numbers.false)) _ c.sum_bytes-from.ensures _
    c.bytes.ensures c.show_strings.ensures
