-- `has_room` meets its contract: each test is one limit, and the totals are what is held. Assumes nothing.
use mathlib.Core.Path.{◌≡◌, ap}
use mathlib.Core.List.{List}
use Prim.Native.Nat.{ℕ}
use native.Mathlib.Omega.{arith}
use borrow.Author.Tests.{leb-true, leb-false}
use Rattle.layout.specs.Memory.{text_count, statement_count, value_count, byte_count}
use Rattle.layout.specs.Totals.{own_totals}
use Rattle.layout.specs.declared.front.Totals.{Totals}
use Rattle.layout.proofs.Sound.{framed}
use Rattle.loading.proofs.Rooms.{decides, no_room}
use Rattle.loading.proofs.load.has_room.Goals as goal

module _ (m : List ℕ) (t : Totals) (e : t ≡ own_totals m) where
  texts : t.texts ≡ text_count m
  texts = ap (λ (x : Totals). x.texts) e

  statements : t.statements ≡ statement_count m
  statements = ap (λ (x : Totals). x.statements) e

  values : t.values ≡ value_count m
  values = ap (λ (x : Totals). x.values) e

  bytes : t.bytes ≡ byte_count m
  bytes = ap (λ (x : Totals). x.bytes) e

pub returns-then-held-ge-TEXTS : goal.returns-then-held-ge-TEXTS
returns-then-held-ge-TEXTS c = λ t k. no_room _ c.args.pool.tested t _ _ _ k (λ l. omega (arith, l.texts, texts c.args.pool.words.now c.totals-held.result c.totals-held.ensures, c.if-held-ge-TEXTS.true))

pub overflow_sub-held : goal.overflow_sub-held
overflow_sub-held c = omega (arith, statements c.args.pool.words.now c.totals-held.result c.totals-held.ensures, (framed c.args.pool.words.now c.args.pool.tested).statements)

pub returns-then-held-counts : goal.returns-then-held-counts
returns-then-held-counts c = λ t k. no_room _ c.args.pool.tested t _ _ _ k (λ l. omega (arith, l.statements, statements c.args.pool.words.now c.totals-held.result c.totals-held.ensures, c.if-held-counts.true))

pub overflow_sub-held-2 : goal.overflow_sub-held-2
overflow_sub-held-2 c = omega (arith, values c.args.pool.words.now c.totals-held.result c.totals-held.ensures, (framed c.args.pool.words.now c.args.pool.tested).values)

pub returns-then-held-counts-2 : goal.returns-then-held-counts-2
returns-then-held-counts-2 c = λ t k. no_room _ c.args.pool.tested t _ _ _ k (λ l. omega (arith, l.values, values c.args.pool.words.now c.totals-held.result c.totals-held.ensures, c.if-held-counts-2.true))

pub overflow_sub-result : goal.overflow_sub-result
overflow_sub-result c = omega (arith, bytes c.args.pool.words.now c.totals-held.result c.totals-held.ensures, (framed c.args.pool.words.now c.args.pool.tested).bytes)

pub returns : goal.returns
returns c = λ t k.
    let e = c.totals-held.ensures in
    let z = framed c.args.pool.words.now c.args.pool.tested in
    decides _ c.args.pool.tested t _ _ _ k _ (λ h. record {
      texts = omega (arith, texts c.args.pool.words.now c.totals-held.result e, c.if-held-ge-TEXTS.false);
      statements = omega (arith, statements c.args.pool.words.now c.totals-held.result e, c.if-held-counts.false, z.statements);
      values = omega (arith, values c.args.pool.words.now c.totals-held.result e, c.if-held-counts-2.false, z.values);
      bytes = omega (arith, bytes c.args.pool.words.now c.totals-held.result e, leb-true _ _ h, z.bytes);
    }) (λ h l. omega (arith, bytes c.args.pool.words.now c.totals-held.result e, leb-false _ _ h, l.bytes))
