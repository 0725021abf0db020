-- `write_decimal`, which calls itself, meets its contract: the figures of the tenth part come before the last one. Assumes nothing.
use Prim.Native.Nat.{ℕ, ◌<◌, ◌≤◌, ◌/◌}
use mathlib.Core.Path.{subst, sym, ◌∙◌}
use mathlib.Core.List.{List, ◌++◌}
use native.Mathlib.Omega.{arith}
use Rattle.words.specs.Placed.{Room, Writes}
use Rattle.words.proofs.Placed.{writes-length, writes-same, room-first, room-then, writes_then}
use Rattle.pen.specs.Figures.{decimal}
use Rattle.pen.proofs.Decimals.{figure, decimal-last, decimal-more}
use Rattle.pen.proofs.+write_decimal.Goals as goal

module _ (n : ℕ) (h : 10 ≤ n) (l : n < 18446744073709551616) {at : ℕ} {m : List ℕ} where
  room-more : Room at (decimal n) m → Room at (decimal (n / 10) ++ figure n) m
  room-more f = subst (λ (l : List ℕ). Room at l m) (decimal-more n h l) f

  writes_more : {q r : ℕ} {k o : List ℕ} → Writes at (decimal (n / 10)) m q k → Writes q (figure n) k r o → Writes at (decimal n) m r o
  writes_more v w = writes-same (sym (decimal-more n h l)) (writes_then (decimal (n / 10)) (figure n) v w)

pub write_byte-requires : goal.write_byte-requires
write_byte-requires t c = subst (λ (l : List ℕ). Room c.args.at l c.args.out.now) (decimal-last c.args.n c.if-n-lt10.true) c.requires

pub shape_of-out-then-n-lt10 : goal.shape_of-out-then-n-lt10
shape_of-out-then-n-lt10 t c = writes-length c.write_byte.ensures

pub returns-then-n-lt10 : goal.returns-then-n-lt10
returns-then-n-lt10 t c = writes-same (sym (decimal-last _ c.if-n-lt10.true)) c.write_byte.ensures

pub write_decimal-last-requires : goal.write_decimal-last-requires
write_decimal-last-requires t c =
    (omega arith, room-first (decimal (c.args.n / 10)) (figure c.args.n) (room-more c.args.n c.if-n-lt10.false (omega arith) c.requires))

pub write_byte-requires-2 : goal.write_byte-requires-2
write_byte-requires-2 t c =
    room-then (decimal (c.args.n / 10)) (figure c.args.n) (room-more c.args.n c.if-n-lt10.false (omega arith) c.requires) c.write_decimal-last.ensures

pub shape_of-out : goal.shape_of-out
shape_of-out t c = writes-length c.write_byte-2.ensures ∙ writes-length c.write_decimal-last.ensures

pub returns : goal.returns
returns t c = writes_more c.args.n c.if-n-lt10.false (omega arith) c.write_decimal-last.ensures c.write_byte-2.ensures
