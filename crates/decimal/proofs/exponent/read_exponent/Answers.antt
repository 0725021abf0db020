-- `read_exponent` meets its contract: the places that it passes are where the definition takes the exponent's parts off the front.
-- Assumes nothing.
use Prim.Native.Nat.{◌+◌}
use native.Mathlib.Omega.{arith}
use Rattle.decimal.proofs.Scaled.{scaled-end, scaled-bad, scaled-up, scaled-down}
use Rattle.decimal.proofs.Alike.{far-sum}
use Rattle.decimal.proofs.exponent.read_exponent.Goals as goal

pub returns-then-at-value : goal.returns-then-at-value
returns-then-at-value c = let a = c.args in record { worth = λ m w. scaled-end a.value.now m w a.places a.at c.if-at-value.true }

pub returns-then-not-right : goal.returns-then-not-right
returns-then-not-right c =
    let a = c.args in
    record {
      worth =
          λ m w.
          scaled-bad a.value.now a.at c.if-at-value.false c.read_sign-sign.ensures c.read_digits-power.ensures m w a.places
          (rw c.is_letter-marked.ensures at c.if-not-right.true);
    }

pub returns-then-sign : goal.returns-then-sign
returns-then-sign c =
    let a = c.args in
    record {
      worth =
          λ m w.
          scaled-down a.value.now a.at c.if-at-value.false c.read_sign-sign.ensures c.read_digits-power.ensures m w a.places
          (rw c.is_letter-marked.ensures at c.if-not-right.false) c.if-sign.true c.saturating_add.result
          (far-sum c.saturating_add.result (c.read_digits-power.result.number + a.places) c.saturating_add.ensures);
    }

pub returns : goal.returns
returns c =
    record {
      worth =
          λ m w.
          scaled-up c.args.value.now c.args.at c.if-at-value.false c.read_sign-sign.ensures c.read_digits-power.ensures m w c.args.places
          (rw c.is_letter-marked.ensures at c.if-not-right.false) c.if-sign.false (omega (arith, c.requires, c.well_formed));
    }
