-- The totals' words of an undamaged memory are the counts of the texts that it holds. Assumes nothing.
use mathlib.Core.Path.{◌≡◌, sym}
use mathlib.Core.Bool.{true, false}
use mathlib.Core.List.{List}
use Prim.Native.Nat.{ℕ}
use Rattle.std.specs.Prelude.{Ok, Err}
use Rattle.refusal.specs.declared.Refusal.TheVariants.{DamagedPool}
use Rattle.layout.specs.Memory.{text_count, statement_count, value_count}
use Rattle.layout.specs.Damage.{sound}
use Rattle.layout.proofs.Sound.{sound-of}
use Rattle.layout.proofs.Holds.{length-decode, length-program, length-held}
use Rattle.pool.specs.Totals.{totals_reply, Totals}

module _ (m : List ℕ) where
  pub totals-refused : sound m ≡ false → Totals m (Err DamagedPool)
  unfolding totals_reply
  totals-refused e = record { reply = rw e }

  pub totals-held : sound m ≡ true → Totals m (Ok (record { texts = text_count m; statements = statement_count m; values = value_count m }))
  unfolding totals_reply
  totals-held e =
      let S = sound-of m e in
      record { reply = rw e (sym (λ i. Ok (record { texts = length-decode m S i; statements = length-program m S i; values = length-held m S i }))) }
