-- What became of 5: a refusal that was 5 has one of the five numbers, and every other one has its own. Assumes nothing.
use Prim.Native.Nat.{ℕ}
use native.Mathlib.Omega.{arith}
use mathlib.Core.Path.{◌≡◌, refl, sym}
use mathlib.Core.Bool.{true, true≢false}
use borrow.Author.Tests.{leb-true}
use lib.Dec.{leb}
use Rattle.std.specs.Prelude.{Ok, Err}
use Rattle.plain.specs.Bytes.{within}
use Rattle.plain.proofs.Ranges.{within-inside}
use Rattle.plain.proofs.Tests.{both}
use Rattle.refusal.specs.Numbers.{number_of}
use Rattle.refusal.proofs.Before.{OneOfFive, five-split, others-stay, same_number}
use Rattle.loading.specs.Load.{load_reply}
use Rattle.pool.specs.Replies.{Reply, reply_line}
use Rattle.promises.specs.Calls.{asked, replied, library}
use Rattle.promises.specs.Renumbered.{reply_before, Renumbers, Renumbered}

inside : (n : ℕ) → within 17 21 n ≡ true → OneOfFive n
inside n e = let h = both (leb 17 n) (leb n 21) e in record { least = leb-true 17 n h.0; most = leb-true n 21 h.1 }

renumbers : (r : Reply) → Renumbers (reply_before r) (reply_line r) (replied r)
renumbers (Ok u) = record { five = (λ e. absurd (omega arith), λ e. absurd (true≢false (sym e))); others = λ h. refl; lines = refl }
renumbers (Err r) =
    record {
      five = (λ e. let o = (five-split r.refusal).0 e in within-inside 17 21 (number_of r.refusal) o.least o.most, λ e. (five-split r.refusal).1 (inside (number_of r.refusal) e));
      others = λ h. sym (others-stay r.refusal h);
      lines = refl;
    }

pub renumbered : Renumbered library
unfolding asked
renumbered = record { loads = λ label bytes m. renumbers (load_reply label bytes m); exactly_one = same_number }
