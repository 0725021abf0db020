-- What is written for an open text says just that: each word is read as what it was written for, and the kept line as its first bytes.
-- Assumes nothing.
use Prim.Native.Nat.{◌%◌}
use native.Mathlib.Omega.{arith}
use mathlib.Core.Path.{◌≡◌, refl, ap, ◌∙◌}
use mathlib.Core.Bool.{Bool, true, false}
use lib.Dec.{eqb}
use Rattle.feeding.specs.Parts.{Open}
use Rattle.bookmark.specs.declared.mark.Entered.{Entered}
use Rattle.bookmark.specs.Limits.{COUNTS, LENGTHS}
use Rattle.bookmark.specs.Words.{bit, open_words, read_open}
use Rattle.bookmark.proofs.Numbered.{standing-back}
use Rattle.bookmark.proofs.Lined.{line-back}
use Rattle.bookmark.proofs.Spelled.{words-spelled}
use Rattle.bookmark.proofs.Within.{Within}

bit-back : (b : Bool) → eqb (bit b % 2) 1 ≡ b
bit-back true = refl
bit-back false = refl

pub read_back : (o : Open Entered) → Within o → read_open o.progress.statements (open_words o) ≡ o
unfolding read_open
read_back o w =
    let n : o.number % COUNTS ≡ o.number = omega (arith, w.number) in
    let l : o.long % LENGTHS ≡ o.long = omega (arith, w.long) in
    ap (read_open o.progress.statements) (words-spelled o)
    ∙ (λ i. record {
      progress =
          record {
            standing = standing-back o.progress.standing w.standing i;
            statements = o.progress.statements;
            values = o.progress.values;
            bytes = o.progress.bytes;
          };
      number = n i;
      long = l i;
      kept = line-back o.kept (omega (arith, w.room)) w.kept i;
      pending = bit-back o.pending i;
      bytes = o.bytes;
    })
