-- What is kept of a line is enough for the memory too: a line changes the entry only by what it comes to. Assumes nothing.
use mathlib.Core.Path.{ap}
use Rattle.layout.specs.Memory.{decode}
use Rattle.feeding.proofs.Keeping.{Squeezes}
use Rattle.opening.specs.Storing.{Progress}
use Rattle.opening.proofs.Squeezing.{complete-squeezes}
use Rattle.entering.specs.Entries.{progress_of, entering, complete_on}

pub completing-squeezes : Squeezes complete_on
unfolding complete_on
completing-squeezes = record {
  squeezes = λ e number k b l h.
      ap (λ (p : Progress). entering (decode e.memory) p e.memory) ((complete-squeezes (decode e.memory)).squeezes (progress_of e) number k b l h);
}
