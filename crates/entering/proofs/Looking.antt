-- What a line adds that was looked at: what is written for it completes the text, and it is known how the text stands then. Assumes nothing.
use Prim.Native.Nat.{ℕ}
use mathlib.Core.Path.{◌≡◌, refl, ap, subst}
use mathlib.Core.List.{List}
use Rattle.statement.specs.declared.values.Reader.{Reader}
use Rattle.layout.specs.Memory.{decode, laid_behind}
use Rattle.bookmark.specs.declared.mark.Entered.{Entered}
use Rattle.opening.specs.Storing.{extended}
use Rattle.entering.specs.Entries.{Entry, entry, body_of, complete_on}
use Rattle.entering.specs.Lines.{Completes, Adds, Lays, Looks}
use Rattle.entering.specs.declared.line.Seen.{Seen}
use Rattle.entering.specs.declared.line.Seen.TheVariants as W
use Rattle.entering.proofs.Adding.{laid_as}

module _ (m : List ℕ) (e : Entered) (number : ℕ) (line : List ℕ) (v : Seen) (l : Looks m e number line v) where
  pub written : (x : Entered) (r : Reader) (given : ℕ) → v ≡ W.Written x r given
      → Adds m e r line given × ((after : List ℕ) → Lays m e r line after → Completes m e number line after x)
  written x r given p = subst (Looks m e number line) p l

  foreseen : (x : Entered) (after : List ℕ) → Completes m e number line after x → x ≡ (complete_on (entry m e) number line).entered
  foreseen x after c = ap (λ (y : Entry). y.entered) c.is

  pub foreseen-written : (x : Entered) (r : Reader) (given : ℕ) → v ≡ W.Written x r given → x ≡ (complete_on (entry m e) number line).entered
  foreseen-written x r given p =
      let w = written x r given p in
      let after = laid_behind (decode m) (extended r (body_of (entry m e)) w.0.events) m in
      foreseen x after (w.1 after (laid_as m e r line given w.0 after refl))
