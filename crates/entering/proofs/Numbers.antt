-- How many places a list holds, and what a line's fault says. Assumes nothing.
use Prim.Native.Nat.{ℕ, ◌≤◌}
use native.Mathlib.Omega.{arith}
use mathlib.Core.Path.{◌≡◌, sym, ap, ◌∙◌}
use mathlib.Core.List.{List}
use Rattle.std.specs.Prelude.{Result, Err}
use Rattle.value.specs.Faults.{faulty}
use Rattle.value.specs.declared.faults.LineFault.{LineFault}
use Rattle.statement.specs.declared.values.Kind.TheVariants as K
use Rattle.statement.specs.declared.values.Reader.{Reader}
use Rattle.statement.specs.declared.values.Reader.TheVariants as R
use Rattle.text.specs.Line.{Outcome, next, fault, answered, counted}
use Rattle.text.specs.declared.line.Step.{Step}
use Rattle.entering.specs.Counts.{places}

pub places-most : (r : Reader) → places r ≤ 1
places-most R.Text = omega arith
places-most R.Data = omega arith
places-most (R.List K.Empty) = omega arith
places-most (R.List K.Numbers) = omega arith
places-most (R.List K.Strings) = omega arith

step-fault : (o : Outcome) (f : LineFault) → counted o ≡ Err f → o ≡ fault f.fault f.place
step-fault (next s es) f e = let z : ◌≡◌ {A = ℕ} 0 1 = cc in absurd (omega arith)
step-fault (fault q k) f e = let z : faulty q k ≡ f = cc in ap (λ (g : LineFault). fault g.fault g.place) z

pub fault-of : (r : Reader) (line : List ℕ) (x : Result Step LineFault) (f : LineFault) → x ≡ counted (answered r line) → x ≡ Err f
    → answered r line ≡ fault f.fault f.place
fault-of r line x f e g = step-fault (answered r line) f (sym e ∙ g)
