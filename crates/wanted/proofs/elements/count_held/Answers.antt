-- `count_held` meets its contract: each of the three adds at most one. Assumes nothing.
use mathlib.Core.Path.{◌≡◌, ◌∙◌}
use mathlib.Core.List.{List, [], ◌∷◌}
use Prim.Native.Nat.{◌+◌}
use native.Mathlib.Omega.{arith}
use borrow.Author.Rules.{rules}
use lib.ListN.{length}
use Rattle.std.specs.Prelude.{Result, Ok, Err}
use Rattle.std.specs.List.{filter}
use Rattle.std.proofs.Common.{tests}
use Rattle.std.proofs.lemmas.Iterator.{YieldsList-from_slice}
use Rattle.std.proofs.lemmas.Iterator.Consumers.{count_from_yields_List, YieldsList-from_filter}
use Rattle.rotation.specs.declared.elements.Polynomial.{Polynomial}
use Rattle.variables.specs.declared.variable.FindError.{FindError}
use Rattle.variables.specs.declared.variable.FindError.TheVariants as F
use Rattle.wanted.specs.Steps.{presence, is_there}
use Rattle.wanted.proofs.elements.count_held.Goals as goal

one : (x : Result Polynomial FindError) (xs : List (Result Polynomial FindError)) → length (filter is_there (x ∷ xs)) ≡ presence x + length (filter is_there xs)
one (Ok p) xs = omega arith
one (Err F.TooMany) xs = omega arith
one (Err F.Mixed) xs = omega arith
one (Err F.Absent) xs = omega arith

pub returns : goal.returns
returns c =
    let a = c.args in
    count_from_yields_List c.filter.result _ c.count.ensures.ran
    (YieldsList-from_filter _ is_there (YieldsList-from_slice (a.ra ∷ a.dec ∷ a.pm ∷ []) cc) c.filter.ensures.closure (λ x b q k. search (rules, tests)))
    ∙ omega (arith, one a.ra (a.dec ∷ a.pm ∷ []), one a.dec (a.pm ∷ []), one a.pm [])
