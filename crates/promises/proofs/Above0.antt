-- Every radius that is given is above 0 and finite: a pool is asked for it and holds no value of 2^200 or more, and the table's radii are seen one by
-- one. Assumes nothing.
use Prim.Native.Nat.{ℕ}
use mathlib.Core.Path.{◌≡◌, refl, subst}
use mathlib.Core.Bool.{Bool, true, false, ◌&&◌}
use mathlib.Core.List.{List, [], ◌∷◌}
use lib.Dec.{eqb}
use lib.Ieee.{round, lt}
use lib.Ieee.Scale.{finite}
use Rattle.std.specs.Prelude.{if◌then◌else◌, Option, Some, None, Result, Ok}
use Rattle.plain.specs.Doubles.{printed}
use Rattle.plain.proofs.Bounded.{Under, finite-under}
use Rattle.plain.proofs.Each.{Each, each_weaken}
use Rattle.plain.proofs.Tests.{both}
use Rattle.rotation.specs.Table.{size_of}
use Rattle.rotation.specs.declared.table.Axes.{Axes}
use Rattle.layout.specs.State.{program}
use Rattle.layout.specs.Memory.{decode}
use Rattle.layout.specs.Damage.{sound}
use Rattle.layout.proofs.Sound.{sound-of}
use Rattle.layout.proofs.Legal.{Fair}
use Rattle.layout.proofs.Holds.{decode-legal}
use Rattle.wanted.specs.Names.{name_of}
use Rattle.wanted.specs.Elements.{list}
use Rattle.wanted.specs.declared.name.Wanted.TheVariants as W
use Rattle.globe.specs.Radii.{positive, all_positive, radii_reply}
use Rattle.globe.specs.declared.source.Source.{Source}
use Rattle.globe.specs.declared.source.Source.TheVariants as S
use Rattle.promises.specs.Calls.{measured, asked, library}
use Rattle.promises.specs.Demands.{Above0, RadiiAbove0}
use Rattle.promises.proofs.Measured.{measured-exactly, builtin-exactly}
use Rattle.refusal.specs.declared.Refusal.{Refusal}
use Rattle.promises.proofs.Overflow.{SmallStatement, doubles-under}

abbrev AllAbove0 : Axes → Type 0
AllAbove0 x = Above0 x.a × Above0 x.b × Above0 x.c

abbrev all_finite : Axes → Bool
all_finite x = finite x.a && finite x.b && finite x.c

-- the tests of all three, and of each
of-tests : (x : Axes) → all_positive x ≡ true → all_finite x ≡ true → AllAbove0 x
of-tests x e f =
    let p = both (positive x.a && positive x.b) (positive x.c) e in
    let q = both (positive x.a) (positive x.b) p.0 in
    let r = both (finite x.a && finite x.b) (finite x.c) f in
    let s = both (finite x.a) (finite x.b) r.0 in
    (record { above = q.0; below = s.0 }, record { above = q.1; below = s.1 }, record { above = p.1; below = r.1 })

-- ---- from a pool

pool-values : (m : List ℕ) (n : ℕ) → sound m ≡ true → Each (Under 200) (list (decode m) n W.Radii)
pool-values m n u =
    doubles-under (name_of n W.Radii) (decode m)
    (each_weaken Fair SmallStatement (λ x g. g.values) (program (decode m)) (decode-legal m (sound-of m u)).statements)

three-finite : (x : Axes) → Each (Under 200) (x.a ∷ x.b ∷ x.c ∷ []) → all_finite x ≡ true
three-finite x f = simp (finite-under x.a f.0, finite-under x.b f.1.0, finite-under x.c f.1.1.0)

from-pool : (m : List ℕ) (n : ℕ) (x : Axes) → radii_reply S.Pool m n ≡ Ok x → AllAbove0 x
from-pool m n x e =
    let h = (measured-exactly m n x).0 e in
    of-tests x h.1.above (three-finite x (subst (Each (Under 200)) h.1.three (pool-values m n h.0)))

-- ---- from the built-in table

abbrev solid : Option Axes → Bool
solid (Some x) = all_positive x && all_finite x
solid None = true

record Solid (y : Option Axes) : Type 0 where
  is : solid y ≡ true

either-solid : {x y : Option Axes} (b : Bool) → Solid x → Solid y → Solid (if b then x else y)
either-solid true p q = p
either-solid false p q = q

table-solid : (n : ℕ) → Solid (size_of n)
unfolding size_of printed round lt
table-solid n =
    either-solid (eqb n 199) (record { is = refl })
    (either-solid (eqb n 299) (record { is = refl })
    (either-solid (eqb n 399) (record { is = refl })
    (either-solid (eqb n 499) (record { is = refl })
    (either-solid (eqb n 599) (record { is = refl })
    (either-solid (eqb n 699) (record { is = refl })
    (either-solid (eqb n 799) (record { is = refl })
    (either-solid (eqb n 899) (record { is = refl })
    (either-solid (eqb n 999) (record { is = refl }) (record { is = refl })))))))))

from-table : (m : List ℕ) (n : ℕ) (x : Axes) → radii_reply S.Builtin m n ≡ Ok x → AllAbove0 x
from-table m n x e =
    let h : size_of n ≡ Some x = (builtin-exactly m n x).0 e in
    let s = both (all_positive x) (all_finite x) (rw h at (table-solid n).is) in
    of-tests x s.0 s.1

pub radii-above-0 : RadiiAbove0 library
unfolding asked
radii-above-0 source m n x e = by source (same e)
  where
    same : {r : Result Axes Refusal} → measured r ≡ measured (Ok x) → r ≡ Ok x
    same e = cc

    by : (source : Source) → radii_reply source m n ≡ Ok x → AllAbove0 x
    by S.Pool h = from-pool m n x h
    by S.Builtin h = from-table m n x h
