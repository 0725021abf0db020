-- Small instances at which the definitions compute: an undamaged empty memory, and what the built-in table gives. Assumes nothing.
use Prim.Native.Nat.{ℕ, ◌<◌}
use mathlib.Core.Path.{◌≡◌, refl, ap}
use mathlib.Core.Bool.{true, false}
use mathlib.Core.List.{List, [], ◌∷◌}
use lib.Dec.{eqb, lit<, lit≤}
use lib.Ieee.{Float}
use lib.ListN.{length, replicate}
use Rattle.std.specs.Prelude.{Some}
use Rattle.plain.specs.Doubles.{printed, nought}
use Rattle.rotation.specs.Epochs.{in_reach}
use Rattle.rotation.specs.Codes.{system_of}
use Rattle.rotation.specs.Table.{straight, minus, missing, row_of, size_of}
use Rattle.rotation.specs.Builtin.{row_evaluated}
use Rattle.rotation.specs.declared.elements.Elements.{Elements}
use Rattle.rotation.specs.declared.matrix.Orientation.{Orientation}
use Rattle.rotation.specs.declared.table.Axes.{Axes}
use Rattle.words.specs.Halves.{sum, distinct, all}
use Rattle.layout.specs.Limits.{WORDS, LONGEST_LOAD}
use Rattle.layout.specs.Memory.{decode, opens, cut_texts, cut_statements}
use Rattle.layout.specs.Damage.{sound, all_named}
use Rattle.loading.specs.Load.{text_of}
use Rattle.promises.specs.Calls as C
use Rattle.promises.specs.Calls.{leaves}
use Rattle.promises.specs.Marked.{bits}
use Rattle.promises.specs.Demands.{Admissible, HasRow}
use Rattle.promises.proofs.Computing.{computing, loading, evaluating}
use Rattle.promises.proofs.Said.{State, closed}
use Rattle.promises.proofs.Held.{Is, shut-of, loaded-is}

-- ---- a memory of noughts is an empty pool, which can take the empty text

unfoldable pub noughts : List ℕ
noughts = replicate WORDS 0

pub noughts-sound : sound noughts ≡ true
unfolding noughts sound sum distinct all all_named
noughts-sound = refl

pub noughts-empty : decode noughts ≡ []
unfolding noughts decode cut_texts cut_statements
noughts-empty = refl

pub noughts-shut : opens noughts ≡ false
unfolding noughts
noughts-shut = refl

pub empty-text : Admissible LONGEST_LOAD 1 [] noughts
unfolding loading
empty-text = record {
  undamaged = noughts-sound;
  none_open = noughts-shut;
  free = rw noughts-empty;
  short = lit≤ tt;
  events = [];
  admitted = refl;
  roomy = rw noughts-empty;
}

-- ---- the same with one text held, which can take another

unfoldable pub holding : List ℕ
holding = leaves (C.load 1 []) noughts

holding-is : Is holding (closed (text_of 1 [] ∷ []))
unfolding holding loading
holding-is = rw noughts-empty at (loaded-is noughts noughts-sound 1 [] noughts-shut (rw noughts-empty))

holding-texts : decode holding ≡ text_of 1 [] ∷ []
holding-texts = ap (λ (s : State). s.texts) holding-is.state

pub holding-one : 0 < length (decode holding)
holding-one = rw holding-texts (lit< tt)

pub second-text : Admissible LONGEST_LOAD 2 [] holding
unfolding loading
second-text = record {
  undamaged = holding-is.undamaged;
  none_open = shut-of holding (text_of 1 [] ∷ []) holding-is.state;
  free = rw holding-texts;
  short = lit≤ tt;
  events = [];
  admitted = refl;
  roomy = rw holding-texts;
}

-- ---- Earth at 0 and a day later, the Sun at 0

earth : Elements
earth = record {
  ra = straight (printed 0 0) (minus 641 3);
  dec = straight (printed 90 0) (minus 557 3);
  pm = straight (printed 190147 3) (printed 3609856235 7);
}

sun : Elements
sun = record { ra = straight (printed 28613 2) missing; dec = straight (printed 6387 2) missing; pm = straight (printed 8410 2) (printed 141844 4) }

pub earth_at_0 : Orientation
earth_at_0 = row_evaluated 399 earth nought

pub a_day : Float
a_day = printed 86400 0

pub earth_after_a_day : Orientation
earth_after_a_day = row_evaluated 399 earth a_day

pub sun_at_0 : Orientation
sun_at_0 = row_evaluated 10 sun nought

at-0 : in_reach nought ≡ true
unfolding evaluating
at-0 = refl

a-day-later : in_reach a_day ≡ true
unfolding a_day evaluating
a-day-later = refl

pub earth-given : HasRow 399 nought earth_at_0
unfolding system_of row_of earth earth_at_0
earth-given = record { reach = at-0; system = 3; legal = refl; row = earth; listed = refl; evaluation = refl }

pub later-given : HasRow 399 a_day earth_after_a_day
unfolding system_of row_of earth earth_after_a_day
later-given = record { reach = a-day-later; system = 3; legal = refl; row = earth; listed = refl; evaluation = refl }

pub sun-given : HasRow 10 nought sun_at_0
unfolding system_of row_of sun sun_at_0
sun-given = record { reach = at-0; system = 10; legal = refl; row = sun; listed = refl; evaluation = refl }

pub earth-ra : eqb (bits earth_at_0.ra) 0 ≡ true
unfolding earth_at_0 earth evaluating
earth-ra = refl

pub later-ra : eqb (bits earth_after_a_day.ra) 0 ≡ false
unfolding earth_after_a_day a_day earth evaluating
later-ra = refl

pub sun-ra : eqb (bits sun_at_0.ra) 0 ≡ false
unfolding sun_at_0 sun evaluating
sun-ra = refl

-- ---- Mercury's and Pluto's radii

pub mercury : Axes
mercury = record { a = printed 24397 1; b = printed 24397 1; c = printed 24397 1 }

pub pluto : Axes
pluto = record { a = printed 1195 0; b = printed 1195 0; c = printed 1195 0 }

pub mercury-given : size_of 199 ≡ Some mercury
unfolding size_of mercury
mercury-given = refl

pub pluto-given : size_of 999 ≡ Some pluto
unfolding size_of pluto
pluto-given = refl

pub mercury-a : eqb (bits mercury.a) (bits (printed 1195 0)) ≡ false
unfolding mercury computing
mercury-a = refl

pub pluto-a : eqb (bits pluto.a) (bits (printed 1195 0)) ≡ true
unfolding pluto computing
pluto-a = refl
