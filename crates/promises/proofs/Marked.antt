-- Each case of the table holds by computation of the definitions. Assumes nothing.
use mathlib.Core.Path.{◌≡◌, refl}
use mathlib.Core.Bool.{true}
use Rattle.rotation.specs.Table.{size_of}
use Rattle.rotation.specs.Builtin.{builtin_radii}
use Rattle.layout.specs.Damage.{sound}
use Rattle.wanted.specs.Names.{name_of}
use Rattle.degree.specs.Degree.{degree_where}
use Rattle.globe.specs.Orientation.{orientation_from, orientation_reply}
use Rattle.globe.specs.Radii.{radii_reply}
use Rattle.promises.specs.Marked.{Marked, empty, undelimited, three_places, largest, steepest, appending, undone, wraps, earth, epochs, eleven, no_value}
use Rattle.promises.proofs.Computing.{reading-text, loading, evaluating}

case-1 : empty ≡ true
unfolding loading
case-1 = refl

case-2 : undelimited ≡ true
unfolding loading
case-2 = refl

case-3 : three_places ≡ true
unfolding reading-text
case-3 = refl

case-4 : largest ≡ true
unfolding loading
case-4 = refl

case-5 : steepest ≡ true
unfolding loading
case-5 = refl

case-6 : appending ≡ true
unfolding loading
case-6 = refl

case-7 : undone ≡ true
unfolding loading
case-7 = refl

case-8 : wraps ≡ true
unfolding evaluating
case-8 = refl

case-9 : earth ≡ true
unfolding evaluating
case-9 = refl

case-10 : epochs ≡ true
unfolding loading evaluating name_of degree_where orientation_from
case-10 = refl

case-11 : eleven ≡ true
unfolding evaluating size_of builtin_radii sound orientation_reply radii_reply
case-11 = refl

case-12 : no_value ≡ true
unfolding loading
case-12 = refl

pub marked : Marked
marked = (case-1, (case-2, (case-3, (case-4, (case-5, (case-6, (case-7, (case-8, (case-9, (case-10, (case-11, (case-12, tt))))))))))))
