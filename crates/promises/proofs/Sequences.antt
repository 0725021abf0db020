-- Calls one after the other: the state after them is that of each step in turn, and parts that are fed one by one bring the open text to where all of
-- them bring it. Assumes nothing.
use Prim.Native.Nat.{ℕ}
use mathlib.Core.Path.{◌≡◌, refl, sym, ap, ◌∙◌, subst}
use mathlib.Core.Bool.{Bool, true, false}
use mathlib.Core.List.{List, [], ◌∷◌, ◌++◌, map}
use lib.Dec.{ltb}
use Rattle.plain.proofs.Tests.{first_then}
use Rattle.plain.proofs.Each.{each_left, each_right}
use Rattle.words.specs.Halves.{all}
use Rattle.words.proofs.Each.{all-each, each_all}
use Rattle.layout.specs.State.{Pool}
use Rattle.pool.specs.Held.{held}
use Rattle.feeding.specs.Parts.{Open, opening, fed, fed_all, joined}
use Rattle.opening.specs.Storing.{Progress, start, complete}
use Rattle.intake.specs.Calls.{are_bytes}
use Rattle.promises.specs.Calls as C
use Rattle.promises.specs.Calls.{Call, asked, leaves, library, accepted, typed}
use Rattle.promises.specs.Histories.{after, Typed, AllAccepted}
use Rattle.promises.proofs.Said.{State, closed, ajar, says, asked-says}
use Rattle.promises.proofs.Held.{Is}
use Rattle.promises.proofs.Steps.{step, leaves-is}

-- ---- on states

unfoldable pub steps : List Call → State → State
unfolding step
steps [] s = s
steps (c ∷ cs) s = steps cs (step c s)

-- each of them is accepted
unfoldable pub AllSaid : List Call → State → Type 0
unfolding says step
AllSaid [] s = Unit {0}
AllSaid (c ∷ cs) s = (accepted (says c s) ≡ true) × AllSaid cs (step c s)

pub steps-append : (cs ds : List Call) (s : State) → steps (cs ++ ds) s ≡ steps ds (steps cs s)
unfolding steps
steps-append [] ds s = refl
steps-append (c ∷ cs) ds s = steps-append cs ds (step c s)

pub said-append : (cs ds : List Call) (s : State) → AllSaid cs s → AllSaid ds (steps cs s) → AllSaid (cs ++ ds) s
unfolding steps AllSaid
said-append [] ds s f g = g
said-append (c ∷ cs) ds s f g = (f.0, said-append cs ds (step c s) f.1 g)

-- ---- parts

module _ (s : Pool) (label : ℕ) where
  -- open under the label, beside these texts
  abbrev pub opened : Open Progress → State
  opened o = record { texts = s; opened = ajar label o }

  -- after these parts
  abbrev pub fed_to : List (List ℕ) → State
  fed_to parts = opened (fed_all (complete s) (opening start) parts)

  steps-fed : (o : Open Progress) (parts : List (List ℕ)) → steps (map C.feed_part parts) (opened o) ≡ opened (fed_all (complete s) o parts)
  unfolding steps fed_all
  steps-fed o [] = refl
  steps-fed o (p ∷ ps) = steps-fed (fed (complete s) o p) ps

  said-fed : (o : Open Progress) (parts : List (List ℕ)) → AllSaid (map C.feed_part parts) (opened o)
  unfolding AllSaid
  said-fed o [] = tt
  said-fed o (p ∷ ps) = (refl, said-fed (fed (complete s) o p) ps)

  module _ (free : held label s ≡ false) (parts : List (List ℕ)) where
    step-opened : step (C.open_load label) (closed s) ≡ opened (opening start)
    unfolding step
    step-opened = rw free

    pub steps-opened : steps (C.open_load label ∷ map C.feed_part parts) (closed s) ≡ fed_to parts
    unfolding steps
    steps-opened = ap (steps (map C.feed_part parts)) step-opened ∙ steps-fed (opening start) parts

    pub said-opened : AllSaid (C.open_load label ∷ map C.feed_part parts) (closed s)
    unfolding AllSaid
    said-opened = (rw free, subst (AllSaid (map C.feed_part parts)) (sym step-opened) (said-fed (opening start) parts))

abbrev byte : ℕ → Bool
byte b = ltb b 256

-- the parts of bytes are bytes
pub typed-parts : (parts : List (List ℕ)) → are_bytes (joined parts) ≡ true → Typed (map C.feed_part parts)
unfolding all
typed-parts [] e = refl
typed-parts (p ∷ ps) e =
    let f = all-each byte (p ++ joined ps) e in
    let x : are_bytes p ≡ true = each_all byte p (each_left (λ b. byte b ≡ true) p (joined ps) f) in
    let y : are_bytes (joined ps) ≡ true = each_all byte (joined ps) (each_right (λ b. byte b ≡ true) p (joined ps) f) in
    rw x (typed-parts ps y)

-- ---- on memories

pub asked_is : (c : Call) (m : List ℕ) (s : State) → Is m s → asked c m ≡ says c s
asked_is c m s i = asked-says m i.undamaged c ∙ ap (says c) i.state

pub is-step : (c : Call) (m : List ℕ) (s : State) → typed c ≡ true → Is m s → Is (leaves c m) (step c s)
is-step c m s t i = let j = leaves-is m i.undamaged c t in record { undamaged = j.undamaged; state = j.state ∙ ap (step c) i.state }

pub is-after : (cs : List Call) (m : List ℕ) (s : State) → Typed cs → Is m s → Is (after library cs m) (steps cs s)
unfolding after steps all
is-after [] m s t i = i
is-after (c ∷ cs) m s t i =
    let p = first_then (typed c) (all typed cs) t in
    is-after cs (leaves c m) (step c s) p.1 (is-step c m s p.0 i)

pub all-accepted : (cs : List Call) (m : List ℕ) (s : State) → Typed cs → Is m s → AllSaid cs s → AllAccepted library cs m
unfolding AllAccepted AllSaid all
all-accepted [] m s t i f = tt
all-accepted (c ∷ cs) m s t i f =
    let p = first_then (typed c) (all typed cs) t in
    (ap accepted (asked_is c m s i) ∙ f.0, all-accepted cs (leaves c m) (step c s) p.1 (is-step c m s p.0 i) f.1)
