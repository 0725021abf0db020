-- No second answer meets the contract of a C face: the contract gives the structure and the memory that is left. Assumes nothing.
use mathlib.Core.Path.{◌≡◌, sym, ap, ◌∙◌}
use mathlib.Core.List.{List}
use Prim.Native.Nat.{ℕ}
use Rattle.pool.specs.Replies.{Reply, Fetched}
use lib.Ieee.{Float}
use Rattle.globe.specs.declared.source.Source.{Source}
use Rattle.drive.proofs.Once.{places-once, steps-once}
use Rattle.globe_c.specs.Faces.{Changes, Fetches}
use Rattle.globe_c.specs.Motor.{ShowsPosition, ShowsMotion, position_face, motion_face}
use Rattle.globe_c.specs.declared.face.GlobeReply.{GlobeReply}
use Rattle.globe_c.specs.declared.face.GlobeFetched.{GlobeFetched}
use Rattle.globe_c.specs.declared.motor.GlobePosition.{GlobePosition}
use Rattle.globe_c.specs.declared.motor.GlobeMotion.{GlobeMotion}

-- calls that change the pool
pub one-change :
    (reply : Reply) (memory : List ℕ) (r r' : GlobeReply) (after after' : List ℕ) → Changes reply memory r after
    → Changes reply memory r' after' → (r ≡ r') × (after ≡ after')
one-change reply memory r r' after after' p q = (p.shown ∙ sym q.shown, p.left ∙ sym q.left)

pub one-fetch :
    {A : Type 0} (reply : Fetched) (buffer : List A) (r r' : GlobeFetched) (after after' : List A) → Fetches reply buffer r after
    → Fetches reply buffer r' after' → (r ≡ r') × (after ≡ after')
one-fetch reply buffer r r' after after' p q = (p.shown ∙ sym q.shown, p.left ∙ sym q.left)

-- calls that only answer: totals, orientation, radii
pub one_answer : {A : Type 0} (answer r r' : A) → r ≡ answer → r' ≡ answer → r ≡ r'
one_answer answer r r' p q = p ∙ sym q

-- the drive's calls: its own answer is the only one
module _ (source : Source) (m : List ℕ) (body : ℕ) (epoch : Float) (ring : ℕ) where
  pub one-position : (r r' : GlobePosition) → ShowsPosition source m body epoch ring r → ShowsPosition source m body epoch ring r' → r ≡ r'
  one-position r r' p q = p.shown ∙ ap position_face (places-once source m body epoch ring p.placed q.placed p.places q.places) ∙ sym q.shown

  pub one-motion :
      (present : ℕ) (r r' : GlobeMotion) → ShowsMotion source m body epoch ring present r → ShowsMotion source m body epoch ring present r' → r ≡ r'
  one-motion present r r' p q =
      p.shown ∙ ap motion_face (steps-once source m body epoch ring present p.moved q.moved p.steps q.steps) ∙ sym q.shown
