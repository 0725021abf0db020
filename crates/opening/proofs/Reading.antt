-- An open text in a pool stands, line by line, as its reading says: what fits so far is stored, and once too little room is left there is too little
-- for all that follows. Assumes nothing.
use Prim.Native.Nat.{ℕ, ◌+◌}
use mathlib.Core.Path.{◌≡◌, refl, ap, ◌∙◌}
use mathlib.Core.Bool.{Bool, true, false}
use mathlib.Core.List.{List, [], ◌∷◌, ◌++◌}
use lib.ListN.{length}
use Rattle.statement.specs.Statements.{Event}
use Rattle.statement.specs.declared.values.Reader.{Reader}
use Rattle.statement.specs.declared.values.Reader.TheVariants as R
use Rattle.text.specs.Line.{Outcome, next, fault, answered}
use Rattle.layout.specs.State.{Pool}
use Rattle.layout.specs.Limits.{room}
use Rattle.feeding.specs.Parts.{Ended, capped, folded}
use Rattle.feeding.specs.Reading.{going, stopped, answering, completed}
use Rattle.feeding.specs.Reading as F
use Rattle.opening.specs.Storing.{Progress, start, fitting, stored, stopping, storing_line, overflowed_line, complete}
use Rattle.opening.proofs.Lines.{Faultless, every-line}
use Rattle.opening.proofs.Lists.{Reads, Keeps, reads-line}
use Rattle.opening.proofs.Placing.{held, Extends, extended-held}
use Rattle.opening.proofs.Fitting.{by_room, unfitting, fitting-none}
use Rattle.opening.proofs.Growing.{Adds, grows-line}

-- a reading, stored beside the held texts
abbrev pub stands : Pool → F.Progress → Progress
stands s (going r es) = stored s r (held es)
stands s (stopped q n k) = stopping q n k

abbrev pub Well : F.Progress → Type 0
Well (going r es) = Reads r es
Well (stopped q n k) = Unit

pub stands-start : (s : Pool) → room s ≡ true → start ≡ stands s (going R.Text [])
stands-start s e = rw (fitting-none s e)

-- ---- one line

pub well-line : (f : F.Progress) → Well f → (number : ℕ) (line : List ℕ) → Well (completed f number line)
well-line (stopped q n k) w number line = tt
well-line (going r es) w number line = by (answered r line) (every-line Keeps reads-line r line)
  where
    by : (o : Outcome) → Faultless Keeps r o → Well (answering es o number)
    by (next q fs) h = h es w
    by (fault q k) h = tt

module _ (s : Pool) (r : Reader) (es : List Event) (w : Reads r es) (number : ℕ) where
  -- where the text fits so far
  stored-line : (o : Outcome) → Faultless Extends r o → storing_line s r (held es) o number ≡ stands s (answering es o number)
  stored-line (next q fs) h = ap (stored s q) (h es w)
  stored-line (fault q k) h = refl

  -- where it does not
  lost-line : (o : Outcome) → Faultless Adds r o → fitting s (held es) ≡ false
      → overflowed_line [] o number ≡ stands s (answering es o number)
  lost-line (next q fs) h e = rw (unfitting s (held es) (held (es ++ fs)) (h es w) e)
  lost-line (fault q k) h e = refl

pub complete-stands : (s : Pool) (f : F.Progress) → Well f → (number : ℕ) (line : List ℕ)
    → complete s (stands s f) number line ≡ stands s (completed f number line)
unfolding complete
complete-stands s (stopped q n k) w number line = refl
complete-stands s (going r es) w number line = by (fitting s (held es)) refl
  where
    by : (t : Bool) → fitting s (held es) ≡ t
        → complete s (by_room t r (held es)) number line ≡ stands s (completed (going r es) number line)
    by true e = stored-line s r es w number (answered r line) (every-line Extends extended-held r line)
    by false e = lost-line s r es w number (answered r line) (every-line Adds grows-line r line) e

-- ---- all lines

abbrev pub ended_with : Pool → Ended F.Progress → Ended Progress
ended_with s e = record { progress = stands s e.progress; number = e.number; long = e.long }

pub folded-stands : (s : Pool) (f : F.Progress) → Well f → (number long : ℕ) (ls : List (List ℕ))
    → folded (complete s) (stands s f) number long ls ≡ ended_with s (folded completed f number long ls)
unfolding folded
folded-stands s f w number long [] = refl
folded-stands s f w number long (l ∷ ls) =
    ap (λ (p : Progress). folded (complete s) p (number + 1) (capped (length l)) ls) (complete-stands s f w (number + 1) l)
    ∙ folded-stands s (completed f (number + 1) l) (well-line f w (number + 1) l) (number + 1) (capped (length l)) ls
