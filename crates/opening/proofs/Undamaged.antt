-- Fed with any part and closed, any open text that could be held can be held: a byte completes a line or stores nothing, and a text is held only where
-- it fits. Assumes nothing.
use Prim.Native.Nat.{ℕ}
use mathlib.Core.Path.{◌≡◌, refl, sym, ◌∙◌}
use mathlib.Core.Bool.{Bool, true, false, ◌&&◌}
use mathlib.Core.List.{List, [], ◌∷◌}
use lib.Dec.{eqb, ltb}
use lib.ListN.{length}
use Rattle.plain.specs.Bytes.{LF, CR}
use Rattle.std.specs.Prelude.{if◌then◌else◌}
use Rattle.plain.specs.Runs.{none}
use Rattle.plain.proofs.Tests.{true-false}
use Rattle.refusal.specs.declared.Refusal.TheVariants.{TextTooLong}
use Rattle.statement.specs.declared.values.Reader.{Reader}
use Rattle.statement.specs.declared.values.Reader.TheVariants as R
use Rattle.layout.specs.State.{Text, Pool}
use Rattle.layout.specs.Limits.{TEXTS, room}
use Rattle.loading.specs.Load.{with}
use Rattle.pool.specs.Replies.{done, refusing}
use Rattle.feeding.specs.Kept.{keep, settled}
use Rattle.feeding.specs.Parts.{MOST, more, Open, Ended, holding, ended, step, fed, lastly}
use Rattle.bookmark.specs.declared.mark.Standing.{Standing}
use Rattle.bookmark.specs.declared.mark.Standing.TheVariants as S
use Rattle.opening.specs.Storing.{Progress, complete}
use Rattle.opening.specs.Closing.{at_end, end_reply, closed, close_answer}
use Rattle.opening.proofs.Fitting.{room-with}
use Rattle.opening.proofs.Storable.{Storable, storable}

module _ (s : Pool) (e : room s ≡ true) where
  -- ---- fed

  storable-step : (o : Open Progress) (b : ℕ) → Storable s o.progress → Storable s (step (complete s) o b).progress
  unfolding step
  storable-step o b h = by (ltb o.bytes MOST) (eqb b LF) (eqb b CR)
    where
      k : List ℕ
      k = settled o.kept o.pending

      by : (t u v : Bool)
          → Storable s (if t then (if u then ended (complete s) o else (if v then holding o k true else holding o (keep k b) false))
          else holding o o.kept o.pending).progress
      by true true v = storable s e o.progress h (more o.number) o.kept
      by true false true = h
      by true false false = h
      by false u v = h

  pub storable-fed : (o : Open Progress) (part : List ℕ) → Storable s o.progress → Storable s (fed (complete s) o part).progress
  unfolding fed
  storable-fed o [] h = h
  storable-fed o (b ∷ bs) h = storable-fed (step (complete s) o b) bs (storable-step o b h)

  -- ---- closed

  pub storable-closed : (o : Open Progress) → Storable s o.progress → Storable s (closed s o).progress
  unfolding lastly
  storable-closed o h = by (none l)
    where
      l : List ℕ
      l = settled o.kept o.pending

      by : (t : Bool)
          → let c : Ended Progress = (if t then record { progress = o.progress; number = o.number; long = o.long }
          else record { progress = complete s o.progress (more o.number) l; number = more o.number; long = length l }) in Storable s c.progress
      by true = h
      by false = storable s e o.progress h (more o.number) l

  -- a text is held only where there is a text less than the limit
  end-limit : (r : Reader) (number long : ℕ) (fits : Bool) → done (at_end r number long fits) ≡ true → fits ≡ true
  end-limit r number long true d = refl
  end-limit R.Text number long false d = true-false (sym d)
  end-limit R.Data number long false d = true-false (sym d)
  end-limit (R.List k) number long false d = true-false (sym d)

  done-limit : (t : Standing) (number long : ℕ) → done (end_reply s t number long) ≡ true → ltb (length s) TEXTS ≡ true
  done-limit (S.Storing r) number long d = end-limit r number long (ltb (length s) TEXTS) d
  done-limit (S.Overflowed r) number long d = true-false (sym (end-limit r number long false d))
  done-limit (S.Faulted f) number long d = true-false (sym d)

  pub room-closed : (label : ℕ) (o : Open Progress) → Storable s o.progress → done (close_answer s o) ≡ true
      → room (with s (record { label = label; body = (closed s o).progress.body })) ≡ true
  unfolding close_answer
  room-closed label o h d = room-with s t ∙ (λ i. by (ltb MOST o.bytes) d i && (storable-closed o h).fits i)
    where
      c : Ended Progress
      c = closed s o

      t : Text
      t = record { label = label; body = c.progress.body }

      by : (x : Bool) → done (if x then refusing TextTooLong else end_reply s c.progress.standing c.number c.long) ≡ true → ltb (length s) TEXTS ≡ true
      by true f = true-false (sym f)
      by false f = done-limit c.progress.standing c.number c.long f
