-- "the outcome at closing is that of one load of the joined bytes": the parts are one part, its lines are stored as they are read, and the end of the
-- lines is the end of the text. Assumes nothing.
use Prim.Native.Nat.{ℕ, ◌≤◌}
use native.Mathlib.Nat.{zero-add}
use mathlib.Core.Path.{◌≡◌, refl, sym, ap, subst, ◌∙◌}
use mathlib.Core.Bool.{Bool, true, false}
use mathlib.Core.List.{List, []}
use borrow.Author.Tests.{ltb-false}
use lib.Dec.{ltb}
use lib.ListN.{length}
use Rattle.std.specs.Prelude.{if◌then◌else◌}
use Rattle.plain.proofs.Tests.{true-false}
use Rattle.refusal.specs.declared.Refusal.TheVariants.{TextTooLong}
use Rattle.statement.specs.Statements.{Statement}
use Rattle.statement.specs.declared.values.Reader.TheVariants as R
use Rattle.text.specs.Lines.{lines}
use Rattle.text.specs.Text.{read_text}
use Rattle.layout.specs.State.{Pool}
use Rattle.layout.specs.Limits.{room}
use Rattle.loading.specs.Load.{text_of, with, admitted}
use Rattle.pool.specs.Replies.{Reply, done, refusing}
use Rattle.feeding.specs.Parts.{MOST, Open, Ended, opening, fed, folded, joined}
use Rattle.feeding.specs.Reading.{going, completed}
use Rattle.feeding.specs.Reading as G
use Rattle.feeding.proofs.Joining.{fed-joined}
use Rattle.feeding.proofs.Counting.{over-fed}
use Rattle.feeding.proofs.Whole.{fed-lines}
use Rattle.feeding.proofs.Completing.{text-folded}
use Rattle.opening.specs.Storing.{Progress, start, complete}
use Rattle.opening.specs.Closing.{end_reply, closed, close_answer, closed_pool, loaded_answer, ClosesAsLoaded, CutInPool}
use Rattle.opening.proofs.Squeezing.{complete-squeezes}
use Rattle.opening.proofs.Reading.{stands-start, ended_with, folded-stands}
use Rattle.opening.proofs.Ending.{Ends, ended-as}

-- all bytes as one part, and what its lines are read as
abbrev fed_once : Pool → List ℕ → Open Progress
fed_once s bytes = fed (complete s) (opening start) bytes

abbrev reading : List ℕ → Ended G.Progress
reading bytes = folded completed (going R.Text []) 0 0 (lines bytes)

module _ (s : Pool) (label : ℕ) (e : room s ≡ true) (bytes : List ℕ) where
  closed-stands : length bytes ≤ MOST → closed s (fed_once s bytes) ≡ ended_with s (reading bytes)
  closed-stands h =
      fed-lines (complete s) (complete-squeezes s) start bytes h
      ∙ ap (λ (p : Progress). folded (complete s) p 0 0 (lines bytes)) (stands-start s e)
      ∙ folded-stands s (going R.Text []) tt 0 0 (lines bytes)

  closed-as : length bytes ≤ MOST → let c = closed s (fed_once s bytes) in Ends s label bytes c.progress c.number c.long
  closed-as h =
      let r = reading bytes in
      subst (λ (c : Ended Progress). Ends s label bytes c.progress c.number c.long) (sym (closed-stands h))
      (ended-as s label bytes r.progress r.number r.long (text-folded bytes))

  over : ltb MOST (fed_once s bytes).bytes ≡ ltb MOST (length bytes)
  over = rw zero-add at (over-fed (complete s) (opening start) bytes)

  answer-once : close_answer s (fed_once s bytes) ≡ loaded_answer label bytes s
  unfolding close_answer
  answer-once = rw over (by (ltb MOST (length bytes)) refl)
    where
      by : (t : Bool) → ltb MOST (length bytes) ≡ t
          → let c = closed s (fed_once s bytes) in
          (if t then refusing TextTooLong else end_reply s c.progress.standing c.number c.long)
          ≡ (if t then refusing TextTooLong else admitted (read_text bytes) (room (with s (text_of label bytes))))
      by true f = refl
      by false f = (closed-as (ltb-false MOST (length bytes) f)).answer

  body-once : done (close_answer s (fed_once s bytes)) ≡ true → (closed s (fed_once s bytes)).progress.body ≡ (text_of label bytes).body
  unfolding close_answer
  body-once d = by (ltb MOST (length bytes)) refl (rw over at d)
    where
      by : (t : Bool) → ltb MOST (length bytes) ≡ t
          → let c = closed s (fed_once s bytes) in
          done (if t then refusing TextTooLong else end_reply s c.progress.standing c.number c.long) ≡ true
          → c.progress.body ≡ (text_of label bytes).body
      by true f h = true-false (sym h)
      by false f h = (closed-as (ltb-false MOST (length bytes) f)).body h

  pool-once : closed_pool s label (fed_once s bytes) ≡ (if done (loaded_answer label bytes s) then with s (text_of label bytes) else s)
  unfolding closed_pool text_of
  pool-once = by (done (close_answer s (fed_once s bytes))) refl ∙ ap (λ (r : Reply). if done r then with s (text_of label bytes) else s) answer-once
    where
      by : (d : Bool) → done (close_answer s (fed_once s bytes)) ≡ d
          → (if d then with s (record { label = label; body = (closed s (fed_once s bytes)).progress.body }) else s)
          ≡ (if d then with s (text_of label bytes) else s)
      by true f = ap (λ (b : List Statement). with s (record { label = label; body = b })) (body-once f)
      by false f = refl

pub cut-in-pool : CutInPool
cut-in-pool = record { closes = by }
  where
    by : (s : Pool) (label : ℕ) (parts : List (List ℕ)) → room s ≡ true → ClosesAsLoaded s label parts
    by s label parts e =
        let f = fed-joined (complete s) (opening start) parts in
        record {
          answer = ap (close_answer s) f ∙ answer-once s label e (joined parts);
          pool = ap (closed_pool s label) f ∙ pool-once s label e (joined parts);
        }
