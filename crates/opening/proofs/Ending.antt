-- At the end of its lines an open text comes to what one load comes to: a list that is left open is the fault, and outside a list what is stored is the
-- statements of an admitted text, each of which has a value. Assumes nothing.
use Prim.Native.Nat.{ℕ, ◌≤◌}
use native.Mathlib.Omega.{arith}
use mathlib.Core.Path.{◌≡◌, refl, sym, ap, ◌∙◌}
use mathlib.Core.Bool.{Bool, true, false, ◌&&◌}
use mathlib.Core.List.{List, [], ◌∷◌, ◌++◌, map, append-nil}
use lib.Dec.{ltb}
use lib.ListN.{length}
use Rattle.plain.proofs.Each.{Each}
use Rattle.plain.proofs.Tests.{true-false}
use Rattle.value.specs.declared.faults.Fault.TheVariants as F
use Rattle.statement.specs.Statements.{Event, Values, numbers, strings, how_many, Statement, statements}
use Rattle.statement.specs.declared.values.Kind.{Kind}
use Rattle.statement.specs.declared.values.Reader.{Reader}
use Rattle.statement.specs.declared.values.Reader.TheVariants as R
use Rattle.text.specs.Text.{fine, refused, read_text}
use Rattle.layout.specs.State.{Pool}
use Rattle.layout.specs.Limits.{TEXTS, room}
use Rattle.layout.proofs.Legal.{Fair}
use Rattle.loading.specs.Load.{text_of, with, admitted}
use Rattle.pool.specs.Replies.{done}
use Rattle.loading.proofs.Adding.{body-read}
use Rattle.loading.proofs.Admitted.{text-fair}
use Rattle.feeding.specs.Reading.{going, stopped, ending_at}
use Rattle.feeding.specs.Reading as G
use Rattle.opening.specs.Storing.{Progress, placed, with_place, fitting, stored}
use Rattle.opening.specs.Closing.{at_end, end_reply}
use Rattle.opening.proofs.Lines.{Outside}
use Rattle.opening.proofs.Placing.{held}
use Rattle.opening.proofs.Fitting.{by_room, room-with}
use Rattle.opening.proofs.Reading.{stands}

-- ---- no place is held for statements that have values

placed-some : (v : Values) → 1 ≤ how_many v → placed v ≡ v
placed-some (numbers []) h = absurd (omega arith)
placed-some (numbers (b ∷ bs)) h = refl
placed-some (strings ss) h = refl

places-some : (ss : List Statement) → Each Fair ss → map with_place ss ≡ ss
places-some [] f = refl
places-some (s ∷ ss) f = λ i. record { name = s.name; operator = s.operator; values = placed-some s.values f.0.some i } ∷ places-some ss f.1 i

-- ---- the end of the lines

-- a text that comes to this is answered as it loads, and where it is held its statements are stored
pub record Ends (s : Pool) (label : ℕ) (bytes : List ℕ) (p : Progress) (number long : ℕ) : Type 0 where
  pub answer : end_reply s p.standing number long ≡ admitted (read_text bytes) (room (with s (text_of label bytes)))
  pub body : done (end_reply s p.standing number long) ≡ true → p.body ≡ (text_of label bytes).body

and-true : (t : Bool) → (t && true) ≡ t
and-true true = refl
and-true false = refl

and-false : (t : Bool) → (t && false) ≡ false
and-false true = refl
and-false false = refl

at-end : (r : Reader) → Outside r → (number long : ℕ) (es : List Event) (fits : Bool) → at_end r number long fits ≡ admitted (fine es) fits
at-end R.Text o number long es true = refl
at-end R.Text o number long es false = refl
at-end R.Data o number long es true = refl
at-end R.Data o number long es false = refl
at-end (R.List k) o number long es fits = absurd o

module _ (s : Pool) (label : ℕ) (bytes : List ℕ) where
  module _ (es : List Event) (e : read_text bytes ≡ fine (es ++ [])) where
    held-body : held es ≡ (text_of label bytes).body
    held-body =
        let f : read_text bytes ≡ fine es = e ∙ ap fine (append-nil es) in
        places-some (statements es) (text-fair bytes es f) ∙ sym (body-read label bytes es f)

    room-is : room (with s (text_of label bytes)) ≡ (ltb (length s) TEXTS && fitting s (held es))
    room-is = room-with s (text_of label bytes) ∙ ap (λ (b : List Statement). ltb (length s) TEXTS && fitting s b) (sym held-body)

    -- the text is held if it fits, and there is a text less than the limit
    ended-outside : (r : Reader) → Outside r → (number long : ℕ) → Ends s label bytes (stored s r (held es)) number long
    ended-outside r o number long = by (fitting s (held es)) refl
      where
        by : (t : Bool) → fitting s (held es) ≡ t → Ends s label bytes (by_room t r (held es)) number long
        by true f =
            record {
              answer = at-end r o number long (es ++ []) (ltb (length s) TEXTS) ∙ rw (e, room-is, f, and-true (ltb (length s) TEXTS));
              body = λ d. held-body;
            }
        by false f =
            record {
              answer = at-end r o number long (es ++ []) false ∙ rw (e, room-is, f, and-false (ltb (length s) TEXTS));
              body = λ d. true-false (sym d ∙ ap done (at-end r o number long (es ++ []) false));
            }

  ended-open : (k : Kind) (es : List Event) (number long : ℕ) → read_text bytes ≡ refused F.OpenList number long
      → Ends s label bytes (stored s (R.List k) (held es)) number long
  ended-open k es number long e = by (fitting s (held es))
    where
      by : (t : Bool) → Ends s label bytes (by_room t (R.List k) (held es)) number long
      by true = record { answer = rw e; body = λ d. true-false (sym d) }
      by false = record { answer = rw e; body = λ d. true-false (sym d) }

  pub ended-as : (p : G.Progress) (number long : ℕ) → read_text bytes ≡ ending_at p number long → Ends s label bytes (stands s p) number long
  ended-as (going R.Text es) number long e = ended-outside es e R.Text tt number long
  ended-as (going R.Data es) number long e = ended-outside es e R.Data tt number long
  ended-as (going (R.List k) es) number long e = ended-open k es number long e
  ended-as (stopped q n k) number long e = record { answer = rw e; body = λ d. true-false (sym d) }
