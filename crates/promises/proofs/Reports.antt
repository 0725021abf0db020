-- A fault that is told is the text's first one; success has no line; a refused answer has no values: each case of an answer by itself.
-- Assumes nothing.
use Prim.Native.Nat.{ℕ}
use native.Mathlib.Omega.{arith}
use mathlib.Core.Path.{◌≡◌, refl, sym, ap, subst, ◌∙◌}
use mathlib.Core.Bool.{Bool, true, false, true≢false}
use mathlib.Core.List.{List, []}
use lib.Dec.{ltb}
use lib.ListN.{length}
use Rattle.std.specs.Prelude.{if◌then◌else◌, Ok, Err}
use Rattle.refusal.specs.Numbers.{number_of}
use Rattle.refusal.specs.declared.Refusal.{Refusal}
use Rattle.refusal.specs.declared.Refusal.TheVariants as Q
use Rattle.value.specs.Faults.{refusal_of}
use Rattle.text.specs.Text.{Read, fine, refused, read_text}
use Rattle.text.specs.Columns.{column_of, Pointed}
use Rattle.text.proofs.Columns.{refused-pointed}
use Rattle.layout.specs.Limits.{room, LONGEST_LOAD}
use Rattle.layout.specs.State.{Pool}
use Rattle.layout.specs.Memory.{decode, opens}
use Rattle.layout.specs.Damage.{sound}
use Rattle.pool.specs.Replies.{Reply, refusing, refusing_at}
use Rattle.pool.specs.declared.reply.Refused.{Refused}
use Rattle.pool.specs.Held.{held}
use Rattle.loading.specs.Load.{text_of, with, admitted, load_answer, load_reply}
use Rattle.feeding.specs.Parts.{MOST, joined}
use Rattle.intake.specs.Calls.{are_bytes}
use Rattle.promises.specs.Calls as C
use Rattle.promises.specs.Calls.{Answer, asked, library, line, column, count, doubles, totalled, accepted}
use Rattle.promises.specs.Demands.{points, Faulty, Reports}
use Rattle.promises.specs.Histories.{fed_under}
use Rattle.promises.proofs.Accepted.{measured}
use Rattle.promises.proofs.Parts.{openable, closed-answer}
use Rattle.promises.proofs.Lines.{others}
use Rattle.promises.proofs.Refusals.{refused-number}

-- ---- faults

-- two refusals that are the same tell the same
pub same-refused : {q q' : Refusal} {n n' k k' : ℕ} → refusing_at q n k ≡ refusing_at q' n' k'
    → ◌≡◌ {A = Refused} (record { refusal = q; line = n; column = k }) (record { refusal = q'; line = n'; column = k' })
same-refused e = cc

module _ (label : ℕ) (bytes : List ℕ) (s : Pool) (q : Refusal) (n col : ℕ) (w : points (number_of q) ≡ true) where
  -- a refusal of another number
  other : (q' : Refusal) → points (number_of q') ≡ false → refusing q' ≡ refusing_at q n col → Faulty bytes q n col
  other q' f e = let z : q' ≡ q = ap (λ (r : Refused). r.refusal) (same-refused e) in absurd (true≢false (sym w ∙ ap (λ (x : Refusal). points (number_of x)) (sym z) ∙ f))

  by-reading : (r : Read) → read_text bytes ≡ r → (b : Bool) → admitted r b ≡ refusing_at q n col → Faulty bytes q n col
  by-reading (fine es) h true e = let z : ◌≡◌ {A = ℕ} 0 1 = cc in absurd (omega arith)
  by-reading (fine es) h false e = other Q.NoRoom refl e
  by-reading (refused fault line place) h b e =
      let r = same-refused e in
      let x : refusal_of fault ≡ q = ap (λ (t : Refused). t.refusal) r in
      let y : line ≡ n = ap (λ (t : Refused). t.line) r in
      let c : column_of place ≡ col = ap (λ (t : Refused). t.column) r in
      let z : read_text bytes ≡ refused fault n place = h ∙ ap (λ (k : ℕ). refused fault k place) y in
      record {
        fault = fault;
        place = place;
        refusal = sym x;
        read = z;
        column-is = sym c;
        pointed = subst (Pointed bytes n) c (refused-pointed bytes fault n place z);
      }

  -- from the test of the length on
  by_length : (longest : ℕ) → measured longest label bytes s ≡ refusing_at q n col → Faulty bytes q n col
  by_length longest e = by (ltb longest (length bytes)) e
    where
      by : (b : Bool) → (if b then refusing Q.TextTooLong else admitted (read_text bytes) (room (with s (text_of label bytes)))) ≡ refusing_at q n col
          → Faulty bytes q n col
      by true e = other Q.TextTooLong refl e
      by false e = by-reading (read_text bytes) refl (room (with s (text_of label bytes))) e

  by-label : (b : Bool) → (if b then refusing Q.LabelHeld else measured LONGEST_LOAD label bytes s) ≡ refusing_at q n col → Faulty bytes q n col
  by-label true e = other Q.LabelHeld refl e
  by-label false e = by_length LONGEST_LOAD e

  by-open : (b : Bool) → (if b then refusing Q.TextOpen else load_answer label bytes s) ≡ refusing_at q n col → Faulty bytes q n col
  unfolding load_answer
  by-open true e = other Q.TextOpen refl e
  by-open false e = by-label (held label s) e

  by-damage : (b c : Bool) → (if b then (if c then refusing Q.TextOpen else load_answer label bytes s) else refusing Q.DamagedPool) ≡ refusing_at q n col
      → Faulty bytes q n col
  by-damage true c e = by-open c e
  by-damage false c e = other Q.DamagedPool refl e

pub same : {r r' : Reply} → C.replied r ≡ C.replied r' → r ≡ r'
same e = cc

faults : (label : ℕ) (bytes m : List ℕ) (q : Refusal) (n k : ℕ) → asked (C.load label bytes) m ≡ C.replied (refusing_at q n k)
    → points (number_of q) ≡ true → Faulty bytes q n k
unfolding asked load_reply
faults label bytes m q n k e w = by-damage label bytes (decode m) q n k w (sound m) (opens m) (same e)

faults-of-parts : (label : ℕ) (parts : List (List ℕ)) (m : List ℕ) (q : Refusal) (n k : ℕ) → are_bytes (joined parts) ≡ true
    → accepted (asked (C.open_load label) m) ≡ true → asked C.close_load (fed_under library label parts m) ≡ C.replied (refusing_at q n k)
    → points (number_of q) ≡ true → Faulty (joined parts) q n k
faults-of-parts label parts m q n k t y e w =
    by_length label (joined parts) (decode m) q n k w MOST (same (sym (closed-answer label parts m t (openable label m y)) ∙ e))

-- ---- values

success : (a : Answer) → accepted a ≡ true → (line a ≡ 0) × (column a ≡ 0)
success (C.replied (Ok u)) e = (refl, refl)
success (C.replied (Err r)) e = absurd (true≢false (sym e ∙ refused-number r.refusal))
success (C.fetched r buffer) e = (refl, refl)
success (C.spelled r buffer) e = (refl, refl)
success (C.counted r) e = (refl, refl)
success (C.oriented r) e = (refl, refl)
success (C.measured r) e = (refl, refl)

no-values : (a : Answer) → accepted a ≡ false → (count a ≡ 0) × (doubles a ≡ []) × (totalled a ≡ [])
no-values (C.replied r) e = (refl, refl, refl)
no-values (C.fetched (Ok n) buffer) e = absurd (true≢false e)
no-values (C.fetched (Err q) buffer) e = (refl, refl, refl)
no-values (C.spelled (Ok n) buffer) e = absurd (true≢false e)
no-values (C.spelled (Err q) buffer) e = (refl, refl, refl)
no-values (C.counted (Ok t)) e = absurd (true≢false e)
no-values (C.counted (Err q)) e = (refl, refl, refl)
no-values (C.oriented (Ok o)) e = absurd (true≢false e)
no-values (C.oriented (Err q)) e = (refl, refl, refl)
no-values (C.measured (Ok x)) e = absurd (true≢false e)
no-values (C.measured (Err q)) e = (refl, refl, refl)

pub reports : Reports library
reports =
    record {
      success = λ c m e. success (asked c m) e;
      others = others;
      faults = faults;
      faults_of_parts = faults-of-parts;
      no_values = λ c m e. no-values (asked c m) e;
    }
