-- Thirty-two bits lose nothing: a line is one of a text of at most 4,194,304 bytes, a column is at most 134, a count is one of at most 3,072 held values or of a
-- string's at most 60 bytes, so each is its own remainder. Assumes nothing.
use mathlib.Core.Path.{◌≡◌, refl, sym, ◌∙◌}
use mathlib.Core.Bool.{Bool, true, false, ◌&&◌}
use mathlib.Core.List.{List, [], ◌∷◌, ◌++◌}
use Prim.Native.Nat.{ℕ, zero, suc, ◌+◌, ◌-◌, ◌≤◌}
use native.Mathlib.Nat.{mod-eq_of_lt}
use native.Mathlib.Omega.{arith}
use borrow.Author.Tests.{ltb-false}
use lib.Dec.{eqb, ltb, leb}
use lib.ListN.{length, get_or, length-append, length-map}
use Rattle.std.specs.Prelude.{Ok, Err, if◌then◌else◌}
use Rattle.plain.specs.Bytes.{LF, CR, within}
use Rattle.text.specs.Lines.{lines, before, at_lf}
use Rattle.value.specs.Strings.{STRING}
use Rattle.statement.specs.Statements.{Values, numbers, strings, Statement}
use Rattle.text.specs.Text.{Read, fine, refused, read_text}
use Rattle.text.proofs.FirstFault.{number-within}
use Rattle.text.proofs.Columns.{place-most}
use Rattle.plain.proofs.Each.{Each, each_append}
use Rattle.layout.specs.State.{Pool, program, flat, words_of, values_of, values}
use Rattle.layout.specs.Limits.{TEXTS, STATEMENTS, VALUES, room, LONGEST_LOAD}
use Rattle.layout.specs.Memory.{decode, opens}
use Rattle.layout.specs.Damage.{sized, sound}
use Rattle.layout.proofs.Sound.{sound-of}
use Rattle.layout.proofs.Legal.{Fair, FairValues}
use Rattle.layout.proofs.Holds.{decode-fits, decode-legal}
use Rattle.refusal.specs.declared.Refusal.{Refusal}
use Rattle.refusal.specs.declared.Refusal.TheVariants.{LabelHeld, TextTooLong, NoRoom, NotHeld, DamagedPool, TextOpen}
use Rattle.pool.specs.Empty.{empty_reply, clear_reply}
use Rattle.pool.specs.Remove.{remove_reply}
use Rattle.pool.specs.Replies.{Reply, reply_line, reply_column, refusing, fetched_count, counts_texts, counts_statements, counts_values}
use Rattle.pool.specs.Totals.{counts, totals_reply}
use Rattle.variables.specs.Variables.{Datum, number, string, each, has, any, assigns, since, gives, variable, present, all_numbers, all_strings}
use Rattle.pool.specs.Held.{held}
use Rattle.loading.specs.Load.{admitted, load_answer, load_reply, with, text_of}
use Rattle.variables.specs.Found.{found_in}
use Rattle.variables.specs.Spelled.{letters, string_of, spelled_in}
use Rattle.pool.specs.Fetch.{fetched, fetch_reply}
use Rattle.pool.specs.FetchString.{string_reply}
use Rattle.variables.specs.declared.variable.FindError.TheVariants as W
use Rattle.feeding.specs.Parts.{MOST}
use Rattle.opening.specs.Closing.{close_answer}
use Rattle.intake.specs.Opened.{state_in}
use Rattle.intake.specs.Calls.{open_reply, feed_reply, close_reply}
use Rattle.keeping.proofs.Ending.{close-near}
use Rattle.globe_c.specs.Faces.{narrow}
use Rattle.globe_c.specs.Narrow.{WholeReply, LosesNothing}

-- ---- lines and columns

-- a text has no more lines than bytes
lines-few : (bs : List ℕ) → length (lines bs) ≤ length bs
unfolding lines
lines-few [] = omega arith
lines-few (b ∷ bs) = by (eqb b LF) (eqb b CR && at_lf bs) (lines bs) (lines-few bs)
  where
    by : (x y : Bool) (ls : List (List ℕ)) → length ls ≤ length bs
        → length (if x then [] ∷ ls else (if y then ls else before b ls)) ≤ length (b ∷ bs)
    by true y ls h = omega arith
    by false true ls h = omega arith
    by false false [] h = omega arith
    by false false (l ∷ ls) h = omega arith

-- a reply whose line and column are few
record Few (reply : Reply) : Type 0 where
  line : reply_line reply ≤ MOST + 1
  column : reply_column reply ≤ MOST + 1

few-done : Few (Ok tt)
few-done = record { line = omega arith; column = omega arith }

few-refusing : (q : Refusal) → Few (refusing q)
few-refusing q = record { line = omega arith; column = omega arith }

few-admitted : (bytes : List ℕ) (r : Read) (roomy : Bool) → read_text bytes ≡ r → length bytes ≤ LONGEST_LOAD → Few (admitted r roomy)
few-admitted bytes (fine es) true e h = few-done
few-admitted bytes (fine es) false e h = few-refusing NoRoom
few-admitted bytes (refused q line place) roomy e h =
    record {
      line = omega (arith, (number-within bytes q line place e).1, lines-few bytes);
      column = omega (arith, place-most bytes q line place e);
    }

few-load : (label : ℕ) (bytes m : List ℕ) → Few (load_reply label bytes m)
unfolding load_reply load_answer
few-load label bytes m = by (sound m) (opens m) (held label (decode m)) (ltb LONGEST_LOAD (length bytes)) refl
  where
    by : (x o y z : Bool) → ltb LONGEST_LOAD (length bytes) ≡ z
        → Few (if x then (if o then refusing TextOpen else (if y then refusing LabelHeld else (if z then refusing TextTooLong else admitted (read_text bytes) (room (with (decode m) (text_of label bytes)))))) else refusing DamagedPool)
    by true true y z e = few-refusing TextOpen
    by true false true z e = few-refusing LabelHeld
    by true false false true e = few-refusing TextTooLong
    by true false false false e = few-admitted bytes (read_text bytes) (room (with (decode m) (text_of label bytes))) refl (ltb-false LONGEST_LOAD (length bytes) e)
    by false o y z e = few-refusing DamagedPool

few-close : (m : List ℕ) → Few (close_reply m)
unfolding close_reply
few-close m = by (sound m) (opens m) refl refl
  where
    by : (x o : Bool) → sound m ≡ x → opens m ≡ o → Few (if x then (if o then close_answer (decode m) (state_in m) else refusing NotHeld) else refusing DamagedPool)
    by true true e i = let n = close-near m e i in record { line = n.line; column = omega (arith, n.column) }
    by true false e i = few-refusing NotHeld
    by false o e i = few-refusing DamagedPool

-- ---- counts

-- a value has a word
length-each : (v : Values) → length (each v) ≡ length (words_of v)
length-each (numbers ws) = length-map ws number
length-each (strings ss) = length-map ss string ∙ sym (length-map ss length)

-- a variable has no more values than its statements give
gives-few : (name : List ℕ) (ss : List Statement) → length (flat (gives name) ss) ≤ length (flat values_of ss)
unfolding flat
gives-few name [] = omega arith
gives-few name (s ∷ ss) = by (has name s) (gives-few name ss)
  where
    by : (x : Bool) → length (flat (gives name) ss) ≤ length (flat values_of ss)
        → length ((if x then each s.values else []) ++ flat (gives name) ss) ≤ length (values_of s ++ flat values_of ss)
    by true h = omega (arith, length-each s.values, length-append (each s.values) (flat (gives name) ss), length-append (values_of s) (flat values_of ss))
    by false h = omega (arith, length-append (values_of s) (flat values_of ss))

since-few : (name : List ℕ) (ss : List Statement) → length (flat (gives name) (since name ss)) ≤ length (flat (gives name) ss)
unfolding since flat
since-few name [] = omega arith
since-few name (s ∷ ss) = by (any (assigns name) ss) (since-few name ss)
  where
    by : (x : Bool) → length (flat (gives name) (since name ss)) ≤ length (flat (gives name) ss)
        → length (flat (gives name) (if x then since name ss else (s ∷ ss))) ≤ length (gives name s ++ flat (gives name) ss)
    by true h = omega (arith, length-append (gives name s) (flat (gives name) ss))
    by false h = omega arith

variable-few : (name : List ℕ) (s : Pool) → length (variable name s) ≤ length (values s)
unfolding variable
variable-few name s = omega (arith, since-few name (program s), gives-few name (program s))

count-few : (name : List ℕ) (room : ℕ) (m : List ℕ) → fetched_count (fetch_reply name room m) ≤ VALUES
unfolding fetch_reply found_in
count-few name room m = by (sound m) (present name (decode m)) (all_numbers (variable name (decode m))) (leb (length (variable name (decode m))) room) refl
  where
    by : (x y n z : Bool) → sound m ≡ x
        → fetched_count (if x then fetched (if y then (if n then (if z then Ok (length (variable name (decode m))) else (Err W.TooMany)) else (Err W.Mixed)) else (Err W.Absent)) else Err DamagedPool) ≤ VALUES
    by true true true true e = omega (arith, variable-few name (decode m), (decode-fits m (sound-of m e)).values)
    by true true true false e = omega arith
    by true true false z e = omega arith
    by true false n z e = omega arith
    by false y n z e = omega arith

-- ---- the bytes of a string

abbrev Short : Datum → Type 0
Short d = length (letters d) ≤ STRING

short-each : (v : Values) → FairValues v → Each Short (each v)
short-each (numbers []) f = tt
short-each (numbers (w ∷ ws)) f = (omega arith, short-each (numbers ws) f.1)
short-each (strings []) f = tt
short-each (strings (s ∷ ss)) f = (f.0.short, short-each (strings ss) f.1)

short-gives : (name : List ℕ) (ss : List Statement) → Each Fair ss → Each Short (flat (gives name) ss)
unfolding flat
short-gives name [] f = tt
short-gives name (s ∷ ss) f = each_append Short (gives name s) (flat (gives name) ss) (by (has name s)) (short-gives name ss f.1)
  where
    by : (x : Bool) → Each Short (if x then each s.values else [])
    by true = short-each s.values f.0.values
    by false = tt

fair-since : (name : List ℕ) (ss : List Statement) → Each Fair ss → Each Fair (since name ss)
unfolding since
fair-since name [] f = tt
fair-since name (s ∷ ss) f = by (any (assigns name) ss) (fair-since name ss f.1)
  where
    by : (x : Bool) → Each Fair (since name ss) → Each Fair (if x then since name ss else (s ∷ ss))
    by true g = g
    by false g = f

short-at : (vs : List Datum) (i : ℕ) → Each Short vs → length (letters (get_or vs i (string []))) ≤ STRING
short-at [] i f = omega arith
short-at (v ∷ vs) zero f = f.0
short-at (v ∷ vs) (suc i) f = short-at vs i f.1

string-few : (name : List ℕ) (place room : ℕ) (m : List ℕ) → fetched_count (string_reply name place room m) ≤ STRING
unfolding string_reply spelled_in variable
string-few name place room m =
    by (sound m) (within 1 (length (variable name (decode m))) place) (all_strings (variable name (decode m))) (leb (length (string_of place (variable name (decode m)))) room) refl
  where
    by : (x y n z : Bool) → sound m ≡ x
        → fetched_count (if x then fetched (if y then (if n then (if z then Ok (length (string_of place (variable name (decode m)))) else (Err W.TooMany)) else (Err W.Mixed)) else (Err W.Absent)) else Err DamagedPool) ≤ STRING
    by true true true true e =
        let p = program (decode m) in
        short-at (variable name (decode m)) (place - 1) (short-gives name (since name p) (fair-since name p (decode-legal m (sound-of m e)).statements))
    by true true true false e = omega arith
    by true true false z e = omega arith
    by true false n z e = omega arith
    by false y n z e = omega arith

totals-few :
    (m : List ℕ)
    → (counts_texts (totals_reply m) ≤ TEXTS) × (counts_statements (totals_reply m) ≤ STATEMENTS) × (counts_values (totals_reply m) ≤ VALUES)
unfolding totals_reply
totals-few m = by (sound m) refl
  where
    by : (x : Bool) → sound m ≡ x
        → (counts_texts (if x then counts (decode m) else Err DamagedPool) ≤ TEXTS)
        × (counts_statements (if x then counts (decode m) else Err DamagedPool) ≤ STATEMENTS)
        × (counts_values (if x then counts (decode m) else Err DamagedPool) ≤ VALUES)
    by true e = let f = decode-fits m (sound-of m e) in (f.texts, f.statements, f.values)
    by false e = (omega arith, omega arith, omega arith)

-- ---- so each structure shows its answer whole

narrow-itself : (n : ℕ) → n ≤ MOST + 1 → narrow n ≡ n
narrow-itself n h = mod-eq_of_lt (omega arith)

whole-reply : (reply : Reply) → Few reply → WholeReply reply
whole-reply reply f = record { number = refl; line = narrow-itself (reply_line reply) f.line; column = narrow-itself (reply_column reply) f.column }

-- of a call that reads no text, neither the reply nor 15 has a line
no_line : (x : Bool) (reply : Reply) → Few reply → WholeReply (if x then reply else refusing DamagedPool)
no_line true reply f = whole-reply reply f
no_line false reply f = whole-reply (refusing DamagedPool) (few-refusing DamagedPool)

pub loses-nothing : LosesNothing
unfolding empty_reply clear_reply remove_reply open_reply feed_reply
loses-nothing =
    record {
      make_empty = λ m. no_line (sized m) (Ok tt) few-done;
      load = λ label bytes m. whole-reply (load_reply label bytes m) (few-load label bytes m);
      open_text = λ label m. opened (sound m) (opens m) (held label (decode m));
      feed_or_drop = λ m. unless (sound m) (opens m) (few-refusing NotHeld) few-done;
      close_text = λ m. whole-reply (close_reply m) (few-close m);
      remove = λ label m. removed (sound m) (opens m) (held label (decode m));
      clear = λ m. unless (sound m) (opens m) few-done (few-refusing TextOpen);
      fetch = λ name room m. record { number = refl; line = refl; column = refl; count = narrow-itself _ (omega (arith, count-few name room m)) };
      fetch_string = λ name place room m. record { number = refl; line = refl; column = refl; count = narrow-itself _ (omega (arith, string-few name place room m)) };
      totals = λ m. let t = totals-few m in record {
        number = refl;
        line = refl;
        column = refl;
        texts = narrow-itself _ (omega (arith, t.0));
        statements = narrow-itself _ (omega (arith, t.1));
        values = narrow-itself _ (omega (arith, t.2));
      };
    }
  where
    unless : {p q : Reply} (x o : Bool) → Few p → Few q → WholeReply (if x then (if o then q else p) else refusing DamagedPool)
    unless {p} {q} x true f g = no_line x q g
    unless {p} {q} x false f g = no_line x p f

    opened : (x o y : Bool) → WholeReply (if x then (if o then refusing TextOpen else (if y then refusing LabelHeld else Ok tt)) else refusing DamagedPool)
    opened x true y = no_line x (refusing TextOpen) (few-refusing TextOpen)
    opened x false true = no_line x (refusing LabelHeld) (few-refusing LabelHeld)
    opened x false false = no_line x (Ok tt) few-done

    removed : (x o y : Bool) → WholeReply (if x then (if o then refusing TextOpen else (if y then Ok tt else refusing NotHeld)) else refusing DamagedPool)
    removed x true y = no_line x (refusing TextOpen) (few-refusing TextOpen)
    removed x false true = no_line x (Ok tt) few-done
    removed x false false = no_line x (refusing NotHeld) (few-refusing NotHeld)
