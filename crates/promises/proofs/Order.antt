-- Each refusal is given in its turn: a call asks its questions in document 01's order, so that the first condition that holds decides.
-- Assumes nothing.
use Prim.Native.Nat.{ℕ}
use mathlib.Core.Path.{◌≡◌, refl, sym, ap, ◌∙◌}
use mathlib.Core.Bool.{true, false, true≢false}
use mathlib.Core.List.{List}
use borrow.Author.Tests.{lt-ltb, le-ltb, lt-leb}
use lib.Ieee.{Float}
use lib.ListN.{length}
use Rattle.std.specs.Prelude.{Option, Some, None}
use Rattle.plain.proofs.Tests.{true-false}
use Rattle.refusal.specs.Numbers.{number_of}
use Rattle.refusal.specs.declared.Refusal.TheVariants as Q
use Rattle.rotation.specs.Epochs.{in_reach}
use Rattle.rotation.specs.Codes.{system_of}
use Rattle.rotation.specs.Table.{row_of}
use Rattle.rotation.specs.Builtin.{by_system, builtin_orientation, builtin_radii}
use Rattle.layout.specs.Limits.{LONGEST_LOAD}
use Rattle.layout.specs.Memory.{decode, opens}
use Rattle.layout.specs.Damage.{sound}
use Rattle.variables.specs.Variables.{variable}
use Rattle.variables.specs.Found.{found_in}
use Rattle.variables.specs.Spelled.{string_of, spelled_in}
use Rattle.pool.specs.Empty.{empty_reply, clear_reply}
use Rattle.pool.specs.Held.{held}
use Rattle.loading.specs.Load.{load_answer, load_reply}
use Rattle.pool.specs.Remove.{remove_reply}
use Rattle.pool.specs.Fetch.{fetch_reply}
use Rattle.pool.specs.FetchString.{string_reply}
use Rattle.pool.specs.Totals.{totals_reply}
use Rattle.feeding.specs.Parts.{MOST, joined}
use Rattle.intake.specs.Calls.{are_bytes, open_reply, feed_reply, close_reply}
use Rattle.globe.specs.Orientation.{orientation_from, orientation_reply}
use Rattle.globe.specs.Radii.{radii_from, radii_reply}
use Rattle.globe.specs.declared.source.Source.TheVariants as S
use Rattle.promises.specs.Calls as C
use Rattle.promises.specs.Calls.{Call, number, line, asked, library}
use Rattle.promises.specs.Order.{Refuses, uses_pool, wants_none_open, wants_open, CloseOrder, LoadOrder, FetchOrder, StringOrder, OrientationOrder, RadiiOrder, InOrder}
use Rattle.promises.proofs.Parts.{closed-answer}

damaged : (c : Call) (m : List ℕ) → uses_pool c ≡ true → sound m ≡ false → Refuses library c m Q.DamagedPool
unfolding asked load_reply open_reply feed_reply close_reply remove_reply clear_reply fetch_reply string_reply totals_reply orientation_reply radii_reply
damaged C.make_empty m u e = absurd (true≢false (sym u))
damaged (C.load label bytes) m u e = rw e
damaged (C.open_load label) m u e = rw e
damaged (C.feed_part part) m u e = rw e
damaged C.close_load m u e = rw e
damaged C.drop_load m u e = rw e
damaged (C.remove label) m u e = rw e
damaged C.clear m u e = rw e
damaged (C.fetch name buffer) m u e = rw e
damaged (C.fetch_string name place buffer) m u e = rw e
damaged C.totals m u e = rw e
damaged (C.orientation S.Pool code epoch) m u e = rw e
damaged (C.orientation S.Builtin code epoch) m u e = absurd (true≢false (sym u))
damaged (C.radii S.Pool code) m u e = rw e
damaged (C.radii S.Builtin code) m u e = absurd (true≢false (sym u))

text-open : (c : Call) (m : List ℕ) → wants_none_open c ≡ true → sound m ≡ true → opens m ≡ true → Refuses library c m Q.TextOpen
unfolding asked load_reply open_reply remove_reply clear_reply
text-open (C.load label bytes) m w e o = rw (e, o)
text-open (C.open_load label) m w e o = rw (e, o)
text-open (C.remove label) m w e o = rw (e, o)
text-open C.clear m w e o = rw (e, o)
text-open C.make_empty m w e o = true-false (sym w)
text-open (C.feed_part part) m w e o = true-false (sym w)
text-open C.close_load m w e o = true-false (sym w)
text-open C.drop_load m w e o = true-false (sym w)
text-open (C.fetch name buffer) m w e o = true-false (sym w)
text-open (C.fetch_string name place buffer) m w e o = true-false (sym w)
text-open C.totals m w e o = true-false (sym w)
text-open (C.orientation source code epoch) m w e o = true-false (sym w)
text-open (C.radii source code) m w e o = true-false (sym w)

none-open : (c : Call) (m : List ℕ) → wants_open c ≡ true → sound m ≡ true → opens m ≡ false → Refuses library c m Q.NotHeld
unfolding asked feed_reply close_reply
none-open (C.feed_part part) m w e o = rw (e, o)
none-open C.close_load m w e o = rw (e, o)
none-open C.drop_load m w e o = rw (e, o)
none-open C.make_empty m w e o = true-false (sym w)
none-open (C.load label bytes) m w e o = true-false (sym w)
none-open (C.open_load label) m w e o = true-false (sym w)
none-open (C.remove label) m w e o = true-false (sym w)
none-open C.clear m w e o = true-false (sym w)
none-open (C.fetch name buffer) m w e o = true-false (sym w)
none-open (C.fetch_string name place buffer) m w e o = true-false (sym w)
none-open C.totals m w e o = true-false (sym w)
none-open (C.orientation source code epoch) m w e o = true-false (sym w)
none-open (C.radii source code) m w e o = true-false (sym w)

loads : (label : ℕ) (bytes m : List ℕ) → sound m ≡ true → opens m ≡ false → LoadOrder library label bytes m
unfolding asked load_reply load_answer
loads label bytes m e o =
    record {
      label_held = λ h. simp (e, o, h);
      too_long = λ h l. simp (e, o, h, lt-ltb LONGEST_LOAD (length bytes) l);
      faulty = λ fault n place h l r. (
        simp (e, o, h, le-ltb LONGEST_LOAD (length bytes) l, r),
        simp (e, o, h, le-ltb LONGEST_LOAD (length bytes) l, r),
      );
      no_room = λ es h l r f. simp (e, o, h, le-ltb LONGEST_LOAD (length bytes) l, r, f);
    }

closings : (label : ℕ) (parts : List (List ℕ)) (m : List ℕ) → are_bytes (joined parts) ≡ true → sound m ≡ true → opens m ≡ false
    → held label (decode m) ≡ false → CloseOrder library label parts m
closings label parts m t e o f =
    let a = closed-answer label parts m t (record { undamaged = e; none_open = o; free = f }) in
    let n = length (joined parts) in
    record {
      too_long = λ l. ap number a ∙ rw (lt-ltb MOST n l);
      faulty = λ fault k place l r. (ap number a ∙ rw (le-ltb MOST n l, r), ap line a ∙ rw (le-ltb MOST n l, r));
      no_room = λ es l r x. ap number a ∙ rw (le-ltb MOST n l, r, x);
    }

fetches : (name : List ℕ) (buffer : List Float) (m : List ℕ) → sound m ≡ true → FetchOrder library name buffer m
unfolding asked fetch_reply found_in
fetches name buffer m e =
    record {
      no_variable = λ p. simp (e, p);
      mixed_kind = λ p k. simp (e, p, k);
      short_buffer = λ p k l. simp (e, p, k, lt-leb (length (variable name (decode m))) (length buffer) l);
    }

strings : (name : List ℕ) (place : ℕ) (buffer m : List ℕ) → sound m ≡ true → StringOrder library name place buffer m
unfolding asked string_reply spelled_in
strings name place buffer m e =
    record {
      no_variable = λ p. simp (e, p);
      mixed_kind = λ p k. simp (e, p, k);
      short_buffer = λ p k l. simp (e, p, k, lt-leb (length (string_of place (variable name (decode m)))) (length buffer) l);
    }

orientations : (n : ℕ) (epoch : Float) (m : List ℕ) → sound m ≡ true → OrientationOrder library n epoch m
unfolding asked orientation_reply orientation_from
orientations n epoch m e =
    record {
      epochs = λ r. simp (e, r);
      no_code = λ r s. simp (e, r, s);
      no_body = λ k r s b. simp (e, r, s, b);
      incomplete = λ k r s b c. simp (e, r, s, b, c);
      bad_degree = λ k r s b c g. simp (e, r, s, b, c, g);
      mixed_kind = λ k d r s b c g x. simp (e, r, s, b, c, g, x);
      wrong_count = λ k d r s b c g x w. simp (e, r, s, b, c, g, x, w);
    }

radii : (n : ℕ) (m : List ℕ) → sound m ≡ true → RadiiOrder library n m
unfolding asked radii_reply radii_from
radii n m e =
    record {
      no_code = λ s. simp (e, s);
      no_body = λ k s t. simp (e, s, t);
      mixed_kind = λ k s t x. simp (e, s, t, x);
      wrong_count = λ k s t x c. simp (e, s, t, x, c);
      bad_radius = λ k s t x c p. simp (e, s, t, x, c, p);
    }

table-rows : (n : ℕ) (epoch : Float) (m : List ℕ) → in_reach epoch ≡ true → row_of n ≡ None → Refuses library (C.orientation S.Builtin n epoch) m Q.UnknownBody
unfolding asked orientation_reply builtin_orientation
table-rows n epoch m r h = rw r (by (system_of n))
  where
    by : (s : Option ℕ) → number (C.oriented (by_system n epoch s)) ≡ number_of Q.UnknownBody
    by (Some k) = rw h
    by None = refl

pub in_order : InOrder library
unfolding asked empty_reply open_reply remove_reply orientation_reply builtin_orientation radii_reply builtin_radii
in_order =
    record {
      damaged = damaged;
      other_size = λ m z. rw z;
      text_open = text-open;
      none_open = none-open;
      loads = loads;
      openings = λ label m e o h. simp (e, o, h);
      closings = closings;
      not_held = λ label m e o h. simp (e, o, h);
      fetches = fetches;
      strings = strings;
      orientations = orientations;
      radii = radii;
      table_epochs = λ n epoch m r. rw r;
      table_rows = table-rows;
      table_sizes = λ n m h. rw h;
    }
