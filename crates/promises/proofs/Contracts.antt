-- The library's answers and memories are those of the contracts, and no second answer meets a contract: each contract's record says what the
-- answer equals, and two things equal to a third are equal. Assumes nothing.
use Prim.Native.Nat.{ℕ}
use mathlib.Core.Path.{◌≡◌, refl, sym}
use mathlib.Core.Bool.{true, true≢false}
use mathlib.Core.List.{List}
use lib.ListN.{length}
use Rattle.pool.specs.Empty.{empty_reply, clear_reply}
use Rattle.loading.specs.Load.{load_reply}
use Rattle.pool.specs.Remove.{remove_reply}
use Rattle.pool.specs.Fetch.{fetch_reply, fetch_buffer}
use Rattle.pool.specs.FetchString.{string_reply, string_buffer}
use Rattle.pool.specs.Totals.{totals_reply}
use Rattle.intake.specs.Calls.{open_reply, feed_reply, close_reply}
use Rattle.globe.specs.Orientation.{orientation_reply}
use Rattle.globe.specs.Radii.{radii_reply}
use Rattle.promises.specs.Calls as C
use Rattle.promises.specs.Calls.{Call, asked, leaves, query, library}
use Rattle.promises.specs.Demands.{Contracts, NoSecondAnswer}

queries : (c : Call) (m : List ℕ) → query c ≡ true → leaves c m ≡ m
unfolding leaves
queries C.make_empty m e = absurd (true≢false (sym e))
queries (C.load label bytes) m e = absurd (true≢false (sym e))
queries (C.open_load label) m e = absurd (true≢false (sym e))
queries (C.feed_part part) m e = absurd (true≢false (sym e))
queries C.close_load m e = absurd (true≢false (sym e))
queries C.drop_load m e = absurd (true≢false (sym e))
queries (C.remove label) m e = absurd (true≢false (sym e))
queries C.clear m e = absurd (true≢false (sym e))
queries (C.fetch name buffer) m e = refl
queries (C.fetch_string name place buffer) m e = refl
queries C.totals m e = refl
queries (C.orientation source code epoch) m e = refl
queries (C.radii source code) m e = refl

pub contracts : Contracts library
unfolding asked leaves
contracts = record {
  make_empty = λ m. record { told = empty_reply m; is = refl; contract = record { reply = refl; memory = refl } };
  load = λ label bytes m. record { told = load_reply label bytes m; is = refl; contract = record { reply = refl; memory = refl } };
  open_load = λ label m. record { told = open_reply label m; is = refl; contract = record { reply = refl; memory = refl } };
  feed_part = λ part m. record { told = feed_reply m; is = refl; contract = record { reply = refl; memory = refl } };
  close_load = λ m. record { told = close_reply m; is = refl; contract = record { reply = refl; memory = refl } };
  drop_load = λ m. record { told = feed_reply m; is = refl; contract = record { reply = refl; memory = refl } };
  remove = λ label m. record { told = remove_reply label m; is = refl; contract = record { reply = refl; memory = refl } };
  clear = λ m. record { told = clear_reply m; is = refl; contract = record { reply = refl; memory = refl } };
  fetch = λ name m buffer. record {
    told = (fetch_reply name (length buffer) m, fetch_buffer name m buffer);
    is = refl;
    contract = record { reply = refl; buffer = refl };
  };
  fetch_string = λ name place m buffer. record {
    told = (string_reply name place (length buffer) m, string_buffer name place m buffer);
    is = refl;
    contract = record { reply = refl; buffer = refl };
  };
  totals = λ m. record { told = totals_reply m; is = refl; contract = record { reply = refl } };
  orientation = λ source m n epoch. record { told = orientation_reply source m n epoch; is = refl; contract = record { reply = refl } };
  radii = λ source m n. record { told = radii_reply source m n; is = refl; contract = record { reply = refl } };
  queries = queries;
}

pub no-second-answer : NoSecondAnswer
no-second-answer = record {
  make_empty = λ before r r' after after' p q. (cc, cc);
  load = λ label bytes before r r' after after' p q. (cc, cc);
  open_load = λ label before r r' after after' p q. (cc, cc);
  feed_part = λ part before r r' after after' p q. (cc, cc);
  close_load = λ before r r' after after' p q. (cc, cc);
  drop_load = λ before r r' after after' p q. (cc, cc);
  remove = λ label before r r' after after' p q. (cc, cc);
  clear = λ before r r' after after' p q. (cc, cc);
  fetch = λ name memory before r r' after after' p q. (cc, cc);
  fetch_string = λ name place memory before r r' after after' p q. (cc, cc);
  totals = λ memory r r' p q. cc;
  orientation = λ source memory n epoch r r' p q. cc;
  radii = λ source memory n r r' p q. cc;
}
