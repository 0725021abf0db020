-- The C structures lose nothing of an answer: its line, column, count or totals are in 32 bits what they are. Definitions only.
use Rattle.std.specs.Prelude.{ℕ, ◌≡◌, List}
use Rattle.pool.specs.Empty.{empty_reply, clear_reply}
use Rattle.loading.specs.Load.{load_reply}
use Rattle.pool.specs.Remove.{remove_reply}
use Rattle.intake.specs.Calls.{open_reply, feed_reply, close_reply}
use Rattle.pool.specs.Fetch.{fetch_reply}
use Rattle.pool.specs.FetchString.{string_reply}
use Rattle.pool.specs.Totals.{totals_reply}
use Rattle.pool.specs.Replies.{Reply, Fetched, Counted, reply_number, reply_line, reply_column, fetched_number, fetched_count, counts_number, counts_texts, counts_statements, counts_values}
use Rattle.globe_c.specs.Faces.{reply_face, fetched_face, counts_face}

-- ---- an answer shown whole: each field of its structure is the answer's

pub record WholeReply (reply : Reply) : Type 0 where
  pub number : (reply_face reply).number ≡ reply_number reply
  pub line : (reply_face reply).line ≡ reply_line reply
  pub column : (reply_face reply).column ≡ reply_column reply

pub record WholeFetched (fetched : Fetched) : Type 0 where
  pub number : (fetched_face fetched).number ≡ fetched_number fetched
  pub line : (fetched_face fetched).line ≡ 0
  pub column : (fetched_face fetched).column ≡ 0
  pub count : (fetched_face fetched).count ≡ fetched_count fetched

pub record WholeCounts (counts : Counted) : Type 0 where
  pub number : (counts_face counts).number ≡ counts_number counts
  pub line : (counts_face counts).line ≡ 0
  pub column : (counts_face counts).column ≡ 0
  pub texts : (counts_face counts).texts ≡ counts_texts counts
  pub statements : (counts_face counts).statements ≡ counts_statements counts
  pub values : (counts_face counts).values ≡ counts_values counts

-- ---- the calls that answer a line, a column, a count or totals

pub record LosesNothing : Type 0 where
  pub make_empty : (m : List ℕ) → WholeReply (empty_reply m)
  pub load : (label : ℕ) (bytes m : List ℕ) → WholeReply (load_reply label bytes m)
  pub open_text : (label : ℕ) (m : List ℕ) → WholeReply (open_reply label m)
  pub feed_or_drop : (m : List ℕ) → WholeReply (feed_reply m)
  pub close_text : (m : List ℕ) → WholeReply (close_reply m)
  pub remove : (label : ℕ) (m : List ℕ) → WholeReply (remove_reply label m)
  pub clear : (m : List ℕ) → WholeReply (clear_reply m)
  pub fetch : (name : List ℕ) (room : ℕ) (m : List ℕ) → WholeFetched (fetch_reply name room m)
  pub fetch_string : (name : List ℕ) (place room : ℕ) (m : List ℕ) → WholeFetched (string_reply name place room m)
  pub totals : (m : List ℕ) → WholeCounts (totals_reply m)
