-- "Success is number 0 with line 0, and fetch also tells the count (0 when refused). A refusal returns its number, for 3 to 6 the line
-- (0 for all others), and no values": each answer as a C structure, whose fields are zeros where there are no values. Definitions only.
use Rattle.std.specs.Prelude.{ℕ, ◌%◌, ◌≡◌, List, Result, Ok, Err}
use Rattle.plain.specs.Doubles.{nought}
use Rattle.refusal.specs.declared.Refusal.{Refusal}
use Rattle.refusal.specs.Numbers.{SUCCESS, number_of}
use Rattle.pool.specs.Replies.{Reply, Fetched, Counted, reply_number, reply_line, reply_column, fetched_number, fetched_count, counts_number, counts_texts, counts_statements, counts_values}
use Rattle.globe_c.specs.declared.face.GlobeReply.{GlobeReply}
use Rattle.globe_c.specs.declared.face.GlobeFetched.{GlobeFetched}
use Rattle.globe_c.specs.declared.face.GlobeCounts.{GlobeCounts}
use Rattle.globe_c.specs.declared.face.GlobeOriented.{GlobeOriented}
use Rattle.rotation.specs.declared.matrix.Orientation.{Orientation}
use Rattle.rotation.specs.declared.table.Axes.{Axes}
use Rattle.globe_c.specs.declared.face.GlobeAxes.{GlobeAxes}

-- a line, a column or a count in 32 bits; that nothing is lost is `LosesNothing`
abbrev pub narrow : ℕ → ℕ
narrow n = n % 4294967296

abbrev pub reply_face : Reply → GlobeReply
reply_face r = record { number = reply_number r; line = narrow (reply_line r); column = narrow (reply_column r) }

abbrev pub fetched_face : Fetched → GlobeFetched
fetched_face r = record { number = fetched_number r; line = 0; column = 0; count = narrow (fetched_count r) }

abbrev pub counts_face : Counted → GlobeCounts
counts_face r =
    record {
      number = counts_number r;
      line = 0;
      column = 0;
      texts = narrow (counts_texts r);
      statements = narrow (counts_statements r);
      values = narrow (counts_values r);
    }

unfoldable pub oriented_face : Result Orientation Refusal → GlobeOriented
oriented_face (Ok o) =
    record {
      number = SUCCESS;
      line = 0;
      column = 0;
      ra = o.ra;
      dec = o.dec;
      w = o.w;
      m11 = o.m11;
      m12 = o.m12;
      m13 = o.m13;
      m21 = o.m21;
      m22 = o.m22;
      m23 = o.m23;
      m31 = o.m31;
      m32 = o.m32;
      m33 = o.m33;
    }
oriented_face (Err q) =
    record {
      number = number_of q;
      line = 0;
      column = 0;
      ra = nought;
      dec = nought;
      w = nought;
      m11 = nought;
      m12 = nought;
      m13 = nought;
      m21 = nought;
      m22 = nought;
      m23 = nought;
      m31 = nought;
      m32 = nought;
      m33 = nought;
    }

unfoldable pub axes_face : Result Axes Refusal → GlobeAxes
axes_face (Ok x) = record { number = SUCCESS; line = 0; column = 0; a = x.a; b = x.b; c = x.c }
axes_face (Err q) = record { number = number_of q; line = 0; column = 0; a = nought; b = nought; c = nought }

-- the whole contract of a call that changes the pool: its reply and the memory that it leaves
pub record Changes (reply : Reply) (memory : List ℕ) (r : GlobeReply) (after : List ℕ) : Type 0 where
  pub shown : r ≡ reply_face reply
  pub left : after ≡ memory

-- the whole contract of a fetch, of values or of a string's bytes: its reply and the buffer that it leaves
pub record Fetches {A : Type 0} (reply : Fetched) (buffer : List A) (r : GlobeFetched) (after : List A) : Type 0 where
  pub shown : r ≡ fetched_face reply
  pub left : after ≡ buffer
