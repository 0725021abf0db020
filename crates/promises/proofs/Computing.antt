-- Names for what a case computes with: to unfold one is to unfold all that it unfolds. Assumes nothing.
use Prim.Native.Nat.{ℕ}
use mathlib.Core.List.{List}
use lib.Ieee.{Float, round, to_bits, of_bits, of_int, add, sub, mul, div, rem, neg, lt, le, eq}
use Rattle.std.specs.Prelude.{Result}
use Rattle.plain.specs.Doubles.{printed}
use Rattle.plain.specs.Lists.{equal}
use Rattle.plain.specs.Runs.{past}
use Rattle.angle.specs.Wrap.{wrapped, kept}
use Rattle.angle.specs.Series.{closing}
use Rattle.angle.specs.Sine.{sine_cosine, of_wrapped, core}
use Rattle.rotation.specs.declared.matrix.Orientation.{Orientation}
use Rattle.rotation.specs.Epochs.{days, centuries, in_reach}
use Rattle.rotation.specs.Elements.{nested, nutated, nutated_all}
use Rattle.rotation.specs.Matrix.{oriented}
use Rattle.rotation.specs.Evaluation.{evaluated}
use Rattle.rotation.specs.Codes.{system_of}
use Rattle.rotation.specs.Table.{row_of}
use Rattle.rotation.specs.Builtin.{row_evaluated, builtin_orientation}
use Rattle.decimal.specs.Form.{written}
use Rattle.decimal.specs.Class.{reading}
use Rattle.text.specs.Lines.{lines}
use Rattle.text.specs.Delimiters.{mark_of}
use Rattle.value.specs.Strings.{scanned, string_at}
use Rattle.value.specs.Value.{number_at, value_at}
use Rattle.statement.specs.Values.{list_value, item, items_up_to, rest, listed, given_at}
use Rattle.statement.specs.Head.{head}
use Rattle.text.specs.Line.{answered}
use Rattle.text.specs.Text.{Read, read_from, read_text}
use Rattle.layout.specs.State.{Pool, program, flat}
use Rattle.layout.specs.Limits.{room}
use Rattle.variables.specs.Variables.{any, since, variable, present, all_numbers, all_strings}
use Rattle.pool.specs.Replies.{Reply}
use Rattle.pool.specs.Held.{held}
use Rattle.loading.specs.Load.{text_of, load_answer}
use Rattle.refusal.specs.declared.Refusal.{Refusal}
use Rattle.pool.specs.Remove.{without}

-- doubles: printed, read from digits, compared, and the operations rounded once
unfoldable pub computing : Float → Float
unfolding printed round to_bits of_bits of_int add sub mul div rem neg lt le eq
computing x = x

-- the reading of a value and of a text
unfoldable pub reading-text : List ℕ → Read
unfolding computing written reading past lines mark_of scanned string_at number_at value_at list_value item items_up_to rest listed given_at head answered read_from read_text
reading-text bytes = read_text bytes

-- a load into a pool, and its variables
unfoldable pub loading : ℕ → List ℕ → Pool → Reply
unfolding reading-text program flat room held text_of load_answer equal any since variable present all_numbers all_strings without
loading label bytes s = load_answer label bytes s

-- an evaluation, and the built-in table
unfoldable pub evaluating : ℕ → Float → Result Orientation Refusal
unfolding computing wrapped kept closing core of_wrapped sine_cosine days centuries in_reach nested nutated nutated_all oriented evaluated system_of row_of row_evaluated builtin_orientation
evaluating n epoch = builtin_orientation n epoch
