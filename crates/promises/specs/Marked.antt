-- "Marked cases, proved about the definitions as a single table under one claim". Definitions only; the claim is proved in
-- proofs/Marked.antt.
use Rattle.std.specs.Prelude.{ℕ, ◌+◌, ◌≡◌, Bool, true, false, ◌&&◌, not, List, [], ◌∷◌, map, eqb, Float, length, if◌then◌else◌, Result, Ok, Err}
use Rattle.std.specs.Float.{binary64}
use Rattle.std.specs.Float.Ieee.{to_bits, of_bits, neg}
use Rattle.plain.specs.Ascii.{ascii}
use Rattle.plain.specs.Doubles.{printed, nought, one}
use Rattle.plain.specs.Lists.{equal}
use Rattle.refusal.specs.declared.Refusal.{Refusal}
use Rattle.refusal.specs.Numbers.{number_of}
use Rattle.angle.specs.Wrap.{wrapped}
use Rattle.rotation.specs.declared.matrix.Orientation.{Orientation}
use Rattle.rotation.specs.declared.table.Axes.{Axes}
use Rattle.rotation.specs.Builtin.{builtin_orientation, builtin_radii}
use Rattle.decimal.specs.Class.{reading}
use Rattle.decimal.specs.declared.Reading.{Reading}
use Rattle.decimal.specs.declared.Reading.TheVariants as D
use Rattle.layout.specs.State.{Pool}
use Rattle.layout.specs.Damage.{sound}
use Rattle.pool.specs.Replies.{reply_column, reply_number, reply_line, done}
use Rattle.variables.specs.Variables.{variable, all_numbers}
use Rattle.variables.specs.Found.{doubles}
use Rattle.loading.specs.Load.{text_of, with, load_answer}
use Rattle.pool.specs.Remove.{without, remove_answer}
use Rattle.globe.specs.Orientation.{orientation_from, orientation_reply}
use Rattle.globe.specs.Radii.{radii_reply}
use Rattle.globe.specs.declared.source.Source.TheVariants as S
use Rattle.promises.specs.Ascii.{in_data}

-- ---- words of the table

abbrev pub bits : Float → ℕ
bits x = to_bits binary64 x

-- x and y are the same double, the sign of a zero included
abbrev pub same : (x y : Float) → Bool
same x y = eqb (bits x) (bits y)

-- the next double above a positive one
abbrev pub next : Float → Float
next x = of_bits binary64 (bits x + 1)

-- a value's bytes are read, as a double of these bits
abbrev pub has_bits : ℕ → Reading → Bool
has_bits n (D.Number x) = eqb (bits x) n
has_bits n (D.BadForm q) = false
has_bits n (D.OutsideClass q) = false

-- an empty pool answers the load of a text so: the number, the line and the column
abbrev pub answers : (number line column : ℕ) (bytes : List ℕ) → Bool
answers number line column bytes =
    let r = load_answer 1 bytes [] in
    eqb (reply_number r) number && eqb (reply_line r) line && eqb (reply_column r) column

abbrev pub accepts : List ℕ → Bool
accepts bytes = answers 0 0 0 bytes

-- so many statements
abbrev pub adds : ℕ → List ℕ → Bool
adds n bytes = eqb (length (text_of 1 bytes).body) n

-- a pool after the load of a text that is accepted
abbrev pub loaded : (label : ℕ) → List ℕ → Pool → Pool
loaded label bytes s = if done (load_answer label bytes s) then with s (text_of label bytes) else s

-- the variable X of a pool has these values
abbrev pub x_is : List Float → Pool → Bool
x_is xs s = all_numbers (variable (ascii "X") s) && equal (map bits (doubles (ascii "X") s)) (map bits xs)

abbrev pub two : Float
two = printed 2 0

abbrev pub given : Result Orientation Refusal → Bool
given (Ok o) = true
given (Err q) = false

abbrev pub refused_with : ℕ → Result Orientation Refusal → Bool
refused_with n (Ok o) = false
refused_with n (Err q) = eqb n (number_of q)

abbrev pub radii_refused_with : ℕ → Result Axes Refusal → Bool
radii_refused_with n (Ok x) = false
radii_refused_with n (Err q) = eqb n (number_of q)

-- pole, meridian and the matrix's third row
abbrev pub shows : (ra dec w m31 m32 m33 : Float) → Result Orientation Refusal → Bool
shows ra dec w m31 m32 m33 (Ok o) =
    same o.ra ra && same o.dec dec && same o.w w && same o.m31 m31 && same o.m32 m32 && same o.m33 m33
shows ra dec w m31 m32 m33 (Err q) = false

-- ---- the table

-- a case's number in document 01, and what it says
pub record Case : Type 0 where
  pub number : ℕ
  pub says : Bool

abbrev pub case : ℕ → Bool → Case
case n b = record { number = n; says = b }

-- 1. Empty text: accepted, no statements.
abbrev pub empty : Bool
empty = accepts [] && adds 0 []

-- 2. `X = 1` before any delimiter: no statement.
abbrev pub undelimited : Bool
undelimited = accepts (ascii "X = 1") && adds 0 (ascii "X = 1")

-- 3. `270.000` has bits 4070E00000000000.
abbrev pub three_places : Bool
three_places = has_bits 0x4070E00000000000 (reading (ascii "270.000"))

-- 4. 9007199254740992 accepted; by document 02's K4 …993 too, which rounds to …992, and so on up to 19 digits; 20 digits refused 6.
abbrev pub largest : Bool
largest =
    accepts (in_data "X = 9007199254740992") && accepts (in_data "X = 9007199254740993")
    && has_bits 0x4340000000000000 (reading (ascii "9007199254740992")) && has_bits 0x4340000000000000 (reading (ascii "9007199254740993"))
    && accepts (in_data "X = 9999999999999999999") && answers 6 2 5 (in_data "X = 10000000000000000000")

-- 5. `1E22` and `1.0E23` accepted, `1E23` refused 6.
abbrev pub steepest : Bool
steepest = accepts (in_data "X = 1E22") && accepts (in_data "X = 1.0E23") && answers 6 2 5 (in_data "X = 1E23")

-- 6. `X = 1` then `X += 2` gives 1, 2; `X += 2` then `X = 1` gives 1: in one text, and in two.
abbrev pub appending : Bool
appending =
    x_is (one ∷ two ∷ []) (loaded 7 (in_data "X = 1\nX += 2") []) && x_is (one ∷ []) (loaded 7 (in_data "X += 2\nX = 1") [])
    && x_is (one ∷ two ∷ []) (loaded 8 (in_data "X += 2") (loaded 7 (in_data "X = 1") []))
    && x_is (one ∷ []) (loaded 8 (in_data "X = 1") (loaded 7 (in_data "X += 2") []))

-- 7. Label 7 `X = 1`, label 8 `X = 2`, remove 8: X is 1. All three are accepted, and X is 2 before the removal.
abbrev pub seven : Pool
seven = loaded 7 (in_data "X = 1") []

abbrev pub eight : Pool
eight = loaded 8 (in_data "X = 2") seven

abbrev pub undone : Bool
undone =
    done (load_answer 7 (in_data "X = 1") []) && done (load_answer 8 (in_data "X = 2") seven) && x_is (two ∷ []) eight
    && done (remove_answer 8 eight) && x_is (one ∷ []) (without 8 eight)

-- 8. Wrap of −90 is 270; of −0, 360 and −1E−20 is +0.
abbrev pub wraps : Bool
wraps =
    same (wrapped (neg (printed 90 0))) (printed 270 0) && same (wrapped (neg nought)) nought
    && same (wrapped (printed 360 0)) nought && same (wrapped (neg (printed 1 20))) nought

-- 9. Built-in 399 at 0: RA +0, DEC 90, W 190.147; third row −0, −0, 1.
abbrev pub earth : Bool
earth = shows nought (printed 90 0) (printed 190147 3) (neg nought) (neg nought) (printed 1 0) (builtin_orientation 399 nought)

-- 10. 157788000000 accepted, the next double refused 9: by the built-in source, and by a pool.
abbrev pub farthest : Float
farthest = printed 157788000000 0

abbrev pub mars : Pool
mars = loaded 7 (in_data "BODY499_POLE_RA = 317.68143\nBODY499_POLE_DEC = 52.8865\nBODY499_PM = 176.63") []

abbrev pub epochs : Bool
epochs =
    given (builtin_orientation 399 farthest) && refused_with 9 (builtin_orientation 399 (next farthest))
    && given (orientation_from mars 499 farthest) && refused_with 9 (orientation_from mars 499 (next farthest))

-- 11. Code 11 refused 10 by the built-in source, also beside a damaged pool: a memory of no words.
abbrev pub eleven : Bool
eleven =
    refused_with 10 (builtin_orientation 11 nought) && radii_refused_with 10 (builtin_radii 11) && not (sound [])
    && refused_with 10 (orientation_reply S.Builtin [] 11 nought) && radii_refused_with 10 (radii_reply S.Builtin [] 11)

-- 12. `X = ( )` refused 20 (5 before K3), at the `)`.
abbrev pub no_value : Bool
no_value = answers 20 2 7 (in_data "X = ( )")

abbrev pub table : List Case
table =
    case 1 empty ∷ case 2 undelimited ∷ case 3 three_places ∷ case 4 largest ∷ case 5 steepest ∷ case 6 appending ∷ case 7 undone
    ∷ case 8 wraps ∷ case 9 earth ∷ case 10 epochs ∷ case 11 eleven ∷ case 12 no_value ∷ []

-- ---- the claim: every case of the table is so

abbrev pub AllSo : List Case → Type 0
AllSo [] = Unit {0}
AllSo (c ∷ cs) = (c.says ≡ true) × AllSo cs

abbrev pub Marked : Type 0
Marked = AllSo table
