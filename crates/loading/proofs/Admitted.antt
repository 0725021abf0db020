-- What an admitted text adds can be held: its names are legal, every statement has a value, the numbers are finite and below 2^200 in
-- size, and the strings are short and of fair bytes. Assumes nothing.
use Prim.Native.Nat.{ℕ, ◌+◌, ◌*◌, ◌%◌, ◌^◌, ◌<◌}
use native.Mathlib.Omega.{arith}
use mathlib.Core.Path.{◌≡◌}
use mathlib.Core.Bool.{true}
use mathlib.Core.List.{List}
use borrow.Author.Tests.{lt-ltb}
use lib.Ieee.{Float, binary64, to_bits}
use Rattle.decimal.specs.Class.{reading}
use Rattle.decimal.specs.declared.Reading.TheVariants.{Number}
use Rattle.decimal.proofs.Bounded.{reading-bits}
use Rattle.value.specs.Classes.{name_byte}
use Rattle.statement.specs.Statements.{Event, Values, numbers, strings, Statement, statements}
use Rattle.statement.proofs.OneKind.{LegalString, LegalValues}
use Rattle.text.specs.Text.{fine, read_text}
use Rattle.text.proofs.Legal.{all-legal}
use Rattle.text.proofs.Legal as T
use Rattle.plain.proofs.Each.{Each, each_weaken}
use Rattle.words.proofs.Each.{each_all}
use Rattle.names.specs.Names.{legal}
use Rattle.layout.specs.Damage.{BIAS, exponent_field, small}
use Rattle.layout.proofs.Legal.{FairString, FairValues, Fair}

-- a value whose exponent's field is that of a size below 2^200
abbrev pub Small : ℕ → Type 0
Small w = small w ≡ true

small-field : (w : ℕ) → w % 2 ^ 63 < 2 ^ 52 * (1023 + 200) → exponent_field w < BIAS + 200
small-field w h = omega arith

pub read_small : (bs : List ℕ) (x : Float) → reading bs ≡ Number x → Small (to_bits binary64 x)
read_small bs x e = lt-ltb (exponent_field (to_bits binary64 x)) (BIAS + 200) (small-field (to_bits binary64 x) (reading-bits bs x e))

pub fair-values : (v : Values) → LegalValues Small v → FairValues v
fair-values (numbers bits) l = l
fair-values (strings ss) l = each_weaken LegalString FairString (λ s f. record { short = f.short; fair = f.bytes }) ss l

pub fair : (s : Statement) → T.Legal Small s → Fair s
unfolding legal
fair s l = record { name = rw (l.named.sized, each_all name_byte s.name l.named.bytes); some = l.filled; values = fair-values s.values l.values }

-- every statement of an admitted text can be held
pub text-fair : (bytes : List ℕ) (es : List Event) → read_text bytes ≡ fine es → Each Fair (statements es)
text-fair bytes es e = each_weaken (T.Legal Small) Fair fair (statements es) (all-legal Small read_small bytes es e)
