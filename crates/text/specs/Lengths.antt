-- "A data line may have 132 bytes; a line of a text section may have any length. The delimiter lines count as data lines." (document 02,
-- K1.) Definitions only.
use Rattle.std.specs.Prelude.{ℕ, Bool, true, false, ◌&&◌, ltb}
use Rattle.statement.specs.declared.values.Reader.{Reader}
use Rattle.statement.specs.declared.values.Reader.TheVariants as R
use Rattle.text.specs.declared.delimiters.Mark.{Mark}
use Rattle.text.specs.declared.delimiters.Mark.TheVariants as M

-- the longest data line
abbrev pub LONGEST_LINE : ℕ
LONGEST_LINE = 132

-- a line of this mark, met by this reader, is a data or delimiter line
abbrev pub counts_as_data : Mark → Reader → Bool
counts_as_data M.Data r = true
counts_as_data M.Text r = true
counts_as_data M.Plain R.Text = false
counts_as_data M.Plain R.Data = true
counts_as_data M.Plain (R.List k) = true

-- "a data or delimiter line over 132"
abbrev pub too_long : Mark → Reader → (long : ℕ) → Bool
too_long m r long = ltb LONGEST_LINE long && counts_as_data m r
