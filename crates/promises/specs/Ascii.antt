-- Texts of the marked cases, written as quoted lines. Definitions only.
use Rattle.std.specs.Prelude.{ℕ, List, ◌++◌}
use Prim.Native.String.{String}
use Rattle.plain.specs.Ascii.{ascii}

-- a text whose lines stand in a data section
abbrev pub in_data : String → List ℕ
in_data lines = ascii "\\begindata\n" ++ ascii lines
