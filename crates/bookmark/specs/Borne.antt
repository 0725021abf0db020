-- A reader in a list, read from memory, is believed as far as the statement stored last bears it out: with none stored it is in a data section; else
-- it is in a list of that statement's kind, which has no value yet only where the statement holds the one number +0 in a value's place. So every
-- memory has a meaning. Definitions only.
use Rattle.std.specs.Prelude.{Bool, true, false}
use Rattle.statement.specs.declared.values.Kind.{Kind}
use Rattle.statement.specs.declared.values.Kind.TheVariants as K
use Rattle.statement.specs.declared.values.Reader.{Reader}
use Rattle.statement.specs.declared.values.Reader.TheVariants as R

-- the last statement has strings or numbers; `placeholder` is whether it holds one number, which is +0
abbrev pub list_of : (strings placeholder : Bool) → Kind → Kind
list_of true placeholder k = K.Strings
list_of false false k = K.Numbers
list_of false true K.Empty = K.Empty
list_of false true K.Numbers = K.Numbers
list_of false true K.Strings = K.Numbers

-- `stored` is whether a statement is
abbrev pub settled_list : (stored strings placeholder : Bool) → Kind → Reader
settled_list true strings placeholder k = R.List (list_of strings placeholder k)
settled_list false strings placeholder k = R.Data

abbrev pub settled_reader : (stored strings placeholder : Bool) → Reader → Reader
settled_reader stored strings placeholder R.Text = R.Text
settled_reader stored strings placeholder R.Data = R.Data
settled_reader stored strings placeholder (R.List k) = settled_list stored strings placeholder k
