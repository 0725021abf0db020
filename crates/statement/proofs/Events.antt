-- How many statements, values and bytes events have: those of their parts together. Assumes nothing.
use Prim.Native.Nat.{◌+◌}
use native.Mathlib.Nat.{zero-add, add_assoc}
use native.Mathlib.Omega.{arith}
use mathlib.Core.Path.{◌≡◌, refl, sym}
use mathlib.Core.List.{List, [], ◌∷◌, ◌++◌, map}
use lib.ListN.{length}
use Rattle.value.specs.Value.{Value, bytes_in}
use Rattle.statement.specs.Statements.{Event, opened, value, openings, givings, bytes_given}
use Rattle.statement.specs.Values.{bytes_in_all}

pub openings-append : (es fs : List Event) → openings (es ++ fs) ≡ openings es + openings fs
openings-append [] fs = sym (zero-add (openings fs))
openings-append (opened n o ∷ es) fs = rw (openings-append es fs) (omega arith)
openings-append (value v ∷ es) fs = openings-append es fs

pub givings-append : (es fs : List Event) → givings (es ++ fs) ≡ givings es + givings fs
givings-append [] fs = sym (zero-add (givings fs))
givings-append (opened n o ∷ es) fs = givings-append es fs
givings-append (value v ∷ es) fs = rw (givings-append es fs) (omega arith)

pub bytes_given-append : (es fs : List Event) → bytes_given (es ++ fs) ≡ bytes_given es + bytes_given fs
bytes_given-append [] fs = sym (zero-add (bytes_given fs))
bytes_given-append (opened n o ∷ es) fs = bytes_given-append es fs
bytes_given-append (value v ∷ es) fs = rw (bytes_given-append es fs) (sym (add_assoc (bytes_in v) (bytes_given es) (bytes_given fs)))

pub openings-values : (vs : List Value) → openings (map value vs) ≡ 0
openings-values [] = refl
openings-values (v ∷ vs) = openings-values vs

pub givings-values : (vs : List Value) → givings (map value vs) ≡ length vs
givings-values [] = refl
givings-values (v ∷ vs) = rw (givings-values vs) (omega arith)

pub bytes_given-values : (vs : List Value) → bytes_given (map value vs) ≡ bytes_in_all vs
bytes_given-values [] = refl
bytes_given-values (v ∷ vs) = rw (bytes_given-values vs)
