-- No listing is longer than the room for it. Assumes nothing.
use mathlib.Core.Path.{◌≡◌, refl, ap, ◌∙◌}
use mathlib.Core.List.{List, [], ◌∷◌, ◌++◌, map}
use Prim.Native.Nat.{ℕ, ◌+◌, ◌*◌, ◌≤◌}
use native.Mathlib.Omega.{arith}
use lib.ListN.{length, length-append, length-map}
use Rattle.plain.specs.Bytes.{LF, SPACE}
use Rattle.plain.proofs.Each.{Each, each_weaken}
use Rattle.value.specs.Strings.{quoted}
use Rattle.statement.specs.Head.{NAME}
use Rattle.statement.specs.Statements.{Values, numbers, strings, Statement}
use Rattle.names.proofs.Names.{legible-of}
use Rattle.layout.specs.State as State
use Rattle.layout.specs.State.{Pool, program, flat, words_of, spelled}
use Rattle.layout.specs.Memory.{decode}
use Rattle.layout.proofs.Sound.{Sound}
use Rattle.layout.proofs.Legal.{Fair}
use Rattle.layout.proofs.Holds.{decode-legal, decode-fits}
use Rattle.variables.specs.Variables.{number, string, each, variable}
use Rattle.pen.specs.Figures.{decimal, bits}
use Rattle.pen.specs.Pen.{phrase, entry}
use Rattle.pen.proofs.Lengths.{length-decimal_up_to, length-entry, length_digits, length-quoted}
use Rattle.order.proofs.Rising.{each-names, length-names}
use Rattle.shown.specs.Shown.{VARIABLES, VALUES, names_in, values_of, counts, value_line, value_lines, shown}
use Rattle.shown.proofs.Together.{own, lines_none, lines-append, together-few}
use Rattle.listing.specs.Listing.{REFUSED, LINE, COLUMN, position, refusal_line}
use Rattle.listing.specs.Lists.{SIZE}

-- ---- the lines of values: seventeen bytes a line, and two more for each byte of a string

length-numbers : (ws : List ℕ) → length (value_lines (map number ws)) ≡ 17 * length ws
unfolding value_lines flat
length-numbers [] = refl
length-numbers (w ∷ ws) =
    omega
    (arith, length-append (value_line (number w)) (flat value_line (map number ws)), length-append (bits w) (LF ∷ []), length_digits 16 w, length-numbers ws)

length-strings : (ss : List (List ℕ)) → length (value_lines (map string ss)) ≤ 17 * length ss + 2 * length (flat (λ s. s) ss)
unfolding value_lines flat
length-strings [] = omega arith
length-strings (s ∷ ss) =
    omega (
      arith,
      length-append (value_line (string s)) (flat value_line (map string ss)),
      length-append (quoted s) (LF ∷ []),
      length-quoted s,
      length-append s (flat (λ s. s) ss),
      length-strings ss,
    )

length-values : (v : Values) → length (value_lines (each v)) ≤ 17 * length (words_of v) + 2 * length (spelled v)
length-values (numbers ws) = omega (arith, length-numbers ws)
length-values (strings ss) = omega (arith, length-strings ss, length-map ss length)

length-own : (ss : List Statement) → length (value_lines (flat own ss)) ≤ 17 * length (flat State.values_of ss) + 2 * length (flat State.bytes_of ss)
unfolding flat
length-own [] = omega (arith, ap length lines_none)
length-own (s ∷ ss) =
    omega (
      arith,
      ap length (lines-append (own s) (flat own ss)),
      length-append (value_lines (own s)) (value_lines (flat own ss)),
      length-append (State.values_of s) (flat State.values_of ss),
      length-append (State.bytes_of s) (flat State.bytes_of ss),
      length-values s.values,
      length-own ss,
    )

length-value_lines : (s : Pool) → length (value_lines (values_of s (names_in s))) ≤ 17 * length (State.values s) + 2 * length (State.string_bytes s)
length-value_lines s =
    let e = together-few (λ vs. length (value_lines vs)) (ap length lines_none) (λ xs ys. ap length (lines-append xs ys) ∙ length-append (value_lines xs) (value_lines ys)) s in
    omega (arith, e, length-own (program s))

-- ---- the lines of variables

length-counts : (s : Pool) (ns : List (List ℕ)) → Each (λ n. length n ≤ NAME) ns → length (counts s ns) ≤ 54 * length ns
unfolding counts flat
length-counts s [] f = omega arith
length-counts s (n ∷ ns) f =
    let e = length-append (entry n (length (variable n s))) (flat (λ n. entry n (length (variable n s))) ns) in
    let l = length-entry n (length (variable n s)) in
    let r = length-counts s ns f.1 in
    let k = f.0 in
    omega arith

-- ---- the whole

pub shown-fits : (m : List ℕ) → Sound m → length (shown (decode m)) ≤ SIZE
unfolding shown
shown-fits m S =
    let s = decode m in
    let ns = names_in s in
    let vs = values_of s ns in
    let names : Each (λ n. length n ≤ NAME) ns =
    each-names (λ n. length n ≤ NAME) (program s) (each_weaken Fair (λ x. length x.name ≤ NAME) (λ x f. (legible-of x.name f.name).few) (program s) (decode-legal m S).statements) in
    let a = length-append (entry VARIABLES (length ns)) (counts s ns ++ (entry VALUES (length vs) ++ value_lines vs)) in
    let b = length-append (counts s ns) (entry VALUES (length vs) ++ value_lines vs) in
    let c = length-append (entry VALUES (length vs)) (value_lines vs) in
    let d = length-entry VARIABLES (length ns) in
    let e = length-entry VALUES (length vs) in
    let f = length-counts s ns names in
    let g = length-value_lines s in
    let h = length-names (program s) in
    let j = decode-fits m S in
    omega (arith, a, b, c, d, e, f, g, h, j.statements, j.values, j.bytes)

pub refusal-fits : (n line column : ℕ) → length (refusal_line n line column) ≤ SIZE
refusal-fits n line column =
    omega (
      arith,
      length-append (phrase REFUSED n) (SPACE ∷ position line column),
      length-append REFUSED (SPACE ∷ decimal n),
      length-decimal_up_to 20 n,
      length-append (phrase LINE line) (SPACE ∷ entry COLUMN column),
      length-append LINE (SPACE ∷ decimal line),
      length-decimal_up_to 20 line,
      length-entry COLUMN column,
    )
