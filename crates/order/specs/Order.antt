-- "the variables in byte order of names": each name of some statements once, in order. Definitions only.
use Rattle.std.specs.Prelude.{ℕ, Bool, true, false, ◌&&◌, ◌||◌, List, [], ◌∷◌, eqb, ltb, if◌then◌else◌}
use Rattle.plain.specs.Lists.{equal}
use Rattle.statement.specs.Statements.{Statement}

-- byte order: the first byte that differs decides, and a name stands before those that go on after it
unfoldable pub before : List ℕ → List ℕ → Bool
before [] [] = false
before [] (y ∷ ys) = true
before (x ∷ xs) [] = false
before (x ∷ xs) (y ∷ ys) = ltb x y || (eqb x y && before xs ys)

-- a name at its place among names in order, where it is not among them yet
unfoldable pub inserted : List ℕ → List (List ℕ) → List (List ℕ)
unfolding before
inserted n [] = n ∷ []
inserted n (k ∷ ks) = if before n k then n ∷ k ∷ ks else (if equal n k then k ∷ ks else (k ∷ inserted n ks))

-- the names of statements
unfoldable pub names : List Statement → List (List ℕ)
unfolding inserted
names [] = []
names (s ∷ ss) = inserted s.name (names ss)
