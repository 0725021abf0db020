-- A text is held under a label. Definitions only.
use Rattle.std.specs.Prelude.{ℕ, Bool, true, false, [], ◌∷◌, eqb, if◌then◌else◌}
use Rattle.layout.specs.State.{Pool}

unfoldable pub held : ℕ → Pool → Bool
held label [] = false
held label (t ∷ ts) = if eqb t.label label then true else held label ts
