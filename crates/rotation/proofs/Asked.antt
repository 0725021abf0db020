-- What the code's `if !asked` says of the definition's test, which the question answers. Assumes nothing.
use mathlib.Core.Path.{◌≡◌, sym, ◌∙◌}
use mathlib.Core.Bool.{Bool, true, false}

pub denied : {asked test : Bool} → asked ≡ test → asked ≡ false → test ≡ false
denied e h = sym e ∙ h

pub granted : {asked test : Bool} → asked ≡ test → asked ≡ true → test ≡ true
granted e h = sym e ∙ h
