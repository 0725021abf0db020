-- "Sine and cosine of x degrees: wrap x, then take y; each pair is (sine, cosine)." Definitions only.
use Rattle.std.specs.Prelude.{Float, if◌then◌else◌}
use Rattle.std.specs.Float.Ieee.{lt, neg}
use Rattle.plain.specs.Doubles.{◌⊖◌, ◌⊗◌, printed, one}
use Rattle.angle.specs.Wrap.{wrapped, turn}
use Rattle.angle.specs.Series.{closing, sine_divisors, cosine_divisors}
use Rattle.angle.specs.declared.sine.SineCosine.{SineCosine}

-- "t = y · 0.017453292519943295"
abbrev pub radians : Float → Float
radians y = y ⊗ printed 17453292519943295 18

-- "z = t·t .. S = t·q .. C = q": the pair (S, C) of y
unfoldable pub core : Float → SineCosine
unfolding closing
core y =
    let t = radians y in
    let z = t ⊗ t in
    record { 0 = t ⊗ closing z one sine_divisors; 1 = closing z one cosine_divisors }

-- (C, −S), (−S, −C) and (−C, S) of a pair (S, C)
abbrev pub quarter : SineCosine → SineCosine
quarter p = record { 0 = p.1; 1 = neg p.0 }

abbrev pub half : SineCosine → SineCosine
half p = record { 0 = neg p.0; 1 = neg p.1 }

abbrev pub three_quarters : SineCosine → SineCosine
three_quarters p = record { 0 = neg p.1; 1 = p.0 }

-- "Below 45: y = x, (S, C). Below 135: y = x − 90, (C, −S). Below 225: x − 180, (−S, −C). Below 315: x − 270, (−C, S).
-- Else x − 360, (S, C)."
unfoldable pub of_wrapped : Float → SineCosine
unfolding core
of_wrapped x =
    if lt x (printed 45 0) then core x
    else (if lt x (printed 135 0) then quarter (core (x ⊖ printed 90 0))
    else (if lt x (printed 225 0) then half (core (x ⊖ printed 180 0))
    else (if lt x (printed 315 0) then three_quarters (core (x ⊖ printed 270 0))
    else core (x ⊖ turn))))

unfoldable pub sine_cosine : Float → SineCosine
unfolding wrapped of_wrapped
sine_cosine x = of_wrapped (wrapped x)
