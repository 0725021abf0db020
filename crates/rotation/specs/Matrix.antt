-- "Matrix, inertial to body, rows .. Here a is RA, d declination, w meridian. Pole, meridian and matrix come back as one record of
-- doubles." Definitions only.
use Rattle.std.specs.Prelude.{Float}
use Rattle.std.specs.Float.Ieee.{neg}
use Rattle.plain.specs.Doubles.{◌⊖◌, ◌⊗◌}
use Rattle.angle.specs.Wrap.{wrapped}
use Rattle.angle.specs.Sine.{sine_cosine}
use Rattle.rotation.specs.declared.matrix.Orientation.{Orientation}

abbrev pub rows : (ra dec w sa ca sd cd sw cw : Float) → Orientation
rows ra dec w sa ca sd cd sw cw =
    record {
      ra = ra;
      dec = dec;
      w = w;
      m11 = neg (cw ⊗ sa) ⊖ sw ⊗ sd ⊗ ca;
      m12 = cw ⊗ ca ⊖ sw ⊗ sd ⊗ sa;
      m13 = sw ⊗ cd;
      m21 = sw ⊗ sa ⊖ cw ⊗ sd ⊗ ca;
      m22 = neg (sw ⊗ ca) ⊖ cw ⊗ sd ⊗ sa;
      m23 = cw ⊗ cd;
      m31 = cd ⊗ ca;
      m32 = cd ⊗ sa;
      m33 = sd;
    }

-- "RA and W are answered wrapped, DEC as it stands."
unfoldable pub oriented : (ra dec w : Float) → Orientation
oriented ra dec w =
    let a = sine_cosine (wrapped ra) in
    let d = sine_cosine dec in
    let m = sine_cosine (wrapped w) in
    rows (wrapped ra) dec (wrapped w) a.0 a.1 d.0 d.1 m.0 m.1
