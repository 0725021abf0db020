-- A held label: where its text stands, in the state and in the texts' words, and the state without it. Assumes nothing.
use mathlib.Core.Path.{◌≡◌, refl, sym, ap}
use mathlib.Core.Bool.{Bool, true, false}
use mathlib.Core.List.{[], ◌∷◌, ◌++◌, map}
use Prim.Native.Nat.{ℕ, suc}
use lib.Dec.{eqb}
use lib.ListN.{length}
use Rattle.std.specs.Prelude.{if◌then◌else◌}
use Rattle.words.specs.Halves.{place}
use Rattle.plain.proofs.Tests.{true-false}
use Rattle.plain.proofs.Each.{Each}
use Rattle.words.proofs.Halves.{upper-joined}
use Rattle.layout.specs.State.{Text, Pool}
use Rattle.layout.specs.Memory.{text_word}
use Rattle.layout.proofs.Codec.{ShortText}
use Rattle.pool.specs.Held.{held}
use Rattle.pool.specs.Remove.{without}

-- the state around the text under a label
pub record Parted (label : ℕ) (s : Pool) : Type 0 where
  pub before : Pool
  pub text : Text
  pub after : Pool
  pub all : s ≡ before ++ (text ∷ after)
  pub rest : without label s ≡ before ++ after
  pub here : place label (map text_word s) ≡ length before

-- the first text is it
first : (l : ℕ) (t : Text) (s : Pool) → eqb t.label l ≡ true → ShortText t → Parted l (t ∷ s)
unfolding without place
first l t s e h = record {
  before = [];
  text = t;
  after = s;
  all = refl;
  rest = rw e;
  here = rw (upper-joined t.label (length t.body) h, e);
}

-- a text more in front, under another label
further : (l : ℕ) (t : Text) (s : Pool) → eqb t.label l ≡ false → ShortText t → Parted l s → Parted l (t ∷ s)
unfolding without place
further l t s e h P = record {
  before = t ∷ P.before;
  text = P.text;
  after = P.after;
  all = ap (λ (r : Pool). t ∷ r) P.all;
  rest = rw e (ap (λ (r : Pool). t ∷ r) P.rest);
  here = rw (upper-joined t.label (length t.body) h, e) (ap suc P.here);
}

pub parted : (l : ℕ) (s : Pool) → Each ShortText s → held l s ≡ true → Parted l s
unfolding held
parted l [] f e = true-false (sym e)
parted l (t ∷ s) f e = by (eqb t.label l) refl e (λ h. parted l s f.1 h)
  where
    by : (b : Bool) → eqb t.label l ≡ b → (if b then true else held l s) ≡ true → (held l s ≡ true → Parted l s) → Parted l (t ∷ s)
    by true g h r = first l t s g f.0
    by false g h r = further l t s g f.0 (r h)
