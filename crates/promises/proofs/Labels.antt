-- Labels that are apart stay apart when a text is left out, or put last under a label that is not held. Assumes nothing.
use Prim.Native.Nat.{ℕ}
use mathlib.Core.Path.{◌≡◌, refl, sym}
use mathlib.Core.Bool.{Bool, true, false}
use mathlib.Core.List.{[], ◌∷◌, ◌++◌}
use borrow.Author.Tests.{ne_eqb, eqb-false}
use lib.Dec.{eqb}
use Rattle.std.specs.Prelude.{if◌then◌else◌}
use Rattle.plain.proofs.Tests.{true-false}
use Rattle.layout.specs.State.{Text, Pool}
use Rattle.pool.specs.Held.{held}
use Rattle.loading.specs.Load.{with}
use Rattle.pool.specs.Remove.{without}

-- no label is held twice
abbrev pub Apart : Pool → Type 0
Apart [] = Unit {0}
Apart (t ∷ ts) = (held t.label ts ≡ false) × Apart ts

-- neither of two tests holds
pub neither : (a b : Bool) → (if a then true else b) ≡ false → (a ≡ false) × (b ≡ false)
neither true b e = true-false e
neither false b e = (refl, e)

other : (l k : ℕ) → eqb l k ≡ false → eqb k l ≡ false
other l k e = ne_eqb k l (λ q. eqb-false l k e (sym q))

-- ---- a text put last

held-front : (label : ℕ) (s r : Pool) → held label (s ++ r) ≡ false → held label s ≡ false
unfolding held
held-front label [] r e = refl
held-front label (t ∷ s) r e = let p = neither (eqb t.label label) (held label (s ++ r)) e in rw p.0 (held-front label s r p.1)

held_back : (label : ℕ) (s r : Pool) → held label (s ++ r) ≡ false → held label r ≡ false
unfolding held
held_back label [] r e = e
held_back label (t ∷ s) r e = held_back label s r (neither (eqb t.label label) (held label (s ++ r)) e).1

held_with : (label : ℕ) (s : Pool) (t : Text) → held label s ≡ false → eqb t.label label ≡ false → held label (with s t) ≡ false
unfolding held
held_with label [] t e f = rw f
held_with label (x ∷ s) t e f = let p = neither (eqb x.label label) (held label s) e in rw p.0 (held_with label s t p.1 f)

pub apart-with : (s : Pool) (t : Text) → Apart s → held t.label s ≡ false → Apart (with s t)
unfolding held
apart-with [] t a e = (refl, tt)
apart-with (x ∷ s) t a e =
    let p = neither (eqb x.label t.label) (held t.label s) e in
    (held_with x.label s t a.0 (other x.label t.label p.0), apart-with s t a.1 p.1)

-- what stands before a text does not hold its label
pub held-before : (s : Pool) (t : Text) (r : Pool) → Apart (s ++ (t ∷ r)) → held t.label s ≡ false
unfolding held
held-before [] t r a = refl
held-before (x ∷ s) t r a =
    let p = neither (eqb t.label x.label) (held x.label r) (held_back x.label s (t ∷ r) a.0) in
    rw (other t.label x.label p.0) (held-before s t r a.1)

-- ---- a text left out

held-without : (l label : ℕ) (s : Pool) → held l s ≡ false → held l (without label s) ≡ false
unfolding held without
held-without l label [] e = refl
held-without l label (t ∷ s) e =
    let p = neither (eqb t.label l) (held l s) e in
    by (eqb t.label label) p.0 p.1 (held-without l label s p.1)
  where
    by : (b : Bool) → eqb t.label l ≡ false → held l s ≡ false → held l (without label s) ≡ false → held l (if b then s else (t ∷ without label s)) ≡ false
    by true p q r = q
    by false p q r = rw p r

pub apart-without : (label : ℕ) (s : Pool) → Apart s → Apart (without label s)
unfolding without
apart-without label [] a = tt
apart-without label (t ∷ s) a = by (eqb t.label label) (apart-without label s a.1)
  where
    by : (b : Bool) → Apart (without label s) → Apart (if b then s else (t ∷ without label s))
    by true r = a.1
    by false r = (held-without t.label label s a.0, r)
