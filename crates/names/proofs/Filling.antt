-- A word's last zero bytes taken away, with a name byte put in front for each: every step is a name byte shifted out, backward.
-- Assumes nothing.
use mathlib.Core.Path.{◌≡◌, refl, sym, ap, ◌∙◌}
use mathlib.Core.Bool.{true}
use mathlib.Core.List.{List, [], ◌∷◌}
use Prim.Native.Nat.{ℕ, zero, suc, ◌+◌, ◌-◌, ◌*◌, ◌/◌, ◌%◌, ◌^◌, ◌≤◌, ◌<◌}
use native.Mathlib.Nat.{mul_assoc, pow-suc}
use native.Mathlib.Omega.{arith}
use lib.Count.{count_trailing_zeros, under}
use Rattle.value.specs.Classes.{name_byte}
use Rattle.words.specs.Halves.{all}
use Rattle.plain.proofs.Tests.{first_then}
use Rattle.words.proofs.Each.{WORD}
use Rattle.octets.specs.Octets.{bytes_of}
use Rattle.octets.proofs.Eight.{eight}
use Rattle.names.proofs.Tapering.{HIGHEST, ends, ends_next}

-- ---- a number is a multiple of 2 to the zeros that it ends with, and to fewer

abbrev Multiple : (n a : ℕ) → Type 0
Multiple n a = (q : ℕ) × (n ≡ q * 2 ^ a)

trailing-multiple : (d n a : ℕ) → a ≤ count_trailing_zeros d n → Multiple n a
unfolding count_trailing_zeros
trailing-multiple d n zero h = (n, omega arith)
trailing-multiple zero n (suc a) h = absurd (omega arith)
trailing-multiple (suc d) n (suc a) h = by (n % 2) refl h (trailing-multiple d (n / 2) a)
  where
    by : (r : ℕ) → n % 2 ≡ r → suc a ≤ under r (count_trailing_zeros d (n / 2)) → (a ≤ count_trailing_zeros d (n / 2) → Multiple (n / 2) a) → Multiple n (suc a)
    by zero e k m =
        let q = m (omega arith) in
        let p : n ≡ n / 2 * 2 = omega arith in
        (q.0, p ∙ ap (λ (x : ℕ). x * 2) q.1 ∙ mul_assoc q.0 (2 ^ a) 2 ∙ ap (λ (x : ℕ). q.0 * x) (sym (pow-suc 2 a)))
    by (suc r) e k m = absurd (omega arith)

-- ---- the word that is tested

abbrev FILL : ℕ
FILL = 0x3030303030303030

abbrev pub raised : (w s : ℕ) → ℕ
raised w s = w / 2 ^ s + (FILL - FILL / 2 ^ s)

pub record Raised (w s : ℕ) : Type 0 where
  pub less : FILL / 2 ^ s ≤ FILL
  pub fits : raised w s < WORD
  pub same : ends (bytes_of (raised w s)) ≡ ends (bytes_of w)

module _ (w : ℕ) (h : w < WORD) where
  step : (v u : ℕ) → u < WORD → u / HIGHEST ≡ 48 → u % HIGHEST * 256 ≡ v → ends (bytes_of v) ≡ ends (bytes_of w) → ends (bytes_of u) ≡ ends (bytes_of w)
  step v u l t e q = sym (ends_next u l (ap name_byte t)) ∙ ap (λ (x : ℕ). ends (bytes_of x)) e ∙ q

  raised0 : Multiple w 0 → Raised w 0
  raised0 m = let e : raised w 0 ≡ w = omega arith in record { less = omega arith; fits = omega arith; same = ap (λ (x : ℕ). ends (bytes_of x)) e }

  -- one byte more
  next : (s : ℕ) → (Multiple w s → Raised w s) → Multiple w s → FILL / 2 ^ (s + 8) ≤ FILL → raised w (s + 8) < WORD → raised w (s + 8) / HIGHEST ≡ 48 → raised w (s + 8) % HIGHEST * 256 ≡ raised w s → Raised w (s + 8)
  next s f m a b t e = record { less = a; fits = b; same = step (raised w s) (raised w (s + 8)) b t e (f m).same }

  raised1 : Multiple w 8 → Raised w 8
  raised1 m = next 0 raised0 (m.0 * 256, omega (arith, m.1)) (omega arith) (omega arith) (omega arith) (omega (arith, m.1))

  raised2 : Multiple w 16 → Raised w 16
  raised2 m = next 8 raised1 (m.0 * 256, omega (arith, m.1)) (omega arith) (omega arith) (omega arith) (omega (arith, m.1))

  raised3 : Multiple w 24 → Raised w 24
  raised3 m = next 16 raised2 (m.0 * 256, omega (arith, m.1)) (omega arith) (omega arith) (omega arith) (omega (arith, m.1))

  raised4 : Multiple w 32 → Raised w 32
  raised4 m = next 24 raised3 (m.0 * 256, omega (arith, m.1)) (omega arith) (omega arith) (omega arith) (omega (arith, m.1))

  raised5 : Multiple w 40 → Raised w 40
  raised5 m = next 32 raised4 (m.0 * 256, omega (arith, m.1)) (omega arith) (omega arith) (omega arith) (omega (arith, m.1))

  raised6 : Multiple w 48 → Raised w 48
  raised6 m = next 40 raised5 (m.0 * 256, omega (arith, m.1)) (omega arith) (omega arith) (omega arith) (omega (arith, m.1))

  raised7 : Multiple w 56 → Raised w 56
  raised7 m = next 48 raised6 (m.0 * 256, omega (arith, m.1)) (omega arith) (omega arith) (omega arith) (omega (arith, m.1))

  raised_by : (k : ℕ) → k < 8 → Multiple w (k * 8) → Raised w (k * 8)
  raised_by = eight (λ k. Multiple w (k * 8) → Raised w (k * 8)) raised0 raised1 raised2 raised3 raised4 raised5 raised6 raised7

  pub raised-zeros : Raised w (count_trailing_zeros 64 w / 8 % 8 * 8)
  raised-zeros =
      let t = count_trailing_zeros 64 w in
      raised_by (t / 8 % 8) (omega arith) (trailing-multiple 64 w (t / 8 % 8 * 8) (omega arith))

-- ---- name bytes only: nothing follows them

pub ends_named : (bs : List ℕ) → all name_byte bs ≡ true → ends bs ≡ true
unfolding all
ends_named [] e = refl
ends_named (b ∷ bs) e = let f = first_then (name_byte b) (all name_byte bs) e in rw f.0 (ends_named bs f.1)
