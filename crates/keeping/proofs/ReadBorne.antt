-- What is left of a reader that is read from memory is borne out by the statement stored last, and a reader that is borne out is read as it was.
-- Assumes nothing.
use Prim.Native.Nat.{ℕ}
use native.Mathlib.Omega.{arith}
use mathlib.Core.Path.{◌≡◌, refl, ap, subst}
use mathlib.Core.Bool.{Bool, true, false}
use mathlib.Core.List.{List, [], ◌∷◌, ◌++◌}
use borrow.Author.Tests.{eqb-true}
use lib.Dec.{eqb}
use lib.ListN.{length, length-append}
use Rattle.statement.specs.Statements.{Values, numbers, strings, Statement}
use Rattle.statement.specs.declared.values.Kind.{Kind}
use Rattle.statement.specs.declared.values.Kind.TheVariants as K
use Rattle.statement.specs.declared.values.Reader.{Reader}
use Rattle.statement.specs.declared.values.Reader.TheVariants as R
use Rattle.bookmark.specs.Borne.{list_of}
use Rattle.bookmark.specs.declared.mark.Standing.{Standing}
use Rattle.bookmark.specs.declared.mark.Standing.TheVariants as S
use Rattle.entering.specs.Lines.{Fills, Listing, Bears, Borne}
use Rattle.intake.specs.Opened.{is_strings, is_place, borne_reader, borne_standing}

-- ---- the last statement's values

fills-listed : (v : Values) (k : Kind) → Fills (list_of (is_strings v) (is_place v) k) v
fills-listed (strings ss) k = tt
fills-listed (numbers []) k = tt
fills-listed (numbers (b ∷ c ∷ bs)) k = tt
fills-listed (numbers (b ∷ [])) k = by (eqb b 0) k refl
  where
    by : (t : Bool) (k : Kind) → eqb b 0 ≡ t → Fills (list_of false t k) (numbers (b ∷ []))
    by false k e = tt
    by true K.Empty e = ap (λ (x : ℕ). numbers (x ∷ [])) (eqb-true b 0 e)
    by true K.Numbers e = tt
    by true K.Strings e = tt

listed-fills : (v : Values) (k : Kind) → Fills k v → list_of (is_strings v) (is_place v) k ≡ k
listed-fills v K.Empty f = ap (λ (x : Values). list_of (is_strings x) (is_place x) K.Empty) f
listed-fills (numbers bs) K.Numbers f = by (is_place (numbers bs))
  where
    by : (t : Bool) → list_of false t K.Numbers ≡ K.Numbers
    by true = refl
    by false = refl
listed-fills (strings ss) K.Numbers f = absurd f
listed-fills (numbers bs) K.Strings f = absurd f
listed-fills (strings ss) K.Strings f = refl

-- ---- the last statement

bears-more : (r : Reader) (s : Statement) (body : List Statement) → Bears r body → Bears r (s ∷ body)
bears-more R.Text s body d = tt
bears-more R.Data s body d = tt
bears-more (R.List k) s body d =
    record { before = s ∷ d.before; last = d.last; split = ap (λ (l : List Statement). s ∷ l) d.split; fills = d.fills }

bears-less : (k : Kind) (s t : Statement) (ss : List Statement) → Listing k (s ∷ t ∷ ss) → Listing k (t ∷ ss)
bears-less k s t ss d = by d.before d.split
  where
    by : (b : List Statement) → s ∷ t ∷ ss ≡ b ++ (d.last ∷ []) → Listing k (t ∷ ss)
    by [] e = absurd (omega (arith, ap length e))
    by (x ∷ b) e = record { before = b; last = d.last; split = cc; fills = d.fills }

bears-one : (k : Kind) (s : Statement) → Listing k (s ∷ []) → Fills k s.values
bears-one k s d = by d.before d.split
  where
    by : (b : List Statement) → s ∷ [] ≡ b ++ (d.last ∷ []) → Fills k s.values
    by [] e = let z : d.last ≡ s = cc in subst (λ (x : Statement). Fills k x.values) z d.fills
    by (x ∷ b) e = absurd (omega (arith, ap length e, length-append b (d.last ∷ [])))

bears-none : (k : Kind) → Listing k [] → ⊥
bears-none k d = omega (arith, ap length d.split, length-append d.before (d.last ∷ []))

-- ---- a reader

reader-borne : (body : List Statement) (r : Reader) → Bears (borne_reader body r) body
reader-borne [] R.Text = tt
reader-borne [] R.Data = tt
reader-borne [] (R.List k) = tt
reader-borne (s ∷ []) R.Text = tt
reader-borne (s ∷ []) R.Data = tt
reader-borne (s ∷ []) (R.List k) = record { before = []; last = s; split = refl; fills = fills-listed s.values k }
reader-borne (s ∷ t ∷ ss) r = bears-more (borne_reader (t ∷ ss) r) s (t ∷ ss) (reader-borne (t ∷ ss) r)

reader-stays : (body : List Statement) (r : Reader) → Bears r body → borne_reader body r ≡ r
reader-stays [] R.Text d = refl
reader-stays [] R.Data d = refl
reader-stays [] (R.List k) d = absurd (bears-none k d)
reader-stays (s ∷ []) R.Text d = refl
reader-stays (s ∷ []) R.Data d = refl
reader-stays (s ∷ []) (R.List k) d = ap R.List (listed-fills s.values k (bears-one k s d))
reader-stays (s ∷ t ∷ ss) R.Text d = reader-stays (t ∷ ss) R.Text tt
reader-stays (s ∷ t ∷ ss) R.Data d = reader-stays (t ∷ ss) R.Data tt
reader-stays (s ∷ t ∷ ss) (R.List k) d = reader-stays (t ∷ ss) (R.List k) (bears-less k s t ss d)

-- ---- how the text stands

pub standing-borne : (body : List Statement) (t : Standing) → Borne (borne_standing body t) body
standing-borne body (S.Storing r) = reader-borne body r
standing-borne body (S.Overflowed r) = tt
standing-borne body (S.Faulted f) = tt

pub standing-stays : (body : List Statement) (t : Standing) → Borne t body → borne_standing body t ≡ t
standing-stays body (S.Storing r) d = ap S.Storing (reader-stays body r d)
standing-stays body (S.Overflowed r) d = refl
standing-stays body (S.Faulted f) d = refl
