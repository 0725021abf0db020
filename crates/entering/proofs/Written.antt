-- What a line adds, written event by event behind the statements that stand, is laid there: a statement behind them, or the last one with more
-- values. Assumes nothing.
use Prim.Native.Nat.{ℕ, ◌+◌, ◌-◌}
use native.Mathlib.Omega.{arith}
use mathlib.Core.Path.{◌≡◌, refl, sym, ap, ◌∙◌}
use mathlib.Core.List.{List, [], ◌∷◌, ◌++◌, map, append-nil}
use lib.ListN.{length, length-append, length-map}
use Rattle.plain.proofs.Each.{Each, each_weaken}
use Rattle.value.specs.Value.{Value, number, string}
use Rattle.statement.specs.Statements.{opened, value, Statement, how_many, of_one_kind, Gathered, gathered, givings}
use Rattle.statement.specs.declared.head.Operator.{Operator}
use Rattle.statement.proofs.Events.{givings-values}
use Rattle.statement.proofs.OneKind.{LegalValue}
use Rattle.words.specs.Over.{over}
use Rattle.words.proofs.Over.{over-nil}
use Rattle.octets.proofs.Bytes.{Bytes}
use Rattle.layout.specs.State.{Pool, flat, values_of, bytes_of}
use Rattle.layout.specs.Limits.{WORDS}
use Rattle.layout.specs.Memory.{laid_behind}
use Rattle.layout.proofs.Bytes.{fair-below}
use Rattle.layout.proofs.Holds.{inked_at}
use Rattle.layout.proofs.Spelling.{length-words}
use Rattle.page.specs.Writing.{Page, page, written_on}
use Rattle.page.specs.declared.pen.Pen.{Pen}
use Rattle.loading.proofs.Admitted.{Small}
use Rattle.loading.proofs.Kept.{word_in, letters_in, head_after, statement_of, Whole}
use Rattle.loading.proofs.Laid.{laid_on, Apart, Even, behind, given-written, all-written}
use Rattle.opening.proofs.Extending.{gathered-values}
use Rattle.entering.proofs.Further.{Behind, Room, laid-further, length_last, Within, last-further}
use Rattle.entering.proofs.Going.{Continues}

-- legal values can be written
whole-values : (vs : List Value) → Each (LegalValue Small) vs → Whole (map value vs)
whole-values [] l = tt
whole-values (number x ∷ vs) l = (tt, whole-values vs l.1)
whole-values (string s ∷ vs) l = (each_weaken _ _ (λ b f. omega (arith, fair-below b f)) s l.0.bytes, whole-values vs l.1)

-- values alone are written into the last column, before the last head, and behind the bytes
behind-values : (vs : List Value) (p : Page)
    → behind (record { loose = vs; statements = [] }) p
    ≡ over p.pen.values (map word_in vs) (over (p.pen.heads - 1) (head_after p.pen.head vs ∷ []) (inked_at p.pen.bytes (flat letters_in vs) p.memory))
unfolding flat
behind-values vs p =
    let x = over (p.pen.heads - 1) (head_after p.pen.head vs ∷ []) (inked_at p.pen.bytes (flat letters_in vs ++ []) p.memory) in
    (λ i. over p.pen.values (append-nil (map word_in vs) i) (over-nil p.pen.names (over p.pen.heads [] x) i))
    ∙ (λ i. over p.pen.values (map word_in vs) (over-nil p.pen.heads x i))
    ∙ (λ i. over p.pen.values (map word_in vs)
    (over (p.pen.heads - 1) (head_after p.pen.head vs ∷ []) (inked_at p.pen.bytes (append-nil (flat letters_in vs) i) p.memory)))

-- no bytes written leave the memory as it is
module _ (s : Pool) (m : List ℕ) (e : length m ≡ WORDS) (still : (k : ℕ) → inked_at k [] m ≡ m) where
  even : (pen : Pen) → Even (page m pen)
  even pen = record { long = e; still = still pen.bytes }

  -- a statement behind those that stand
  pub opened-laid : (body : List Statement) (n : List ℕ) (o : Operator) (vs : List Value) (pen : Pen) → laid_behind s body m ≡ m → Behind s body pen
      → Room s (body ++ (statement_of n o vs ∷ [])) → Bytes (flat bytes_of body) → Each (LegalValue Small) vs → how_many (of_one_kind vs) ≡ length vs
      → (written_on (opened n o ∷ map value vs) (page m pen)).memory ≡ laid_behind s (body ++ (statement_of n o vs ∷ [])) m
  opened-laid body n o vs pen stands b r f l k =
      let x = statement_of n o vs in
      let g = gathered-values vs in
      let la = length-append body (x ∷ []) in
      let lv = length_last values_of body x in
      let lw = length-words (of_one_kind vs) in
      let lg : length (gathered (map value vs)).statements ≡ 0 = ap (λ (y : Gathered). length y.statements) g in
      let apart : Apart pen (length (gathered (opened n o ∷ map value vs)).statements) (givings (map value vs)) = record {
        some = omega (arith, b.heads);
        heads = omega (arith, b.heads, b.names, r.statements);
        names = omega (arith, b.names, b.values, r.statements);
        values = omega (arith, b.values, r.values, givings-values vs);
      } in
      all-written (opened n o ∷ map value vs) (page m pen) refl (rw g k, whole-values vs l) (even pen) apart
      ∙ ap (λ (y : Gathered). laid_on (statement_of n o y.loose ∷ y.statements) (page m pen)) g
      ∙ ap (λ (y : List ℕ). laid_on (x ∷ []) (page y pen)) (sym stands)
      ∙ laid-further s m body (x ∷ []) pen e r f b

  -- the last one with more values
  pub given-laid : (before : List Statement) (x y : Statement) (keep : List ℕ) (v : Value) (vs : List Value) (pen : Pen) → Continues x y keep pen.head (v ∷ vs)
      → Within s before x keep pen → Room s (before ++ (x ∷ [])) → Room s (before ++ (y ∷ [])) → Bytes (flat bytes_of before) → Bytes (bytes_of x)
      → Each (LegalValue Small) (v ∷ vs) → laid_behind s (before ++ (x ∷ [])) m ≡ m
      → (written_on (map value (v ∷ vs)) (page m pen)).memory ≡ laid_behind s (before ++ (y ∷ [])) m
  given-laid before x y keep v vs pen c b rx ry f fx l stands =
      let ws = map word_in (v ∷ vs) in
      let la = length-append before (y ∷ []) in
      let lv = length_last values_of before y in
      let lw : length (values_of y) ≡ length keep + length ws = ap length c.goes.words ∙ length-append keep ws in
      let lm : length ws ≡ length (v ∷ vs) = length-map (v ∷ vs) word_in in
      let lg : length (gathered (map value vs)).statements ≡ 0 = ap (λ (z : Gathered). length z.statements) (gathered-values vs) in
      let apart : Apart pen (length (gathered (map value vs)).statements) (givings (map value vs) + 1) = record {
        some = omega (arith, b.heads);
        heads = omega (arith, b.heads, b.names, ry.statements);
        names = omega (arith, b.names, b.values, ry.statements);
        values = omega (arith, b.values, ry.values, givings-values vs);
      } in
      given-written v (map value vs) (page m pen) (whole-values (v ∷ vs) l) (even pen) apart
      ∙ ap (λ (z : Gathered). behind z (page m pen)) (gathered-values (v ∷ vs))
      ∙ behind-values (v ∷ vs) (page m pen)
      ∙ ap (λ (h : ℕ). over pen.values ws (over (pen.heads - 1) (h ∷ []) (inked_at pen.bytes (flat letters_in (v ∷ vs)) m))) c.told
      ∙ last-further s m e before x y keep ws (flat letters_in (v ∷ vs)) pen c.goes b rx ry f fx stands
