-- The last head and the last value of an open text tell all that its reader needs to know of the statement stored last. Assumes nothing.
use Prim.Native.Nat.{ℕ, ◌+◌, ◌-◌, ◌/◌, ◌%◌, ◌≤◌}
use native.Mathlib.Omega.{arith}
use mathlib.Core.Path.{◌≡◌, refl, sym, ap, subst, ◌∙◌}
use mathlib.Core.Bool.{Bool, true, false}
use mathlib.Core.List.{List, [], ◌∷◌, ◌++◌, append_assoc}
use lib.Dec.{eqb, lit<}
use lib.ListN.{length, drop, get_or, length-append}
use lib.Seq.{get_or-take, get_or-drop}
use Rattle.plain.proofs.Each.{Each, each_right}
use Rattle.statement.specs.Statements.{Statement, how_many}
use Rattle.statement.specs.declared.values.Reader.{Reader}
use Rattle.words.specs.Halves.{HALF, upper, lower}
use Rattle.words.proofs.Each.{Words}
use Rattle.layout.specs.State.{program, flat, values_of, words_of}
use Rattle.layout.specs.Limits.{HEADS_AT, VALUES_AT}
use Rattle.layout.specs.Memory.{statement_count, value_count, decode, open_body, open_text, head_word, kind_number}
use Rattle.layout.proofs.Codec.{Short, each-short, head-kind, head-count}
use Rattle.layout.proofs.Columns.{At, at_right, flat_append, flat-one}
use Rattle.layout.proofs.Holds.{length-laid-heads}
use Rattle.behind.proofs.Merged.{length-body}
use Rattle.behind.proofs.Laid.{Laid, open-laid}
use Rattle.bookmark.specs.Borne.{settled_reader}
use Rattle.bookmark.specs.declared.mark.Entered.{Entered}
use Rattle.intake.specs.Opened.{is_strings, is_place, borne_reader}
use Rattle.intake.specs.State.{Counts}
use Rattle.intake.proofs.Bearing.{borne-last, of-strings, of-numbers, of-many, Sole, of_one}
use Rattle.intake.proofs.Finding.{columns}

-- ---- a list's last element, and where it stands

record Ends (ss : List Statement) : Type 0 where
  before : List Statement
  last : Statement
  split : ss ≡ before ++ last ∷ []

ends_of : (x : Statement) (ss : List Statement) → Ends (x ∷ ss)
ends_of x [] = record { before = []; last = x; split = refl }
ends_of x (y ∷ ss) = let r = ends_of y ss in record { before = x ∷ r.before; last = r.last; split = ap (λ (l : List Statement). x ∷ l) r.split }

some-ends : (ss : List Statement) → (length ss ≡ 0 → ⊥) → Ends ss
some-ends [] n = absurd (n refl)
some-ends (x ∷ ss) n = ends_of x ss

none_is : (ss : List Statement) → length ss ≡ 0 → ss ≡ []
none_is [] n = refl
none_is (x ∷ ss) n = absurd (omega arith)

at_last : (o i : ℕ) (xs : List ℕ) (y : ℕ) (m : List ℕ) → i ≡ o + length xs + 0 → At o (xs ++ (y ∷ [])) m → get_or m i 0 ≡ y
at_last o i xs y m k a =
    let j = o + length xs in
    ap (λ (n : ℕ). get_or m n 0) k ∙ sym (get_or-drop j m 0 0) ∙ sym (get_or-take 1 (drop j m) 0 0 (lit< tt)) ∙ ap (λ (l : List ℕ). get_or l 0 0) (at_right o xs (y ∷ []) m a)

lay-last : (f : Statement → List ℕ) (xs ys zs : List Statement) (x : Statement) → ys ≡ zs ++ x ∷ [] → flat f (xs ++ ys) ≡ flat f (xs ++ zs) ++ f x
lay-last f xs ys zs x e =
    ap (λ (l : List Statement). flat f (xs ++ l)) e ∙ ap (flat f) (sym (append_assoc xs zs (x ∷ []))) ∙ flat_append f (xs ++ zs) (x ∷ [])
    ∙ ap (λ (l : List ℕ). flat f (xs ++ zs) ++ l) (flat-one f x)

-- ---- by what is stored

module _ (m : List ℕ) (n : Entered) (c : Counts m n) where
  -- nothing is stored
  pub none-borne : n.statements ≡ 0 → (r : Reader) → settled_reader false false false r ≡ borne_reader (open_body m) r
  none-borne z r = ap (λ (ss : List Statement). borne_reader ss r) (sym (none_is (open_body m) (omega (arith, length-body m c.open-in.undamaged c.open-in.opened, c.statements))))

  -- ---- something is

  module _ (z : n.statements ≡ 0 → ⊥) (w : Words m) where
    abbrev E : Ends (open_body m)
    E = some-ends (open_body m) (λ h. z (c.statements ∙ sym (length-body m c.open-in.undamaged c.open-in.opened) ∙ h))

    abbrev x : Statement
    x = E.last

    abbrev L : Laid (decode m) (open_text m) m
    L = open-laid m c.open-in.undamaged c.open-in.opened w

    short : Short x
    short =
        let v = c.values ∙ L.values in
        (each_right Short E.before (x ∷ []) (subst (Each Short) E.split (each-short (open_body m) (omega (arith, v, c.values-room))))).0

    last-head : get_or m (HEADS_AT + statement_count m + n.statements - 1) 0 ≡ head_word x
    last-head =
        let p = program (decode m) in
        let b = E.before in
        let k = length-body m c.open-in.undamaged c.open-in.opened in
        at_last HEADS_AT (HEADS_AT + statement_count m + n.statements - 1) (flat (λ y. head_word y ∷ []) (p ++ b)) (head_word x) m
        (omega (arith, length-laid-heads (p ++ b), length-append p b, L.told.statements, c.statements, k, ap length E.split, length-append b (x ∷ [])))
        (subst (λ (l : List ℕ). At HEADS_AT l m) (lay-last (λ y. head_word y ∷ []) p (open_body m) b x E.split) (columns (decode m) (open_text m) m L w).0)

    last-value : (v : ℕ) → values_of x ≡ v ∷ [] → (1 ≤ n.values) × (get_or m (VALUES_AT + value_count m + n.values - 1) 0 ≡ v)
    last-value v h =
        let p = program (decode m) in
        let b = E.before in
        let q = lay-last values_of p (open_body m) b x E.split ∙ ap (λ (l : List ℕ). flat values_of (p ++ b) ++ l) h in
        let k = length-append (flat values_of (p ++ b)) (v ∷ []) in
        let j = ap length (flat_append values_of p (open_body m)) ∙ length-append (flat values_of p) (flat values_of (open_body m)) in
        let i = ap length (lay-last values_of [] (open_body m) b x E.split) ∙ length-append (flat values_of b) (values_of x) in (
          omega (arith, c.values, L.values, i, ap length h),
          at_last VALUES_AT (VALUES_AT + value_count m + n.values - 1) (flat values_of (p ++ b)) v m
              (omega (arith, k, j, ap length q, L.told.values, c.values, L.values))
              (subst (λ (l : List ℕ). At VALUES_AT l m) q (columns (decode m) (open_text m) m L w).1.1.0),
        )

    borne-by : (a b : Bool) → is_strings x.values ≡ a → is_place x.values ≡ b → (r : Reader) → settled_reader true a b r ≡ borne_reader (open_body m) r
    borne-by a b p q r =
        sym (ap (λ (ss : List Statement). borne_reader ss r) E.split ∙ borne-last E.before x r ∙ (λ i. settled_reader true (p i) (q i) r))

    -- ---- by the head

    module _ (h : ℕ) (e : h ≡ get_or m (HEADS_AT + statement_count m + n.statements - 1) 0) where
      kind= : h / HALF / 2 ≡ kind_number x.values
      kind= = ap (λ (k : ℕ). upper k / 2) (e ∙ last-head) ∙ head-kind x short

      count= : h % HALF ≡ how_many x.values
      count= = ap lower (e ∙ last-head) ∙ head-count x short

      pub strings-borne : (h / HALF / 2 ≡ 0 → ⊥) → (r : Reader) → settled_reader true true false r ≡ borne_reader (open_body m) r
      strings-borne k r = let f = of-strings x.values (λ z. k (kind= ∙ z)) in borne-by true false f.0 f.1 r

      module _ (k : h / HALF / 2 ≡ 0) where
        pub many-borne : (h % HALF ≡ 1 → ⊥) → (r : Reader) → settled_reader true false false r ≡ borne_reader (open_body m) r
        many-borne j r =
            let v = x.values in
            borne-by false false (of-numbers v (sym kind= ∙ k)) (of-many v (sym kind= ∙ k) (λ z. j (count= ∙ z))) r

        module _ (j : h % HALF ≡ 1) where
          one : Sole x.values
          one = of_one x.values (sym kind= ∙ k) (sym count= ∙ j)

          pub some-value : 1 ≤ n.values
          some-value = (last-value one.word (ap words_of one.is)).0

          pub one-borne : (r : Reader) → settled_reader true false (eqb (get_or m (VALUES_AT + value_count m + n.values - 1) 0) 0) r ≡ borne_reader (open_body m) r
          one-borne r =
              let v = (last-value one.word (ap words_of one.is)).1 in
              ap (λ (l : ℕ). settled_reader true false (eqb l 0) r) v
              ∙ borne-by false (eqb one.word 0) (ap is_strings one.is) (ap is_place one.is) r
