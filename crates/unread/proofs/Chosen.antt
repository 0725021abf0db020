-- A query's answer depends on the statements with its names alone, in their order: a variable is made of the statements with its name, one after
-- the other. Assumes nothing.
use Prim.Native.Nat.{ℕ}
use mathlib.Core.Path.{◌≡◌, refl, sym, ap, ◌∙◌}
use mathlib.Core.Bool.{Bool, true, false}
use mathlib.Core.List.{List, [], ◌∷◌, ◌++◌}
use lib.Ieee.{Float}
use Rattle.std.specs.Prelude.{if◌then◌else◌, Option, Some, None}
use Rattle.plain.proofs.Each.{Each}
use Rattle.plain.proofs.Tests.{true-false}
use Rattle.rotation.specs.Codes.{system_of}
use Rattle.statement.specs.Statements.{Statement}
use Rattle.layout.specs.State.{Pool, program}
use Rattle.variables.specs.Variables.{Datum, has, any, variable, present}
use Rattle.degree.specs.Degree.{degree, degree_where}
use Rattle.globe.specs.Orientation.{by_degree, by_elements, orientation_from}
use Rattle.globe.specs.Radii.{by_system, radii_from}
use Rattle.globe.specs.declared.source.Source.TheVariants as S
use Rattle.promises.specs.Sentence.{onto, forward}
use Rattle.promises.proofs.Sentence.{forward-variable}
use Rattle.promises.proofs.Said.{State, says}
use Rattle.reads.specs.Names.{Name, Query, orientation_of, radii_of, orientation_names, radii_names, listed, names}
use Rattle.unread.specs.Unread.{call, has_one, contains, containing}

-- ---- statements

-- those that have one of the names, in their order
unfoldable pub chosen : List Name → List Statement → List Statement
chosen ns [] = []
chosen ns (s ∷ ss) = if has_one ns s then s ∷ chosen ns ss else chosen ns ss

module _ (ns : List Name) where
  chosen-append : (xs ys : List Statement) → chosen ns (xs ++ ys) ≡ chosen ns xs ++ chosen ns ys
  unfolding chosen
  chosen-append [] ys = refl
  chosen-append (x ∷ xs) ys = by (has_one ns x) (chosen-append xs ys)
    where
      by : (b : Bool) → chosen ns (xs ++ ys) ≡ chosen ns xs ++ chosen ns ys
          → (if b then x ∷ chosen ns (xs ++ ys) else chosen ns (xs ++ ys)) ≡ (if b then x ∷ chosen ns xs else chosen ns xs) ++ chosen ns ys
      by true g = ap (λ (l : List Statement). x ∷ l) g
      by false g = g

  chosen_none : (ss : List Statement) → any (has_one ns) ss ≡ false → chosen ns ss ≡ []
  unfolding chosen any
  chosen_none [] e = refl
  chosen_none (s ∷ ss) e = by (has_one ns s) e (chosen_none ss)
    where
      by : (b : Bool) → (if b then true else any (has_one ns) ss) ≡ false → (any (has_one ns) ss ≡ false → chosen ns ss ≡ [])
          → (if b then s ∷ chosen ns ss else chosen ns ss) ≡ []
      by true f g = true-false f
      by false f g = g f

  -- a text without such a statement adds none
  chosen-containing : (s : Pool) → chosen ns (program (containing ns s)) ≡ chosen ns (program s)
  unfolding containing program contains
  chosen-containing [] = refl
  chosen-containing (t ∷ ts) = by (contains ns t) refl (chosen-containing ts)
    where
      by : (b : Bool) → contains ns t ≡ b → chosen ns (program (containing ns ts)) ≡ chosen ns (program ts)
          → chosen ns (program (if b then t ∷ containing ns ts else containing ns ts)) ≡ chosen ns (t.body ++ program ts)
      by true e g =
          chosen-append t.body (program (containing ns ts)) ∙ ap (λ (l : List Statement). chosen ns t.body ++ l) g
          ∙ sym (chosen-append t.body (program ts))
      by false e g =
          g ∙ sym (chosen-append t.body (program ts) ∙ ap (λ (l : List Statement). l ++ chosen ns (program ts)) (chosen_none t.body e))

  pub same_chosen : (s s' : Pool) → containing ns s ≡ containing ns s' → chosen ns (program s) ≡ chosen ns (program s')
  same_chosen s s' e = sym (chosen-containing s) ∙ ap (λ (l : Pool). chosen ns (program l)) e ∙ chosen-containing s'

-- ---- variables

-- a name on the list: a statement with none of the names has not this one
abbrev On : Name → List Name → Type 0
On name ns = (s : Statement) → has_one ns s ≡ false → has name s ≡ false

on-first : (name : Name) (ns : List Name) → On name (name ∷ ns)
unfolding has_one
on-first name ns s e = by (has name s) e
  where
    by : (b : Bool) → (if b then true else has_one ns s) ≡ false → b ≡ false
    by true f = f
    by false f = refl

on-next : (name n : Name) (ns : List Name) → On name ns → On name (n ∷ ns)
unfolding has_one
on-next name n ns o s e = o s (by (has n s) e)
  where
    by : (b : Bool) → (if b then true else has_one ns s) ≡ false → has_one ns s ≡ false
    by true f = true-false f
    by false f = f

on-each : (ns : List Name) → Each (λ n. On n ns) ns
on-each [] = tt
on-each (n ∷ ns) = (on-first n ns, next ns (on-each ns))
  where
    next : (xs : List Name) → Each (λ x. On x ns) xs → Each (λ x. On x (n ∷ ns)) xs
    next [] f = tt
    next (x ∷ xs) f = (on-next x n ns f.0, next xs f.1)

module _ (ns : List Name) (name : Name) (o : On name ns) where
  forward-chosen : (ss : List Statement) (xs : List Datum) → forward name xs ss ≡ forward name xs (chosen ns ss)
  unfolding forward chosen
  forward-chosen [] xs = refl
  forward-chosen (s ∷ ss) xs = by (has_one ns s) refl (forward-chosen ss)
    where
      by : (b : Bool) → has_one ns s ≡ b → ((ys : List Datum) → forward name ys ss ≡ forward name ys (chosen ns ss))
          → forward name (onto name xs s) ss ≡ forward name xs (if b then s ∷ chosen ns ss else chosen ns ss)
      by true e g = g (onto name xs s)
      by false e g = rw (o s e) (g xs)

  any-chosen : (ss : List Statement) → any (has name) ss ≡ any (has name) (chosen ns ss)
  unfolding any chosen
  any-chosen [] = refl
  any-chosen (s ∷ ss) = by (has_one ns s) refl (any-chosen ss)
    where
      by : (b : Bool) → has_one ns s ≡ b → any (has name) ss ≡ any (has name) (chosen ns ss)
          → (if has name s then true else any (has name) ss) ≡ any (has name) (if b then s ∷ chosen ns ss else chosen ns ss)
      by true e g = ap (λ (x : Bool). if has name s then true else x) g
      by false e g = rw (o s e) g

  pub same-variable : (s s' : Pool) → chosen ns (program s) ≡ chosen ns (program s') → variable name s ≡ variable name s'
  unfolding variable
  same-variable s s' e =
      forward-variable name (program s) ∙ forward-chosen (program s) [] ∙ ap (forward name []) e ∙ sym (forward-chosen (program s') [])
      ∙ sym (forward-variable name (program s'))

  pub same-presence : (s s' : Pool) → chosen ns (program s) ≡ chosen ns (program s') → present name s ≡ present name s'
  unfolding present
  same-presence s s' e = any-chosen (program s) ∙ ap (any (has name)) e ∙ sym (any-chosen (program s'))

-- ---- queries

-- two pools have the same variable of a name
record Same (s s' : Pool) (name : Name) : Type 0 where
  there : present name s ≡ present name s'
  list : variable name s ≡ variable name s'

same-each : (ns : List Name) (s s' : Pool) → chosen ns (program s) ≡ chosen ns (program s') → Each (Same s s') ns
same-each ns s s' e = each ns (on-each ns)
  where
    each : (xs : List Name) → Each (λ x. On x ns) xs → Each (Same s s') xs
    each [] f = tt
    each (x ∷ xs) f = (record { there = same-presence ns x f.0 s s' e; list = same-variable ns x f.0 s s' e }, each xs f.1)

module _ (s s' : Pool) (n : ℕ) where
  module _ (k : ℕ) (f : Each (Same s s') (orientation_names n (Some k))) where
    same-degree : degree s n k ≡ degree s' n k
    unfolding degree_where
    same-degree =
        let r = f.1.1.1.0 in
        let q = f.1.1.1.1.0 in
        let p = f.1.1.1.1.1.0 in
        let g = f.1.1.1.1.1.1.1.0 in
        simp (r.there, q.there, p.there, g.there, g.list)

    same-counts : (epoch : Float) (g : Option ℕ) → by_degree s n k epoch g ≡ by_degree s' n k epoch g
    same-counts epoch (Some d) =
        let a = f.0 in
        let b = f.1.0 in
        let c = f.1.1.0 in
        let r = f.1.1.1.0 in
        let q = f.1.1.1.1.0 in
        let p = f.1.1.1.1.1.0 in
        let x = f.1.1.1.1.1.1.0 in
        simp (r.there, q.there, p.there, a.list, b.list, c.list, r.list, q.list, p.list, x.list)
    same-counts epoch None = refl

    same-there : (epoch : Float) → by_elements s n epoch (Some k) ≡ by_elements s' n epoch (Some k)
    same-there epoch =
        let a = f.0 in
        let b = f.1.0 in
        let c = f.1.1.0 in
        let r = f.1.1.1.0 in
        let q = f.1.1.1.1.0 in
        let p = f.1.1.1.1.1.0 in
        let x = f.1.1.1.1.1.1.0 in
        rw (same-degree, same-counts epoch (degree s' n k), a.there, b.there, c.there, r.there, q.there, p.there, x.there)

  same-elements : (epoch : Float) (k : Option ℕ) → Each (Same s s') (orientation_names n k) → by_elements s n epoch k ≡ by_elements s' n epoch k
  same-elements epoch None f = refl
  same-elements epoch (Some k) f = same-there k f epoch

  same-radii : (k : Option ℕ) → Each (Same s s') (radii_names n k) → by_system s n k ≡ by_system s' n k
  same-radii None f = refl
  same-radii (Some k) f = simp (f.0.there, f.0.list)

-- the answer, by the statements with the names
pub same_answer : (q : Query) (s s' : State) → chosen (names q) (program s.texts) ≡ chosen (names q) (program s'.texts)
    → says (call q) s ≡ says (call q) s'
unfolding listed says orientation_from radii_from
same_answer (orientation_of S.Builtin n epoch) s s' e = refl
same_answer (orientation_of S.Pool n epoch) s s' e =
    rw (same-elements s.texts s'.texts n epoch (system_of n) (same-each (orientation_names n (system_of n)) s.texts s'.texts e))
same_answer (radii_of S.Builtin n) s s' e = refl
same_answer (radii_of S.Pool n) s s' e =
    rw (same-radii s.texts s'.texts n (system_of n) (same-each (radii_names n (system_of n)) s.texts s'.texts e))
