-- Inside a list the events so far end with an opening and the values that the list has, all of its kind; every line keeps that. Assumes nothing.
use mathlib.Core.Path.{◌≡◌, refl, sym, ap, ◌∙◌}
use mathlib.Core.List.{List, [], ◌∷◌, ◌++◌, map, append_assoc}
use Prim.Native.Nat.{ℕ}
use Rattle.value.specs.Value.{Value}
use Rattle.statement.specs.Statements.{Event, opened, value}
use Rattle.statement.specs.declared.head.Operator.{Operator}
use Rattle.statement.specs.declared.values.Kind.{Kind}
use Rattle.statement.specs.declared.values.Kind.TheVariants as K
use Rattle.statement.specs.declared.values.Reader.{Reader}
use Rattle.statement.specs.declared.values.Reader.TheVariants as R
use Rattle.statement.proofs.OneKind.{Taking, Led, taking-append}
use Rattle.opening.proofs.Lines.{Outside, Sort, Holds}

pub record Listing (k : Kind) (es : List Event) : Type 0 where
  pub earlier : List Event
  pub name : List ℕ
  pub operator : Operator
  pub values : List Value
  pub split : es ≡ earlier ++ opened name operator ∷ map value values
  pub taking : Taking K.Empty values k

abbrev pub Reads : Reader → List Event → Type 0
Reads R.Text es = Unit
Reads R.Data es = Unit
Reads (R.List k) es = Listing k es

reads-outside : (r : Reader) (es : List Event) → Outside r → Reads r es
reads-outside R.Text es f = tt
reads-outside R.Data es f = tt
reads-outside (R.List k) es f = absurd f

-- a statement whose values lead to this reader
reads-led : (s : Reader) (es : List Event) (n : List ℕ) (o : Operator) (vs : List Value) → Led K.Empty vs s → Reads s (es ++ opened n o ∷ map value vs)
reads-led R.Text es n o vs l = tt
reads-led R.Data es n o vs l = tt
reads-led (R.List k) es n o vs l =
    record { earlier = es; name = n; operator = o; values = vs; split = refl; taking = rw l.after at l.taking }

pub map-append : {A B : Type 0} (f : A → B) (xs ys : List A) → map f (xs ++ ys) ≡ map f xs ++ map f ys
map-append f [] ys = refl
map-append {B = B} f (x ∷ xs) ys = ap (λ (l : List B). f x ∷ l) (map-append f xs ys)

-- values more of the list
module _ (k : Kind) (es : List Event) (d : Listing k es) (ws : List Value) where
  pub split-on : es ++ map value ws ≡ d.earlier ++ opened d.name d.operator ∷ map value (d.values ++ ws)
  split-on =
      ap (λ (x : List Event). x ++ map value ws) d.split
      ∙ append_assoc d.earlier (opened d.name d.operator ∷ map value d.values) (map value ws)
      ∙ ap (λ (x : List Event). d.earlier ++ opened d.name d.operator ∷ x) (sym (map-append value d.values ws))

  led_on : (s : Reader) → Led k ws s → Led K.Empty (d.values ++ ws) s
  led_on s l = record { to = l.to; taking = taking-append K.Empty k l.to d.values ws d.taking l.taking; after = l.after }

  reads_on : (s : Reader) → Led k ws s → Reads s (es ++ map value ws)
  reads_on s l = rw split-on (reads-led s d.earlier d.name d.operator (d.values ++ ws) (led_on s l))

-- what every line keeps
abbrev pub Keeps : Sort
Keeps r s fs = (es : List Event) → Reads r es → Reads s (es ++ fs)

pub reads-line : Holds Keeps
reads-line =
    record {
      quiet = λ r s f g es d. reads-outside s (es ++ []) g;
      opens = λ n o s vs l h e es d. reads-led s es n o vs e;
      gives = λ k s vs h l es d. reads_on k es d vs s l;
    }
