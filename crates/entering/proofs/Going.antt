-- A statement whose list goes on: its words, its bytes and its head are those that stood and those of the values given, a place that was held for
-- them apart. Assumes nothing.
use Prim.Native.Nat.{ℕ, ◌+◌, ◌*◌, ◌-◌, ◌≤◌}
use native.Mathlib.Omega.{arith}
use mathlib.Core.Path.{◌≡◌, refl, sym, ap, ◌∙◌}
use mathlib.Core.Bool.{false≢true}
use mathlib.Core.List.{List, [], ◌∷◌, ◌++◌, map, append-nil}
use lib.ListN.{length, length-append, length-map}
use Rattle.plain.proofs.Each.{Each}
use Rattle.value.specs.Value.{Value, number, string}
use Rattle.statement.specs.Statements.{Values, numbers, strings, how_many, Statement, numbers_in, strings_in, of_one_kind}
use Rattle.statement.specs.declared.head.Operator.{Operator}
use Rattle.statement.specs.declared.values.Kind.{Kind}
use Rattle.statement.specs.declared.values.Kind.TheVariants as K
use Rattle.statement.proofs.OneKind.{Taking, all-kept}
use Rattle.words.specs.Halves.{HALF}
use Rattle.layout.specs.State.{flat, words_of}
use Rattle.layout.specs.Memory.{operator_number, head_word}
use Rattle.layout.proofs.Columns.{flat_append}
use Rattle.opening.specs.Storing.{of_kind}
use Rattle.opening.proofs.Lists.{map-append}
use Rattle.loading.proofs.Kept.{word_in, letters_in, head_after, Number, String, number-words, number-letters, number-head, string-words, string-letters, string-head, keeps}
use Rattle.entering.specs.Counts.{places_of}
use Rattle.entering.specs.Lines.{Fills}
use Rattle.entering.proofs.Further.{Goes}

-- ---- values that a list takes are of its kind

pub each_number : (vs : List Value) (k : Kind) → Taking K.Numbers vs k → Each Number vs
each_number [] k f = tt
each_number (number x ∷ vs) k f = (tt, each_number vs k f.1)
each_number (string s ∷ vs) k f = absurd (false≢true f.0)

pub each-string : (vs : List Value) (k : Kind) → Taking K.Strings vs k → Each String vs
each-string [] k f = tt
each-string (number x ∷ vs) k f = absurd (false≢true f.0)
each-string (string s ∷ vs) k f = (tt, each-string vs k f.1)

-- ---- one statement

-- the words of a list's values that stay when more are given
abbrev pub kept_words : Kind → Values → List ℕ
kept_words K.Empty old = []
kept_words K.Numbers old = words_of old
kept_words K.Strings old = words_of old

pub record Continues (x y : Statement) (keep : List ℕ) (head : ℕ) (vs : List Value) : Type 0 where
  pub goes : Goes x y keep (map word_in vs) (flat letters_in vs)
  pub told : head_after head vs ≡ head_word y

module _ (name : List ℕ) (o : Operator) where
  abbrev pub having : Values → Statement
  having v = record { name = name; operator = o; values = v }

  goes-numbers : (bs : List ℕ) (vs : List Value) → Each Number vs
      → Continues (having (numbers bs)) (having (numbers (bs ++ numbers_in vs))) bs (head_word (having (numbers bs))) vs
  goes-numbers bs vs f =
      let l = length-append bs (numbers_in vs) in
      let k : length (numbers_in vs) ≡ length vs = sym (ap length (number-words vs f)) ∙ length-map vs word_in in
      record {
        goes = record {
          place = [];
          stood = sym (append-nil bs);
          few = omega arith;
          name = refl;
          words = ap (λ (l : List ℕ). bs ++ l) (sym (number-words vs f));
          letters = sym (number-letters vs f);
        };
        told = omega (arith, number-head (head_word (having (numbers bs))) vs f);
      }

  goes-strings : (ss : List (List ℕ)) (vs : List Value) → Each String vs
      → Continues (having (strings ss)) (having (strings (ss ++ strings_in vs))) (map length ss) (head_word (having (strings ss))) vs
  goes-strings ss vs f =
      let l = length-append ss (strings_in vs) in
      let k : length (strings_in vs) ≡ length vs = sym (length-map (strings_in vs) length) ∙ sym (ap length (string-words vs f)) ∙ length-map vs word_in in
      let id : List ℕ → List ℕ = λ s. s in
      record {
        goes = record {
          place = [];
          stood = sym (append-nil (map length ss));
          few = omega arith;
          name = refl;
          words = map-append length ss (strings_in vs) ∙ ap (λ (l : List ℕ). map length ss ++ l) (sym (string-words vs f));
          letters = flat_append id ss (strings_in vs) ∙ ap (λ (l : List ℕ). flat id ss ++ l) (sym (string-letters vs));
        };
        told = omega (arith, string-head (head_word (having (strings ss))) vs (omega arith) f);
      }

  -- the first values, in the place that was held for them
  goes_first : (vs : List Value) → how_many (of_one_kind vs) ≡ length vs → 1 ≤ length vs
      → Continues (having (numbers (0 ∷ []))) (having (of_one_kind vs)) [] (head_word (having (numbers (0 ∷ []))) - 1) vs
  goes_first vs e h =
      let k = keeps vs e in
      let q : head_word (having (numbers (0 ∷ []))) - 1 ≡ operator_number o * HALF + 0 = omega arith in
      record {
        goes = record {
          place = 0 ∷ [];
          stood = refl;
          few = omega (arith, length-map vs word_in);
          name = refl;
          words = sym k.words;
          letters = sym k.letters;
        };
        told = ap (λ (n : ℕ). head_after n vs) q ∙ k.head name o;
      }

  -- whatever the list has so far
  pub continues : (k : Kind) (old : Values) (v : Value) (vs : List Value) (to : Kind) → Fills k old → Taking k (v ∷ vs) to
      → Continues (having old) (having (of_kind k (v ∷ vs) old)) (kept_words k old) (head_word (having old) - places_of k) (v ∷ vs)
  continues K.Empty old v vs to f t = rw f (goes_first (v ∷ vs) (all-kept (v ∷ vs) to t).0 (omega arith))
  continues K.Numbers (numbers bs) v vs to f t =
      let q : head_word (having (numbers bs)) - 0 ≡ head_word (having (numbers bs)) = omega arith in
      rw q (goes-numbers bs (v ∷ vs) (each_number (v ∷ vs) to t))
  continues K.Numbers (strings ss) v vs to f t = absurd f
  continues K.Strings (numbers bs) v vs to f t = absurd f
  continues K.Strings (strings ss) v vs to f t =
      let q : head_word (having (strings ss)) - 0 ≡ head_word (having (strings ss)) = omega arith in
      rw q (goes-strings ss (v ∷ vs) (each-string (v ∷ vs) to t))
