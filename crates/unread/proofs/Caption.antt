-- "Curators fear that a caption moves a globe": a caption's text, which an empty pool takes, moves none as it comes, goes or changes places, since none of
-- its names is one that a query may read. Assumes nothing.
use Prim.Native.Nat.{ℕ}
use mathlib.Core.Path.{◌≡◌, refl, ap, ◌∙◌, subst}
use mathlib.Core.Bool.{true, false}
use mathlib.Core.List.{List, [], ◌∷◌, ◌++◌}
use borrow.Author.Tests.{eq-eqb}
use lib.Dec.{eqb}
use Rattle.std.specs.Prelude.{Ok, Option, Some, None}
use Rattle.words.specs.Halves.{all}
use Rattle.rotation.specs.Codes.{system_of}
use Rattle.layout.specs.State.{Text, Pool}
use Rattle.layout.specs.Memory.{decode}
use Rattle.layout.specs.Damage.{sound}
use Rattle.pool.specs.Held.{held}
use Rattle.loading.specs.Load.{text_of}
use Rattle.feeding.specs.Parts.{joined}
use Rattle.opening.specs.Closing.{loaded_answer}
use Rattle.intake.specs.Calls.{are_bytes}
use Rattle.wanted.specs.Names.{name_of}
use Rattle.globe.specs.declared.source.Source.TheVariants as S
use Rattle.promises.specs.Calls.{load, close_load, replied, asked, library}
use Rattle.promises.specs.Histories.{after, fed_under, Fresh}
use Rattle.promises.proofs.Labels.{Apart, neither, held-before}
use Rattle.promises.proofs.Said.{State, closed, says}
use Rattle.promises.proofs.Held.{shut-of, proper-decoded}
use Rattle.promises.proofs.Sequences.{asked_is}
use Rattle.promises.proofs.Parts.{closed-answer}
use Rattle.promises.proofs.Histories.{fresh-is}
use Rattle.promises.proofs.Computing.{loading}
use Rattle.reads.specs.Names.{Name, Query, orientation_of, radii_of, orientation_names, radii_names, listed, names}
use Rattle.unread.specs.Unread.{has_one, contains, contains_under}
use Rattle.unread.specs.Caption.{caption, caption_states, CaptionAccepted, CaptionMovesNothing}
use Rattle.unread.proofs.Calls.{load-moves-nothing, parts-move-nothing, removal-moves-nothing, reload-moves-nothing, moving-moves-nothing}

unread : (q : Query) (label : ℕ) → contains (names q) (text_of label caption) ≡ false
unfolding listed caption contains has_one name_of loading
unread (orientation_of S.Builtin n epoch) label = refl
unread (orientation_of S.Pool n epoch) label = by (system_of n)
  where
    by : (k : Option ℕ) → contains (orientation_names n k) (text_of label caption) ≡ false
    by None = refl
    by (Some k) = refl
unread (radii_of S.Builtin n) label = refl
unread (radii_of S.Pool n) label = by (system_of n)
  where
    by : (k : Option ℕ) → contains (radii_names n k) (text_of label caption) ≡ false
    by None = refl
    by (Some k) = refl

caption-bytes : are_bytes caption ≡ true
unfolding caption all
caption-bytes = refl

-- its parts joined are its bytes
module _ (parts : List (List ℕ)) (e : joined parts ≡ caption) where
  parts-bytes : are_bytes (joined parts) ≡ true
  parts-bytes = ap are_bytes e ∙ caption-bytes

  parts-unread : (q : Query) (label : ℕ) → contains (names q) (text_of label (joined parts)) ≡ false
  parts-unread q label = ap (λ (bytes : List ℕ). contains (names q) (text_of label bytes)) e ∙ unread q label

-- the text under its label, wherever it is held: no text before it has the label
under-front : (ns : List Name) (t : Text) (front back : Pool) → held t.label front ≡ false → contains_under ns t.label (front ++ (t ∷ back)) ≡ contains ns t
unfolding held contains_under
under-front ns t [] back e = rw (eq-eqb t.label t.label refl)
under-front ns t (x ∷ front) back e =
    let p = neither (eqb x.label t.label) (held t.label front) e in
    rw p.0 (under-front ns t front back p.1)

module _ (q : Query) (m : List ℕ) (u : sound m ≡ true) (label : ℕ) (front back : Pool) (d : decode m ≡ front ++ (text_of label caption ∷ back)) where
  abbrev it : Text
  it = text_of label caption

  apart : held label front ≡ false
  unfolding text_of
  apart = held-before front it back (subst Apart d (proper-decoded m u).labels)

  caption-under : contains_under (names q) label (decode m) ≡ false
  unfolding text_of
  caption-under = ap (contains_under (names q) label) d ∙ under-front (names q) it front back apart ∙ unread q label

pub caption-moves-nothing : CaptionMovesNothing library
unfolding after
caption-moves-nothing = record {
  loaded = λ q m u label. load-moves-nothing q m u label caption (unread q label);
  fed = λ q m u o label parts e. parts-move-nothing.whole q m u o label parts (parts-bytes parts e) (parts-unread parts e q label);
  removed = λ q m u label front back d. removal-moves-nothing q m u label (caption-under q m u label front back d);
  reloaded = λ q m u label front back d. reload-moves-nothing.loaded q m u label caption (caption-under q m u label front back d) (unread q label);
  refed = λ q m u o label front back d parts e.
      reload-moves-nothing.fed q m u label parts (caption-under q m u label front back d) (parts-bytes parts e) o (parts-unread parts e q label);
  moved = λ q m m' u u' label front middle back d d'. moving-moves-nothing q m m' u u' front middle back (text_of label caption) (unread q label) d d';
}

-- ---- an empty pool takes it

module _ (m : List ℕ) (f : Fresh library m) (label : ℕ) where
  load-accepted : asked (load label caption) m ≡ replied (Ok tt)
  unfolding says caption loading
  load-accepted = asked_is (load label caption) m (closed []) (fresh-is m f)

  empty : decode m ≡ []
  empty = ap (λ (s : State). s.texts) (fresh-is m f).state

  fed-accepted : (parts : List (List ℕ)) → joined parts ≡ caption → asked close_load (fed_under library label parts m) ≡ replied (Ok tt)
  unfolding held caption loading
  fed-accepted parts e =
      closed-answer label parts m (parts-bytes parts e)
      (record { undamaged = (fresh-is m f).undamaged; none_open = shut-of m [] (fresh-is m f).state; free = ap (held label) empty })
      ∙ ap (λ (bytes : List ℕ). replied (loaded_answer label bytes (decode m))) e
      ∙ ap (λ (s : Pool). replied (loaded_answer label caption s)) empty

caption-stated : (label : ℕ) → (text_of label caption).body ≡ caption_states
unfolding caption loading
caption-stated label = refl

pub caption-accepted : CaptionAccepted library
caption-accepted = record { stated = caption-stated; loaded = load-accepted; fed = fed-accepted }
