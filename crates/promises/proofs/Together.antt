-- Texts that can be held together can be held in part, and with one more that is accepted. Assumes nothing.
use Prim.Native.Nat.{ℕ, ◌≤◌}
use mathlib.Core.Path.{◌≡◌, refl, sym, ap, ◌∙◌, subst}
use mathlib.Core.Bool.{Bool, true, false}
use mathlib.Core.List.{List, [], ◌∷◌, ◌++◌, map, append_assoc}
use lib.Dec.{eqb}
use lib.ListN.{length}
use Rattle.std.specs.Prelude.{if◌then◌else◌}
use Rattle.text.specs.Text.{read_text}
use Rattle.plain.proofs.Each.{Each, each_append, each_right}
use Rattle.layout.specs.State.{Pool, program, flat}
use Rattle.layout.specs.Limits.{room, LONGEST_LOAD}
use Rattle.pool.specs.Replies.{done}
use Rattle.loading.specs.Load.{text_of, with, admitted}
use Rattle.pool.specs.Remove.{without}
use Rattle.feeding.specs.Parts.{MOST}
use Rattle.promises.specs.Histories.{Way, whole, in_parts, Loaded, loading, removing, Typed, bytes_of, text}
use Rattle.promises.proofs.Accepted.{Taken}
use Rattle.promises.proofs.Room.{room-front, room-without}
use Rattle.promises.proofs.Labels.{Apart, apart-with, apart-without, held-before}

-- "with 4,194,304 bytes as the limit here": by the way that a text came
abbrev pub longest_of : Way → ℕ
longest_of (whole bytes) = LONGEST_LOAD
longest_of (in_parts parts) = MOST

-- the rules admit its bytes, they are not too many, and its parts are bytes
pub record Readable (k : Loaded) : Type 0 where
  pub short : length (bytes_of k.way) ≤ longest_of k.way
  pub reads : done (admitted (read_text (bytes_of k.way)) true) ≡ true
  pub typed : Typed (loading k)

-- it is accepted where these texts are held
abbrev pub TakenBy : Pool → Loaded → Type 0
TakenBy s k = Taken (longest_of k.way) k.label (bytes_of k.way) s

-- they can be held together
pub record Together (ks : List Loaded) : Type 0 where
  pub labels : Apart (map text ks)
  pub fits : room (map text ks) ≡ true
  pub readable : Each Readable ks

map-append : {A B : Type 0} (f : A → B) (xs ys : List A) → map f (xs ++ ys) ≡ map f xs ++ map f ys
map-append f [] ys = refl
map-append {B = B} f (x ∷ xs) ys = ap (λ (l : List B). f x ∷ l) (map-append f xs ys)

-- ---- none, one more

pub together-none : Together []
unfolding room program flat
together-none = record { labels = tt; fits = refl; readable = tt }

pub map_last : (ks : List Loaded) (k : Loaded) → map text (ks ++ (k ∷ [])) ≡ with (map text ks) (text k)
map_last ks k = map-append text ks (k ∷ [])

pub together-last : (ks : List Loaded) (k : Loaded) → Together ks → TakenBy (map text ks) k → Typed (loading k) → Together (ks ++ (k ∷ []))
unfolding text_of
together-last ks k g t b = record {
  labels = subst Apart (sym (map_last ks k)) (apart-with (map text ks) (text k) g.labels t.free);
  fits = ap room (map_last ks k) ∙ t.fits;
  readable = each_append Readable ks (k ∷ []) g.readable (record { short = t.short; reads = t.reads; typed = b }, tt);
}

-- ---- one left out

pub map-removing : (label : ℕ) (ks : List Loaded) → map text (removing label ks) ≡ without label (map text ks)
unfolding removing without text_of
map-removing label [] = refl
map-removing label (k ∷ ks) = by (eqb k.label label) (map-removing label ks)
  where
    by : (b : Bool) → map text (removing label ks) ≡ without label (map text ks)
        → map text (if b then ks else (k ∷ removing label ks)) ≡ (if b then map text ks else (text k ∷ without label (map text ks)))
    by true e = refl
    by false e = ap (λ (l : Pool). text k ∷ l) e

each-removing : (P : Loaded → Type 0) (label : ℕ) (ks : List Loaded) → Each P ks → Each P (removing label ks)
unfolding removing
each-removing P label [] f = tt
each-removing P label (k ∷ ks) f = by (eqb k.label label) (each-removing P label ks f.1)
  where
    by : (b : Bool) → Each P (removing label ks) → Each P (if b then ks else (k ∷ removing label ks))
    by true g = f.1
    by false g = (f.0, g)

pub together-removing : (label : ℕ) (ks : List Loaded) → Together ks → Together (removing label ks)
together-removing label ks g = record {
  labels = subst Apart (sym (map-removing label ks)) (apart-without label (map text ks) g.labels);
  fits = ap room (map-removing label ks) ∙ room-without label (map text ks) g.fits;
  readable = each-removing Readable label ks g.readable;
}

-- ---- loaded one after the other, each is accepted after those before it

pub together-taken : (before : List Loaded) (k : Loaded) (more : List Loaded) → Together (before ++ (k ∷ more)) → TakenBy (map text before) k
unfolding text_of
together-taken before k more g =
    let e : map text (before ++ (k ∷ more)) ≡ map text before ++ (text k ∷ map text more) = map-append text before (k ∷ more) in
    let f : map text before ++ (text k ∷ map text more) ≡ with (map text before) (text k) ++ map text more = sym (append_assoc (map text before) (text k ∷ []) (map text more)) in
    let r = (each_right Readable before (k ∷ more) g.readable).0 in
    record {
      free = held-before (map text before) (text k) (map text more) (subst Apart e g.labels);
      short = r.short;
      fits = room-front (with (map text before) (text k)) (map text more) (sym (ap room (e ∙ f)) ∙ g.fits);
      reads = r.reads;
    }

pub together-front : (before more : List Loaded) → Together (before ++ more) → room (map text before) ≡ true
together-front before more g = room-front (map text before) (map text more) (sym (ap room (map-append text before more)) ∙ g.fits)
