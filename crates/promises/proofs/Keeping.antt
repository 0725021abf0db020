-- A call takes the texts that are kept, and the open one's parts so far, as it takes the state: a closing is one load of the parts joined.
-- Assumes nothing.
use Prim.Native.Nat.{ℕ}
use mathlib.Core.Path.{◌≡◌, refl, sym, ap, ◌∙◌}
use mathlib.Core.Bool.{Bool, true, false}
use mathlib.Core.List.{List, [], ◌∷◌, ◌++◌, map}
use Rattle.std.specs.Prelude.{if◌then◌else◌, Ok}
use Rattle.plain.proofs.Tests.{first_then}
use Rattle.plain.proofs.Each.{each_append, each_left}
use Rattle.refusal.specs.declared.Refusal.TheVariants.{LabelHeld, NotHeld}
use Rattle.words.specs.Halves.{all}
use Rattle.words.proofs.Each.{all-each, each_all}
use Rattle.layout.specs.State.{Pool}
use Rattle.pool.specs.Replies.{reply_number, done, refusing}
use Rattle.pool.specs.Held.{held}
use Rattle.loading.specs.Load.{text_of, with, load_answer}
use Rattle.pool.specs.Remove.{without}
use Rattle.feeding.specs.Parts.{MOST, Open, opening, fed, fed_all, joined}
use Rattle.opening.specs.Storing.{Progress, start, complete}
use Rattle.opening.specs.Closing.{close_answer, closed_pool, loaded_answer}
use Rattle.opening.proofs.Closing.{cut-in-pool}
use Rattle.promises.specs.Calls as C
use Rattle.promises.specs.Calls.{Call, number, accepted, ends_open, typed}
use Rattle.promises.specs.Histories as H
use Rattle.promises.specs.Histories.{whole, in_parts, Loaded, Opened, none, some, Kept, removing, kept, refused_with, Typed, text}
use Rattle.promises.proofs.Told.{told}
use Rattle.promises.proofs.Refusals.{accepted-done}
use Rattle.promises.proofs.Accepted.{taken-done, taken-measured}
use Rattle.promises.proofs.Together.{Together, together-none, map_last, together-last, map-removing, together-removing}
use Rattle.promises.proofs.Said.{Openness, shut, ajar, State, closed, says}
use Rattle.promises.proofs.Steps.{step}

-- ---- what is kept, as a state

abbrev pub kept_as : List Loaded → Opened → Kept
kept_as ks x = record { texts = ks; opened = x }

abbrev pub openness_for : Pool → Opened → Openness
openness_for s none = shut
openness_for s (some label parts) = ajar label (fed_all (complete s) (opening start) parts)

abbrev pub state_for : Kept → State
state_for k = record { texts = map text k.texts; opened = openness_for (map text k.texts) k.opened }

-- the open one's label is not held, and its parts are bytes
abbrev pub Open-for : Pool → Opened → Type 0
Open-for s none = Unit {0}
Open-for s (some label parts) = (held label s ≡ false) × Typed (map C.feed_part parts)

-- the texts can be held together, and the open one beside them
pub record Keepable (k : Kept) : Type 0 where
  pub together : Together k.texts
  pub opened : Open-for (map text k.texts) k.opened

-- ---- after a call

-- what is kept after it
abbrev pub keeps : Call → Kept → Kept
keeps c k = if accepted (says c (state_for k)) then kept c k else refused_with c (number (says c (state_for k))) k

-- the state is that of what is kept
pub record Goes (s : State) (k : Kept) : Type 0 where
  pub state : s ≡ state_for k
  pub good : Keepable k

either : {X : Type 0} (b : Bool) (x : X) → (if b then x else x) ≡ x
either true x = refl
either false x = refl

fed-last : {P : Type 0} (f : P → ℕ → List ℕ → P) (o : Open P) (parts : List (List ℕ)) (part : List ℕ)
    → fed f (fed_all f o parts) part ≡ fed_all f o (parts ++ (part ∷ []))
unfolding fed_all
fed-last f o [] part = refl
fed-last f o (p ∷ ps) part = fed-last f (fed f o p) ps part

pub typed-append : (cs ds : List Call) → Typed cs → Typed ds → Typed (cs ++ ds)
typed-append cs ds e f = each_all typed (cs ++ ds) (each_append (λ c. typed c ≡ true) cs ds (all-each typed cs e) (all-each typed ds f))

pub typed-front : (cs ds : List Call) → Typed (cs ++ ds) → Typed cs
typed-front cs ds e = each_all typed cs (each_left (λ c. typed c ≡ true) cs ds (all-each typed (cs ++ ds) e))

typed-last : (parts : List (List ℕ)) (part : List ℕ) → Typed (map C.feed_part parts) → typed (C.feed_part part) ≡ true
    → Typed (map C.feed_part (parts ++ (part ∷ [])))
unfolding all
typed-last [] part e t = rw t
typed-last (p ∷ ps) part e t = let q = first_then (typed (C.feed_part p)) (all typed (map C.feed_part ps)) e in rw q.0 (typed-last ps part q.1 t)

module _ (ks : List Loaded) (g : Together ks) where
  -- the texts, as they are kept and as they are held
  abbrev s : Pool
  s = map text ks

  -- a refusal that changes nothing
  unchanged : (x : Opened) → Open-for s x → Goes (state_for (kept_as ks x)) (kept_as ks x)
  unchanged x h = record { state = refl; good = record { together = g; opened = h } }

  -- with none open
  shut-goes : (s' : Pool) (ks' : List Loaded) → s' ≡ map text ks' → Together ks' → Goes (closed s') (H.closed ks')
  shut-goes s' ks' e g' = record { state = ap closed e; good = record { together = g'; opened = tt } }

  load_goes : (label : ℕ) (bytes : List ℕ) (b : Bool) → done (load_answer label bytes s) ≡ b
      → Goes (if b then closed (with s (text_of label bytes)) else closed s)
      (if b then H.closed (ks ++ (record { label = label; way = whole bytes } ∷ [])) else H.closed ks)
  unfolding all
  load_goes label bytes true h =
      let k : Loaded = record { label = label; way = whole bytes } in
      shut-goes (with s (text k)) (ks ++ (k ∷ [])) (sym (map_last ks k)) (together-last ks k g (taken-done label bytes s h) refl)
  load_goes label bytes false h = unchanged none tt

  open-goes : (label : ℕ) (b : Bool) → held label s ≡ b
      → Goes (if done (if b then refusing LabelHeld else Ok tt) then record { texts = s; opened = ajar label (opening start) } else closed s)
      (if accepted (C.replied (if b then refusing LabelHeld else Ok tt)) then kept_as ks (some label []) else H.closed ks)
  unfolding fed_all all
  open-goes label true h = unchanged none tt
  open-goes label false h = record { state = refl; good = record { together = g; opened = (h, refl) } }

  feed-goes : (label : ℕ) (parts : List (List ℕ)) (part : List ℕ) → Open-for s (some label parts) → typed (C.feed_part part) ≡ true
      → Goes (record { texts = s; opened = ajar label (fed (complete s) (fed_all (complete s) (opening start) parts) part) })
      (kept_as ks (some label (parts ++ (part ∷ []))))
  feed-goes label parts part h t = record {
    state = ap (λ (o : Open Progress). record { texts = s; opened = ajar label o }) (fed-last (complete s) (opening start) parts part);
    good = record { together = g; opened = (h.0, typed-last parts part h.1 t) };
  }

  module _ (label : ℕ) (parts : List (List ℕ)) (h : Open-for s (some label parts)) where
    abbrev o : Open Progress
    o = fed_all (complete s) (opening start) parts

    abbrev k : Loaded
    k = record { label = label; way = in_parts parts }

    close-goes : (b : Bool) → done (close_answer s o) ≡ b
        → Goes (closed (closed_pool s label o))
        (if b then H.closed (ks ++ (k ∷ []))
        else (if ends_open C.close_load (reply_number (close_answer s o)) then H.closed ks else kept_as ks (some label parts)))
    unfolding all
    close-goes true d =
        let c = cut-in-pool.closes s label parts g.fits in
        let e : done (loaded_answer label (joined parts) s) ≡ true = sym (ap done c.answer) ∙ d in
        let p : closed_pool s label o ≡ with s (text k) = c.pool ∙ rw e in
        shut-goes (closed_pool s label o) (ks ++ (k ∷ [])) (p ∙ sym (map_last ks k))
        (together-last ks k g (taken-measured MOST label (joined parts) s h.0 e) (typed-append (map C.feed_part parts) (C.close_load ∷ []) h.1 refl))
    close-goes false d =
        let c = cut-in-pool.closes s label parts g.fits in
        let e : done (loaded_answer label (joined parts) s) ≡ false = sym (ap done c.answer) ∙ d in
        let p : closed_pool s label o ≡ s = c.pool ∙ rw e in
        rw ((told s o).ends d) (shut-goes (closed_pool s label o) ks p g)

  remove-goes : (label : ℕ) (b : Bool)
      → Goes (if done (if b then Ok tt else refusing NotHeld) then closed (without label s) else closed s)
      (if accepted (C.replied (if b then Ok tt else refusing NotHeld)) then H.closed (removing label ks) else H.closed ks)
  remove-goes label true = shut-goes (without label s) (removing label ks) (sym (map-removing label ks)) (together-removing label ks g)
  remove-goes label false = unchanged none tt

pub goes : (c : Call) (ks : List Loaded) (x : Opened) → typed c ≡ true → Together ks → Open-for (map text ks) x
    → Goes (step c (state_for (kept_as ks x))) (keeps c (kept_as ks x))
unfolding step says
goes C.make_empty ks x t g h = record { state = refl; good = record { together = together-none; opened = tt } }
goes (C.load label bytes) ks none t g h =
    rw (accepted-done (load_answer label bytes (map text ks))) (load_goes ks g label bytes (done (load_answer label bytes (map text ks))) refl)
goes (C.load label bytes) ks (some l parts) t g h = unchanged ks g (some l parts) h
goes (C.open_load label) ks none t g h = open-goes ks g label (held label (map text ks)) refl
goes (C.open_load label) ks (some l parts) t g h = unchanged ks g (some l parts) h
goes (C.feed_part part) ks none t g h = unchanged ks g none h
goes (C.feed_part part) ks (some label parts) t g h = feed-goes ks g label parts part h t
goes C.close_load ks none t g h = unchanged ks g none h
goes C.close_load ks (some label parts) t g h =
    rw (accepted-done (close_answer (map text ks) (o ks g label parts h)))
    (close-goes ks g label parts h (done (close_answer (map text ks) (o ks g label parts h))) refl)
goes C.drop_load ks none t g h = unchanged ks g none h
goes C.drop_load ks (some label parts) t g h = shut-goes ks g (map text ks) ks refl g
goes (C.remove label) ks none t g h = remove-goes ks g label (held label (map text ks))
goes (C.remove label) ks (some l parts) t g h = unchanged ks g (some l parts) h
goes C.clear ks none t g h = shut-goes ks g [] [] refl together-none
goes C.clear ks (some l parts) t g h = unchanged ks g (some l parts) h
goes (C.fetch name buffer) ks x t g h = rw (either (accepted (says (C.fetch name buffer) (state_for (kept_as ks x)))) _) (unchanged ks g x h)
goes (C.fetch_string name place buffer) ks x t g h =
    rw (either (accepted (says (C.fetch_string name place buffer) (state_for (kept_as ks x)))) _) (unchanged ks g x h)
goes C.totals ks x t g h = unchanged ks g x h
goes (C.orientation source code epoch) ks x t g h =
    rw (either (accepted (says (C.orientation source code epoch) (state_for (kept_as ks x)))) _) (unchanged ks g x h)
goes (C.radii source code) ks x t g h =
    rw (either (accepted (says (C.radii source code) (state_for (kept_as ks x)))) _) (unchanged ks g x h)
