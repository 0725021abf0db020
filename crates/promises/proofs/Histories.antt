-- After any sequence of calls the pool is in the state of what is still kept, and so is an empty pool into which the texts are brought the way they
-- came, each being accepted; and every answer is a function of the state. Assumes nothing.
use Prim.Native.Nat.{ℕ}
use mathlib.Core.Path.{◌≡◌, refl, sym, ap, ◌∙◌, subst}
use mathlib.Core.Bool.{true}
use mathlib.Core.List.{List, [], ◌∷◌, map}
use borrow.Author.Tests.{eq-eqb}
use lib.ListN.{length}
use Rattle.std.specs.Prelude.{if◌then◌else◌}
use Rattle.plain.proofs.Tests.{first_then}
use Rattle.words.specs.Halves.{all}
use Rattle.layout.specs.Limits.{WORDS}
use Rattle.layout.specs.Damage.{sized}
use Rattle.pool.specs.Empty.{empty_reply}
use Rattle.promises.specs.Calls as C
use Rattle.promises.specs.Calls.{Call, asked, leaves, query, library, number, accepted, typed}
use Rattle.promises.specs.Histories as H
use Rattle.promises.specs.Histories.{Loaded, none, Kept, nothing, kept, refused_with, after, still, Fresh, Typed, Replay, Onward, Replayed, text, texts, OfHeldTexts}
use Rattle.promises.proofs.Together.{together-none}
use Rattle.promises.proofs.Said.{closed, says, query-says}
use Rattle.promises.proofs.Held.{Is, emptied-is}
use Rattle.promises.proofs.Sequences.{asked_is, is-step, is-after, all-accepted}
use Rattle.promises.proofs.Keeping.{openness_for, state_for, Keepable, goes}
use Rattle.promises.proofs.Replaying.{replayed-said, replayed-steps, typed-replayed}

-- the memory is undamaged and in the state of what is kept, which can be held together
record Holds (m : List ℕ) (k : Kept) : Type 0 where
  is : Is m (state_for k)
  good : Keepable k

pub fresh-is : (m : List ℕ) → Fresh library m → Is m (closed [])
unfolding leaves empty_reply
fresh-is m f =
    let e : leaves C.make_empty f.earlier ≡ m = sym f.emptied in
    let z : sized f.earlier ≡ true = eq-eqb (length f.earlier) WORDS f.size in
    subst (λ (x : List ℕ). Is x (closed [])) e (rw z (emptied-is f.earlier f.size))

fresh_holds : (m : List ℕ) → Fresh library m → Holds m nothing
fresh_holds m f = record { is = fresh-is m f; good = record { together = together-none; opened = tt } }

holds-leaves : (c : Call) (m : List ℕ) (k : Kept) → typed c ≡ true → Holds m k
    → Holds (leaves c m) (if accepted (asked c m) then kept c k else refused_with c (number (asked c m)) k)
holds-leaves c m k t h =
    let a : asked c m ≡ says c (state_for k) = asked_is c m (state_for k) h.is in
    let i = is-step c m (state_for k) t h.is in
    let x = goes c k.texts k.opened t h.good.together h.good.opened in
    rw a (record { is = record { undamaged = i.undamaged; state = i.state ∙ x.state }; good = x.good })

holds_after : (cs : List Call) (m : List ℕ) (k : Kept) → Typed cs → Holds m k → Holds (after library cs m) (still library cs m k)
unfolding after still all
holds_after [] m k t h = h
holds_after (c ∷ cs) m k t h =
    let p = first_then (typed c) (all typed cs) t in
    holds_after cs (leaves c m) (if accepted (asked c m) then kept c k else refused_with c (number (asked c m)) k) p.1 (holds-leaves c m k p.0 h)

-- what a history keeps, and what its replay holds
module _ (m : List ℕ) (f : Fresh library m) (history : List Call) (t : Typed history) where
  abbrev ks : List Loaded
  ks = (still library history m nothing).texts

  ends : Holds (after library history m) (still library history m nothing)
  ends = holds_after history m nothing t (fresh_holds m f)

  replay-is : (m' : List ℕ) → Fresh library m' → Is (after library (H.replayed ks) m') (closed (map text ks))
  replay-is m' f' =
      let g = ends.good.together in
      subst (Is (after library (H.replayed ks) m')) (replayed-steps ks g)
      (is-after (H.replayed ks) m' (closed []) (typed-replayed ks g.readable) (fresh-is m' f'))

  -- the pool after it, also while a text is open, and where none is
  pub after_is : Is (after library history m) (state_for (still library history m nothing))
  after_is = ends.is

  pub none_is : (still library history m nothing).opened ≡ none → Is (after library history m) (closed (map text ks))
  none_is o = subst (Is (after library history m)) (ap (λ x. record { texts = map text ks; opened = openness_for (map text ks) x }) o) ends.is

pub replayed : Replayed library
replayed m m' f f' history t =
    let g = (ends m f history t).good.together in
    all-accepted (H.replayed (ks m f history t)) m' (closed []) (typed-replayed (ks m f history t) g.readable) (fresh-is m' f') (replayed-said (ks m f history t) g)

pub onward : Onward library
onward m m' f f' history further c t u o =
    let s = closed (map text (ks m f history t)) in
    asked_is c _ _ (is-after further _ s u (none_is m f history t o))
    ∙ sym (asked_is c _ _ (is-after further _ s u (replay-is m f history t m' f')))

pub replay : Replay library
unfolding after all
replay m m' f f' history c t o = onward m m' f f' history [] c t refl o

-- what a query answers after it, also while a text is open
pub answered : (m : List ℕ) → Fresh library m → (history : List Call) (c : Call) → Typed history → query c ≡ true
    → asked c (after library history m) ≡ says c (closed (texts library history m))
answered m f history c t q =
    asked_is c (after library history m) _ (ends m f history t).is ∙ query-says c (state_for (still library history m nothing)) q

pub of-held-texts : OfHeldTexts library
unfolding says
of-held-texts =
    record {
      variables = λ m f history name buffer t. answered m f history (C.fetch name buffer) t refl;
      strings = λ m f history name place buffer t. answered m f history (C.fetch_string name place buffer) t refl;
      sums = λ m f history t. answered m f history C.totals t refl;
    }
