-- After any history the pool is undamaged and holds the texts of the history, so that what moves nothing there moves nothing after it. Assumes
-- nothing.
use Prim.Native.Nat.{ℕ}
use mathlib.Core.Path.{◌≡◌, sym, ap, ◌∙◌}
use mathlib.Core.Bool.{true, false}
use mathlib.Core.List.{List}
use Rattle.layout.specs.Memory.{decode, opens}
use Rattle.layout.specs.Damage.{sound}
use Rattle.promises.specs.Calls.{Call, asked, library}
use Rattle.promises.specs.Histories.{none, nothing, after, still, Fresh, Typed, texts}
use Rattle.promises.proofs.Said.{State}
use Rattle.promises.proofs.Held.{shut-of}
use Rattle.promises.proofs.Bringing.{after-append}
use Rattle.promises.proofs.Histories.{after_is, none_is}
use Rattle.reads.specs.Names.{Name, Query, names}
use Rattle.unread.specs.Unread.{call, containing, contains_under}
use Rattle.unread.specs.After.{Unmoved, MovesNothingAfter}
use Rattle.unread.proofs.Calls.{load-moves-nothing, parts-move-nothing, removal-moves-nothing, reload-moves-nothing, moved-alike, independent-after}

module _ (m : List ℕ) (f : Fresh library m) (history : List Call) (t : Typed history) where
  abbrev then : List ℕ
  then = after library history m

  undamaged : sound then ≡ true
  undamaged = (after_is m f history t).undamaged

  shut : (still library history m nothing).opened ≡ none → opens then ≡ false
  shut o = shut-of then (texts library history m) (none_is m f history t o).state

  under : (ns : List Name) (label : ℕ) → contains_under ns label (texts library history m) ≡ false → contains_under ns label (decode then) ≡ false
  under ns label e = ap (λ (s : State). contains_under ns label s.texts) (after_is m f history t).state ∙ e

  -- what moves nothing there moves nothing after the history
  more : (q : Query) (further : List Call) → asked (call q) (after library further then) ≡ asked (call q) then → Unmoved library q m history further
  more q further e = ap (asked (call q)) (after-append library history further m) ∙ e

pub moves-nothing-after : MovesNothingAfter library
unfolding after
moves-nothing-after = record {
  loaded = λ q m f history t label bytes e.
      more m f history t q _ (load-moves-nothing q (then m f history t) (undamaged m f history t) label bytes e);
  fed = λ q m f history t o label parts y e.
      more m f history t q _ (parts-move-nothing.whole q (then m f history t) (undamaged m f history t) (shut m f history t o) label parts y e);
  removed = λ q m f history t label e.
      more m f history t q _ (removal-moves-nothing q (then m f history t) (undamaged m f history t) label (under m f history t (names q) label e));
  reloaded = λ q m f history t label bytes e g.
      more m f history t q _
      (reload-moves-nothing.loaded q (then m f history t) (undamaged m f history t) label bytes (under m f history t (names q) label e) g);
  refed = λ q m f history t o label parts e y g.
      more m f history t q _
      (reload-moves-nothing.fed q (then m f history t) (undamaged m f history t) label parts (under m f history t (names q) label e) y
      (shut m f history t o) g);
  moved = λ q m m' f f' history history' t t' front middle back x e d d'.
      independent-after q m m' f f' history history' t t'
      (ap (containing (names q)) d ∙ moved-alike q front middle back x e ∙ sym (ap (containing (names q)) d'));
}
