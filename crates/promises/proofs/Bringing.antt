-- What any build keeps after a text came, all its calls being accepted: that text last; and while it is open, what was kept before. Assumes nothing.
use Prim.Native.Nat.{ℕ}
use mathlib.Core.Path.{◌≡◌, refl, ap, ◌∙◌}
use mathlib.Core.Bool.{Bool, true, false}
use mathlib.Core.List.{List, [], ◌∷◌, ◌++◌, map, append_assoc, append-nil}
use lib.ListN.{length}
use Rattle.std.specs.Prelude.{if◌then◌else◌}
use Rattle.layout.specs.State.{program}
use Rattle.loading.specs.Load.{text_of}
use Rattle.promises.specs.Calls as C
use Rattle.promises.specs.Calls.{Call, Build, number, accepted, ends_open}
use Rattle.promises.specs.Histories.{Way, whole, in_parts, Loaded, coming, loading, some, Kept, nothing, closed, kept, refused_with, after, still, AllAccepted, text, texts}
use Rattle.promises.proofs.Keeping.{kept_as}
use Rattle.promises.proofs.Computing.{reading-text}

module _ (b : Build) where
  -- one history after another
  pub after-append : (cs ds : List Call) (m : List ℕ) → after b (cs ++ ds) m ≡ after b ds (after b cs m)
  unfolding after
  after-append [] ds m = refl
  after-append (c ∷ cs) ds m = after-append cs ds (b.memory c m)

  pub still-append : (cs ds : List Call) (m : List ℕ) (k : Kept) → still b (cs ++ ds) m k ≡ still b ds (after b cs m) (still b cs m k)
  unfolding after still
  still-append [] ds m k = refl
  still-append (c ∷ cs) ds m k = still-append cs ds (b.memory c m) _

  -- ---- all accepted

  accepted-one : (c : Call) (cs : List Call) (m : List ℕ) (k : Kept) → accepted (b.answer c m) ≡ true
      → still b (c ∷ cs) m k ≡ still b cs (b.memory c m) (kept c k)
  unfolding still
  accepted-one c cs m k e = ap (λ (y : Bool). still b cs (b.memory c m) (if y then kept c k else refused_with c (number (b.answer c m)) k)) e

  module _ (ks : List Loaded) (label : ℕ) where
    still-closed : (before parts : List (List ℕ)) (m : List ℕ) → AllAccepted b (map C.feed_part parts ++ (C.close_load ∷ [])) m
        → still b (map C.feed_part parts ++ (C.close_load ∷ [])) m (kept_as ks (some label before))
        ≡ closed (ks ++ (record { label = label; way = in_parts (before ++ parts) } ∷ []))
    unfolding still AllAccepted
    still-closed before [] m y = rw (y.0, append-nil before)
    still-closed before (p ∷ ps) m y =
        accepted-one (C.feed_part p) (map C.feed_part ps ++ (C.close_load ∷ [])) m (kept_as ks (some label before)) y.0
        ∙ still-closed (before ++ (p ∷ [])) ps (b.memory (C.feed_part p) m) y.1 ∙ rw append_assoc

    still-coming : (way : Way) (m : List ℕ) → AllAccepted b (coming label way) m
        → still b (coming label way) m (closed ks) ≡ closed (ks ++ (record { label = label; way = way } ∷ []))
    unfolding still AllAccepted
    still-coming (whole bytes) m y = rw y.0
    still-coming (in_parts parts) m y =
        accepted-one (C.open_load label) (map C.feed_part parts ++ (C.close_load ∷ [])) m (closed ks) y.0
        ∙ still-closed [] parts (b.memory (C.open_load label) m) y.1

  pub still-loading : (ks : List Loaded) (k : Loaded) (m : List ℕ) → AllAccepted b (loading k) m → still b (loading k) m (closed ks) ≡ closed (ks ++ (k ∷ []))
  still-loading ks k m y = still-coming ks k.label k.way m y

  -- ---- while it is open, accepted or not

  either-texts : (y : Bool) (k k' : Kept) (ks : List Loaded) → k.texts ≡ ks → k'.texts ≡ ks → (if y then k else k').texts ≡ ks
  either-texts true k k' ks e f = e
  either-texts false k k' ks e f = f

  fed-texts : (parts : List (List ℕ)) (m : List ℕ) (k : Kept) → (still b (map C.feed_part parts) m k).texts ≡ k.texts
  unfolding still
  fed-texts [] m k = refl
  fed-texts (p ∷ ps) m k =
      fed-texts ps (b.memory (C.feed_part p) m) _ ∙ either-texts (accepted (b.answer (C.feed_part p) m)) (kept (C.feed_part p) k) k k.texts refl refl

  pub open-texts : (label : ℕ) (parts : List (List ℕ)) (m : List ℕ) (k : Kept) → (still b (C.open_load label ∷ map C.feed_part parts) m k).texts ≡ k.texts
  unfolding still
  open-texts label parts m k =
      fed-texts parts (b.memory (C.open_load label) m) _
      ∙ either-texts (accepted (b.answer (C.open_load label) m)) (kept (C.open_load label) k) k k.texts refl refl

-- a text that came without parts, if it came, has no statement
pub without-parts : (b : Build) (label : ℕ) (m : List ℕ) → length (program (texts b (coming label (in_parts [])) m)) ≡ 0
unfolding reading-text program text_of still
without-parts b label m =
    let a = b.answer C.close_load (b.memory (C.open_load label) m) in
    by (accepted (b.answer (C.open_load label) m)) (accepted a) (ends_open C.close_load (number a))
  where
    by : (y z e : Bool) → let k = if y then kept_as [] (some label []) else nothing in
        length (program (map text (if z then kept C.close_load k else (if e then closed k.texts else k)).texts)) ≡ 0
    by true true e = refl
    by true false true = refl
    by true false false = refl
    by false true e = refl
    by false false true = refl
    by false false false = refl
