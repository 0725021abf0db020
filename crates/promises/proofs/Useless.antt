-- No useless build meets the demand named for it: each demand, taken at a small instance or at two histories, says what such a build denies.
-- Assumes nothing.
use Prim.Native.Nat.{ℕ}
use native.Mathlib.Omega.{arith}
use mathlib.Core.Path.{◌≡◌, refl, sym, ap, ◌∙◌}
use mathlib.Core.Bool.{true, true≢false}
use mathlib.Core.List.{List, [], ◌∷◌, ◌++◌, map}
use borrow.Author.Tests.{eq-eqb, le-ltb}
use lib.Dec.{eqb}
use lib.ListN.{length}
use Rattle.plain.specs.Doubles.{printed, nought}
use Rattle.rotation.specs.declared.matrix.Orientation.{Orientation}
use Rattle.rotation.specs.declared.table.Axes.{Axes}
use Rattle.text.specs.Columns.{column_of}
use Rattle.value.specs.Faults.{refusal_of}
use Rattle.words.specs.Halves.{all}
use Rattle.layout.specs.State.{program}
use Rattle.layout.specs.Memory.{decode}
use Rattle.layout.proofs.Legal.{program-one}
use Rattle.plain.proofs.Tests.{both}
use Rattle.pool.specs.Replies.{Counted, reply_line, reply_column, counts_texts, counts_statements, refusing_at}
use Rattle.layout.specs.Limits.{LONGEST_LOAD}
use Rattle.loading.specs.Load.{load_answer, load_reply}
use Rattle.pool.specs.Totals.{counts}
use Rattle.wanted.specs.Elements.{all_there}
use Rattle.globe.specs.declared.source.Source.TheVariants as S
use Rattle.promises.specs.Calls.{open_load, feed_part, close_load, remove, totals, Answer, replied, counted, Build, accepted}
use Rattle.promises.specs.Demands.{Contracts, Demand2, NeverBlended}
use Rattle.promises.specs.Histories.{in_parts, Loaded, coming, loading, Kept, nothing, closed, removing, after, fed_under, still, Fresh, Typed, AllAccepted, text, texts}
use Rattle.promises.specs.Demand3.{Demand3}
use Rattle.promises.specs.Marked.{bits}
use Rattle.promises.specs.Useless.{RefusesEveryText, RefusesEveryEpoch, ConstantOrientation, NeverTurns, ConstantRadii, RefusesEverySecond, Blends, StoresNothing, HeedsFirstOnly, OnlySaysYes, ForgetsParts, ShowsOpen, OtherTotals, InventedLine, Caught}
use Rattle.promises.proofs.Reports.{same}
use Rattle.promises.proofs.Keeping.{typed-append, typed-front}
use Rattle.promises.proofs.Bringing.{after-append, still-append, still-loading, open-texts, without-parts}
use Rattle.promises.proofs.Instances.{noughts, empty-text, holding, holding-one, second-text, a_day, earth_at_0, earth_after_a_day, sun_at_0, earth-given, later-given, sun-given, earth-ra, later-ra, sun-ra, mercury, pluto, mercury-given, pluto-given, mercury-a, pluto-a}

-- ---- demand 2

module _ (b : Build) (d : Demand2 b) where
  refuses-every-text : RefusesEveryText b → ⊥
  refuses-every-text u = true≢false (sym ((d.texts 1 [] noughts).1 empty-text) ∙ u 1 [] noughts)

  refuses-every-second : RefusesEverySecond b → ⊥
  refuses-every-second u = true≢false (sym ((d.texts 2 [] holding).1 second-text) ∙ u 2 [] holding holding-one)

  refuses-every-epoch : RefusesEveryEpoch b → ⊥
  refuses-every-epoch u =
      let e = (d.table_orientations [] 399 nought earth_at_0).1 earth-given in
      true≢false (sym (ap accepted e) ∙ u S.Builtin 399 nought [])

  constant-orientation : ConstantOrientation b → ⊥
  constant-orientation u =
      let e : earth_at_0 ≡ u.single = u.always S.Builtin 399 nought [] earth_at_0 ((d.table_orientations [] 399 nought earth_at_0).1 earth-given) in
      let f : sun_at_0 ≡ u.single = u.always S.Builtin 10 nought [] sun_at_0 ((d.table_orientations [] 10 nought sun_at_0).1 sun-given) in
      true≢false (sym earth-ra ∙ ap (λ (o : Orientation). eqb (bits o.ra) 0) (e ∙ sym f) ∙ sun-ra)

  never-turns : NeverTurns b → ⊥
  never-turns u =
      let e = (d.table_orientations [] 399 nought earth_at_0).1 earth-given in
      let f = (d.table_orientations [] 399 a_day earth_after_a_day).1 later-given in
      true≢false (sym earth-ra ∙ ap (λ (o : Orientation). eqb (bits o.ra) 0) (u S.Builtin 399 nought a_day [] earth_at_0 earth_after_a_day e f) ∙ later-ra)

  constant-radii : ConstantRadii b → ⊥
  constant-radii u =
      let e : mercury ≡ u.single = u.always S.Builtin 199 [] mercury ((d.table_radii [] 199 mercury).1 mercury-given) in
      let f : pluto ≡ u.single = u.always S.Builtin 999 [] pluto ((d.table_radii [] 999 pluto).1 pluto-given) in
      true≢false (sym pluto-a ∙ ap (λ (x : Axes). eqb (bits x.a) (bits (printed 1195 0))) (f ∙ sym e) ∙ mercury-a)

-- ---- never blended: what a pool gives, it has whole

blends : (b : Build) → NeverBlended b → Blends b → ⊥
blends b d u =
    let h = d.pool_orientations u.m u.n u.epoch u.given u.gives in
    true≢false (sym (both (all_there (decode u.m) u.n) _ h.whole).0 ∙ u.lacking)

-- ---- demand 3: totals tell how many texts are held

abbrev told : Kept → Answer
told k = counted (counts (map text k.texts))

told_same : (t t' : Counted) → counted t ≡ counted t' → t ≡ t'
told_same t t' e = cc

module _ (b : Build) (d : Demand3 b) where
  -- memories that answer alike hold as many texts
  as_many : {m m' : List ℕ} (t t' : Counted) → b.answer totals m ≡ b.answer totals m' → b.answer totals m ≡ counted t → b.answer totals m' ≡ counted t'
      → counts_texts t ≡ counts_texts t'
  as_many t t' q e f = let z : t ≡ t' = cc in ap counts_texts z

  module _ (m : List ℕ) (f : Fresh b m) where
    totals-none : b.answer totals m ≡ counted (counts [])
    unfolding after still all
    totals-none = d.held.sums m f [] refl

    totals-one : (k : Loaded) → Typed (loading k) → AllAccepted b (loading k) m → b.answer totals (after b (loading k) m) ≡ counted (counts (text k ∷ []))
    totals-one k t y = d.held.sums m f (loading k) t ∙ ap told (still-loading b [] k m y)

    totals-two : (k l : Loaded) → Typed (loading k ++ loading l) → AllAccepted b (loading k) m → AllAccepted b (loading l) (after b (loading k) m)
        → b.answer totals (after b (loading l) (after b (loading k) m)) ≡ counted (counts (text k ∷ text l ∷ []))
    totals-two k l t y z =
        ap (b.answer totals) (sym (after-append b (loading k) (loading l) m)) ∙ d.held.sums m f (loading k ++ loading l) t
        ∙ ap told (still-append b (loading k) (loading l) m nothing ∙ ap (still b (loading l) (after b (loading k) m)) (still-loading b [] k m y)
        ∙ still-loading b (k ∷ []) l (after b (loading k) m) z)

    totals-removed : (k : Loaded) → Typed (loading k) → AllAccepted b (loading k) m → accepted (b.answer (remove k.label) (after b (loading k) m)) ≡ true
        → b.answer totals (b.memory (remove k.label) (after b (loading k) m)) ≡ counted (counts [])
    unfolding after still removing all
    totals-removed k t y z =
        let r = remove k.label ∷ [] in
        let e : still b r (after b (loading k) m) (closed (k ∷ [])) ≡ nothing = rw (z, eq-eqb k.label k.label refl) in
        ap (b.answer totals) (sym (after-append b (loading k) r m)) ∙ d.held.sums m f (loading k ++ r) (typed-append (loading k) r t refl)
        ∙ ap told (still-append b (loading k) r m nothing ∙ ap (still b r (after b (loading k) m)) (still-loading b [] k m y) ∙ e)

    module _ (label : ℕ) (parts : List (List ℕ)) (t : Typed (coming label (in_parts parts))) where
      -- while a text is open
      totals-open : b.answer totals (fed_under b label parts m) ≡ counted (counts [])
      totals-open =
          d.held.sums m f (open_load label ∷ map feed_part parts) (typed-front (open_load label ∷ map feed_part parts) (close_load ∷ []) t)
          ∙ ap (λ (ks : List Loaded). counted (counts (map text ks))) (open-texts b label parts m nothing)

  stores-nothing : StoresNothing b → ⊥
  stores-nothing u =
      let n =
      as_many (counts (text u.text ∷ [])) (counts []) (u.nothing totals)
      (totals-one u.m u.empty u.text u.bytes u.yes) (totals-none u.m u.empty)
      in
      omega (arith, n)

  heeds-first-only : HeedsFirstOnly b → ⊥
  heeds-first-only u =
      let n =
      as_many (counts (text u.first ∷ text u.second ∷ [])) (counts (text u.first ∷ [])) (u.nothing totals)
      (totals-two u.m u.empty u.first u.second u.bytes u.yes u.again)
      (totals-one u.m u.empty u.first (typed-front (loading u.first) (loading u.second) u.bytes) u.yes)
      in
      omega (arith, n)

  only-says-yes : OnlySaysYes b → ⊥
  only-says-yes u =
      let n =
      as_many (counts []) (counts (text u.text ∷ [])) (u.nothing totals)
      (totals-removed u.m u.empty u.text u.bytes u.held u.yes) (totals-one u.m u.empty u.text u.bytes u.held)
      in
      omega (arith, n)

  forgets-parts : ForgetsParts b → ⊥
  unfolding all
  forgets-parts u =
      let k : Loaded = record { label = u.label; way = in_parts u.parts } in
      let e : counts (text k ∷ []) ≡ counts (texts b (coming u.label (in_parts [])) u.m) =
      told_same _ _ (sym (totals-one u.m u.empty k u.bytes u.yes) ∙ u.forgotten totals ∙ d.held.sums u.m u.empty (coming u.label (in_parts [])) refl) in
      let n : length (program (text k ∷ [])) ≡ 0 = ap counts_statements e ∙ without-parts b u.label u.m in
      let z : length (program (text k ∷ [])) ≡ length (text k).body = ap length (program-one (text k)) in
      omega (arith, u.some, n, z)

  shows-open : ShowsOpen b → ⊥
  shows-open u =
      let k : Loaded = record { label = u.label; way = in_parts u.parts } in
      let n =
      as_many (counts []) (counts (text k ∷ [])) (u.shown totals refl)
      (totals-open u.m u.empty u.label u.parts u.bytes) (totals-one u.m u.empty k u.bytes u.yes)
      in
      omega (arith, n)

  other-totals : OtherTotals b → ⊥
  other-totals u = u.others (told_same u.told _ (sym u.tells ∙ d.held.sums u.m u.empty u.history u.typed))

-- ---- demand 1

invented-line : (b : Build) → Contracts b → InventedLine b → ⊥
unfolding load_reply load_answer
invented-line b d u =
    let c = d.load u.label u.bytes u.m in
    let e : replied (refusing_at u.q u.told u.column) ≡ replied (load_reply u.label u.bytes u.m) = sym u.tells ∙ c.is ∙ ap replied c.contract.reply in
    let f : load_reply u.label u.bytes u.m ≡ refusing_at (refusal_of u.fault) u.line (column_of u.place) =
    rw (u.undamaged, u.none_open, u.free, le-ltb LONGEST_LOAD (length u.bytes) u.short, u.faulty) in
    let g : refusing_at u.q u.told u.column ≡ refusing_at (refusal_of u.fault) u.line (column_of u.place) = same e ∙ f in
    let l : u.told ≡ u.line = ap reply_line g in
    let k : u.column ≡ column_of u.place = ap reply_column g in
    u.invented l k

pub caught : Caught
caught = record {
  refuses_every_text = refuses-every-text;
  refuses_every_epoch = refuses-every-epoch;
  constant_orientation = constant-orientation;
  never_turns = never-turns;
  constant_radii = constant-radii;
  refuses_every_second = refuses-every-second;
  blends = blends;
  stores_nothing = stores-nothing;
  heeds_first_only = heeds-first-only;
  only_says_yes = only-says-yes;
  forgets_parts = forgets-parts;
  shows_open = shows-open;
  other_totals = other-totals;
  invented_line = invented-line;
}
