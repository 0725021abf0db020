-- Each name on the list counts: for every code, two pools that differ in its statements alone, and answer differently. Assumes nothing.
use Prim.Native.Nat.{ℕ, ◌≤◌}
use mathlib.Core.Path.{◌≡◌, refl, sym, ap, ◌∙◌}
use mathlib.Core.Bool.{Bool, true, false, not, ◌&&◌, ◌||◌}
use mathlib.Core.List.{List, [], ◌∷◌, ◌++◌, map}
use native.Mathlib.Omega.{arith}
use borrow.Author.Tests.{eqb-true, eqb-false, eq-eqb}
use lib.Dec.{eqb, lit≤}
use lib.Ieee.{Float}
use lib.ListN.{length}
use Rattle.std.specs.Prelude.{if◌then◌else◌, Option, Some, None, Result, Ok, Err}
use Rattle.plain.specs.Lists.{equal}
use Rattle.plain.proofs.Each.{Each}
use Rattle.plain.proofs.Tests.{is_false, true-false}
use Rattle.refusal.specs.declared.Refusal.{Refusal}
use Rattle.refusal.specs.declared.Refusal.TheVariants.{UnknownBody, Incomplete, MixedKind, WrongCount, BadDegree, BadRadius}
use Rattle.rotation.specs.Epochs.{in_reach}
use Rattle.rotation.specs.Codes.{system_of}
use Rattle.rotation.specs.Evaluation.{evaluated}
use Rattle.rotation.specs.declared.matrix.Orientation.{Orientation}
use Rattle.rotation.specs.declared.table.Axes.{Axes}
use Rattle.statement.specs.Statements.{numbers, Statement}
use Rattle.statement.specs.declared.head.Operator.TheVariants.{Direct}
use Rattle.words.proofs.Same.{same_refl}
use Rattle.layout.specs.State.{Pool, program, flat}
use Rattle.layout.specs.Limits.{room}
use Rattle.layout.specs.Memory.{decode, put}
use Rattle.layout.specs.Damage.{sound}
use Rattle.layout.proofs.Legal.{Fair, fits-of}
use Rattle.layout.proofs.Holds.{decode-put, put-sound, put-closed}
use Rattle.pool.specs.Held.{held}
use Rattle.variables.specs.Variables.{Datum, number, has, any, variable, present, all_numbers}
use Rattle.wanted.specs.Names.{LARGEST, name_of}
use Rattle.wanted.specs.Elements.{none_there, complete, all_numeric, well_counted, elements, angles, numeric, list}
use Rattle.wanted.specs.declared.name.Wanted.{Wanted}
use Rattle.wanted.specs.declared.name.Wanted.TheVariants as W
use Rattle.degree.specs.Degree.{degree, degree_where}
use Rattle.globe.specs.Orientation.{by_degree, by_elements, orientation_from}
use Rattle.globe.specs.Radii.{axes, all_positive, radii_from}
use Rattle.globe.specs.declared.source.Source.TheVariants as S
use Rattle.wanted.proofs.Codes.{short-code}
use Rattle.promises.specs.Sentence.{onto, forward}
use Rattle.promises.specs.Calls as C
use Rattle.promises.specs.Calls.{asked, library}
use Rattle.promises.proofs.Said.{closed, says, sound-size}
use Rattle.promises.proofs.Held.{Is, state-closed}
use Rattle.promises.proofs.Sequences.{asked_is}
use Rattle.promises.proofs.Proper.{Proper, proper-legal}
use Rattle.promises.proofs.Sentence.{forward-variable}
use Rattle.promises.proofs.Computing.{computing}
use Rattle.promises.proofs.Instances.{noughts, noughts-sound}
use Rattle.reads.specs.Names.{Name, Query, orientation_of, radii_of, orientation_names, radii_names, listed}
use Rattle.unread.specs.Unread.{call, others, Counts, AllCount}
use Rattle.unread.proofs.Spelled.{name-legal, kind, same_kind, name-kind}

-- ---- pools of one text: a direct assignment of 0 to each of some variables of the code n, the angles being of its system k

abbrev code_of : (n k : ℕ) → Wanted → ℕ
code_of n k W.PoleRa = n
code_of n k W.PoleDec = n
code_of n k W.Pm = n
code_of n k W.NutPrecRa = n
code_of n k W.NutPrecDec = n
code_of n k W.NutPrecPm = n
code_of n k W.NutPrecAngles = k
code_of n k W.MaxPhaseDegree = k
code_of n k W.Radii = n

-- the variable is among them; the others
abbrev among : Wanted → List Wanted → Bool
among w [] = false
among w (x ∷ xs) = if eqb (kind x) (kind w) then true else among w xs

abbrev besides : Wanted → List Wanted → List Wanted
besides w [] = []
besides w (x ∷ xs) = if eqb (kind x) (kind w) then besides w xs else (x ∷ besides w xs)

module _ (n k : ℕ) where
  abbrev name : Wanted → Name
  name w = name_of (code_of n k w) w

  abbrev stated : Wanted → Statement
  stated w = record { name = name w; operator = Direct; values = numbers (0 ∷ []) }

  abbrev pool : List Wanted → Pool
  pool ws = record { label = 1; body = map stated ws } ∷ []

module _ (n k : ℕ) (h : n ≤ LARGEST) (h' : k ≤ LARGEST) where
  code-short : (w : Wanted) → code_of n k w ≤ LARGEST
  code-short W.PoleRa = h
  code-short W.PoleDec = h
  code-short W.Pm = h
  code-short W.NutPrecRa = h
  code-short W.NutPrecDec = h
  code-short W.NutPrecPm = h
  code-short W.NutPrecAngles = h'
  code-short W.MaxPhaseDegree = h'
  code-short W.Radii = h

  has-kind : (w x : Wanted) → has (name n k w) (stated n k x) ≡ eqb (kind x) (kind w)
  has-kind w x = by (eqb (kind x) (kind w)) refl
    where
      by : (b : Bool) → eqb (kind x) (kind w) ≡ b → equal (name n k x) (name n k w) ≡ b
      by true e = ap (λ (y : Wanted). equal (name n k y) (name n k w)) (same_kind x w (eqb-true _ _ e)) ∙ same_refl (name n k w)
      by false e =
          is_false _ (λ g. eqb-false (kind x) (kind w) e (name-kind (code_of n k x) (code_of n k w) x w (code-short x) (code-short w) g))

  any-among : (w : Wanted) (ws : List Wanted) → any (has (name n k w)) (map (stated n k) ws ++ []) ≡ among w ws
  unfolding any
  any-among w [] = refl
  any-among w (x ∷ xs) = rw (has-kind w x, any-among w xs)

  present-among : (w : Wanted) (ws : List Wanted) → present (name n k w) (pool n k ws) ≡ among w ws
  unfolding present program
  present-among w ws = any-among w ws

  -- a variable that is stated first, and not again, is the one value 0
  forward-among : (w : Wanted) (ws : List Wanted) (xs : List Datum) → among w ws ≡ false → forward (name n k w) xs (map (stated n k) ws ++ []) ≡ xs
  unfolding forward
  forward-among w [] xs e = refl
  forward-among w (x ∷ ws) xs e = by (eqb (kind x) (kind w)) refl e (forward-among w ws xs)
    where
      by : (b : Bool) → eqb (kind x) (kind w) ≡ b → (if b then true else among w ws) ≡ false
          → (among w ws ≡ false → forward (name n k w) xs (map (stated n k) ws ++ []) ≡ xs)
          → forward (name n k w) (onto (name n k w) xs (stated n k x)) (map (stated n k) ws ++ []) ≡ xs
      by true f e g = true-false e
      by false f e g = rw (has-kind w x, f) (g e)

  variable-first : (w : Wanted) (ws : List Wanted) → among w ws ≡ false → variable (name n k w) (pool n k (w ∷ ws)) ≡ number 0 ∷ []
  unfolding variable program forward
  variable-first w ws e =
      forward-variable (name n k w) (map (stated n k) (w ∷ ws) ++ [])
      ∙ ap (λ (xs : List Datum). forward (name n k w) xs (map (stated n k) ws ++ [])) first ∙ forward-among w ws (number 0 ∷ []) e
    where
      first : onto (name n k w) [] (stated n k w) ≡ number 0 ∷ []
      first = rw (has-kind w w, eq-eqb (kind w) (kind w) refl)

  others-among : (w : Wanted) (ws : List Wanted) → others (name n k w) (map (stated n k) ws ++ []) ≡ map (stated n k) (besides w ws)
  unfolding others
  others-among w [] = refl
  others-among w (x ∷ xs) = rw (has-kind w x, others-among w xs) (by (eqb (kind x) (kind w)))
    where
      by : (b : Bool) → (if b then map (stated n k) (besides w xs) else (stated n k x ∷ map (stated n k) (besides w xs)))
          ≡ map (stated n k) (if b then besides w xs else (x ∷ besides w xs))
      by true = refl
      by false = refl

  -- ---- in memory

  fair : (ws : List Wanted) → Each Fair (map (stated n k) ws ++ [])
  fair [] = tt
  fair (w ∷ ws) = (record { name = name-legal (code_of n k w) (code-short w) w; some = lit≤ tt; values = (refl, tt) }, fair ws)

  proper : (ws : List Wanted) → Proper (pool n k ws)
  unfolding program held
  proper ws = record { labels = (refl, tt); each = fair ws }

  abbrev memory : List Wanted → List ℕ
  memory ws = put (pool n k ws) noughts

  module _ (ws : List Wanted) (r : room (pool n k ws) ≡ true) where
    memory-sound : sound (memory ws) ≡ true
    memory-sound = put-sound (pool n k ws) noughts (fits-of (pool n k ws) r) (sound-size noughts noughts-sound) (proper-legal (pool n k ws) (proper ws))

    memory-holds : decode (memory ws) ≡ pool n k ws
    memory-holds = decode-put (pool n k ws) noughts (fits-of (pool n k ws) r) (sound-size noughts noughts-sound) (proper-legal (pool n k ws) (proper ws))

    memory-is : Is (memory ws) (closed (pool n k ws))
    memory-is =
        let f = fits-of (pool n k ws) r in
        record {
          undamaged = memory-sound;
          state = state-closed (memory ws) (pool n k ws) memory-holds (put-closed (pool n k ws) noughts f (sound-size noughts noughts-sound));
        }

    memory-says : (q : Query) → asked (call q) (memory ws) ≡ says (call q) (closed (pool n k ws))
    memory-says q = asked_is (call q) (memory ws) (closed (pool n k ws)) memory-is

    memory-others : (w : Wanted) → others (name n k w) (program (decode (memory ws))) ≡ map (stated n k) (besides w ws)
    unfolding program
    memory-others w = ap (λ (s : Pool). others (name n k w) (program s)) memory-holds ∙ others-among w ws

  two-pools : (q : Query) (w : Wanted) (ws ws' : List Wanted) → room (pool n k ws) ≡ true → room (pool n k ws') ≡ true
      → besides w ws ≡ besides w ws' → (says (call q) (closed (pool n k ws)) ≡ says (call q) (closed (pool n k ws')) → ⊥) → Counts library q (name n k w)
  two-pools q w ws ws' r r' e d = record {
    one = memory ws;
    other = memory ws';
    undamaged = memory-sound ws r;
    other_undamaged = memory-sound ws' r';
    alike = memory-others ws r w ∙ ap (map (stated n k)) e ∙ sym (memory-others ws' r' w);
    differs = λ g. d (sym (memory-says ws r q) ∙ g ∙ memory-says ws' r' q);
  }

-- ---- answers by what is there

module _ (s : Pool) (n k : ℕ) (epoch : Float) where
  unknown : none_there s n ≡ true → by_elements s n epoch (Some k) ≡ Err UnknownBody
  unknown e = rw e

  incomplete : none_there s n ≡ false → complete s n k ≡ false → by_elements s n epoch (Some k) ≡ Err Incomplete
  incomplete e f = rw (e, f)

  -- what is complete is told neither to be incomplete nor, its degree being good, to be of a bad one
  not-told : (q : Refusal) → (q ≡ MixedKind → ⊥) → (q ≡ WrongCount → ⊥) → (d : ℕ) → Err q ≡ by_degree s n k epoch (Some d) → ⊥
  not-told q a b d g =
      by (evaluated (elements s n) epoch d (angles s n k) (list s n W.NutPrecRa) (list s n W.NutPrecDec) (list s n W.NutPrecPm))
      (all_numeric s n k) (well_counted s n k d) g
    where
      by : (o : Orientation) (x y : Bool) → Err q ≡ (if x then (if y then Ok o else Err WrongCount) else Err MixedKind) → ⊥
      by o true true g = let z : ◌≡◌ {A = ℕ} 0 1 = cc in omega arith
      by o true false g = b (let z : q ≡ WrongCount = cc in z)
      by o false y g = a (let z : q ≡ MixedKind = cc in z)

  not-incomplete : none_there s n ≡ false → complete s n k ≡ true → Err Incomplete ≡ by_elements s n epoch (Some k) → ⊥
  not-incomplete e f g = degreed (degree s n k) (g ∙ rw (e, f))
    where
      degreed : (x : Option ℕ) → Err Incomplete ≡ by_degree s n k epoch x → ⊥
      degreed (Some d) g = not-told Incomplete apart apart' d g
        where
          apart : Incomplete ≡ MixedKind → ⊥
          apart e = let z : ◌≡◌ {A = ℕ} 0 1 = cc in omega arith

          apart' : Incomplete ≡ WrongCount → ⊥
          apart' e = let z : ◌≡◌ {A = ℕ} 0 1 = cc in omega arith
      degreed None g = let z : ◌≡◌ {A = ℕ} 0 1 = cc in omega arith

  bad : none_there s n ≡ false → complete s n k ≡ true → degree s n k ≡ None → by_elements s n epoch (Some k) ≡ Err BadDegree
  bad e f g = rw (e, f, g)

  not-bad : (d : ℕ) → none_there s n ≡ false → complete s n k ≡ true → degree s n k ≡ Some d → Err BadDegree ≡ by_elements s n epoch (Some k) → ⊥
  not-bad d e f h g = not-told BadDegree apart apart' d (g ∙ rw (e, f, h))
    where
      apart : BadDegree ≡ MixedKind → ⊥
      apart e = let z : ◌≡◌ {A = ℕ} 0 1 = cc in omega arith

      apart' : BadDegree ≡ WrongCount → ⊥
      apart' e = let z : ◌≡◌ {A = ℕ} 0 1 = cc in omega arith

-- ---- orientation

module _ (n k : ℕ) (h : n ≤ LARGEST) (h' : k ≤ LARGEST) where
  -- what is there, of a pool of the kinds ws
  pole : List Wanted → Bool
  pole ws = among W.PoleRa ws || among W.PoleDec ws || among W.Pm ws

  none_is : (ws : List Wanted) → none_there (pool n k ws) n ≡ not (pole ws)
  unfolding pole
  none_is ws = rw (present-among n k h h' W.PoleRa ws, present-among n k h h' W.PoleDec ws, present-among n k h h' W.Pm ws)

  whole : List Wanted → Bool
  whole ws =
      among W.PoleRa ws && among W.PoleDec ws && among W.Pm ws
      && (if among W.NutPrecRa ws || among W.NutPrecDec ws || among W.NutPrecPm ws then among W.NutPrecAngles ws else true)

  complete-is : (ws : List Wanted) → complete (pool n k ws) n k ≡ whole ws
  unfolding whole
  complete-is ws =
      rw (
        present-among n k h h' W.PoleRa ws,
        present-among n k h h' W.PoleDec ws,
        present-among n k h h' W.Pm ws,
        present-among n k h h' W.NutPrecRa ws,
        present-among n k h h' W.NutPrecDec ws,
        present-among n k h h' W.NutPrecPm ws,
        present-among n k h h' W.NutPrecAngles ws,
      )

  module _ (epoch : Float) (reach : in_reach epoch ≡ true) (system : system_of n ≡ Some k) where
    abbrev q : Query
    q = orientation_of S.Pool n epoch

    says_is : (ws : List Wanted) → says (call q) (closed (pool n k ws)) ≡ C.oriented (by_elements (pool n k ws) n epoch (Some k))
    unfolding says orientation_from
    says_is ws = rw (reach, system)

    same-oriented : (ws ws' : List Wanted) → says (call q) (closed (pool n k ws)) ≡ says (call q) (closed (pool n k ws'))
        → by_elements (pool n k ws) n epoch (Some k) ≡ by_elements (pool n k ws') n epoch (Some k)
    same-oriented ws ws' e = inner (sym (says_is ws) ∙ e ∙ says_is ws')
      where
        inner : {x y : Result Orientation Refusal} → C.oriented x ≡ C.oriented y → x ≡ y
        inner e = cc

    -- nothing is there, or something that is not all
    by-presence : (w : Wanted) (ws ws' : List Wanted) → room (pool n k ws) ≡ true → room (pool n k ws') ≡ true → besides w ws ≡ besides w ws'
        → pole ws ≡ false → pole ws' ≡ true → whole ws' ≡ false → Counts library q (name n k w)
    by-presence w ws ws' r r' b a a' c = two-pools n k h h' q w ws ws' r r' b differ
      where
        differ : says (call q) (closed (pool n k ws)) ≡ says (call q) (closed (pool n k ws')) → ⊥
        differ g =
            let x = unknown (pool n k ws) n k epoch (none_is ws ∙ ap not a) in
            let y = incomplete (pool n k ws') n k epoch (none_is ws' ∙ ap not a') (complete-is ws' ∙ c) in
            let e : Err UnknownBody ≡ Err Incomplete = sym x ∙ same-oriented ws ws' g ∙ y in
            let z : ◌≡◌ {A = ℕ} 0 1 = cc in omega arith

    -- not all is there, or all
    by-completion : (w : Wanted) (ws ws' : List Wanted) → room (pool n k ws) ≡ true → room (pool n k ws') ≡ true → besides w ws ≡ besides w ws'
        → pole ws ≡ true → whole ws ≡ false → pole ws' ≡ true → whole ws' ≡ true → Counts library q (name n k w)
    by-completion w ws ws' r r' b a c a' c' = two-pools n k h h' q w ws ws' r r' b differ
      where
        differ : says (call q) (closed (pool n k ws)) ≡ says (call q) (closed (pool n k ws')) → ⊥
        differ g =
            let x = incomplete (pool n k ws) n k epoch (none_is ws ∙ ap not a) (complete-is ws ∙ c) in
            not-incomplete (pool n k ws') n k epoch (none_is ws' ∙ ap not a') (complete-is ws' ∙ c') (sym x ∙ same-oriented ws ws' g)

    -- a good degree, or a bad one
    by-degree : (w : Wanted) (ws ws' : List Wanted) → room (pool n k ws) ≡ true → room (pool n k ws') ≡ true → besides w ws ≡ besides w ws'
        → pole ws ≡ true → whole ws ≡ true → degree (pool n k ws) n k ≡ None
        → pole ws' ≡ true → whole ws' ≡ true → (d : ℕ) → degree (pool n k ws') n k ≡ Some d → Counts library q (name n k w)
    by-degree w ws ws' r r' b a c g a' c' d g' = two-pools n k h h' q w ws ws' r r' b differ
      where
        differ : says (call q) (closed (pool n k ws)) ≡ says (call q) (closed (pool n k ws')) → ⊥
        differ e =
            let x = bad (pool n k ws) n k epoch (none_is ws ∙ ap not a) (complete-is ws ∙ c) g in
            not-bad (pool n k ws') n k epoch d (none_is ws' ∙ ap not a') (complete-is ws' ∙ c') g' (sym x ∙ same-oriented ws ws' e)

    three : List Wanted
    three = W.PoleRa ∷ W.PoleDec ∷ W.Pm ∷ []

    angled : List Wanted
    unfolding three
    angled = W.NutPrecAngles ∷ W.NutPrecRa ∷ three

    -- 0 is no degree
    degree-bad : degree (pool n k (W.MaxPhaseDegree ∷ angled)) n k ≡ None
    unfolding three angled kind computing degree_where all_numbers
    degree-bad =
        let ws = W.MaxPhaseDegree ∷ angled in
        rw (present-among n k h h' W.NutPrecRa ws, present-among n k h h' W.MaxPhaseDegree ws, variable-first n k h h' W.MaxPhaseDegree angled refl)

    degree-one : degree (pool n k angled) n k ≡ Some 1
    unfolding three angled kind degree_where
    degree-one = rw (present-among n k h h' W.NutPrecRa angled, present-among n k h h' W.MaxPhaseDegree angled)

    all-count : Each (Counts library q) (orientation_names n (Some k))
    unfolding three angled pole whole kind room program flat
    all-count = (
      by-presence W.PoleRa [] (W.PoleRa ∷ []) refl refl refl refl refl refl,
      (
        by-presence W.PoleDec [] (W.PoleDec ∷ []) refl refl refl refl refl refl,
        (
          by-presence W.Pm [] (W.Pm ∷ []) refl refl refl refl refl refl,
          (
            by-completion W.NutPrecRa (W.NutPrecRa ∷ three) three refl refl refl refl refl refl refl,
            (
              by-completion W.NutPrecDec (W.NutPrecDec ∷ three) three refl refl refl refl refl refl refl,
              (
                by-completion W.NutPrecPm (W.NutPrecPm ∷ three) three refl refl refl refl refl refl refl,
                (
                  by-completion W.NutPrecAngles (W.NutPrecRa ∷ three) angled refl refl refl refl refl refl refl,
                  (
                    by-degree W.MaxPhaseDegree (W.MaxPhaseDegree ∷ angled) angled refl refl refl refl refl degree-bad refl refl 1 degree-one,
                    tt,
                  ),
                ),
              ),
            ),
          ),
        ),
      ),
    )

  -- ---- radii

  module _ (system : system_of n ≡ Some k) where
    abbrev r : Query
    r = radii_of S.Pool n

    radii-count : Each (Counts library r) (radii_names n (Some k))
    unfolding kind room program flat says radii_from
    radii-count = (two-pools n k h h' r W.Radii [] (W.Radii ∷ []) refl refl refl differ, tt)
      where
        by : (x : Axes) (a b c : Bool)
            → Err UnknownBody
            ≡ (if a then (if b then (if c then Ok x else Err BadRadius) else Err WrongCount) else Err MixedKind) → ⊥
        by x true true true g = let z : ◌≡◌ {A = ℕ} 0 1 = cc in omega arith
        by x true true false g = let z : ◌≡◌ {A = ℕ} 0 1 = cc in omega arith
        by x true false c g = let z : ◌≡◌ {A = ℕ} 0 1 = cc in omega arith
        by x false b c g = let z : ◌≡◌ {A = ℕ} 0 1 = cc in omega arith

        inner : {x y : Result Axes Refusal} → C.measured x ≡ C.measured y → x ≡ y
        inner e = cc

        differ : says (call r) (closed (pool n k [])) ≡ says (call r) (closed (pool n k (W.Radii ∷ []))) → ⊥
        differ g =
            let s = pool n k (W.Radii ∷ []) in
            let xs = list s n W.Radii in
            by (axes xs) (numeric s n W.Radii) (eqb (length xs) 3) (all_positive (axes xs))
            (rw (system, present-among n k h h' W.Radii [], present-among n k h h' W.Radii (W.Radii ∷ [])) at (inner g))

-- ---- every query

pub counted : AllCount library
unfolding listed
counted (orientation_of S.Builtin n epoch) e = tt
counted (orientation_of S.Pool n epoch) e = by (system_of n) refl
  where
    by : (k : Option ℕ) → system_of n ≡ k → Each (Counts library (orientation_of S.Pool n epoch)) (orientation_names n k)
    by None f = tt
    by (Some k) f = let l = short-code n k (sym f) in all-count n k l.0 l.1 epoch e f
counted (radii_of S.Builtin n) e = tt
counted (radii_of S.Pool n) e = by (system_of n) refl
  where
    by : (k : Option ℕ) → system_of n ≡ k → Each (Counts library (radii_of S.Pool n)) (radii_names n k)
    by None f = tt
    by (Some k) f = let l = short-code n k (sym f) in radii-count n k l.0 l.1 f
