-- A line is completed by what it comes to: the statements with what it adds are laid behind what is held, and counted, as many as the numbers say; so
-- the next line finds the text as this one did. Assumes nothing.
use Prim.Native.Nat.{ℕ, ◌+◌, ◌-◌}
use native.Mathlib.Omega.{arith}
use mathlib.Core.Path.{◌≡◌, refl, sym, ap, subst, ◌∙◌}
use mathlib.Core.Bool.{Bool, true, false, ◌&&◌}
use mathlib.Core.List.{List, [], ◌∷◌, ◌++◌, map, append-nil}
use lib.Dec.{leb}
use lib.ListN.{length, take}
use Rattle.plain.proofs.Each.{Each}
use Rattle.std.specs.Prelude.{Result}
use Rattle.value.specs.Faults.{faulty}
use Rattle.value.specs.Value.{Value}
use Rattle.value.specs.declared.faults.Fault.{Fault}
use Rattle.value.specs.declared.faults.LineFault.{LineFault}
use Rattle.statement.specs.Statements.{Event, value, Values, numbers, strings, Statement, openings, givings, bytes_given}
use Rattle.statement.specs.declared.values.Kind.{Kind}
use Rattle.statement.specs.declared.values.Kind.TheVariants as K
use Rattle.statement.specs.declared.values.Reader.{Reader}
use Rattle.statement.specs.declared.values.Reader.TheVariants as R
use Rattle.statement.proofs.Events.{givings-values}
use Rattle.text.specs.Line.{Outcome, next, fault, answered, counted}
use Rattle.text.specs.Text.{in_line}
use Rattle.text.specs.declared.TextFault.{TextFault}
use Rattle.text.specs.declared.line.Step.{Step}
use Rattle.words.specs.Over.{over}
use Rattle.words.proofs.Over.{over-nil}
use Rattle.layout.specs.State.{Pool, flat, values_of, bytes_of}
use Rattle.layout.specs.Limits.{STATEMENTS, VALUES, BYTES, HEADS_AT, room}
use Rattle.layout.specs.Memory.{decode, laid_behind}
use Rattle.layout.proofs.Holds.{inked_at, decode-fits}
use Rattle.layout.proofs.Legal.{Fair, of-fits}
use Rattle.bookmark.specs.declared.mark.Entered.{Entered}
use Rattle.bookmark.specs.declared.mark.Standing.{Standing}
use Rattle.bookmark.specs.declared.mark.Standing.TheVariants as S
use Rattle.opening.specs.Storing.{Progress, of_kind, on_last, extended, fitting, storing_line, overflowed_line, by_standing, complete}
use Rattle.opening.proofs.Extending.{extended_none, extended-given}
use Rattle.opening.proofs.Fitting.{by_room, Fitted, fitted_of}
use Rattle.opening.proofs.Lines.{Sort, Holds}
use Rattle.opening.proofs.Placing.{last_of}
use Rattle.opening.proofs.Storable.{Storable, storable}
use Rattle.entering.specs.Entries.{Entry, entry, body_of, progress_of, entering, complete_on}
use Rattle.entering.specs.Counts.{places, emptied, standing_as, grown, room_for, read_on}
use Rattle.entering.specs.Lines.{Listing, Bears, Borne, Ready, Completes}
use Rattle.entering.proofs.Further.{pen₀, laid-behind}
use Rattle.entering.proofs.Laying.{front-laid, decode-laid, orderly-laid, body-laid, again-laid}
use Rattle.entering.proofs.Counting.{Grown, grows-line, places-held}
use Rattle.entering.proofs.Lines.{at-line, ordered, held=, given=, spelled=, still}

-- a body, counted
abbrev pub counted_as : Standing → List Statement → Entered
counted_as t b = record { standing = t; statements = length b; values = length (flat values_of b); bytes = length (flat bytes_of b) }

-- a line completed in the memory, as it is completed beside the pool
pub record Completed (e : Entry) (number : ℕ) (line : List ℕ) : Type 0 where
  pub progress : progress_of (complete_on e number line) ≡ complete (decode e.memory) (progress_of e) number line
  pub same : decode (complete_on e number line).memory ≡ decode e.memory
  pub ready : Ready (complete_on e number line).memory (complete_on e number line).entered

-- no values change nothing
none-given : (k : Kind) (old : Values) → of_kind k [] old ≡ old
none-given K.Empty old = refl
none-given K.Numbers (numbers bs) = ap numbers (append-nil bs)
none-given K.Numbers (strings ss) = ap strings (append-nil ss)
none-given K.Strings (numbers bs) = ap numbers (append-nil bs)
none-given K.Strings (strings ss) = ap strings (append-nil ss)

module _ (m : List ℕ) (e : Entered) (a : Ready m e) where
  abbrev s : Pool
  s = decode m

  abbrev body : List Statement
  body = body_of (entry m e)

  abbrev before : Progress
  before = progress_of (entry m e)

  roomy-held : room s ≡ true
  roomy-held = of-fits s (decode-fits m (ordered m e a))

  -- ---- any progress laid

  module _ (b : List Statement) (t : Standing) (k : Storable s (record { body = b; standing = t })) (d : Borne t b) where
    abbrev m' : List ℕ
    m' = laid_behind s b m

    fits : Fitted s b
    fits = fitted_of s b k.fits

    body= : body_of (entry m' (counted_as t b)) ≡ b
    body= = body-laid m (ordered m e a) b fits k.fair

    decode= : decode m' ≡ s
    decode= = decode-laid m (ordered m e a) b fits k.fair

    ready-laid : Ready m' (counted_as t b)
    ready-laid = record {
      held = orderly-laid m (ordered m e a) b fits k.fair ∙ a.held;
      stands = (λ i. laid_behind (decode= i) (body= i) m') ∙ again-laid m (ordered m e a) b fits k.fair;
      statements = ap length (sym body=);
      values = ap (λ (x : List Statement). length (flat values_of x)) (sym body=);
      bytes = ap (λ (x : List Statement). length (flat bytes_of x)) (sym body=);
      storable = record { fits = (λ i. fitting (decode= i) (body= i)) ∙ k.fits; fair = subst (Each Fair) (sym body=) k.fair };
      borne = subst (Borne t) (sym body=) d;
    }

  completes : (number : ℕ) (line : List ℕ) (b : List Statement) (t : Standing) (after : List ℕ) (r : Entered)
      → complete s before number line ≡ record { body = b; standing = t } → after ≡ laid_behind s b m → r ≡ counted_as t b → Borne t b → Completes m e number line after r
  unfolding complete_on
  completes number line b t after r c p q d =
      let k : Storable s (record { body = b; standing = t }) = subst (Storable s) c (storable s roomy-held before a.storable number line) in
      let F = fitted_of s b k.fits in
      record {
        is = (λ i. entry (p i) (q i)) ∙ sym (ap (λ (x : Progress). entering s x m) c);
        ready = subst (λ (x : List ℕ). Ready x r) (sym p) (subst (Ready (laid_behind s b m)) (sym q) (ready-laid b t k d));
        same = ap decode p ∙ decode-laid m (ordered m e a) b F k.fair;
        front = ap (take HEADS_AT) p ∙ front-laid m (ordered m e a) b F k.fair;
      }

  -- what a line leaves is read back, where the statements bear the reader out
  pub completed : (number : ℕ) (line : List ℕ) → Borne (complete s before number line).standing (complete s before number line).body → Completed (entry m e) number line
  unfolding complete_on
  completed number line d =
      let p = complete s before number line in
      let k = storable s roomy-held before a.storable number line in
      record {
        progress = ap (λ (b : List Statement). record { body = b; standing = p.standing }) (body= p.body p.standing k d);
        same = decode= p.body p.standing k d;
        ready = ready-laid p.body p.standing k d;
      }

  -- ---- where nothing is written

  none-laid : m ≡ laid_behind s [] m
  unfolding flat
  none-laid =
      let p = pen₀ s m in
      let x = inked_at p.bytes [] m in
      sym
      (laid-behind s m [] ∙ over-nil p.values (over p.names [] (over p.heads [] x)) ∙ over-nil p.names (over p.heads [] x) ∙ over-nil p.heads x
      ∙ still m e a p.bytes)

  none-counted : (t : Standing) → emptied t ≡ counted_as t []
  unfolding flat
  none-counted t = refl

  same-counted : (t : Standing) → standing_as e t ≡ counted_as t body
  same-counted t = λ i. record { standing = t; statements = a.statements i; values = a.values i; bytes = a.bytes i }

  standing_by : (t : Standing) → e.standing ≡ t → (number : ℕ) (line : List ℕ) → complete s before number line ≡ by_standing s body t number line
  unfolding complete
  standing_by t h number line = ap (λ (x : Standing). by_standing s body x number line) h

  pub stays-faulted : (f : TextFault) → e.standing ≡ S.Faulted f → (number : ℕ) (line : List ℕ) → Completes m e number line m e
  stays-faulted f h number line =
      completes number line body (S.Faulted f) m e (standing_by (S.Faulted f) h number line) (sym a.stands) (ap (standing_as e) h ∙ same-counted (S.Faulted f)) tt

  pub reads_on : (r : Reader) → e.standing ≡ S.Overflowed r → (number : ℕ) (line : List ℕ) (x : Entered) (y : Result Step LineFault) → y ≡ counted (answered r line)
      → x ≡ read_on e number y → Completes m e number line m x
  reads_on r h number line x y p q = by (answered r line) refl (q ∙ ap (read_on e number) p)
    where
      by : (o : Outcome) → answered r line ≡ o → x ≡ read_on e number (counted o) → Completes m e number line m x
      by (next z es) f g =
          completes number line body (S.Overflowed z) m x (standing_by (S.Overflowed r) h number line ∙ ap (λ (o : Outcome). overflowed_line body o number) f) (sym a.stands)
          (g ∙ same-counted (S.Overflowed z)) tt
      by (fault z k) f g =
          completes number line [] (S.Faulted (in_line number (faulty z k))) m x (standing_by (S.Overflowed r) h number line ∙ ap (λ (o : Outcome). overflowed_line body o number) f) none-laid
          (g ∙ none-counted (S.Faulted (in_line number (faulty z k)))) tt

  -- ---- where the text is stored so far

  module _ (r : Reader) (h : e.standing ≡ S.Storing r) where
    pub bears : Bears r body
    bears = subst (λ (t : Standing). Borne t body) h a.borne

    stored-by : (number : ℕ) (line : List ℕ) (o : Outcome) → answered r line ≡ o → complete s before number line ≡ storing_line s r body o number
    stored-by number line o f = standing_by (S.Storing r) h number line ∙ ap (λ (x : Outcome). storing_line s r body x number) f

    pub stops : (number : ℕ) (line : List ℕ) (q : Fault) (k : ℕ) (x : Entered) → answered r line ≡ fault q k → x ≡ emptied (S.Faulted (in_line number (faulty q k))) → Completes m e number line m x
    stops number line q k x f g =
        completes number line [] (S.Faulted (in_line number (faulty q k))) m x (stored-by number line (fault q k) f) none-laid (g ∙ none-counted (S.Faulted (in_line number (faulty q k)))) tt

    module _ (line : List ℕ) (q : Reader) (es : List Event) (f : answered r line ≡ next q es) where
      abbrev new : List Statement
      new = extended r body es

      grew : Grown r q es body new
      grew = at-line _ grows-line r line q es f body bears

      -- the numbers count what there is then
      pub grown-counted : grown e r q (openings es) (givings es) (bytes_given es) ≡ counted_as (S.Storing q) new
      grown-counted =
          let g = grew in
          let n : e.statements + openings es ≡ length new = omega (arith, g.statements, a.statements) in
          let v : e.values - places r + givings es + places q ≡ length (flat values_of new) = omega (arith, g.values, a.values, places-held r body bears) in
          let b : e.bytes + bytes_given es ≡ length (flat bytes_of new) = omega (arith, g.bytes, a.bytes) in
          λ i. record { standing = S.Storing q; statements = n i; values = v i; bytes = b i }

      pub room_fits : room_for m (grown e r q (openings es) (givings es) (bytes_given es)) ≡ fitting s new
      unfolding fitting
      room_fits =
          ap (room_for m) grown-counted
          ∙ (λ i. leb (sym (held= m e a) i + length new) STATEMENTS && leb (sym (given= m e a) i + length (flat values_of new)) VALUES
          && leb (sym (spelled= m e a) i + length (flat bytes_of new)) BYTES)

      pub overflows : (number : ℕ) (x : Entered) → fitting s new ≡ false → x ≡ emptied (S.Overflowed q) → Completes m e number line m x
      overflows number x g p =
          completes number line [] (S.Overflowed q) m x (stored-by number line (next q es) f ∙ ap (λ (t : Bool). by_room t q new) g) none-laid (p ∙ none-counted (S.Overflowed q)) tt

      pub stores : (number : ℕ) (after : List ℕ) (x : Entered) → fitting s new ≡ true → after ≡ laid_behind s new m → x ≡ grown e r q (openings es) (givings es) (bytes_given es)
          → Completes m e number line after x
      stores number after x g p c =
          completes number line new (S.Storing q) after x (stored-by number line (next q es) f ∙ ap (λ (t : Bool). by_room t q new) g) p (c ∙ grown-counted) grew.bears

  -- a line that adds nothing
  abbrev Adds-none : Sort
  Adds-none r q es = Bears r body → openings es + givings es ≡ 0 → extended r body es ≡ body

  given-none : (k : Kind) (d : Listing k body) → on_last (of_kind k []) body ≡ body
  given-none k d =
      let x = d.last in
      ap (on_last (of_kind k [])) d.split ∙ last_of (of_kind k []) d.before x
      ∙ ap (λ (v : Values). d.before ++ record { name = x.name; operator = x.operator; values = v } ∷ []) (none-given k x.values)
      ∙ sym d.split

  adds_none : Holds Adds-none
  adds_none = record {
    quiet = λ r q f g d h. extended_none body r f;
    opens = λ n o q vs l v t d h. absurd (omega arith);
    gives = λ k q vs v t d h. by k vs d h;
  }
    where
      by : (k : Kind) (vs : List Value) → Listing k body → openings (map value vs) + givings (map value vs) ≡ 0 → extended (R.List k) body (map value vs) ≡ body
      by k [] d h = extended-given body k [] ∙ given-none k d
      by k (v ∷ vs) d h = absurd (omega (arith, givings-values vs))

  pub nothing-laid : (r : Reader) → e.standing ≡ S.Storing r → (line : List ℕ) (q : Reader) (es : List Event) → answered r line ≡ next q es
      → openings es + givings es ≡ 0 → m ≡ laid_behind s (extended r body es) m
  nothing-laid r h line q es f z = sym (ap (λ (x : List Statement). laid_behind s x m) (at-line _ adds_none r line q es f (bears r h) z) ∙ a.stands)
