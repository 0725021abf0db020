-- The answer of close, question by question; and what a closing that is done leaves: the statements laid behind those that are held, then the text's
-- word, then the front. Assumes nothing.
use Prim.Native.Nat.{ℕ, ◌+◌, ◌*◌, ◌≤◌, ◌<◌}
use native.Mathlib.Omega.{arith}
use mathlib.Core.Path.{◌≡◌, refl, sym, ap, subst, ◌∙◌}
use mathlib.Core.Bool.{Bool, true, false}
use mathlib.Core.List.{List, [], ◌∷◌, map}
use lib.Dec.{ltb, lit<}
use lib.ListN.{length, take, get_or, length-append}
use lib.Seq.{get_or-take}
use Rattle.std.specs.Prelude.{◌&&◌, Ok, Err, if◌then◌else◌}
use Rattle.refusal.specs.declared.Refusal.{Refusal}
use Rattle.refusal.specs.declared.Refusal.TheVariants.{TextTooLong, NotHeld, DamagedPool}
use Rattle.text.specs.declared.TextFault.{TextFault}
use Rattle.statement.specs.Statements.{Statement}
use Rattle.statement.specs.declared.values.Reader.{Reader}
use Rattle.text.specs.Lengths.{LONGEST_LINE}
use Rattle.words.specs.Over.{over}
use Rattle.words.specs.Halves.{HALF, joined}
use Rattle.words.proofs.Each.{Words}
use Rattle.words.proofs.Over.{over-comm}
use Rattle.names.specs.Names.{NAMEWORDS}
use Rattle.layout.specs.State.{Text, Pool, program, flat, values_of, bytes_of, values, string_bytes}
use Rattle.layout.specs.Limits.{TEXTS, TEXTS_AT, HEADS_AT, NAMES_AT, VALUES_AT}
use Rattle.layout.specs.Memory.{text_count, statement_count, value_count, byte_count, decode, opens, open_label, text_word, head_word, name_of, NONE_OPEN, front, put, laid_behind}
use Rattle.layout.specs.Damage.{Framed, sound}
use Rattle.layout.proofs.Changes.{added}
use Rattle.layout.proofs.Codec.{length-laid-names}
use Rattle.layout.proofs.Columns.{add_columns, flat_map}
use Rattle.layout.proofs.Holds.{Holds, holds-decode, per_text, per_statement, inked_at, length-laid-texts, length-laid-heads}
use Rattle.layout.proofs.Legal.{Fits}
use Rattle.layout.proofs.Sound.{sound-of, orderly-of}
use Rattle.loading.specs.Load.{with}
use Rattle.pool.specs.Ready.{with_one_open}
use Rattle.pool.specs.Replies.{Reply, done, refusing}
use Rattle.pool.specs.declared.reply.Refused.{Refused}
use Rattle.pool.proofs.Tested.{open-refused}
use Rattle.loading.proofs.Rooms.{texts-with, statements-with, values-with, bytes-with}
use Rattle.feeding.specs.Kept.{settled}
use Rattle.feeding.specs.Parts.{MOST, Open, Ended, more, last_line, lastly}
use Rattle.feeding.specs.Stored.{line, Settles}
use Rattle.feeding.specs.declared.kept.Kept.{Kept}
use Rattle.bookmark.specs.declared.mark.Bookmark.{Bookmark}
use Rattle.bookmark.specs.declared.mark.Entered.{Entered}
use Rattle.bookmark.specs.declared.mark.Standing.{Standing}
use Rattle.bookmark.specs.declared.mark.Standing.TheVariants as S
use Rattle.bookmark.proofs.Numbered.{InLine}
use Rattle.opening.specs.Closing.{at_end, end_reply, closed, close_answer, closed_pool}
use Rattle.opening.specs.Storing.{Progress, complete}
use Rattle.opening.proofs.Storable.{Storable}
use Rattle.entering.specs.Entries.{Entry, entry, body_of, progress_of, complete_on}
use Rattle.entering.specs.Lines.{Completes}
use Rattle.taking.specs.Marked.{open_of}
use Rattle.intake.specs.Opened.{telling, state_in, shut}
use Rattle.intake.specs.Calls.{close_reply, close_memory, Closes}
use Rattle.intake.specs.State.{Opened, Finds}
use Rattle.keeping.proofs.Closed.{fits}
use Rattle.keeping.proofs.Ending.{end-pointing}
use Rattle.closing.specs.Ended as E
use Rattle.closing.specs.Ended.{Lasts, Placed, Short, Stores, Sealable, sealed}
use Rattle.closing.specs.declared.ending.Ended as ending

-- ---- the answers

module _ (m : List ℕ) where
  pub close-unready : (q : Refusal) → with_one_open m ≡ Err q → Closes m (refusing q) m
  unfolding close_reply close_memory with_one_open
  close-unready q e = record { reply = sym (open-refused m q (close_answer (decode m) (state_in m)) e); memory = by (sound m) (opens m) _ e }
    where
      by : (s o : Bool) (x : List ℕ) → (if s then (if o then Ok (tt {0}) else Err NotHeld) else Err DamagedPool) ≡ Err q → m ≡ (if s && o then x else m)
      by true true x e = cc
      by true false x e = refl
      by false o x e = refl

  module _ (e : sound m ≡ true) (o : opens m ≡ true) where
    closes : close_reply m ≡ close_answer (decode m) (state_in m)
    unfolding close_reply
    closes = rw (e, o)

    pub close-refused : (r : Refused) → close_answer (decode m) (state_in m) ≡ Err r → (after : List ℕ) → after ≡ shut m → Closes m (Err r) after
    unfolding close_memory
    close-refused r a after p = let d = closes ∙ a in record { reply = sym d; memory = rw (d, e, o) p }

    pub close-done : close_answer (decode m) (state_in m) ≡ Ok tt → (after : List ℕ) → after ≡ put (closed_pool (decode m) (open_label m) (state_in m)) m → Closes m (Ok tt) after
    unfolding close_memory
    close-done a after p = let d = closes ∙ a in record { reply = sym d; memory = rw (d, e, o) p }

-- ---- the last line

module _ (s : Pool) (o : Open Progress) where
  abbrev last : List ℕ
  last = settled o.kept o.pending

  pub closed_none : length last ≡ 0 → closed s o ≡ record { progress = o.progress; number = o.number; long = o.long }
  unfolding lastly
  closed_none z = by last refl z
    where
      by : (l : List ℕ) → last ≡ l → length l ≡ 0 → last_line (complete s) o last ≡ record { progress = o.progress; number = o.number; long = o.long }
      by [] e h = ap (last_line (complete s) o) e
      by (x ∷ l) e h = absurd (omega arith)

  pub closed_some : (length last ≡ 0 → ⊥)
      → closed s o ≡ record { progress = complete s o.progress (more o.number) last; number = more o.number; long = length last }
  unfolding lastly
  closed_some z = by last refl z
    where
      by : (l : List ℕ) → last ≡ l → (length l ≡ 0 → ⊥)
          → last_line (complete s) o last ≡ record { progress = complete s o.progress (more o.number) last; number = more o.number; long = length last }
      by [] e h = absurd (h refl)
      by (x ∷ l) e h =
          ap (last_line (complete s) o) e
          ∙ sym (ap (λ (k : List ℕ). record { progress = complete s o.progress (more o.number) k; number = more o.number; long = length k }) e)

-- of a text that was found
module _ (m : List ℕ) (b : Bookmark) (f : Finds m b) where
  pub state-found : state_in m ≡ telling progress_of (open_of m b)
  state-found = ap (telling progress_of) (sym f.is)

  pub found-storable : Storable (decode m) (state_in m).progress
  found-storable = subst (λ (o : Open Progress). Storable (decode m) o.progress) (sym state-found) f.fine.ready.storable

  pub found-long : ltb MOST (state_in m).bytes ≡ ltb MOST b.total
  found-long = ap (λ (o : Open Progress). ltb MOST o.bytes) state-found

-- ---- how it stands with its last line, and what is stored then

module _ (m : List ℕ) (b : Bookmark) (f : Finds m b) (k : Kept) (S : Settles b.kept b.pending k) where
  abbrev e : Entry
  e = entry m b.entered

  same-long : length (line k) ≡ length (settled (line b.kept) b.pending)
  same-long = ap length S.is

  without-line : k.used ≡ 0 → closed (decode m) (state_in m) ≡ record { progress = progress_of e; number = b.number; long = b.long }
  without-line z = ap (closed (decode m)) (state-found m b f) ∙ closed_none (decode m) (telling progress_of (open_of m b)) (sym same-long ∙ S.long ∙ z)

  with-line : (k.used ≡ 0 → ⊥)
      → closed (decode m) (state_in m) ≡ record { progress = complete (decode m) (progress_of e) (more b.number) (line k); number = more b.number; long = k.used }
  with-line z =
      ap (closed (decode m)) (state-found m b f) ∙ closed_some (decode m) (telling progress_of (open_of m b)) (λ h. z (sym S.long ∙ same-long ∙ h))
      ∙ (λ i. record { progress = complete (decode m) (progress_of e) (more b.number) (sym S.is i); number = more b.number; long = (sym same-long ∙ S.long) i })

  pub lasts-none : k.used ≡ 0 → Lasts m (record { entered = b.entered; number = b.number; long = b.long })
  lasts-none z =
      let c = sym (without-line z) in
      record { standing = ap (λ (r : Ended Progress). r.progress.standing) c; number = ap (λ (r : Ended Progress). r.number) c; long = ap (λ (r : Ended Progress). r.long) c }

  pub stores-none : k.used ≡ 0 → Stores m m b.entered
  stores-none z =
      let c : body_of e ≡ (closed (decode m) (state_in m)).progress.body = sym (ap (λ (r : Ended Progress). r.progress.body) (without-line z)) in
      let r = f.fine.ready in
      record {
        held = r.held;
        is = sym r.stands ∙ ap (λ (l : List Statement). laid_behind (decode m) l m) c;
        statements = r.statements ∙ ap length c;
        values = r.values ∙ ap (λ (l : List Statement). length (flat values_of l)) c;
        bytes = r.bytes ∙ ap (λ (l : List Statement). length (flat bytes_of l)) c;
        front = refl;
      }

  module _ (z : k.used ≡ 0 → ⊥) (n : ℕ) (h : n ≡ more b.number) where
    abbrev p : Progress
    p = complete (decode m) (progress_of e) n (line k)

    ended : closed (decode m) (state_in m) ≡ record { progress = p; number = n; long = k.used }
    ended = with-line z ∙ (λ i. record { progress = complete (decode m) (progress_of e) (sym h i) (line k); number = sym h i; long = k.used })

    pub lasts-some : (l : List ℕ) → l ≡ line k → (x : Entered) → x ≡ (complete_on e n l).entered
        → Lasts m (record { entered = x; number = n; long = k.used })
    unfolding complete_on
    lasts-some l q x f =
        let c = sym ended in
        let g = f ∙ ap (λ (y : List ℕ). (complete_on e n y).entered) q in
        record {
          standing = ap (λ (r : Entered). r.standing) g ∙ ap (λ (r : Ended Progress). r.progress.standing) c;
          number = ap (λ (r : Ended Progress). r.number) c;
          long = ap (λ (r : Ended Progress). r.long) c;
        }

    pub stores_some : (l : List ℕ) → l ≡ line k → (after : List ℕ) (x : Entered) → Completes m b.entered n l after x → Stores m after x
    unfolding complete_on
    stores_some l q after x f =
        let g : Completes m b.entered n (line k) after x = subst (λ (y : List ℕ). Completes m b.entered n y after x) q f in
        let c : p.body ≡ (closed (decode m) (state_in m)).progress.body = sym (ap (λ (r : Ended Progress). r.progress.body) ended) in
        record {
          held = g.ready.held;
          is = ap (λ (r : Entry). r.memory) g.is ∙ ap (λ (l : List Statement). laid_behind (decode m) l m) c;
          statements = ap (λ (r : Entry). r.entered.statements) g.is ∙ ap length c;
          values = ap (λ (r : Entry). r.entered.values) g.is ∙ ap (λ (l : List Statement). length (flat values_of l)) c;
          bytes = ap (λ (r : Entry). r.entered.bytes) g.is ∙ ap (λ (l : List Statement). length (flat bytes_of l)) c;
          front = g.front;
        }

-- ---- the answer by how it stands

pub placed-in : (t : Standing) → InLine t → Placed t
placed-in (S.Storing r) i = tt
placed-in (S.Overflowed r) i = tt
placed-in (S.Faulted f) i = i.1

pub faulted-place : (t : Standing) (f : TextFault) → t ≡ S.Faulted f → Placed t → f.place ≤ LONGEST_LINE
faulted-place t f h p = subst Placed h p

module _ (m : List ℕ) (u : Opened m) where
  -- the count of texts is the limit's
  pub stored-end : (t : Standing) (r : Reader) (number long : ℕ) → t ≡ S.Storing r → Words m → (a : Reply)
      → a ≡ at_end r number long (ltb (text_count m) TEXTS) → a ≡ end_reply (decode m) t number long
  stored-end t r number long h w a p =
      p ∙ ap (λ (n : ℕ). at_end r number long (ltb n TEXTS)) (holds-decode m (sound-of m u.undamaged) w).text_count=
      ∙ sym (ap (λ (x : Standing). end_reply (decode m) x number long) h)

module _ (m : List ℕ) (u : Opened m) (r : ending.Ended) (l : Lasts m r) where
  pub lasts-short : Short m r
  lasts-short =
      let p = end-pointing m u.undamaged u.opened in
      record { open-in = u; placed = subst Placed (sym l.standing) (placed-in (closed (decode m) (state_in m)).progress.standing p.in-line); long = omega (arith, l.long, p.long) }

  -- not too long
  pub ends_as : ltb MOST (state_in m).bytes ≡ false → (a : Reply) → a ≡ end_reply (decode m) r.entered.standing r.number r.long → a ≡ close_answer (decode m) (state_in m)
  unfolding close_answer
  ends_as e a h = h ∙ (λ i. end_reply (decode m) (l.standing i) (l.number i) (l.long i)) ∙ sym (rw e refl)

pub too_long : (m : List ℕ) → ltb MOST (state_in m).bytes ≡ true → refusing TextTooLong ≡ close_answer (decode m) (state_in m)
unfolding close_answer
too_long m e = rw e refl

-- ---- a text laid behind what is held, and then its word and the front

module _ (m : List ℕ) (s : Pool) (H : Holds m s) (w : Words m) (t : Text) (F : Fits (with s t)) where
  abbrev inked : List ℕ
  inked = inked_at (length (string_bytes s)) (flat bytes_of t.body) m

  -- the word may be written before the statements
  word_first : over (TEXTS_AT + length s) (text_word t ∷ []) (laid_behind s t.body m) ≡ add_columns per_statement (program s) t.body (add_columns per_text s (t ∷ []) inked)
  unfolding laid_behind flat
  word_first =
      let p = program s in
      let x = text_word t ∷ [] in
      let at = TEXTS_AT + length s in
      let hs = map head_word t.body in
      let few : length s + 1 ≡ length (with s t) = sym (length-append s (t ∷ [])) in
      let h = HEADS_AT + length p in
      let n = NAMES_AT + NAMEWORDS * length p in
      let v = VALUES_AT + length (values s) in
      sym (over-comm at x v (flat values_of t.body) _ (omega (arith, F.texts)))
      ∙ ap (over v (flat values_of t.body)) (sym (over-comm at x n (flat name_of t.body) _ (omega (arith, F.texts))))
      ∙ ap (λ (l : List ℕ). over v (flat values_of t.body) (over n (flat name_of t.body) l)) (sym (over-comm at x h hs inked (omega (arith, F.texts))))
      ∙ sym (λ i. over v (flat values_of t.body) (over (NAMES_AT + length-laid-names p i) (flat name_of t.body) (over (HEADS_AT + length-laid-heads p i) (flat_map head_word t.body i)
      (over (TEXTS_AT + length-laid-texts s i) x inked))))

  pub laid-put : over 0 (front (with s t)) (over (TEXTS_AT + length s) (text_word t ∷ []) (laid_behind s t.body m)) ≡ put (with s t) m
  laid-put = ap (over 0 (front (with s t))) word_first ∙ added m s t H F w

-- ---- the same by the numbers

pub framed : {m : List ℕ} {label : ℕ} {r : Entered} → Sealable m label r → Framed m
framed {m} k = (orderly-of TEXTS m (omega arith) k.held).sizes

-- the words of the front are among those that stay
front-word : (m after : List ℕ) → take HEADS_AT after ≡ take HEADS_AT m → (i : ℕ) → i < HEADS_AT → get_or after i 0 ≡ get_or m i 0
front-word m after h i l = sym (get_or-take HEADS_AT after i 0 l) ∙ ap (λ (x : List ℕ). get_or x i 0) h ∙ get_or-take HEADS_AT m i 0 l

module _ (m : List ℕ) (b : Bookmark) (h : E.Holds m b) (w : Words m) (after : List ℕ) (r : Entered) (S : Stores m after r) where
  abbrev s : Pool
  s = decode m

  abbrev t : Text
  t = record { label = open_label m; body = (closed s (state_in m)).progress.body }

  undamaged : sound m ≡ true
  undamaged = h.found.open-in.undamaged

  H : Holds m s
  H = holds-decode m (sound-of m undamaged) w

  fine : done (close_answer s (state_in m)) ≡ true
  fine = ap done h.done

  F : Fits (with s t)
  F = fits m undamaged h.found.open-in.opened fine

  texts= : text_count after + 1 ≡ length (with s t)
  texts= = omega (arith, front-word m after S.front 0 (lit< tt), H.text_count=, texts-with s t)

  statements= : statement_count after + r.statements ≡ length (program (with s t))
  statements= = omega (arith, front-word m after S.front 1 (lit< tt), S.statements, H.statement_count=, statements-with s t)

  values= : value_count after + r.values ≡ length (values (with s t))
  values= = omega (arith, front-word m after S.front 2 (lit< tt), S.values, H.value_count=, values-with s t)

  bytes= : byte_count after + r.bytes ≡ length (string_bytes (with s t))
  bytes= = omega (arith, front-word m after S.front 3 (lit< tt), S.bytes, H.byte_count=, bytes-with s t)

  pub sealable : (label : ℕ) → label < HALF → Sealable after label r
  sealable label l = record {
    held = S.held;
    short = l;
    texts = omega (arith, texts=, F.texts);
    statements = omega (arith, statements=, F.statements);
    values = omega (arith, values=, F.values);
    bytes = omega (arith, bytes=, F.bytes);
  }

  pub sealed-put : (label : ℕ) → label ≡ open_label m → (last : List ℕ) → last ≡ sealed label r after → last ≡ put (closed_pool s (open_label m) (state_in m)) m
  unfolding closed_pool
  sealed-put label l last p =
      let k : text_count after ≡ length s = front-word m after S.front 0 (lit< tt) ∙ H.text_count= in
      rw fine
      (p
      ∙ (λ i. over 0 (texts= i ∷ statements= i ∷ values= i ∷ bytes= i ∷ NONE_OPEN ∷ []) (over (TEXTS_AT + k i) (joined (l i) (S.statements i) ∷ []) (S.is i)))
      ∙ laid-put m s H w t F)
