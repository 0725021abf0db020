-- The open text of an undamaged memory is ready for its next line: its statements stand behind what is held, counted by its words, so that laying them
-- there again changes nothing. Assumes nothing.
use Prim.Native.Nat.{ℕ, ◌+◌, ◌*◌, ◌<◌}
use native.Mathlib.Omega.{arith}
use mathlib.Core.Path.{◌≡◌, refl, sym, ap, subst, ◌∙◌}
use mathlib.Core.Bool.{true}
use mathlib.Core.List.{List, [], ◌∷◌, ◌++◌, map}
use lib.Dec.{lit<}
use lib.ListN.{length, drop, get_or, length-append}
use lib.Seq.{get_or-take, get_or-drop}
use Rattle.plain.proofs.Each.{Each, each_right}
use Rattle.statement.specs.Statements.{Statement}
use Rattle.words.specs.Over.{over, part}
use Rattle.words.proofs.Each.{Words}
use Rattle.words.proofs.Over.{over-same}
use Rattle.octets.specs.Octets.{octets}
use Rattle.names.specs.Names.{NAMEWORDS}
use Rattle.layout.specs.State.{Text, Pool, program, flat, values_of, bytes_of, values, string_bytes}
use Rattle.layout.specs.Limits.{TEXTS, OPEN_AT, OPENWORDS, HEADS_AT, NAMES_AT, VALUES_AT, BYTES_AT, BYTEWORDS}
use Rattle.layout.specs.Memory.{decode, opens, open_statements, open_values, open_bytes, open_body, open_text, head_word, name_of, laid_behind}
use Rattle.layout.specs.Damage.{bytes_so_far, sound}
use Rattle.layout.specs.Totals.{Behind, merged_totals}
use Rattle.layout.proofs.Areas.{length_part, statement_count-under, value_count-under}
use Rattle.layout.proofs.Changes.{ink-same, ink-behind}
use Rattle.layout.proofs.Codec.{length-laid-names}
use Rattle.layout.proofs.Columns.{At, at_left, at_right, Stands, flat_append, flat_map}
use Rattle.layout.proofs.Holds.{per_statement, inked_at, length-laid-heads}
use Rattle.layout.proofs.Legal.{Fair, program-last}
use Rattle.layout.proofs.Sound.{sound-of, sound-open, of-orderly}
use Rattle.behind.proofs.Merged.{length-body, open-legal}
use Rattle.behind.proofs.Laid.{Laid, values-both, bytes-both, open-laid}
use Rattle.feeding.specs.Parts.{Open}
use Rattle.bookmark.specs.Words.{read_open}
use Rattle.bookmark.specs.Marked.{Readable, Reads}
use Rattle.bookmark.specs.declared.mark.Bookmark.{Bookmark}
use Rattle.bookmark.specs.declared.mark.Entered.{Entered}
use Rattle.bookmark.specs.declared.mark.Standing.{Standing}
use Rattle.opening.proofs.Fitting.{Fitted, of-fitted}
use Rattle.entering.specs.Entries.{entry}
use Rattle.entering.specs.Lines.{Borne, Ready}
use Rattle.taking.specs.Marked.{open_of}
use Rattle.intake.specs.Opened.{telling, borne_standing, borne}
use Rattle.intake.specs.State.{Opened, Counts, Finds}
use Rattle.intake.proofs.Bearing.{borne-settled}

-- ---- what stands already, written again

same_at : (o : ℕ) (xs m : List ℕ) → At o xs m → over o xs m ≡ m
same_at o xs m a = ap (λ (l : List ℕ). over o l m) (sym a) ∙ over-same o (length xs) m

-- a column behind another, from the place where it begins
behind-at : (o n : ℕ) (f : Statement → List ℕ) (xs ys : List Statement) (m : List ℕ) → length (flat f xs) ≡ n → At o (flat f (xs ++ ys)) m → At (o + n) (flat f ys) m
behind-at o n f xs ys m l a =
    subst (λ (k : ℕ). At (o + k) (flat f ys) m) l (at_right o (flat f xs) (flat f ys) m (subst (λ (x : List ℕ). At o x m) (flat_append f xs ys) a))

module _ (s : Pool) (t : Text) (m : List ℕ) (L : Laid s t m) (w : Words m) where
  pub columns : Stands per_statement (program s ++ t.body) m
  columns = subst (λ (ss : List Statement). Stands per_statement ss m) (program-last s t) L.standing.statements

  letters : At 0 (string_bytes s ++ flat bytes_of t.body) (octets (part BYTES_AT BYTEWORDS m))
  letters = subst (λ (l : List ℕ). At 0 l (octets (part BYTES_AT BYTEWORDS m))) (bytes-both s t) L.standing.bytes

  pub laid-again : laid_behind s t.body m ≡ m
  unfolding laid_behind
  laid-again =
      let p = program s in
      let b = t.body in
      let c = columns in
      let x = octets (part BYTES_AT BYTEWORDS m) in
      let hs = subst (λ (l : List ℕ). At (HEADS_AT + length p) l m) (flat_map head_word b) (behind-at HEADS_AT (length p) (λ z. head_word z ∷ []) p b m (length-laid-heads p) c.0) in
      let ns = behind-at NAMES_AT (NAMEWORDS * length p) name_of p b m (length-laid-names p) c.1.0 in
      let vs = behind-at VALUES_AT (length (values s)) values_of p b m refl c.1.1.0 in
      let k : inked_at (length (string_bytes s)) (flat bytes_of b) m ≡ m =
      ink-behind m w L.words (string_bytes s) (at_left 0 (string_bytes s) (flat bytes_of b) x letters) (flat bytes_of b)
      ∙ ink-same m w L.words (string_bytes s ++ flat bytes_of b) letters in
      ap (λ (l : List ℕ). over (VALUES_AT + length (values s)) (flat values_of b) (over (NAMES_AT + NAMEWORDS * length p) (flat name_of b) (over (HEADS_AT + length p) (map head_word b) l))) k
      ∙ ap (λ (l : List ℕ). over (VALUES_AT + length (values s)) (flat values_of b) (over (NAMES_AT + NAMEWORDS * length p) (flat name_of b) l)) (same_at (HEADS_AT + length p) (map head_word b) m hs)
      ∙ ap (λ (l : List ℕ). over (VALUES_AT + length (values s)) (flat values_of b) l) (same_at (NAMES_AT + NAMEWORDS * length p) (flat name_of b) m ns)
      ∙ same_at (VALUES_AT + length (values s)) (flat values_of b) m vs

  laid-fitted : Fitted s t.body
  laid-fitted = record {
    statements = omega (arith, ap length (program-last s t), length-append (program s) t.body, L.fits.statements);
    values = omega (arith, ap length (values-both s t), length-append (values s) (flat values_of t.body), L.fits.values);
    bytes = omega (arith, ap length (bytes-both s t), length-append (string_bytes s) (flat bytes_of t.body), L.fits.bytes);
  }

-- ---- the open text

module _ (m : List ℕ) (e : sound m ≡ true) (o : opens m ≡ true) (w : Words m) where
  -- its counts, standing so
  abbrev pub standing : Standing → Entered
  standing t = record { standing = t; statements = open_statements m; values = open_values m; bytes = open_bytes m }

  pub open-ready : (t : Standing) → Borne t (open_body m) → Ready m (standing t)
  unfolding open_body
  open-ready t d =
      let s = decode m in
      let L = open-laid m e o w in
      record {
        held = of-orderly TEXTS m (sound-of m e);
        stands = laid-again s (open_text m) m L w;
        statements = sym (length-body m e o);
        values = L.values;
        bytes = L.bytes;
        storable = record {
          fits = of-fitted s (open_body m) (laid-fitted s (open_text m) m L w);
          fair = each_right Fair (program s) (open_body m) (subst (Each Fair) (program-last s (open_text m)) (open-legal m e o).statements);
        };
        borne = d;
      }

pub behind-of : (m : List ℕ) → sound m ≡ true → Behind m
behind-of m e = let S = sound-of m e in record { sizes = S.sizes; few = S.few }

pub opened_of : (m : List ℕ) → sound m ≡ true → opens m ≡ true → Opened m
opened_of m e o = record { undamaged = e; opened = o; behind = behind-of m e }

-- ---- read from its words

module _ (m : List ℕ) (e : sound m ≡ true) (o : opens m ≡ true) (ws : List ℕ) (p : ws ≡ part OPEN_AT OPENWORDS m) where
  word : (i : ℕ) → i < OPENWORDS → get_or ws i 0 ≡ get_or m (OPEN_AT + i) 0
  word i h = ap (λ (l : List ℕ). get_or l i 0) p ∙ get_or-take OPENWORDS (drop OPEN_AT m) i 0 h ∙ get_or-drop OPEN_AT m i 0

  pub open-readable : Readable ws
  open-readable = record {
    words = ap length p ∙ length_part OPEN_AT OPENWORDS m (omega (arith, (sound-of m e).sizes.words));
    kept = omega (arith, word 10 (lit< tt), (sound-open m e o).kept);
  }

  module _ (n : ℕ) (q : n ≡ open_statements m) (b : Bookmark) (r : Reads ws n b) where
    statements= : b.entered.statements ≡ open_statements m
    unfolding read_open
    statements= = ap (λ (x : Open Entered). x.progress.statements) r.is ∙ q

    values= : b.entered.values ≡ open_values m
    unfolding read_open
    values= = ap (λ (x : Open Entered). x.progress.values) r.is ∙ word 1 (lit< tt)

    bytes= : b.entered.bytes ≡ open_bytes m
    unfolding read_open
    bytes= = ap (λ (x : Open Entered). x.progress.bytes) r.is ∙ word 2 (lit< tt)

    total= : b.total ≡ bytes_so_far m
    unfolding read_open
    total= = ap (λ (x : Open Entered). x.bytes) r.is ∙ word 12 (lit< tt)

    pub open-counts : Counts m b.entered
    open-counts =
        let u = merged_totals m in
        let z = (sound-of m e).sizes.words in
        let k = (sound-open m e o).orderly.sizes in
        record {
          open-in = opened_of m e o;
          statements = statements=;
          values = values=;
          heads-room = omega (arith, statement_count-under u m z, k.statements, statements=);
          values-room = omega (arith, value_count-under u m z, k.values, values=);
        }

    pub finds : Words m → (x : Entered) → x ≡ borne (open_body m) b.entered
        → Finds m (record { entered = x; number = b.number; long = b.long; kept = b.kept; pending = b.pending; total = b.total })
    finds w x h =
        let t = borne_standing (open_body m) b.entered.standing in
        let k : x ≡ standing m e o w t = h ∙ (λ i. record { standing = t; statements = statements= i; values = values= i; bytes = bytes= i }) in
        record {
          is =
              ap (λ (y : Entered). open_of m (record { entered = y; number = b.number; long = b.long; kept = b.kept; pending = b.pending; total = b.total })) h
              ∙ ap (telling (λ (y : Entered). entry m (borne (open_body m) y))) (r.is ∙ (λ i. read_open (q i) (p i)));
          fine = record {
            ready = subst (Ready m) (sym k) (open-ready m e o w t (borne-settled (open_body m) b.entered.standing));
            most = omega (arith, total=, (sound-open m e o).counted);
          };
        }
