-- Each complete line leaves an entry as it found it: the same pool undamaged, the text's words behind it in order, its reader borne out; and what the
-- entry then tells is what the line makes of what it told. Assumes nothing.
use Prim.Native.Nat.{ℕ, ◌+◌, ◌*◌, ◌≤◌}
use native.Mathlib.Omega.{arith}
use mathlib.Core.Path.{◌≡◌, refl, sym, ap, subst, ◌∙◌}
use mathlib.Core.Bool.{Bool, true, false}
use mathlib.Core.List.{List, map}
use lib.ListN.{length, take, drop}
use Rattle.plain.specs.Bytes.{fair}
use Rattle.plain.proofs.Each.{Each}
use Rattle.statement.specs.Statements.{Statement}
use Rattle.statement.specs.declared.values.Reader.{Reader}
use Rattle.text.specs.Line.{Outcome, next, fault, answered}
use Rattle.words.specs.Halves.{upper, lower, sum}
use Rattle.words.specs.Over.{part}
use Rattle.octets.specs.Octets.{octets}
use Rattle.names.specs.Names.{NAMEWORDS}
use Rattle.layout.specs.State.{Pool, program, flat, values_of, bytes_of, values, string_bytes}
use Rattle.layout.specs.Limits.{TEXTS, BYTEWORDS, HEADS_AT, NAMES_AT, VALUES_AT, BYTES_AT, room}
use Rattle.layout.specs.Memory.{statement_count, value_count, byte_count, decode, head_word, name_of, laid_behind}
use Rattle.layout.specs.Damage.{total_bytes}
use Rattle.layout.proofs.Codec.{each-short, named-laid, operators-laid, counts-laid, sum-heads, fitting-laid, bytes-heads, letters-laid, length-laid-names}
use Rattle.layout.proofs.Columns.{flat_map}
use Rattle.layout.proofs.Holds.{decode-fits, length-program, length-held, length-bytes-held, length-laid-heads}
use Rattle.layout.proofs.Legal.{Fair, of-fits}
use Rattle.layout.proofs.Sound.{Named, Fitting, Orderly, orderly-of, of-orderly}
use Rattle.bookmark.specs.declared.mark.Standing.{Standing}
use Rattle.bookmark.specs.declared.mark.Standing.TheVariants as S
use Rattle.bookmark.proofs.Numbered.{InLine}
use Rattle.feeding.specs.Parts.{MOST}
use Rattle.opening.specs.Storing.{Progress, extended, fitting, stored, storing_line, overflowed_line, by_standing, complete}
use Rattle.opening.proofs.Fitting.{by_room, Fitted, fitted_of, of-fitted}
use Rattle.opening.proofs.Storable.{Storable, storable}
use Rattle.entering.specs.Entries.{Entry, body_of, progress_of, entering, complete_on}
use Rattle.entering.specs.Lines.{Bears, Borne}
use Rattle.entering.proofs.Counting.{grows-line}
use Rattle.entering.proofs.Laying.{lying, decode-laid, orderly-laid, body-laid}
use Rattle.entering.proofs.Lines.{at-line}
use Rattle.keeping.proofs.Behind.{heads_behind, names_behind, values_behind, bytes_behind, Behind, body-statements, body-values, body_bytes, body-fair}
use Rattle.keeping.proofs.Places.{in-line}

-- ---- the reader that a line leaves is borne out

module _ (s : Pool) (number : ℕ) where
  borne-stored : (r : Reader) (body : List Statement) → Bears r body → Borne (stored s r body).standing (stored s r body).body
  borne-stored r body d = by (fitting s body)
    where
      by : (t : Bool) → Borne (by_room t r body).standing (by_room t r body).body
      by true = d
      by false = tt

  borne-line : (r : Reader) (body : List Statement) (line : List ℕ) → Bears r body → (o : Outcome) → answered r line ≡ o
      → Borne (storing_line s r body o number).standing (storing_line s r body o number).body
  borne-line r body line d (next q es) e = borne-stored q (extended r body es) (at-line _ grows-line r line q es e body d).bears
  borne-line r body line d (fault q k) e = tt

  borne-lost : (body : List Statement) (o : Outcome) → Borne (overflowed_line body o number).standing (overflowed_line body o number).body
  borne-lost body (next q es) = tt
  borne-lost body (fault q k) = tt

  borne-complete : (p : Progress) (line : List ℕ) → Borne p.standing p.body → Borne (complete s p number line).standing (complete s p number line).body
  unfolding complete
  borne-complete p line = by p.body p.standing
    where
      by : (body : List Statement) (t : Standing) → Borne t body → Borne (by_standing s body t number line).standing (by_standing s body t number line).body
      by body (S.Storing r) d = borne-line r body line d (answered r line) refl
      by body (S.Overflowed r) d = borne-lost body (answered r line)
      by body (S.Faulted f) d = tt

-- ---- statements laid behind what is held keep the conditions there

module _ (m : List ℕ) (S : Orderly TEXTS m) (b : List Statement) (F : Fitted (decode m) b) (f : Each Fair b) where
  abbrev x : List ℕ
  x = laid_behind (decode m) b m

  laid-orderly : Orderly TEXTS x
  laid-orderly = orderly-of TEXTS x (omega arith) (orderly-laid m S b F f ∙ of-orderly TEXTS m S)

  s# : statement_count x ≡ length (program (decode m))
  s# = sym (length-program x laid-orderly) ∙ ap (λ (s : Pool). length (program s)) (decode-laid m S b F f)

  v# : value_count x ≡ length (values (decode m))
  v# = sym (length-held x laid-orderly) ∙ ap (λ (s : Pool). length (values s)) (decode-laid m S b F f)

  b# : byte_count x ≡ length (string_bytes (decode m))
  b# = sym (length-bytes-held x laid-orderly) ∙ ap (λ (s : Pool). length (string_bytes s)) (decode-laid m S b F f)

  heads= : heads_behind x (length b) ≡ map head_word b
  heads= = (λ i. part (HEADS_AT + s# i) (sym (length-laid-heads b) i) x) ∙ (lying m S b F f).heads-at ∙ flat_map head_word b

  names= : names_behind x (length b) ≡ flat name_of b
  names= = (λ i. part (NAMES_AT + NAMEWORDS * s# i) (sym (length-laid-names b) i) x) ∙ (lying m S b F f).names_at

  values= : values_behind x (length (flat values_of b)) ≡ flat values_of b
  values= = (λ i. part (VALUES_AT + v# i) (length (flat values_of b)) x) ∙ (lying m S b F f).values-at

  bytes= : bytes_behind x (length (flat bytes_of b)) ≡ flat bytes_of b
  bytes= = (λ i. take (length (flat bytes_of b)) (drop (b# i) (octets (part BYTES_AT BYTEWORDS x)))) ∙ (lying m S b F f).bytes-at F.bytes

  laid-behind : Behind x (length b) (length (flat values_of b)) (length (flat bytes_of b))
  laid-behind =
      let n = length b in
      let short = each-short b (omega (arith, F.values)) in
      record {
        few = omega (arith, F.statements, s#);
        small = omega (arith, F.values, v#);
        brief = omega (arith, F.bytes, b#);
        names = subst (λ (l : List ℕ). Named l (names_behind x n)) (sym heads=) (subst (Named (map head_word b)) (sym names=) (named-laid b f));
        operators = subst (Each (λ h. upper h ≤ 3)) (sym heads=) (operators-laid b short);
        counts = subst (Each (λ h. 1 ≤ lower h)) (sym heads=) (counts-laid b f short);
        values= = ap sum heads= ∙ sum-heads b short;
        fitting = subst (λ (l : List ℕ). Fitting l (values_behind x (length (flat values_of b)))) (sym heads=) (subst (Fitting (map head_word b)) (sym values=) (fitting-laid b f short));
        bytes= = (λ i. total_bytes (heads= i) (values= i)) ∙ bytes-heads b f short;
        letters = subst (Each (λ c. fair c ≡ true)) (sym bytes=) (letters-laid b f);
      }

-- ---- an entry beside the pool s

pub record Kept (s : Pool) (e : Entry) : Type 0 where
  pub held : Orderly TEXTS e.memory
  pub same : decode e.memory ≡ s
  pub behind : Behind e.memory e.entered.statements e.entered.values e.entered.bytes
  pub borne : Borne e.entered.standing (body_of e)
  pub in-line : InLine e.entered.standing

module _ {s : Pool} (e : Entry) (k : Kept s e) where
  abbrev m : List ℕ
  m = e.memory

  pub kept-fitted : Fitted s (body_of e)
  kept-fitted =
      let w = k.held.sizes.words in
      let n = e.entered.statements in
      let v = e.entered.values in
      let b = e.entered.bytes in
      let B = k.behind in
      subst (λ (x : Pool). Fitted x (body_of e)) k.same (record {
        statements = omega (arith, B.few, length-program m k.held, body-statements m w n v b B);
        values = omega (arith, B.small, length-held m k.held, body-values m w n v b B);
        bytes = omega (arith, B.brief, length-bytes-held m k.held, body_bytes m w n v b B);
      })

  pub kept-storable : Storable s (progress_of e)
  kept-storable = record {
    fits = of-fitted s (body_of e) kept-fitted;
    fair = body-fair m k.held.sizes.words e.entered.statements e.entered.values e.entered.bytes k.behind;
  }

  pub kept-room : room s ≡ true
  kept-room = subst (λ (x : Pool). room x ≡ true) k.same (of-fits (decode m) (decode-fits m k.held))

  module _ (number : ℕ) (line : List ℕ) where
    abbrev p : Progress
    p = complete s (progress_of e) number line

    new : Storable s p
    new = storable s kept-room (progress_of e) kept-storable number line

    fitted : Fitted (decode m) p.body
    fitted = subst (λ (x : Pool). Fitted x p.body) (sym k.same) (fitted_of s p.body new.fits)

    -- it is laid behind the same pool
    pub complete-is : complete_on e number line ≡ entering (decode m) p m
    unfolding complete_on
    complete-is = ap (λ (x : Pool). entering (decode m) (complete x (progress_of e) number line) m) k.same

    pub complete-tells : progress_of (complete_on e number line) ≡ p
    complete-tells =
        ap progress_of complete-is
        ∙ ap (λ (l : List Statement). record { body = l; standing = p.standing }) (body-laid m k.held p.body fitted new.fair)

    pub complete-kept : number ≤ MOST + 1 → Kept s (complete_on e number line)
    complete-kept h = subst (Kept s) (sym complete-is) (record {
      held = laid-orderly m k.held p.body fitted new.fair;
      same = decode-laid m k.held p.body fitted new.fair ∙ k.same;
      behind = laid-behind m k.held p.body fitted new.fair;
      borne = subst (Borne p.standing) (sym (body-laid m k.held p.body fitted new.fair)) (borne-complete s number (progress_of e) line k.borne);
      in-line = in-line s number h (progress_of e) line k.in-line;
    })
