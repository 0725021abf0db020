-- The words behind those in use keep the conditions of held ones: then the statements cut out of them are as many as counted, and fair; and they do so
-- whatever is written before the statements. Assumes nothing.
use Prim.Native.Nat.{ℕ, ◌+◌, ◌*◌, ◌≤◌}
use native.Mathlib.Omega.{arith}
use mathlib.Core.Path.{◌≡◌, sym, ap, subst, ◌∙◌}
use mathlib.Core.Bool.{true}
use mathlib.Core.List.{List}
use lib.ListN.{length, take, drop, length-drop}
use lib.Seq.{length-take-le}
use Rattle.plain.specs.Bytes.{fair}
use Rattle.plain.proofs.Each.{Each}
use Rattle.words.specs.Halves.{upper, lower, sum}
use Rattle.words.specs.Over.{part}
use Rattle.octets.specs.Octets.{octets}
use Rattle.octets.proofs.Bytes.{length-octets}
use Rattle.names.specs.Names.{NAMEWORDS}
use Rattle.layout.specs.Limits.{STATEMENTS, VALUES, BYTES, WORDS, BYTEWORDS, HEADS_AT, NAMES_AT, VALUES_AT, BYTES_AT}
use Rattle.layout.specs.State.{flat, values_of, bytes_of}
use Rattle.layout.specs.Memory.{statement_count, value_count, byte_count}
use Rattle.layout.specs.Damage.{total_bytes}
use Rattle.layout.proofs.Areas.{length_part}
use Rattle.layout.proofs.Codec.{length_cut, values-cut, bytes_cut, fair-cut}
use Rattle.layout.proofs.Legal.{Fair}
use Rattle.layout.proofs.Sound.{Named, Fitting}
use Rattle.entering.specs.Entries.{body_behind}
use Rattle.keeping.proofs.Alike.{Alike, statements#=, values#=, bytes#=}

-- ---- the words behind those in use

module _ (m : List ℕ) where
  abbrev pub heads_behind : ℕ → List ℕ
  heads_behind n = part (HEADS_AT + statement_count m) n m

  abbrev pub names_behind : ℕ → List ℕ
  names_behind n = part (NAMES_AT + NAMEWORDS * statement_count m) (NAMEWORDS * n) m

  abbrev pub values_behind : ℕ → List ℕ
  values_behind k = part (VALUES_AT + value_count m) k m

  abbrev pub bytes_behind : ℕ → List ℕ
  bytes_behind b = take b (drop (byte_count m) (octets (part BYTES_AT BYTEWORDS m)))

-- so many statements, values and bytes of strings keep the conditions there
pub record Behind (m : List ℕ) (n k b : ℕ) : Type 0 where
  pub few : statement_count m + n ≤ STATEMENTS
  pub small : value_count m + k ≤ VALUES
  pub brief : byte_count m + b ≤ BYTES
  pub names : Named (heads_behind m n) (names_behind m n)
  pub operators : Each (λ h. upper h ≤ 3) (heads_behind m n)
  pub counts : Each (λ h. 1 ≤ lower h) (heads_behind m n)
  pub values= : sum (heads_behind m n) ≡ k
  pub fitting : Fitting (heads_behind m n) (values_behind m k)
  pub bytes= : total_bytes (heads_behind m n) (values_behind m k) ≡ b
  pub letters : Each (λ c. fair c ≡ true) (bytes_behind m b)

-- ---- the statements that are cut out of them

module _ (m : List ℕ) (e : length m ≡ WORDS) (n k b : ℕ) (B : Behind m n k b) where
  pub length-heads-behind : length (heads_behind m n) ≡ n
  length-heads-behind = length_part (HEADS_AT + statement_count m) n m (omega (arith, B.few))

  pub length-names-behind : length (names_behind m n) ≡ NAMEWORDS * n
  length-names-behind = length_part (NAMES_AT + NAMEWORDS * statement_count m) (NAMEWORDS * n) m (omega (arith, B.few))

  pub length-values-behind : length (values_behind m k) ≡ k
  length-values-behind = length_part (VALUES_AT + value_count m) k m (omega (arith, B.small))

  pub length-bytes-behind : length (bytes_behind m b) ≡ b
  length-bytes-behind =
      let p = part BYTES_AT BYTEWORDS m in
      length-take-le b (drop (byte_count m) (octets p))
      (omega (arith, length-drop (byte_count m) (octets p), length-octets p, length_part BYTES_AT BYTEWORDS m (omega arith), B.brief))

  pub body-statements : length (body_behind n k b m) ≡ n
  body-statements = length_cut (heads_behind m n) (names_behind m n) (values_behind m k) (bytes_behind m b) ∙ length-heads-behind

  pub body-values : length (flat values_of (body_behind n k b m)) ≡ k
  body-values =
      ap length
      (values-cut (heads_behind m n) (names_behind m n) (values_behind m k) (bytes_behind m b) B.fitting (B.values= ∙ sym length-values-behind)
      (omega (arith, B.bytes=, length-bytes-behind)))
      ∙ length-values-behind

  pub body_bytes : length (flat bytes_of (body_behind n k b m)) ≡ b
  body_bytes =
      ap length (bytes_cut (heads_behind m n) (names_behind m n) (values_behind m k) (bytes_behind m b) B.fitting (B.bytes= ∙ sym length-bytes-behind))
      ∙ length-bytes-behind

  pub body-fair : Each Fair (body_behind n k b m)
  body-fair =
      fair-cut (heads_behind m n) (names_behind m n) (values_behind m k) (bytes_behind m b) B.names B.counts
      (omega (arith, B.values=, length-values-behind)) B.fitting B.letters

-- ---- other words before the statements change nothing of it

pub alike-behind : {x m : List ℕ} → Alike x m → (n k b : ℕ) → Behind m n k b → Behind x n k b
alike-behind {x} {m} a n k b B = record {
  few = omega (arith, B.few, s);
  small = omega (arith, B.small, v);
  brief = omega (arith, B.brief, t);
  names = subst (λ (l : List ℕ). Named l (names_behind x n)) (sym hs) (subst (Named (heads_behind m n)) (sym ns) B.names);
  operators = subst (Each (λ h. upper h ≤ 3)) (sym hs) B.operators;
  counts = subst (Each (λ h. 1 ≤ lower h)) (sym hs) B.counts;
  values= = ap sum hs ∙ B.values=;
  fitting = subst (λ (l : List ℕ). Fitting l (values_behind x k)) (sym hs) (subst (Fitting (heads_behind m n)) (sym vs) B.fitting);
  bytes= = (λ i. total_bytes (hs i) (vs i)) ∙ B.bytes=;
  letters = subst (Each (λ c. fair c ≡ true)) (sym bs) B.letters;
}
  where
    s : statement_count x ≡ statement_count m
    s = statements#= a

    v : value_count x ≡ value_count m
    v = values#= a

    t : byte_count x ≡ byte_count m
    t = bytes#= a

    hs : heads_behind x n ≡ heads_behind m n
    hs = ap (λ (j : ℕ). part (HEADS_AT + j) n x) s ∙ a.behind (HEADS_AT + statement_count m) n (omega arith)

    ns : names_behind x n ≡ names_behind m n
    ns = ap (λ (j : ℕ). part (NAMES_AT + NAMEWORDS * j) (NAMEWORDS * n) x) s ∙ a.behind (NAMES_AT + NAMEWORDS * statement_count m) (NAMEWORDS * n) (omega arith)

    vs : values_behind x k ≡ values_behind m k
    vs = ap (λ (j : ℕ). part (VALUES_AT + j) k x) v ∙ a.behind (VALUES_AT + value_count m) k (omega arith)

    bs : bytes_behind x b ≡ bytes_behind m b
    bs = λ i. take b (drop (t i) (octets (a.behind BYTES_AT BYTEWORDS (omega arith) i)))
