-- Cutting a state out of words behind which others stand gives what is cut out of each, one after the other. Assumes nothing.
use mathlib.Core.Path.{◌≡◌, refl, ap, ◌∙◌}
use mathlib.Core.Bool.{Bool, true, false}
use mathlib.Core.List.{List, [], ◌∷◌, ◌++◌}
use Prim.Native.Nat.{ℕ, ◌+◌, ◌*◌, ◌/◌, ◌%◌, ◌≤◌}
use native.Mathlib.Omega.{arith}
use borrow.Author.Tests.{leb-true}
use lib.Dec.{eqb, leb}
use lib.ListN.{length, take, drop, length-drop}
use lib.Seq.{take_all, take-append-le, drop-append-le}
use Rattle.std.specs.Prelude.{if◌then◌else◌}
use Rattle.plain.proofs.Each.{Each}
use Rattle.value.specs.Strings.{STRING}
use Rattle.statement.specs.Statements.{numbers, strings, Statement}
use Rattle.words.specs.Halves.{upper, lower, sum}
use Rattle.names.specs.Names.{NAMEWORDS, unpacked}
use Rattle.layout.specs.Memory.{operator_of, cut_strings, cut_values, bytes_taken, cut_statements, cut_texts}
use Rattle.layout.specs.Damage.{small, fits, total_bytes}
use Rattle.layout.proofs.Sound.{Fitting}

none : {A : Type 0} (xs : List A) → length xs ≡ 0 → xs ≡ []
none [] e = refl
none (x ∷ xs) e = absurd (omega arith)

-- ---- strings and values, whatever bytes stand behind theirs

strings-before : (ws bs cs : List ℕ) → Each (λ w. leb w STRING ≡ true) ws → sum ws ≤ length bs → cut_strings ws (bs ++ cs) ≡ cut_strings ws bs
unfolding cut_strings sum
strings-before [] bs cs f h = refl
strings-before (w ∷ ws) bs cs f h =
    let s : w ≤ STRING = leb-true w STRING f.0 in
    let k : w ≤ length bs = omega arith in
    let r = ap (cut_strings ws) (drop-append-le w bs cs k) ∙ strings-before ws (drop w bs) cs f.1 (omega (arith, length-drop w bs)) in
    λ i. take-append-le w bs cs k i ∷ r i

values-before : (k : ℕ) (ws bs cs : List ℕ) → Each (λ w. fits k w ≡ true) ws → bytes_taken k ws ≤ length bs → cut_values k ws (bs ++ cs) ≡ cut_values k ws bs
values-before k ws bs cs = by (eqb k 0)
  where
    by : (t : Bool) → Each (λ w. (if t then small w else leb w STRING) ≡ true) ws → (if t then 0 else sum ws) ≤ length bs
        → (if t then numbers ws else strings (cut_strings ws (bs ++ cs))) ≡ (if t then numbers ws else strings (cut_strings ws bs))
    by true f h = refl
    by false f h = ap strings (strings-before ws bs cs f h)

-- ---- statements, and texts

pub statements-behind : (hs ns vs bs hs' ns' vs' bs' : List ℕ) → Fitting hs vs → length ns ≡ NAMEWORDS * length hs → sum hs ≡ length vs → total_bytes hs vs ≡ length bs
    → cut_statements (hs ++ hs') (ns ++ ns') (vs ++ vs') (bs ++ bs') ≡ cut_statements hs ns vs bs ++ cut_statements hs' ns' vs' bs'
unfolding cut_statements sum total_bytes
statements-behind [] ns vs bs hs' ns' vs' bs' f a b c =
    λ i. cut_statements hs' (none ns (omega arith) i ++ ns') (none vs (omega arith) i ++ vs') (none bs (omega arith) i ++ bs')
statements-behind (h ∷ hs) ns vs bs hs' ns' vs' bs' f a b c =
    let n = lower h in
    let k = upper h / 2 in
    let t = bytes_taken k (take n vs) in
    let x : take n (vs ++ vs') ≡ take n vs = take-append-le n vs vs' (omega arith) in
    let y : take NAMEWORDS (ns ++ ns') ≡ take NAMEWORDS ns = take-append-le NAMEWORDS ns ns' (omega arith) in
    let v : cut_values k (take n (vs ++ vs')) (bs ++ bs') ≡ cut_values k (take n vs) bs =
    ap (λ (l : List ℕ). cut_values k l (bs ++ bs')) x ∙ values-before k (take n vs) bs bs' f.0 (omega arith) in
    let p : drop NAMEWORDS (ns ++ ns') ≡ drop NAMEWORDS ns ++ ns' = drop-append-le NAMEWORDS ns ns' (omega arith) in
    let q : drop n (vs ++ vs') ≡ drop n vs ++ vs' = drop-append-le n vs vs' (omega arith) in
    let d : drop (bytes_taken k (take n (vs ++ vs'))) (bs ++ bs') ≡ drop t bs ++ bs' =
    ap (λ (l : List ℕ). drop (bytes_taken k l) (bs ++ bs')) x ∙ drop-append-le t bs bs' (omega arith) in
    let r =
    (λ i. cut_statements (hs ++ hs') (p i) (q i) (d i))
    ∙ statements-behind hs (drop NAMEWORDS ns) (drop n vs) (drop t bs) hs' ns' vs' bs' f.1 (omega (arith, length-drop NAMEWORDS ns)) (omega (arith, length-drop n vs)) (omega (arith, length-drop t bs)) in
    λ i. record { name = unpacked (y i); operator = operator_of (upper h % 2); values = v i } ∷ r i

pub texts-behind : (ws : List ℕ) (w : ℕ) (ss ss' : List Statement) → sum ws ≡ length ss → lower w ≡ length ss'
    → cut_texts (ws ++ (w ∷ [])) (ss ++ ss') ≡ cut_texts ws ss ++ (record { label = upper w; body = ss' } ∷ [])
unfolding cut_texts sum
texts-behind [] w ss ss' a b =
    let e : take (lower w) (ss ++ ss') ≡ ss' = ap (λ (l : List Statement). take (lower w) (l ++ ss')) (none ss (omega arith)) ∙ take_all (lower w) ss' (omega arith) in
    λ i. record { label = upper w; body = e i } ∷ []
texts-behind (x ∷ ws) w ss ss' a b =
    let n = lower x in
    let d : drop n (ss ++ ss') ≡ drop n ss ++ ss' = drop-append-le n ss ss' (omega arith) in
    let r = ap (cut_texts (ws ++ (w ∷ []))) d ∙ texts-behind ws w (drop n ss) ss' (omega (arith, length-drop n ss)) b in
    λ i. record { label = upper x; body = take-append-le n ss ss' (omega arith) i } ∷ r i
