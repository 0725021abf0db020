-- What fits beside the held texts, as facts: what has no more statements, values and bytes fits too, and a text that fits has room where there is one
-- text less than the limit. Assumes nothing.
use Prim.Native.Nat.{ℕ, ◌+◌, ◌≤◌}
use native.Mathlib.Numerals.{add-one}
use native.Mathlib.Omega.{arith}
use mathlib.Core.Path.{◌≡◌, refl, sym, ap, ◌∙◌}
use mathlib.Core.Bool.{Bool, true, false, ◌&&◌}
use mathlib.Core.List.{List, []}
use borrow.Author.Tests.{leb-true, le-leb}
use lib.Dec.{leb, ltb}
use lib.ListN.{length}
use Rattle.std.specs.Prelude.{if◌then◌else◌}
use Rattle.plain.proofs.Tests.{both, is_false, true-false}
use Rattle.statement.specs.Statements.{Statement}
use Rattle.statement.specs.declared.values.Reader.{Reader}
use Rattle.layout.specs.State.{Text, Pool, program, flat, values_of, bytes_of, values, string_bytes}
use Rattle.layout.specs.Limits.{TEXTS, STATEMENTS, VALUES, BYTES, room}
use Rattle.layout.proofs.Legal.{fits-of}
use Rattle.loading.specs.Load.{with}
use Rattle.loading.proofs.Rooms.{texts-with, statements-with, values-with, bytes-with}
use Rattle.bookmark.specs.declared.mark.Standing.TheVariants as S
use Rattle.opening.specs.Storing.{Progress, fitting}

-- statements by whether they fit
abbrev pub by_room : (fits : Bool) → Reader → List Statement → Progress
by_room fits r body = if fits then record { body = body; standing = S.Storing r } else record { body = []; standing = S.Overflowed r }

pub record Fitted (s : Pool) (body : List Statement) : Type 0 where
  pub statements : length (program s) + length body ≤ STATEMENTS
  pub values : length (values s) + length (flat values_of body) ≤ VALUES
  pub bytes : length (string_bytes s) + length (flat bytes_of body) ≤ BYTES

module _ (s : Pool) (body : List Statement) where
  pub fitted_of : fitting s body ≡ true → Fitted s body
  unfolding fitting
  fitted_of e =
      let p = leb (length (program s) + length body) STATEMENTS in
      let v = leb (length (values s) + length (flat values_of body)) VALUES in
      let a = both (p && v) (leb (length (string_bytes s) + length (flat bytes_of body)) BYTES) e in
      let b = both p v a.0 in
      record { statements = leb-true _ _ b.0; values = leb-true _ _ b.1; bytes = leb-true _ _ a.1 }

  pub of-fitted : Fitted s body → fitting s body ≡ true
  unfolding fitting
  of-fitted f =
      let p : leb (length (program s) + length body) STATEMENTS ≡ true = le-leb _ _ f.statements in
      let v : leb (length (values s) + length (flat values_of body)) VALUES ≡ true = le-leb _ _ f.values in
      let b : leb (length (string_bytes s) + length (flat bytes_of body)) BYTES ≡ true = le-leb _ _ f.bytes in
      λ i. p i && v i && b i

-- nothing fits beside texts that are within the limits
pub fitting-none : (s : Pool) → room s ≡ true → fitting s [] ≡ true
unfolding flat
fitting-none s e =
    let f = fits-of s e in
    of-fitted s [] (record { statements = omega (arith, f.statements); values = omega (arith, f.values); bytes = omega (arith, f.bytes) })

-- ---- more and less

-- b has all that a has
pub record Grows (a b : List Statement) : Type 0 where
  pub statements : length a ≤ length b
  pub values : length (flat values_of a) ≤ length (flat values_of b)
  pub bytes : length (flat bytes_of a) ≤ length (flat bytes_of b)

-- what does not fit does not fit with more
pub unfitting : (s : Pool) (a b : List Statement) → Grows a b → fitting s a ≡ false → fitting s b ≡ false
unfitting s a b g e = is_false (fitting s b) (λ h. true-false (sym (of-fitted s a (less (fitted_of s b h))) ∙ e))
  where
    less : Fitted s b → Fitted s a
    less f =
        record {
          statements = omega (arith, g.statements, f.statements);
          values = omega (arith, g.values, f.values);
          bytes = omega (arith, g.bytes, f.bytes);
        }

-- ---- the pool with the text

and_first : (t p v b : Bool) → (t && p && v && b) ≡ (t && (p && v && b))
and_first true p v b = refl
and_first false p v b = refl

pub room-with : (s : Pool) (t : Text) → room (with s t) ≡ (ltb (length s) TEXTS && fitting s t.body)
unfolding room fitting
room-with s t =
    let x = leb (length s + 1) TEXTS in
    let p = leb (length (program s) + length t.body) STATEMENTS in
    let v = leb (length (values s) + length (flat values_of t.body)) VALUES in
    let b = leb (length (string_bytes s) + length (flat bytes_of t.body)) BYTES in
    rw (texts-with s t, statements-with s t, values-with s t, bytes-with s t)
    (and_first x p v b ∙ ap (λ (n : ℕ). leb n TEXTS && (p && v && b)) (add-one (length s)))
