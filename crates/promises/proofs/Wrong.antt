-- For each contract two wrong answers that it rules out: at a small instance the definition computes to another answer. Assumes nothing.
use Prim.Native.Nat.{ℕ}
use native.Mathlib.Omega.{arith}
use mathlib.Core.Path.{◌≡◌, sym, ap, ◌∙◌}
use mathlib.Core.Bool.{true≢false}
use mathlib.Core.List.{List, [], ◌∷◌}
use lib.Ieee.{Float, nan, is_nan}
use lib.ListN.{get_or, replicate}
use Rattle.std.specs.Prelude.{Ok, Err}
use Rattle.plain.specs.Ascii.{ascii}
use Rattle.plain.specs.Doubles.{nought}
use Rattle.refusal.specs.declared.Refusal.TheVariants as Q
use Rattle.rotation.specs.Table.{size_of}
use Rattle.rotation.specs.Builtin.{builtin_radii}
use Rattle.rotation.specs.declared.matrix.Orientation.{Orientation}
use Rattle.rotation.specs.declared.table.Axes.{Axes}
use Rattle.words.specs.Over.{over}
use Rattle.words.specs.Halves.{sum, distinct, all}
use Rattle.layout.specs.State.{program, flat}
use Rattle.layout.specs.Memory.{decode, cut_texts, cut_statements, put}
use Rattle.layout.specs.Damage.{sound, all_named}
use Rattle.pool.specs.Replies.{Counted, Fetched, refusing, reply_number, counts_texts}
use Rattle.pool.specs.declared.reply.Counts.{Counts}
use Rattle.pool.specs.Empty.{Empties, Clears, empty_reply, clear_reply}
use Rattle.loading.specs.Load.{Loads, load_reply, load_memory}
use Rattle.pool.specs.Remove.{Removes, remove_reply}
use Rattle.pool.specs.Fetch.{Fetches, fetch_reply, fetch_buffer}
use Rattle.pool.specs.FetchString.{FetchesString, string_reply, string_buffer}
use Rattle.variables.specs.Found.{found_in}
use Rattle.variables.specs.Spelled.{spelled_in}
use Rattle.pool.specs.Totals.{Totals, totals_reply}
use Rattle.globe.specs.Orientation.{Orients, orientation_reply}
use Rattle.globe.specs.Radii.{Measures, radii_reply}
use Rattle.globe.specs.declared.source.Source.TheVariants as S
use Rattle.promises.proofs.Computing.{loading, evaluating}
use Rattle.promises.proofs.Instances.{noughts, noughts-sound, noughts-shut, noughts-empty}

pub never : ◌≡◌ {A = ℕ} 0 1 → ⊥
never z = omega arith

-- the first total of a memory
abbrev first : List ℕ → ℕ
first m = get_or m 0 0

-- a memory whose first total is 1
abbrev one_text : List ℕ
one_text = 1 ∷ replicate 6706 0

-- ---- make empty: a memory of the fixed size is not refused; the totals are written

pub empty-refused : (after : List ℕ) → Empties noughts (refusing Q.DamagedPool) after → ⊥
unfolding empty_reply noughts
empty-refused after c = never cc

pub empty-unwritten : Empties one_text (Ok tt) one_text → ⊥
unfolding empty_reply put over program flat
empty-unwritten c = never (sym (ap first c.memory))

-- ---- load: an empty pool has room for the empty text; the text is stored

pub load-refused : (after : List ℕ) → Loads 1 [] noughts (refusing Q.NoRoom) after → ⊥
unfolding load_reply loading
load-refused after c = never (number_of (c.reply ∙ rw (noughts-sound, noughts-shut, noughts-empty)))
  where
    number_of : refusing Q.NoRoom ≡ Ok tt → ◌≡◌ {A = ℕ} 0 1
    number_of e = cc

pub load-unwritten : Loads 1 [] noughts (Ok tt) noughts → ⊥
unfolding load_memory load_reply loading noughts put over sound sum distinct all all_named decode cut_texts cut_statements
load-unwritten c = never (ap first c.memory)

-- ---- remove: a label that is not held is refused; a damaged pool is refused before that

pub remove-granted : (after : List ℕ) → Removes 7 noughts (Ok tt) after → ⊥
unfolding remove_reply loading
remove-granted after c = never (number_of (c.reply ∙ rw (noughts-sound, noughts-shut, noughts-empty)))
  where
    number_of : (Ok tt) ≡ refusing Q.NotHeld → ◌≡◌ {A = ℕ} 0 1
    number_of e = cc

pub remove-late : (after : List ℕ) → Removes 7 [] (refusing Q.NotHeld) after → ⊥
unfolding remove_reply sound
remove-late after c = let n = ap reply_number c.reply in omega (arith, n)

-- ---- clear: an undamaged pool is not refused; a damaged one is

pub clear-refused : (after : List ℕ) → Clears noughts (refusing Q.DamagedPool) after → ⊥
unfolding clear_reply
clear-refused after c = never (number_of (c.reply ∙ rw (noughts-sound, noughts-shut)))
  where
    number_of : refusing Q.DamagedPool ≡ Ok tt → ◌≡◌ {A = ℕ} 0 1
    number_of e = cc

pub clear-granted : (after : List ℕ) → Clears [] (Ok tt) after → ⊥
unfolding clear_reply sound
clear-granted after c = never cc

-- ---- fetch: a variable that is not there is refused, and has no values; a refusal leaves the buffer

pub fetch-granted : (n : ℕ) (buffer after : List Float) → Fetches (ascii "X") noughts buffer (Ok n) after → ⊥
unfolding fetch_reply found_in loading
fetch-granted n buffer after c = never (number_of (c.reply ∙ rw (noughts-sound, noughts-empty)))
  where
    number_of : ◌≡◌ {A = Fetched} (Ok n) (Err Q.NoVariable) → ◌≡◌ {A = ℕ} 0 1
    number_of e = cc

pub fetch-written : (r : Fetched) → Fetches (ascii "X") noughts (nan ∷ []) r (nought ∷ []) → ⊥
unfolding fetch_buffer found_in loading is_nan
fetch-written r c =
    let e : fetch_buffer (ascii "X") noughts (nan ∷ []) ≡ nan ∷ [] = rw (noughts-sound, noughts-empty) in
    true≢false (sym (ap (λ (xs : List Float). is_nan (get_or xs 0 nan)) (c.buffer ∙ e)))

-- ---- fetch of a string: the same, of a lent buffer of bytes

pub string-granted : (n : ℕ) (buffer after : List ℕ) → FetchesString (ascii "X") 1 noughts buffer (Ok n) after → ⊥
unfolding string_reply spelled_in loading
string-granted n buffer after c = never (number_of (c.reply ∙ rw (noughts-sound, noughts-empty)))
  where
    number_of : ◌≡◌ {A = Fetched} (Ok n) (Err Q.NoVariable) → ◌≡◌ {A = ℕ} 0 1
    number_of e = cc

pub string-written : (r : Fetched) → FetchesString (ascii "X") 1 noughts (0 ∷ []) r (1 ∷ []) → ⊥
unfolding string_buffer spelled_in loading
string-written r c =
    let e : string_buffer (ascii "X") 1 noughts (0 ∷ []) ≡ 0 ∷ [] = rw (noughts-sound, noughts-empty) in
    never (sym (ap first (c.buffer ∙ e)))

-- ---- totals: an empty pool has none; a damaged one is refused

pub totals-one : Totals noughts (Ok (record { texts = 1; statements = 0; values = 0 })) → ⊥
unfolding totals_reply program flat
totals-one c = never (sym (number_of (c.reply ∙ rw (noughts-sound, noughts-empty))))
  where
    number_of : ◌≡◌ {A = Counted} (Ok (record { texts = 1; statements = 0; values = 0 })) (Ok (record { texts = 0; statements = 0; values = 0 })) → ◌≡◌ {A = ℕ} 1 0
    number_of e = ap counts_texts e

pub totals-granted : (t : Counts) → Totals [] (Ok t) → ⊥
unfolding totals_reply sound
totals-granted t c = never cc

-- ---- orientation: the built-in source does not look at the pool; a NaN is no epoch

pub builtin-damaged : Orients S.Builtin [] 399 nought (Err Q.DamagedPool) → ⊥
unfolding orientation_reply evaluating
builtin-damaged c = never cc

pub nan-granted : (m : List ℕ) (n : ℕ) (o : Orientation) → Orients S.Builtin m n nan (Ok o) → ⊥
unfolding orientation_reply evaluating
nan-granted m n o c = never cc

-- ---- radii: the Sun has none, and neither has a code outside the ranges

pub sun-granted : (m : List ℕ) (x : Axes) → Measures S.Builtin m 10 (Ok x) → ⊥
unfolding radii_reply builtin_radii size_of
sun-granted m x c = never cc

pub eleven-granted : (m : List ℕ) (x : Axes) → Measures S.Builtin m 11 (Ok x) → ⊥
unfolding radii_reply builtin_radii size_of
eleven-granted m x c = never cc
