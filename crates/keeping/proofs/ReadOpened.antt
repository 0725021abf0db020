-- The open text of an undamaged memory is in order: its words behind what is held keep the conditions, its reader is borne out, its numbers are within
-- the limits. Assumes nothing.
use Prim.Native.Nat.{ℕ, ◌+◌, ◌<◌}
use native.Mathlib.Omega.{arith}
use mathlib.Core.Path.{◌≡◌, refl, sym, subst, transport, ◌∙◌}
use mathlib.Core.Bool.{true}
use mathlib.Core.List.{List}
use lib.Dec.{lit<}
use lib.ListN.{drop, get_or}
use lib.Seq.{get_or-take, get_or-drop}
use Rattle.statement.specs.Statements.{Statement}
use Rattle.words.specs.Over.{part}
use Rattle.octets.proofs.Bytes.{Bytes}
use Rattle.layout.specs.Limits.{OPEN_AT, OPENWORDS}
use Rattle.layout.specs.Memory.{decode, opens, open_statements, open_values, open_bytes, open_body}
use Rattle.layout.specs.Damage.{sound}
use Rattle.layout.proofs.Sound.{sound-of, sound-open}
use Rattle.feeding.specs.Parts.{Open}
use Rattle.bookmark.specs.Words.{read_open}
use Rattle.bookmark.specs.declared.mark.Entered.{Entered}
use Rattle.bookmark.specs.declared.mark.Standing.{Standing}
use Rattle.bookmark.specs.declared.mark.Standing.TheVariants as S
use Rattle.bookmark.proofs.Numbered.{InLine}
use Rattle.bookmark.proofs.Within.{Within, read-within}
use Rattle.entering.specs.Entries.{body_behind, body_of}
use Rattle.entering.specs.Lines.{Borne}
use Rattle.intake.specs.Opened.{borne_standing, open_in}
use Rattle.keeping.proofs.Behind.{Behind}
use Rattle.keeping.proofs.Merged.{merged-behind}
use Rattle.keeping.proofs.Kept.{Kept}
use Rattle.keeping.proofs.Numbers.{Numbers}
use Rattle.keeping.proofs.ReadBorne.{standing-borne}

-- what is left of a standing has a fault where it had one
pub in-line-borne : (body : List Statement) (t : Standing) → InLine t → InLine (borne_standing body t)
in-line-borne body (S.Storing r) i = tt
in-line-borne body (S.Overflowed r) i = tt
in-line-borne body (S.Faulted f) i = i

module _ (m : List ℕ) where
  abbrev ws : List ℕ
  ws = part OPEN_AT OPENWORDS m

  -- a word of the open text
  pub open_at : (i : ℕ) → i < OPENWORDS → get_or ws i 0 ≡ get_or m (OPEN_AT + i) 0
  open_at i h = get_or-take OPENWORDS (drop OPEN_AT m) i 0 h ∙ get_or-drop OPEN_AT m i 0

  abbrev read : Open Entered
  read = read_open (open_statements m) ws

  values= : read.progress.values ≡ open_values m
  unfolding read_open
  values= = open_at 1 (lit< tt)

  bytes= : read.progress.bytes ≡ open_bytes m
  unfolding read_open
  bytes= = open_at 2 (lit< tt)

  statements= : read.progress.statements ≡ open_statements m
  unfolding read_open
  statements= = refl

  body= : body_of (open_in m).progress ≡ open_body m
  unfolding open_body
  body= = λ i. body_behind (statements= i) (values= i) (bytes= i) m

  module _ (e : sound m ≡ true) (o : opens m ≡ true) where
    within : Within read
    within =
        let O = sound-open m e o in
        read-within (open_statements m) ws (omega (arith, open_at 10 (lit< tt), O.kept)) (omega (arith, open_at 12 (lit< tt), O.counted))

    pub open-numbers : Numbers (open_in m)
    open-numbers =
        let w = within in
        record { number = w.number; long = w.long; room = w.room; bytes = w.bytes }

    pub open-bytes : Bytes (open_in m).kept
    open-bytes = within.kept

    pub open_kept : Kept (decode m) (open_in m).progress
    open_kept =
        record {
          held = sound-of m e;
          same = refl;
          behind =
              transport (λ i. Behind m (sym statements= i) (sym values= i) (sym bytes= i)) (merged-behind m (sound-of m e) (sound-open m e o).orderly);
          borne = subst (Borne (borne_standing (open_body m) read.progress.standing)) (sym body=) (standing-borne (open_body m) read.progress.standing);
          in-line = in-line-borne (open_body m) read.progress.standing within.standing;
        }
