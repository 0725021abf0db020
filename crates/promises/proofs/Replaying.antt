-- Texts that can be held together are all accepted, one after the other, each the way it came, and then they are held. Assumes nothing.
use Prim.Native.Nat.{ℕ}
use mathlib.Core.Path.{◌≡◌, refl, sym, ap, ◌∙◌, subst}
use mathlib.Core.Bool.{true}
use mathlib.Core.List.{List, [], ◌∷◌, ◌++◌, map, append_assoc, append-nil}
use Rattle.std.specs.Prelude.{if◌then◌else◌, Ok}
use Rattle.plain.proofs.Each.{Each}
use Rattle.words.specs.Halves.{all}
use Rattle.layout.specs.State.{Pool}
use Rattle.layout.specs.Limits.{room}
use Rattle.pool.specs.Replies.{Reply, done}
use Rattle.loading.specs.Load.{text_of, with}
use Rattle.feeding.specs.Parts.{MOST, joined}
use Rattle.opening.specs.Closing.{loaded_answer}
use Rattle.promises.specs.Calls as C
use Rattle.promises.specs.Calls.{Call, accepted}
use Rattle.promises.specs.Histories.{Way, whole, in_parts, Loaded, coming, loading, replayed, Typed, bytes_of, text}
use Rattle.promises.proofs.Accepted.{Taken, done-taken, measured-taken}
use Rattle.promises.proofs.Together.{longest_of, Readable, Together, map_last, together-taken, together-front}
use Rattle.promises.proofs.Said.{State, closed, says}
use Rattle.promises.proofs.Sequences.{steps, AllSaid, steps-append, said-append, fed_to, steps-opened, said-opened}
use Rattle.promises.proofs.Parts.{closing-says, closing-steps}
use Rattle.promises.proofs.Keeping.{typed-append}

-- ---- one text

-- these calls are accepted, and then this state is reached
record Brings (cs : List Call) (s s' : State) : Type 0 where
  said : AllSaid cs s
  state : steps cs s ≡ s'

module _ (s : Pool) (r : room s ≡ true) (label : ℕ) where
  brings-one : (way : Way) → Taken (longest_of way) label (bytes_of way) s → Brings (coming label way) (closed s) (closed (with s (text_of label (bytes_of way))))
  unfolding steps AllSaid
  brings-one (whole bytes) t = let d = done-taken label bytes s t in record { said = (rw d, tt); state = rw d }
  brings-one (in_parts parts) t =
      let d : loaded_answer label (joined parts) s ≡ Ok tt = measured-taken MOST label (joined parts) s t in
      let o = steps-opened s label t.free parts in
      let opens = C.open_load label ∷ map C.feed_part parts in
      let y : accepted (says C.close_load (fed_to s label parts)) ≡ true = ap accepted (closing-says s label parts r ∙ ap C.replied d) in
      record {
        said = said-append opens (C.close_load ∷ []) (closed s) (said-opened s label t.free parts) (subst (AllSaid (C.close_load ∷ [])) (sym o) (y, tt));
        state =
            steps-append opens (C.close_load ∷ []) (closed s) ∙ ap (steps (C.close_load ∷ [])) o ∙ closing-steps s label parts r
            ∙ ap (λ (q : Reply). closed (if done q then with s (text_of label (joined parts)) else s)) d;
      }

-- ---- all of them

brings-then : (cs ds : List Call) (s t u : State) → Brings cs s t → Brings ds t u → Brings (cs ++ ds) s u
brings-then cs ds s t u a b = record {
  said = said-append cs ds s a.said (subst (AllSaid ds) (sym a.state) b.said);
  state = steps-append cs ds s ∙ ap (steps ds) a.state ∙ b.state;
}

brings-all : (before ks : List Loaded) → Together (before ++ ks) → Brings (replayed ks) (closed (map text before)) (closed (map text (before ++ ks)))
unfolding replayed steps AllSaid
brings-all before [] g = record { said = tt; state = ap (λ (l : List Loaded). closed (map text l)) (sym (append-nil before)) }
brings-all before (k ∷ ks) g =
    let e : (before ++ (k ∷ [])) ++ ks ≡ before ++ (k ∷ ks) = append_assoc before (k ∷ []) ks in
    let one = brings-one (map text before) (together-front before (k ∷ ks) g) k.label k.way (together-taken before k ks g) in
    let two = brings-all (before ++ (k ∷ [])) ks (subst Together (sym e) g) in
    brings-then (loading k) (replayed ks) _ _ _
    (subst (λ (s : Pool). Brings (loading k) (closed (map text before)) (closed s)) (sym (map_last before k)) one)
    (subst (λ (l : List Loaded). Brings (replayed ks) (closed (map text (before ++ (k ∷ [])))) (closed (map text l))) e two)

module _ (ks : List Loaded) (g : Together ks) where
  pub replayed-said : AllSaid (replayed ks) (closed [])
  replayed-said = (brings-all [] ks g).said

  pub replayed-steps : steps (replayed ks) (closed []) ≡ closed (map text ks)
  replayed-steps = (brings-all [] ks g).state

pub typed-replayed : (ks : List Loaded) → Each Readable ks → Typed (replayed ks)
unfolding replayed all
typed-replayed [] f = refl
typed-replayed (k ∷ ks) f = typed-append (loading k) (replayed ks) f.0.typed (typed-replayed ks f.1)
