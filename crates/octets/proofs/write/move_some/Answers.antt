-- `move_some` meets its contract: a word of the eight bytes is stored, or the one byte. Assumes nothing.
use mathlib.Core.Path.{ap, ◌∙◌}
use mathlib.Core.List.{List}
use Prim.Native.Nat.{ℕ}
use native.Mathlib.Omega.{arith}
use Rattle.words.proofs.Each.{words_of}
use Rattle.octets.specs.Octets.{inked}
use Rattle.octets.proofs.Inked.{inked-word, part-one}
use Rattle.octets.proofs.write.move_some.Goals as goal

pub returns-then-n-ge8 : goal.returns-then-n-ge8
returns-then-n-ge8 c =
    let a = c.args in
    record {
      some = omega arith;
      most = c.if-n-ge8.true;
      output = inked-word a.ws.now a.to c.eight_at-w.result (words_of a.ws.now (λ j. omega (arith, c.slice_known-1.given j))) (omega arith) c.if-to-eq0.true
          ∙ ap (λ (x : List ℕ). inked a.to x a.ws.now) c.eight_at-w.ensures;
    }

pub returns : goal.returns
returns c =
    let a = c.args in
    record {
      some = omega arith;
      most = c.requires.1;
      output = c.set_byte.ensures ∙ ap (λ (x : List ℕ). inked a.to x a.ws.now) (part-one a.ws.now a.from c.byte_at-b.result (omega arith) c.byte_at-b.ensures);
    }
