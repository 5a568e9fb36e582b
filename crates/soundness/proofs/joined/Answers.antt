-- `soundness::joined` meets its contract. The loop's invariant: the words are below a power of two if what those passed are joined to and
-- those left are. Assumes nothing.
use Prim.Native.Nat.{◌^◌}
use mathlib.Core.Path.{sym, ◌∙◌}
use borrow.Author.Tests.{lt-ltb}
use lib.Pow.{pow_pos}
use Rattle.soundness.proofs.Passed.{part_next, part_end}
use Rattle.soundness.proofs.joined.Goals as goal

pub loop-word-init : goal.loop-word-init
loop-word-init c = λ b. rw (lt-ltb 0 (2 ^ b) (pow_pos b))

pub loop-word-preserved : goal.loop-word-preserved
loop-word-preserved c =
    λ b. c.loop-word.invariant b ∙ part_next b c.loop-word.all c.loop-word.word-index c.args.words.now c.loop-word-test.true

pub returns : goal.returns
returns c = λ b. sym (c.loop-word.invariant b ∙ part_end b c.loop-word.all c.loop-word.word-index c.args.words.now
    c.loop-word-test.false)
