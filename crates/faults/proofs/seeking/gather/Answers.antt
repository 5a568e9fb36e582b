-- `faults::seeking::gather` meets its contract. The loop's invariant: the place lies in the text and no more is put than there is room for.
-- The measure is what is left of the text. Assumes nothing.
use native.Mathlib.Omega.{arith}
use mathlib.Core.Path.{refl, ◌∙◌}
use Rattle.lines.specs.Words.{is_name}
use Rattle.lines.proofs.Scanning.{end_inside}
use Rattle.faults.proofs.seeking.gather.Goals as goal

pub loop-from-init : goal.loop-from-init
loop-from-init c = (omega arith, (omega arith, refl))

pub returns-then-sought-n : goal.returns-then-sought-n
returns-then-sought-n c =
    (c.loop-from.invariant.1.0, c.loop-from.invariant.1.1)

pub returns-then-part-end : goal.returns-then-part-end
returns-then-part-end c =
    (c.loop-from.invariant.1.0, c.loop-from.invariant.1.1)

pub want_word-n-requires : goal.want_word-n-requires
want_word-n-requires c =
    let inside = end_inside is_name c.args.part.now c.loop-from.from c.loop-from.invariant.0 in
    ((omega (arith, c.word_end-end.ensures), omega arith), omega arith)

pub loop-from-smaller : goal.loop-from-smaller
loop-from-smaller c =
    let inside = end_inside is_name c.args.part.now c.loop-from.from c.loop-from.invariant.0 in omega
    (arith, c.word_end-end.ensures)

pub loop-from-preserved : goal.loop-from-preserved
loop-from-preserved c = (
  omega arith,
  (
    omega (arith, c.want_word-n.ensures.0, c.want_word-n.ensures.1),
    c.want_word-n.ensures.1
        ∙ c.loop-from.invariant.1.1,
  ),
)

pub returns : goal.returns
returns c = (c.loop-from.invariant.1.0, c.loop-from.invariant.1.1)
