-- `operands::packing::pack_all` meets its contract. The loop's invariant: the first i numbers stand for the first i definitions. Assumes nothing.
use native.Mathlib.Omega.{arith}
use mathlib.Core.Path.{◌∙◌}
use Rattle.machine.specs.State.{undefined}
use Rattle.word.proofs.Filling.{fills_none, whole_next, whole_all}
use Rattle.operands.proofs.Unpacking.{unpacked_set, length_unpacked}
use borrow.Author.Rules.{rules}
use Rattle.operands.proofs.packing.pack_all.Goals as goal

pub loop-i-init : goal.loop-i-init
loop-i-init c = (c.requires, fills_none (search rules) (omega (arith, length_unpacked c.args.fields.now)))

pub loop-i-preserved : goal.loop-i-preserved
unfolding undefined
loop-i-preserved c =
    let more = c.loop-i-test.true in
    (search rules, rw unpacked_set (whole_next c.loop-i.invariant.1 more undefined c.pack.ensures))

pub returns : goal.returns
returns c =
    whole_all c.loop-i.invariant.1 c.loop-i-test.false (length_unpacked c.args.fields.now ∙ c.requires)

pub bounds-definitions-i : goal.bounds-definitions-i
bounds-definitions-i array-copy-out-pack = omega arith

pub bounds-fields-i : goal.bounds-fields-i
bounds-fields-i element-write-fields = omega arith
