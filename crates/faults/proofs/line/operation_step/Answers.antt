-- `faults::line::operation_step` meets its contract. Each branch is one case of the definition: what stands inside (`part_slice`) is an
-- operation or not. Assumes nothing.
use Prim.Native.Nat.{◌+◌}
use mathlib.Core.Path.{sym, ap, ◌∙◌}
use mathlib.Core.List.{List}
use Prim.Native.Nat.{ℕ}
use Rattle.word.proofs.Tests.{known_true, known_false}
use Rattle.lines.specs.Forms.{is_operation}
use Rattle.lines.specs.Reading.{split}
use Rattle.faults.specs.Checking.{operation_walk}
use Rattle.lines.proofs.Parts.{part_slice}
use Rattle.faults.proofs.line.operation_step.Goals as goal

pub returns-then-not-is_operation : goal.returns-then-not-is_operation
unfolding operation_walk
returns-then-not-is_operation c =
    let is = ap (λ (w : List ℕ). is_operation c.args.b (split w)) (sym (part_slice (c.args.at + 1) c.args.close c.args.s.now))
    ∙ known_false c.is_operation.ensures c.if-not-is_operation.true-raw in
    rw is

pub returns : goal.returns
unfolding operation_walk
returns c =
    let is = ap (λ (w : List ℕ). is_operation c.args.b (split w)) (sym (part_slice (c.args.at + 1) c.args.close c.args.s.now))
    ∙ known_true c.is_operation.ensures c.if-not-is_operation.false-raw in
    rw is
