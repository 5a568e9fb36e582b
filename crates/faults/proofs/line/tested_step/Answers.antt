-- `faults::line::tested_step` meets its contract. Each branch is one case of the definition: what stands inside (`part_slice`) is a test or
-- not. Assumes nothing.
use Prim.Native.Nat.{◌+◌}
use mathlib.Core.Path.{sym, ap, ◌∙◌}
use mathlib.Core.List.{List}
use Prim.Native.Nat.{ℕ}
use Rattle.word.proofs.Tests.{known_true, known_false}
use Rattle.lines.specs.Forms.{is_test}
use Rattle.lines.specs.Reading.{split}
use Rattle.faults.specs.Checking.{paren_walk}
use Rattle.lines.proofs.Parts.{part_slice}
use Rattle.faults.proofs.line.tested_step.Goals as goal

pub returns-then-not-is_test : goal.returns-then-not-is_test
unfolding paren_walk
returns-then-not-is_test c =
    let is = ap (λ (w : List ℕ). is_test c.args.b (split w)) (sym (part_slice (c.args.at + 1) c.args.close c.args.s.now))
    ∙ known_false c.is_test.ensures c.if-not-is_test.true-raw in
    rw is

pub returns : goal.returns
unfolding paren_walk
returns c =
    let is = ap (λ (w : List ℕ). is_test c.args.b (split w)) (sym (part_slice (c.args.at + 1) c.args.close c.args.s.now))
    ∙ known_true c.is_test.ensures c.if-not-is_test.false-raw in
    rw is
