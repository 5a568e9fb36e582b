-- `operations::actions::take` meets its contract: 10, then an input of length 0, then 5, 4. Assumes nothing.
use Rattle.std.specs.Result.{result_ok}
use mathlib.Core.Path.{ap, ◌∙◌}
use Rattle.operands.proofs.Answers.{exits_with}
use Rattle.operations.specs.Answers.{told_planned}
use native.Mathlib.Omega.{arith}
use Rattle.operations.specs.Deeds.{meant}
use Rattle.operations.proofs.Answers.{does, stops}
use Rattle.operations.proofs.Doing.{take_many, take_none, take_short, take_value, take_byte}
use Rattle.operations.proofs.actions.take.Goals as goal

pub returns-then-b-n : goal.returns-then-b-n
returns-then-b-n c = stops (take_many _ _ _ _ _ c.if-b-n.true)

pub line_ends-requires : goal.line_ends-requires
line_ends-requires c = let few = c.if-b-n.false in omega (arith, c.requires.0)

pub returns-then-input-eq0 : goal.returns-then-input-eq0
unfolding meant
returns-then-input-eq0 c =
    does _ (take_none _ _ _ _ _ c.if-b-n.false c.if-input-eq0.true c.requires.1 c.line_ends.ensures)

pub returns-then-input-taken : goal.returns-then-input-taken
returns-then-input-taken c =
    let room = c.requires.1 in
    let short = c.if-input-taken.true in
    stops (take_short _ _ _ _ _ c.if-b-n.false c.if-input-eq0.false (omega arith))

pub pack_input-requires : goal.pack_input-requires
pack_input-requires c =
    let room = c.requires.1 in
    let there = c.if-input-taken.false in
    let few = c.if-b-n.false in
    (omega (arith, c.requires.0), omega arith)

pub returns : goal.returns
unfolding meant
returns c =
    let room = c.requires.1 in
    let there = c.if-input-taken.false in
    does _ (take_value _ _ _ _ _ c.if-b-n.false c.if-input-eq0.false (omega arith) c.pack_input.ensures
    (c.ok_or.ensures.ok_part ∙ ap result_ok c.in_ok-value.was))

pub returns-in_err-value : goal.returns-in_err-value
returns-in_err-value c =
    let room = c.requires.1 in
    let there = c.if-input-taken.false in
    let none = c.ok_or.ensures.ok_part ∙ ap result_ok c.in_err-value.was in
    ap told_planned (exits_with c.from_residual.ensures.1 (rw none at c.in_err-value.ensures.value))
    ∙ stops (take_byte _ _ _ _ _ c.if-b-n.false c.if-input-eq0.false (omega arith) c.pack_input.ensures none)
