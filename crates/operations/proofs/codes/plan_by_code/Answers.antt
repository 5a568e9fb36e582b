-- `operations::codes::plan_by_code` meets its contract: by the code. Assumes nothing.
use Rattle.table.specs.Row.{as_row}
use Rattle.operations.proofs.Answers.{follows}
use Rattle.operations.proofs.ByCode.{code_stacks, code_define, code_swap, code_print, code_two, acts}
use Rattle.operations.proofs.codes.plan_by_code.Goals as goal

pub plan_stacks-requires : goal.plan_stacks-requires
unfolding as_row
plan_stacks-requires c =
    (c.requires.0.readable, c.requires.0.contents, c.requires.1.stack c.if-code-gt-ZEROS_TO_BLANKS.true, c.requires.2)

pub returns-then-code-gt-ZEROS_TO_BLANKS : goal.returns-then-code-gt-ZEROS_TO_BLANKS
unfolding as_row
returns-then-code-gt-ZEROS_TO_BLANKS c = follows (code_stacks _ _ _ c.if-code-gt-ZEROS_TO_BLANKS.true) c.plan_stacks.ensures

pub plan_define-requires : goal.plan_define-requires
unfolding as_row
plan_define-requires c =
    let h = c.requires.1.define c.in-2.is in
    (c.requires.0.readable, h.first, h.second, h.third, h.name, c.requires.2)

pub plan_swap-requires : goal.plan_swap-requires
unfolding as_row
plan_swap-requires c =
    let h = c.requires.1.swap c.in-7.is in
    (c.requires.0.readable, h.0, h.1, c.requires.2)

pub plan_print-requires : goal.plan_print-requires
unfolding as_row
plan_print-requires c =
    let h = c.requires.1.print c.in-25.is in
    (c.requires.0.readable, c.requires.0.written, h.0, h.1, c.requires.2)

pub plan_two-requires : goal.plan_two-requires
unfolding as_row
plan_two-requires c =
    let r = c.in_default.in_default-own.rest in
    let is = acts c.requires.1.low c.if-code-gt-ZEROS_TO_BLANKS.false r.0.0.1 r.0.1 r.1 in
    let h = c.requires.1.two is in
    (c.requires.0.readable, c.requires.0.taken, is, h.a, h.x, h.a2, c.requires.2)

pub returns-in-2 : goal.returns-in-2
unfolding as_row
returns-in-2 c = follows (code_define _ _ _ c.if-code-gt-ZEROS_TO_BLANKS.false c.in-2.is) c.plan_define.ensures

pub returns-in-7 : goal.returns-in-7
unfolding as_row
returns-in-7 c = follows (code_swap _ _ _ c.if-code-gt-ZEROS_TO_BLANKS.false c.in-7.is) c.plan_swap.ensures

pub returns-in-25 : goal.returns-in-25
unfolding as_row
returns-in-25 c = follows (code_print _ _ _ c.if-code-gt-ZEROS_TO_BLANKS.false c.in-25.is) c.plan_print.ensures

pub returns-in_default : goal.returns-in_default
unfolding as_row
returns-in_default c = let r = c.in_default.in_default-own.rest in
    follows (code_two _ _ _ c.if-code-gt-ZEROS_TO_BLANKS.false r.0.0.1 r.0.1 r.1) c.plan_two.ensures
