-- `faults::names::Labels::judge_line` meets its contract: by the scan and the tests. Assumes nothing.
use native.Mathlib.Omega.{arith}
use mathlib.Core.Path.{sym, ◌∙◌}
use Rattle.faults.specs.Places.{lines_in, lines_before}
use Rattle.faults.proofs.Texting.{size_line}
use Rattle.faults.proofs.Faults.{good_operations, fault_bad, fault_good, told_bad_line, told_bad_label, told_too_long, told_rows}
use Rattle.faults.proofs.Answers.{scan_is}
use Rattle.faults.proofs.names.Labels.judge_line.Goals as goal

pub returns-in_default : goal.returns-in_default
returns-in_default c = λ _ _. told_bad_line c.args.line _ (sym (fault_bad _ _ _ _ _ c.in_default.is (scan_is _ _ _ c.scan.ensures.0)))

pub is_mislabelled-requires : goal.is_mislabelled-requires
is_mislabelled-requires c = (
  c.requires,
  (c.in-Some.ensures.1, good_operations c.args.self.now.b c.args.s.now c.in-Some.is (scan_is _ _ _ c.scan.ensures.0)),
)

pub returns-then-is_mislabelled : goal.returns-then-is_mislabelled
returns-then-is_mislabelled c = λ lines counted.
    told_bad_label c.args.line _
    (fault_good c.args.self.now.b c.args.s.now c.args.lent (lines_in c.args.self.now.b c.args.self.now.text.now) (lines_before c.args.self.now.b c.args.self.now.text.now lines)
    c.in-Some.is (scan_is _ _ _ c.scan.ensures.0) c.args.count _ counted
    (size_line c.args.self.now.b c.args.s.now c.in-Some.is (scan_is _ _ _ c.scan.ensures.0) c.scan.ensures.1)
    ∙ rw (sym (c.is_mislabelled.ensures lines counted) ∙ c.if-is_mislabelled.true))

pub overflow_add-size : goal.overflow_add-size
overflow_add-size c =
    let placed = c.in-Some.ensures.1 in
    let long = c.well_formed.1.0 in omega (arith, placed.less, long.1)

pub overflow_add-size-2 : goal.overflow_add-size-2
overflow_add-size-2 c =
    let placed = c.in-Some.ensures.1 in
    let long = c.well_formed.1.0 in omega (arith, placed.less, long.1)

pub too_long-requires : goal.too_long-requires
too_long-requires c = c.requires

pub returns-then-too_long : goal.returns-then-too_long
returns-then-too_long c = λ lines counted.
    told_too_long c.args.line _
    (fault_good c.args.self.now.b c.args.s.now c.args.lent (lines_in c.args.self.now.b c.args.self.now.text.now) (lines_before c.args.self.now.b c.args.self.now.text.now lines)
    c.in-Some.is (scan_is _ _ _ c.scan.ensures.0) c.args.count _ counted
    (size_line c.args.self.now.b c.args.s.now c.in-Some.is (scan_is _ _ _ c.scan.ensures.0) c.scan.ensures.1)
    ∙ rw (sym (c.is_mislabelled.ensures lines counted) ∙ c.if-is_mislabelled.false, sym c.too_long.ensures ∙ c.if-too_long.true))

pub returns : goal.returns
returns c = λ lines counted.
    let size = size_line c.args.self.now.b c.args.s.now c.in-Some.is (scan_is _ _ _ c.scan.ensures.0) c.scan.ensures.1 in
    told_rows _
    (fault_good c.args.self.now.b c.args.s.now c.args.lent (lines_in c.args.self.now.b c.args.self.now.text.now) (lines_before c.args.self.now.b c.args.self.now.text.now lines)
    c.in-Some.is (scan_is _ _ _ c.scan.ensures.0) c.args.count _ counted size
    ∙ rw (sym (c.is_mislabelled.ensures lines counted) ∙ c.if-is_mislabelled.false, sym c.too_long.ensures ∙ c.if-too_long.false)) size
