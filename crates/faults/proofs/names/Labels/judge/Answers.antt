-- `faults::names::Labels::judge` meets its contract. The loop's invariant: the refusal is that of the lines left, after those passed.
-- Assumes nothing.
use native.Mathlib.Omega.{arith}
use mathlib.Core.Path.{refl, sym, ap, ◌∙◌}
use Rattle.std.proofs.lemmas.List.Sorted.{answers_always}
use Rattle.std.proofs.lemmas.Result.{err_from_is_err_and}
use Rattle.lines.specs.Program.{row_count, Refusal, program, refusal_told}
use Rattle.faults.proofs.Faults.{told_bad_line, told_rows}
use Rattle.faults.proofs.Texting.{first_line}
use Rattle.faults.proofs.Judged.{nothing_typed, judging_none, judging_all, judging_count, judging_error, judging_rows}
use Rattle.faults.proofs.Judged.{judging_small, judging_more}
use borrow.Author.Rules.{rules}
use Rattle.faults.proofs.names.Labels.judge.Goals as goal

pub returns-then-self-eq0 : goal.returns-then-self-eq0
returns-then-self-eq0 c =
    told_bad_line 1 _ refl ∙ ap (λ (r : Refusal). refusal_told r (row_count (program c.args.self.now.b c.args.self.now.text.now)))
    (nothing_typed c.args.self.now.b c.args.lent c.args.self.now.text.now c.if-self-eq0.true)

pub loop-s-init : goal.loop-s-init
loop-s-init c = judging_none _ _ _ c.if-self-eq0.false (search rules)

pub judge_line-requires : goal.judge_line-requires
judge_line-requires c = c.loop-s.invariant.small

pub returns-in_err-count : goal.returns-in_err-count
returns-in_err-count c =
    let p = err_from_is_err_and c.from_residual.result c.from_residual.ensures.1 in
    let first = first_line c.in-Some.ensures.steps (answers_always _ _ _ (λ f a r g called. search rules)) in
    rw (p.1, p.2) (judging_error _ _ _ c.loop-s.invariant first _ (c.in_err-count.ensures _ c.loop-s.invariant.counted))

pub overflow_add-count : goal.overflow_add-count
overflow_add-count c =
    let first = first_line c.in-Some.ensures.steps (answers_always _ _ _ (λ f a r g called. search rules)) in
    let (good, size) = judging_rows _ _ _ c.loop-s.invariant first _ (c.in_ok-count.ensures _ c.loop-s.invariant.counted) in
    let few = judging_small _ _ _ c.loop-s.invariant first good in
    omega arith

pub loop-s-preserved : goal.loop-s-preserved
loop-s-preserved c =
    let first = first_line c.in-Some.ensures.steps (answers_always _ _ _ (λ f a r g called. search rules)) in
    let (good, size) = judging_rows _ _ _ c.loop-s.invariant first _ (c.in_ok-count.ensures _ c.loop-s.invariant.counted) in
    rw size (judging_more _ _ _ c.loop-s.invariant first good)

pub returns : goal.returns
returns c =
    told_rows _ (ap (λ (r : Refusal). r.number) (sym (judging_all _ _ _ c.loop-s.invariant c.in-None.ensures.steps.0)))
    (judging_count _ _ _ c.loop-s.invariant c.in-None.ensures.steps.0)
