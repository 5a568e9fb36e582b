-- `lines::fitting::is_form` meets its contract. The loop's invariant: the kinds that are left are asked of the arguments that are left.
-- Assumes nothing.
use native.Mathlib.Omega.{arith}
use lib.Dec.{eqb}
use mathlib.Core.Path.{sym, ◌∙◌}
use Rattle.std.proofs.Common.{rules, of_calls}
use Rattle.std.proofs.lemmas.List.Sorted.{answers_always}
use Rattle.std.proofs.lemmas.Option.{MatchOption-at_none, MatchOption-at_some}
use Rattle.lines.specs.Forms.{fits}
use Rattle.lines.specs.Walking.{as_form}
use Rattle.lines.proofs.Matching.{argument_first, fitting_none, fitting_over, fitting_not, fitting_more, fitting_all}
use Rattle.lines.proofs.fitting.is_form.Goals as goal

pub loop-kind-init : goal.loop-kind-init
loop-kind-init c =
    (search of_calls, fitting_none _ _ _ c.splitn-parts.ensures.count c.splitn-parts.ensures.done c.splitn-parts.ensures.rest)

pub returns-in_default : goal.returns-in_default
unfolding fits as_form
returns-in_default c = fitting_over _ _ _ c.loop-kind.invariant.1 c.loop-kind-test.true c.in_default.ensures.steps.1

pub returns-then-not-is_kind : goal.returns-then-not-is_kind
unfolding fits as_form
returns-then-not-is_kind c =
    let h = c.loop-kind.invariant.1 in
    let (count, (some, last, parts, there, by_test)) = c.in-Some.ensures.steps in
    let first = argument_first _ _ _ _ parts (by_test (omega (arith, h.many)) (λ x. eqb x 44) (answers_always _ _ _ (λ f a r g called. search rules))).1 in
    fitting_not _ _ _ h _ _ _ _ c.loop-kind-test.true there first (sym c.is_kind.ensures ∙ c.if-not-is_kind.true)

pub loop-kind-preserved : goal.loop-kind-preserved
loop-kind-preserved c =
    let h = c.loop-kind.invariant.1 in
    let (count, (some, last, parts, there, by_test)) = c.in-Some.ensures.steps in
    let first = argument_first _ _ _ _ parts (by_test (omega (arith, h.many)) (λ x. eqb x 44) (answers_always _ _ _ (λ f a r g called. search rules))).1 in (
      search of_calls,
      fitting_more _ _ _ h _ _ _ _ c.loop-kind-test.true there first (sym c.is_kind.ensures ∙ c.if-not-is_kind.false) count,
    )

pub returns : goal.returns
unfolding fits as_form
returns c =
    let steps = c.next-2.ensures.steps.1 in
    fitting_all _ _ _ c.loop-kind.invariant.1 c.loop-kind-test.false _ _ c.is_none.ensures (λ e. MatchOption-at_none _ _ e steps)
    (λ w e. (MatchOption-at_some _ _ w e steps).3)
