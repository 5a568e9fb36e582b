-- `faults::labels::declared` meets its contract. The loop's invariant: no line passed declares the label. Assumes nothing.
use mathlib.Core.Path.{sym, ◌∙◌}
use Rattle.std.proofs.lemmas.List.Sorted.{answers_always}
use Rattle.faults.proofs.Texting.{first_line, sought_none, sought_all, sought_here, sought_more}
use borrow.Author.Rules.{rules}
use Rattle.faults.proofs.labels.declared.Goals as goal

pub loop-s-init : goal.loop-s-init
loop-s-init c = sought_none _ _ _ (search rules)

pub returns-then-declares_it : goal.returns-then-declares_it
returns-then-declares_it c =
    sought_here _ _ _ c.loop-s.invariant (first_line c.in-Some.ensures.steps (answers_always _ _ _ (λ f a r g called. search rules)))
    (sym c.declares_it.ensures ∙ c.if-declares_it.true)

pub loop-s-preserved : goal.loop-s-preserved
loop-s-preserved c =
    sought_more _ _ _ c.loop-s.invariant (first_line c.in-Some.ensures.steps (answers_always _ _ _ (λ f a r g called. search rules)))
    (sym c.declares_it.ensures ∙ c.if-declares_it.false)

pub returns : goal.returns
returns c = sought_all _ _ _ c.loop-s.invariant c.in-None.ensures.steps.0
