-- `lines::fitting::is_meant` meets its contract: a form whose second kind the second argument is not of does not fit. Assumes nothing.
use Rattle.word.proofs.Tests.{known_false}
use Rattle.lines.specs.Forms.{fits}
use Rattle.lines.specs.Walking.{as_form}
use Rattle.lines.proofs.Matching.{second_not}
use Rattle.lines.proofs.fitting.is_meant.Goals as goal

pub returns-then-not-is_kind : goal.returns-then-not-is_kind
unfolding fits as_form
returns-then-not-is_kind c = λ e.
    let (inside, at) = c.in-Some.ensures.lookup.3 in
    second_not _ _ _ inside at e (known_false c.is_kind.ensures c.if-not-is_kind.true-raw)
