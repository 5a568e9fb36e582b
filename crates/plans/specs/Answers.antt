-- What tests, lines and steps answer, in numbers. Assumes nothing.
use Rattle.std.specs.Prelude.{Bool, Result, Ok, Err}
use Rattle.word.specs.Told.{Told, gives, refuses}
use Rattle.machine.specs.Answer.{refusal_number}
use Rattle.machine.specs.declared.Place.{Place}
use Rattle.machine.specs.Test.{Made}
use Rattle.operations.specs.Deeds.{Deed, meant}
use Rattle.machine.specs.declared.Refusal.{Refusal}
use Rattle.plans.specs.declared.Outcome.{Outcome}
use Rattle.plans.specs.declared.Step.{Step}
use Rattle.plans.specs.declared.Step.TheVariants as stepping

unfoldable pub told_tested : Result Outcome Refusal → Told Made
told_tested (Ok x) = gives (record { holds = x.holds; next = x.next })
told_tested (Err r) = refuses (refusal_number r)

unfoldable pub told_settled : Result Bool Refusal → Told Bool
told_settled (Ok h) = gives h
told_settled (Err r) = refuses (refusal_number r)

-- what a step that is not refused does: the place to go to, and the action there
pub record Plan : Type 0 where
  pub to : Place
  pub action : Deed

unfoldable pub told_step : Step → Told Plan
told_step (stepping.Goes to x) = gives (record { to = to; action = meant x })
told_step (stepping.Stopped r) = refuses (refusal_number r)
