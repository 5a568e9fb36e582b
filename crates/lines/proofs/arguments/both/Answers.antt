-- `lines::arguments::both` meets its contract: by the first three arguments. Assumes nothing.
use mathlib.Core.Path.{ap, ◌∙◌}
use Rattle.std.specs.Prelude.{option_map}
use Rattle.lines.proofs.Parts.{two_none, two_short, two_long, two_there}
use Rattle.lines.proofs.arguments.both.Goals as goal

pub returns-in_err-first : goal.returns-in_err-first
returns-in_err-first c = ap (option_map _) c.from_residual.ensures ∙ two_none _ c.in_err-first.ensures

pub returns-in_err-second : goal.returns-in_err-second
returns-in_err-second c = ap (option_map _) c.from_residual-in_err-second.ensures ∙ two_short _ c.in_err-second.ensures

pub returns-in-Some : goal.returns-in-Some
returns-in-Some c = two_long _ c.in-Some.ensures

pub returns-in-None : goal.returns-in-None
returns-in-None c = two_there _ c.in_ok-first.ensures c.in_ok-second.ensures c.in-None.ensures
