-- `defined::rounds::Rounds::walk` meets its contract: the returns walked after the lines are the definition. Assumes nothing.
use mathlib.Core.Path.{ap, ◌∙◌}
use Rattle.defined.specs.Search.{returns_walked, rounded}
use Rattle.defined.proofs.rounds.Rounds.walk.Goals as goal

pub returns : goal.returns
unfolding rounded
returns c = c.walk_returns.ensures ∙ ap (returns_walked c.args.table.now.numbers.now) c.walk_lines.ensures
