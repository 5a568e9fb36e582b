-- `defined::rounds::Rounds::walk_returns` meets its contract: a set of the DONEs as walked (`returns_same`), and one that changed
-- (`returns_on`). Assumes nothing.
use Rattle.defined.proofs.Loops.{returns_same, returns_on}
use Rattle.defined.proofs.rounds.Rounds.walk_returns.Goals as goal

pub returns-then-self-done : goal.returns-then-self-done
returns-then-self-done c = returns_same _ _ c.if-self-done.true

pub returns : goal.returns
returns c = returns_on _ _ c.if-self-done.false c.walk_rests.ensures c.join_at.ensures
