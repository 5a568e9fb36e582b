-- `lines::arguments::called` meets its contract: only DO, with two arguments, calls a label. Assumes nothing.
use Rattle.lines.specs.Words.{spelled}
use Rattle.lines.proofs.Library.{differs_as}
use Rattle.lines.proofs.Parts.{expanded_do, moved_many, others_many}
use Rattle.lines.proofs.Calling.{calls_none, calls_one}
use Rattle.lines.proofs.arguments.called.Goals as goal

pub returns-in_err-word : goal.returns-in_err-word
returns-in_err-word c = λ b e. rw c.from_residual.ensures (calls_none b _ (others_many _ c.in_err-word.ensures))

pub returns-then-ne : goal.returns-then-ne
unfolding spelled
returns-then-ne c = λ b e. calls_none b _ (moved_many _ c.in_ok-word.ensures (differs_as _ c.ne.ensures c.as_slice.ensures c.if-ne.true))

pub returns : goal.returns
unfolding spelled
returns c = λ b e. calls_one b _ _ (expanded_do _ c.in_ok-word.ensures (differs_as _ c.ne.ensures c.as_slice.ensures c.if-ne.false)) e
