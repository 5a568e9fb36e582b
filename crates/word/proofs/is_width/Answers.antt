-- `word::is_width` meets its contract: the answer is the definition's own text. Assumes nothing.
use Rattle.std.proofs.Common.{refl}
use Rattle.word.specs.Word.{is_width}
use Rattle.word.proofs.is_width.Goals as goal

pub returns : goal.returns
unfolding is_width
returns c = refl
