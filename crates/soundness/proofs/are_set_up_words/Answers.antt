-- `soundness::are_set_up_words` meets its contract: the part lent has the set-up words. Assumes nothing.
use native.Mathlib.Omega.{arith}
use mathlib.Core.Path.{sym}
use lib.Seq.{length-take-le}
use Rattle.soundness.proofs.Stored.{same_words}
use Rattle.soundness.proofs.are_set_up_words.Goals as goal

pub slice_bounds-are_words-end : goal.slice_bounds-are_words-end
slice_bounds-are_words-end c =
    sym (length-take-le c.words_of-end.result c.args.storage.now (omega (arith, c.words_of-end.ensures)))

pub returns : goal.returns
returns c = same_words _ _ _ _ _ c.words_of-end.ensures c.are_words.ensures
