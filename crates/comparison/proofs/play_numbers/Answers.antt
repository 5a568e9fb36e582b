-- `comparison::play_numbers` meets its contract: the parts lent lie in the numbers and in the arrays. Assumes nothing.
use mathlib.Core.Path.{sym}
use lib.Seq.{length-take-le}
use borrow.Author.Rules.{rules}
use Rattle.comparison.proofs.play_numbers.Goals as goal

pub slice_bounds-play-end-2 : goal.slice_bounds-play-end-2
slice_bounds-play-end-2 g c = sym (length-take-le _ _ (search rules))

pub slice_bounds-play-end-3 : goal.slice_bounds-play-end-3
slice_bounds-play-end-3 g c = sym (length-take-le _ _ (search rules))

pub slice_bounds-play-end-4 : goal.slice_bounds-play-end-4
slice_bounds-play-end-4 g c = sym (length-take-le _ _ (search rules))
