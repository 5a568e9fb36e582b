-- `cards::card` meets its contract. The part lent is as long as asked. Assumes nothing.
use mathlib.Core.Path.{sym}
use lib.Seq.{length-take-le}
use borrow.Author.Rules.{rules}
use Rattle.cards.proofs.card.Goals as goal

pub slice_bounds-save-end : goal.slice_bounds-save-end
slice_bounds-save-end c = sym (length-take-le _ _ (search rules))
