-- `cards::save` meets its contract. The part lent is as long as asked. Assumes nothing.
use mathlib.Core.Path.{sym}
use lib.Seq.{length-take-le}
use borrow.Author.Rules.{rules}
use Rattle.cards.proofs.save.Goals as goal

pub slice_bounds-save_into-end : goal.slice_bounds-save_into-end
slice_bounds-save_into-end c = sym (length-take-le _ _ (search rules))
