-- `layout::writing::put_width` meets its contract: the number put is its one byte in place (`number_placed`). Assumes nothing.
use Rattle.layout.proofs.Placing.{number_placed}
use borrow.Author.Rules.{rules}
use Rattle.layout.proofs.writing.put_width.Goals as goal

pub returns : goal.returns
returns c =
    record {
      bytes_after = number_placed 6675 1 _ _ c.put_number.ensures;
      ranged = search rules;
    }
