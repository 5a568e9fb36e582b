-- `defined::uses::row_use` meets its contract: the first of its pairs that has a use gives the row's (`pairs_asked`). Assumes nothing.
use Rattle.std.proofs.Common.{rules}
use Rattle.defined.specs.Paths.{pair_fields}
use Rattle.defined.proofs.Reading.{pairs_asked, or_asked}
use Rattle.defined.proofs.Telling.{first_tells, first_is}
use Rattle.defined.proofs.uses.row_use.Goals as goal

pub returns : goal.returns
returns c =
    let args = c.args in
    let second = or_asked _ c.or_else.ensures (λ p. first_is (pair_fields args.row.second) args.x (search rules)) in
    let third = or_asked _ c.or_else-2.ensures (λ p. first_is (pair_fields args.row.third) args.x (search rules)) in
    first_tells _ _ (pairs_asked args.row args.x (first_is _ _ c.pair_use.ensures) second third)
