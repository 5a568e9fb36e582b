-- `defined::kinds::kind_at` meets its contract: a row's first number is its kind, and past the table there is none. Assumes nothing.
use Rattle.std.proofs.Common.{arith, ◌∙◌}
use Rattle.defined.proofs.Reading.{kind_found, copied_or}
use Rattle.defined.proofs.kinds.kind_at.Goals as goal

pub returns : goal.returns
returns c =
    c.unwrap_or.ensures ∙ copied_or c.get.result c.copied.ensures (c.get.ensures.lookup.4 (omega arith) 0)
    ∙ kind_found c.args.table.now c.args.r c.saturating_mul-at.ensures (omega arith)
