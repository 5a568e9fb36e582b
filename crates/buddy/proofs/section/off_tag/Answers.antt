-- `off_tag` leaves less than 2 of a tag. Assumes nothing.
use Rattle.std.proofs.Common.{arith}
use Rattle.buddy.proofs.Whole.{near_tag}
use Rattle.buddy.proofs.section.off_tag.Goals as goal

pub returns-then-i-n-ne0 : goal.returns-then-i-n-ne0
returns-then-i-n-ne0 c = λ less starts. absurd (c.if-i-n-ne0.true starts)

pub returns : goal.returns
returns c = λ less starts.
    let free = c.free_tag in
    near_tag _ _ c.wrapping_sub_u8.result free.result (omega arith) free.ensures c.wrapping_sub_u8.ensures.value less
