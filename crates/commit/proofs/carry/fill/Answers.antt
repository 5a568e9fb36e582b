-- `commit::carry::fill` meets its contract: zeros, and then a copy if there is one. Assumes nothing.
use native.Mathlib.Omega.{arith}
use Rattle.commit.proofs.Delivering.{copy_room, filled_zero, filled_copy}
use Rattle.commit.proofs.carry.fill.Goals as goal

pub overflow_sub-to : goal.overflow_sub-to
overflow_sub-to c = c.requires.0

pub zero_words-requires : goal.zero_words-requires
zero_words-requires c =
    omega (arith, c.requires.0, c.requires.1)

pub overflow_sub-from : goal.overflow_sub-from
overflow_sub-from c = (c.requires.2 c.if-from-ne0.true).0

pub copy_words-requires : goal.copy_words-requires
copy_words-requires c =
    let a = c.args in
    let r = copy_room a.s1 a.address a.n a.from _ c.requires.0 c.requires.1 (c.requires.2 c.if-from-ne0.true) in
    let long = c.storage-1.given in
    (omega (arith, r.0), omega (arith, r.1), r.2)

pub returns-then-from-ne0 : goal.returns-then-from-ne0
returns-then-from-ne0 c =
    filled_copy _ _ _ _ _ _ c.zero_words.ensures c.if-from-ne0.true c.copy_words.ensures

pub returns-else-from-ne0 : goal.returns-else-from-ne0
returns-else-from-ne0 c = filled_zero _ _ _ _ _ _ c.zero_words.ensures c.if-from-ne0.false
