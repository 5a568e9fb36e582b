-- `silence::write_picked` meets its contract: by the room for what is counted. Assumes nothing.
use native.Mathlib.Omega.{arith}
use Rattle.silence.proofs.Calls.{tells_short, tells_all}
use Rattle.silence.proofs.write_picked.Goals as goal

pub returns-then-output-count : goal.returns-then-output-count
returns-then-output-count c = tells_short _ _ (omega (arith, c.if-output-count.true, c.count_picked-count.ensures))

pub put_picked-requires : goal.put_picked-requires
put_picked-requires c = omega (arith, c.if-output-count.false, c.count_picked-count.ensures)

pub returns : goal.returns
returns c =
    tells_all _ _ c.count_picked-count.ensures
    (omega (arith, c.if-output-count.false, c.count_picked-count.ensures)) c.put_picked.ensures
