-- `octets::put_number` meets its contract. The loop's invariant: the first i bytes are written. Assumes nothing.
use Prim.Native.Nat.{◌-◌}
use Rattle.word.proofs.Filling.{fills_none, fills_next, fills_all}
use Rattle.octets.proofs.RoundTrip.{length_bytes}
use Rattle.octets.proofs.Writing.{rest_none, rest_next}
use Rattle.octets.proofs.put_number.Goals as goal

pub loop-i-init : goal.loop-i-init
loop-i-init c = let a = c.args in (rest_none a.n a.v, fills_none (length_bytes a.n a.v) c.requires)

pub loop-i-preserved : goal.loop-i-preserved
loop-i-preserved c =
    let a = c.args in
    let l = c.loop-i in
    let more = c.loop-i-test.true in
    let next = rest_next a.n a.v l.i l.rest l.invariant.0 more in
    (next.1, fills_next l.invariant.1 more 0 next.0)

pub shape_of-bytes : goal.shape_of-bytes
shape_of-bytes c = c.loop-i.invariant.1.long

pub returns : goal.returns
returns c = fills_all c.loop-i.invariant.1 c.loop-i-test.false
