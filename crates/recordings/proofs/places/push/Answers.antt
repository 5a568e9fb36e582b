-- `recordings::places::push` meets its contract: link and head as they are put make the place the head of its stop's chain (`pushed`).
-- Assumes nothing.
use Prim.Native.Nat.{ℕ, ◌+◌, ◌%◌, ◌<◌}
use mathlib.Core.Path.{ap, ◌∙◌}
use native.Mathlib.Omega.{arith}
use lib.ListN.{length-set}
use Rattle.recordings.specs.Walking.{chain_count}
use Rattle.recordings.proofs.Entering.{pair_room, row_number}
use Rattle.recordings.proofs.Pushing.{pushed}
use Rattle.recordings.proofs.places.push.Goals as goal

pub stop_at-requires : goal.stop_at-requires
stop_at-requires c =
    let last : c.args.k < c.args.k + 1 = omega arith in (pair_room c.requires.0 last, row_number c.requires.0 last 1 (omega arith))

pub chain_of-chain-requires : goal.chain_of-chain-requires
chain_of-chain-requires c =
    c.requires.1

pub head_of-before-requires : goal.head_of-before-requires
head_of-before-requires c =
    (c.chain_of-chain.ensures.1, c.requires.2)

pub put_link-requires : goal.put_link-requires
put_link-requires c =
    (omega (arith, c.requires.0.room), c.head_of-before.ensures.1)

pub put_head-requires : goal.put_head-requires
put_head-requires c =
    (c.chain_of-chain.ensures.1, rw c.put_link.ensures (simp length-set c.requires.2), omega arith)

pub returns : goal.returns
returns c =
    pushed c.args.k c.requires.0 (omega (arith, c.chain_of-chain.ensures.1))
    (c.chain_of-chain.ensures.0 ∙ ap (λ (s : ℕ). s % chain_count c.args.heads.now c.args.size) c.stop_at.ensures)
    c.head_of-before.ensures.0 c.head_of-before.ensures.1 (rw c.put_link.ensures at c.put_head.ensures)
