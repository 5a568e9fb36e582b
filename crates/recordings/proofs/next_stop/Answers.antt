-- `recordings::next_stop` meets its contract. The loop's invariant: what was found is the least stop of the rows passed. Assumes nothing.
use Prim.Native.Nat.{◌<◌}
use native.Mathlib.Omega.{arith}
use lib.ListN.{length}
use Rattle.recordings.specs.Recordings.{next_of, stop_of, chain}
use Rattle.recordings.proofs.Chain.{at_start, at_next, number_inside, some_row}
use Rattle.recordings.proofs.Loops.{least_start, least_step, least_end}
use Rattle.recordings.proofs.Telling.{least_found, least_tells}
use Rattle.recordings.proofs.next_stop.Goals as goal

pub number_of-row-requires : goal.number_of-row-requires
number_of-row-requires c = number_inside _ c.requires.is_list_lem 0 0 (some_row _ c.requires.is_list_lem) (omega arith)

pub loop-i-init : goal.loop-i-init
unfolding next_of
loop-i-init c =
    (rw c.number_of-row.ensures (at_start _ c.requires.is_list_lem), omega arith, least_start c.args.list.now _)

pub number_of-requires : goal.number_of-requires
number_of-requires c = number_inside _ c.requires.is_list_lem _ 1 c.loop-i.invariant.0.inside (omega arith)

pub number_of-row-requires-in-loop-i : goal.number_of-row-requires-in-loop-i
number_of-row-requires-in-loop-i c =
    number_inside _ c.requires.is_list_lem _ 0 c.loop-i.invariant.0.inside (omega arith)

pub loop-i-preserved : goal.loop-i-preserved
unfolding next_of stop_of
loop-i-preserved c =
    let more : c.loop-i.i < length (chain c.args.list.now) = omega (arith, c.requires.all_steps) in (
      rw c.number_of-row-in-loop-i.ensures (at_next _ c.requires.is_list_lem c.loop-i.invariant.0 more),
      omega arith,
      rw (c.lesser_of-found.ensures.value, c.number_of.ensures)
          (least_step _ _ c.requires.is_list_lem c.loop-i.invariant.0 more _ c.loop-i.invariant.2),
    )

pub returns-clause-value : goal.returns-clause-value
returns-clause-value c =
    least_found _ _ _ (least_end _ _ c.loop-i.i (omega (arith, c.requires.all_steps)) _ c.loop-i.invariant.2)

pub returns-clause-numbered : goal.returns-clause-numbered
returns-clause-numbered c = least_tells _ _ (returns-clause-value c)
