use Prim.Native.Nat.{◌-◌}
use Rattle.block.specs.SetUp.{words}
use Rattle.listing.specs.Listing.{blocks}
use Rattle.listing.proofs.Lists.{Counting}
use Rattle.listing.proofs.count_blocks.Given as goal

abbrev pub invariant-loop-i : goal.invariant-loop-i
invariant-loop-i l = Counting l.live l.setup.s1 (words l.setup) l.map (blocks l.live l.setup l.map) l.i l.n

abbrev pub decreases-loop-i : goal.decreases-loop-i
decreases-loop-i l = words l.setup - l.i
