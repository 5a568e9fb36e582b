use Prim.Native.Nat.{◌-◌}
use mathlib.Core.Path.{◌≡◌}
use lib.ListN.{length}
use Rattle.block.specs.SetUp.{words}
use Rattle.listing.specs.Listing.{blocks, numbers_of}
use Rattle.listing.proofs.Lists.{Listing}
use Rattle.listing.proofs.list_blocks.Given as goal

abbrev pub invariant-loop-i : goal.invariant-loop-i
invariant-loop-i l =
    (long : length l.initial.list ≡ length (numbers_of (blocks l.live l.setup l.map)))
    → Listing l.live l.setup.s1 (words l.setup) l.map (blocks l.live l.setup l.map) l.initial.list long l.list l.i l.n

abbrev pub decreases-loop-i : goal.decreases-loop-i
decreases-loop-i l = l.end - l.i
