use Rattle.std.proofs.Common.{◌-◌, ◌<◌, ◌≤◌, get_or}
use Rattle.block.specs.Blocks.{size}
use Rattle.block.specs.SetUp.{words, runs}
use Rattle.block.specs.Map.{live}
use Rattle.buddy.specs.Lowest.{first_of}
use Rattle.buddy.proofs.Scan.{Scanned}
use Rattle.buddy.proofs.section.lowest_run.Given as goal

abbrev pub invariant-loop-i : goal.invariant-loop-i
invariant-loop-i l =
    Scanned l.j l.setup.s1 (words l.setup) l.map (first_of (runs (size l.j) l.setup (live l.setup l.map))) l.i
    × (l.i < l.end → l.least ≤ get_or l.map l.i 0)

abbrev pub decreases-loop-i : goal.decreases-loop-i
decreases-loop-i l = l.end - l.i
