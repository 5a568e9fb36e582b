use Rattle.std.specs.Prelude.{◌≡◌, ◌-◌, length}
use Rattle.commit.specs.Carried.{recording}
use Rattle.commit.specs.Then.{engine_with}
use Rattle.engine.specs.Walking.{walk_from}
use Rattle.machine.specs.Sound.{lends}
use Rattle.engine.proofs.Now.{Turn}
use Rattle.engine.proofs.walks.walk.Given as goal

abbrev pub invariant-loop-r : goal.invariant-loop-r
invariant-loop-r l =
    (length l.storage ≡ length l.initial.storage) × (length l.output ≡ length l.initial.output) × (length l.map ≡ 4096) ×
    Turn l.width l.table l.input
    (walk_from 0 (l.limit - 1) (lends l.table l.input l.initial.output)
    (engine_with l.width l.initial.place l.initial.bugs (recording l.initial.definitions l.initial.saved l.initial.calls) l.initial.entries l.initial.counts l.initial.setup l.initial.map l.initial.storage))
    l.limit l.count l.output l.place l.bugs (recording l.definitions l.saved l.calls) l.entries l.counts l.setup l.map l.storage l.fields ×
    (length l.calls ≡ 128)

abbrev pub decreases-loop-r : goal.decreases-loop-r
decreases-loop-r l = l.limit - l.count
