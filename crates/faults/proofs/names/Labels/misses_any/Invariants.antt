use Prim.Native.Nat.{◌≤◌}
use mathlib.Core.Path.{◌≡◌}
use lib.ListN.{length, take, drop}
use Rattle.lines.specs.Words.{any}
use Rattle.lines.specs.Program.{called_in}
use Rattle.faults.specs.Checking.{parens_in}
use Rattle.faults.specs.Places.{missing}
use Rattle.faults.specs.Names.{Found}
use Rattle.faults.proofs.Using.{Using}
use Rattle.faults.proofs.names.Labels.misses_any.Given as goal

abbrev pub invariant-loop-left : goal.invariant-loop-left
invariant-loop-left l =
    Using l.self.b (missing l.self.b l.self.text.now) l.s (any (missing l.self.b l.self.text.now) (called_in l.self.b (parens_in l.count (drop l.at l.s)))) l.left l.place
    × ((l.n ≤ length l.found) × ((length l.found ≡ length l.initial.found) × Found l.self.b l.self.text.now (take l.n l.found)))
