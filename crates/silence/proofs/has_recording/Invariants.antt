use Rattle.std.proofs.Common.{◌≡◌, drop}
use Rattle.std.specs.List.{list_any}
use Rattle.silence.specs.Silence.{has_recording}
use Rattle.silence.proofs.Looking.{recorded_in}
use Rattle.silence.proofs.has_recording.Given as goal

abbrev pub invariant-loop-pair : goal.invariant-loop-pair
invariant-loop-pair l = has_recording l.stop l.pairs ≡ list_any (recorded_in l.stop) (drop l.pair-index l.whole)
