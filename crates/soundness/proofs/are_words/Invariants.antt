use Prim.Native.Nat.{◌*◌, ◌^◌}
use mathlib.Core.Path.{◌≡◌}
use Rattle.machine.specs.Sound.{every}
use Rattle.machine.proofs.Every.{below}
use Rattle.soundness.proofs.Passed.{parted}
use Rattle.soundness.proofs.are_words.Given as goal

abbrev pub invariant-loop-part : goal.invariant-loop-part
invariant-loop-part l = every (below (2 ^ l.b)) l.words ≡ parted l.b l.all (l.part-index * 128) l.words
