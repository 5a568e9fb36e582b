use Prim.Native.Nat.{ℕ, ◌^◌}
use mathlib.Core.Path.{◌≡◌}
use Rattle.machine.specs.Sound.{every}
use Rattle.machine.proofs.Every.{below}
use Rattle.soundness.proofs.Passed.{parted}
use Rattle.soundness.proofs.joined.Given as goal

abbrev pub invariant-loop-word : goal.invariant-loop-word
invariant-loop-word l = (b : ℕ) → every (below (2 ^ b)) l.words ≡ parted b l.all l.word-index l.words
