use Prim.Native.Nat.{◌≤◌}
use Rattle.columns.specs.Packing.{octets}
use Rattle.columns.proofs.Packing.{Added}
use Rattle.columns.proofs.turned_words.Given as goal

abbrev pub invariant-loop-word : goal.invariant-loop-word
invariant-loop-word l = (l.word-index ≤ 8) × Added (octets l.right l.group) l.word-index l.made
