use Rattle.std.proofs.Common.{◌*◌, ◌≤◌, ◌≡◌, min, length, take}
use lib.Seq.{sets}
use Rattle.columns.specs.Columns.{turned_groups}
use Rattle.columns.proofs.load_all.Given as goal

abbrev pub invariant-loop-k : goal.invariant-loop-k
invariant-loop-k l =
    (l.k ≤ l.groups) × (length l.words ≡ length l.fn.words) × (l.words ≡ sets l.fn.words 0 (take (min l.n (8 * l.k)) (turned_groups 8 l.b l.groups l.bytes)))
