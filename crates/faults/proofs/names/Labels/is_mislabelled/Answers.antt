-- `faults::names::Labels::is_mislabelled` meets its contract: its tests joined are the definition. Assumes nothing.
use native.Mathlib.Omega.{arith}
use mathlib.Core.Path.{ap, ap₂, ◌∙◌}
use mathlib.Core.Bool.{◌||◌}
use mathlib.Core.List.{List}
use Prim.Native.Nat.{ℕ}
use lib.Seq.{slice}
use Rattle.lines.specs.Words.{any}
use Rattle.faults.specs.Checking.{operations_at}
use Rattle.faults.specs.Places.{missing, goes_to_of, lines_before}
use Rattle.faults.specs.Names.{known_before}
use Rattle.lines.proofs.Parts.{part_slice}
use Rattle.faults.proofs.Faults.{labels_bad}
use Rattle.faults.proofs.Telling.{again_is}
use Rattle.faults.proofs.names.Labels.is_mislabelled.Goals as goal

pub misses_call-calls-requires : goal.misses_call-calls-requires
unfolding operations_at
misses_call-calls-requires c =
    (c.requires.1.0.counted.begins, (c.requires.1.0.counted.operations, c.requires.1.1))

pub slice_bounds-misses_go_to-count : goal.slice_bounds-misses_go_to-count
slice_bounds-misses_go_to-count c = let inside = c.requires.1.0.go_to in omega arith

pub slice_bounds-misses_go_to-start : goal.slice_bounds-misses_go_to-start
slice_bounds-misses_go_to-start c = let inside = c.requires.1.0.go_to in omega arith

pub slice_bounds-misses_go_to-end : goal.slice_bounds-misses_go_to-end
slice_bounds-misses_go_to-end c = let inside = c.requires.1.0.go_to in omega arith

pub slice_bounds-is_again-count : goal.slice_bounds-is_again-count
slice_bounds-is_again-count c = let inside = c.requires.1.0.counted.label in omega arith

pub slice_bounds-is_again-start : goal.slice_bounds-is_again-start
slice_bounds-is_again-start c = let inside = c.requires.1.0.counted.label in omega arith

pub slice_bounds-is_again-end : goal.slice_bounds-is_again-end
slice_bounds-is_again-end c = let inside = c.requires.1.0.counted.label in omega arith

pub returns : goal.returns
unfolding operations_at
returns c = λ lines counted.
    let goes = c.misses_go_to.ensures
    ∙ ap (λ (w : List ℕ). any (missing c.args.self.now.b c.args.self.now.text.now) (goes_to_of w))
    (part_slice c.args.c.goes c.args.c.ends c.args.s.now) in
    let again = c.is_again.ensures
    ∙ ap (known_before c.args.self.now.known.now c.args.count)
    (part_slice c.args.c.from c.args.c.label c.args.s.now)
    ∙ again_is c.args.self.now.b c.args.self.now.text.now (slice c.args.c.from c.args.c.label c.args.s.now) lines
    c.args.count counted c.args.self.now.right c.requires.0 in
    ap₂ ◌||◌ (ap₂ ◌||◌ c.misses_call-calls.ensures goes) again
    ∙ labels_bad c.args.self.now.b c.args.self.now.text.now c.args.s.now
    (lines_before c.args.self.now.b c.args.self.now.text.now lines) c.args.c
