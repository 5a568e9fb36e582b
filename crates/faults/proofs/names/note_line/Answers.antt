-- `faults::names::note_line` meets its contract: by the scan. Assumes nothing.
use native.Mathlib.Omega.{arith}
use Rattle.faults.proofs.Naming.{put_bad, put_good}
use Rattle.faults.proofs.Answers.{scan_is}
use Rattle.faults.proofs.names.note_line.Goals as goal

pub returns-in_default : goal.returns-in_default
returns-in_default c = put_bad _ _ _ _ _ c.in_default.is (scan_is _ _ _ c.scan.ensures.0)

pub overflow_add-size : goal.overflow_add-size
overflow_add-size c =
    let placed = c.in-Some.ensures.1 in omega
    (arith, placed.less)

pub overflow_add-size-2 : goal.overflow_add-size-2
overflow_add-size-2 c =
    let placed = c.in-Some.ensures.1 in omega
    (arith, placed.less)

pub slice_bounds-note-count : goal.slice_bounds-note-count
slice_bounds-note-count c =
    let label = c.in-Some.ensures.1.counted.label in omega
    arith

pub slice_bounds-note-start : goal.slice_bounds-note-start
slice_bounds-note-start c =
    let label = c.in-Some.ensures.1.counted.label in omega
    arith

pub slice_bounds-note-end : goal.slice_bounds-note-end
slice_bounds-note-end c =
    let label = c.in-Some.ensures.1.counted.label in omega
    arith

pub overflow_add-before : goal.overflow_add-before
overflow_add-before c = omega (arith, c.requires.1.0)

pub note-count-requires : goal.note-count-requires
note-count-requires c =
    c.requires.1.1

pub returns : goal.returns
returns c =
    put_good c.args.b c.args.s.now c.args.n c.args.before c.args.room.now
    c.in-Some.is (scan_is _ _ _ c.scan.ensures.0) c.scan.ensures.1 c.note-count.ensures
