-- `faults::seeking::seek_line` meets its contract: by the scan. Assumes nothing.
use native.Mathlib.Omega.{arith}
use mathlib.Core.Path.{refl}
use Rattle.lines.specs.Words.{is_name}
use Rattle.lines.proofs.Scanning.{end_inside}
use Rattle.faults.proofs.Finding.{line_tells}
use Rattle.faults.proofs.Answers.{scan_is}
use Rattle.faults.proofs.seeking.seek_line.Goals as goal

pub overflow_sub-s : goal.overflow_sub-s
overflow_sub-s c = let inside = end_inside is_name c.args.s.now 0 (omega arith) in omega (arith, c.word_end-end.ensures)

pub returns-then-end-s : goal.returns-then-end-s
returns-then-end-s c = (record { few = omega arith; long = refl }, λ text part f. f)

pub slice_bounds-key_of-count : goal.slice_bounds-key_of-count
slice_bounds-key_of-count c =
    let inside = end_inside is_name c.args.s.now 0 (omega arith) in omega (arith, c.word_end-end.ensures)

pub slice_bounds-key_of-start : goal.slice_bounds-key_of-start
slice_bounds-key_of-start c =
    let inside = end_inside is_name c.args.s.now 0 (omega arith) in omega (arith, c.word_end-end.ensures)

pub slice_bounds-key_of-end : goal.slice_bounds-key_of-end
slice_bounds-key_of-end c =
    let inside = end_inside is_name c.args.s.now 0 (omega arith) in omega (arith, c.word_end-end.ensures)

pub returns-in_default-scan : goal.returns-in_default-scan
returns-in_default-scan c = (record { few = omega arith; long = refl }, λ text part f. f)

pub returns-in_default : goal.returns-in_default
returns-in_default c = (record { few = omega arith; long = refl }, λ text part f. f)

pub slice_bounds-settle-count : goal.slice_bounds-settle-count
slice_bounds-settle-count c =
    let label = c.in-Some-scan.ensures.1.counted.label in omega arith

pub slice_bounds-settle-start : goal.slice_bounds-settle-start
slice_bounds-settle-start c =
    let label = c.in-Some-scan.ensures.1.counted.label in omega arith

pub slice_bounds-settle-end : goal.slice_bounds-settle-end
slice_bounds-settle-end c =
    let label = c.in-Some-scan.ensures.1.counted.label in omega arith

pub returns : goal.returns
returns c = (
  c.settle.ensures.0,
  λ text part. c.settle.ensures.1 c.args.b text (line_tells c.args.b text
      c.args.s.now part c.in-Some-scan.is (scan_is _ _ _ c.scan.ensures.0)),
)
