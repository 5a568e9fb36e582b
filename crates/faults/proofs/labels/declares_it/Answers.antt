-- `faults::labels::declares_it` meets its contract: by the scan. Assumes nothing.
use native.Mathlib.Omega.{arith}
use mathlib.Core.Path.{◌∙◌}
use Rattle.faults.proofs.Texting.{declares_part, declares_none}
use Rattle.faults.proofs.Answers.{scan_is}
use Rattle.lines.proofs.Library.{same_lem}
use Rattle.faults.proofs.labels.declares_it.Goals as goal

pub returns-in_default : goal.returns-in_default
returns-in_default c = declares_none _ _ _ _ c.in_default.is (scan_is _ _ _ c.scan.ensures.0)

pub slice_bounds-eq-count : goal.slice_bounds-eq-count
slice_bounds-eq-count c =
    let label = c.in-Some.ensures.1.counted.label in omega
    arith

pub slice_bounds-eq-start : goal.slice_bounds-eq-start
slice_bounds-eq-start c =
    let label = c.in-Some.ensures.1.counted.label in omega
    arith

pub slice_bounds-eq-end : goal.slice_bounds-eq-end
slice_bounds-eq-end c =
    let label = c.in-Some.ensures.1.counted.label in omega
    arith

pub returns : goal.returns
returns c =
    c.eq.ensures ∙ same_lem _ _ ∙ declares_part c.args.b c.args.s.now c.args.label.now c.in-Some.is
    (scan_is _ _ _ c.scan.ensures.0)
