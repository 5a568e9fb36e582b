-- `typed::values::Ready::put_line` meets its contract: by the scan. Assumes nothing.
use Prim.Native.Nat.{ℕ, ◌+◌}
use native.Mathlib.Omega.{arith}
use native.Mathlib.Nat.{add-zero}
use mathlib.Core.Path.{sym, ap, ◌∙◌}
use mathlib.Core.List.{List}
use Rattle.table.specs.declared.Row.{Row}
use Rattle.faults.specs.Names.{label_row}
use Rattle.faults.proofs.Texting.{size_line, size_none}
use Rattle.typed.specs.Putting.{put_rows}
use Rattle.typed.proofs.Grouping.{laid_good, read_bad, read_good}
use Rattle.faults.proofs.Answers.{scan_is}
use Rattle.typed.proofs.values.Ready.put_line.Goals as goal

pub returns-in_default : goal.returns-in_default
returns-in_default c =
    let line = scan_is _ _ _ c.scan.ensures.0 in (
      sym (ap (λ (n : ℕ). c.args.row + n)
          (sym (size_none c.args.self.now.labels.b c.args.s.now c.in_default.is line)) ∙ add-zero c.args.row),
      read_bad c.args.self.now.labels.b c.args.s.now (label_row c.args.self.now.labels.b c.args.self.now.labels.text.now) c.args.row c.args.last
          c.args.table.now c.in_default.is line,
    )

pub overflow_add-after : goal.overflow_add-after
overflow_add-after c =
    let line = scan_is _ _ _ c.scan.ensures.0 in
    let size = size_line c.args.self.now.labels.b c.args.s.now c.in-Some.is line c.scan.ensures.1 in let
    few = c.well_formed.1.1.1.1.0.1 in omega (arith, c.requires)

pub overflow_add-after-2 : goal.overflow_add-after-2
overflow_add-after-2 c =
    let line = scan_is _ _ _ c.scan.ensures.0 in
    let size = size_line c.args.self.now.labels.b c.args.s.now c.in-Some.is line c.scan.ensures.1 in let
    few = c.well_formed.1.1.1.1.0.1 in omega (arith, c.requires)

pub overflow_add-after-3 : goal.overflow_add-after-3
overflow_add-after-3 c =
    let line = scan_is _ _ _ c.scan.ensures.0 in
    let size = size_line c.args.self.now.labels.b c.args.s.now c.in-Some.is line c.scan.ensures.1 in let
    few = c.well_formed.1.1.1.1.0.1 in omega (arith, c.requires)

pub put_scanned-requires : goal.put_scanned-requires
put_scanned-requires c =
    let line = scan_is _ _ _ c.scan.ensures.0 in
    let size = size_line c.args.self.now.labels.b c.args.s.now c.in-Some.is line c.scan.ensures.1 in (
      laid_good c.args.self.now.labels.b c.args.s.now c.in-Some.is line c.scan.ensures.1,
      omega (arith, c.requires),
    )

pub returns : goal.returns
returns c =
    let line = scan_is _ _ _ c.scan.ensures.0 in
    let size = size_line c.args.self.now.labels.b c.args.s.now c.in-Some.is line c.scan.ensures.1 in (
      ap (λ (n : ℕ). c.args.row
          + n) size,
      c.put_scanned.ensures ∙ ap (λ (rs : List Row). put_rows c.args.row rs c.args.table.now)
          (read_good c.args.self.now.labels.b c.args.s.now (label_row c.args.self.now.labels.b c.args.self.now.labels.text.now) c.args.row c.args.last _
          c.in-Some.is line size c.following.ensures),
    )
