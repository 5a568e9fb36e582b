-- `recordings::write_few` meets its contract: many stops (`many_tells`), or few (`few_tells`): then the output is short (`output_short`),
-- or all is written (`all_written_lem`). Assumes nothing.
use Prim.Native.Nat.{ℕ, ◌/◌, ◌≤◌}
use mathlib.Core.List.{List}
use mathlib.Core.Path.{refl, sym}
use native.Mathlib.Omega.{arith}
use borrow.Author.Tests.{le-leb, lt-leb}
use lib.ListN.{length}
use Rattle.recordings.specs.Recordings.{all_standing}
use Rattle.recordings.proofs.Calls.{output_short, all_written_lem}
use Rattle.recordings.proofs.Growing.{noted_count}
use Rattle.recordings.proofs.Telling.{few_tells, many_tells}
use Rattle.recordings.proofs.write_few.Goals as goal

pub slice_bounds-note_few-end-2 : goal.slice_bounds-note_few-end-2
slice_bounds-note_few-end-2 c =
    sym c.no_heads-heads.ensures.0

pub note_few-count-requires : goal.note_few-count-requires
note_few-count-requires c =
    (c.requires, omega arith, c.no_heads-heads.ensures.1)

pub returns-then-count-gt-FEW : goal.returns-then-count-gt-FEW
returns-then-count-gt-FEW c =
    many_tells _ _ (c.note_few-count.ensures.many c.if-count-gt-FEW.true)

pub returns-then-output-count : goal.returns-then-output-count
returns-then-output-count c =
    let few : c.note_few-count.result ≤ 1023 = omega (arith, c.if-count-gt-FEW.false) in
    let ends = c.note_few-count.ensures.ends few in
    let xs : List ℕ = c.args.list.now in
    let all = noted_count (c.note_few-count.ensures.noted few) in
    few_tells xs c.args.output.now ends (omega arith) (output_short xs c.args.output.now c.requires refl (λ e. omega arith)
    (lt-leb (length (all_standing xs)) (length c.args.output.now / 2) (omega (arith, c.if-output-count.true))))

pub put_few-requires : goal.put_few-requires
put_few-requires c =
    let few : c.note_few-count.result ≤ 1023 = omega (arith, c.if-count-gt-FEW.false) in
    (c.requires, c.note_few-count.ensures.noted few, omega (arith, c.if-output-count.false))

pub returns : goal.returns
returns c =
    let few : c.note_few-count.result ≤ 1023 = omega (arith, c.if-count-gt-FEW.false) in
    let ends = c.note_few-count.ensures.ends few in
    let noted = c.note_few-count.ensures.noted few in
    let xs : List ℕ = c.args.list.now in
    few_tells xs c.args.output.now ends (omega (arith, noted_count noted))
    (all_written_lem xs c.args.output.now c.requires refl (λ e. omega arith)
    (le-leb (length (all_standing xs)) (length c.args.output.now / 2) (omega (arith, noted_count noted, c.if-output-count.false)))
    (noted_count noted) c.put_few.ensures)
