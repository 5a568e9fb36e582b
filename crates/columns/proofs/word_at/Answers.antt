-- `columns::word_at` meets its contract: the row read is the word that the turned groups have at that place (`number_of_lem`), and lies inside
-- the bytes (`made_inside`). Assumes nothing.
use mathlib.Core.Path.{sym, ◌∙◌}
use native.Mathlib.Omega.{arith}
use Rattle.columns.proofs.Places.{made_inside, number_of_lem}
use Rattle.columns.proofs.word_at.Goals as goal

pub overflow_mul-i : goal.overflow_mul-i
overflow_mul-i c =
    let inside = made_inside 8 c.args.b c.args.groups c.args.bytes.now c.args.i (omega arith)
    c.requires.2 in
    omega (arith, c.requires.1)

pub row-requires : goal.row-requires
row-requires c =
    let inside = made_inside 8 c.args.b c.args.groups c.args.bytes.now c.args.i (omega arith)
    c.requires.2 in
    (omega arith, c.requires.0, omega (arith, c.requires.1))

pub returns : goal.returns
returns c =
    c.row.ensures ∙ sym (number_of_lem 8 c.args.b c.args.groups c.args.bytes.now c.args.i (omega arith) c.requires.2)
