-- `lines::fitting::is_moved` meets its contract: what is no field is not moved (`not_moved`), and a field with more bytes is still one
-- where they are names and fit (`moved`). Assumes nothing.
use native.Mathlib.Omega.{arith}
use mathlib.Core.Path.{ap, ◌∙◌}
use mathlib.Core.Bool.{Bool, ◌&&◌}
use Prim.Native.Nat.{◌-◌}
use lib.Dec.{leb}
use lib.ListN.{length}
use Rattle.word.proofs.Tests.{known_true, known_false}
use Rattle.lines.proofs.Moving.{not_moved, short_field, moved}
use Rattle.lines.proofs.fitting.is_moved.Goals as goal

pub returns-then-not-is_field : goal.returns-then-not-is_field
returns-then-not-is_field c = not_moved _ _ (known_false c.is_field.ensures c.if-not-is_field.true-raw)

pub overflow_sub-result : goal.overflow_sub-result
overflow_sub-result c =
    let short = short_field c.args.a.now c.args.names.now (known_true c.is_field.ensures c.if-not-is_field.false-raw) in omega arith

pub returns : goal.returns
returns c =
    ap (λ (t : Bool). leb (length c.args.names.now) (6 - length c.args.a.now) && t) c.all_names.ensures
    ∙ moved _ _ (known_true c.is_field.ensures c.if-not-is_field.false-raw)
