-- `columns::save` meets its contract, check by check. Assumes nothing.
use Prim.Native.Nat.{ℕ, ◌*◌}
use mathlib.Core.Path.{ap}
use native.Mathlib.Omega.{arith}
use Rattle.word.proofs.Tests.{known_true, known_false}
use Rattle.columns.proofs.Calls.{groups_short, groups_fit, saving_no_width, saving_wide, saving_short, saving_done}
use Rattle.word.proofs.Width.{width_range}
use Rattle.columns.proofs.save.Goals as goal

pub returns-then-not-is_width : goal.returns-then-not-is_width
returns-then-not-is_width c =
    let all = saving_no_width _ _ _ (known_false c.is_width.ensures c.if-not-is_width.true-raw) in
    record { bytes_after = all.0; numbered = all.1 }

pub fit-requires : goal.fit-requires
fit-requires c = (width_range _ (known_true c.is_width.ensures c.if-not-is_width.false-raw)).1

pub returns-then-not-fit : goal.returns-then-not-fit
returns-then-not-fit c =
    let all = saving_wide _ _ _ (known_true c.is_width.ensures c.if-not-is_width.false-raw)
    (known_false c.fit.ensures c.if-not-fit.true-raw) in
    record { bytes_after = all.0; numbered = all.1 }

pub nonzero_div-bytes : goal.nonzero_div-bytes
nonzero_div-bytes c =
    let range = width_range c.args.b (known_true c.is_width.ensures c.if-not-is_width.false-raw) in
    omega (arith, range.0)

pub returns-then-bytes-n : goal.returns-then-bytes-n
returns-then-bytes-n c =
    let wide = known_true c.is_width.ensures c.if-not-is_width.false-raw in
    let all = saving_short _ _ _ wide (known_true c.fit.ensures c.if-not-fit.false-raw)
    (ap (λ (n : ℕ). c.args.b * n) c.groups_of-groups.ensures) (groups_short _ _ _ wide c.if-bytes-n.true) in
    record { bytes_after = all.0; numbered = all.1 }

pub overflow_mul-count : goal.overflow_mul-count
overflow_mul-count c =
    let room = groups_fit _ _ _ (known_true c.is_width.ensures c.if-not-is_width.false-raw) c.if-bytes-n.false in
    omega arith

pub save_all-requires : goal.save_all-requires
save_all-requires c =
    let wide = known_true c.is_width.ensures c.if-not-is_width.false-raw in
    ((width_range _ wide).1, c.groups_of-groups.ensures, groups_fit _ _ _ wide c.if-bytes-n.false)

pub returns : goal.returns
returns c =
    let b = c.args.b in
    let wide = known_true c.is_width.ensures c.if-not-is_width.false-raw in
    let room = groups_fit _ _ _ wide c.if-bytes-n.false in
    let all = saving_done _ _ _ wide (known_true c.fit.ensures c.if-not-fit.false-raw)
    (ap (λ (n : ℕ). b * n) c.groups_of-groups.ensures) (omega arith) c.save_all.ensures in
    record { bytes_after = all.0; numbered = all.1 }
