-- `drafts::checked` meets its contract. The part lent is as long as asked. Assumes nothing.
use Rattle.std.proofs.Common.{◌≡◌, length, sym, arith, length-take-le, rules}
use Rattle.drafts.proofs.checked.Goals as goal

pub slice_bounds-check_fields-end : goal.slice_bounds-check_fields-end
slice_bounds-check_fields-end c =
    let long : length c.args.table.now ≡ 16384 = search rules in
    sym (length-take-le _ _ (omega (arith, c.requires)))
