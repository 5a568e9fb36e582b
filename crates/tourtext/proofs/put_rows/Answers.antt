-- `tourtext::put_rows` meets its contract: 10 numbers a row are 80 bytes a row (`filed_long`), which fit the buffer (`rows_within`).
-- Assumes nothing.
use Prim.Native.Nat.{ℕ, ◌*◌}
use native.Mathlib.Omega.{arith}
use mathlib.Core.Path.{◌≡◌, sym, ap, ◌∙◌}
use mathlib.Core.List.{◌++◌}
use lib.ListN.{length, take, drop}
use lib.Seq.{length-take-le}
use Rattle.tourtext.proofs.Filing.{filed_long, rows_within}
use Rattle.tourtext.specs.Translation.{filed}
use borrow.Author.Rules.{rules}
use Rattle.tourtext.proofs.put_rows.Goals as goal

pub slice_bounds-put_table-end : goal.slice_bounds-put_table-end
slice_bounds-put_table-end c =
    sym (length-take-le _ _ (omega (arith, c.requires.0, c.requires.1)))

pub put_table-requires : goal.put_table-requires
put_table-requires c =
    let few = length-take-le (10 * c.args.rows) c.args.table.now (omega (arith, c.requires.0, c.requires.1)) in let room : length
    c.args.tab.now ≡ 64000 = search rules in omega (arith, c.requires.0)

pub returns : goal.returns
returns c =
    let few = length-take-le (10 * c.args.rows) c.args.table.now (omega (arith, c.requires.0, c.requires.1)) in
    let place : 8 * length (take (10 * c.args.rows) c.args.table.now) ≡ 80 * c.args.rows = omega arith in
    let room : length c.args.tab.now ≡ 64000 = search rules in
    let is = c.put_table.ensures ∙ ap (λ (n : ℕ). filed (take (10 * c.args.rows) c.args.table.now) ++ drop n c.args.tab.now)
    place in
    record {
      bytes_value = (omega arith, search rules);
      tab_after = is;
      within = rows_within c.args.rows (filed (take (10 * c.args.rows) c.args.table.now)) c.args.tab.now _ is c.requires.0
          room (filed_long (take (10 * c.args.rows) c.args.table.now) ∙ place);
    }
