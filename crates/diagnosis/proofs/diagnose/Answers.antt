-- `diagnosis::diagnose` meets its contract: what was read is the file's table (`table_read`), which fits the array (`table_most`); the rest
-- are the calls' answers. Assumes nothing.
use native.Mathlib.Omega.{arith}
use mathlib.Core.Path.{◌≡◌, sym, ap, ◌∙◌}
use lib.ListN.{length, take, replicate}
use lib.Seq.{length-take-le}
use Rattle.tour.specs.Tour.{table_of}
use Rattle.tour.proofs.Tables.{table_most}
use Rattle.defined.specs.Answer.{fields_checked}
use Rattle.diagnosis.specs.Diagnosis.{printed}
use Rattle.diagnosis.proofs.Words.{table_read}
use borrow.Author.Rules.{rules}
use Rattle.diagnosis.proofs.diagnose.Goals as goal

pub slice_bounds-table-end : goal.slice_bounds-table-end
slice_bounds-table-end c =
    let at-args = c.args in
    let long : length c.read_table-count.new.table ≡ 8000 = search rules in
    omega (arith, table_most at-args.tab.now, c.read_table-count.ensures.value)

pub slice_bounds-check_fields-end : goal.slice_bounds-check_fields-end
slice_bounds-check_fields-end c =
    let at-args = c.args in
    let long : length c.read_table-count.new.table ≡ 8000 = search rules in
    sym (length-take-le _ _ (omega (arith, table_most at-args.tab.now, c.read_table-count.ensures.value)))

pub returns : goal.returns
unfolding printed
returns c =
    let at-args = c.args in
    let is : take c.read_table-count.result c.read_table-count.new.table ≡ table_of at-args.tab.now = table_read at-args.tab.now
    (replicate 8000 0) c.read_table-count.ensures.value c.read_table-count.ensures.table_after in
    let found = c.check_fields-found.ensures.value ∙ ap (fields_checked at-args.b) is in
    record {
      tab_value = rw found at c.put_finding.ensures.found_value;
      text_after = rw found at c.put_finding.ensures.text_after;
    }
