-- `layout::writing::put_arrays` meets its contract: the five arrays put one after the other are the definition's bytes (`arrays_put`), each
-- in the range that its call gives. Assumes nothing.
use mathlib.Core.Path.{◌≡◌}
use lib.ListN.{length}
use Rattle.layout.specs.Ranged.{RangedArrays}
use Rattle.layout.proofs.Parts.{arrays_put}
use borrow.Author.Rules.{rules}
use Rattle.layout.proofs.writing.put_arrays.Goals as goal

pub returns : goal.returns
returns c =
    let core = c.args.core.now in
    let bugs_long : length core.bugs ≡ 26 = search rules in
    let words_long : length core.contents.entries ≡ 128 = search rules in
    let fields_long : length core.definitions ≡ 36 = search rules in
    let saved_long : length core.saved.entries ≡ 128 = search rules in
    let calls_long : length core.calls.entries ≡ 128 = search rules in
    let ok : RangedArrays core = record {
      bugs = rw bugs_long at c.put_records.ensures.ranged;
      contents = rw words_long at c.put_records-2.ensures.ranged;
      definitions = rw fields_long at c.put_records-3.ensures.ranged;
      saved = rw saved_long at c.put_records-4.ensures.ranged;
      calls = rw calls_long at c.put_records-5.ensures.ranged;
    } in
    record {
      bytes_after = arrays_put core ok c.args.bytes.now c.requires c.put_records.ensures.bytes_after
          c.put_records-2.ensures.bytes_after c.put_records-3.ensures.bytes_after
          c.put_records-4.ensures.bytes_after
          c.put_records-5.ensures.bytes_after;
      ranged = ok;
    }
