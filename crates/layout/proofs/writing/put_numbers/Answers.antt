-- `layout::writing::put_numbers` meets its contract: streams, set-up and counts put one after the other are the definition's bytes
-- (`numbers_put`), in the ranges of the calls. Assumes nothing.
use Rattle.layout.proofs.Parts.{numbers_put}
use Rattle.layout.proofs.writing.put_numbers.Goals as goal

pub returns : goal.returns
returns c =
    let streams = c.put_streams.ensures in
    let setup = c.put_setup.ensures in
    let counts = c.put_counts.ensures in
    record {
      bytes_after = numbers_put c.args.core.now c.args.bytes.now c.requires streams.bytes_after setup.bytes_after counts.bytes_after;
      ranged = record {
        place = streams.ranged.0;
        taken = streams.ranged.1;
        written = streams.ranged.2;
        d = setup.ranged.0;
        s1 = setup.ranged.1;
        s2 = setup.ranged.2;
        contents = counts.ranged.0;
        saved = counts.ranged.1;
        calls = counts.ranged.2;
      };
    }
