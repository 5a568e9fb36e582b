-- `silence::write_silent` meets its contract: what `write_picked` answers of silent stops is what is asked. Assumes nothing.
use Rattle.silence.proofs.write_silent.Goals as goal

pub returns : goal.returns
returns c =
    record {
      output_after = c.write_picked.ensures.left;
      numbered = c.write_picked.ensures.numbered;
    }
