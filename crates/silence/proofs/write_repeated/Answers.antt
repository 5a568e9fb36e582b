-- `silence::write_repeated` meets its contract: pairs have no bearing on it. Assumes nothing.
use Rattle.silence.specs.Silence.{test_of}
use Rattle.silence.proofs.write_repeated.Goals as goal

pub returns : goal.returns
unfolding test_of
returns c =
    record {
      output_after = c.write_picked.ensures.left;
      numbered = c.write_picked.ensures.numbered;
    }
