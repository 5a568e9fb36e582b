-- `layout::writing::write_state` meets its contract: the four parts put one after the other are the state's bytes (`state_put`), from which
-- it comes back (`state_back`). Assumes nothing.
use Rattle.layout.specs.Ranged.{Ranged}
use Rattle.layout.proofs.Parts.{state_put}
use Rattle.layout.proofs.Back.{state_back}
use Rattle.layout.proofs.writing.write_state.Goals as goal

pub returns : goal.returns
returns c =
    let ok : Ranged c.args.state = record {
      width = c.put_width.ensures.ranged;
      numbers = c.put_numbers.ensures.ranged;
      arrays = c.put_arrays.ensures.ranged;
      map = c.put_map.ensures.ranged;
    } in
    record {
      bytes_after = state_put c.args.state ok c.args.bytes.now c.requires c.put_numbers.ensures.bytes_after c.put_arrays.ensures.bytes_after
          c.put_map.ensures.bytes_after c.put_width.ensures.bytes_after;
      back = state_back c.args.state ok;
    }
