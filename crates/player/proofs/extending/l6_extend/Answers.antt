-- `player::extending::l6_extend` meets its contract: by the length and the answer. Assumes nothing.
use Rattle.player.proofs.Longer.{extend_short, extend_refused, extend_kept, extend_done, extend_told_lem}
use Rattle.player.proofs.extending.l6_extend.Goals as goal

pub returns-then-state-ne-STATE_BYTES : goal.returns-then-state-ne-STATE_BYTES
returns-then-state-ne-STATE_BYTES c =
    record {
      state_after = extend_short c.args.last c.args.storage.now c.args.state.now c.if-state-ne-STATE_BYTES.true;
      back = λ h. absurd (c.if-state-ne-STATE_BYTES.true h);
    }

pub returns-then-number-ne0 : goal.returns-then-number-ne0
returns-then-number-ne0 c =
    record {
      state_after = extend_refused c.args.last c.args.storage.now c.args.state.now c.if-state-ne-STATE_BYTES.false c.read_state.ensures
          c.extend-extended.ensures.storage_after c.number_of-number.ensures c.if-number-ne0.true;
      back = λ h. extend_kept c.args.last c.args.storage.now c.args.state.now c.if-state-ne-STATE_BYTES.false
          c.read_state.ensures c.extend-extended.ensures.storage_after c.number_of-number.ensures c.if-number-ne0.true;
    }

pub returns : goal.returns
returns c =
    record {
      state_after = extend_done c.args.last c.args.storage.now c.args.state.now c.if-state-ne-STATE_BYTES.false c.read_state.ensures
          c.extend-extended.ensures.storage_after c.number_of-number.ensures c.if-number-ne0.false c.write_state.ensures.bytes_after;
      back = λ h. extend_told_lem c.args.last c.args.storage.now c.args.state.now c.if-state-ne-STATE_BYTES.false
          c.read_state.ensures c.extend-extended.ensures.storage_after c.number_of-number.ensures c.if-number-ne0.false
          c.write_state.ensures.bytes_after c.write_state.ensures.back;
    }
