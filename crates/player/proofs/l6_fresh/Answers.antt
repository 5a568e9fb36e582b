-- `player::l6_fresh` meets its contract. Each return is one case of the definition: no width, a wrong length, or the fresh state's bytes,
-- from which it comes back. Assumes nothing.
use mathlib.Core.Path.{sym, ◌∙◌, ap}
use Rattle.word.proofs.Tests.{known_true, known_false}
use Rattle.layout.specs.Layout.{state_of}
use Rattle.machine.proofs.Checks.{clash}
use Rattle.player.proofs.Leaving.{fresh_no_width, fresh_short, fresh_made, fresh_leaves}
use Rattle.player.proofs.l6_fresh.Goals as goal

pub returns-then-not-is_width : goal.returns-then-not-is_width
returns-then-not-is_width c =
    let none = known_false c.is_width.ensures c.if-not-is_width.true-raw in
    record {
      state_after = fresh_no_width _ _ none;
      back = λ w h. clash (sym none ∙ w);
    }

pub returns-then-state-ne-STATE_BYTES : goal.returns-then-state-ne-STATE_BYTES
returns-then-state-ne-STATE_BYTES c =
    let wide = known_true c.is_width.ensures c.if-not-is_width.false-raw in
    record {
      state_after = fresh_short _ _ wide c.if-state-ne-STATE_BYTES.true;
      back = λ w h. absurd (c.if-state-ne-STATE_BYTES.true h);
    }

pub returns : goal.returns
returns c =
    let wide = known_true c.is_width.ensures c.if-not-is_width.false-raw in
    let made = fresh_made _ c.args.state.now wide c.fresh-made.ensures.value in
    record {
      state_after = fresh_leaves _ _ wide c.if-state-ne-STATE_BYTES.false made c.write_state.ensures.bytes_after;
      back = λ w h. ap state_of c.write_state.ensures.bytes_after ∙ c.write_state.ensures.back ∙ made;
    }
