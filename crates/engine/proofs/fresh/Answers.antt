-- `engine::fresh` meets its contract: by its width. Assumes nothing.
use borrow.Author.Tests.{ne_eqb}
use Rattle.word.specs.Word.{is_width}
use Rattle.machine.specs.State.{fresh_of, told_fresh}
use Rattle.engine.proofs.fresh.Goals as goal

pub returns-then-b-eq36 : goal.returns-then-b-eq36
unfolding fresh_of told_fresh is_width
returns-then-b-eq36 c =
    record {
      value = rw (c.if-b-eq36.true, c.fresh_state.ensures);
      numbered = rw c.if-b-eq36.true;
    }

pub returns-then-b-eq48 : goal.returns-then-b-eq48
unfolding fresh_of told_fresh is_width
returns-then-b-eq48 c =
    let other = ne_eqb _ 36 c.if-b-eq36.false in
    record {
      value = rw (other, c.if-b-eq48.true, c.fresh_state-then-b-eq48.ensures);
      numbered = rw (other, c.if-b-eq48.true);
    }

pub returns : goal.returns
unfolding fresh_of told_fresh is_width
returns c =
    let narrow = ne_eqb _ 36 c.if-b-eq36.false in
    let wide = ne_eqb _ 48 c.if-b-eq48.false in
    record {
      value = rw (narrow, wide, c.fresh_state-2.ensures);
      numbered = rw (narrow, wide);
    }
