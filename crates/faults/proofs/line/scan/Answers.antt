-- `faults::line::scan` meets its contract. The loop's invariant: what is left, read from the walk so far, is the line. Assumes nothing.
use native.Mathlib.Omega.{arith}
use Rattle.word.proofs.Tests.{known_true, known_false}
use Rattle.faults.proofs.Walked.{walked_none, starts, few_placed, walked_bad, walked_none_left, walked_more}
use Rattle.faults.proofs.Walked.{place_later, walked_all}
use Rattle.lines.proofs.Telling.{spot_is}
use Rattle.faults.proofs.Answers.{same_walk, scan_tells}
use Rattle.faults.proofs.line.scan.Goals as goal

pub loop-start-init : goal.loop-start-init
loop-start-init c = walked_none _ _

pub at_end-requires : goal.at_end-requires
at_end-requires c = c.loop-start.invariant.inside

pub blanks_end-start-requires : goal.blanks_end-start-requires
blanks_end-start-requires c = c.loop-start.invariant.inside

pub token_at-requires : goal.token_at-requires
token_at-requires c = (starts _ _ c.loop-start.invariant _ c.blanks_end-start.ensures).1

pub returns-in_err-spot : goal.returns-in_err-spot
returns-in_err-spot c = rw c.from_residual.ensures (
  scan_tells _ _ _ (walked_none_left _ _
      (walked_bad c.args.b c.args.s.now c.loop-start.invariant c.blanks_end-start.result c.blanks_end-start.ensures
      (known_false c.at_end.ensures c.loop-start-test.true-raw) (spot_is _ _ _ c.in_err-spot.ensures).0)),
  tt,
)

pub spot_step-walk-requires : goal.spot_step-walk-requires
spot_step-walk-requires c = (
  c.requires,
  (
    few_placed c.args.s.now c.loop-start.walk _ _ (starts _ _ c.loop-start.invariant _ c.blanks_end-start.ensures).0
        c.loop-start.invariant.placed,
    (spot_is _ _ _ c.in_ok-spot.ensures).1,
  ),
)

pub place_after-at-requires : goal.place_after-at-requires
place_after-at-requires c = (spot_is _ _ _ c.in_ok-spot.ensures).1

pub loop-start-smaller : goal.loop-start-smaller
loop-start-smaller c =
    let token = spot_is _ _ _ c.in_ok-spot.ensures in
    let more = walked_more c.args.b c.args.s.now c.loop-start.invariant c.blanks_end-start.result
    c.blanks_end-start.ensures (known_false c.at_end.ensures c.loop-start-test.true-raw) _ token.0 token.1 in
    let later = place_later c.args.b c.args.s.now c.loop-start.invariant c.blanks_end-start.result
    c.blanks_end-start.ensures (known_false c.at_end.ensures c.loop-start-test.true-raw) _ token.1 in
    omega (arith, more.inside, c.place_after-at.ensures)

pub loop-start-preserved : goal.loop-start-preserved
loop-start-preserved c =
    let token = spot_is _ _ _ c.in_ok-spot.ensures in
    let more = walked_more c.args.b c.args.s.now c.loop-start.invariant c.blanks_end-start.result
    c.blanks_end-start.ensures (known_false c.at_end.ensures c.loop-start-test.true-raw) _ token.0 token.1 in
    rw (c.place_after-at.ensures, same_walk c.spot_step-walk.ensures) more

pub returns : goal.returns
returns c =
    let (line, placed) = walked_all c.args.b c.args.s.now c.loop-start.invariant
    (known_true c.at_end.ensures c.loop-start-test.false-raw) in
    rw c.finish.ensures (scan_tells _ _ _ line, placed)
