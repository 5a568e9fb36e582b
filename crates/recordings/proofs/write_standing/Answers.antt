-- `recordings::write_standing` meets its contract, check by check. Assumes nothing.
use mathlib.Core.Path.{sym}
use Rattle.word.proofs.Tests.{known_true, known_false}
use Rattle.recordings.proofs.Calls.{bad_list}
use Rattle.recordings.proofs.Telling.{few_answered, many_left}
use Rattle.recordings.proofs.write_standing.Goals as goal

pub returns-then-not-is_list : goal.returns-then-not-is_list
returns-then-not-is_list c =
    let all = bad_list _ _ (known_false c.is_list.ensures c.if-not-is_list.true-raw) in
    record { output_after = all.0; numbered = all.1 }

pub write_few-requires : goal.write_few-requires
write_few-requires c =
    known_true c.is_list.ensures c.if-not-is_list.false-raw

pub write_many-requires : goal.write_many-requires
write_many-requires c =
    let few = c.write_few.ensures in (
      known_true c.is_list.ensures c.if-not-is_list.false-raw,
      (many_left _ _ (rw c.in-None.is at few.0) few.1).1,
    )

pub returns-in-Some : goal.returns-in-Some
returns-in-Some c =
    let few = c.write_few.ensures in
    let all = few_answered _ _ (rw c.in-Some.is at few.0) few.1 in
    record { output_after = all.0; numbered = all.1 }

pub returns-in-None : goal.returns-in-None
returns-in-None c =
    let few = c.write_few.ensures in
    let left = (many_left _ _ (rw c.in-None.is at few.0) few.1).0 in
    rw (sym left) (let all = c.write_many.ensures in
    record { output_after = all.0; numbered = all.1 })
