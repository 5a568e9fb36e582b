-- `recordings::write_many` meets its contract, check by check. Assumes nothing.
use Prim.Native.Nat.{ℕ}
use mathlib.Core.List.{List, ◌++◌}
use mathlib.Core.Path.{ap, ◌∙◌}
use native.Mathlib.Omega.{arith}
use Rattle.word.proofs.Tests.{known_true, known_false}
use Rattle.recordings.specs.Walking.{all_written}
use Rattle.recordings.proofs.Chain.{chain_most}
use Rattle.recordings.proofs.Calls.{row_twice, output_short, pairs_fit, all_written_lem}
use Rattle.recordings.proofs.Growing.{noted_itself, noted_count}
use Rattle.recordings.proofs.write_many.Goals as goal

pub chain_length-steps-requires : goal.chain_length-steps-requires
chain_length-steps-requires c =
    c.requires.0

pub returns-then-steps-list : goal.returns-then-steps-list
returns-then-steps-list c =
    row_twice _ _ c.requires.0 c.chain_length-steps.ensures c.if-steps-list.true

pub has_room-requires : goal.has_room-requires
has_room-requires c =
    let all = c.chain_length-steps.ensures in (
      record { is_list_lem = c.requires.0; all_steps = all },
      c.requires.1 (omega (arith, c.if-steps-list.false, chain_most c.args.list.now c.requires.0)),
    )

pub returns-then-not-has_room : goal.returns-then-not-has_room
returns-then-not-has_room c =
    let short = known_false c.has_room.ensures c.if-not-has_room.true-raw in
    output_short _ _ c.requires.0 c.chain_length-steps.ensures c.if-steps-list.false short

pub note-count-requires : goal.note-count-requires
note-count-requires c =
    let all = c.chain_length-steps.ensures in
    let fits = known_true c.has_room.ensures c.if-not-has_room.false-raw in
    (record { is_list_lem = c.requires.0; all_steps = all }, pairs_fit _ c.args.output.now c.requires.0 all c.if-steps-list.false fits)

pub put_recordings-requires : goal.put_recordings-requires
put_recordings-requires c =
    (c.requires.0, noted_itself c.note-count.ensures)

pub returns : goal.returns
returns c =
    let noted = c.note-count.ensures in
    let fits = known_true c.has_room.ensures c.if-not-has_room.false-raw in
    all_written_lem _ _ c.requires.0 c.chain_length-steps.ensures c.if-steps-list.false fits (noted_count noted)
    (c.put_recordings.ensures ∙ ap (λ (l : List ℕ). all_written c.args.list.now ++ l) noted.past)
