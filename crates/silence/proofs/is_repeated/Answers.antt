-- `silence::is_repeated` meets its contract: by what stands after the stop, then by what stands before it. Assumes nothing.
use Rattle.std.proofs.Common.{◌≡◌, ◌+◌, true, false, not, get_or, drop, sym, ap, ◌∙◌}
use Rattle.recordings.specs.Recordings.{member}
use Rattle.silence.specs.Silence.{test_of}
use Rattle.silence.proofs.Looking.{part_rest, member_is}
use Rattle.silence.proofs.is_repeated.Goals as goal

pub returns-then-contains : goal.returns-then-contains
unfolding test_of
returns-then-contains c =
    let stops = c.args.stops.now in
    let x = get_or stops c.args.i 0 in
    let rest = ap (member x) (part_rest (c.args.i + 1) stops) in
    let later : member x (drop (c.args.i + 1) stops) ≡ true = sym (c.contains.ensures.value ∙ member_is x _ ∙ rest) ∙ c.if-contains.true in
    rw later (ap not (c.contains-then-contains.ensures.value ∙ member_is x _))

pub returns-else-contains : goal.returns-else-contains
unfolding test_of
returns-else-contains c =
    let stops = c.args.stops.now in
    let x = get_or stops c.args.i 0 in
    let rest = ap (member x) (part_rest (c.args.i + 1) stops) in
    let later : member x (drop (c.args.i + 1) stops) ≡ false = sym (c.contains.ensures.value ∙ member_is x _ ∙ rest) ∙ c.if-contains.false in
    rw later c.if-contains.false
