-- `tour::text::put_word` meets its contract: the word is copied before the place. Assumes nothing.
use native.Mathlib.Omega.{arith}
use mathlib.Core.Path.{◌≡◌}
use Prim.Native.Nat.{◌+◌, ◌-◌}
use lib.ListN.{length}
use lib.Seq.{drop-drop}
use Rattle.tour.specs.Put.{put_before}
use Rattle.tour.proofs.text.put_word.Goals as goal

pub returns-clause-text_after : goal.returns-clause-text_after
unfolding put_before
returns-clause-text_after c =
    let n = length c.args.word.now in
    let up : c.args.at - n + (c.args.at - (c.args.at - n)) ≡ c.args.at = omega arith in
    rw (c.copy_from_slice.ensures.after, drop-drop, up)
