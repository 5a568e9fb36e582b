-- `columns::put_words` meets its contract: a part is written at once. Assumes nothing.
use Rattle.std.proofs.Common.{◌≡◌, ◌+◌, ◌-◌, take, length-take-le, append_assoc, arith}
use Rattle.std.proofs.Math.Seq.{drop-drop}
use Rattle.std.proofs.lemmas.List.Edits.{sets-eq}
use Rattle.columns.proofs.put_words.Goals as goal

pub returns : goal.returns
returns c =
    let a = c.args in
    let part = take a.n a.group.now in
    let long = length-take-le a.n a.group.now c.requires.0 in
    let size : a.to + a.n - a.to ≡ a.n = omega arith in
    rw (c.copy_from_slice.ensures.after, size, sets-eq part a.words.now a.to (omega (arith, long, c.requires.1)), long, append_assoc, drop-drop)
