-- `commit::words::zero_words` meets its contract: the part that is filled is as long as asked for. Assumes nothing.
use Rattle.std.specs.Prelude.{◌≡◌, ◌+◌, ◌-◌, refl}
use Rattle.std.proofs.lemmas.List.{drop-drop}
use native.Mathlib.Omega.{arith}
use lib.ListN.{length-replicate}
use Rattle.machine.specs.Storage.{placed}
use Rattle.commit.proofs.Pasted.{length_copied}
use Rattle.commit.proofs.words.zero_words.Goals as goal

pub returns : goal.returns
unfolding placed
returns c =
    let a = c.args in
    let few : a.from + a.n - a.from ≡ a.n = omega arith in
    rw (c.fill.ensures.after (λ y h. h), few, length_copied a.storage.now a.from a.n c.requires, length-replicate, drop-drop) refl
