-- `commit::words::copy_words` meets its contract: std's copy is the definition's. Assumes nothing.
use Rattle.std.specs.Prelude.{◌≡◌, ◌+◌, ◌-◌, refl}
use native.Mathlib.Omega.{arith}
use mathlib.Core.List.{append_assoc}
use mathlib.Core.Path.{◌∙◌}
use Rattle.machine.specs.Storage.{placed}
use Rattle.commit.proofs.Pasted.{length_copied}
use Rattle.commit.proofs.words.copy_words.Goals as goal

pub returns : goal.returns
unfolding placed
returns c =
    let a = c.args in
    let few : a.from + a.n - a.from ≡ a.n = omega arith in
    c.copy_within.ensures.after ∙ rw (few, length_copied a.storage.now a.from a.n c.requires.1, append_assoc) refl
