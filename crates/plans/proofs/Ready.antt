-- A sound engine has what a plan relies on. Assumes nothing.
use Prim.Native.Nat.{ℕ, ◌≤◌}
use mathlib.Core.Bool.{true, ◌&&◌}
use mathlib.Core.Path.{◌≡◌}
use borrow.Author.Tests.{leb-true}
use lib.Dec.{leb}
use lib.ListN.{length}
use Rattle.word.proofs.Tests.{and_true as and_parts}
use Rattle.machine.specs.Sound.{Lent, Engine, sound_engine, sound}
use Rattle.machine.proofs.Facts.{sound_facts}
use Rattle.operands.proofs.Readable.{sound_readable}
use Rattle.operations.specs.Seen.{sight, Ready}

pub ready_is : (b : ℕ) (l : Lent) (e : Engine) → sound b l e ≡ true → b ≤ 48 → Ready b (sight l e)
unfolding sound
ready_is b l e s narrow =
    let input = leb e.state.core.taken (length l.input) in
    let output = leb e.state.core.written (length l.output) in
    let (k, written) = and_parts (sound_engine b e && input) output s in
    let (own, taken) = and_parts (sound_engine b e) input k in
    record {
      readable = sound_readable b e narrow own;
      contents = (sound_facts b e own).core.contents.few;
      taken = leb-true _ _ taken;
      written = leb-true _ _ written;
    }
