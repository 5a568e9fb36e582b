-- `layout::reading::read_state` meets its contract: width, core and map, each read as the definition has it, make the state (`state_read`).
-- Assumes nothing.
use native.Mathlib.Omega.{arith}
use mathlib.Core.Path.{sym, ◌∙◌}
use lib.ListN.{length-drop}
use Prim.Native.Nat.{ℕ}
use Rattle.layout.proofs.Widths.{bytes_are}
use Rattle.layout.proofs.Told.{state_read}
use Rattle.layout.proofs.reading.read_state.Goals as goal

pub returns : goal.returns
returns c =
    state_read c.args.bytes.now c.width_at.ensures c.core_at-core.ensures
    (c.copy_from_slice.ensures.after ∙ sym (bytes_are 4096 _ (omega (arith, c.requires, length-drop {A = ℕ} 2579 c.args.bytes.now))))
