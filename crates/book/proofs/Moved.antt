-- The live blocks after the effects of a step: without the one freed, or with the one delivered.
-- Assumes nothing.
use Prim.Native.Nat.{ℕ}
use native.Mathlib.Omega.{arith}
use mathlib.Core.Bool.{true}
use mathlib.Core.List.{List, Memᴰ}
use mathlib.Core.Path.{◌≡◌, ap, sym, ◌∙◌}
use lib.ListN.{length}
use Rattle.block.specs.declared.SetUp.{SetUp}
use Rattle.block.specs.Blocks.{size_at, start, inserted}
use Rattle.block.specs.SetUp.{fitting}
use Rattle.block.specs.Map.{live, freed_map, delivered_map}
use Rattle.block.proofs.Size.{fitting_facts}
use Rattle.block.proofs.Tiling.{size_at_mem}
use Rattle.block.proofs.Delivered.{delivered_live_map}
use Rattle.machine.specs.declared.Report.{Report}
use Rattle.machine.specs.Sound.{Engine}
use Rattle.machine.specs.Effects.{Effects}
use Rattle.machine.proofs.Checks.{nonzero}
use Rattle.machine.proofs.Facts.{Facts}
use Rattle.machine.proofs.Live.{live_fits, live_lies}
use Rattle.machine.proofs.Moves.{Frees, Delivers}
use Rattle.machine.proofs.Keeps.{delivery_fits}
use Rattle.book.specs.Book.{without}
use Rattle.book.proofs.Maps.{freed_live_map}

module _ (b : ℕ) (e : Engine) (h : Facts b e) (x : Effects) where
  abbrev u : SetUp
  u = e.state.core.setup

  abbrev m : List ℕ
  m = e.state.map

  abbrev r : Report
  r = x.report

  module _ (f : Frees b u m x) where
    pub is_live_of : size_at r.freed (live u m) ≡ 0 → ⊥
    is_live_of = nonzero _ f.is_live_of

    the_block : Memᴰ (record { address = r.freed; size = size_at r.freed (live u m) }) (live u m)
    the_block = size_at_mem r.freed (live u m) is_live_of

    pub freed_fits : fitting (length e.storage) u ≡ true
    freed_fits = live_fits b e.state e.storage h.storage _ the_block

    pub freed_some : r.freed ≡ 0 → ⊥
    freed_some z =
        let low = (live_lies b e.state e.storage h.storage _ the_block).first in
        let pos = (fitting_facts _ u freed_fits).first in
        absurd (omega arith)

    -- the live blocks are those before without the one freed
    pub gone_live : live u (freed_map r.freed u m) ≡ without start r.freed (live u m)
    gone_live = freed_live_map _ u freed_fits m h.storage.blocks r.freed is_live_of

  module _ (d : Delivers b u m x) where
    -- the live blocks are those before and the new one
    pub new_live : live u (delivered_map d.level r.delivered u m) ≡ inserted start (record { address = r.delivered; size = r.size }) (live u m)
    new_live =
        delivered_live_map _ u (delivery_fits b e h x d) m h.storage.blocks d.level r.delivered d.level_fits d.is_run
        ∙ ap (λ (n : ℕ). inserted start (record { address = r.delivered; size = n }) (live u m)) (sym d.size)
