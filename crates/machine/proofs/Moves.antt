-- What the effects of a step are to the blocks: none changes, one is freed, one is delivered; and where the stores go.
-- Assumes nothing.
use Prim.Native.Nat.{ℕ, ◌+◌, ◌≤◌, ◌<◌}
use mathlib.Core.Bool.{true, not}
use mathlib.Core.List.{List, Memᴰ}
use mathlib.Core.Logic.{◌⊎◌}
use mathlib.Core.Path.{◌≡◌}
use lib.Dec.{eqb}
use lib.ListN.{length}
use Rattle.block.specs.declared.SetUp.{SetUp}
use Rattle.block.specs.Blocks.{Block, size, size_at}
use Rattle.block.specs.SetUp.{top, words, fitting, runs}
use Rattle.block.specs.Map.{live, fresh_map, freed_map, delivered_map}
use Rattle.machine.specs.Storage.{no_store_of, no_report}
use Rattle.machine.specs.Sound.{Engine}
use Rattle.machine.specs.Effects.{Effects}
use Rattle.machine.proofs.Facts.{CoreFacts}
use Rattle.machine.proofs.Located.{StoreFacts}

-- the live blocks after the effects
abbrev pub live_after : Effects → List Block
live_after x = live x.state.core.setup x.state.map

-- no block changes; stores go into live blocks
pub record Still (b : ℕ) (u : SetUp) (m : List ℕ) (x : Effects) : Type 0 where
  pub setup : x.state.core.setup ≡ u
  pub map : x.state.map ≡ m
  pub freed : x.report.freed ≡ 0
  pub delivered : x.report.delivered ≡ 0
  pub size : x.report.size ≡ 0
  pub copied : x.report.copied ≡ 0
  pub zeroed : x.zeroed ≡ 0
  pub first : StoreFacts b (live u m) x.report.first
  pub second : StoreFacts b (live u m) x.report.second

-- a live block is freed; the store goes into another live block
pub record Frees (b : ℕ) (u : SetUp) (m : List ℕ) (x : Effects) : Type 0 where
  pub setup : x.state.core.setup ≡ u
  pub is_live_of : not (eqb (size_at x.report.freed (live u m)) 0) ≡ true
  pub map : x.state.map ≡ freed_map x.report.freed u m
  pub delivered : x.report.delivered ≡ 0
  pub size : x.report.size ≡ 0
  pub copied : x.report.copied ≡ 0
  pub zeroed : x.zeroed ≡ 0
  pub first : StoreFacts b (live u m) x.report.first
  pub clear : (x.report.first.address ≡ 0)
      ⊎ ((x.report.first.address < x.report.freed)
      ⊎ (x.report.freed + size_at x.report.freed (live u m) ≤ x.report.first.address))
  pub second : x.report.second ≡ no_store_of

-- a run is delivered, perhaps as a copy of a live block of its size; stores go into live blocks
pub record Delivers (b : ℕ) (u : SetUp) (m : List ℕ) (x : Effects) : Type 0 where
  pub setup : x.state.core.setup ≡ u
  pub freed : x.report.freed ≡ 0
  pub level : ℕ
  pub level_fits : level ≤ top u.d
  pub size : x.report.size ≡ size level
  pub is_run : Memᴰ x.report.delivered (runs (Rattle.block.specs.Blocks.size level) u (live u m))
  pub is_lowest : (a : ℕ) → Memᴰ a (runs (Rattle.block.specs.Blocks.size level) u (live u m)) → x.report.delivered ≤ a
  pub map : x.state.map ≡ delivered_map level x.report.delivered u m
  pub copied : (x.report.copied ≡ 0)
      ⊎ ((not (eqb (size_at x.report.copied (live u m)) 0) ≡ true) × (size_at x.report.copied (live u m) ≡ x.report.size))
  pub zeroed : x.zeroed ≡ 0
  pub first : StoreFacts b (live u m) x.report.first
  pub second : StoreFacts b (live_after x) x.report.second

-- what an operation but the set-up does
pub data Moves (b : ℕ) (u : SetUp) (m : List ℕ) (x : Effects) : Type 0 where
  still : Still b u m x → Moves b u m x
  frees : Frees b u m x → Moves b u m x
  delivers : Delivers b u m x → Moves b u m x

-- what a set-up does, with this storage and map before it
pub record SetsUp (storage m : List ℕ) (u : SetUp) (x : Effects) : Type 0 where
  pub fits : fitting (length storage) u ≡ true
  pub setup : x.state.core.setup ≡ u
  pub map : x.state.map ≡ fresh_map u (length m)
  pub report : x.report ≡ no_report
  pub zeroed : x.zeroed ≡ words u

-- the core stays sound, and the blocks move so
pub record Did (b : ℕ) (u : SetUp) (m : List ℕ) (x : Effects) : Type 0 where
  pub core : CoreFacts b x.state.core
  pub moves : Moves b u m x

-- the same, of an engine
abbrev pub Done : ℕ → Engine → Effects → Type 0
Done b e x = Did b e.state.core.setup e.state.map x
