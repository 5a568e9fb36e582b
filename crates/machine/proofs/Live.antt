-- The live blocks of a sound engine: in the set-up words, and of the sizes 1, 2, 4 .. d.
-- Assumes nothing.
use Prim.Native.Nat.{ℕ, ◌+◌, ◌≤◌}
use mathlib.Core.Bool.{true, not}
use mathlib.Core.List.Memᴰ
use mathlib.Core.List.{List, Memᴰ}
use mathlib.Core.Logic.{◌⊎◌, inl, inr}
use mathlib.Core.Path.{◌≡◌, subst}
use lib.Dec.{eqb}
use lib.ListN.{length}
use Rattle.block.specs.declared.SetUp.{SetUp}
use Rattle.block.specs.Blocks.{Block, size, size_at}
use Rattle.block.specs.SetUp.{top, words, fitting, absent}
use Rattle.block.specs.Map.{live}
use Rattle.block.proofs.Size.{absent_facts}
use Rattle.block.proofs.Map.{live_none}
use Rattle.block.proofs.Each.{each_mem}
use Rattle.block.proofs.Tiling.{Lies, map_each, size_at_mem}
use Rattle.machine.specs.declared.State.{State}
use Rattle.machine.proofs.Checks.{or_parts, nonzero}
use Rattle.machine.proofs.Facts.{StorageFacts}

module _ (b : ℕ) (s : State) (storage : List ℕ) (h : StorageFacts b s storage) where
  -- where there is a live block, the set-up numbers fit
  pub live_fits : (x : Block) → Memᴰ x (live s.core.setup s.map) → fitting (length storage) s.core.setup ≡ true
  live_fits x m = go (or_parts _ _ h.numbers)
    where
      u : SetUp
      u = s.core.setup

      go : (fitting (length storage) u ≡ true) ⊎ (absent u ≡ true) → fitting (length storage) u ≡ true
      go (inl f) = f
      go (inr a) = absurd (Memᴰ.not-nil (subst (Memᴰ x) (live_none u s.map (absent_facts u a).count) m))

  -- a live block lies in the set-up words
  pub live_lies : (x : Block) → Memᴰ x (live s.core.setup s.map)
      → Lies (top s.core.setup.d) s.core.setup.s1 (s.core.setup.s1 + words s.core.setup) x
  live_lies x m = each_mem (map_each (length storage) s.core.setup (live_fits x m) s.map) (Memᴰ.append_left _ m)

  -- the size of a live block is one of the sizes
  pub live_size : (a : ℕ) → not (eqb (size_at a (live s.core.setup s.map)) 0) ≡ true
      → (j : ℕ) × (j ≤ top s.core.setup.d) × (size_at a (live s.core.setup s.map) ≡ size j)
  live_size a k = (live_lies _ (size_at_mem a (live s.core.setup s.map) (nonzero _ k))).place
