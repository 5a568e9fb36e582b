-- The live blocks of a tree lie in its words. Assumes nothing.
use mathlib.Core.List.{List, [], ◌∷◌}
use Prim.Native.Nat.{ℕ, zero, suc, ◌+◌, ◌*◌, ◌≤◌, ◌<◌}
use native.Mathlib.Nat.{le_refl}
use native.Mathlib.Omega.{arith}
use lib.ListN.{length}
use Rattle.block.specs.Blocks.{size, Block, Tree, Free, Live, Halves, live_in, gathered}
use Rattle.block.proofs.Size.{size_pos, size_suc}
use Rattle.block.proofs.Each.{Each, each_nil, each_cons, each_append, each_map}

-- a block lies from a to before b
pub record Within (a b : ℕ) (x : Block) : Type 0 where
  pub first : a ≤ x.address
  pub last : x.address + x.size ≤ b
  pub positive : 0 < x.size

-- so it does in what is wider
pub within_wider : {a b c d : ℕ} → c ≤ a → b ≤ d → (x : Block) → Within a b x → Within c d x
within_wider l h x w = record { first = omega arith; last = omega arith; positive = w.positive }

-- the live blocks of a tree
pub live_within : (k at : ℕ) (t : Tree) → Each (Within at (at + size k)) (live_in k at t)
unfolding live_in
live_within k at Free = each_nil
live_within k at Live = each_cons (record { first = le_refl at; last = le_refl (at + size k); positive = size_pos k }) each_nil
live_within zero at (Halves l r) = each_nil
live_within (suc k) at (Halves l r) =
    let e = size_suc k in
    each_append
    (each_map (within_wider (le_refl at) (omega arith)) (live_within k at l))
    (each_map (within_wider (omega arith) (omega arith)) (live_within k (at + size k) r))

-- and of one tree after the other
pub all_within : (k at : ℕ) (ts : List Tree) → Each (Within at (at + length ts * size k)) (gathered (live_in k) k at ts)
unfolding gathered
all_within k at [] = each_nil
all_within k at (t ∷ ts) =
    each_append
    (each_map (within_wider (le_refl at) (omega arith)) (live_within k at t))
    (each_map (within_wider (omega arith) (omega arith)) (all_within k (at + size k) ts))
