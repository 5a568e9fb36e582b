-- What references read once a delivery is carried out. Assumes nothing.
use Rattle.std.specs.Prelude.{ℕ, ◌-◌, ◌≤◌, ◌≡◌, true, length, replicate}
use mathlib.Core.List.{Memᴰ}
use Rattle.block.specs.Blocks.{size, level}
use Rattle.block.specs.SetUp.{top, fitting, runs}
use Rattle.block.specs.Map.{live, delivered_map}
use Rattle.machine.specs.declared.Location.{Location}
use Rattle.machine.specs.Storage.{placed}
use Rattle.machine.specs.Locate.{World}
use Rattle.operands.specs.declared.Delivery.{Delivery}
use Rattle.operands.specs.Locating.{located}
use Rattle.operands.specs.Reading.{Reached}
use Rattle.operands.specs.Storing.{words_stored}

-- a block by its address and size, and the location where its address is stored
pub record Delivered : Type 0 where
  pub address : ℕ
  pub size : ℕ
  pub at : Location

-- as code has it
abbrev pub delivered : Delivery → Delivered
delivered d = record { address = d.address; size = d.size; at = located d.at }

-- the block's words are zero and the block is live, and its address is stored; the bugs are lent as they then are
unfoldable pub through : ℕ → Delivered → World → World
through b d w =
    record {
      bugs = w.bugs;
      definitions = w.definitions;
      setup = w.setup;
      map = delivered_map (level (top w.setup.d) d.size) d.address w.setup w.map;
      storage =
          words_stored b w.setup.s1 d.at d.address
          (placed (d.address - w.setup.s1) (replicate d.size 0) w.storage);
    }

-- a delivery that can be carried out: an aligned run of one of the sizes outside the live blocks, and a location that can be
-- reached
pub record Deliverable (b : ℕ) (w : World) (address n : ℕ) (at : Location) : Type 0 where
  pub fits : fitting (length w.storage) w.setup ≡ true
  pub place : ℕ
  pub low : place ≤ top w.setup.d
  pub is_size : n ≡ size place
  pub is_run : Memᴰ address (runs n w.setup (live w.setup w.map))
  pub reached : Reached b w.setup.s1 w.storage at
