-- A location that is no field at address zero: what a store there leaves of the storage, and what references read after a delivery whose
-- address is stored there. Assumes nothing.
use Prim.Native.Nat.{ℕ, ◌-◌}
use native.Mathlib.Omega.{arith}
use mathlib.Core.List.{List}
use mathlib.Core.Path.{◌≡◌, refl, ap, ◌∙◌}
use lib.ListN.{replicate}
use Rattle.block.specs.Blocks.{level}
use Rattle.block.specs.SetUp.{top}
use Rattle.block.specs.Map.{delivered_map}
use Rattle.block.proofs.Size.{fitting_facts}
use Rattle.machine.specs.declared.Location.{Location}
use Rattle.machine.specs.declared.Location.TheVariants.{Bug, Field}
use Rattle.machine.specs.State.{with_bug, on_core, with_map}
use Rattle.machine.specs.Storage.{no_store_of, placed, with_store, with_delivery, with_copy, after_report}
use Rattle.machine.specs.Sound.{Engine}
use Rattle.machine.specs.Locate.{World, world, live_blocks}
use Rattle.machine.specs.Effects.{reporting, assigned, storage_after, engine_after}
use Rattle.machine.specs.Operations.{delivering}
use Rattle.machine.proofs.Facts.{Facts}
use Rattle.machine.proofs.Located.{Located}
use Rattle.machine.proofs.Live.{live_fits, live_lies}
use Rattle.machine.proofs.Keeps.{not_zeroed}
use Rattle.operands.proofs.Reported.{NotNull, store_words}
use Rattle.operands.specs.Storing.{bugs_stored, words_stored}
use Rattle.operands.specs.Through.{through}
use Rattle.operations.specs.Plans.{after_delivery}

-- what a reference leads to is not at address zero
pub not_null : (b : ℕ) (e : Engine) → Facts b e → (at : Location) → Located b (live_blocks e) at → NotNull at
unfolding Located NotNull
not_null b e h (Bug x) l = tt
not_null b e h (Field address left right) l =
    let block = l.1 in
    let fits = fitting_facts _ _ (live_fits b e.state e.storage h.storage block.block block.is_one) in
    let lies = live_lies b e.state e.storage h.storage block.block block.is_one in
    omega (arith, fits.first, lies.first, block.low)

-- what references read after a delivery
module _ (b : ℕ) (e : Engine) (address n : ℕ) where
  stored_after : (at : Location) → NotNull at
      → storage_after b (delivering b (record { a = at; words = n; copied = 0 }) address e.state) e.storage
      ≡ words_stored b (assigned b at address e.state.core).setup.s1 at address
      (placed (address - (assigned b at address e.state.core).setup.s1) (replicate n 0) e.storage)
  unfolding delivering reporting on_core with_map after_report with_copy with_delivery with_store no_store_of
  stored_after at h =
      not_zeroed b (delivering b (record { a = at; words = n; copied = 0 }) address e.state) e.storage refl
      ∙ store_words b _ at address _ h

  -- with this storage and these bugs
  abbrev read_with : List ℕ → List ℕ → World
  read_with bugs storage =
      record {
        bugs = bugs;
        definitions = e.state.core.definitions;
        setup = e.state.core.setup;
        map = delivered_map (level (top e.state.core.setup.d) n) address e.state.core.setup e.state.map;
        storage = storage;
      }

  pub after_delivery_lem : (at : Location) → NotNull at
      → world (engine_after b (delivering b (record { a = at; words = n; copied = 0 }) address e.state) e) ≡ after_delivery b address n at (world e)
  unfolding world engine_after delivering reporting on_core with_map assigned with_bug after_delivery through bugs_stored
  after_delivery_lem (Bug x) h = ap (read_with (bugs_stored b (Bug x) address e.state.core.bugs)) (stored_after (Bug x) h)
  after_delivery_lem (Field word left right) h = ap (read_with e.state.core.bugs) (stored_after (Field word left right) h)
