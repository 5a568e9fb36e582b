-- A tour that is played from a fresh engine leaves a sound state, so what is listed are the blocks of its map. Assumes nothing.
use Prim.Native.Nat.{ℕ, ◌≤◌}
use native.Mathlib.Omega.{arith}
use mathlib.Core.Bool.{true, ◌&&◌}
use mathlib.Core.List.{List}
use mathlib.Core.Logic.{◌⊎◌, inl, inr}
use mathlib.Core.Path.{◌≡◌}
use lib.Dec.{leb}
use lib.ListN.{length}
use Rattle.word.proofs.Tests.{and_true}
use Rattle.block.specs.declared.SetUp.{SetUp}
use Rattle.block.specs.SetUp.{top, words, fitting, absent}
use Rattle.block.specs.Map.{trees}
use Rattle.block.proofs.Size.{fitting_facts, absent_facts}
use Rattle.machine.specs.Sound.{Engine, Lent, sound_engine, sound}
use Rattle.machine.specs.State.{fresh}
use Rattle.machine.specs.Step.{run, engine_ran}
use Rattle.machine.proofs.Checks.{or_parts}
use Rattle.machine.proofs.Facts.{sound_facts}
use Rattle.machine.proofs.Starting.{fresh_sound}
use Rattle.machine.proofs.Soundness.{run_keeps_sound, lent_ran}
use Rattle.operands.proofs.Readable.{numbers}
use Rattle.tour.specs.Tour.{played}
use Rattle.inventory.specs.Inventory.{storage_text}
use Rattle.inventory.proofs.Trees.{forest_text, blocks_listed}

-- set-up numbers that fit, or that are absent, set up few words
few_words : (lent : ℕ) (u : SetUp) → (fitting lent u ≡ true) ⊎ (absent u ≡ true) → words u ≤ 4096
few_words lent u (inl f) = (fitting_facts lent u f).few
few_words lent u (inr a) = omega (arith, (absent_facts u a).count)

-- what is listed of a sound engine
pub sound_listed : (b : ℕ) (e : Engine) → sound_engine b e ≡ true
    → storage_text e.state.core.setup e.state.map e.storage
    ≡ forest_text e.state.core.setup.s1 e.storage (top e.state.core.setup.d) 0 (trees e.state.core.setup e.state.map)
sound_listed b e good =
    let facts = (sound_facts b e good).storage in
    let fits = or_parts (fitting (length e.storage) e.state.core.setup) (absent e.state.core.setup) facts.numbers in
    blocks_listed e.state.core.setup e.state.map e.storage (numbers (length e.storage) e.state.core.setup fits).whole
    facts.blocks (few_words (length e.storage) e.state.core.setup fits)

-- a played tour is sound
engine_sound : (b : ℕ) (l : Lent) (e : Engine) → sound b l e ≡ true → sound_engine b e ≡ true
unfolding sound
engine_sound b l e good =
    let input = leb e.state.core.taken (length l.input) in
    let output = leb e.state.core.written (length l.output) in
    (and_true (sound_engine b e) input (and_true (sound_engine b e && input) output good).0).0

played_sound : (tab stops : List ℕ) → sound_engine (played tab stops).ran.state.width (engine_ran (played tab stops)) ≡ true
unfolding played run engine_ran lent_ran fresh
played_sound tab stops = engine_sound _ _ _ (run_keeps_sound 0 100000 _ _ (fresh_sound 36 _ _))

-- so tourlist lists the blocks of what a tour leaves
pub tour_listed : (tab stops : List ℕ)
    → storage_text (played tab stops).ran.state.core.setup (played tab stops).ran.state.map (played tab stops).storage
    ≡ forest_text (played tab stops).ran.state.core.setup.s1 (played tab stops).storage (top (played tab stops).ran.state.core.setup.d) 0
    (trees (played tab stops).ran.state.core.setup (played tab stops).ran.state.map)
unfolding engine_ran
tour_listed tab stops = sound_listed (played tab stops).ran.state.width (engine_ran (played tab stops)) (played_sound tab stops)
