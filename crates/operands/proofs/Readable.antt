-- What code that follows references relies on: a sound engine has it, and where a reference leads can be read.
-- Assumes nothing.
use Prim.Native.Nat.{ℕ, ◌%◌, ◌≤◌}
use native.Mathlib.Nat.{zero-mod}
use native.Mathlib.Omega.{arith}
use mathlib.Core.Bool.{true, ◌||◌}
use mathlib.Core.List.{List, [], ◌∷◌}
use mathlib.Core.Logic.{◌⊎◌, inl, inr}
use mathlib.Core.Path.{◌≡◌, subst}
use lib.ListN.{length}
use Rattle.block.specs.declared.SetUp.{SetUp}
use Rattle.block.specs.Blocks.{size}
use Rattle.block.specs.SetUp.{top, words, fitting, absent}
use Rattle.block.proofs.Size.{fitting_facts, absent_facts}
use Rattle.block.proofs.Change.{words_whole}
use Rattle.table.specs.declared.FieldName.{FieldName}
use Rattle.table.specs.declared.Pair.{Pair}
use Rattle.table.specs.Reference.{is_reference}
use Rattle.table.proofs.InRange.{bug_in}
use Rattle.machine.specs.declared.Location.{Location}
use Rattle.machine.specs.Answer.{passed}
use Rattle.machine.specs.Sound.{Engine, sound_engine}
use Rattle.machine.specs.Locate.{World, world, follow, locate}
use Rattle.operands.specs.Reading.{leads, Readable, Reached}
use Rattle.machine.proofs.Checks.{or_parts, bind_passed, passed_same}
use Rattle.machine.proofs.Facts.{sound_facts}
use Rattle.operands.proofs.Follows.{link_reached, bug_reached}

-- what the set-up numbers of a sound engine give
pub record Numbers (lent : ℕ) (u : SetUp) : Type 0 where
  pub first : u.s1 ≤ 32767
  pub last : u.s2 ≤ 32767
  pub whole : words u % size (top u.d) ≡ 0
  pub room : words u ≤ lent

pub numbers : (lent : ℕ) (u : SetUp) → (fitting lent u ≡ true) ⊎ (absent u ≡ true) → Numbers lent u
numbers lent u (inl f) =
    let k = fitting_facts lent u f in
    record { first = omega (arith, k.order, k.last); last = k.last; whole = words_whole lent u f; room = k.lies }
numbers lent u (inr a) =
    let k = absent_facts u a in
    record { first = omega (arith, k.first); last = omega (arith, k.last); whole = rw k.count (zero-mod _); room = omega (arith, k.count) }

-- numbers that fit, or that are absent, leave room for the words
pub numbers_room : (lent : ℕ) (u : SetUp) → (fitting lent u || absent u) ≡ true → words u ≤ lent
numbers_room lent u h = (numbers lent u (or_parts _ _ h)).room

pub sound_readable : (b : ℕ) (e : Engine) → b ≤ 48 → sound_engine b e ≡ true → Readable b (world e)
unfolding world
sound_readable b e narrow s =
    let h = sound_facts b e s in
    let k = numbers (length e.storage) e.state.core.setup (or_parts _ _ h.storage.numbers) in
    record {
      width = narrow;
      numbers = h.storage.numbers;
      first = k.first;
      last = k.last;
      whole = k.whole;
      kept = h.storage.blocks;
      room = k.room;
      definitions = h.core.definitions;
      bugs = h.core.bugs;
    }

module _ (b : ℕ) (w : World) (h : Readable b w) where
  follow_reached : (at : Location) (fs : List FieldName) (to : Location) → Reached b w.setup.s1 w.storage at → follow b w at fs ≡ passed to
      → Reached b w.setup.s1 w.storage to
  unfolding follow
  follow_reached at [] to r k = subst (Reached b w.setup.s1 w.storage) (passed_same k) r
  follow_reached at (f ∷ fs) to r k =
      let (next, k₁, k₂) = bind_passed _ _ k in follow_reached next fs to (link_reached b w h _ f next k₁) k₂

  pub locate_reached : (p : Pair) → is_reference p.value ≡ true → (at : Location) → locate b w p ≡ passed at → Reached b w.setup.s1 w.storage at
  unfolding locate
  locate_reached p is at k = follow_reached _ _ at (bug_reached _ _ _ _ (bug_in p.value is)) k

  pub leads_reached : (v : ℕ) → is_reference v ≡ true → {at : Location} → leads b w v ≡ passed at → Reached b w.setup.s1 w.storage at
  unfolding leads
  leads_reached v is {at} k = follow_reached _ _ at (bug_reached _ _ _ _ (bug_in v is)) k
