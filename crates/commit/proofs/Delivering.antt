-- A run that can be delivered: where it lies, and what its words are afterwards. Assumes nothing.
use Rattle.std.specs.Prelude.{◌≡◌, ℕ, ◌+◌, ◌-◌, ◌<◌, ◌≤◌, ◌⊎◌, List, [], ◌∷◌, length, take, drop, replicate}
use native.Mathlib.Omega.{arith}
use mathlib.Core.List.{Memᴰ}
use mathlib.Core.Logic.{inl, inr}
use mathlib.Core.Path.{sym, ap, ◌∙◌}
use borrow.Author.Tests.{eq-eqb, ne_eqb}
use Rattle.std.specs.Prelude.{Some}
use Rattle.block.specs.Blocks.{size, level}
use Rattle.block.specs.SetUp.{top, words, runs}
use Rattle.block.specs.Map.{live, delivered_map}
use Rattle.buddy.specs.Lowest.{first_of}
use Rattle.block.proofs.Size.{size_pos, level_le, level_size, fitting_facts}
use Rattle.block.proofs.Runs.{runs_sound}
use Rattle.machine.specs.Answer.{passed}
use Rattle.machine.specs.Storage.{placed}
use Rattle.machine.specs.Operations.{first_run_of, lowest_run}
use Rattle.machine.proofs.Checks.{passed_same}
use Rattle.commit.specs.Carried.{zeroed, copied}
use Rattle.commit.specs.Feasible.{Ground, ground_of, Run, Copy}

-- the lowest of a list is its first, and one of it
first_lowest : (rs : List ℕ) (a : ℕ) → first_run_of rs ≡ passed a → (first_of rs ≡ Some a) × Memᴰ a rs
unfolding first_run_of first_of
first_lowest [] a e = let z : ◌≡◌ {A = ℕ} 0 1 = cc in absurd (omega arith)
first_lowest (r ∷ rs) a e = let same : r ≡ a = passed_same e in (ap Some same, Memᴰ.head (sym same))

-- a run by the set-up numbers and the map alone
pub same_run : (g : Ground) {address n : ℕ} → Run g address n → Run (ground_of g.setup g.map g.storage) address n
same_run g r = record { fits = r.fits; place = r.place; low = r.low; is_size = r.is_size; is_lowest = r.is_lowest }

pub same_copy : (g : Ground) {address n from : ℕ} → Copy g address n from → Copy (ground_of g.setup g.map g.storage) address n from
same_copy g c = record { low = c.low; high = c.high; clear = c.clear }

module _ (g : Ground) {address n : ℕ} (r : Run g address n) where
  found : (first_of (runs n g.setup (live g.setup g.map)) ≡ Some address) × Memᴰ address (runs n g.setup (live g.setup g.map))
  found = first_lowest _ address (unfold lowest_run in r.is_lowest)

  -- where it lies
  lies : (g.setup.s1 ≤ address) × (address + n ≤ g.setup.s1 + words g.setup) × (0 < n)
  lies =
      let some : 0 < n = rw r.is_size (size_pos r.place) in
      let (first, last, _, _) = runs_sound n g.setup _ some found.1 in
      (first, last, some)

  pub run_low : g.setup.s1 ≤ address
  run_low = lies.0

  pub run_inside : address < g.setup.s1 + words g.setup
  run_inside = let (first, last, some) = lies in omega arith

  pub run_lies : address + n ≤ g.setup.s1 + length g.storage
  run_lies = let (first, last, some) = lies in omega (arith, (fitting_facts (length g.storage) g.setup r.fits).lies)

  pub copy_lies : {from : ℕ} → Copy g address n from
      → (g.setup.s1 ≤ from) × (from + n ≤ g.setup.s1 + length g.storage) × ((from + n ≤ address) ⊎ (address + n ≤ from))
  copy_lies c = (c.low, omega (arith, c.high, (fitting_facts (length g.storage) g.setup r.fits).lies), c.clear)

  -- the place of its size
  module _ {k j : ℕ} (ek : k ≡ top g.setup.d) (ej : j ≡ level k n) where
    pub run_level : j ≡ level (top g.setup.d) n
    run_level = rw ek at ej

    pub run_small : j ≤ top g.setup.d
    run_small = rw run_level (level_le (top g.setup.d) n)

    pub run_first : first_of (runs (size j) g.setup (live g.setup g.map)) ≡ Some address
    run_first =
        let place : j ≡ r.place = run_level ∙ rw r.is_size (level_size (top g.setup.d) r.low) in
        let is : size j ≡ n = rw place (sym r.is_size) in
        rw is found.0

    pub run_delivered : {l : List ℕ} → l ≡ delivered_map j address g.setup g.map
        → l ≡ delivered_map (level (top g.setup.d) n) address g.setup g.map
    run_delivered e = rw run_level at e

-- the words of a block, zeroed and copied
module _ (s1 address n from : ℕ) (ws z : List ℕ) (none : z ≡ placed (address - s1) (replicate n 0) ws) where
  pub filled_zero : from ≡ 0 → z ≡ copied s1 address n from (zeroed s1 address n ws)
  unfolding copied zeroed
  filled_zero e = rw (eq-eqb from 0 e) none

  pub filled_copy : (from ≡ 0 → ⊥) → {r : List ℕ} → r ≡ placed (address - s1) (take n (drop (from - s1) z)) z
      → r ≡ copied s1 address n from (zeroed s1 address n ws)
  unfolding copied zeroed
  filled_copy e is = rw (ne_eqb from 0 e) (rw none at is)

-- a block that is copied, by places in the storage
pub copy_room : (s1 address n from long : ℕ) → s1 ≤ address → address + n ≤ s1 + long
    → (s1 ≤ from) × (from + n ≤ s1 + long) × ((from + n ≤ address) ⊎ (address + n ≤ from))
    → (address - s1 + n ≤ long) × (from - s1 + n ≤ long) × ((from - s1 + n ≤ address - s1) ⊎ (address - s1 + n ≤ from - s1))
copy_room s1 address n from long low high c = (omega arith, omega (arith, c.0, c.1), apart c.2)
  where
    apart : (from + n ≤ address) ⊎ (address + n ≤ from) → (from - s1 + n ≤ address - s1) ⊎ (address - s1 + n ≤ from - s1)
    apart (inl before) = inl (omega (arith, c.0))
    apart (inr after) = inr (omega (arith, c.0))
