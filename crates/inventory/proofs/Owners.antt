-- The tag of the block that a word lies in, looked for from its place down. Assumes nothing.
use Prim.Native.Nat.{ℕ, zero, suc, ◌-◌, ◌<◌}
use native.Mathlib.Omega.{arith}
use mathlib.Core.List.{List}
use mathlib.Core.Path.{◌≡◌, refl, ap}
use borrow.Author.Tests.{eq-eqb, ne_eqb}
use lib.ListN.{get_or}
use Rattle.inventory.specs.Inventory.{owner}

pub owner_here : (m : List ℕ) (i : ℕ) → (get_or m i 0 ≡ 0 → ⊥) → owner m i ≡ get_or m i 0
unfolding owner
owner_here m zero some = refl
owner_here m (suc i) some = rw (ne_eqb (get_or m (suc i) 0) 0 some)

pub owner_before : (m : List ℕ) (i : ℕ) → 0 < i → get_or m i 0 ≡ 0 → owner m i ≡ owner m (i - 1)
unfolding owner
owner_before m zero h none = absurd (omega arith)
owner_before m (suc i) h none =
    let less : i ≡ suc i - 1 = omega arith in rw (eq-eqb (get_or m (suc i) 0) 0 none) (ap (owner m) less)

pub owner_first : (m : List ℕ) (i : ℕ) → i ≡ 0 → owner m i ≡ get_or m 0 0
unfolding owner
owner_first m i none = ap (owner m) none
