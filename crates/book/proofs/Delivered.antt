-- A run delivered: the free blocks of the trees are then the book's after the halving. Assumes nothing.
use mathlib.Core.Path.{◌≡◌, refl}
use mathlib.Core.List.{List, [], ◌∷◌}
use Prim.Native.Nat.{ℕ, zero, suc, ◌+◌, ◌/◌, ◌≤◌, ◌<◌}
use native.Mathlib.Nat.{le_refl}
use native.Mathlib.Omega.{arith}
use borrow.Author.Tests.{lt-ltb, le-ltb, le-leb, eq-eqb}
use Rattle.block.specs.Blocks.{size, Block, Tree, Free, Live, Halves, free_in, delivered, gathered, changed, start, around}
use Rattle.word.proofs.Tests.{either_way}
use Rattle.block.proofs.Size.{size_suc, size_pos, size_mono}
use Rattle.block.proofs.Local.{free_reads}
use Rattle.block.proofs.Delivered.{Room, forest_delivered}
use Rattle.book.specs.Book.{without, times, lower, upper, halved_once}
use Rattle.book.proofs.Local.{local_after, local_times, times_fixed, local_without, local_halved}

-- a block no larger than wanted is not halved
halved_small : (a n : ℕ) (x : Block) → x.size ≤ n → halved_once a n (x ∷ []) ≡ x ∷ []
unfolding halved_once
halved_small a n x l = rw (le-ltb n x.size l) (either_way (λ xs. xs ≡ x ∷ []) (around a x) refl refl)

-- and is taken out whole
taken_out : (j a m : ℕ) → free_in j a Live ≡ without start a (times m (halved_once a (size j)) (free_in j a Free))
unfolding free_in without start
taken_out j a m =
    let kept = times_fixed m (halved_once a (size j)) _ (halved_small a (size j) (record { address = a; size = size j }) (le_refl (size j))) in
    rw (kept, eq-eqb a a refl)

-- a larger one is halved
halved_large : (a n k at : ℕ) → n < size (suc k) → at ≤ a → a < at + size (suc k)
    → halved_once a n (free_in (suc k) at Free) ≡ free_in (suc k) at (Halves Free Free)
unfolding halved_once around lower upper free_in
halved_large a n k at l low high =
    let half : size (suc k) / 2 ≡ size k = omega (arith, size_suc k) in
    rw (le-leb at a low, lt-ltb a (at + size (suc k)) high, lt-ltb n (size (suc k)) l, half)

-- there are at most as many halvings as words
size_above : (k : ℕ) → k ≤ size k
size_above zero = omega arith
size_above (suc k) = omega (arith, size_above k, size_pos k, size_suc k)

-- the free blocks of trees after the run is delivered
pub delivered_free : (j a k at : ℕ) (ts : List Tree) → Room j a k at ts → gathered (free_in k) k at (changed (delivered j a k) a k at ts)
    ≡ without start a (times (size k) (halved_once a (size j)) (gathered (free_in k) k at ts))
delivered_free j a k at ts r =
    forest_delivered j a r.aligned free_reads (λ m. local_after (local_without a) (local_times m (local_halved a (size j))))
    (taken_out j a)
    (λ m k at l low high. unfold times in rw (halved_large a (size j) k at (omega (arith, size_suc k, size_pos k, size_mono l)) low high))
    k at (size k) ts r (omega (arith, size_above k))
