-- What the book takes out or halves at an address changes no block elsewhere. Assumes nothing.
use mathlib.Core.Path.{◌≡◌, refl, ap, ◌∙◌}
use mathlib.Core.Bool.{true, false, cond}
use mathlib.Core.List.{List, ◌∷◌, ◌++◌}
use Prim.Native.Nat.{ℕ, zero, suc, ◌+◌}
use native.Mathlib.Omega.{arith}
use lib.Dec.{eqb, leb, ltb}
use borrow.Author.Tests.{lt-leb, le-ltb, ne_eqb}
use Rattle.word.proofs.Tests.{and_false}
use Rattle.block.specs.Blocks.{Block, start, around}
use Rattle.block.proofs.Local.{Local, local_search}
use Rattle.book.specs.Book.{without, times, lower, upper, halved_once}

-- one after the other
pub local_after : {a : ℕ} {f g : List Block → List Block} → Local a f → Local a g → Local a (λ xs. f (g xs))
local_after {a} {f} {g} p q =
    record {
      left = λ xs order l. ap f (q.left xs order l) ∙ p.left (g xs) order l;
      right = λ ys order l. ap f (q.right ys order l) ∙ p.right (g ys) order l;
    }

-- no times or more
pub local_times : {a : ℕ} {f : List Block → List Block} (n : ℕ) → Local a f → Local a (times n f)
unfolding times
local_times zero p = record { left = λ xs order l. refl; right = λ ys order l. refl }
local_times (suc n) p = local_after (local_times n p) p

-- what is done changes nothing, however often
pub times_fixed : {A : Type 0} (n : ℕ) (f : A → A) (x : A) → f x ≡ x → times n f x ≡ x
unfolding times
times_fixed zero f x e = refl
times_fixed (suc n) f x e = rw e (times_fixed n f x e)

-- taking out the block at the address
pub local_without : (a : ℕ) → Local a (without start a)
unfolding without start
local_without a =
    local_search (without start a) (λ x. eqb x.address a) (λ x xs. xs) (λ x xs. refl) (λ x xs ys. refl) refl
    (λ x pos l. ne_eqb x.address a (λ e. omega arith))
    (λ x l. ne_eqb x.address a (λ e. omega arith))

-- halving the block around the address
pub local_halved : (a n : ℕ) → Local a (halved_once a n)
unfolding halved_once around
local_halved a n =
    local_search (halved_once a n) (around a) (λ x xs. cond (ltb n x.size) (lower x ∷ upper x ∷ xs) (x ∷ xs)) (λ x xs. refl)
    (λ x xs ys.
    elim (ltb n x.size) as (λ t. cond t (lower x ∷ upper x ∷ (xs ++ ys)) (x ∷ (xs ++ ys)) ≡ cond t (lower x ∷ upper x ∷ xs) (x ∷ xs) ++ ys)
    [ true ↦ refl | false ↦ refl ])
    refl
    (λ x pos l. rw (le-ltb a (x.address + x.size) l) (and_false (leb x.address a)))
    (λ x l. rw (lt-leb x.address a l))
