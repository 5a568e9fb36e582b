-- What stands in the bytes of a block, what the code writes there when it halves a free one, and when halves stay two. Assumes nothing.
use Rattle.std.proofs.Common.{◌≡◌, ℕ, zero, suc, ◌+◌, ◌-◌, ◌/◌, ◌<◌, ◌≤◌, List, ◌∷◌, ◌++◌, length, get_or, take, drop, set, replicate, sym, refl, ap, ◌∙◌, ap₂, arith, take_at, drop_at, le-ltb, lt-ltb, le-leb}
use lib.ListN.{length-replicate, replicate-append-replicate}
use lib.Seq.{set_at}
use borrow.Author.Tests.{lt-leb}
use Rattle.word.proofs.Pred.{one_less}
use Rattle.block.specs.Blocks.{size, Tree, Free, Live, Halves, joined, freed, delivered}
use Rattle.block.specs.Map.{free_tag, live_tag_of, written}
use Rattle.block.proofs.Size.{size_pos, size_suc}
use Rattle.block.proofs.Map.{length_written, first_append, first_le}
use Rattle.buddy.proofs.Halves.{low_part, low_changed}

-- halves begin with a smaller byte than the tags
pub halves_first : (k : ℕ) (l r : Tree) → get_or (written k (Halves l r)) 0 0 < free_tag k
unfolding written free_tag
halves_first zero l r = omega arith
halves_first (suc k) l r = rw (first_append k l (written k r)) (let h = first_le k l in unfold live_tag_of in omega arith)

-- a free tag tells a free block
pub first_free : (k : ℕ) (t : Tree) → get_or (written k t) 0 0 ≡ free_tag k → t ≡ Free
unfolding written free_tag live_tag_of
first_free k Free e = refl
first_free k Live e = absurd (omega arith)
first_free k (Halves l r) e = absurd (let h = halves_first k l r in unfold free_tag in omega arith)

-- halves are written one after the other
pub written_halves : (k : ℕ) (l r : Tree) → written (suc k) (Halves l r) ≡ written k l ++ written k r
unfolding written
written_halves k l r = refl

-- zeros as the bytes of a free block's halves after their tags
zeros_halves : (k n : ℕ) → size k ≡ suc n → replicate {A = ℕ} (size (suc k) - 1) 0 ≡ replicate n 0 ++ 0 ∷ replicate n 0
zeros_halves k n e =
    let count : size (suc k) - 1 ≡ n + suc n = omega (arith, size_suc k) in
    rw count (sym (replicate-append-replicate n (suc n) 0))

-- a size is one more than another number
size_next : (k : ℕ) → size k ≡ suc (size k - 1)
size_next k = omega (arith, size_pos k)

-- a free block is two halves of zeros after its tag
pub free_halves : (k : ℕ) → written (suc k) Free ≡ (free_tag (suc k) ∷ replicate (size k - 1) 0) ++ 0 ∷ replicate (size k - 1) 0
unfolding written
free_halves k = ap (λ (xs : List ℕ). free_tag (suc k) ∷ xs) (zeros_halves k (size k - 1) (size_next k))

-- a tag and zeros are as long as a block
tag_length : (k tag : ℕ) → length (tag ∷ replicate (size k - 1) 0) ≡ size k
tag_length k tag = rw length-replicate (sym (size_next k))

-- a free block whose halves get their tags
pub tags_halves : (k : ℕ) → set (set (written (suc k) Free) (size k) (free_tag k)) 0 (free_tag k) ≡ written k Free ++ written k Free
unfolding written
tags_halves k =
    rw (free_halves k, set_at (free_tag (suc k) ∷ replicate (size k - 1) 0) 0 (replicate (size k - 1) 0) (free_tag k) (size k) (tag_length k (free_tag (suc k))))

-- a free block is delivered whole at its own size
pub delivered_here : (j a k at : ℕ) → k ≤ j → delivered j a k at Free ≡ Live
unfolding delivered
delivered_here j a zero at h = refl
delivered_here j a (suc k) at h = rw (le-leb (suc k) j h)

-- and halved at a smaller, the low half going on from its own start
pub delivered_low : (j k at : ℕ) → j ≤ k → delivered j at (suc k) at Free ≡ Halves (delivered j at k at Free) Free
unfolding delivered
delivered_low j k at h = rw (lt-leb (suc k) j (omega arith), lt-ltb at (at + size k) (omega (arith, size_pos k)))

-- the split ends at the wanted size
pub split_ends : (k j tag at : ℕ) (l : List ℕ) → k ≡ j → tag ≡ live_tag_of k → l ≡ written k Free → set l 0 tag ≡ written k (delivered j at k at Free)
unfolding written
split_ends k j tag at l e g w = rw (w, delivered_here j at k at (omega arith), g)

-- and goes on in the low half
split_low : (k j tag at : ℕ) (l ys : List ℕ) → j < k → length l / 2 ≡ size (k - 1) → tag ≡ free_tag (k - 1) → l ≡ written k Free
    → (take (length l / 2) (set (set l (length l / 2) tag) 0 tag) ≡ written (k - 1) Free → ys ≡ written (k - 1) (delivered j at (k - 1) at Free))
    → ys ++ drop (length l / 2) (set (set l (length l / 2) tag) 0 tag) ≡ written k (delivered j at k at Free)
split_low k j tag at l ys h =
    one_less
    (λ i p. j < i → length l / 2 ≡ size p → tag ≡ free_tag p → l ≡ written i Free
    → (take (length l / 2) (set (set l (length l / 2) tag) 0 tag) ≡ written p Free → ys ≡ written p (delivered j at p at Free))
    → ys ++ drop (length l / 2) (set (set l (length l / 2) tag) 0 tag) ≡ written i (delivered j at i at Free))
    (λ p below half g w low.
    let m : set (set l (length l / 2) tag) 0 tag ≡ written p Free ++ written p Free = rw (half, g, w) (tags_halves p) in
    let first : take (length l / 2) (set (set l (length l / 2) tag) 0 tag) ≡ written p Free
    = ap₂ take half m ∙ take_at (written p Free) _ (size p) (length_written p Free) in
    let last : drop (length l / 2) (set (set l (length l / 2) tag) 0 tag) ≡ written p Free
    = ap₂ drop half m ∙ drop_at (written p Free) _ (size p) (length_written p Free) in
    ap₂ ◌++◌ (low first) last ∙ sym (written_halves p _ Free) ∙ ap (written (suc p)) (sym (delivered_low j p at (omega arith))))
    k (omega arith) h

-- the low half as a part of the slice
pub split_goes : (k j tag at start : ℕ) (l m ys : List ℕ) → start ≡ 0 → m ≡ set (set l (length l / 2) tag) 0 tag
    → j < k → length l / 2 ≡ size (k - 1) → tag ≡ free_tag (k - 1) → l ≡ written k Free
    → (take (start + length l / 2 - start) (drop start m) ≡ written (k - 1) Free → ys ≡ written (k - 1) (delivered j at (k - 1) at Free))
    → take start m ++ (ys ++ drop (start + length l / 2 - start) (drop start m)) ≡ written k (delivered j at k at Free)
split_goes k j tag at start l m ys z e below half g w low =
    low_changed (length l / 2) start m z ys
    ∙ ap (λ (xs : List ℕ). ys ++ drop (length l / 2) xs) e
    ∙ split_low k j tag at l ys below half g w (λ q. low (low_part (length l / 2) start m z ∙ ap (take (length l / 2)) e ∙ q))

-- halves of which one is not free stay two
pub joined_first : (l r : Tree) → (l ≡ Free → ⊥) → joined l r ≡ Halves l r
unfolding joined
joined_first Free r h = absurd (h refl)
joined_first Live r h = refl
joined_first (Halves a b) r h = refl

pub joined_second : (l r : Tree) → (r ≡ Free → ⊥) → joined l r ≡ Halves l r
unfolding joined
joined_second Free Free h = absurd (h refl)
joined_second Free Live h = refl
joined_second Free (Halves a b) h = refl
joined_second Live r h = refl
joined_second (Halves a b) r h = refl

-- freeing in halves goes on in the one around the address
pub freed_low : (a k at : ℕ) (l r : Tree) → a < at + size k → freed a (suc k) at (Halves l r) ≡ joined (freed a k at l) r
unfolding freed
freed_low a k at l r h = rw (lt-ltb a (at + size k) h)

pub freed_high : (a k at : ℕ) (l r : Tree) → at + size k ≤ a → freed a (suc k) at (Halves l r) ≡ joined l (freed a k (at + size k) r)
unfolding freed
freed_high a k at l r h = rw (le-ltb a (at + size k) h)
