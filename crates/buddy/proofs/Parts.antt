-- What the bytes of a block tell, by its first byte and its halves: the number of its blocks, whose tags are bytes of it.
-- Assumes nothing.
use Rattle.std.proofs.Common.{◌≡◌, ℕ, zero, suc, ◌-◌, ◌<◌, ◌≤◌, Bool, true, false, cond, ◌&&◌, ◌||◌, eqb, List, [], ◌∷◌, ◌++◌, length, get_or, take, drop, replicate, refl, ap, ◌∙◌, arith, length-drop, take-append-drop, length-take-le, eq-eqb, ne_eqb, eqb-true}
use borrow.Author.Tests.{eqb-false}
use Rattle.word.proofs.Tests.{by_test, by_eqb}
use Rattle.block.specs.Blocks.{size, Tree, Free, Live, Halves}
use Rattle.block.specs.Map.{free_tag, live_tag_of, written, told, is_free, canonical, same}
use Rattle.buddy.specs.Marks.{mark, marks, is_tag, counted}
use Rattle.block.proofs.Size.{size_zero, size_suc, size_pos, size_small}
use Rattle.block.proofs.Map.{told_step_lem, halved, canonical_halves}
use Rattle.buddy.proofs.Marks.{marks_append, marks_zeros, Thinned, none, gap, kept, thinned_append, thinned_zeros}

pub and_assoc : (s t r : Bool) → (s && (t && r)) ≡ ((s && t) && r)
and_assoc true t r = refl
and_assoc false t r = refl

-- lists that are put together are the same part by part
pub same_append : (xs ys m : List ℕ) → same (xs ++ ys) m ≡ (same xs (take (length xs) m) && same ys (drop (length xs) m))
unfolding same
same_append [] ys m = refl
same_append (x ∷ xs) ys [] = refl
same_append (x ∷ xs) ys (y ∷ m) = ap (λ b. eqb x y && b) (same_append xs ys m) ∙ and_assoc (eqb x y) _ _

-- a canonical tree has a block at least, and any tree at most one for each word
pub count_pos : (k : ℕ) (t : Tree) → canonical k t ≡ true → 0 < marks (written k t)
unfolding written marks mark free_tag live_tag_of
count_pos k Free h = omega arith
count_pos k Live h = omega arith
count_pos zero (Halves l r) h = unfold canonical in absurd (let z : ◌≡◌ {A = ℕ} 0 1 = cc in omega arith)
count_pos (suc k) (Halves l r) h = rw marks_append (omega (arith, count_pos k l (canonical_halves k l r h).0))

count_most : (k : ℕ) (t : Tree) → marks (written k t) ≤ size k
unfolding written marks mark free_tag live_tag_of
count_most k Free = rw marks_zeros (omega (arith, size_pos k))
count_most k Live = rw marks_zeros (omega (arith, size_pos k))
count_most zero (Halves l r) = omega (arith, size_pos 0)
count_most (suc k) (Halves l r) = rw (marks_append, size_suc) (omega (arith, count_most k l, count_most k r))

pub count_small : (k : ℕ) (m : List ℕ) → k ≤ 7 → counted k m ≤ 256
unfolding counted
count_small k m h =
    by_test (λ t. cond t (marks (written k (told k m))) 0 ≤ 256) (canonical k (told k m))
    (λ e. omega (arith, count_most k (told k m), size_small k h)) (λ e. omega arith)

-- the blocks of the tree that the bytes tell
pub count_told : (k : ℕ) (m : List ℕ) {t : Tree} → told k m ≡ t → counted k m ≡ cond (canonical k t) (marks (written k t)) 0
unfolding counted
count_told k m e = rw e

pub told_free : (k : ℕ) (m : List ℕ) → get_or m 0 0 ≡ free_tag k → told k m ≡ Free
told_free k m e = told_step_lem k m ∙ rw (eq-eqb (get_or m 0 0) (free_tag k) e)

pub told_live : (k : ℕ) (m : List ℕ) → get_or m 0 0 ≡ live_tag_of k → told k m ≡ Live
told_live k m e =
    let other : get_or m 0 0 ≡ free_tag k → ⊥ = λ f. unfold free_tag live_tag_of in omega arith in
    told_step_lem k m ∙ rw (ne_eqb (get_or m 0 0) (free_tag k) other, eq-eqb (get_or m 0 0) (live_tag_of k) e)

-- the first byte is no tag
pub no_tag : (k x : ℕ) → is_tag k x ≡ false → (x ≡ free_tag k → ⊥) × (x ≡ live_tag_of k → ⊥)
unfolding is_tag
no_tag k x =
    by_eqb (λ t. (t || eqb x (live_tag_of k)) ≡ false → (x ≡ free_tag k → ⊥) × (x ≡ live_tag_of k → ⊥)) x (free_tag k)
    (λ e h. absurd (let z : ◌≡◌ {A = ℕ} 0 1 = cc in omega arith)) (λ f h. (f, eqb-false x (live_tag_of k) h))

-- one block
pub count_block : (k : ℕ) (m : List ℕ) → is_tag k (get_or m 0 0) ≡ true → counted k m ≡ 1
unfolding is_tag canonical written marks mark free_tag live_tag_of
count_block k m =
    by_eqb (λ t. (t || eqb (get_or m 0 0) (live_tag_of k)) ≡ true → counted k m ≡ 1) (get_or m 0 0) (free_tag k)
    (λ e h. count_told k m (told_free k m e) ∙ rw marks_zeros (omega arith))
    (λ f h. let e = eqb-true (get_or m 0 0) (live_tag_of k) h in count_told k m (told_live k m e) ∙ rw marks_zeros (omega arith))

pub told_halved : (k : ℕ) (m : List ℕ) → is_tag k (get_or m 0 0) ≡ false → told k m ≡ halved k m
told_halved k m h =
    let (f, l) = no_tag k (get_or m 0 0) h in
    told_step_lem k m ∙ rw (ne_eqb (get_or m 0 0) (free_tag k) f, ne_eqb (get_or m 0 0) (live_tag_of k) l)

halves_not_free : (k : ℕ) (m : List ℕ) → is_free (halved k m) ≡ false
unfolding halved is_free
halves_not_free zero m = refl
halves_not_free (suc k) m = refl

-- a free tag first tells a free block
pub free_told : (k : ℕ) (m : List ℕ) → is_free (told k m) ≡ eqb (get_or m 0 0) (free_tag k)
free_told k m =
    rw told_step_lem
    (by_test (λ t. is_free (cond t Free (cond (eqb (get_or m 0 0) (live_tag_of k)) Live (halved k m))) ≡ t) (eqb (get_or m 0 0) (free_tag k))
    (λ e. unfold is_free in refl)
    (λ e. by_test (λ t. is_free (cond t Live (halved k m)) ≡ false) (eqb (get_or m 0 0) (live_tag_of k)) (λ e. unfold is_free in refl) (λ e. halves_not_free k m)))

-- one block's tag is the first of its bytes
block_thinned : (tag n : ℕ) (m : List ℕ) → length m ≡ n → 0 < n → get_or m 0 0 ≡ tag → Thinned (tag ∷ replicate (n - 1) 0) m
block_thinned tag n [] long h e = absurd (omega arith)
block_thinned tag n (x ∷ xs) long h e =
    let rest : n - 1 ≡ length xs = omega arith in
    let same : x ≡ tag = e in
    rw (rest, ← same) (kept (thinned_zeros xs))

word_thinned : (m : List ℕ) → length m ≡ 1 → Thinned (0 ∷ []) m
word_thinned [] long = absurd (omega arith)
word_thinned (x ∷ []) long = gap none
word_thinned (x ∷ (y ∷ m)) long = absurd (omega arith)

-- what is written of the tree that bytes tell is these, or zero
step_thinned : (k : ℕ) (m : List ℕ) → length m ≡ size k → Thinned (written k (halved k m)) m → Thinned (written k (told k m)) m
step_thinned k m long rest =
    rw told_step_lem
    (by_eqb (λ t. Thinned (written k (cond t Free (cond (eqb (get_or m 0 0) (live_tag_of k)) Live (halved k m)))) m) (get_or m 0 0) (free_tag k)
    (λ e. unfold written in block_thinned (free_tag k) (size k) m long (size_pos k) e)
    (λ f. by_eqb (λ t. Thinned (written k (cond t Live (halved k m))) m) (get_or m 0 0) (live_tag_of k)
    (λ e. unfold written in block_thinned (live_tag_of k) (size k) m long (size_pos k) e)
    (λ l. rest)))

pub told_thinned : (k : ℕ) (m : List ℕ) → length m ≡ size k → Thinned (written k (told k m)) m
unfolding halved written
told_thinned zero m long = step_thinned 0 m long (word_thinned m (long ∙ size_zero))
told_thinned (suc k) m long =
    let twice = size_suc k in
    let low = told_thinned k (take (size k) m) (length-take-le (size k) m (omega arith)) in
    let high = told_thinned k (drop (size k) m) (rw length-drop (omega arith)) in
    step_thinned (suc k) m long (rw take-append-drop at (thinned_append low high))
