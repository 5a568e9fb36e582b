-- The size of the live block at an address is told by one byte of the map. Assumes nothing.
use Rattle.std.proofs.Common.{◌≡◌, ℕ, zero, suc, ◌+◌, ◌-◌, ◌*◌, ◌/◌, ◌%◌, ◌<◌, ◌≤◌, cond, eqb, ltb, List, [], ◌∷◌, ◌++◌, length, get_or, replicate, sym, refl, ap, ◌∙◌, append_assoc, arith, get_or-append-add, le-ltb, eq-eqb, ne_eqb}
use lib.ListN.{get_or-replicate, get_or-append, get_or-eq_default, length-replicate}
use Rattle.block.specs.Blocks.{size, Block, Tree, Free, Live, Halves, live_in, gathered, size_at}
use Rattle.block.specs.Map.{free_tag, live_tag_of, written, all_written}
use Rattle.buddy.specs.Tag.{tag_size}
use Rattle.word.proofs.Tests.{by_leb, by_eqb}
use Rattle.block.proofs.Size.{size_suc, size_zero}
use Rattle.block.proofs.Map.{length_written}
use Rattle.block.proofs.Each.{Each, each_nil, each_cons, each_map}
use Rattle.block.proofs.Within.{Within, live_within, all_within}

-- a block starts elsewhere
abbrev Other : ℕ → Block → Type 0
Other a x = x.address ≡ a → ⊥

-- blocks that lie past an address, or before it, start elsewhere
past_other : {a b c : ℕ} → c < a → (x : Block) → Within a b x → Other c x
past_other h x w e = omega arith

before_other : {a b c : ℕ} → b ≤ c → (x : Block) → Within a b x → Other c x
before_other h x w e = omega arith

module _ (a : ℕ) where
  -- no block starts there
  size_none : {xs : List Block} → Each (Other a) xs → size_at a xs ≡ 0
  unfolding size_at
  size_none each_nil = refl
  size_none (each_cons {x = x} p h) = rw (ne_eqb x.address a p) (size_none h)

  -- none of the second blocks
  size_first : (xs : List Block) {ys : List Block} → Each (Other a) ys → size_at a (xs ++ ys) ≡ size_at a xs
  unfolding size_at
  size_first [] h = size_none h
  size_first (x ∷ xs) h = ap (λ (n : ℕ). cond (eqb x.address a) x.size n) (size_first xs h)

  -- none of the first
  size_second : {xs : List Block} (ys : List Block) → Each (Other a) xs → size_at a (xs ++ ys) ≡ size_at a ys
  unfolding size_at
  size_second ys each_nil = refl
  size_second ys (each_cons {x = x} p h) = rw (ne_eqb x.address a p) (size_second ys h)

-- the tags of no live block
tag_zero : tag_size 0 ≡ 0
unfolding tag_size
tag_zero = refl

tag_free : (k : ℕ) → tag_size (free_tag k) ≡ 0
unfolding tag_size free_tag
tag_free k =
    let odd : suc (k + k) % 2 ≡ 1 = omega arith in
    by_leb (λ b. cond b 0 (cond (eqb (suc (k + k) % 2) 1) 0 (cond (ltb (suc (k + k)) 2) 0 (size (suc (k + k) / 2 - 1)))) ≡ 0) 17 (suc (k + k))
    (λ l. refl) (λ l. rw (eq-eqb (suc (k + k) % 2) 1 odd))

-- and of a live one
tag_live : (k : ℕ) → k ≤ 7 → tag_size (live_tag_of k) ≡ size k
unfolding tag_size live_tag_of
tag_live k h =
    let even : suc (suc (k + k)) % 2 ≡ 1 → ⊥ = λ e. omega arith in
    let half : suc (suc (k + k)) / 2 - 1 ≡ k = omega arith in
    rw (le-ltb 16 (suc (suc (k + k))) (omega arith), ne_eqb (suc (suc (k + k)) % 2) 1 even, le-ltb (suc (suc (k + k))) 2 (omega arith), half)

-- what stands after the tag of one block
after_tag : (tag n o : ℕ) → 0 < o → get_or (tag ∷ replicate n 0) o 0 ≡ 0
after_tag tag n zero h = absurd (omega arith)
after_tag tag n (suc o) h =
    by_leb (λ b. ◌≡◌ {A = ℕ} (get_or (replicate n 0) o 0) 0) (suc o) n (λ l. get_or-replicate n o 0 0 l)
    (λ l. get_or-eq_default (replicate n 0) 0 (rw length-replicate (omega arith)))

-- the size of the live block at an offset of a tree is told by the byte there
pub tree_tag : (k at o : ℕ) (t : Tree) → k ≤ 7 → o < size k → size_at (at + o) (live_in k at t) ≡ tag_size (get_or (written k t) o 0)
unfolding live_in written size_at
tree_tag k at zero Free h l = sym (tag_free k)
tree_tag k at (suc o) Free h l = sym (ap tag_size (after_tag (free_tag k) (size k - 1) (suc o) (omega arith)) ∙ tag_zero)
tree_tag k at zero Live h l = rw (eq-eqb at (at + 0) (omega arith)) (sym (tag_live k h))
tree_tag k at (suc o) Live h l =
    rw (ne_eqb at (at + suc o) (λ e. omega arith)) (sym (ap tag_size (after_tag (live_tag_of k) (size k - 1) (suc o) (omega arith)) ∙ tag_zero))
tree_tag zero at zero (Halves x y) h l = sym tag_zero
tree_tag zero at (suc o) (Halves x y) h l = absurd (omega (arith, size_zero))
tree_tag (suc k) at o (Halves x y) h l =
    by_leb (λ b. size_at (at + o) (live_in k at x ++ live_in k (at + size k) y) ≡ tag_size (get_or (written k x ++ written k y) o 0)) (suc o) (size k)
    (λ low.
    size_first (at + o) (live_in k at x) (each_map (past_other (omega arith)) (live_within k (at + size k) y))
    ∙ tree_tag k at o x (omega arith) low
    ∙ ap tag_size (sym (get_or-append (written k x) (written k y) 0 o (rw length_written low))))
    (λ high.
    let r = o - size k in
    let far : (at + size k) + r ≡ at + o = omega arith in
    let place : length (written k x) + r ≡ o = omega (arith, length_written k x) in
    size_second (at + o) (live_in k (at + size k) y) (each_map (before_other (omega arith)) (live_within k at x))
    ∙ ap (λ (a : ℕ). size_at a (live_in k (at + size k) y)) (sym far)
    ∙ tree_tag k (at + size k) r y (omega arith) (omega (arith, size_suc k))
    ∙ ap tag_size (sym (ap (λ (i : ℕ). get_or (written k x ++ written k y) i 0) (sym place) ∙ get_or-append-add (written k x) (written k y) r 0)))

-- and in one tree after the other
pub all_tag : (k at o : ℕ) (ts : List Tree) (rest : List ℕ) → k ≤ 7 → o < length ts * size k
    → size_at (at + o) (gathered (live_in k) k at ts) ≡ tag_size (get_or (all_written k ts ++ rest) o 0)
unfolding gathered all_written
all_tag k at o [] rest h l = absurd (omega arith)
all_tag k at o (t ∷ ts) rest h l =
    by_leb (λ b. size_at (at + o) (live_in k at t ++ gathered (live_in k) k (at + size k) ts)
    ≡ tag_size (get_or ((written k t ++ all_written k ts) ++ rest) o 0)) (suc o) (size k)
    (λ low.
    size_first (at + o) (live_in k at t) (each_map (past_other (omega arith)) (all_within k (at + size k) ts))
    ∙ tree_tag k at o t h low
    ∙ ap tag_size (sym (ap (λ (m : List ℕ). get_or m o 0) (append_assoc (written k t) (all_written k ts) rest)
    ∙ get_or-append (written k t) (all_written k ts ++ rest) 0 o (rw length_written low))))
    (λ high.
    let r = o - size k in
    let far : (at + size k) + r ≡ at + o = omega arith in
    let place : length (written k t) + r ≡ o = omega (arith, length_written k t) in
    size_second (at + o) (gathered (live_in k) k (at + size k) ts) (each_map (before_other (omega arith)) (live_within k at t))
    ∙ ap (λ (a : ℕ). size_at a (gathered (live_in k) k (at + size k) ts)) (sym far)
    ∙ all_tag k (at + size k) r ts rest h (omega arith)
    ∙ ap tag_size (sym (ap (λ (m : List ℕ). get_or m o 0) (append_assoc (written k t) (all_written k ts) rest)
    ∙ ap (λ (i : ℕ). get_or (written k t ++ (all_written k ts ++ rest)) i 0) (sym place)
    ∙ get_or-append-add (written k t) (all_written k ts ++ rest) r 0)))

-- elsewhere no live block starts
pub tag_below : (k at a : ℕ) (ts : List Tree) → a < at → size_at a (gathered (live_in k) k at ts) ≡ 0
tag_below k at a ts h = size_none a (each_map (past_other h) (all_within k at ts))

pub tag_above : (k at a : ℕ) (ts : List Tree) → at + length ts * size k ≤ a → size_at a (gathered (live_in k) k at ts) ≡ 0
tag_above k at a ts h = size_none a (each_map (before_other h) (all_within k at ts))

-- a byte that tells a size is the tag of a live block
pub live_size : (x : ℕ) → (tag_size x ≡ 0 → ⊥) → x ≡ live_tag_of (x / 2 - 1)
unfolding tag_size live_tag_of
live_size x some =
    by_leb (λ b. (cond b 0 (cond (eqb (x % 2) 1) 0 (cond (ltb x 2) 0 (size (x / 2 - 1)))) ≡ 0 → ⊥) → x ≡ suc (suc ((x / 2 - 1) + (x / 2 - 1)))) 17 x
    (λ l no_size. absurd (no_size refl))
    (λ l. by_eqb (λ b. (cond b 0 (cond (ltb x 2) 0 (size (x / 2 - 1))) ≡ 0 → ⊥) → x ≡ suc (suc ((x / 2 - 1) + (x / 2 - 1)))) (x % 2) 1
    (λ odd no_size. absurd (no_size refl))
    (λ even. by_leb (λ b. (cond b 0 (size (x / 2 - 1)) ≡ 0 → ⊥) → x ≡ suc (suc ((x / 2 - 1) + (x / 2 - 1)))) (suc x) 2
    (λ less no_size. absurd (no_size refl)) (λ large _. omega arith)))
    some
