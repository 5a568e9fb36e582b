-- Blocks as trees: a block of the k-th size is free, live, or halved, and each half so again. So blocks tile and are aligned.
-- Then blocks in lists. Document 01: "Blocks", and "The book" for its lists. Assumes nothing.
use Rattle.std.specs.Prelude.{ℕ, zero, suc, ◌+◌, Bool, true, ◌&&◌, ◌||◌, cond, List, [], ◌∷◌, ◌++◌, eqb, leb, ltb}

-- sizes are 1, 2, 4 ..: the k-th
unfoldable pub size : ℕ → ℕ
size zero = 1
size (suc k) = size k + size k

-- a size that is no power of two is raised to the next: the least j up to k whose size is n or more, k if there is none
unfoldable pub level : ℕ → ℕ → ℕ
level zero n = zero
level (suc k) n = cond (leb n (size k)) (level k n) (suc k)

-- a block: its first word's address and its size
pub record Block : Type 0 where
  pub address : ℕ
  pub size : ℕ

-- what stands in the words of one block of the k-th size: a free block, a live one, or two halves of the size before
pub data Tree : Type 0 where
  Free Live : Tree
  Halves : Tree → Tree → Tree

-- two free halves of one block are rejoined
unfoldable pub joined : Tree → Tree → Tree
joined Free Free = Free
joined Free Live = Halves Free Live
joined Free (Halves a b) = Halves Free (Halves a b)
joined Live r = Halves Live r
joined (Halves a b) r = Halves (Halves a b) r

-- the live blocks in a tree of the k-th size at an address, lowest first
unfoldable pub live_in : ℕ → ℕ → Tree → List Block
live_in k at Free = []
live_in k at Live = record { address = at; size = size k } ∷ []
live_in zero at (Halves l r) = []
live_in (suc k) at (Halves l r) = live_in k at l ++ live_in k (at + size k) r

-- the free blocks in it, lowest first
unfoldable pub free_in : ℕ → ℕ → Tree → List Block
free_in k at Free = record { address = at; size = size k } ∷ []
free_in k at Live = []
free_in zero at (Halves l r) = []
free_in (suc k) at (Halves l r) = free_in k at l ++ free_in k (at + size k) r

-- free: the live block around address a becomes free, and free halves are rejoined
unfoldable pub freed : ℕ → ℕ → ℕ → Tree → Tree
freed a k at Free = Free
freed a k at Live = Free
freed a zero at (Halves l r) = Halves l r
freed a (suc k) at (Halves l r) =
    cond (ltb a (at + size k)) (joined (freed a k at l) r) (joined l (freed a k (at + size k) r))

-- deliver: the run of the j-th size at address a becomes live; a larger free block is halved until the wanted size is reached
unfoldable pub delivered : ℕ → ℕ → ℕ → ℕ → Tree → Tree
delivered j a zero at Free = Live
delivered j a (suc k) at Free =
    cond (leb (suc k) j) Live
    (cond (ltb a (at + size k)) (Halves (delivered j a k at Free) Free) (Halves Free (delivered j a k (at + size k) Free)))
delivered j a k at Live = Live
delivered j a zero at (Halves l r) = Halves l r
delivered j a (suc k) at (Halves l r) =
    cond (ltb a (at + size k)) (Halves (delivered j a k at l) r) (Halves l (delivered j a k (at + size k) r))

-- the set-up words from an address on are blocks of the k-th size, a tree for each: what the trees hold, one after the other
unfoldable pub gathered : (ℕ → Tree → List Block) → ℕ → ℕ → List Tree → List Block
gathered f k at [] = []
gathered f k at (t ∷ ts) = f at t ++ gathered f k (at + size k) ts

-- the tree around address a is changed by f
unfoldable pub changed : (ℕ → Tree → Tree) → ℕ → ℕ → ℕ → List Tree → List Tree
changed f a k at [] = []
changed f a k at (t ∷ ts) = cond (ltb a (at + size k)) (f at t ∷ ts) (t ∷ changed f a k (at + size k) ts)

-- the size of the block that starts at address a; 0 if none does
unfoldable pub size_at : ℕ → List Block → ℕ
size_at a [] = 0
size_at a (x ∷ xs) = cond (eqb x.address a) x.size (size_at a xs)

-- the address by which blocks are in order: "The book", its lists
unfoldable pub start : Block → ℕ
start x = x.address

-- one more in a list, at its place in that order: "The book", freed and delivered
unfoldable pub inserted : {A : Type 0} → (A → ℕ) → A → List A → List A
inserted key x [] = x ∷ []
inserted key x (y ∷ ys) = cond (leb (key x) (key y)) (x ∷ y ∷ ys) (y ∷ inserted key x ys)

-- the address lies in the block: "The book", the free block around the new one
unfoldable pub around : ℕ → Block → Bool
around a x = leb x.address a && ltb a (x.address + x.size)

-- how many of these blocks a word lies in: "Blocks", that they tile
unfoldable pub covering : ℕ → List Block → ℕ
covering w [] = 0
covering w (x ∷ xs) = cond (around w x) (suc (covering w xs)) (covering w xs)

-- the words from a to before a + n lie outside these blocks
unfoldable pub outside : ℕ → ℕ → List Block → Bool
outside a n [] = true
outside a n (x ∷ xs) = (leb (x.address + x.size) a || leb (a + n) x.address) && outside a n xs

-- those of count addresses, n apart from address a on, at which n words lie outside these blocks
unfoldable pub runs_from : ℕ → ℕ → List Block → ℕ → List ℕ
runs_from n a live zero = []
runs_from n a live (suc count) =
    let others = runs_from n (a + n) live count in
    cond (outside a n live) (a ∷ others) others
