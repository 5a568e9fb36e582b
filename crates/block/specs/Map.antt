-- The block map of a state: a byte for each word. That of a block's first word tells size and use, every other is zero.
-- Document 01: "Blocks", and of refusal 11 "blocks breaking their section". Assumes nothing.
use Rattle.std.specs.Prelude.{ℕ, zero, suc, ◌+◌, ◌-◌, ◌/◌, Bool, true, false, not, ◌&&◌, cond, List, [], ◌∷◌, ◌++◌, eqb, length, get_or, take, drop, replicate}
use Rattle.block.specs.declared.SetUp.{SetUp}
use Rattle.block.specs.Blocks.{size, Block, Tree, Free, Live, Halves, live_in, free_in, freed, delivered, gathered, changed}
use Rattle.block.specs.SetUp.{top, words}

-- the byte of a free block of the k-th size, and of a live one
unfoldable pub free_tag : ℕ → ℕ
free_tag k = suc (k + k)

unfoldable pub live_tag_of : ℕ → ℕ
live_tag_of k = suc (suc (k + k))

-- a tree of the k-th size written out
unfoldable pub written : ℕ → Tree → List ℕ
written k Free = free_tag k ∷ replicate (size k - 1) 0
written k Live = live_tag_of k ∷ replicate (size k - 1) 0
written zero (Halves l r) = 0 ∷ []
written (suc k) (Halves l r) = written k l ++ written k r

-- the tree of the k-th size that the bytes tell
unfoldable pub told : ℕ → List ℕ → Tree
told zero m = cond (eqb (get_or m 0 0) (free_tag 0)) Free (cond (eqb (get_or m 0 0) (live_tag_of 0)) Live (Halves Free Free))
told (suc k) m =
    cond (eqb (get_or m 0 0) (free_tag (suc k))) Free
    (cond (eqb (get_or m 0 0) (live_tag_of (suc k))) Live (Halves (told k (take (size k) m)) (told k (drop (size k) m))))

unfoldable pub is_free : Tree → Bool
is_free Free = true
is_free Live = false
is_free (Halves l r) = false

-- no two free halves of one block stand separately, and a block of one word is not halved
unfoldable pub canonical : ℕ → Tree → Bool
canonical k Free = true
canonical k Live = true
canonical zero (Halves l r) = false
canonical (suc k) (Halves l r) = canonical k l && canonical k r && not (is_free l && is_free r)

-- the same for one tree after the other
unfoldable pub all_written : ℕ → List Tree → List ℕ
all_written k [] = []
all_written k (t ∷ ts) = written k t ++ all_written k ts

unfoldable pub all_told : ℕ → ℕ → List ℕ → List Tree
all_told k zero m = []
all_told k (suc count) m = told k (take (size k) m) ∷ all_told k count (drop (size k) m)

unfoldable pub all_canonical : ℕ → List Tree → Bool
all_canonical k [] = true
all_canonical k (t ∷ ts) = canonical k t && all_canonical k ts

unfoldable pub same : List ℕ → List ℕ → Bool
same [] [] = true
same [] (y ∷ ys) = false
same (x ∷ xs) [] = false
same (x ∷ xs) (y ∷ ys) = eqb x y && same xs ys

-- the trees of a map: one for each block of size d that the set-up made
unfoldable pub trees : SetUp → List ℕ → List Tree
trees u m = all_told (top u.d) (words u / size (top u.d)) m

-- the map of these trees: zero past the set-up words
unfoldable pub map_of : SetUp → ℕ → List Tree → List ℕ
map_of u n ts = all_written (top u.d) ts ++ replicate (n - words u) 0

-- the map keeps the section "Blocks": it is that of the trees it tells, and their free halves are rejoined
unfoldable pub keeps : SetUp → List ℕ → Bool
keeps u m = all_canonical (top u.d) (trees u m) && same (map_of u (length m) (trees u m)) m

-- the live blocks of a map, and the free ones, lowest first
unfoldable pub live : SetUp → List ℕ → List Block
live u m = gathered (live_in (top u.d)) (top u.d) u.s1 (trees u m)

unfoldable pub free : SetUp → List ℕ → List Block
free u m = gathered (free_in (top u.d)) (top u.d) u.s1 (trees u m)

-- a fresh set-up is all free
unfoldable pub fresh_map : SetUp → ℕ → List ℕ
fresh_map u n = map_of u n (replicate (words u / size (top u.d)) Free)

-- the map after the block at address a is freed
unfoldable pub freed_map : ℕ → SetUp → List ℕ → List ℕ
freed_map a u m = map_of u (length m) (changed (freed a (top u.d)) a (top u.d) u.s1 (trees u m))

-- the map after the run of the j-th size at address a is delivered
unfoldable pub delivered_map : ℕ → ℕ → SetUp → List ℕ → List ℕ
delivered_map j a u m = map_of u (length m) (changed (delivered j a (top u.d)) a (top u.d) u.s1 (trees u m))
