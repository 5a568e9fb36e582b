-- What is left of a map as it is passed from block to block, with those blocks in it that are asked for. Assumes nothing.
use mathlib.Core.Path.{◌≡◌, refl, sym, ap, ◌∙◌}
use mathlib.Core.Bool.{Bool, true, false, not, cond}
use mathlib.Core.List.{List, [], ◌∷◌, ◌++◌, append_assoc}
use Prim.Native.Nat.{ℕ, zero, suc, ◌+◌, ◌-◌, ◌/◌, ◌%◌, ◌≤◌, ◌<◌}
use native.Mathlib.Omega.{arith}
use borrow.Author.Tests.{eq-eqb, ne_eqb}
use lib.ListN.{get_or, drop}
use Rattle.block.specs.declared.SetUp.{SetUp}
use Rattle.block.specs.Blocks.{size, Block, Tree, Free, Live, Halves, live_in, free_in, gathered}
use Rattle.block.specs.SetUp.{top, words}
use Rattle.block.specs.Map.{free_tag, live_tag_of, written, canonical, trees, keeps, live, free}
use Rattle.block.proofs.Map.{canonical_halves}
use Rattle.buddy.proofs.Rest.{Made, Rest, none, more, After, Reached, first_byte, halves_bytes, halves_words, after, second_half}
use Rattle.buddy.proofs.Rest.{goes_on, none_left, starts}
use Rattle.listing.specs.Listing.{blocks, wanted}

-- the blocks asked for in a tree: the live ones, or the free ones
unfoldable pub held : Bool → ℕ → ℕ → Tree → List Block
held true k at t = live_in k at t
held false k at t = free_in k at t

-- the tag of a live block, or of a free one
unfoldable tag : Bool → ℕ → ℕ
tag true k = live_tag_of k
tag false k = free_tag k

-- a block before others, where it is one of those asked for
unfoldable pub listed : Bool → ℕ → ℕ → List Block → List Block
listed true at n others = record { address = at; size = n } ∷ others
listed false at n others = others

-- the blocks asked for, tree by tree
abbrev pub held_made : Bool → Made (List Block)
held_made w = record { nothing = []; before = ◌++◌; of = held w }

-- the block that stands first: its tag, and what is left after it
data Next (w : Bool) (at left : ℕ) (m : List ℕ) (bs : List Block) : Type 0 where
  block : (u : Bool) (k : ℕ) → k ≤ 7 → get_or m 0 0 ≡ tag u k → (others : List Block) → bs ≡ listed (cond u w (not w)) at (size k) others
      → After (held_made w) 0 (size k) at left m others → Next w at left m bs

next_same : {w : Bool} {at left left' : ℕ} {m m' : List ℕ} {bs bs' : List Block} → left ≡ left' → m ≡ m' → bs ≡ bs' → Next w at left m bs
    → Next w at left' m' bs'
next_same e f g n = rw (← e, ← f, ← g) n

free_listed : (w : Bool) (k at : ℕ) (bs : List Block) → held w k at Free ++ bs ≡ listed (not w) at (size k) bs
unfolding held listed live_in free_in
free_listed true k at bs = refl
free_listed false k at bs = refl

live_listed : (w : Bool) (k at : ℕ) (bs : List Block) → held w k at Live ++ bs ≡ listed w at (size k) bs
unfolding held listed live_in free_in
live_listed true k at bs = refl
live_listed false k at bs = refl

halves_held : (w : Bool) (k at : ℕ) (x y : Tree) → held w (suc k) at (Halves x y) ≡ held w k at x ++ held w k (at + size k) y
unfolding held live_in free_in
halves_held true k at x y = refl
halves_held false k at x y = refl

-- the first block of a tree
first_block : {w : Bool} {left : ℕ} {m : List ℕ} {bs : List Block} (k at : ℕ) (t : Tree) → k ≤ 7 → canonical k t ≡ true
    → Rest (held_made w) 0 (at + size k) left m bs
    → Next w at (size k + left) (written k t ++ m) (held w k at t ++ bs)
first_block {w} {bs = bs} k at Free h whole rest = block false k h (unfold written tag in refl) bs (free_listed w k at bs) (after k Free rest)
first_block {w} {bs = bs} k at Live h whole rest = block true k h (unfold written tag in refl) bs (live_listed w k at bs) (after k Live rest)
first_block zero at (Halves x y) h whole rest = absurd (unfold canonical in let z : ◌≡◌ {A = ℕ} 0 1 = cc in omega arith)
first_block {w} {left} {m} {bs} (suc k) at (Halves x y) h whole rest =
    let (low, high, apart) = canonical_halves k x y whole in
    let found : held w k at x ++ (held w k (at + size k) y ++ bs) ≡ held w (suc k) at (Halves x y) ++ bs
    = sym (append_assoc (held w k at x) (held w k (at + size k) y) bs) ∙ ap (λ (xs : List Block). xs ++ bs) (sym (halves_held w k at x y)) in
    next_same (halves_words k left) (halves_bytes k x y m) found
    (first_block {left = size k + left} k at x (omega arith) low (second_half k at y (omega arith) (omega arith) high rest))

next : {w : Bool} {at left : ℕ} {m : List ℕ} {bs : List Block} → Rest (held_made w) 0 at left m bs → 0 < left → Next w at left m bs
next none h = absurd (omega arith)
next {at = at} (more k t l s whole rest) h = first_block k at t s whole rest

-- a map of n words from address s on is passed up to word i, and these are the blocks asked for from there on
abbrev pub Passed : Bool → ℕ → ℕ → List ℕ → List Block → ℕ → Type 0
Passed w = Reached (held_made w) 0

-- what the byte that stands first tells: a size, and whether the block is one of those asked for
pub record Meets (w : Bool) (s n : ℕ) (m : List ℕ) (bs : List Block) (i : ℕ) : Type 0 where
  pub tagged : 1 ≤ get_or m i 0
  pub level : (get_or m i 0 - 1) / 2 ≤ 7
  pub others : List Block
  pub is : bs ≡ listed (wanted w (get_or m i 0)) (s + i) (size ((get_or m i 0 - 1) / 2)) others
  pub passed : Passed w s n m others (i + size ((get_or m i 0 - 1) / 2))

module _ (w : Bool) (s n : ℕ) (m : List ℕ) (i : ℕ) {bs : List Block} (so_far : Passed w s n m bs i) (some : i < n) where
  -- the tag tells the size
  level_is : (u : Bool) (k : ℕ) → get_or m i 0 ≡ tag u k → k ≡ (get_or m i 0 - 1) / 2
  unfolding tag free_tag live_tag_of
  level_is true k e = omega arith
  level_is false k e = omega arith

  tag_some : (u : Bool) (k : ℕ) → 1 ≤ tag u k
  unfolding tag free_tag live_tag_of
  tag_some true k = omega arith
  tag_some false k = omega arith

  -- and the use
  wanted_is : (u : Bool) (k : ℕ) → get_or m i 0 ≡ tag u k → cond u w (not w) ≡ wanted w (get_or m i 0)
  unfolding tag free_tag live_tag_of wanted
  wanted_is true k e = let even : get_or m i 0 % 2 ≡ 0 = omega arith in rw (eq-eqb (get_or m i 0 % 2) 0 even)
  wanted_is false k e = let odd : get_or m i 0 % 2 ≡ 0 → ⊥ = λ z. omega arith in rw (ne_eqb (get_or m i 0 % 2) 0 odd)

  pub meets : Meets w s n m bs i
  meets = go (next so_far.1 (omega arith))
    where
      go : Next w (s + i) (n - i) (drop i m) bs → Meets w s n m bs i
      go (block u k h t others is a) =
          let e : get_or m i 0 ≡ tag u k = first_byte m i ∙ t in
          let same = level_is u k e in
          record {
            tagged = rw e (tag_some u k);
            level = rw (← same) h;
            others = others;
            is = rw (← same, ← wanted_is u k e) is;
            passed = rw (← same) (goes_on s n i m so_far.0 a);
          }

-- at the end there are no more
pub passed_all : (w : Bool) (s n : ℕ) (m : List ℕ) (i : ℕ) {bs : List Block} → Passed w s n m bs i → n ≤ i → bs ≡ []
passed_all w s n m i so_far h = sym (none_left so_far.1 (omega arith))

-- a map that keeps the section
module _ (w : Bool) (u : SetUp) (m : List ℕ) (whole : words u % size (top u.d) ≡ 0) (kept : keeps u m ≡ true) where
  gathers : (w : Bool) → gathered (held w (top u.d)) (top u.d) u.s1 (trees u m) ≡ blocks w u m
  unfolding held blocks live free
  gathers true = refl
  gathers false = refl

  pub passed_none : Passed w u.s1 (words u) m (blocks w u m) 0
  unfolding gathered
  passed_none = rw (← (gathers w)) (starts (λ k. gathered (held w k) k) (λ k at. refl) (λ k at t ts. refl) u m whole kept (omega arith))
