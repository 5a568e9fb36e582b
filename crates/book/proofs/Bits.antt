-- The bits of the book and of the storage stay the same through stores, deliveries and copies.
-- Assumes nothing.
use Prim.Native.Nat.{ℕ, suc, ◌+◌, ◌-◌, ◌/◌, ◌%◌, ◌^◌, ◌≤◌, ◌<◌}
use native.Mathlib.Nat.{zero-div, zero-mod}
use native.Mathlib.Omega.{arith}
use mathlib.Core.Bool.{◌&&◌, cond}
use mathlib.Core.List.{List}
use mathlib.Core.Logic.{◌⊎◌, inl, inr}
use mathlib.Core.Path.{◌≡◌, ap, sym, ◌∙◌}
use lib.Dec.{leb}
use lib.ListN.{length, get_or, set, take, drop, replicate, length-replicate, length-take, length-drop, get_or-replicate}
use lib.Seq.{get_or-set_same, get_or-set_other, get_or-take, get_or-drop}
use Rattle.word.specs.Word.{bit}
use Rattle.word.specs.Field.{kept, stored}
use Rattle.word.proofs.Field.{bit_stored}
use Rattle.block.specs.Blocks.{size_at}
use Rattle.word.proofs.Tests.{by_eqb}
use Rattle.block.proofs.Each.{Each, each_nil, each_cons}
use Rattle.machine.specs.declared.Store.{Store}
use Rattle.machine.specs.Storage.{word_at, placed}
use Rattle.machine.proofs.Placed.{placed_inside, placed_outside}
use Rattle.book.specs.Book.{LiveBlock, stored_bits, no_bits, bits_at, blocks}

-- the bits of a live block are those of its words in the storage
abbrev pub BlockBits : ℕ → ℕ → List ℕ → LiveBlock → Type 0
BlockBits b s1 ws x =
    (i p : ℕ) → i < x.block.size → p < b → bit b (word_at s1 (x.block.address + i) ws) p ≡ x.bits i p

-- a store into a field with its right bit in the word, bit by bit
module _ (b : ℕ) (s : Store) (r : s.right < b) (k : s.bits ≡ kept s.left s.right s.bits) (w p : ℕ) (in_word : p < b) where
  stored_bit : bit b (stored b s.left s.right w s.bits) p
      ≡ cond (leb s.left p && leb p s.right) (s.bits / 2 ^ (s.right - p) % 2) (bit b w p)
  stored_bit =
      bit_stored b s.left s.right w s.bits p r in_word
      ∙ ap (λ n. cond (leb s.left p && leb p s.right) (n / 2 ^ (s.right - p) % 2) (bit b w p)) (sym k)

-- one live block through a store at an address of the storage
pub store_bits : (b s1 : ℕ) (s : Store) (ws : List ℕ) → s.right < b → s.bits ≡ kept s.left s.right s.bits
    → s1 ≤ s.address → s.address - s1 < length ws → (x : LiveBlock) → s1 ≤ x.block.address → BlockBits b s1 ws x
    → BlockBits b s1 (set ws (s.address - s1) (stored b s.left s.right (word_at s1 s.address ws) s.bits))
    (record { block = x.block; bits = stored_bits s x })
unfolding word_at stored_bits
store_bits b s1 s ws r k from inside x low h i p small in_word =
    by_eqb (λ t. bit b (get_or (set ws (s.address - s1) new) (x.block.address + i - s1) 0) p
    ≡ cond (t && leb s.left p && leb p s.right) (s.bits / 2 ^ (s.right - p) % 2) (x.bits i p)) (x.block.address + i) s.address
    (λ e. ap (λ n. bit b (get_or (set ws (s.address - s1) new) (n - s1) 0) p) e
    ∙ ap (λ v. bit b v p) (get_or-set_same ws (s.address - s1) new 0 inside)
    ∙ stored_bit b s r k (get_or ws (s.address - s1) 0) p in_word
    ∙ ap (λ v. cond (leb s.left p && leb p s.right) (s.bits / 2 ^ (s.right - p) % 2) v)
    (ap (λ n. bit b (get_or ws (n - s1) 0) p) (sym e) ∙ h i p small in_word))
    (λ n. ap (λ v. bit b v p) (get_or-set_other ws (s.address - s1) (x.block.address + i - s1) new 0 (λ e. n (omega arith))) ∙ h i p small in_word)
  where
    new : ℕ
    new = stored b s.left s.right (get_or ws (s.address - s1) 0) s.bits

-- words placed over a run of the storage
module _ (b s1 a : ℕ) (xs ws : List ℕ) (from : s1 ≤ a) (fits : a - s1 + length xs ≤ length ws) where
  -- a live block that lies outside keeps its bits
  pub placed_other : (x : LiveBlock) → s1 ≤ x.block.address
      → (x.block.address + x.block.size ≤ a) ⊎ (a + length xs ≤ x.block.address)
      → BlockBits b s1 ws x → BlockBits b s1 (placed (a - s1) xs ws) x
  unfolding word_at
  placed_other x low (inl before) h i p small in_word =
      ap (λ v. bit b v p) (placed_outside (a - s1) xs ws fits (x.block.address + i - s1) (inl (omega arith))) ∙ h i p small in_word
  placed_other x low (inr past) h i p small in_word =
      ap (λ v. bit b v p) (placed_outside (a - s1) xs ws fits (x.block.address + i - s1) (inr (omega arith))) ∙ h i p small in_word

  -- and the words placed are where they were put
  pub placed_word : (i : ℕ) → i < length xs → word_at s1 (a + i) (placed (a - s1) xs ws) ≡ get_or xs i 0
  unfolding word_at
  placed_word i small =
      let at : a + i - s1 ≡ a - s1 + i = omega arith in
      ap (λ n. get_or (placed (a - s1) xs ws) n 0) at ∙ placed_inside (a - s1) xs ws fits i small

-- a block of zero words has no bits
pub zero_bits : (b s1 a n : ℕ) (ws : List ℕ) → s1 ≤ a → a - s1 + n ≤ length ws
    → BlockBits b s1 (placed (a - s1) (replicate n 0) ws) (record { block = record { address = a; size = n }; bits = no_bits })
unfolding bit no_bits
zero_bits b s1 a n ws from fits i p small in_word =
    let fits' : a - s1 + length (replicate {A = ℕ} n 0) ≤ length ws = rw length-replicate fits in
    let small' : i < length (replicate {A = ℕ} n 0) = rw length-replicate small in
    ap (λ v. v / 2 ^ (b - suc p) % 2) (placed_word b s1 a (replicate n 0) ws from fits' i small' ∙ get_or-replicate n i 0 0 small)
    ∙ ap (λ v. v % 2) (zero-div (2 ^ (b - suc p)))
    ∙ zero-mod 2

-- the bits of the live block at an address are those of its words
pub bits_at_lem : (b s1 : ℕ) (ws : List ℕ) (c : ℕ) {xs : List LiveBlock} → Each (BlockBits b s1 ws) xs → (i p : ℕ)
    → i < size_at c (blocks xs) → p < b → bit b (word_at s1 (c + i) ws) p ≡ bits_at c xs i p
unfolding size_at bits_at blocks
bits_at_lem b s1 ws c each_nil i p small in_word = absurd (omega arith)
bits_at_lem b s1 ws c (each_cons {x = x} {xs = xs} h hs) i p small in_word =
    by_eqb (λ t. i < cond t x.block.size (size_at c (blocks xs)) → bit b (word_at s1 (c + i) ws) p ≡ cond t x.bits (bits_at c xs) i p)
    x.block.address c
    (λ e s. ap (λ n. bit b (word_at s1 (n + i) ws) p) (sym e) ∙ h i p s in_word)
    (λ e s. bits_at_lem b s1 ws c hs i p s in_word)
    small

-- a block that is a copy has the bits of what it copies
pub copy_bits : (b s1 a c n : ℕ) (ws : List ℕ) (lives : List LiveBlock) → Each (BlockBits b s1 ws) lives → s1 ≤ a → s1 ≤ c
    → a - s1 + n ≤ length ws → c - s1 + n ≤ length ws → size_at c (blocks lives) ≡ n
    → BlockBits b s1 (placed (a - s1) (take n (drop (c - s1) ws)) ws) (record { block = record { address = a; size = n }; bits = bits_at c lives })
unfolding word_at
copy_bits b s1 a c n ws lives each fromA fromC fitsA fitsC size i p small in_word =
    let long : length (take n (drop (c - s1) ws)) ≡ n = simp (length-take, length-drop) (omega arith) in
    let fits : a - s1 + length (take n (drop (c - s1) ws)) ≤ length ws = rw long fitsA in
    let small' : i < length (take n (drop (c - s1) ws)) = rw long small in
    let at : c - s1 + i ≡ c + i - s1 = omega arith in
    ap (λ v. bit b v p)
    (placed_word b s1 a (take n (drop (c - s1) ws)) ws fromA fits i small'
    ∙ get_or-take n (drop (c - s1) ws) i 0 small
    ∙ get_or-drop (c - s1) ws i 0
    ∙ ap (λ j. get_or ws j 0) at)
    ∙ bits_at_lem b s1 ws c each i p (rw size small) in_word
