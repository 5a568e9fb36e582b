-- Words placed over others, and stores: what stands where afterwards, and how long the storage is.
-- Assumes nothing.
use Prim.Native.Nat.{ℕ, ◌+◌, ◌-◌, ◌^◌, ◌≤◌, ◌<◌}
use native.Mathlib.Nat.{add-zero, add_assoc}
use native.Mathlib.Omega.{arith}
use mathlib.Core.Bool.{true, false, cond}
use mathlib.Core.List.{List, [], ◌++◌}
use mathlib.Core.Logic.{◌⊎◌, inl, inr}
use mathlib.Core.Path.{◌≡◌, refl, sym, ap, ◌∙◌}
use borrow.Author.Tests.{lt-ltb, ltb-true, eq-eqb}
use lib.Dec.{eqb}
use lib.ListN.{length, get_or, set, take, drop, length-append, length-take, length-drop, length-set, take-append-drop}
use lib.ListN.{get_or-append}
use lib.Seq.{length-take-le, get_or-append-add, get_or-take, get_or-drop}
use lib.Pow.{pow_pos}
use Rattle.word.specs.Field.{stored}
use Rattle.word.proofs.Field.{stored_lt}
use Rattle.block.specs.Blocks.{Block}
use Rattle.machine.specs.declared.Store.{Store}
use Rattle.machine.specs.Sound.{every}
use Rattle.machine.specs.Storage.{placed, word_at, with_store}
use Rattle.machine.proofs.Every.{below, every_take_set, every_at}
use Rattle.machine.proofs.Located.{StoreFacts, nowhere, in_block}

-- nothing placed changes nothing
pub placed_none : (i : ℕ) (ws : List ℕ) → placed i [] ws ≡ ws
unfolding placed
placed_none i ws = rw add-zero (take-append-drop i ws)

-- what is placed inside leaves the length
pub length_placed : (i : ℕ) (xs ws : List ℕ) → i + length xs ≤ length ws → length (placed i xs ws) ≡ length ws
unfolding placed
length_placed i xs ws h = simp (length-append, length-take, length-drop) (omega arith)

-- the words placed, and the others
module _ (i : ℕ) (xs ws : List ℕ) (h : i + length xs ≤ length ws) where
  taken : length (take i ws) ≡ i
  taken = length-take-le i ws (omega arith)

  -- past the first i words
  past : (j : ℕ) → get_or (placed i xs ws) (i + j) 0 ≡ get_or (xs ++ drop (i + length xs) ws) j 0
  unfolding placed
  past j =
      ap (λ n. get_or (take i ws ++ (xs ++ drop (i + length xs) ws)) (n + j) 0) (sym taken)
      ∙ get_or-append-add (take i ws) (xs ++ drop (i + length xs) ws) j 0

  pub placed_inside : (j : ℕ) → j < length xs → get_or (placed i xs ws) (i + j) 0 ≡ get_or xs j 0
  placed_inside j k = past j ∙ get_or-append xs (drop (i + length xs) ws) 0 j k

  placed_before : (j : ℕ) → j < i → get_or (placed i xs ws) j 0 ≡ get_or ws j 0
  unfolding placed
  placed_before j k =
      let less : j < length (take i ws) = rw taken k in
      get_or-append (take i ws) (xs ++ drop (i + length xs) ws) 0 j less ∙ get_or-take i ws j 0 k

  placed_after : (m : ℕ) → get_or (placed i xs ws) (i + (length xs + m)) 0 ≡ get_or ws (i + (length xs + m)) 0
  placed_after m =
      past (length xs + m)
      ∙ get_or-append-add xs (drop (i + length xs) ws) m 0
      ∙ get_or-drop (i + length xs) ws m 0
      ∙ ap (λ n. get_or ws n 0) (add_assoc i (length xs) m)

  pub placed_outside : (j : ℕ) → (j < i) ⊎ (i + length xs ≤ j) → get_or (placed i xs ws) j 0 ≡ get_or ws j 0
  placed_outside j (inl k) = placed_before j k
  placed_outside j (inr k) =
      let far : i + (length xs + (j - (i + length xs))) ≡ j = omega arith in
      rw far at (placed_after (j - (i + length xs)))

-- a store leaves the length
pub length_store : (b s1 : ℕ) (s : Store) (ws : List ℕ) → length (with_store b s1 s ws) ≡ length ws
unfolding with_store
length_store b s1 s ws =
    elim (eqb s.address 0) as (λ t. length
    (cond t ws (set ws (s.address - s1) (stored b s.left s.right (word_at s1 s.address ws) s.bits))) ≡ length ws)
    [ true ↦ refl | false ↦ length-set ws (s.address - s1) _ ]

-- a store keeps words below 2 ^ b
pub store_values : (b s1 n : ℕ) (live : List Block) (s : Store) (ws : List ℕ) → StoreFacts b live s
    → every (below (2 ^ b)) (take n ws) ≡ true → every (below (2 ^ b)) (take n (with_store b s1 s ws)) ≡ true
unfolding with_store word_at
store_values b s1 n live s ws (nowhere z) h = rw (eq-eqb _ 0 z) h
store_values b s1 n live s ws (in_block r k inside) h =
    elim (eqb s.address 0) as (λ t. every (below (2 ^ b))
    (take n (cond t ws (set ws (s.address - s1) (stored b s.left s.right (word_at s1 s.address ws) s.bits)))) ≡ true) [
      | true ↦ h
      | false ↦ every_take_set (below (2 ^ b)) n ws (s.address - s1) _ h
          (λ p. lt-ltb _ _ (stored_lt b s.left s.right _ s.bits r
          (ltb-true _ _ (every_at (below (2 ^ b)) n (s.address - s1) ws 0 p h (lt-ltb _ _ (pow_pos b))))))
    ]
