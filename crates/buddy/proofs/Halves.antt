-- Blocks and their halves as the code meets them: the size before, half of a length, and a list as its two halves. Assumes nothing.
use Rattle.std.proofs.Common.{◌≡◌, ℕ, ◌+◌, ◌-◌, ◌/◌, ◌<◌, ◌≤◌, List, ◌++◌, length, take, drop, ap, ◌∙◌, arith, length-drop, length-take-le, take_all}
use Rattle.word.proofs.Pred.{one_less}
use Rattle.block.specs.Blocks.{size}
use Rattle.block.proofs.Size.{size_suc}

-- a block is two of the size before
pub size_pred : (k : ℕ) → 0 < k → size k ≡ size (k - 1) + size (k - 1)
size_pred = one_less (λ k j. size k ≡ size j + size j) size_suc

-- half of the length of a block
pub half_size : (k n : ℕ) → 0 < k → n ≡ size k → n / 2 ≡ size (k - 1)
half_size k n h e = let p = size_pred k h in omega arith

-- what stands from a place to the end
pub upper : (n : ℕ) (l : List ℕ) → take (length l - n) (drop n l) ≡ drop n l
upper n l = take_all (length l - n) (drop n l) (rw length-drop (omega arith))

-- a part of a slice is as long as asked for
pub part_length : (i n : ℕ) (m : List ℕ) → i + n ≤ length m → length (take (i + n - i) (drop i m)) ≡ n
part_length i n m h =
    let same : i + n - i ≡ n = omega arith in
    length-take-le (i + n - i) (drop i m) (rw length-drop (omega arith)) ∙ same

-- the low half as a part of a slice, and the slice with the part changed
module _ (n start : ℕ) (l : List ℕ) (e : start ≡ 0) where
  same : 0 + n - 0 ≡ n
  same = omega arith

  pub low_part : take (start + n - start) (drop start l) ≡ take n l
  low_part = rw e (ap (λ (i : ℕ). take i l) same)

  pub low_changed : (ys : List ℕ) → take start l ++ (ys ++ drop (start + n - start) (drop start l)) ≡ ys ++ drop n l
  low_changed ys = rw e (ap (λ (i : ℕ). ys ++ drop i l) same)
