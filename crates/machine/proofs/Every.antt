-- A test that every entry of a list passes, after the list's changes: set, pushed, cut, placed.
-- Assumes nothing.
use Prim.Native.Nat.{ℕ, zero, suc, ◌+◌, ◌≤◌, ◌<◌}
use native.Mathlib.Numerals.{add-one}
use native.Mathlib.Nat.{zero-add, suc-add, le_of_suc-le-suc, not-suc-le-zero}
use native.Mathlib.Omega.{arith}
use mathlib.Core.Bool.{Bool, true, false}
use mathlib.Core.List.{List, [], ◌∷◌, ◌++◌}
use mathlib.Core.Path.{◌≡◌, refl, sym, ◌∙◌}
use borrow.Author.Tests.{le-leb, lt-leb}
use lib.Dec.{ltb}
use lib.ListN.{length, get_or, set, take, drop, replicate, drop_of_length-le}
use lib.Seq.{drop-nil, drop-cons, get_or-take, length-take-le}
use Rattle.word.proofs.Tests.{and_true as and_parts}
use Rattle.machine.specs.Sound.{every, sound_stack}
use Rattle.machine.specs.Storage.{placed}
use Rattle.machine.proofs.Checks.{and_true}

-- being a word below a bound, as a test
abbrev pub below : ℕ → ℕ → Bool
below m x = ltb x m

module _ {A : Type 0} (f : A → Bool) where
  -- one entry passes and the others do
  pub every_cons : (x : A) (xs : List A) → f x ≡ true → every f xs ≡ true → every f (x ∷ xs) ≡ true
  unfolding every
  every_cons x xs h k = and_true h k

  pub every_parts : (x : A) (xs : List A) → every f (x ∷ xs) ≡ true → (f x ≡ true) × (every f xs ≡ true)
  unfolding every
  every_parts x xs h = and_parts _ _ h

  pub every_none : every f [] ≡ true
  unfolding every
  every_none = refl

  none_taken : (n : ℕ) → every f (take n []) ≡ true
  none_taken zero = every_none
  none_taken (suc n) = every_none

  -- after one entry is set
  pub every_set : (l : List A) (i : ℕ) (v : A) → every f l ≡ true → f v ≡ true → every f (set l i v) ≡ true
  every_set [] i v h k = h
  every_set (x ∷ xs) zero v h k = every_cons v xs k (every_parts x xs h).1
  every_set (x ∷ xs) (suc i) v h k = every_cons x _ (every_parts x xs h).0 (every_set xs i v (every_parts x xs h).1 k)

  -- of the first n entries, after one is set
  pub every_take_set : (n : ℕ) (l : List A) (i : ℕ) (v : A) → every f (take n l) ≡ true → (i < n → f v ≡ true)
      → every f (take n (set l i v)) ≡ true
  every_take_set zero l i v h k = every_none
  every_take_set (suc n) [] i v h k = every_none
  every_take_set (suc n) (x ∷ xs) zero v h k = every_cons v _ (k (omega arith)) (every_parts x _ h).1
  every_take_set (suc n) (x ∷ xs) (suc i) v h k =
      every_cons x _ (every_parts x _ h).0 (every_take_set n xs i v (every_parts x _ h).1 (λ p. k (omega arith)))

  -- one more entry, pushed
  pub every_push : (n : ℕ) (l : List A) (v : A) → every f (take n l) ≡ true → f v ≡ true → every f (take (suc n) (set l n v)) ≡ true
  every_push n [] v h k = every_none
  every_push zero (x ∷ xs) v h k = every_cons v [] k every_none
  every_push (suc n) (x ∷ xs) v h k = every_cons x _ (every_parts x _ h).0 (every_push n xs v (every_parts x _ h).1 k)

  -- fewer entries
  pub every_fewer : (m n : ℕ) (l : List A) → m ≤ n → every f (take n l) ≡ true → every f (take m l) ≡ true
  every_fewer zero n l p h = every_none
  every_fewer (suc m) zero l p h = absurd (not-suc-le-zero p)
  every_fewer (suc m) (suc n) [] p h = every_none
  every_fewer (suc m) (suc n) (x ∷ xs) p h =
      every_cons x _ (every_parts x _ h).0 (every_fewer m n xs (le_of_suc-le-suc p) (every_parts x _ h).1)

  -- a stack of n entries, of too many and of a number that fits
  pub stack_over : (n : ℕ) (l : List A) → 128 < n → false ≡ sound_stack f n l
  unfolding sound_stack
  stack_over n l over = rw (lt-leb n 128 over)

  pub stack_used : (n : ℕ) (l : List A) (t : Bool) → n ≤ 128 → t ≡ every f (take n l) → t ≡ sound_stack f n l
  unfolding sound_stack
  stack_used n l t few is = rw (le-leb n 128 few) is

  -- one of the first n entries, or what stands in for one that is not there
  pub every_at : (n i : ℕ) (l : List A) (d : A) → i < n → every f (take n l) ≡ true → f d ≡ true → f (get_or l i d) ≡ true
  every_at n i [] d p h k = k
  every_at zero i (x ∷ xs) d p h k = absurd (not-suc-le-zero p)
  every_at (suc n) zero (x ∷ xs) d p h k = (every_parts x _ h).0
  every_at (suc n) (suc i) (x ∷ xs) d p h k = every_at n i xs d (le_of_suc-le-suc p) (every_parts x _ h).1 k

  -- any entry of the whole list
  pub every_get_d : (i : ℕ) (l : List A) (d : A) → every f l ≡ true → f d ≡ true → f (get_or l i d) ≡ true
  every_get_d i [] d h k = k
  every_get_d zero (x ∷ xs) d h k = (every_parts x xs h).0
  every_get_d (suc i) (x ∷ xs) d h k = every_get_d i xs d (every_parts x xs h).1 k

  -- a part of the first n entries
  pub every_part : (n i m : ℕ) (l : List A) → i + m ≤ n → every f (take n l) ≡ true → every f (take m (drop i l)) ≡ true
  every_part n zero m l p h = every_fewer m n l (omega arith) h
  every_part n (suc i) m [] p h = none_taken m
  every_part zero (suc i) m (x ∷ xs) p h = absurd (omega arith)
  every_part (suc n) (suc i) m (x ∷ xs) p h = every_part n i m xs (omega arith) (every_parts x _ h).1

  -- the same value again and again
  pub every_replicate : (n : ℕ) (v : A) → f v ≡ true → every f (replicate n v) ≡ true
  every_replicate zero v k = every_none
  every_replicate (suc n) v k = every_cons v _ k (every_replicate n v k)

  over : (n : ℕ) (xs ws : List A) → every f (take n ws) ≡ true → every f xs ≡ true
      → every f (take n (xs ++ drop (length xs) ws)) ≡ true
  over n [] ws h k = h
  over zero (x ∷ xs) ws h k = every_none
  over (suc n) (x ∷ xs) [] h k =
      every_cons x _ (every_parts x xs k).0 (rw drop-nil at (over n xs [] (none_taken n) (every_parts x xs k).1))
  over (suc n) (x ∷ xs) (w ∷ ws) h k =
      every_cons x _ (every_parts x xs k).0 (over n xs ws (every_parts w _ h).1 (every_parts x xs k).1)

-- of the first n entries, after others are placed over them
pub every_placed : (f : ℕ → Bool) (n i : ℕ) (xs ws : List ℕ) → every f (take n ws) ≡ true → every f xs ≡ true
    → every f (take n (placed i xs ws)) ≡ true
unfolding placed
every_placed f n zero xs ws h k = rw zero-add (over f n xs ws h k)
every_placed f zero (suc i) xs ws h k = none_taken f 0
every_placed f (suc n) (suc i) xs [] h k = rw drop-nil (rw drop-nil at (over f (suc n) xs [] (none_taken f (suc n)) k))
every_placed f (suc n) (suc i) xs (w ∷ ws) h k =
    rw suc-add (every_cons f w _ (every_parts f w _ h).0 (every_placed f n i xs ws (every_parts f w _ h).1 k))
