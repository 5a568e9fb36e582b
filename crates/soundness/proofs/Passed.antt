-- A test of those passed, and of those left: of entries one by one, and of words joined by "or", in parts, which are below 2 ^ b.
-- Assumes nothing.
use Prim.Native.Nat.{ℕ, zero, suc, ◌+◌, ◌-◌, ◌^◌, ◌≤◌, ◌<◌}
use native.Mathlib.Numerals.{add-one}
use native.Mathlib.Omega.{arith}
use mathlib.Core.Bool.{Bool, true, false, ◌&&◌}
use mathlib.Core.List.{List, [], ◌∷◌}
use mathlib.Core.Path.{◌≡◌, refl}
use lib.Bits.{bit_or}
use lib.Dec.{ltb}
use lib.ListN.{length, get_or, take, drop, drop_of_length-le}
use lib.Seq.{drop-cons, drop-drop}
use Rattle.std.specs.List.{list_all}
use Rattle.word.proofs.Bitwise.{or_below}
use Rattle.buddy.proofs.Parts.{and_assoc}
use Rattle.machine.specs.Sound.{every, sound_stack}
use Rattle.machine.proofs.Every.{below}

always : (t : Bool) → (t && true) ≡ t
always true = refl
always false = refl

-- what a test of those passed says, and a test of those left
module _ {A : Type 0} (f : A → Bool) (passed : Bool) (l : List A) (i : ℕ) where
  pub also_next : (d : A) → i < length l → (passed && every f (drop i l)) ≡ ((passed && f (get_or l i d)) && every f (drop (i + 1) l))
  unfolding every
  also_next d h = rw (drop-cons l i d, add-one) (and_assoc passed (f (get_or l i d)) _)

  pub also_end : length l ≤ i → (passed && every f (drop i l)) ≡ passed
  unfolding every
  also_end h = rw (drop_of_length-le l h) (always passed)

-- the library's test of all is this one
pub all_is_every : {A : Type 0} (f : A → Bool) (l : List A) → list_all f l ≡ every f l
unfolding every
all_is_every f [] = refl
all_is_every f (x ∷ xs) = rw (all_is_every f xs)

-- an empty stack has nothing to test
pub stack_none : {A : Type 0} (f : A → Bool) (n : ℕ) (l : List A) → n ≡ 0 → true ≡ sound_stack f n l
unfolding sound_stack every
stack_none f n l none = rw none

-- those that are passed, joined, and those left
abbrev pub parted : ℕ → ℕ → ℕ → List ℕ → Bool
parted b all i words = ltb all (2 ^ b) && every (below (2 ^ b)) (drop i words)

-- a test of the first n entries and of the others
every_split : (f : ℕ → Bool) (n : ℕ) (l : List ℕ) → every f l ≡ (every f (take n l) && every f (drop n l))
unfolding every
every_split f zero l = refl
every_split f (suc n) [] = refl
every_split f (suc n) (x ∷ xs) = rw (every_split f n xs) (and_assoc (f x) (every f (take n xs)) (every f (drop n xs)))

module _ (b all i : ℕ) (words : List ℕ) where
  -- one word more
  pub part_next : i < length words → parted b all i words ≡ parted b (bit_or all (get_or words i 0)) (i + 1) words
  part_next h = rw or_below (also_next (below (2 ^ b)) (ltb all (2 ^ b)) words i 0 h)

  -- those up to another place, joined first
  pub part_on : (e r : ℕ) → i ≤ e → ltb r (2 ^ b) ≡ every (below (2 ^ b)) (take (e - i) (drop i words))
      → parted b all i words ≡ parted b (bit_or all r) e words
  part_on e r h is =
      let up : i + (e - i) ≡ e = omega arith in
      rw (or_below, is, every_split (below (2 ^ b)) (e - i) (drop i words), drop-drop, up)
      (and_assoc (ltb all (2 ^ b)) (every (below (2 ^ b)) (take (e - i) (drop i words))) (every (below (2 ^ b)) (drop e words)))

  -- no word is left
  pub part_end : length words ≤ i → parted b all i words ≡ ltb all (2 ^ b)
  part_end h = also_end (below (2 ^ b)) (ltb all (2 ^ b)) words i h
