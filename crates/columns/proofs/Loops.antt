-- Steps of the loops over words and bytes. Assumes nothing.
use Prim.Native.Nat.{ℕ, zero, suc, ◌+◌, ◌-◌, ◌*◌, ◌/◌, ◌^◌, ◌≤◌, ◌<◌}
use native.Mathlib.Nat.{div-lt_iff_lt-mul, div-eq_of_lt}
use native.Mathlib.Numerals.{add-one}
use native.Mathlib.Omega.{arith}
use mathlib.Core.Bool.{Bool, ◌&&◌}
use mathlib.Core.List.{List, [], ◌∷◌, ◌++◌}
use mathlib.Core.Path.{◌≡◌, refl, sym, ap, ap₂, ◌∙◌}
use borrow.Author.Tests.{lt-ltb, le-ltb, eq-eqb, ne_eqb}
use lib.Dec.{eqb, ltb}
use lib.ListN.{length, get_or, drop, take, replicate, length-take, length-drop}
use lib.Pow.{pow_pos}
use lib.Seq.{drop-cons, get_or-take, get_or-drop}
use Rattle.std.specs.List.{list_all, range_with_len}
use Rattle.word.proofs.Tests.{by_leb, by_eqb}
use Rattle.columns.specs.Columns.{each_below, fits_width, groups_of, filled_up}
use Rattle.columns.proofs.Back.{length_filled}

-- past its end a list has zeros
pub past_end : (xs : List ℕ) (i : ℕ) → length xs ≤ i → get_or xs i 0 ≡ 0
past_end [] i h = refl
past_end (x ∷ xs) zero h = absurd (omega arith)
past_end (x ∷ xs) (suc i) h = past_end xs i (omega arith)

drop_all : (xs : List ℕ) (i : ℕ) → length xs ≤ i → drop i xs ≡ []
drop_all [] zero h = refl
drop_all [] (suc i) h = refl
drop_all (x ∷ xs) zero h = absurd (omega arith)
drop_all (x ∷ xs) (suc i) h = drop_all xs i (omega arith)

-- words that fit a width have no bits but the last b
fits_one : (b x : ℕ) → eqb (x / 2 ^ b) 0 ≡ ltb x (2 ^ b)
fits_one b x =
    by_leb (λ t. eqb (x / 2 ^ b) 0 ≡ t) (suc x) (2 ^ b)
    (λ less. eq-eqb (x / 2 ^ b) 0 (div-eq_of_lt less))
    (λ more. ne_eqb (x / 2 ^ b) 0 (λ none. let small = (div-lt_iff_lt-mul {x = x} {y = 1} (pow_pos b)).0 (omega arith) in omega arith))

pub fits_is : (b : ℕ) (xs : List ℕ) → list_all (λ (x : ℕ). eqb (x / 2 ^ b) 0) xs ≡ fits_width b xs
unfolding fits_width each_below
fits_is b [] = refl
fits_is b (x ∷ xs) = ap₂ (λ (s t : Bool). s && t) (fits_one b x) (fits_is b xs)

-- and numbers below 1 are zeros, from a place on
zero_one : (x : ℕ) → eqb x 0 ≡ ltb x 1
zero_one x = by_eqb (λ t. t ≡ ltb x 1) x 0 (λ none. sym (lt-ltb x 1 (omega arith))) (λ some. sym (le-ltb x 1 (omega arith)))

module _ (xs : List ℕ) where
  zeros_from : (k n : ℕ) → n + k ≡ length xs → list_all (λ (i : ℕ). eqb (get_or xs i 0) 0) (range_with_len n k) ≡ each_below 1 (drop n xs)
  unfolding each_below
  zeros_from zero n all = sym (ap (each_below 1) (drop_all xs n (omega arith)))
  zeros_from (suc k) n all =
      ap₂ (λ (s t : Bool). s && t) (zero_one (get_or xs n 0)) (zeros_from k (n + 1) (omega arith))
      ∙ sym (ap (each_below 1) (drop-cons xs n 0 (omega arith)) ∙ ap (λ (m : ℕ). ltb (get_or xs n 0) 1 && each_below 1 (drop m xs)) (sym (add-one n)))

  pub zeros_are : (n : ℕ) → list_all (λ (i : ℕ). eqb (get_or xs i 0) 0) (range_with_len n (length xs - n)) ≡ each_below 1 (drop n xs)
  unfolding each_below
  zeros_are n =
      by_leb (λ _. list_all (λ (i : ℕ). eqb (get_or xs i 0) 0) (range_with_len n (length xs - n)) ≡ each_below 1 (drop n xs)) n (length xs)
      (λ inside. zeros_from (length xs - n) n (omega arith))
      (λ past. let none : length xs - n ≡ 0 = omega arith in rw (none, drop_all xs n (omega arith)))

-- the words of a group: those filled up with are zeros
filled_at : (ws : List ℕ) (k j : ℕ) → get_or (ws ++ replicate k 0) j 0 ≡ get_or ws j 0
filled_at [] k j = zeros k j
  where
    zeros : (k j : ℕ) → ◌≡◌ {A = ℕ} (get_or (replicate k 0) j 0) 0
    zeros zero j = refl
    zeros (suc k) zero = refl
    zeros (suc k) (suc j) = zeros k j
filled_at (x ∷ ws) k zero = refl
filled_at (x ∷ ws) k (suc j) = filled_at ws k j

module _ (ws : List ℕ) (at : ℕ) (inside : at + 8 ≤ 8 * groups_of (length ws)) where
  pub length_group : length (take 8 (drop at (filled_up ws))) ≡ 8
  length_group = simp (length-take, length-drop) (omega (arith, length_filled ws))

  pub group_at : (i : ℕ) → i < 8 → get_or (take 8 (drop at (filled_up ws))) i 0 ≡ get_or ws (at + i) 0
  unfolding filled_up
  group_at i h = rw (get_or-take, get_or-drop) (filled_at ws (8 * groups_of (length ws) - length ws) (at + i))

  pub starts_inside : at ≤ length ws
  unfolding groups_of
  starts_inside = omega arith

-- the bytes of a group
module _ (b : ℕ) (bytes : List ℕ) (at : ℕ) (inside : at + b ≤ length bytes) where
  pub length_part : length (take b (drop at bytes)) ≡ b
  length_part = simp (length-take, length-drop) (omega arith)

  -- also as a slice has them, up to a place
  pub slice_is : take (at + b - at) (drop at bytes) ≡ take b (drop at bytes)
  slice_is = let size : at + b - at ≡ b = omega arith in ap (λ (k : ℕ). take k (drop at bytes)) size

  pub length_slice : length (take (at + b - at) (drop at bytes)) ≡ b
  length_slice = ap length slice_is ∙ length_part
