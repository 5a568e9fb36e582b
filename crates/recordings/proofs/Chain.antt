-- The chain: its rows lie inside the list, a walk meets them one after the other, and it reaches a row a second time exactly where it has not
-- ended after as many rows as the list has. Assumes nothing.
use Prim.Native.Nat.{ℕ, zero, suc, ◌+◌, ◌-◌, ◌*◌, ◌%◌, ◌<◌, ◌≤◌}
use native.Mathlib.Nat.{div-add-mod'}
use native.Mathlib.Numerals.{add-one}
use native.Mathlib.Omega.{arith}
use mathlib.Core.Bool.{true, false, not, ◌||◌, cond}
use mathlib.Core.List.{List, [], ◌∷◌, ◌++◌}
use mathlib.Core.Path.{◌≡◌, refl, sym, ap, ◌∙◌}
use borrow.Author.Tests.{ltb-true, eqb-true, not-true, eq-eqb, ne_eqb}
use lib.Dec.{eqb, ltb}
use lib.ListN.{length, take, drop, get_or, length-drop}
use lib.Seq.{drop-drop, take-suc, drop-cons}
use Rattle.word.proofs.Tests.{by_test, by_eqb, and_true}
use Rattle.recordings.specs.Recordings.{row_count, next_of, first_row, zeros_after, nexts_inside, is_list, reached, chain, member}
use Rattle.recordings.specs.Recordings.{has_twice}
use Rattle.recordings.proofs.Counting.{Each, each_none, each_more, no_both, few_below}

-- a list that is not refused by 26
module _ (xs : List ℕ) (is : is_list xs ≡ true) where
  parts : (not (eqb (length xs) 0) ≡ true) × (eqb (length xs % 4) 0 ≡ true) × (nexts_inside xs (row_count xs) ≡ true)
  unfolding is_list
  parts =
      let some = and_true (not (eqb (length xs) 0)) _ is in
      let whole = and_true (eqb (length xs % 4) 0) _ some.1 in
      (some.0, whole.0, (and_true (zeros_after xs) _ whole.1).1)

  pub whole_rows : row_count xs * 4 ≡ length xs
  whole_rows = omega (arith, div-add-mod' (length xs) 4, eqb-true (length xs % 4) 0 parts.1)

  pub some_row : 0 < row_count xs
  some_row =
      by_eqb (λ _. 0 < row_count xs) (length xs) 0 (λ e. absurd (no_both (eq-eqb (length xs) 0 e) (not-true _ parts.0)))
      (λ other. omega (arith, whole_rows))

  -- number k of a row that is inside
  pub number_inside : (row k : ℕ) → row < row_count xs → k < 4 → 4 * row + k < length xs
  number_inside row k h few = omega (arith, whole_rows)

  pub next_inside : (row : ℕ) → row < row_count xs → next_of xs row < row_count xs
  unfolding nexts_inside
  next_inside row = each (row_count xs) parts.2
    where
      each : (n : ℕ) → nexts_inside xs n ≡ true → row < n → next_of xs row < row_count xs
      each zero all h = absurd (omega arith)
      each (suc n) all h =
          let both = and_true (ltb (next_of xs n) (row_count xs)) _ all in
          by_eqb (λ _. next_of xs row < row_count xs) row n
          (λ e. rw e (ltb-true (next_of xs n) (row_count xs) both.0))
          (λ other. each n both.1 (omega arith))

  -- the rows of a chain from a row that is inside are inside, and none is row 0
  pub rows_inside : (n row : ℕ) → row < row_count xs → Each (λ x. (x < row_count xs) × (0 < x)) (reached xs n row)
  unfolding reached
  rows_inside zero row h = each_none _
  rows_inside (suc n) row h =
      by_eqb (λ t. Each (λ x. (x < row_count xs) × (0 < x)) (cond t [] (row ∷ reached xs n (next_of xs row)))) row 0
      (λ _. each_none _)
      (λ other. each_more row (reached xs n (next_of xs row)) (h, omega arith) (rows_inside n (next_of xs row) (next_inside row h)))

  pub chain_inside : Each (λ x. (x < row_count xs) × (0 < x)) (chain xs)
  unfolding chain
  chain_inside = rows_inside (row_count xs) (first_row xs) (next_inside 0 some_row)

module _ (xs : List ℕ) where
  -- one more row of a chain that has not ended
  pub reached_next : (n row : ℕ) → 0 < length (reached xs n row) → reached xs n row ≡ row ∷ reached xs (n - 1) (next_of xs row)
  unfolding reached
  reached_next zero row = λ h. absurd (omega arith)
  reached_next (suc n) row =
      by_eqb (λ t. 0 < length (cond t [] (row ∷ reached xs n (next_of xs row)))
      → cond t [] (row ∷ reached xs n (next_of xs row)) ≡ row ∷ reached xs (suc n - 1) (next_of xs row)) row 0
      (λ _ h. absurd (omega arith))
      (λ _ _. let less : n ≡ suc n - 1 = omega arith in ap (λ (m : ℕ). row ∷ reached xs m (next_of xs row)) less)

  pub reached_most : (n row : ℕ) → length (reached xs n row) ≤ n
  unfolding reached
  reached_most zero row = omega arith
  reached_most (suc n) row =
      by_eqb (λ t. length (cond t [] (row ∷ reached xs n (next_of xs row))) ≤ suc n) row 0 (λ _. omega arith)
      (λ _. omega (arith, reached_most n (next_of xs row)))

  pub reached_some : (n row : ℕ) → 0 < n → (row ≡ 0 → ⊥) → 0 < length (reached xs n row)
  unfolding reached
  reached_some zero row some other = absurd (omega arith)
  reached_some (suc n) row some other = rw (ne_eqb row 0 other) (omega arith)

  pub reached_zero : (n row : ℕ) → row ≡ 0 → length (reached xs n row) ≡ 0
  unfolding reached
  reached_zero zero row e = refl
  reached_zero (suc n) row e = rw (eq-eqb row 0 e)

  -- a chain that ends does so after the same rows, however far it is followed
  ends_once : (n m row : ℕ) → length (reached xs n row) < n → length (reached xs m row) < m → length (reached xs n row) ≡ length (reached xs m row)
  unfolding reached
  ends_once zero m row = λ h k. absurd (omega arith)
  ends_once (suc n) zero row = λ h k. absurd (omega arith)
  ends_once (suc n) (suc m) row =
      by_eqb (λ t. length (cond t [] (row ∷ reached xs n (next_of xs row))) < suc n → length (cond t [] (row ∷ reached xs m (next_of xs row))) < suc m
      → length (cond t [] (row ∷ reached xs n (next_of xs row))) ≡ length (cond t [] (row ∷ reached xs m (next_of xs row)))) row 0
      (λ _ _ _. refl)
      (λ _ h k. ap suc (ends_once n m (next_of xs row) (omega arith) (omega arith)))

  -- from a row that it reaches a chain that ends has no more rows than from its start
  record Shorter (n row other : ℕ) : Type 0 where
    fuel : ℕ
    ends : length (reached xs fuel other) < fuel
    most : length (reached xs fuel other) ≤ length (reached xs n row)

  shorter : (n row other : ℕ) → member other (reached xs n row) ≡ true → length (reached xs n row) < n → Shorter n row other
  unfolding reached member
  shorter zero row other = λ is h. absurd (omega arith)
  shorter (suc n) row other =
      by_eqb (λ t. member other (cond t [] (row ∷ reached xs n (next_of xs row))) ≡ true
      → length (cond t [] (row ∷ reached xs n (next_of xs row))) < suc n → Shorter (suc n) row other) row 0
      (λ _ is h. absurd (no_both is refl))
      (λ some is h. by_eqb (λ t. (t || member other (reached xs n (next_of xs row))) ≡ true → Shorter (suc n) row other) other row
      (λ e _. record {
        fuel = suc n;
        ends = rw (e, ne_eqb row 0 some) h;
        most = rw e (omega arith);
      })
      (λ _ later. let less = shorter n (next_of xs row) other later (omega arith) in record {
        fuel = less.fuel;
        ends = less.ends;
        most = rw (ne_eqb row 0 some) (omega (arith, less.most));
      })
      is)

  -- a chain that ends reaches no row twice
  pub ended_once : (n row : ℕ) → length (reached xs n row) < n → has_twice (reached xs n row) ≡ false
  unfolding reached has_twice
  ended_once zero row = λ h. absurd (omega arith)
  ended_once (suc n) row =
      by_eqb (λ t. length (cond t [] (row ∷ reached xs n (next_of xs row))) < suc n → has_twice (cond t [] (row ∷ reached xs n (next_of xs row))) ≡ false) row 0
      (λ _ _. refl)
      (λ some h. by_test (λ t. (t || has_twice (reached xs n (next_of xs row))) ≡ false) (member row (reached xs n (next_of xs row)))
      (λ again. let less = shorter n (next_of xs row) row again (omega arith) in
      let whole : length (reached xs (suc n) row) ≡ suc (length (reached xs n (next_of xs row))) = rw (ne_eqb row 0 some) in
      let same = ends_once less.fuel (suc n) row less.ends (omega arith) in
      absurd (omega (arith, less.most)))
      (λ _. ended_once n (next_of xs row) (omega arith)))

-- 27 by the chain's length
module _ (xs : List ℕ) (is : is_list xs ≡ true) where
  pub chain_once : length (chain xs) < row_count xs → has_twice (chain xs) ≡ false
  unfolding chain
  chain_once h = ended_once xs (row_count xs) (first_row xs) h

  pub chain_most : length (chain xs) ≤ row_count xs
  unfolding chain
  chain_most = reached_most xs (row_count xs) (first_row xs)

  -- as many rows as the list has, none of them row 0, can't all differ
  pub chain_twice : length (chain xs) ≡ row_count xs → has_twice (chain xs) ≡ true
  unfolding has_twice
  chain_twice full =
      by_test (λ t. t ≡ true) (has_twice (chain xs)) (λ _. refl) λ once.
      let with-0 = few_below (0 ∷ chain xs) (row_count xs) (zero_once once)
      (each_more 0 (chain xs) (some_row xs is) (λ x there. (chain_inside xs is x there).0)) in
      absurd (omega arith)
    where
      zero_once : has_twice (chain xs) ≡ false → has_twice (0 ∷ chain xs) ≡ false
      zero_once once =
          by_test (λ t. (t || has_twice (chain xs)) ≡ false) (member 0 (chain xs))
          (λ there. absurd (omega (arith, (chain_inside xs is 0 there).1))) (λ _. once)

-- a walk along the chain that has passed i rows stands at a row: what is left of the chain begins there
pub record At (xs : List ℕ) (i row : ℕ) : Type 0 where
  pub inside : row < row_count xs
  pub rest : drop i (chain xs) ≡ reached xs (row_count xs - i) row

module _ (xs : List ℕ) (is : is_list xs ≡ true) where
  pub at_start : At xs 0 (first_row xs)
  unfolding chain
  at_start =
      record {
        inside = next_inside xs is 0 (some_row xs is);
        rest = ap (λ (n : ℕ). reached xs n (first_row xs)) (omega arith);
      }

  module _ {i row : ℕ} (at : At xs i row) (more : i < length (chain xs)) where
    here : drop i (chain xs) ≡ row ∷ reached xs (row_count xs - i - 1) (next_of xs row)
    here =
        at.rest
        ∙ reached_next xs (row_count xs - i) row (omega (arith, length-drop i (chain xs), ap length at.rest))

    -- the row stands in the chain
    pub at_row : get_or (chain xs) i 0 ≡ row
    at_row = ap (λ (l : List ℕ). get_or l 0 0) (sym (drop-cons (chain xs) i 0 more) ∙ here)

    pub at_next : At xs (i + 1) (next_of xs row)
    at_next =
        record {
          inside = next_inside xs is row at.inside;
          rest =
              sym (drop-drop 1 i (chain xs))
              ∙ ap (drop 1) here
              ∙ ap (λ (n : ℕ). reached xs n (next_of xs row)) (omega arith);
        }

    pub at_passed : take (i + 1) (chain xs) ≡ take i (chain xs) ++ (row ∷ [])
    at_passed = rw (add-one i) (take-suc (chain xs) i 0 more ∙ ap (λ (x : ℕ). take i (chain xs) ++ (x ∷ [])) at_row)

    pub at_left : drop i (chain xs) ≡ row ∷ drop (i + 1) (chain xs)
    at_left = rw (add-one i) (drop-cons (chain xs) i 0 more ∙ ap (λ (x : ℕ). x ∷ drop (suc i) (chain xs)) at_row)

-- where a walk ends: at row 0, or after as many rows as the list has
module _ (xs : List ℕ) {i row : ℕ} (at : At xs i row) where
  left_long : length (chain xs) - i ≡ length (reached xs (row_count xs - i) row)
  left_long = sym (length-drop i (chain xs)) ∙ ap length at.rest

  pub at_more : (row ≡ 0 → ⊥) → i < row_count xs → i < length (chain xs)
  at_more other h = omega (arith, left_long, opened (row_count xs - i) (omega arith))
    where
      opened : (n : ℕ) → 0 < n → 0 < length (reached xs n row)
      opened n some = reached_some xs n row some other

  pub at_zero : row ≡ 0 → i ≤ length (chain xs) → i ≡ length (chain xs)
  at_zero e h = omega (arith, left_long, reached_zero xs (row_count xs - i) row e)

  pub at_last : row_count xs ≤ i → i ≤ length (chain xs) → i ≡ length (chain xs)
  at_last over h = omega (arith, left_long, reached_most xs (row_count xs - i) row)
