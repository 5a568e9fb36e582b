-- Steps of the loops over the rows of a list. Assumes nothing.
use Prim.Native.Nat.{ℕ, zero, suc, ◌+◌, ◌-◌, ◌<◌, ◌≤◌}
use native.Mathlib.Numerals.{sub-one}
use native.Mathlib.Omega.{arith}
use mathlib.Core.Bool.{true, false, ◌&&◌}
use mathlib.Core.List.{List, map-append}
use mathlib.Core.Path.{◌≡◌, sym, ap, ◌∙◌}
use borrow.Author.Tests.{lt-ltb, le-ltb}
use lib.Dec.{ltb}
use lib.ListN.{length, take}
use lib.Seq.{take-length}
use Rattle.std.proofs.Common.{Option, None}
use Rattle.recordings.specs.Recordings.{row_count, number_of, next_of, stop_of, nexts_inside, is_list, chain}
use Rattle.recordings.specs.Walking.{stops, lesser}
use Rattle.recordings.proofs.Chain.{At, at_passed}
use Rattle.recordings.proofs.Stops.{LeastOf, least_none, least_more}

-- the next index of the rows below a row, by that of the row before it
module _ (xs : List ℕ) (row next : ℕ) (some : 0 < row) (is : next ≡ number_of xs (row - 1) 0) where
  opened : nexts_inside xs row ≡ (ltb next (row_count xs) && nexts_inside xs (row - 1))
  unfolding nexts_inside next_of
  opened = by_pred row some ∙ ap (λ (n : ℕ). ltb n (row_count xs) && nexts_inside xs (row - 1)) (sym is)
    where
      by_pred : (row : ℕ) → 0 < row → nexts_inside xs row ≡ (ltb (number_of xs (row - 1) 0) (row_count xs) && nexts_inside xs (row - 1))
      by_pred zero h = absurd (omega arith)
      by_pred (suc row) h = ap (λ (r : ℕ). ltb (number_of xs r 0) (row_count xs) && nexts_inside xs r) (sym (sub-one (suc row)))

  pub next_outside : row_count xs ≤ next → nexts_inside xs row ≡ false
  next_outside h = opened ∙ rw (le-ltb next (row_count xs) h)

  pub next_passed : next < row_count xs → nexts_inside xs (row - 1) ≡ nexts_inside xs row
  next_passed h = sym (opened ∙ rw (lt-ltb next (row_count xs) h))

pub nexts_none : (xs : List ℕ) (row : ℕ) → row ≡ 0 → nexts_inside xs row ≡ true
unfolding nexts_inside
nexts_none xs row e = ap (nexts_inside xs) e

-- the least stop of the rows passed
module _ (xs : List ℕ) (low : ℕ) where
  pub least_start : LeastOf low (stops xs (take 0 (chain xs))) None
  least_start = least_none low

  pub least_step : (is : is_list xs ≡ true) {i row : ℕ} (at : At xs i row) → i < length (chain xs) → (found : Option ℕ)
      → LeastOf low (stops xs (take i (chain xs))) found → LeastOf low (stops xs (take (i + 1) (chain xs))) (lesser low found (stop_of xs row))
  least_step is {i} {row} at more found least = rw (
    at_passed xs is at more,
    map-append,
  ) (least_more low (stops xs (take i (chain xs))) (stop_of xs row) found least)

  pub least_end : (i : ℕ) → i ≡ length (chain xs) → (found : Option ℕ) → LeastOf low (stops xs (take i (chain xs))) found
      → LeastOf low (stops xs (chain xs)) found
  least_end i e found least = rw (e, take-length) at least
