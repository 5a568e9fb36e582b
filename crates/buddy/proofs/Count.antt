-- The trees of a set-up counted by the code: the words divided by the largest size. Assumes nothing.
use Rattle.std.proofs.Common.{◌≡◌, ℕ, ◌+◌, ◌-◌, ◌*◌, ◌/◌, ◌%◌, ◌≤◌, true, false, ◌&&◌, eqb, List, length, take, drop, replicate, sym, refl, div-add-mod', arith}
use Rattle.block.specs.declared.SetUp.{SetUp}
use Rattle.block.specs.Blocks.{size}
use Rattle.block.specs.SetUp.{top, words}
use Rattle.block.specs.Map.{same, keeps}
use Rattle.buddy.specs.Marks.{marks, all_counted}
use Rattle.word.proofs.Tests.{by_test}
use Rattle.block.proofs.Map.{keeps_long}
use Rattle.buddy.proofs.Keeping.{keeps_counted}

module _ (u : SetUp) (k n w : ℕ) (ek : k ≡ top u.d) (en : n ≡ size k) (ew : w ≡ words u) where
  -- a map that keeps the section is as long as the trees and the bytes past the words
  count_long : (m : List ℕ) → keeps u m ≡ true → w / n * n + (length m - w) ≡ length m
  count_long m kept = rw (en, ew, ek) (keeps_long u m kept)

  -- so one that is not does not
  pub count_short : (m : List ℕ) → (w / n * n + (length m - w) ≡ length m → ⊥) → false ≡ keeps u m
  count_short m long = by_test (λ t. t ≡ keeps u m → false ≡ keeps u m) (keeps u m) (λ k e. absurd (long (count_long m k))) (λ k e. e) refl

  -- the trees have as many blocks as bytes that are not zero, and the rest is zero, if the map keeps the section
  pub count_keeps : (m : List ℕ) → w / n * n + (length m - w) ≡ length m
      → (eqb (all_counted k (w / n) 1 m) (1 + marks (take (w / n * n) m)) && same (replicate (length m - w / n * n) 0) (drop (w / n * n) m)) ≡ keeps u m
  count_keeps m long =
      let rest : length m - w / n * n ≡ length m - w = omega arith in
      let fits : w / n * n ≤ length m = omega arith in
      rw rest (rw (en, ew, ek) (sym (keeps_counted u m (rw (en, ew, ek) at fits))))

  -- where the largest size divides the words, they fill them
  pub count_fill : words u % size (top u.d) ≡ 0 → w / n * size k ≡ words u
  count_fill whole = rw (en, ew, ek) (omega (arith, div-add-mod' (words u) (size (top u.d))))
