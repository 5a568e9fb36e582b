-- Each word that is loaded by its group and its place there. Assumes nothing.
use Prim.Native.Nat.{ℕ, suc, ◌+◌, ◌*◌, ◌/◌, ◌%◌, ◌≤◌, ◌<◌}
use native.Mathlib.Nat.{div-add-mod', mod-lt, mul-le-mul_right, suc-mul, div-lt_iff_lt-mul}
use native.Mathlib.Omega.{arith}
use mathlib.Core.List.{List}
use mathlib.Core.Path.{◌≡◌, ap, ◌∙◌}
use lib.ListN.{get_or, take, drop}
use Rattle.character.specs.Character.{number}
use Rattle.columns.specs.Columns.{turned, turned_groups, bits_at}
use Rattle.columns.proofs.Bits.{turned_at, groups_at}

-- number j of groups of n, each made of m, stands in group j / n at place j % n
module _ (n m k : ℕ) (xs : List ℕ) (j : ℕ) (pos : 0 < n) (inside : j < n * k) where
  in_group : j / n < k
  in_group = (div-lt_iff_lt-mul {x = j} {y = k} pos).1 (omega arith)

  pub number_of_lem : get_or (turned_groups n m k xs) j 0 ≡ number 2 0 (bits_at n (j % n) (take m (drop (j / n * m) xs)))
  number_of_lem =
      let whole : j ≡ n * (j / n) + j % n = omega (arith, div-add-mod' j n) in
      let start : m * (j / n) ≡ j / n * m = omega arith in
      ap (λ (i : ℕ). get_or (turned_groups n m k xs) i 0) whole
      ∙ groups_at n m (j / n) k (j % n) xs in_group (mod-lt j pos)
      ∙ ap (λ (i : ℕ). get_or (turned n (take m (drop i xs))) (j % n) 0) start
      ∙ turned_at n (j % n) (take m (drop (j / n * m) xs)) (mod-lt j pos)

  -- the m that it is made of lie among those of all groups
  pub made_inside : j / n * m + m ≤ k * m
  made_inside = let next = mul-le-mul_right {m = suc (j / n)} {n = k} m in_group in omega (arith, suc-mul (j / n) m)
