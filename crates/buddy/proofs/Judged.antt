-- The numbers of a set-up as code judges them: the largest size first, then the addresses, then the words. Assumes nothing.
use Rattle.std.proofs.Common.{◌≡◌, ℕ, suc, ◌-◌, ◌%◌, ◌<◌, ◌≤◌, Bool, true, false, ◌&&◌, eqb, ltb, leb, sym, ap, ◌∙◌, arith, eq-eqb, ne_eqb, leb-true}
use Rattle.word.proofs.Tests.{and_true}
use Rattle.block.specs.declared.SetUp.{SetUp}
use Rattle.block.specs.Blocks.{size, level}
use Rattle.block.specs.SetUp.{top, words, fitting}
use Rattle.block.proofs.Size.{size_pos}

-- the addresses: positive, a multiple of the largest size, in order, at most 32767
abbrev pub placed : ℕ → ℕ → ℕ → Bool
placed d s1 s2 = ltb 0 s1 && eqb (s1 % d) 0 && leb s1 s2 && leb s2 32767

module _ (lent : ℕ) (u : SetUp) where
  pub not_largest : (size (top u.d) ≡ u.d → ⊥) → false ≡ fitting lent u
  unfolding fitting
  not_largest other = rw (ne_eqb _ _ other)

  module _ (largest : size (top u.d) ≡ u.d) where
    pub largest_pos : 0 < u.d
    largest_pos = omega (arith, size_pos (top u.d))

    pub not_placed : placed u.d u.s1 u.s2 ≡ false → false ≡ fitting lent u
    unfolding fitting
    not_placed other = rw (eq-eqb _ _ largest, other)

    pub words_judged : placed u.d u.s1 u.s2 ≡ true → (w : ℕ) → w ≡ suc u.s2 - u.s1
        → (eqb (w % u.d) 0 && leb w 4096 && leb w lent) ≡ fitting lent u
    unfolding fitting words
    words_judged there w is = rw (is, eq-eqb _ _ largest, there, ne_eqb u.d 0 (λ z. absurd (omega (arith, largest_pos))))

-- the largest size, as code finds it
pub found_largest : (k n d : ℕ) → k ≡ level 7 d → n ≡ size k → n ≡ d → size (top d) ≡ d
unfolding top
found_largest k n d ek en is = ap size (sym ek) ∙ sym en ∙ is

-- what is known of addresses that are placed
pub placed_order : (d s1 s2 : ℕ) → placed d s1 s2 ≡ true → (s1 ≤ s2) × (s2 ≤ 32767)
placed_order d s1 s2 h =
    let (h₁, last) = and_true (ltb 0 s1 && eqb (s1 % d) 0 && leb s1 s2) (leb s2 32767) h in
    (leb-true s1 s2 (and_true (ltb 0 s1 && eqb (s1 % d) 0) (leb s1 s2) h₁).1, leb-true s2 32767 last)
