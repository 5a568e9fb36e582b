-- The widths of an engine's words. Assumes nothing.
use Rattle.std.proofs.Common.{◌≡◌, ℕ, ◌≤◌, true, ◌||◌, eqb, arith, eqb-true}
use Rattle.word.specs.Word.{is_width}
use Rattle.word.proofs.Tests.{by_eqb}

-- a width is one of two
pub width_range : (b : ℕ) → is_width b ≡ true → (8 ≤ b) × (b ≤ 48)
unfolding is_width
width_range b is =
    by_eqb (λ t. (t || eqb b 48) ≡ true → (8 ≤ b) × (b ≤ 48)) b 36
    (λ e _. (omega arith, omega arith))
    (λ _ later. let e = eqb-true b 48 later in (omega arith, omega arith)) is
