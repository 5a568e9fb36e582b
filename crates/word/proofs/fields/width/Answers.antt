-- `word::fields::width` meets its contract: the flag is one where there is a field, and zero at the null field. Assumes nothing.
use Rattle.std.proofs.Common.{◌≡◌, ℕ, ◌<◌, ◌≤◌, Bool, true, false, leb, ◌⊎◌, refl, inl, inr, ⊎_elim, arith, leb-false, leb-true}
use mir.Val.{bool_byte}
use Rattle.word.specs.Field.{width}
use Rattle.word.proofs.fields.width.Goals as goal

-- the flag, and what it says
flag : (left right : ℕ) → ((bool_byte (leb left right) ≡ 1) × (left ≤ right)) ⊎ ((bool_byte (leb left right) ≡ 0) × (right < left))
flag left right = go (leb left right) refl
  where
    go : (t : Bool) → leb left right ≡ t → ((bool_byte t ≡ 1) × (left ≤ right)) ⊎ ((bool_byte t ≡ 0) × (right < left))
    go true e = inl (refl, leb-true left right e)
    go false e = inr (refl, leb-false left right e)

pub overflow_mul-result : goal.overflow_mul-result
overflow_mul-result c = ⊎_elim (λ u. rw u.0 (omega arith)) (λ u. rw u.0 (omega arith)) (flag c.args.left c.args.right)

pub overflow_mul-result-2 : goal.overflow_mul-result-2
overflow_mul-result-2 c = ⊎_elim (λ u. rw u.0 (omega arith)) (λ u. rw u.0 (omega arith)) (flag c.args.left c.args.right)

pub overflow_sub-result : goal.overflow_sub-result
overflow_sub-result c = ⊎_elim (λ u. rw u.0 (omega arith)) (λ u. rw u.0 (omega arith)) (flag c.args.left c.args.right)

pub returns : goal.returns
unfolding width
returns c = ⊎_elim (λ u. rw u.0 (omega arith)) (λ u. rw u.0 (omega arith)) (flag c.args.left c.args.right)
