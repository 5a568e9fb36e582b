-- How a proof uses a test: by cases, with the fact that each case says, a conjunction that holds by its parts, and a call's answer by its
-- contract and the branch taken. Assumes nothing.
use Rattle.std.proofs.Common.{◌≡◌, ℕ, ◌<◌, ◌≤◌, Bool, true, false, cond, not, ◌&&◌, eqb, leb, sym, refl, ◌∙◌, eqb-true, leb-false, leb-true}
use borrow.Author.Tests.{not-true, not-false, eqb-false}

-- both tests of a conjunction that holds
pub and_true : (s t : Bool) → (s && t) ≡ true → (s ≡ true) × (t ≡ true)
and_true true t e = (refl, e)
and_true false t e = (e, cc)

-- a conjunction with a test that fails
pub and_false : (s : Bool) → (s && false) ≡ false
and_false true = refl
and_false false = refl

-- what holds of both results holds of the one that a test picks
pub either_way : {A : Type 0} (P : A → Type 0) (t : Bool) {x y : A} → P x → P y → P (cond t x y)
either_way P true h l = h
either_way P false h l = l

-- a call answers t, which its contract says is the test s; the branch past `if !t` tells that s holds, the branch into it that s fails
module _ {t s : Bool} (is : t ≡ s) where
  pub known_true : not t ≡ false → s ≡ true
  known_true left = sym is ∙ not-false t left

  pub known_false : not t ≡ true → s ≡ false
  known_false taken = sym is ∙ not-true t taken

module _ (P : Bool → Type 0) where
  -- the cases of a test, each with the equation
  pub by_test : (t : Bool) → (t ≡ true → P true) → (t ≡ false → P false) → P t
  by_test true f g = f refl
  by_test false f g = g refl

  module _ (a b : ℕ) where
    -- the cases of an order; of ltb a b too, which is that of suc a and b
    pub by_leb : (a ≤ b → P true) → (b < a → P false) → P (leb a b)
    by_leb f g = by_test (leb a b) (λ e. f (leb-true a b e)) (λ e. g (leb-false a b e))

    -- the cases of an equation
    pub by_eqb : (a ≡ b → P true) → ((a ≡ b → ⊥) → P false) → P (eqb a b)
    by_eqb f g = by_test (eqb a b) (λ e. f (eqb-true a b e)) (λ e. g (eqb-false a b e))
