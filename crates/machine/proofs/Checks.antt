-- Checks taken apart: what is known once they have passed, and what they come to where their tests are known. Also tests joined by &&.
-- Assumes nothing.
use mathlib.Core.Bool.{Bool, true, false, not, ◌&&◌, ◌||◌, cond}
use mathlib.Core.Logic.{◌⊎◌, inl, inr}
use mathlib.Core.Path.{◌≡◌, refl}
use Prim.Native.Nat.{ℕ}
use native.Mathlib.Omega.{arith}
use borrow.Author.Tests.{eqb-false, not-true}
use lib.Dec.{eqb}
use Rattle.machine.specs.declared.Refusal.{Refusal}
use Rattle.machine.specs.Answer.{Checked, refused, passed, ◌>>=◌, ◌>>◌, need}

-- a test that is both true and false
pub clash : {P : Type 0} → ◌≡◌ {A = Bool} false true → P
clash e = let never : ◌≡◌ {A = ℕ} 0 1 = cc in absurd (omega arith)

-- both tests of && pass
pub and_true : {x y : Bool} → x ≡ true → y ≡ true → (x && y) ≡ true
and_true {x} {y} h k = rw (h, k)

-- one test of || passes
pub or_parts : (x y : Bool) → (x || y) ≡ true → (x ≡ true) ⊎ (y ≡ true)
or_parts true y h = inl refl
or_parts false y h = inr h

-- a number that is tested not to be zero
pub nonzero : (n : ℕ) → not (eqb n 0) ≡ true → n ≡ 0 → ⊥
nonzero n h = eqb-false n 0 (not-true (eqb n 0) h)

-- a check that passed
pub need_passed : {A : Type 0} (t : Bool) (r : Refusal) (m : Checked A) {x : A} → (need t r >> m) ≡ passed x
    → (t ≡ true) × (m ≡ passed x)
unfolding need ◌>>◌
need_passed true r m h = (refl, h)
need_passed false r m h = let never : ◌≡◌ {A = ℕ} 0 1 = cc in absurd (omega arith)

-- what went on passed first
pub bind_passed : {A B : Type 0} (m : Checked A) (f : A → Checked B) {y : B} → (m >>= f) ≡ passed y
    → (x : A) × (m ≡ passed x) × (f x ≡ passed y)
unfolding ◌>>=◌
bind_passed (passed x) f h = (x, refl, h)
bind_passed (refused r) f h = let never : ◌≡◌ {A = ℕ} 0 1 = cc in absurd (omega arith)

-- what stands before passed, and so did what stands after
pub then_passed : {A B : Type 0} (m : Checked A) (n : Checked B) {y : B} → (m >> n) ≡ passed y → (x : A) × (m ≡ passed x) × (n ≡ passed y)
unfolding ◌>>◌
then_passed (passed x) n h = (x, refl, h)
then_passed (refused r) n h = let never : ◌≡◌ {A = ℕ} 0 1 = cc in absurd (omega arith)

-- a check alone that passed
pub need_alone : (t : Bool) (r : Refusal) {x : Unit {0}} → need t r ≡ passed x → t ≡ true
unfolding need
need_alone true r h = refl
need_alone false r h = let never : ◌≡◌ {A = ℕ} 0 1 = cc in absurd (omega arith)

-- what passed is one value
pub passed_same : {A : Type 0} {x y : A} → ◌≡◌ {A = Checked A} (passed x) (passed y) → x ≡ y
passed_same h = cc

-- a check whose test is known
module _ {A : Type 0} (t : Bool) (r : Refusal) (m : Checked A) where
  pub need_yes : t ≡ true → (need t r >> m) ≡ m
  unfolding need ◌>>◌
  need_yes h = rw h

  pub need_no : t ≡ false → (need t r >> m) ≡ refused r
  unfolding need ◌>>◌
  need_no h = rw h

-- going on from what is known
module _ {A B : Type 0} (m : Checked A) (f : A → Checked B) where
  pub bind_yes : {x : A} → m ≡ passed x → (m >>= f) ≡ f x
  unfolding ◌>>=◌
  bind_yes h = rw h

  pub bind_no : {r : Refusal} → m ≡ refused r → (m >>= f) ≡ refused r
  unfolding ◌>>=◌
  bind_no h = rw h

-- a choice by a test that is known
module _ {A : Type 0} (t : Bool) (x y : A) where
  pub cond_yes : t ≡ true → cond t x y ≡ x
  cond_yes h = rw h

  pub cond_no : t ≡ false → cond t x y ≡ y
  cond_no h = rw h

-- checks one after the other, and then more
module _ {A B : Type 0} where
  pub need_bind : (t : Bool) (r : Refusal) (m : Checked A) (g : A → Checked B) → ((need t r >> m) >>= g) ≡ (need t r >> (m >>= g))
  unfolding need ◌>>◌ ◌>>=◌
  need_bind true r m g = refl
  need_bind false r m g = refl

  pub bind_same : (m : Checked A) {f g : A → Checked B} → ((x : A) → f x ≡ g x) → (m >>= f) ≡ (m >>= g)
  unfolding ◌>>=◌
  bind_same (passed x) h = h x
  bind_same (refused r) h = refl

  pub cond_bind : (t : Bool) (m n : Checked A) (g : A → Checked B) → (cond t m n >>= g) ≡ cond t (m >>= g) (n >>= g)
  cond_bind true m n g = refl
  cond_bind false m n g = refl

pub bind_bind : {A B C : Type 0} (m : Checked A) (f : A → Checked B) (g : B → Checked C) → ((m >>= f) >>= g) ≡ (m >>= λ x. f x >>= g)
unfolding ◌>>=◌
bind_bind (passed x) f g = refl
bind_bind (refused r) f g = refl

-- what follows a test counts only where it passes
pub need_when : {A : Type 0} (t : Bool) (r : Refusal) {m n : Checked A} → (t ≡ true → m ≡ n) → (need t r >> m) ≡ (need t r >> n)
unfolding need ◌>>◌
need_when true r h = h refl
need_when false r h = refl

pub need_same : {A : Type 0} (t : Bool) (r : Refusal) {m n : Checked A} → m ≡ n → (need t r >> m) ≡ (need t r >> n)
need_same t r h = need_when t r (λ _. h)
