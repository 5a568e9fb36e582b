-- What each operation with a meaning of its own has, and what every operation that computes has, the meaning of any code has.
-- Assumes nothing.
use Prim.Native.Nat.{ℕ, zero, suc, ◌+◌}
use native.Mathlib.Nat.{add-zero, add-suc, suc-add}
use mathlib.Core.List.{List, [], ◌∷◌}
use mathlib.Core.Path.{sym, subst, ◌∙◌}
use lib.ListN.{get_or}
use Rattle.machine.specs.Answer.{Checked}
use Rattle.machine.specs.Locate.{Value}
use Rattle.machine.specs.Operations.{Meaning, Operation, own, computes, meaning_of, computing}

-- an operation's own meaning, with its code
pub record Own : Type 0 where
  pub code : ℕ
  pub meaning : Meaning

-- the operations of a list, from code i on, that have a meaning of their own
unfoldable pub own_from : ℕ → List Operation → List Own
own_from i [] = []
own_from i (own m ∷ os) = record { code = i; meaning = m } ∷ own_from (suc i) os
own_from i (computes f ∷ os) = own_from (suc i) os

infixr 10 ◌⨾◌
-- one after the other has what is asked of it
pub data Each (P : Own → Type 0) : List Own → Type 0 where
  end : Each P []
  ◌⨾◌ : {x : Own} {xs : List Own} → P x → Each P xs → Each P (x ∷ xs)

first : {P : Own → Type 0} {x : Own} {xs : List Own} → Each P (x ∷ xs) → P x
first (p ⨾ ps) = p

rest : {P : Own → Type 0} {x : Own} {xs : List Own} → Each P (x ∷ xs) → Each P xs
rest (p ⨾ ps) = ps

module _ (P : ℕ → Meaning → Type 0) (computed : (n : ℕ) (f : ℕ → Value → Value → Checked ℕ) → P n (computing f)) (d : Meaning) (other : (n : ℕ) → P n d) where
  further : (i n : ℕ) {m : Meaning} → P (suc i + n) m → P (i + suc n) m
  further i n {m} h = subst (λ j. P j m) (suc-add i n ∙ sym (add-suc i n)) h

  pub at_code : (i : ℕ) (os : List Operation) → Each (λ x. P x.code x.meaning) (own_from i os) → (n : ℕ) → P (i + n) (meaning_of (get_or os n (own d)))
  unfolding own_from meaning_of
  at_code i [] each n = other (i + n)
  at_code i (own m ∷ os) each zero = rw add-zero (first each)
  at_code i (own m ∷ os) each (suc n) = further i n (at_code (suc i) os (rest each) n)
  at_code i (computes f ∷ os) each zero = rw add-zero (computed i f)
  at_code i (computes f ∷ os) each (suc n) = further i n (at_code (suc i) os each n)
