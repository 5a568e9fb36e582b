-- Values made by their code. Assumes nothing.
use Rattle.std.specs.Prelude.{Ok, Err, Some, None, ok_or, Option as Answer}
use Prim.Native.Nat.{ℕ, suc, ◌-◌, ◌≤◌, ◌<◌}
use native.Mathlib.Omega.{arith}
use mathlib.Core.Option.{Option, none, some}
use mathlib.Core.Path.{◌≡◌}
use borrow.Author.Tests.{eq-eqb, ne_eqb, le-leb, lt-leb}
use Rattle.word.specs.Told.{Told}
use Rattle.word.specs.Word.{nearest}
use Rattle.character.specs.Converted.{told_converted, converting}
use Rattle.machine.specs.declared.Refusal.TheVariants.{ZeroDivisor, NotADigit, SubtrahendGreater}
use Rattle.machine.specs.Answer.{passed, told, refusal_number, need, ◌>>◌}
use Rattle.machine.specs.Locate.{Value}
use Rattle.machine.specs.Operations.{difference, quotient, or_refuse}
use Rattle.operands.specs.Reading.{valued}
use Rattle.operations.specs.Plans.{value_by}
use Rattle.operations.specs.Answers.{told_computed}

-- a value that is made, at a code that is known
pub made : (b : ℕ) (a x : Value) {code k v r : ℕ} → code ≡ k → r ≡ v → value_by k b a x ≡ passed v → told_computed (Ok r) ≡ told (value_by code b a x)
unfolding told_computed told
made b a x e same is = rw (e, is, same)

-- a code that is none of the lower ones is higher, and the highest is left
pub past : {k code : ℕ} → k ≤ code → (code ≡ k → ⊥) → suc k ≤ code
past low other = omega arith

pub highest : {k code : ℕ} → k ≤ code → code ≤ k → code ≡ k
highest low high = omega arith

-- an answer, at a code that is known
pub answered : (b : ℕ) (a x : Value) {code k : ℕ} {t : Told ℕ} → code ≡ k → t ≡ told (value_by k b a x) → t ≡ told (value_by code b a x)
answered b a x e is = rw e is

module _ (x y : ℕ) where
  pub too_great : x < y → told_computed (Err SubtrahendGreater) ≡ told (difference 0 (valued x 0) (valued y 0))
  unfolding difference told_computed told need ◌>>◌
  too_great h = rw (lt-leb y x h)

  pub not_greater : y ≤ x → {r : ℕ} → r ≡ x - y → told_computed (Ok r) ≡ told (difference 0 (valued x 0) (valued y 0))
  unfolding difference told_computed told need ◌>>◌
  not_greater h is = rw (le-leb y x h, is)

  pub no_divisor : y ≡ 0 → told_computed (Err ZeroDivisor) ≡ told (quotient 0 (valued x 0) (valued y 0))
  unfolding quotient told_computed told need ◌>>◌
  no_divisor z = rw (eq-eqb y 0 z)

  pub divisor : (y ≡ 0 → ⊥) → {r : ℕ} → r ≡ nearest x y → told_computed (Ok r) ≡ told (quotient 0 (valued x 0) (valued y 0))
  unfolding quotient told_computed told need ◌>>◌
  divisor z is = rw (ne_eqb y 0 z, is)

-- what is told of a conversion, told of the operation
pub digits : (k : Option ℕ) (answer : Answer ℕ) → told_converted answer ≡ converting k
    → told_computed (ok_or answer NotADigit) ≡ told (or_refuse k NotADigit)
unfolding told_converted converting told_computed told or_refuse refusal_number
digits (some y) (Some v) is = is
digits (some y) None is = is
digits none (Some v) is = is
digits none None is = is
