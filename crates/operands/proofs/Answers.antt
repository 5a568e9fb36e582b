-- Answers of locate and operand taken apart: what is told of them is told of the checks. Assumes nothing.
use Rattle.std.specs.Prelude.{Result, Ok, Err}
use Rattle.std.specs.Result.{IsErrAnd}
use Prim.Native.Nat.{ℕ}
use native.Mathlib.Omega.{arith}
use mathlib.Core.Path.{◌≡◌, sym, ap, ◌∙◌}
use Rattle.machine.specs.declared.Location.{Location}
use Rattle.machine.specs.declared.Refusal.{Refusal}
use Rattle.machine.specs.Answer.{Checked, refused, passed, told, ◌>>=◌}
use Rattle.machine.specs.Locate.{Value}
use Rattle.machine.proofs.Checks.{bind_passed, passed_same}
use Rattle.machine.proofs.Numbers.{told_passed, told_refused}
use Rattle.operands.specs.declared.Spot.{Spot}
use Rattle.operands.specs.Locating.{located, bits_at}
use Rattle.operands.specs.Reading.{Stand, standing, told_linked, told_value, valued}

-- the exit of a `?` returns the error that it met
pub exits : {T : Type 0} {r : Result T Refusal} {e : Refusal} → IsErrAnd r (λ y. y ≡ e) → r ≡ Err e
exits {r = Ok x} h = absurd h
exits {r = Err y} h = ap Err h

-- and of one that `ok_or` gave, the error named there
pub exits_with : {T U : Type 0} {r : Result T Refusal} {x e : Refusal} → IsErrAnd r (λ y. y ≡ x) → ◌≡◌ {A = Result U Refusal} (Err x) (Err e)
    → r ≡ Err e
exits_with {x} {e} h is = let same : x ≡ e = cc in exits h ∙ ap Err same

-- where nothing stands, there is no location
not_standing : (f : Location → ℕ) (k : Checked Location) {r : Refusal} → standing f k ≡ refused r → k ≡ refused r
unfolding standing ◌>>=◌
not_standing f (refused q) e = cc
not_standing f (passed x) e = let never : ◌≡◌ {A = ℕ} 0 1 = cc in absurd (omega arith)

-- what code finds
abbrev stand : Spot → Stand
stand x = record { at = located x.at; holds = x.holds }

-- an answer of locate, by its case
module _ (f : Location → ℕ) (k : Checked Location) {answer : Result Spot Refusal} (is : told_linked answer ≡ told (standing f k)) where
  module _ {x : Spot} (to : answer ≡ Ok x) where
    led : (at : Location) × (k ≡ passed at) × (passed (record { at = at; holds = f at }) ≡ passed (stand x))
    unfolding told_linked standing
    led = bind_passed k _ (told_passed (standing f k) (sym (ap told_linked to) ∙ is))

    pub at_is : k ≡ passed (located x.at)
    at_is = let (_, k₁, k₂) = led in k₁ ∙ ap (λ (s : Stand). passed s.at) (passed_same k₂)

    pub holds_is : x.holds ≡ f (located x.at)
    holds_is =
        let (_, _, k₂) = led in
        sym (ap (λ (s : Stand). s.holds) (passed_same k₂)) ∙ ap (λ (s : Stand). f s.at) (passed_same k₂)

  pub stopped_is : {r : Refusal} → answer ≡ Err r → k ≡ refused r
  unfolding told_linked
  stopped_is to = not_standing f k (told_refused (standing f k) (sym (ap told_linked to) ∙ is))

-- an answer of operand, by its case
module _ (b : ℕ) (k : Checked Value) {answer : Result Spot Refusal} (is : told_value b answer ≡ told k) where
  pub value_is : {x : Spot} → answer ≡ Ok x → k ≡ passed (valued x.holds (bits_at b x.at))
  unfolding told_value
  value_is to = told_passed k (sym (ap (told_value b) to) ∙ is)

  pub no_value_is : {r : Refusal} → answer ≡ Err r → k ≡ refused r
  unfolding told_value
  no_value_is to = told_refused k (sym (ap (told_value b) to) ∙ is)
