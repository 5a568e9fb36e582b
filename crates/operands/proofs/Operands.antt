-- Operands taken apart. Assumes nothing.
use Rattle.std.specs.Prelude.{Result, Ok, Err}
use Rattle.operands.specs.declared.Spot.{Spot}
use Rattle.machine.specs.declared.Refusal.{Refusal}
use Prim.Native.Nat.{ℕ, ◌^◌, ◌≤◌, ◌<◌}
use Rattle.word.specs.Field.{width}
use Rattle.table.specs.declared.BugLetter.{BugLetter}
use native.Mathlib.Omega.{arith}
use mathlib.Core.Bool.{true, false}
use mathlib.Core.Path.{◌≡◌, refl, subst}
use borrow.Author.Tests.{eq-eqb, ne_eqb, eqb-true, eqb-false, lt-ltb, ltb-true}
use lib.Dec.{eqb, ltb}
use lib.Pow.{pow_pos}
use Rattle.word.proofs.Field.{field_word, width_le}
use Rattle.table.specs.declared.Pair.{Pair}
use Rattle.machine.specs.declared.Location.{Location}
use Rattle.machine.specs.declared.Location.TheVariants.{Bug, Field}
use Rattle.machine.specs.Answer.{passed, told, ◌>>=◌}
use Rattle.machine.specs.Locate.{World, Value, contents, width_of, contents_of, read, locate, operand}
use Rattle.machine.proofs.Checks.{bind_passed, passed_same}
use Rattle.machine.proofs.Every.{every_get_d}
use Rattle.operands.proofs.Readable.{locate_reached}
use Rattle.operands.proofs.Answers.{at_is, holds_is, stopped_is}
use Rattle.operands.specs.Locating.{located}
use Rattle.operands.specs.Reading.{leads, standing, told_linked, told_value, Readable, Reached, Taken, valued}

-- the bits of a location, by its case
pub bug_width : {b : ℕ} {at : Location} {x : BugLetter} → at ≡ Bug x → b ≡ width_of b at
unfolding width_of
bug_width e = rw e

pub field_width : (b : ℕ) {address left right : ℕ} {at : Location} → at ≡ Field address left right → width left right ≡ width_of b at
unfolding width_of
field_width b e = rw e

-- an operand by its form
module _ (b : ℕ) (w : World) (p : Pair) where
  pub literal : p.form ≡ 1 → told_value b (Ok (record { at = 0; holds = p.value })) ≡ told (operand b w p)
  unfolding operand told_value told located width_of
  literal f = rw (eq-eqb _ _ f)

  pub found : (p.form ≡ 1 → ⊥) → (answer : Result Spot Refusal) → told_linked answer ≡ told (standing (contents b w) (leads b w p.value))
      → told_value b answer ≡ told (operand b w p)
  unfolding operand locate leads told_linked told_value told standing read ◌>>=◌
  found f (Ok x) is =
      let at = at_is (contents b w) (leads b w p.value) is refl in
      let holds = holds_is (contents b w) (leads b w p.value) is refl in
      rw (ne_eqb _ _ f, at, holds)
  found f (Err r) is = rw (ne_eqb _ _ f, stopped_is (contents b w) (leads b w p.value) is refl)

-- what stands at a location is below 2 ^ b, and no wider than b bits
module _ (b : ℕ) (w : World) (h : Readable b w) where
  pub contents_small : (at : Location) → Reached b w.setup.s1 w.storage at → contents b w at < 2 ^ b
  unfolding contents_of Reached
  contents_small (Bug x) r = ltb-true _ _ (every_get_d (λ n. ltb n (2 ^ b)) x.0 w.bugs 0 h.bugs (lt-ltb 0 (2 ^ b) (pow_pos b)))
  contents_small (Field address left right) r = field_word b left right _ r.0

  pub width_small : (at : Location) → Reached b w.setup.s1 w.storage at → width_of b at ≤ b
  unfolding width_of Reached
  width_small (Bug x) r = omega arith
  width_small (Field address left right) r = width_le b left right r.0

  pub operand_small : (p : Pair) → Taken b p → (x : Value) → operand b w p ≡ passed x → (x.value < 2 ^ b) × (x.width ≤ b)
  unfolding operand read
  operand_small p t x k =
      elim (eqb p.form 1) as (λ s. eqb p.form 1 ≡ s → (x.value < 2 ^ b) × (x.width ≤ b)) [
        | true ↦ λ e.
            let same : passed (valued p.value b) ≡ passed x = rw e at k in
            subst (λ (v : Value). (v.value < 2 ^ b) × (v.width ≤ b)) (passed_same same) (t.literal (eqb-true _ _ e), omega arith)
        | false ↦ λ e.
            let leads : (locate b w p >>= λ at. passed (read b w at)) ≡ passed x = rw e at k in
            let (at, k₁, k₂) = bind_passed _ _ leads in
            let r = locate_reached b w h p (t.reference (eqb-false _ _ e)) at k₁ in
            subst (λ (v : Value). (v.value < 2 ^ b) × (v.width ≤ b)) (passed_same k₂) (contents_small at r, width_small at r)
      ] refl
