-- `typed::values::digit_as` meets its contract. Each return is one case of the definition: a field, a Hollerith literal's period or other
-- character, a digit. Assumes nothing.
use native.Mathlib.Numerals.{add-one}
use Prim.Native.Nat.{ℕ, suc, ◌-◌}
use mathlib.Core.Path.{ap, sym, ◌∙◌}
use borrow.Author.Tests.{eq-eqb, ne_eqb}
use Rattle.character.specs.Character.{code_of, period}
use Rattle.lines.specs.Words.{name_number, character_code}
use Rattle.typed.specs.Values.{digit_as}
use Rattle.typed.proofs.Valuing.{digit_other}
use Rattle.typed.proofs.values.digit_as.Goals as goal

pub returns-in-Field : goal.returns-in-Field
unfolding digit_as
returns-in-Field c = rw c.in-Field.is (add-one c.name_number.result ∙ ap suc (c.name_number.ensures.0 ∙ ap name_number c.from-n.ensures))

pub returns-in-Hollerith : goal.returns-in-Hollerith
unfolding digit_as character_code period
returns-in-Hollerith c = rw (c.in-Hollerith.is, eq-eqb _ 46 (sym c.from-n.ensures ∙ c.if-n-eq-PERIOD.true))

pub returns-in-Hollerith-2 : goal.returns-in-Hollerith-2
unfolding digit_as character_code
returns-in-Hollerith-2 c =
    rw (c.in-Hollerith-2.is, ne_eqb _ 46 (λ e. c.if-n-eq-PERIOD.false (c.from-n.ensures ∙ e)))
    (c.code_of.ensures ∙ ap code_of (c.name_number-in-Hollerith-2.ensures.0 ∙ ap name_number c.from-n.ensures))

pub returns-in_default : goal.returns-in_default
returns-in_default c =
    c.saturating_sub.ensures ∙ ap (λ (n : ℕ). n - 48) c.from-n.ensures
    ∙ sym (digit_other c.args.kind c.args.x c.in_default.not-Field c.in_default.not-Hollerith)
