-- `typed::values::either` meets its contract. Each branch is one case of what is asked: a field designator, whose value is below 2^48
-- (`field_small`), or a literal. Assumes nothing.
use mathlib.Core.Path.{refl, sym, ◌∙◌}
use Rattle.typed.proofs.Valuing.{field_small, field_value, pair_is}
use Rattle.typed.proofs.values.either.Goals as goal

pub valued-requires : goal.valued-requires
valued-requires c = field_small _ (sym c.is_field.ensures ∙ c.if-is_field.true)

pub valued-requires-else-is_field : goal.valued-requires-else-is_field
valued-requires-else-is_field c = c.requires (sym c.is_field.ensures ∙ c.if-is_field.false)

pub returns-then-is_field : goal.returns-then-is_field
returns-then-is_field c =
    rw (sym c.is_field.ensures ∙ c.if-is_field.true)
    (pair_is c.valued.ensures.0 c.valued.ensures.1 (sym (field_value c.args.w.now)))

pub returns-else-is_field : goal.returns-else-is_field
returns-else-is_field c = rw (sym c.is_field.ensures ∙ c.if-is_field.false) (pair_is c.valued-else-is_field.ensures.0 c.valued-else-is_field.ensures.1 refl)
