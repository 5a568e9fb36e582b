-- `typed::values::Ready::pair_of` meets its contract: by the kind. Assumes nothing.
use mathlib.Core.Path.{refl, sym, ap, ◌∙◌}
use mathlib.Core.Bool.{cond}
use Prim.Native.Nat.{ℕ}
use Rattle.lines.specs.Words.{is_kind, is_field, field_pair, literal_pair, pair_of}
use Rattle.lines.specs.Walking.{kind_of}
use Rattle.typed.proofs.Valuing.{pair_is, field_small, decimal_below, octal_below, hollerith_below, either_decimal}
use Rattle.typed.proofs.Valuing.{either_octal, field_value, decimal_value, octal_value, hollerith_value}
use Rattle.typed.proofs.values.Ready.pair_of.Goals as goal

pub valued-requires : goal.valued-requires
unfolding is_kind kind_of
valued-requires c = field_small _ (rw c.in-Field.is at c.requires)

pub valued-requires-in-Decimal : goal.valued-requires-in-Decimal
unfolding is_kind kind_of
valued-requires-in-Decimal c = decimal_below _ _ c.args.self.now.labels.width (rw c.in-Decimal.is at c.requires)

pub valued-requires-in-Octal : goal.valued-requires-in-Octal
unfolding is_kind kind_of
valued-requires-in-Octal c = octal_below _ _ c.args.self.now.labels.width (rw c.in-Octal.is at c.requires)

pub valued-requires-in-Hollerith : goal.valued-requires-in-Hollerith
unfolding is_kind kind_of
valued-requires-in-Hollerith c = hollerith_below _ _ c.args.self.now.labels.width (rw c.in-Hollerith.is at c.requires)

pub either-requires : goal.either-requires
unfolding is_kind kind_of
either-requires c = either_decimal _ _ c.args.self.now.labels.width (rw c.in-FieldOrDecimal.is at c.requires)

pub either-requires-in-FieldOrOctal : goal.either-requires-in-FieldOrOctal
unfolding is_kind kind_of
either-requires-in-FieldOrOctal c = either_octal _ _ c.args.self.now.labels.width (rw c.in-FieldOrOctal.is at c.requires)

pub labelled-requires : goal.labelled-requires
unfolding is_kind kind_of
labelled-requires c = rw c.in-Symbol.is at c.requires

pub returns-in-Word : goal.returns-in-Word
unfolding pair_of kind_of
returns-in-Word c = rw c.in-Word.is (pair_is c.plain.ensures.0 c.plain.ensures.1 refl)

pub returns-in-Field : goal.returns-in-Field
unfolding pair_of kind_of
returns-in-Field c = rw c.in-Field.is (pair_is c.valued.ensures.0 c.valued.ensures.1 (sym (field_value c.args.w.now)))

pub returns-in-Decimal : goal.returns-in-Decimal
unfolding pair_of kind_of
returns-in-Decimal c = rw c.in-Decimal.is (pair_is c.valued-in-Decimal.ensures.0 c.valued-in-Decimal.ensures.1 (sym (decimal_value c.args.w.now)))

pub returns-in-Octal : goal.returns-in-Octal
unfolding pair_of kind_of
returns-in-Octal c = rw c.in-Octal.is (pair_is c.valued-in-Octal.ensures.0 c.valued-in-Octal.ensures.1 (sym (octal_value c.args.w.now)))

pub returns-in-Hollerith : goal.returns-in-Hollerith
unfolding pair_of kind_of
returns-in-Hollerith c = rw c.in-Hollerith.is (pair_is c.valued-in-Hollerith.ensures.0 c.valued-in-Hollerith.ensures.1 (sym (hollerith_value c.args.w.now)))

pub returns-in-Name : goal.returns-in-Name
unfolding pair_of kind_of
returns-in-Name c = rw c.in-Name.is (pair_is c.plain-in-Name.ensures.0 c.plain-in-Name.ensures.1 refl)

pub returns-in-Definition : goal.returns-in-Definition
unfolding pair_of kind_of
returns-in-Definition c = rw c.in-Definition.is (pair_is c.plain-in-Definition.ensures.0 c.plain-in-Definition.ensures.1 refl)

pub returns-in-FieldOrDecimal : goal.returns-in-FieldOrDecimal
unfolding pair_of kind_of
returns-in-FieldOrDecimal c =
    rw c.in-FieldOrDecimal.is (c.either.ensures
    ∙ ap (λ (n : ℕ). cond (is_field c.args.w.now) (field_pair c.args.w.now) (literal_pair n)) (sym (decimal_value c.args.w.now)))

pub returns-in-FieldOrOctal : goal.returns-in-FieldOrOctal
unfolding pair_of kind_of
returns-in-FieldOrOctal c =
    rw c.in-FieldOrOctal.is (c.either-in-FieldOrOctal.ensures
    ∙ ap (λ (n : ℕ). cond (is_field c.args.w.now) (field_pair c.args.w.now) (literal_pair n)) (sym (octal_value c.args.w.now)))

pub returns-in-Symbol : goal.returns-in-Symbol
unfolding pair_of kind_of
returns-in-Symbol c = rw c.in-Symbol.is c.labelled.ensures
