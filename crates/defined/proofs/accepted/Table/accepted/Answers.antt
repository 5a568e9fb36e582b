-- `defined::accepted::Table::accepted` meets its contract: check by check, in the definition's order. Assumes nothing.
use Rattle.std.proofs.Common.{sym, ◌∙◌}
use Rattle.defined.proofs.Answering.{no_width, bad_length, ill_formed_lem, wrong_kind}
use Rattle.defined.proofs.accepted.Table.accepted.Goals as goal

pub returns-then-not-is_width : goal.returns-then-not-is_width
returns-then-not-is_width c = no_width _ _ (sym c.is_width.ensures ∙ c.if-not-is_width.true)

pub returns-then-not-has_length : goal.returns-then-not-has_length
returns-then-not-has_length c =
    bad_length _ _ (sym c.is_width.ensures ∙ c.if-not-is_width.false) (sym c.has_length.ensures ∙ c.if-not-has_length.true)

pub returns-then-row-ne0 : goal.returns-then-row-ne0
returns-then-row-ne0 c =
    let wide = sym c.is_width.ensures ∙ c.if-not-is_width.false in
    let long = sym c.has_length.ensures ∙ c.if-not-has_length.false in
    ill_formed_lem _ _ wide long c.lowest_ill_formed-row.ensures c.if-row-ne0.true

pub returns-in-Some : goal.returns-in-Some
returns-in-Some c =
    let wide = sym c.is_width.ensures ∙ c.if-not-is_width.false in
    let long = sym c.has_length.ensures ∙ c.if-not-has_length.false in
    wrong_kind _ _ wide long c.lowest_ill_formed-row.ensures c.if-row-ne0.false c.in-Some.ensures
