-- `operands::references::word_delivered` meets its contract: before the block, in it, or after it. Assumes nothing.
use native.Mathlib.Omega.{arith}
use mathlib.Core.Logic.{inl, inr}
use mathlib.Core.Path.{◌∙◌}
use Rattle.operands.proofs.Through.{word_inside, word_outside}
use Rattle.operands.proofs.references.word_delivered.Goals as goal

pub returns-then-address-from : goal.returns-then-address-from
returns-then-address-from c =
    c.word_at.ensures ∙ word_outside _ _ _ _ c.requires.0 c.requires.1 _ (inl c.if-address-from.true) c.requires.2

pub returns-then-address-from-2 : goal.returns-then-address-from-2
returns-then-address-from-2 c =
    word_inside _ _ _ _ c.requires.0 c.requires.1 _ c.if-address-from.false c.if-address-from-2.true

pub returns : goal.returns
returns c =
    let past = c.if-address-from-2.false in
    let above = c.if-address-from.false in
    c.word_at-2.ensures ∙ word_outside _ _ _ _ c.requires.0 c.requires.1 _ (inr (omega arith)) c.requires.2
