-- `operands::references::operand` meets its contract: a literal, a bug's word, or what stands where the links lead. Assumes nothing.
use Rattle.operands.proofs.Follows.{no_field, bug_spot}
use Rattle.operands.proofs.Operands.{literal, found}
use Rattle.operands.proofs.references.operand.Goals as goal

pub returns-then-p-eq-LITERAL : goal.returns-then-p-eq-LITERAL
returns-then-p-eq-LITERAL c = literal _ _ _ c.if-p-eq-LITERAL.true

pub bug_before-bug-requires : goal.bug_before-bug-requires
bug_before-bug-requires c =
    let is = c.requires.1.reference c.if-p-eq-LITERAL.false in
    (is, no_field _ is c.if-p-lt-ONE_DIGIT.true)

pub bounds-bugs-i : goal.bounds-bugs-i
bounds-bugs-i c = c.bug_before-bug.ensures.1

pub returns-then-p-lt-ONE_DIGIT : goal.returns-then-p-lt-ONE_DIGIT
returns-then-p-lt-ONE_DIGIT c =
    found _ _ _ c.if-p-eq-LITERAL.false _ (bug_spot _ _ _ (c.requires.1.reference c.if-p-eq-LITERAL.false) c.if-p-lt-ONE_DIGIT.true
    c.bug_before-bug.ensures)

pub follow-requires : goal.follow-requires
follow-requires c = (
  (c.args.setup.d, c.args.setup.s2, c.requires.0),
  c.requires.1.reference c.if-p-eq-LITERAL.false,
  c.if-p-lt-ONE_DIGIT.false,
)

pub returns : goal.returns
returns c =
    found _ _ _ c.if-p-eq-LITERAL.false _ (c.follow.ensures c.args.setup.d c.args.setup.s2 c.requires.0)
