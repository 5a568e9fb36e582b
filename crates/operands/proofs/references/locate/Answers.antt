-- `operands::references::locate` meets its contract: a bug's word at once, or what follows. Assumes nothing.
use Rattle.operands.proofs.Follows.{no_field, bug_spot}
use Rattle.operands.proofs.references.locate.Goals as goal

pub bug_before-bug-requires : goal.bug_before-bug-requires
bug_before-bug-requires c = (c.requires.1, no_field _ c.requires.1 c.if-value-lt-ONE_DIGIT.true)

pub bounds-bugs-i : goal.bounds-bugs-i
bounds-bugs-i c = c.bug_before-bug.ensures.1

pub returns-then-value-lt-ONE_DIGIT : goal.returns-then-value-lt-ONE_DIGIT
returns-then-value-lt-ONE_DIGIT c = bug_spot _ _ _ c.requires.1 c.if-value-lt-ONE_DIGIT.true c.bug_before-bug.ensures

pub follow-requires : goal.follow-requires
follow-requires c = (
  (c.args.setup.d, c.args.setup.s2, c.requires.0),
  c.requires.1,
  c.if-value-lt-ONE_DIGIT.false,
)

pub returns : goal.returns
returns c =
    c.follow.ensures c.args.setup.d c.args.setup.s2 c.requires.0
