-- `typed::values::code_of` meets its contract. Each return is one case of the definition: digits, then the three runs of letters.
-- Assumes nothing.
use borrow.Author.Tests.{lt-ltb, le-ltb}
use Rattle.character.specs.Character.{code_of}
use Rattle.typed.proofs.values.code_of.Goals as goal

pub returns-then-n-lt-A : goal.returns-then-n-lt-A
unfolding code_of
returns-then-n-lt-A c = rw (lt-ltb _ 10 c.if-n-lt-A.true)

pub returns-then-n-lt-J : goal.returns-then-n-lt-J
unfolding code_of
returns-then-n-lt-J c = rw (le-ltb _ 10 c.if-n-lt-A.false, lt-ltb _ 19 c.if-n-lt-J.true)

pub returns-then-n-lt-S : goal.returns-then-n-lt-S
unfolding code_of
returns-then-n-lt-S c = rw (le-ltb _ 10 c.if-n-lt-A.false, le-ltb _ 19 c.if-n-lt-J.false, lt-ltb _ 28 c.if-n-lt-S.true)

pub returns : goal.returns
unfolding code_of
returns c = rw (le-ltb _ 10 c.if-n-lt-A.false, le-ltb _ 19 c.if-n-lt-J.false, le-ltb _ 28 c.if-n-lt-S.false)
