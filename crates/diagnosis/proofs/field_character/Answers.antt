-- `diagnosis::field_character` meets its contract. Each branch is one case of the definition: a digit or a letter. Assumes nothing.
use borrow.Author.Tests.{lt-ltb, le-ltb}
use Rattle.diagnosis.specs.Diagnosis.{field_character}
use Rattle.diagnosis.proofs.field_character.Goals as goal

pub returns-then-name-lt-DIGITS : goal.returns-then-name-lt-DIGITS
unfolding field_character
returns-then-name-lt-DIGITS c = simp (lt-ltb _ _ c.if-name-lt-DIGITS.true)

pub returns-else-name-lt-DIGITS : goal.returns-else-name-lt-DIGITS
unfolding field_character
returns-else-name-lt-DIGITS c = simp (le-ltb _ _ c.if-name-lt-DIGITS.false)
