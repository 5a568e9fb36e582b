-- `lines::table_two::forms_of` meets its contract: the tables are the forms of the specs, computed. Assumes nothing.
use mathlib.Core.Path.{refl}
use Rattle.lines.specs.Words.{spelled}
use Rattle.lines.specs.Forms.{test_forms, operation_forms}
use Rattle.lines.specs.Walking.{kind_of, as_form, forms_of}
use Rattle.lines.proofs.table_two.forms_of.Goals as goal

pub returns-then-tests : goal.returns-then-tests
unfolding spelled test_forms kind_of as_form forms_of
returns-then-tests c = rw c.if-tests.true refl

pub returns-else-tests : goal.returns-else-tests
unfolding spelled operation_forms kind_of as_form forms_of
returns-else-tests c = rw c.if-tests.false refl
