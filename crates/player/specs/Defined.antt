-- l6_defined: what it answers, and what it leaves in the memory lent to it. Assumes nothing.
use Rattle.std.specs.Prelude.{ℕ, List, Ok, Err}
use Rattle.word.specs.Told.{number}
use Rattle.defined.specs.declared.FieldsError.TheVariants.{NotDefined, NoWidth, BadLength, IllFormed, WrongKind}
use Rattle.defined.specs.Answer.{FieldsCheck, fields_checked, told_fields}

-- answers of the library's own: a field is used where it is not defined, and an ill-formed row
abbrev pub not_defined : ℕ
not_defined = 106

abbrev pub ill_formed : ℕ
ill_formed = 107

pub record DefinedLeft : Type 0 where
  pub answer : ℕ
  pub row : ℕ
  pub field : ℕ

-- 0 for yes, the row and the field of a no, the row of an ill-formed one, or the number of the refusal, of 30 with its row; row and
-- field are otherwise as they were
unfoldable pub after_defined : FieldsCheck → ℕ → ℕ → DefinedLeft
after_defined (Ok u) row field = record { answer = number (told_fields (Ok u)); row = row; field = field }
after_defined (Err (NotDefined r n)) row field = record { answer = not_defined; row = r; field = n }
after_defined (Err NoWidth) row field = record { answer = number (told_fields (Err NoWidth)); row = row; field = field }
after_defined (Err BadLength) row field = record { answer = number (told_fields (Err BadLength)); row = row; field = field }
after_defined (Err (IllFormed r)) row field = record { answer = ill_formed; row = r; field = field }
after_defined (Err (WrongKind r)) row field = record { answer = number (told_fields (Err (WrongKind r))); row = r; field = field }

unfoldable pub defined_left : ℕ → List ℕ → ℕ → ℕ → DefinedLeft
defined_left b table row field = after_defined (fields_checked b table) row field
