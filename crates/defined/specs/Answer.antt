-- The check's answer: refusals 31 and 1, then the table check's own answer, then 30, then yes or no.
-- Document 02: tickets 8 and 9. Assumes nothing.
use Rattle.std.specs.Prelude.{ℕ, ◌-◌, ◌<◌, true, cond, List, [], ◌∷◌, ◌↔◌, ◌≡◌, eqb, Option, Some, None, Result, Ok, Err}
use Rattle.word.specs.Word.{is_width}
use Rattle.word.specs.Told.{Told, tells, gives, refuses}
use Rattle.table.specs.Row.{length_fits, rows, row_at}
use Rattle.table.specs.Table.{lowest_from}
use Rattle.defined.specs.declared.FieldsError.{FieldsError}
use Rattle.defined.specs.declared.FieldsError.TheVariants.{NotDefined, NoWidth, BadLength, IllFormed, WrongKind}
use Rattle.defined.specs.declared.Use.{Use}
use Rattle.defined.specs.Kinds.{wrong_row}
use Rattle.defined.specs.Paths.{SomeUse, ToldUse}
use Rattle.defined.specs.Search.{first_use, first_use_told}

-- the table check's own answer for a table whose length fits: the lowest ill-formed row, 0 if there is none
abbrev pub ill_formed_row : ℕ → List ℕ → ℕ
ill_formed_row b table = lowest_from b table 1 (rows table - 1)

-- what comes before yes or no: refusals 31 and 1 and the table check's own answer, then 30
pub record Passes (b : ℕ) (table : List ℕ) : Type 0 where
  pub wide : is_width b ≡ true
  pub long : length_fits table ≡ true
  pub formed : ill_formed_row b table ≡ 0
  pub kinds : wrong_row table ≡ 0

-- the check's answer: yes, or why the table gets none
abbrev pub FieldsCheck : Type 0
FieldsCheck = Result Unit FieldsError

-- what the answer means: yes and no are said of tables that pass what comes before; no exactly when some path reaches a row with a
-- reference to a field that is not defined there, and with the row and the field that a no tells
pub record Meant (b : ℕ) (table : List ℕ) (answer : FieldsCheck) : Type 0 where
  pub is_no : ((r : ℕ) × ((n : ℕ) × (answer ≡ Err (NotDefined r n)))) ↔ (Passes b table × SomeUse table)
  pub is_yes : (answer ≡ Ok tt) ↔ (Passes b table × (SomeUse table → ⊥))
  pub tells : (r n : ℕ) → answer ≡ Err (NotDefined r n) → ToldUse table r n

-- no, with the row and the field, or yes
unfoldable pub saying : Option Use → FieldsCheck
saying (Some u) = Err (NotDefined u.row u.field)
saying None = Ok tt

-- how the answer is computed for a table of words of b bits; that it means what `Meant` says is proved in proofs/Decides.antt
unfoldable pub fields_checked : ℕ → List ℕ → FieldsCheck
fields_checked b table =
    cond (is_width b)
    (cond (length_fits table)
    (cond (eqb (ill_formed_row b table) 0)
    (cond (eqb (wrong_row table) 0) (saying (first_use table)) (Err (WrongKind (wrong_row table))))
    (Err (IllFormed (ill_formed_row b table))))
    (Err BadLength))
    (Err NoWidth)

-- the answer in numbers: of a yes no value, of a no the row and the field, the row that the table check gives, or the refusal, with
-- its row where it tells one
unfoldable pub told_fields : FieldsCheck → Told ℕ
told_fields (Ok u) = tells 0 []
told_fields (Err (NotDefined r n)) = tells 0 (r ∷ n ∷ [])
told_fields (Err NoWidth) = refuses 31
told_fields (Err BadLength) = refuses 1
told_fields (Err (IllFormed r)) = gives r
told_fields (Err (WrongKind r)) = tells 30 (r ∷ [])

-- what the check tells, in the order 31, 1, the table check's own row, 30, no or yes
unfoldable pub fields_told : ℕ → List ℕ → Told ℕ
fields_told b table =
    cond (is_width b)
    (cond (length_fits table)
    (cond (eqb (ill_formed_row b table) 0)
    (cond (eqb (wrong_row table) 0) (first_use_told table) (tells 30 (wrong_row table ∷ [])))
    (gives (ill_formed_row b table)))
    (refuses 1))
    (refuses 31)

-- a table that passes by some width
pub record Accepted (table : List ℕ) : Type 0 where
  pub width : ℕ
  pub passes : Passes width table

-- r is a row of this kind
pub record IsRow (table : List ℕ) (kind r : ℕ) : Type 0 where
  pub low : 0 < r
  pub high : r < rows table
  pub is : (row_at table r).kind ≡ kind

-- a row of this kind, or none
abbrev pub RowOrNone : List ℕ → ℕ → ℕ → Type 0
RowOrNone table kind r = (r ≡ 0 → ⊥) → IsRow table kind r
