-- The paths of a table, the fields that are defined along them, and a reference to one that is not.
-- Document 02: ticket 8. Assumes nothing.
use Rattle.std.specs.Prelude.{ℕ, ◌<◌, Bool, true, false, ◌&&◌, ◌||◌, cond, List, [], ◌∷◌, ◌++◌, ◌≡◌, eqb}
use Rattle.table.specs.declared.FieldName.{FieldName}
use Rattle.table.specs.declared.Pair.{Pair}
use Rattle.table.specs.declared.Row.{Row}
use Rattle.table.specs.Reference.{reference_of}
use Rattle.table.specs.Row.{rows, row_at, first_test, first_operation, go_to_of, done}

-- where a path is: at a line, at a test row or an operation row of a line, or at the line's exit
pub data Point : Type 0 where
  line : ℕ → Point
  test : ℕ → ℕ → Point
  operation : ℕ → ℕ → Point
  exit : ℕ → Point

-- after an operation, and after tests that are satisfied: the operation row r of the line, or its exit if r is zero
unfoldable pub operation_or : ℕ → ℕ → Point
operation_or r l = cond (eqb r 0) (exit l) (operation r l)

-- row r stands in the chain of operations of the line l
pub data InChain (table : List ℕ) (l : ℕ) : ℕ → Type 0 where
  first : 0 < l → l < rows table → (row_at table l).kind ≡ 1
      → (first_operation (row_at table l) ≡ 0 → ⊥) → InChain table l (first_operation (row_at table l))
  further : {r : ℕ} → InChain table l r → ((row_at table r).next ≡ 0 → ⊥) → InChain table l (row_at table r).next

-- the point after a DO in some line's chain, reached or not
pub data AfterDo (table : List ℕ) : Point → Type 0 where
  after_do : {l r : ℕ} → InChain table l r → (row_at table r).code ≡ 36 → AfterDo table (operation_or (row_at table r).next l)

-- one point leads to another
pub data Leads (table : List ℕ) : Point → Point → Type 0 where
  -- a line leads to its first test; a line that has none, to its operations
  to_tests : {l : ℕ} → (first_test (row_at table l) ≡ 0 → ⊥) → Leads table (line l) (test (first_test (row_at table l)) l)
  no_tests : {l : ℕ} → first_test (row_at table l) ≡ 0 → Leads table (line l) (operation_or (first_operation (row_at table l)) l)
  -- a test leads to the next test, or settles the line: either outcome
  next_test : {t l : ℕ} → ((row_at table t).next ≡ 0 → ⊥) → Leads table (test t l) (test (row_at table t).next l)
  satisfied : {t l : ℕ} → Leads table (test t l) (operation_or (first_operation (row_at table l)) l)
  otherwise : {t l : ℕ} → ((row_at table l).next ≡ 0 → ⊥) → Leads table (test t l) (line (row_at table l).next)
  -- a DO leads into the line that it names, any other operation to the one after it
  doing : {r l : ℕ} → (row_at table r).code ≡ 36 → Leads table (operation r l) (line (row_at table r).first.value)
  next_operation : {r l : ℕ} → ((row_at table r).code ≡ 36 → ⊥) → Leads table (operation r l) (operation_or (row_at table r).next l)
  -- an exit leads to the go-to, or to the next line; a DONE after any DO
  going : {l : ℕ} → (go_to_of (row_at table l) ≡ done → ⊥) → (go_to_of (row_at table l) ≡ 0 → ⊥)
      → Leads table (exit l) (line (go_to_of (row_at table l)))
  next_line : {l : ℕ} → go_to_of (row_at table l) ≡ 0 → ((row_at table l).next ≡ 0 → ⊥) → Leads table (exit l) (line (row_at table l).next)
  returning : {l : ℕ} {p : Point} → go_to_of (row_at table l) ≡ done → AfterDo table p → Leads table (exit l) p

-- which fields are defined, by their name numbers
abbrev pub Fields : Type 0
Fields = ℕ → Bool

unfoldable pub no_field : Fields
no_field n = false

-- a definition row defines its name; a restore of a definition makes it unknown, which counts as not defined
unfoldable pub after : Row → Fields → Fields
after row fields n =
    cond (eqb row.code 2 && eqb row.name n) true (cond (eqb row.code 35 && eqb row.name n) false (fields n))

-- the fields that are defined once a point is passed: only operations change them
unfoldable pub passing : List ℕ → Point → Fields → Fields
passing table (line l) fields = fields
passing table (test t l) fields = fields
passing table (operation r l) fields = after (row_at table r) fields
passing table (exit l) fields = fields

-- some path leads to this point, and these fields are defined when it gets there
pub data Path (table : List ℕ) : Point → Fields → Type 0 where
  start : Path table (line 1) no_field
  along : {p q : Point} {fields : Fields} → Path table p fields → Leads table p q → Path table q (passing table p fields)

-- the fields that a pair refers to: where it is a reference (form 2), each name after the bug
unfoldable pub pair_fields : Pair → List FieldName
pair_fields p = cond (eqb p.form 2) (reference_of p.value).fields []

-- the fields that a row refers to, in the order of its operands and of their names
unfoldable pub fields_of : Row → List FieldName
fields_of row = pair_fields row.first ++ (pair_fields row.second ++ pair_fields row.third)

-- one of these is field n
unfoldable pub names : List FieldName → ℕ → Bool
names [] n = false
names (f ∷ fs) n = eqb f.0 n || names fs n

-- the row that a point stands at: a test's or an operation's; a line and an exit refer to no field
pub data StandsAt : Point → ℕ → Type 0 where
  at_test : {t l : ℕ} → StandsAt (test t l) t
  at_operation : {r l : ℕ} → StandsAt (operation r l) r

-- some path reaches row r with a reference to field n, which is not defined there
pub record UsesUndefined (table : List ℕ) (r n : ℕ) : Type 0 where
  pub point : Point
  pub fields : Fields
  pub path : Path table point fields
  pub is_at : StandsAt point r
  pub is_used : names (fields_of (row_at table r)) n ≡ true
  pub is_undefined : fields n ≡ false

-- some path reaches a row with a reference to a field that is not defined there
pub record SomeUse (table : List ℕ) : Type 0 where
  pub row : ℕ
  pub name : ℕ
  pub uses : UsesUndefined table row name

-- the first of these fields of which P holds is field n
pub data FirstSuch (P : ℕ → Type 0) : List FieldName → ℕ → Type 0 where
  here : {f : FieldName} {fs : List FieldName} → P f.0 → FirstSuch P (f ∷ fs) f.0
  later : {f : FieldName} {fs : List FieldName} {n : ℕ} → (P f.0 → ⊥) → FirstSuch P fs n → FirstSuch P (f ∷ fs) n

-- what a no tells: the lowest row that some path reaches so, and the first of its fields that is not defined there on some path
pub record ToldUse (table : List ℕ) (r n : ℕ) : Type 0 where
  pub lowest : (q m : ℕ) → q < r → UsesUndefined table q m → ⊥
  pub is_first : FirstSuch (UsesUndefined table r) (fields_of (row_at table r)) n
