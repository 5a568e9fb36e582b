-- How the check finds out whether some path uses a field that is not defined there: for each line the set of the fields that are
-- not defined on some path to it, and one such set for all DONEs. A line is walked with its set, and where it leads, the set is
-- joined to the one that is there; it is walked again only when its set has changed since, and what follows the DOs only when the
-- set of the DONEs has. Once no set changes, each row gets the sets of the places where it stands. That this decides what `Paths`
-- says is proved in proofs/Decides.antt.
-- Document 02: ticket 8. Assumes nothing.
use Rattle.std.specs.Prelude.{ℕ, zero, suc, ◌-◌, ◌*◌, ◌/◌, ◌%◌, ◌^◌, Bool, cond, List, [], ◌∷◌, eqb, get_or, set, replicate}
use Rattle.std.specs.Prelude.{Option, Some, None}
use Rattle.word.specs.Told.{Told, tells, gives}
use Rattle.word.specs.Word.{either, both, differing}
use Rattle.table.specs.declared.FieldName.{FieldName}
use Rattle.table.specs.declared.Row.{Row}
use Rattle.table.specs.Row.{rows, row_at, first_test, first_operation, go_to_of, done}
use Rattle.defined.specs.declared.Use.{Use}
use Rattle.defined.specs.declared.rounds.Rounds.{Rounds}
use Rattle.defined.specs.Kinds.{is_kind}
use Rattle.defined.specs.Paths.{fields_of}

-- a set as a number: bit n, from the right, for the field of name number n that is not defined on some path to here, and bit 36 if
-- there is a path at all
unfoldable pub has : ℕ → ℕ → Bool
has x n = eqb (x / 2 ^ n % 2) 1

abbrev pub reached : ℕ
reached = 36

-- all 36 fields, and reached
abbrev pub everything : ℕ
everything = 2 ^ 37 - 1

-- a definition takes its name out; a restore puts it in, where there is a path
unfoldable pub without : ℕ → ℕ → ℕ
without n x = differing 37 x (both 37 x (2 ^ n))

unfoldable pub including : ℕ → ℕ → ℕ
including n x = cond (has x reached) (either 37 x (2 ^ n)) x

-- the set after an operation that is no DO
unfoldable pub set_after : Row → ℕ → ℕ
set_after row x = cond (eqb row.code 2) (without row.name x) (cond (eqb row.code 35) (including row.name x) x)

-- one set for each row that is a line, and in place 0 one for the DONEs
abbrev pub Sets : Type 0
Sets = List ℕ

abbrev pub set_at : Sets → ℕ → ℕ
set_at sets r = get_or sets r 0

-- x joined to the set in place r
unfoldable pub joined_at : ℕ → ℕ → Sets → Sets
joined_at r x sets = set sets r (either 37 (set_at sets r) x)

-- the same where a row is named; 0 names none
unfoldable pub joined_to : ℕ → ℕ → Sets → Sets
joined_to r x sets = cond (eqb r 0) sets (joined_at r x sets)

-- where a line's exit leads with the set x
unfoldable pub leaving : Row → ℕ → Sets → Sets
leaving row x sets =
    cond (eqb (go_to_of row) done) (joined_at 0 x sets)
    (cond (eqb (go_to_of row) 0) (joined_to row.next x sets) (joined_at (go_to_of row) x sets))

-- the set after an operation: after a DO, what holds at the DONEs
unfoldable pub set_past : ℕ → Row → ℕ → ℕ
set_past done row x = cond (eqb row.code 36) done (set_after row x)

-- what an operation leads to besides the next one: a DO into its line
unfoldable pub entering : Row → ℕ → Sets → Sets
entering row x sets = cond (eqb row.code 36) (joined_at row.first.value x sets) sets

-- what is done along a chain of rows: at row r with the set x, the set past a row, and at the end of the chain
pub record Visit : Type 0 where
  pub at : ℕ → ℕ → Sets → Sets
  pub past : Row → ℕ → ℕ
  pub end : ℕ → Sets → Sets

-- the chain from row r on with the set x; of at most count rows
unfoldable pub visited : Visit → ℕ → List ℕ → ℕ → ℕ → Sets → Sets
visited v zero table r x sets = sets
visited v (suc count) table r x sets =
    cond (eqb r 0) (v.end x sets) (visited v count table (row_at table r).next (v.past (row_at table r) x) (v.at r x sets))

-- the operations of a line with the set x at its start and the set d at the DONEs, to its exit
abbrev pub walking : List ℕ → Row → ℕ → Visit
walking table line d = record { at = λ r x. entering (row_at table r) x; past = set_past d; end = leaving line }

unfoldable pub chain_walked : List ℕ → ℕ → ℕ → ℕ → Sets → Sets
chain_walked table l x d sets = visited (walking table (row_at table l) d) (rows table) table (first_operation (row_at table l)) x sets

-- tests that are not satisfied lead to the next line
unfoldable pub tests_walked : Row → ℕ → Sets → Sets
tests_walked line x sets = cond (eqb (first_test line) 0) sets (joined_to line.next x sets)

-- a line with the set x; what follows its DOs is walked by itself, from the empty set on with that of the DONEs
unfoldable pub line_walked : List ℕ → ℕ → ℕ → Sets → Sets
line_walked table l x sets = chain_walked table l x 0 (tests_walked (row_at table l) x sets)

-- f with every line among count rows from row l on, one after the other
unfoldable pub each_line : {A : Type 0} → (ℕ → A → A) → ℕ → List ℕ → ℕ → A → A
each_line f zero table l s = s
each_line f (suc count) table l s = each_line f count table (suc l) (cond (is_kind table 1 l) (f l s) s)

-- a line, if its set has changed since it was last walked
unfoldable pub changed_walked : List ℕ → ℕ → Rounds → Rounds
changed_walked table l s =
    let x = set_at s.sets l in
    cond (eqb (set_at s.walked l) x) s (record { sets = line_walked table l x s.sets; walked = joined_at l x s.walked })

unfoldable pub lines_walked : List ℕ → Rounds → Rounds
lines_walked table s = each_line (changed_walked table) (rows table - 1) table 1 s

-- what follows every DO, with the set of the DONEs
unfoldable pub rests_walked : List ℕ → ℕ → Sets → Sets
rests_walked table d sets = each_line (λ l. chain_walked table l 0 d) (rows table - 1) table 1 sets

-- the same, if that set has changed since it was last walked
unfoldable pub returns_walked : List ℕ → Rounds → Rounds
returns_walked table s =
    let d = set_at s.sets 0 in
    cond (eqb (set_at s.walked 0) d) s (record { sets = rests_walked table d s.sets; walked = joined_at 0 d s.walked })

unfoldable pub rounded : List ℕ → Rounds → Rounds
rounded table s = returns_walked table (lines_walked table s)

-- f done n times
unfoldable pub times : {A : Type 0} → ℕ → (A → A) → A → A
times zero f x = x
times (suc n) f x = times n f (f x)

-- at first only row 1 is reached, with no field defined, and nothing is walked
unfoldable pub first_sets : Sets
first_sets = set (replicate 800 0) 1 everything

unfoldable pub first_rounds : Rounds
first_rounds = record { sets = first_sets; walked = replicate 800 0 }

-- each round but the last puts one more of 37 elements into one of 800 sets, or into one of those last walked
unfoldable pub final_sets : List ℕ → Sets
final_sets table = (times (2 * (37 * 800)) (rounded table) first_rounds).sets

-- at each row of a chain the set that the walk has there
abbrev pub marking : (Row → ℕ → ℕ) → Visit
marking past = record { at = joined_at; past = past; end = λ x marks. marks }

unfoldable pub tests_marked : List ℕ → ℕ → ℕ → Sets → Sets
tests_marked table t x marks = visited (marking (λ row y. y)) (rows table) table t x marks

unfoldable pub chain_marked : List ℕ → ℕ → ℕ → ℕ → Sets → Sets
chain_marked table r x d marks = visited (marking (set_past d)) (rows table) table r x marks

-- at each test and operation of a line
unfoldable pub line_marked_of : List ℕ → Sets → ℕ → Sets → Sets
line_marked_of table sets l marks =
    let line = row_at table l in
    chain_marked table (first_operation line) (set_at sets l) (set_at sets 0) (tests_marked table (first_test line) (set_at sets l) marks)

-- for each test and operation the fields that are not defined on some path to it
unfoldable pub lines_marked : List ℕ → Sets → Sets
lines_marked table sets = each_line (line_marked_of table sets) (rows table - 1) table 1 (replicate 800 0)

unfoldable pub final_marks : List ℕ → Sets
final_marks table = lines_marked table (final_sets table)

-- the first of these fields that is in the set
unfoldable pub first_in : List FieldName → ℕ → Option ℕ
first_in [] x = None
first_in (f ∷ fs) x = cond (has x f.0) (Some f.0) (first_in fs x)

-- that of row r, which is no line
unfoldable pub use_at : List ℕ → ℕ → ℕ → Option ℕ
use_at table r x = cond (is_kind table 1 r) None (first_in (fields_of (row_at table r)) x)

-- row r where it uses such a field, otherwise what comes later
unfoldable pub or_later : ℕ → Option ℕ → Option Use → Option Use
or_later r (Some n) u = Some (record { row = r; field = n })
or_later r None u = u

-- the lowest of count rows from row r on
unfoldable pub lowest_using : ℕ → List ℕ → ℕ → Sets → Option Use
lowest_using zero table r marks = None
lowest_using (suc count) table r marks = or_later r (use_at table r (set_at marks r)) (lowest_using count table (suc r) marks)

unfoldable pub lowest_use : List ℕ → Sets → Option Use
lowest_use table marks = lowest_using (rows table - 1) table 1 marks

-- the lowest row that uses a field that is not defined on some path to it, and its first such field
unfoldable pub first_use : List ℕ → Option Use
first_use table = lowest_use table (final_marks table)

-- what the search answers in numbers: 0 and the field, 0 and no value where there is none. The papers give these answers no other
-- number
unfoldable pub told_used : Option ℕ → Told ℕ
told_used (Some n) = gives n
told_used None = tells 0 []

-- the same of the lowest row: 0, the row and the field, or no values
unfoldable pub told_first_use : Option Use → Told ℕ
told_first_use (Some u) = tells 0 (u.row ∷ u.field ∷ [])
told_first_use None = tells 0 []

-- what the definitions above tell: the first of these fields, that of row r, the lowest row's of count rows from row r on, of all
-- rows, and with the sets that the search finds
unfoldable pub first_told : List FieldName → ℕ → Told ℕ
first_told [] x = tells 0 []
first_told (f ∷ fs) x = cond (has x f.0) (gives f.0) (first_told fs x)

unfoldable pub use_told : List ℕ → ℕ → ℕ → Told ℕ
use_told table r x = cond (is_kind table 1 r) (tells 0 []) (first_told (fields_of (row_at table r)) x)

unfoldable pub later_told : ℕ → Option ℕ → Told ℕ → Told ℕ
later_told r (Some n) t = tells 0 (r ∷ n ∷ [])
later_told r None t = t

unfoldable pub using_told : ℕ → List ℕ → ℕ → Sets → Told ℕ
using_told zero table r marks = tells 0 []
using_told (suc count) table r marks = later_told r (use_at table r (set_at marks r)) (using_told count table (suc r) marks)

unfoldable pub lowest_told : List ℕ → Sets → Told ℕ
lowest_told table marks = using_told (rows table - 1) table 1 marks

unfoldable pub first_use_told : List ℕ → Told ℕ
first_use_told table = lowest_told table (final_marks table)
