-- The rows of a line: its own, those of its tests, those of its operations, put one after the other. Assumes nothing.
use Prim.Native.Nat.{ℕ, zero, suc, ◌+◌, ◌-◌, ◌*◌, ◌≤◌, ◌<◌}
use native.Mathlib.Numerals.{add-one}
use native.Mathlib.Omega.{arith}
use mathlib.Core.Path.{◌≡◌, refl, ap, ap₂, sym, subst, ◌∙◌}
use mathlib.Core.Bool.{Bool, true, false, ◌&&◌, cond}
use mathlib.Core.List.{List, [], ◌∷◌, ◌++◌}
use mathlib.Core.Option.{Option, none, some}
use borrow.Author.Tests.{ne_eqb}
use lib.Dec.{eqb}
use lib.ListN.{length, take, drop, length-append, drop_of_length-le}
use lib.Seq.{slice}
use Rattle.word.proofs.Tests.{by_leb, and_true}
use Rattle.table.specs.declared.Row.{Row}
use Rattle.lines.specs.Words.{spelled, is_empty, all, any, is_field, is_done, pair_of, gives_name}
use Rattle.lines.specs.Forms.{is_test, is_operation, is_argument, expanded, fits, operation_forms, form_of, row_in, pairs_of, name_in}
use Rattle.lines.specs.Forms.{operand_at}
use Rattle.lines.specs.Grammar.{Line, Typed}
use Rattle.lines.specs.Reading.{front, behind, is_blank, split, token_at, read_line}
use Rattle.lines.specs.Program.{chained_rows, test_row, operation_row, go_to_row, line_row}
use Rattle.lines.specs.Walking.{forms_of}
use Rattle.lines.proofs.Lists.{none_some, some_same}
use Rattle.lines.proofs.Lines.{line_sound, parts, spacing}
use Rattle.lines.proofs.Moving.{any_moved}
use Rattle.lines.proofs.Calling.{moved_form}
use Rattle.lines.proofs.Parts.{part_slice}
use Rattle.lines.proofs.Tables.{chained_length}
use Rattle.faults.specs.declared.Scan.{Scan}
use Rattle.faults.specs.Checking.{Scanned}
use Rattle.std.specs.Prelude.{Some, None}
use Rattle.faults.specs.Checking.{parens_in, parens_next, tests_at, operations_at, line_at, line_read, scanned_line, PlacedIn}
use Rattle.faults.specs.Places.{size_of}
use Rattle.faults.proofs.Using.{Parens, Here, parens_none, parens_more}
use Rattle.faults.proofs.Faults.{good_operations}
use Rattle.typed.specs.declared.Group.{Group}
use Rattle.typed.specs.Putting.{put_rows, moved_row, is_group, group_row, group_rows, line_rows, line_numbers, read_rows, Grouped}
use Rattle.typed.specs.Putting.{Laid}
use Rattle.typed.proofs.Putting.{rows_none, rows_long, rows_rows}

-- an operation as it is written, and with names written out
module _ (b next : ℕ) (at : List ℕ → ℕ) (ws : List (List ℕ)) where
  pub plain_row : ws ≡ expanded ws → row_in at 3 next (form_of b ws (forms_of false)) ws ≡ operation_row b at next ws
  unfolding operation_row forms_of
  plain_row e = ap (λ (args : List (List ℕ)). row_in at 3 next (form_of b args operation_forms) args) e

  pub plain_fits : ws ≡ expanded ws → is_operation b ws ≡ true → any (fits b ws) (forms_of false) ≡ true
  unfolding is_operation forms_of
  plain_fits e is =
      ap (λ (args : List (List ℕ)). any (fits b args) operation_forms) e
      ∙ (and_true (all is_argument ws) (any (fits b (expanded ws)) operation_forms) is).1

  module _ (a names : List ℕ) (e : a ∷ spelled "P" ∷ (a ++ names) ∷ [] ≡ expanded ws) (is : is_operation b ws ≡ true) where
    pub moved_fields : (is_field a && is_field (a ++ names)) ≡ true
    unfolding is_operation
    moved_fields =
        sym (any_moved b a (a ++ names)) ∙ ap (λ (args : List (List ℕ)). any (fits b args) operation_forms) e
        ∙ (and_true (all is_argument ws) (any (fits b (expanded ws)) operation_forms) is).1

    pub moved_is : moved_row next a names ≡ operation_row b at next ws
    unfolding moved_row operation_row row_in name_in gives_name pairs_of operand_at pair_of
    moved_is = rw (← e, moved_form b a (a ++ names) moved_fields)

-- tests and operations
pub group_test : (b : ℕ) (at : List ℕ → ℕ) (tests : Bool) (next : ℕ) (x : List (List ℕ)) → tests ≡ true → test_row b at next x ≡ group_row b at tests next x
unfolding group_row
group_test b at tests next x e = rw e

pub group_operation : (b : ℕ) (at : List ℕ → ℕ) (tests : Bool) (next : ℕ) (x : List (List ℕ)) → tests ≡ false
    → operation_row b at next x ≡ group_row b at tests next x
unfolding group_row
group_operation b at tests next x e = rw e

pub is_test_lem : (b : ℕ) (tests : Bool) (x : List (List ℕ)) → tests ≡ true → is_group b tests x ≡ true → is_test b x ≡ true
unfolding is_group
is_test_lem b tests x e is = rw e at is

pub is_operation_lem : (b : ℕ) (tests : Bool) (x : List (List ℕ)) → tests ≡ false → is_group b tests x ≡ true → is_operation b x ≡ true
unfolding is_group
is_operation_lem b tests x e is = rw e at is

empty_length : {A : Type 0} (xs : List A) → is_empty xs ≡ eqb (length xs) 0
empty_length [] = refl
empty_length (x ∷ xs) = sym (ne_eqb (suc (length xs)) 0 (λ (z : suc (length xs) ≡ 0). omega arith))

nothing_in : (n : ℕ) → length (parens_in (suc n) []) ≡ 0
unfolding parens_in parens_next behind token_at
nothing_in n = refl

parens_inside : (s : List ℕ) (n at : ℕ) → length (parens_in n (drop at s)) ≡ n → 0 < n → at ≤ length s
parens_inside s zero at e more = absurd (omega arith)
parens_inside s (suc n) at e more =
    by_leb (λ _. at ≤ length s) at (length s) (λ h. h)
    (λ h. let z : drop at s ≡ [] = drop_of_length-le s {i = at} (omega arith) in let none = nothing_in n in absurd
    (omega (arith, ap (λ (r : List ℕ). length (parens_in (suc n) r)) (sym z))))

module _ (b : ℕ) (at : List ℕ → ℕ) (s : List ℕ) (tests : Bool) (lent : ℕ) (goal : List ℕ) where
  pub record Grouping (left place row : ℕ) (table : List ℕ) : Type 0 where
    pub parens : 0 < left → Parens (is_group b tests) s left place
    pub rest : put_rows row (chained_rows (group_row b at tests) row (parens_in left (drop place s))) table ≡ goal
    pub room : 10 * (row + left) ≤ lent
    pub long : length table ≡ lent

  module _ {left place row : ℕ} {table : List ℕ} (h : Grouping left place row table) where
    pub grouping_all : left ≤ 0 → table ≡ goal
    unfolding chained_rows
    grouping_all l = sym (rows_none row table) ∙ (rw (parens_none (is_group b tests) s left place l) at h.rest)

    module _ (more : 0 < left) (start : ℕ) (begins : start ≡ place + length (front is_blank (drop place s))) {close : ℕ}
        (k : Here (is_group b tests) s (h.parens more) more start begins close) where
      abbrev its : List (List ℕ)
      its = split (slice (start + 1) close s)

      abbrev others : List (List (List ℕ))
      others = parens_in (left - 1) (drop (close + 1) s)

      others_long : length others ≡ left - 1
      others_long = let long = ap length k.found in let whole = (h.parens more).whole in omega arith

      module _ (next : ℕ) (made : Row) (is-next : next ≡ cond (eqb (left - 1) 0) 0 (row + 1)) (is_made : made ≡ group_row b at tests next its) where
        made_first : made ≡ group_row b at tests (cond (is_empty others) 0 (suc row)) its
        made_first =
            is_made ∙ ap (λ (n : ℕ). group_row b at tests n its)
            (is-next ∙ ap₂ (λ (t : Bool) (n : ℕ). cond t 0 n) (ap (λ (n : ℕ). eqb n 0) (sym others_long) ∙ sym (empty_length others)) (add-one row))

        chained_here : chained_rows (group_row b at tests) row (parens_in left (drop place s)) ≡ made ∷ chained_rows (group_row b at tests) (suc row) others
        unfolding chained_rows
        chained_here = ap (chained_rows (group_row b at tests) row) k.found
            ∙ ap (λ (r : Row). r ∷ chained_rows (group_row b at tests) (suc row) others) (sym made_first)

        pub grouping_more : Grouping (left - 1) (close + 1) (row + 1) (put_rows row (made ∷ []) table)
        grouping_more =
            let later = chained_rows (group_row b at tests) (suc row) others in
            let many = chained_length (group_row b at tests) (suc row) others in
            let long = rows_long row (made ∷ []) later table (omega (arith, h.room, h.long)) in
            record {
              parens = λ _. parens_more (is_group b tests) s (h.parens more) more start begins k;
              rest = ap (λ (n : ℕ). put_rows (row + 1) (chained_rows (group_row b at tests) n others) (put_rows row (made ∷ []) table)) (add-one row)
                  ∙ rows_rows row (made ∷ []) later table (omega (arith, h.room, h.long, others_long))
                  ∙ sym (ap (λ (rs : List Row). put_rows row rs table) chained_here) ∙ h.rest;
              room = omega (arith, h.room);
              long = long ∙ h.long;
            }

pub grouping_none : (b : ℕ) (at : List ℕ → ℕ) (s : List ℕ) (g : Group) (table : List ℕ) → Grouped b s g table
    → Grouping b at s g.tests (length table) (put_rows g.row (group_rows b at s g) table) g.count g.from g.row table
unfolding group_rows
grouping_none b at s g table h =
    record {
      parens = λ more. record { inside = parens_inside s g.count g.from h.whole more; whole = h.whole; proper = h.proper };
      rest = refl;
      room = h.room;
      long = refl;
    }

-- a go-to
module _ (b : ℕ) (at : List ℕ → ℕ) (w : List ℕ) where
  pub goes_nowhere : is_empty w ≡ true → 0 ≡ go_to_row b at w
  unfolding go_to_row
  goes_nowhere e = rw e

  pub goes_done : is_empty w ≡ false → is_done w ≡ true → 65535 ≡ go_to_row b at w
  unfolding go_to_row
  goes_done e f = rw (e, f)

  pub goes_to : is_empty w ≡ false → is_done w ≡ false → at w ≡ go_to_row b at w
  unfolding go_to_row
  goes_to e f = rw (e, f)

-- a line: its row, its tests, its operations
chained_same : (f g : ℕ → List (List ℕ) → Row) → ((n : ℕ) (x : List (List ℕ)) → f n x ≡ g n x) → (r : ℕ) (xs : List (List (List ℕ)))
    → chained_rows f r xs ≡ chained_rows g r xs
unfolding chained_rows
chained_same f g h r [] = refl
chained_same f g h r (x ∷ xs) = ap₂ ◌∷◌ (h (cond (is_empty xs) 0 (suc r)) x) (chained_same f g h (suc r) xs)

module _ (b : ℕ) (at : List ℕ → ℕ) (s : List ℕ) (c : Scan) (laid : Laid b s c) (row next : ℕ) where
  abbrev l : Line
  l = line_at s c

  abbrev pub test_group : Group
  test_group = record { tests = true; from = c.test; count = c.tests; row = row + 1 }

  abbrev pub other_group : Group
  other_group = record { tests = false; from = c.operation; count = c.operations; row = row + 1 + c.tests }

  counted_none : {A : Type 0} (xs : List A) (n m : ℕ) → length xs ≡ n → cond {A = ℕ} (eqb n 0) 0 m ≡ cond (is_empty xs) 0 m
  counted_none xs n m e = ap (λ (t : Bool). cond {A = ℕ} t 0 m) (ap (λ (k : ℕ). eqb k 0) (sym e) ∙ sym (empty_length xs))

  pub line_is : {tests others go : ℕ} → tests ≡ cond (eqb c.tests 0) 0 (row + 1) → others ≡ cond (eqb c.operations 0) 0 (row + 1 + c.tests)
      → go ≡ go_to_row b at (slice c.goes c.ends s) → line_numbers next c.mode tests others go ≡ line_row b at row next l
  unfolding line_row line_at
  line_is {tests} {others} {go} e f g =
      let counts = laid.placed.counted in
      let first : tests ≡ cond (is_empty (tests_at s c)) 0 (row + 1) = e ∙ counted_none (tests_at s c) c.tests (row + 1) counts.tests in
      let second : others ≡ cond (is_empty (operations_at s c)) 0 (row + 1 + length (tests_at s c)) =
      f ∙ counted_none (operations_at s c) c.operations (row + 1 + c.tests) counts.operations
      ∙ ap (λ (n : ℕ). cond (is_empty (operations_at s c)) 0 (row + 1 + n)) (sym counts.tests) in
      rw (first, second, g)

  -- the row made of what the calls answer
  pub made_is : {made : Row} {tests others go : ℕ} → made ≡ line_numbers next c.mode tests others go → tests ≡ cond (eqb c.tests 0) 0 (row + 1)
      → others ≡ cond (eqb c.operations 0) 0 (row + 1 + c.tests) → go ≡ go_to_row b at (take (c.ends - c.goes) (drop c.goes s)) → made ≡ line_row b at row next l
  made_is m e f g = m ∙ line_is e f (g ∙ ap (go_to_row b at) (part_slice c.goes c.ends s))

  pub tests_grouped : (table : List ℕ) → 10 * (row + (1 + c.tests + c.operations)) ≤ length table → Grouped b s test_group table
  unfolding tests_at is_group
  tests_grouped table room = record { whole = laid.placed.counted.tests; proper = laid.tests; room = omega arith }

  pub others_grouped : (table : List ℕ) → 10 * (row + (1 + c.tests + c.operations)) ≤ length table → Grouped b s other_group table
  unfolding operations_at is_group
  others_grouped table room = record { whole = laid.placed.counted.operations; proper = laid.operations; room = omega arith }

  tests_are : group_rows b at s test_group ≡ chained_rows (test_row b at) (row + 1) (tests_at s c)
  unfolding group_rows tests_at
  tests_are = chained_same (group_row b at true) (test_row b at) (λ n x. sym (group_test b at true n x refl)) (row + 1) (tests_at s c)

  others_are : group_rows b at s other_group ≡ chained_rows (operation_row b at) (row + 1 + c.tests) (operations_at s c)
  unfolding group_rows operations_at
  others_are = chained_same (group_row b at false) (operation_row b at) (λ n x. sym (group_operation b at false n x refl)) (row + 1 + c.tests) (operations_at s c)

  tests_many : length (group_rows b at s test_group) ≡ c.tests
  unfolding tests_at
  tests_many = ap length tests_are ∙ chained_length (test_row b at) (row + 1) (tests_at s c) ∙ laid.placed.counted.tests

  others_many : length (group_rows b at s other_group) ≡ c.operations
  unfolding operations_at
  others_many = ap length others_are ∙ chained_length (operation_row b at) (row + 1 + c.tests) (operations_at s c) ∙ laid.placed.counted.operations

  rows_are : line_row b at row next l ∷ (group_rows b at s test_group ++ group_rows b at s other_group) ≡ line_rows b at row next l
  unfolding line_rows line_at
  rows_are =
      ap₂ (λ (xs ys : List Row). line_row b at row next l ∷ (xs ++ ys)) tests_are
      (others_are ∙ ap (λ (n : ℕ). chained_rows (operation_row b at) (row + 1 + n) (operations_at s c)) (sym laid.placed.counted.tests))

  pub line_many : length (line_rows b at row next l) ≡ 1 + c.tests + c.operations
  line_many = ap length (sym rows_are) ∙ simp length-append (omega (arith, tests_many, others_many))

  module _ (table : List ℕ) (room : 10 * (row + (1 + c.tests + c.operations)) ≤ length table) where
    abbrev pub once : List ℕ
    once = put_rows row (line_row b at row next l ∷ []) table

    pub once_long : length once ≡ length table
    once_long = rows_long row (line_row b at row next l ∷ []) [] table (omega arith)

    pub twice_long : length (put_rows (row + 1) (group_rows b at s test_group) once) ≡ length table
    twice_long = rows_long (row + 1) (group_rows b at s test_group) [] once (omega (arith, tests_many, once_long)) ∙ once_long

    pub line_put : put_rows (row + 1 + c.tests) (group_rows b at s other_group) (put_rows (row + 1) (group_rows b at s test_group) once) ≡ put_rows row
        (line_rows b at row next l) table
    line_put =
        ap (λ (n : ℕ). put_rows (row + 1 + n) (group_rows b at s other_group) (put_rows (row + 1) (group_rows b at s test_group) once)) (sym tests_many)
        ∙ rows_rows (row + 1) (group_rows b at s test_group) (group_rows b at s other_group) once (omega (arith, tests_many, others_many, once_long))
        ∙ rows_rows row (line_row b at row next l ∷ []) (group_rows b at s test_group ++ group_rows b at s other_group) table
        (simp length-append (omega (arith, tests_many, others_many)))
        ∙ ap (λ (rs : List Row). put_rows row rs table) rows_are

    module _ {made : Row} {once-put : List ℕ} (is : made ≡ line_row b at row next l) (e : once-put ≡ put_rows row (made ∷ []) table) where
      first_put : once-put ≡ once
      first_put = e ∙ ap (λ (r : Row). put_rows row (r ∷ []) table) is

      first_long : length once-put ≡ length table
      first_long = ap length first_put ∙ once_long

      pub tests_ready : Grouped b s test_group once-put
      tests_ready = tests_grouped once-put (omega (arith, room, first_long))

      module _ {twice-put : List ℕ} (f : twice-put ≡ put_rows (row + 1) (group_rows b at s test_group) once-put) where
        second_put : twice-put ≡ put_rows (row + 1) (group_rows b at s test_group) once
        second_put = f ∙ ap (put_rows (row + 1) (group_rows b at s test_group)) first_put

        pub others_ready : Grouped b s other_group twice-put
        others_ready = others_grouped twice-put (omega (arith, room, ap length second_put, twice_long))

        module _ {all_put : List ℕ} (g : all_put ≡ put_rows (row + 1 + c.tests) (group_rows b at s other_group) twice-put) where
          pub all_is : all_put ≡ put_rows row (line_rows b at row next l) table
          all_is = g ∙ ap (put_rows (row + 1 + c.tests) (group_rows b at s other_group)) second_put ∙ line_put

          pub all_long : length all_put ≡ length table
          all_long = ap length all_is ∙ rows_long row (line_rows b at row next l) [] table (omega (arith, room, line_many))

-- a line that was scanned, and one that breaks the grammar
module _ (b : ℕ) (s : List ℕ) where
  parts_of : (l : Line) (o : Option Typed) → read_line b s ≡ o → line_read o ≡ some l → all (is_test b) l.tests ≡ true
  unfolding line_read
  parts_of l none e f = absurd (none_some f)
  parts_of l (some t) e f =
      subst (λ (m : Line). all (is_test b) m.tests ≡ true) (some_same f) (parts b t.line (spacing b t (line_sound b s t e).typed).line).tests

  pub laid_good : {r : Scanned} {c : Scan} → r ≡ Some c → scanned_line s r ≡ line_read (read_line b s) → PlacedIn s r → Laid b s c
  unfolding scanned_line line_at
  laid_good {r} {c} is e placed =
      record {
        placed = subst (λ (q : Scanned). PlacedIn s q) is placed;
        tests = parts_of (line_at s c) (read_line b s) refl (sym e ∙ ap (scanned_line s) is);
        operations = good_operations b s is e;
      }

  module _ (at : List ℕ → ℕ) (row : ℕ) (last : Bool) where
    pub read_bad : {r : Scanned} (table : List ℕ) → r ≡ None → scanned_line s r ≡ line_read (read_line b s)
        → table ≡ put_rows row (read_rows b at row last (line_read (read_line b s))) table
    unfolding scanned_line read_rows
    read_bad table is e = rw (sym e ∙ ap (scanned_line s) is) (sym (rows_none row table))

    pub read_good : {r : Scanned} {c : Scan} (next : ℕ) → r ≡ Some c → scanned_line s r ≡ line_read (read_line b s)
        → 1 + c.tests + c.operations ≡ size_of (line_read (read_line b s))
        → next ≡ cond last 0 (row + (1 + c.tests + c.operations)) → line_rows b at row next (line_at s c) ≡ read_rows b at row last (line_read (read_line b s))
    unfolding scanned_line read_rows size_of
    read_good {r} {c} next is e long f =
        let line : line_read (read_line b s) ≡ some (line_at s c) = sym e ∙ ap (scanned_line s) is in
        sym (ap (read_rows b at row last) line
        ∙ ap (λ (n : ℕ). line_rows b at row n (line_at s c)) (sym (f ∙ ap (λ (n : ℕ). cond last 0 (row + n)) (long ∙ ap size_of line))))
