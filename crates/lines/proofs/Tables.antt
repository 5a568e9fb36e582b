-- The table of an accepted text passes the table check. Assumes nothing.
use Prim.Native.Nat.{ℕ, suc, ◌+◌, ◌-◌, ◌*◌, ◌%◌, ◌^◌, ◌≤◌, ◌<◌}
use native.Mathlib.Nat.{pow-le-pow_right}
use native.Mathlib.Omega.{arith}
use mathlib.Core.Path.{◌≡◌, refl, ap, sym, subst, ◌∙◌}
use mathlib.Core.Bool.{Bool, true, false, not, ◌&&◌, ◌||◌, cond}
use mathlib.Core.List.{List, [], ◌∷◌, ◌++◌}
use borrow.Author.Tests.{eq-eqb, ne_eqb, leb-true, lt-ltb, le-leb}
use lib.Dec.{eqb, leb, ltb}
use lib.ListN.{length, drop, replicate, length-append}
use lib.Seq.{drop-drop}
use Rattle.word.proofs.Tests.{by_test, and_true}
use Rattle.table.specs.declared.Row.{Row}
use Rattle.std.specs.Prelude.{Ok}
use Rattle.table.specs.Row.{length_fits, rows, pair_at, as_row, row_at}
use Rattle.table.specs.Operands.{test_shape}
use Rattle.table.specs.Table.{chained, shape_of, shaped, well_formed_as, well_formed, lowest_from, checked, names_rows, complete}
use Rattle.table.specs.Table as check
use Rattle.lines.specs.Words.{same, is_empty, all, any, is_done, Kind, is_symbol, pair_of}
use Rattle.lines.specs.Forms.{Form, test_forms, operation_forms, expanded, fits, form_of, is_argument, symbols_in, row_in}
use Rattle.lines.specs.Forms as form
use Rattle.lines.specs.Grammar as grammar
use Rattle.lines.specs.Program.{size, row_of, chained_rows, test_row, operation_row, go_to_row, line_row, rows_from, numbers_of, flat}
use Rattle.lines.specs.Program.{table_of, row_count, called_in, used, declares}
use Rattle.lines.proofs.Lists.{true_false, and_both, all_first, all_others, all_weaken}
use Rattle.lines.proofs.Lines.{Parts, parts}
use Rattle.lines.proofs.Rows.{form_checked, tests_checked, operations_checked, form_taken, row_taken, Checked}
use Rattle.lines.proofs.Rows.{row_checked}

all_none : {A : Type 0} (p : A → Bool) → all p [] ≡ true
unfolding all
all_none p = refl

-- rows from row r on are well-formed, in a table of n rows
unfoldable formed_from : ℕ → ℕ → ℕ → List Row → Bool
formed_from b n r [] = true
formed_from b n r (row ∷ rws) = well_formed b n r row && formed_from b n (suc r) rws

formed_append : (b n r : ℕ) (xs ys : List Row) → formed_from b n r xs ≡ true → formed_from b n (r + length xs) ys ≡ true → formed_from b n r (xs ++ ys) ≡ true
unfolding formed_from
formed_append b n r [] ys e f = subst (λ k. formed_from b n k ys ≡ true) (omega arith) f
formed_append b n r (x ∷ xs) ys e f =
    let (here, later) = and_true (well_formed b n r x) (formed_from b n (suc r) xs) e in
    and_both here (formed_append b n (suc r) xs ys later (subst (λ k. formed_from b n k ys ≡ true) (omega arith) f))

-- the ten numbers of a row are that row
row_again : (row : Row) (rest : List ℕ) → as_row (numbers_of row ++ rest) ≡ row
unfolding as_row numbers_of pair_at
row_again row rest = refl

flat_rest : (row : Row) (rest : List ℕ) → drop 10 (numbers_of row ++ rest) ≡ rest
unfolding numbers_of
flat_rest row rest = refl

-- rows that are well-formed have no lowest that is not
none_lowest : (b : ℕ) (table : List ℕ) (r : ℕ) (rws : List Row) → drop (10 * r) table ≡ flat rws → formed_from b (rows table) r rws ≡ true
    → lowest_from b table r (length rws) ≡ 0
unfolding lowest_from formed_from row_at flat
none_lowest b table r [] at e = refl
none_lowest b table r (row ∷ rws) at e =
    let (here, later) = and_true (well_formed b (rows table) r row) (formed_from b (rows table) (suc r) rws) e in
    let ten : 10 * suc r ≡ 10 * r + 10 = omega arith in
    let next : drop (10 * suc r) table ≡ flat rws =
    ap (λ (k : ℕ). drop k table) ten ∙ sym (drop-drop 10 (10 * r) table) ∙ ap (drop 10) at ∙ flat_rest row (flat rws) in
    rw (at, row_again row (flat rws), here) (none_lowest b table (suc r) rws next later)

-- sizes
pub chained_length : (make : ℕ → List (List ℕ) → Row) (r : ℕ) (xs : List (List (List ℕ))) → length (chained_rows make r xs) ≡ length xs
unfolding chained_rows
chained_length make r [] = refl
chained_length make r (x ∷ xs) = ap suc (chained_length make (suc r) xs)

pub size_pos : (l : grammar.Line) → 1 ≤ size l
unfolding size
size_pos l = omega arith

pub count_pos : (ls : List grammar.Line) → 1 ≤ row_count ls
unfolding row_count
count_pos [] = omega arith
count_pos (l ∷ ls) = let p = count_pos ls in omega arith

pub rows_length : (b : ℕ) (at : List ℕ → ℕ) (r : ℕ) (ls : List grammar.Line) → suc (length (rows_from b at r ls)) ≡ row_count ls
unfolding rows_from row_count size
rows_length b at r [] = refl
rows_length b at r (l ∷ ls) =
    let later = rows_length b at (r + (1 + length l.tests + length l.operations)) ls in
    simp (length-append, chained_length) (omega arith)

pub flat_length : (rws : List Row) → length (flat rws) ≡ 10 * length rws
unfolding flat numbers_of
flat_length [] = refl
flat_length (row ∷ rws) = let later = flat_length rws in omega arith

-- the row of a label that is declared
row_range : (r : ℕ) (ls : List grammar.Line) (w : List ℕ) → declares ls w ≡ true → (r ≤ row_of r ls w) × (row_of r ls w + 1 < r + row_count ls)
unfolding declares row_of row_count any
row_range r [] w = λ e. absurd (true_false e refl)
row_range r (l ∷ ls) w =
    by_test (λ t. (t || any (λ (m : grammar.Line). same w m.label) ls) ≡ true
    → (r ≤ cond t r (row_of (r + size l) ls w)) × (cond t r (row_of (r + size l) ls w) + 1 < r + (size l + row_count ls))) (same w l.label)
    (λ _ _. let p = count_pos ls in let q = size_pos l in omega arith)
    (λ _ e. let (low, high) = row_range (r + size l) ls w e in omega arith)

either_row : (t : Bool) {u : Bool} → u ≡ true → (t || u) ≡ true
either_row true f = refl
either_row false f = f

-- a next row that comes later, and is there
chained_next : (n r k : ℕ) → r < k → k < n → chained n r k ≡ true
chained_next n r k later inside = either_row (eqb k 0) (and_both (lt-ltb r k later) (lt-ltb k n inside))

-- chained rows are well-formed where each is
chained_formed : (b n : ℕ) (make : ℕ → List (List ℕ) → Row) (p : List (List ℕ) → Bool)
    → ((r next : ℕ) (x : List (List ℕ)) → p x ≡ true → chained n r next ≡ true → well_formed b n r (make next x) ≡ true)
    → (r : ℕ) (xs : List (List (List ℕ))) → all p xs ≡ true → r + length xs ≤ n → formed_from b n r (chained_rows make r xs) ≡ true
unfolding chained_rows formed_from
chained_formed b n make p h r [] e fit = refl
chained_formed b n make p h r (x ∷ xs) e fit =
    and_both (h r (cond (is_empty xs) 0 (suc r)) x (all_first p x xs e) (next_chained xs fit))
    (chained_formed b n make p h (suc r) xs (all_others p x xs e) (omega arith))
  where
    next_chained : (ys : List (List (List ℕ))) → r + suc (length ys) ≤ n → chained n r (cond (is_empty ys) 0 (suc r)) ≡ true
    next_chained [] f = refl
    next_chained (y ∷ ys) f = chained_next n r (suc r) (omega arith) (omega arith)

second_of : (s : Bool) {t : Bool} (u : Bool) → t ≡ true → (s || t || u) ≡ true
second_of true u e = refl
second_of false u e = rw e

third_of : (s t : Bool) {u : Bool} → u ≡ true → (s || t || u) ≡ true
third_of true t e = refl
third_of false true e = refl
third_of false false e = e

first_of : {s : Bool} (t u : Bool) → s ≡ true → (s || t || u) ≡ true
first_of t u e = rw e

-- no test has a label
symbols_none : (ks : List Kind) (args : List (List ℕ)) → not (any is_symbol ks) ≡ true → symbols_in ks args ≡ []
unfolding symbols_in any
symbols_none [] args = λ e. refl
symbols_none (k ∷ ks) [] = λ e. refl
symbols_none (k ∷ ks) (w ∷ ws) =
    by_test (λ t. not (t || any is_symbol ks) ≡ true → cond t (w ∷ symbols_in ks ws) (symbols_in ks ws) ≡ []) (is_symbol k)
    (λ _ e. absurd (true_false e refl)) (λ _ e. symbols_none ks ws e)

abbrev plain_form : Form → Bool
plain_form f = not (any is_symbol f.arguments)

tests_plain : all plain_form test_forms ≡ true
unfolding all any test_forms is_symbol
tests_plain = refl

module _ (b n : ℕ) (at : List ℕ → ℕ) where
  as_test : (r next : ℕ) (f : Form) (args : List (List ℕ)) → chained n r next ≡ true → Checked b n at 7 (λ _. test_shape) (row_in at 2 next f args)
      → well_formed_as 2 b n r (row_in at 2 next f args) ≡ true
  unfolding well_formed_as shaped check.is_test row_in
  as_test r next f args c k = and_both c (and_both k.code_low (and_both k.code_high k.all_fits))

  as_operation : (r next : ℕ) (f : Form) (args : List (List ℕ)) → chained n r next ≡ true → Checked b n at 36 shape_of (row_in at 3 next f args)
      → well_formed_as 3 b n r (row_in at 3 next f args) ≡ true
  unfolding well_formed_as shaped check.is_operation row_in
  as_operation r next f args c k = and_both c (and_both k.code_low (and_both k.code_high k.all_fits))

  test_formed : (r next : ℕ) (args : List (List ℕ)) → form.is_test b args ≡ true → chained n r next ≡ true → well_formed b n r (test_row b at next args) ≡ true
  unfolding form.is_test well_formed test_row
  test_formed r next args e c =
      let some-form = (and_true (all is_argument args) (any (fits b args) test_forms) e).1 in
      let good = form_taken b args (form_checked 7 (λ _. test_shape)) test_forms tests_checked some-form in
      let plain = form_taken b args plain_form test_forms tests_plain some-form in
      second_of (well_formed_as 1 b n r (test_row b at next args)) (well_formed_as 3 b n r (test_row b at next args))
      (as_test r next (form_of b args test_forms) args c
      (row_checked b n at 7 (λ _. test_shape) 2 next (form_of b args test_forms) args good.keeps good.fitting
      (rw (symbols_none (form_of b args test_forms).arguments args plain.keeps) (all_none (row_taken b n at)))))

  -- an operation whose labels have rows
  abbrev kept_operation : List (List ℕ) → Bool
  kept_operation args = form.is_operation b args && all (row_taken b n at) (symbols_in (form_of b (expanded args) operation_forms).arguments (expanded args))

  operation_formed : (r next : ℕ) (args : List (List ℕ)) → kept_operation args ≡ true → chained n r next ≡ true
      → well_formed b n r (operation_row b at next args) ≡ true
  unfolding form.is_operation well_formed operation_row
  operation_formed r next args e c =
      let (is, labels) = and_true (form.is_operation b args) _ e in
      let some-form = (and_true (all is_argument args) (any (fits b (expanded args)) operation_forms) is).1 in
      let good = form_taken b (expanded args) (form_checked 36 shape_of) operation_forms operations_checked some-form in
      third_of (well_formed_as 1 b n r (operation_row b at next args)) (well_formed_as 2 b n r (operation_row b at next args))
      (as_operation r next (form_of b (expanded args) operation_forms) (expanded args) c
      (row_checked b n at 36 shape_of 3 next (form_of b (expanded args) operation_forms) (expanded args) good.keeps good.fitting labels))

  -- a line whose go-to has a row
  goes : List ℕ → Bool
  goes w = (is_empty w || is_done w) || (leb 1 (at w) && ltb (at w) n)

  go_to_row_lem : (w : List ℕ) → goes w ≡ true
      → ((check.row_or_none n (go_to_row b at w) || eqb (go_to_row b at w) 65535) ≡ true) × (is_empty w ≡ false → eqb (go_to_row b at w) 0 ≡ false)
  unfolding goes go_to_row
  go_to_row_lem [] e = (refl, λ f. absurd (true_false refl f))
  go_to_row_lem (x ∷ w) e =
      by_test (λ t. (t || (leb 1 (at (x ∷ w)) && ltb (at (x ∷ w)) n)) ≡ true
      → ((check.row_or_none n (cond t 65535 (at (x ∷ w))) || eqb (cond t 65535 (at (x ∷ w))) 65535) ≡ true)
      × (false ≡ false → eqb (cond t 65535 (at (x ∷ w))) 0 ≡ false)) (is_done (x ∷ w))
      (λ _ _. (either_row (ltb 65535 n) refl, λ _. refl))
      (λ _ f.
      let (low, high) = and_true (leb 1 (at (x ∷ w))) (ltb (at (x ∷ w)) n) f in (
        rw (either_row (eqb (at (x ∷ w)) 0) high),
        λ _. ne_eqb (at (x ∷ w)) 0 (λ z. absurd (omega (arith, leb-true 1 (at (x ∷ w)) low))),
      )) e

  line_formed : (r next : ℕ) (l : grammar.Line) → Parts b l → goes l.go_to_of ≡ true → r + size l ≤ n → chained n r next ≡ true
      → well_formed b n r (line_row b at r next l) ≡ true
  unfolding well_formed well_formed_as shaped check.is_line names_rows complete line_row size
  line_formed r next l p g fit c =
      first_of _ _
      (and_both c
      (and_both
      (and_both (first_row_lem (is_empty l.tests) (r + 1) (λ e. tests_fit l.tests e fit))
      (and_both (first_row_lem (is_empty l.operations) (r + 1 + length l.tests) (λ e. operations_fit l.operations e fit)) (go_to_row_lem l.go_to_of g).0))
      (and_both (and_both p.modes refl)
      (and_both (tests_kept (eqb l.mode 0) (is_empty l.tests) p.conditions)
      (and_both (goes_on (is_empty l.operations) (is_empty l.go_to_of) p.does (go_to_row_lem l.go_to_of g).1) refl)))))
    where
      first_row_lem : (t : Bool) (k : ℕ) → (t ≡ false → k < n) → check.row_or_none n (cond t 0 k) ≡ true
      first_row_lem true k h = refl
      first_row_lem false k h = either_row (eqb k 0) (lt-ltb k n (h refl))

      tests_fit : (ts : List (List (List ℕ))) → is_empty ts ≡ false → r + (1 + length ts + length l.operations) ≤ n → r + 1 < n
      tests_fit [] e f = absurd (true_false refl e)
      tests_fit (t ∷ ts) e f = omega arith

      operations_fit : (os : List (List (List ℕ))) → is_empty os ≡ false → r + (1 + length l.tests + length os) ≤ n → r + 1 + length l.tests < n
      operations_fit [] e f = absurd (true_false refl e)
      operations_fit (o ∷ os) e f = omega arith

      tests_kept : (m t : Bool) → cond m t (not t) ≡ true → cond m (eqb (cond t 0 (r + 1)) 0) (not (eqb (cond t 0 (r + 1)) 0)) ≡ true
      tests_kept true true e = refl
      tests_kept true false e = absurd (true_false e refl)
      tests_kept false true e = absurd (true_false e refl)
      tests_kept false false e = rw (ne_eqb (r + 1) 0 (λ z. absurd (omega arith)))

      goes_on : (o g : Bool) → not (o && g) ≡ true → (g ≡ false → eqb (go_to_row b at l.go_to_of) 0 ≡ false)
          → not (eqb (cond o 0 (r + 1 + length l.tests)) 0 && eqb (go_to_row b at l.go_to_of) 0) ≡ true
      goes_on false g e h = rw (ne_eqb (r + 1 + length l.tests) 0 (λ z. absurd (omega arith)))
      goes_on true true e h = absurd (true_false e refl)
      goes_on true false e h = rw (h refl)

  -- lines whose labels have rows
  kept_line_of : grammar.Line → Bool
  kept_line_of l = grammar.is_line b l && (all kept_operation l.operations && goes l.go_to_of)

  rows_formed : (r : ℕ) (ls : List grammar.Line) → all kept_line_of ls ≡ true → r + row_count ls ≡ n + 1 → formed_from b n r (rows_from b at r ls) ≡ true
  unfolding kept_line_of rows_from formed_from row_count size
  rows_formed r [] e fit = refl
  rows_formed r (l ∷ ls) e fit =
      let (line, rest) = and_true (grammar.is_line b l) (all kept_operation l.operations && goes l.go_to_of) (all_first kept_line_of l ls e) in
      let (operations, go) = and_true (all kept_operation l.operations) (goes l.go_to_of) rest in
      let its = parts b l line in
      let more = count_pos ls in
      and_both (line_formed r _ l its go (omega arith) (next_line_lem ls fit))
      (formed_append b n (suc r) (chained_rows (test_row b at) (r + 1) l.tests) _
      (subst (λ k. formed_from b n k (chained_rows (test_row b at) (r + 1) l.tests) ≡ true) (plus_one r)
      (chained_formed b n (test_row b at) (form.is_test b) test_formed (r + 1) l.tests its.tests (omega arith)))
      (formed_append b n (suc r + length (chained_rows (test_row b at) (r + 1) l.tests))
      (chained_rows (operation_row b at) (r + 1 + length l.tests) l.operations) _
      (subst (λ k. formed_from b n k (chained_rows (operation_row b at) (r + 1 + length l.tests) l.operations) ≡ true) (after_tests l)
      (chained_formed b n (operation_row b at) kept_operation operation_formed (r + 1 + length l.tests) l.operations operations (omega arith)))
      (subst (λ k. formed_from b n k (rows_from b at (r + size l) ls) ≡ true) (after_all l)
      (rows_formed (r + size l) ls (all_others kept_line_of l ls e) (omega arith)))))
    where
      plus_one : (k : ℕ) → k + 1 ≡ suc k
      plus_one k = omega arith

      after_tests : (l : grammar.Line) → r + 1 + length l.tests ≡ suc r + length (chained_rows (test_row b at) (r + 1) l.tests)
      after_tests l = rw (chained_length (test_row b at) (r + 1) l.tests) (omega arith)

      after_all : (l : grammar.Line) → r + size l ≡ suc r + length (chained_rows (test_row b at) (r + 1) l.tests)
          + length (chained_rows (operation_row b at) (r + 1 + length l.tests) l.operations)
      after_all l =
          rw (chained_length (test_row b at) (r + 1) l.tests, chained_length (operation_row b at) (r + 1 + length l.tests) l.operations) (omega arith)

      next_line_lem : (ms : List grammar.Line) → r + (1 + length l.tests + length l.operations + row_count ms) ≡ n + 1
          → chained n r (cond (is_empty ms) 0 (r + size l)) ≡ true
      next_line_lem [] f = refl
      next_line_lem (m ∷ ms) f = let p = count_pos ms in chained_next n r (r + size l) (omega arith) (omega arith)

all_cons : {A : Type 0} (p : A → Bool) (x : A) (xs : List A) → p x ≡ true → all p xs ≡ true → all p (x ∷ xs) ≡ true
unfolding all
all_cons p x xs e f = and_both e f

all_apart : {A : Type 0} (p : A → Bool) (xs ys : List A) → all p (xs ++ ys) ≡ true → (all p xs ≡ true) × (all p ys ≡ true)
unfolding all
all_apart p [] ys e = (refl, e)
all_apart p (x ∷ xs) ys e =
    let (here, rest) = and_true (p x) (all p (xs ++ ys)) e in
    let (left, right) = all_apart p xs ys rest in
    (and_both here left, right)

-- what is asked of lines: each keeps the grammar, and the labels that it uses are declared
abbrev pub keeps_labels : ℕ → List grammar.Line → grammar.Line → Bool
keeps_labels b all_lines l = grammar.is_line b l && all (declares all_lines) (used b l)

module _ (b : ℕ) (wide : 10 ≤ b) (ls : List grammar.Line) (short : row_count ls ≤ 800) where
  abbrev count : ℕ
  count = row_count ls

  -- a declared label's row is one that DO takes, and that a go-to takes
  declared_row : (w : List ℕ) → declares ls w ≡ true → (1 ≤ row_of 1 ls w) × (row_of 1 ls w < count)
  declared_row w e = let (low, high) = row_range 1 ls w e in omega arith

  declared_taken : (w : List ℕ) → declares ls w ≡ true → row_taken b count (row_of 1 ls) w ≡ true
  unfolding pair_of
  declared_taken w e =
      let (low, high) = declared_row w e in
      let large : 2 ^ 10 ≤ 2 ^ b = pow-le-pow_right {n = 2} (omega arith) wide in
      and_both (lt-ltb (row_of 1 ls w) (2 ^ b) (omega arith)) (and_both (le-leb 1 (row_of 1 ls w) low) (lt-ltb (row_of 1 ls w) count high))

  kept_operations : (xs : List (List (List ℕ))) → all (form.is_operation b) xs ≡ true → all (declares ls) (called_in b xs) ≡ true
      → all (kept_operation b count (row_of 1 ls)) xs ≡ true
  unfolding called_in
  kept_operations [] e d = all_none (kept_operation b count (row_of 1 ls))
  kept_operations (x ∷ xs) e d =
      let (here, later) = all_apart (declares ls) (symbols_in (form_of b (expanded x) operation_forms).arguments (expanded x)) (called_in b xs) d in
      all_cons (kept_operation b count (row_of 1 ls)) x xs
      (and_both (all_first (form.is_operation b) x xs e) (all_weaken (declares ls) (row_taken b count (row_of 1 ls)) declared_taken _ here))
      (kept_operations xs (all_others (form.is_operation b) x xs e) later)

  kept_go_to : (w : List ℕ) → all (declares ls) (cond (is_empty w || is_done w) [] (w ∷ [])) ≡ true → goes b count (row_of 1 ls) w ≡ true
  unfolding goes
  kept_go_to w =
      by_test (λ t. all (declares ls) (cond t [] (w ∷ [])) ≡ true → (t || (leb 1 (row_of 1 ls w) && ltb (row_of 1 ls w) count)) ≡ true) (is_empty w || is_done w)
      (λ _ _. refl)
      (λ _ e. let (low, high) = declared_row w (all_first (declares ls) w [] e) in
      and_both (le-leb 1 (row_of 1 ls w) low) (lt-ltb (row_of 1 ls w) count high))

  kept_line : (l : grammar.Line) → keeps_labels b ls l ≡ true → kept_line_of b count (row_of 1 ls) l ≡ true
  unfolding kept_line_of used
  kept_line l e =
      let (line, labels) = and_true (grammar.is_line b l) (all (declares ls) (used b l)) e in
      let (called, go) = all_apart (declares ls) (called_in b l.operations) _ labels in
      and_both line (and_both (kept_operations l.operations (parts b l line).operations called) (kept_go_to l.go_to_of go))

  table_long : (rws : List Row) → suc (length rws) ≡ count → length (replicate 10 0 ++ flat rws) ≡ 10 * count
  table_long rws e = let long = flat_length rws in omega arith

  rows_number : (table : List ℕ) → length table ≡ 10 * count → rows table ≡ count
  unfolding rows
  rows_number table e = omega arith

  length_fits_lem : (table : List ℕ) → length table ≡ 10 * count → 2 ≤ count → length_fits table ≡ true
  unfolding length_fits
  length_fits_lem table e more =
      and_both (and_both (le-leb 20 (length table) (omega arith)) (le-leb (length table) 8000 (omega arith))) (eq-eqb (length table % 10) 0 (omega arith))

  -- such lines make a table that passes the check, provided there is a line
  pub table_passes : all (keeps_labels b ls) ls ≡ true → 2 ≤ row_count ls → checked b (table_of b ls) ≡ Ok 0
  unfolding checked table_of
  table_passes e more =
      let rws = rows_from b (row_of 1 ls) 1 ls in
      let table = replicate 10 0 ++ flat rws in
      let type_size = rows_length b (row_of 1 ls) 1 ls in
      let long : length table ≡ 10 * count = table_long rws type_size in
      let number : rows table ≡ count = rows_number table long in
      let left : rows table - 1 ≡ length rws = omega arith in
      let formed : formed_from b count 1 rws ≡ true =
      rows_formed b count (row_of 1 ls) 1 ls (all_weaken (keeps_labels b ls) (kept_line_of b count (row_of 1 ls)) kept_line ls e) (omega arith) in
      let none_low : lowest_from b table 1 (length rws) ≡ 0 = none_lowest b table 1 rws refl (rw number formed) in
      rw (length_fits_lem table long more, left, none_low)
