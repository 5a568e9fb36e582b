-- Sets that no round changes hold all that paths miss: where some path reaches a row without a field, the mark of that row has the field.
-- Assumes nothing.
use Prim.Native.Nat.{ℕ, ◌<◌}
use native.Mathlib.Omega.{arith}
use mathlib.Core.Bool.{Bool, true, false, not, ◌&&◌, cond}
use mathlib.Core.List.{List}
use mathlib.Core.Logic.{◌⊎◌, inl, inr, ⊎_elim}
use mathlib.Core.Path.{◌≡◌, refl, ap, sym, subst, ◌∙◌}
use borrow.Author.Tests.{eqb-true, eqb-false, eq-eqb, ne_eqb}
use lib.Dec.{eqb}
use lib.ListN.{length}
use Rattle.table.specs.declared.Row.{Row}
use Rattle.table.specs.Row.{rows, row_at, first_test, first_operation}
use Rattle.machine.proofs.Checks.{and_true, clash}
use Rattle.defined.specs.Paths.{Point, line, test, operation, exit, operation_or, AfterDo, after_do, Leads, to_tests, no_tests}
use Rattle.defined.specs.Paths.{next_test, satisfied, otherwise, doing, next_operation, going, next_line, returning, Fields}
use Rattle.defined.specs.Paths.{after, passing, Path, start, along, StandsAt, at_test, at_operation, UsesUndefined}
use Rattle.defined.specs.Search.{has, reached, without, including, set_after, Sets, set_at, set_past, marking}
use Rattle.defined.specs.Search.{tests_marked, chain_marked, line_marked_of, lines_marked}
use Rattle.defined.specs.Answer.{Passes, IsRow, RowOrNone}
use Rattle.defined.proofs.Refers.{or_left, or_right}
use Rattle.defined.proofs.Numbers.{Sub, has_without, has_including}
use Rattle.defined.proofs.Final.{Grows, grows_refl, grows_trans, joined_grows, visited_grows, long_none}
use Rattle.defined.proofs.Fit.{first_line, next_row, test_row_lem, operation_row_lem, go_to_row_lem, definition_name, restore_name}
use Rattle.defined.proofs.Fit.{do_row, operation_below, test_below}
use Rattle.defined.proofs.Chains.{Comes, here, comes_on, comes_row, comes_split, in_chain_comes, begins, set_inside}
use Rattle.defined.proofs.Chains.{visited_settles, lines_settled}
use Rattle.defined.proofs.Settled.{Led, LineLed, RestLed, joined_sub}

-- the set of a point has each field that a path to it misses, and the point is reached
pub record Misses (x : ℕ) (fields : Fields) : Type 0 where
  pub there : has x reached ≡ true
  pub missed : (n : ℕ) → n < 36 → fields n ≡ false → has x n ≡ true

sub_misses : (x y : ℕ) (fields : Fields) → Sub x y → Misses x fields → Misses y fields
sub_misses x y fields s m = record { there = s 36 (omega arith) m.there; missed = λ n h k. s n (omega arith) (m.missed n h k) }

-- a set after an operation has what the path misses after it
misses_after : (row : Row) (x : ℕ) (fields : Fields) → (row.code ≡ 2 → row.name < 36) → (row.code ≡ 35 → row.name < 36)
    → Misses x fields → Misses (set_after row x) (after row fields)
unfolding set_after after
misses_after row x fields d s m =
    elim (eqb row.code 2) as (λ t. eqb row.code 2 ≡ t
    → Misses (cond t (without row.name x) (cond (eqb row.code 35) (including row.name x) x))
    (λ n. cond (t && eqb row.name n) true (cond (eqb row.code 35 && eqb row.name n) false (fields n)))) [
      | true ↦ λ e. defined (d (eqb-true _ _ e)) (eqb row.code 35)
      | false ↦ λ e.
          elim (eqb row.code 35) as (λ t. eqb row.code 35 ≡ t
          → Misses (cond t (including row.name x) x) (λ n. cond (t && eqb row.name n) false (fields n))) [
            | true ↦ λ q. restored
            | false ↦ λ q. m
          ] refl
    ] refl
  where
    defined : row.name < 36 → (u : Bool) → Misses (without row.name x) (λ n. cond (eqb row.name n) true (cond (u && eqb row.name n) false (fields n)))
    defined below u =
        record {
          there = has_without row.name x 36 (omega arith) ∙ and_true m.there (ap not (ne_eqb row.name 36 (λ e. omega arith)));
          missed = λ n h k.
              elim (eqb row.name n) as (λ t. eqb row.name n ≡ t → cond t true (cond (u && t) false (fields n)) ≡ false → has
              (without row.name x) n ≡ true) [
                | true ↦ λ e q. clash (sym q)
                | false ↦ λ e q.
                    has_without row.name x n (omega arith)
                    ∙ and_true (m.missed n h (kept u q)) (ap not e)
              ] refl k;
        }
      where
        kept : (u : Bool) {v : Bool} → cond (u && false) false v ≡ false → v ≡ false
        kept true q = q
        kept false q = q

    restored : Misses (including row.name x) (λ n. cond (eqb row.name n) false (fields n))
    restored =
        record {
          there = has_including row.name x 36 (omega arith) ∙ or_left (has x 36) _ m.there;
          missed = λ n h k.
              elim (eqb row.name n) as (λ t. eqb row.name n ≡ t → cond t false (fields n) ≡ false → has (including row.name x) n ≡ true) [
                | true ↦ λ e q. has_including row.name x n (omega arith) ∙ or_right (has x n) _ (and_true m.there e)
                | false ↦ λ e q. has_including row.name x n (omega arith) ∙ or_left (has x n) _ (m.missed n h q)
              ] refl k;
        }

-- the sets have led on everywhere, with what is known at each line's start and at the DONEs
pub record Closed (table : List ℕ) (sets : Sets) : Type 0 where
  pub begin : (n : ℕ) → n < 37 → has (set_at sets 1) n ≡ true
  pub lines : (l : ℕ) → IsRow table 1 l → LineLed table l (set_at sets l) sets
  pub rests : (l : ℕ) → IsRow table 1 l → RestLed table l (set_at sets 0) sets

-- the marks of a line's tests and operations have its sets
pub record Marked (table : List ℕ) (sets : Sets) (l : ℕ) (marks : Sets) : Type 0 where
  pub tests : (t x : ℕ) → (t ≡ 0 → ⊥) → Comes table (λ row y. y) t x (first_test (row_at table l)) (set_at sets l) → Sub x (set_at marks t)
  pub operations : (r x : ℕ) → (r ≡ 0 → ⊥) → Comes table (set_past (set_at sets 0)) r x (first_operation (row_at table l)) (set_at sets l) → Sub x (set_at marks r)

module _ (b : ℕ) (table : List ℕ) (h : Passes b table) (sets : Sets) where
  -- a chain that is marked
  visited_marks : (past : Row → ℕ → ℕ) (kind r₀ x₀ : ℕ) (marks : Sets) → RowOrNone table kind r₀ → length marks ≡ 800
      → (r x : ℕ) → Comes table past r x r₀ x₀
      → ((r ≡ 0 → ⊥) → Sub x (set_at (Rattle.defined.specs.Search.visited (marking past) (rows table) table r₀ x₀ marks) r))
  visited_marks past kind r₀ x₀ marks i long =
      visited_settles b table h (marking past) kind (λ r x s. (r ≡ 0 → ⊥) → Sub x (set_at s r)) (λ r x s t g k some n few q. g.kept r n few (k some n few q))
      joined_grows (λ x s. grows_refl s) (λ r x s j n some. joined_sub r x s (set_inside b table h kind r j) n) (λ x s n some. absurd (some refl))
      (rows table) r₀ x₀ marks (begins b table h kind r₀ i) long

  tests_grow : (t x : ℕ) (marks : Sets) → Grows marks (tests_marked table t x marks)
  unfolding tests_marked
  tests_grow t x marks = visited_grows (marking (λ row y. y)) joined_grows (λ y s. grows_refl s) (rows table) table t x marks

  chain_grows : (r x d : ℕ) (marks : Sets) → Grows marks (chain_marked table r x d marks)
  unfolding chain_marked
  chain_grows r x d marks = visited_grows (marking (set_past d)) joined_grows (λ y s. grows_refl s) (rows table) table r x marks

  line_grows : (l : ℕ) (marks : Sets) → Grows marks (line_marked_of table sets l marks)
  unfolding line_marked_of
  line_grows l marks = grows_trans _ _ _ (tests_grow _ _ marks) (chain_grows _ _ _ _)

  line_marks : (l : ℕ) (marks : Sets) → IsRow table 1 l → length marks ≡ 800 → Marked table sets l (line_marked_of table sets l marks)
  unfolding line_marked_of tests_marked chain_marked
  line_marks l marks i long =
      let tested = tests_marked table (first_test (row_at table l)) (set_at sets l) marks in
      record {
        tests = λ t x some c n few k.
            (chain_grows (first_operation (row_at table l)) (set_at sets l) (set_at sets 0) tested).kept t n few
            (visited_marks (λ row y. y) 2 _ _ marks (test_row_lem b table h l i) long t x c some n few k);
        operations = λ r x some c.
            visited_marks (set_past (set_at sets 0)) 3 _ _ tested (operation_row_lem b table h l i) ((tests_grow _ _ marks).long ∙ long) r x c some;
      }

  marked_grown : (l : ℕ) (s t : Sets) → Grows s t → Marked table sets l s → Marked table sets l t
  marked_grown l s t g k =
      record {
        tests = λ r x some c n few q. g.kept r n few (k.tests r x some c n few q);
        operations = λ r x some c n few q. g.kept r n few (k.operations r x some c n few q);
      }

  all_marked : (l : ℕ) → IsRow table 1 l → Marked table sets l (lines_marked table sets)
  unfolding lines_marked
  all_marked l i = lines_settled b table h (line_marked_of table sets) (Marked table sets) marked_grown line_grows line_marks _ long_none l i

  module _ (k : Closed table sets) where
    abbrev d : ℕ
    d = set_at sets 0

    -- the walk of a line with its set comes to row r (0: its exit) with the set x
    abbrev Come : ℕ → ℕ → ℕ → Type 0
    Come l r x = Comes table (set_past d) r x (first_operation (row_at table l)) (set_at sets l)

    come_led : (l r x : ℕ) → IsRow table 1 l → Come l r x → Led table l r x sets
    come_led l r x i c = ⊎_elim (λ q. (k.lines l i).chain r x q) (λ q. k.rests l i r x (q 0)) (comes_split table d r x _ _ c)

    come_row : (l r x : ℕ) → IsRow table 1 l → Come l r x → RowOrNone table 3 r
    come_row l r x i c = comes_row b table h 3 (set_past d) r x _ _ (operation_row_lem b table h l i) c

    -- what a path misses is in the set of the point that it has come to
    Held : Point → Fields → Type 0
    Held (line l) fields = IsRow table 1 l × Misses (set_at sets l) fields
    Held (test t l) fields =
        IsRow table 1 l × ((t ≡ 0 → ⊥) × (Comes table (λ row y. y) t (set_at sets l) (first_test (row_at table l)) (set_at sets l) × Misses (set_at sets l) fields))
    Held (operation r l) fields = (x : ℕ) × (IsRow table 1 l × ((r ≡ 0 → ⊥) × (Come l r x × Misses x fields)))
    Held (exit l) fields = (x : ℕ) × (IsRow table 1 l × (Come l 0 x × Misses x fields))

    held_or : (l r x : ℕ) (fields : Fields) → IsRow table 1 l → Come l r x → Misses x fields → Held (operation_or r l) fields
    unfolding operation_or Held
    held_or l r x fields i c m =
        elim (eqb r 0) as (λ t. eqb r 0 ≡ t → Held (cond t (exit l) (operation r l)) fields) [
          | true ↦ λ z. (x, (i, (subst (λ j. Come l j x) (eqb-true r 0 z) c, m)))
          | false ↦ λ z. (x, (i, (eqb-false r 0 z, (c, m))))
        ] refl

    -- the sets past a row: after a DO the DONEs' set, after any other operation as it changes it
    past_do : (row : Row) (x : ℕ) → row.code ≡ 36 → set_past d row x ≡ d
    unfolding set_past
    past_do row x e = rw (eq-eqb row.code 36 e)

    past_other : (row : Row) (x : ℕ) → (row.code ≡ 36 → ⊥) → set_past d row x ≡ set_after row x
    unfolding set_past
    past_other row x o = rw (ne_eqb row.code 36 o)

    after_do_same : (row : Row) (x : ℕ) (fields : Fields) → row.code ≡ 36 → Misses x fields → Misses x (after row fields)
    unfolding after
    after_do_same row x fields e m =
        record {
          there = m.there;
          missed = λ n few q. m.missed n few
              (rw (ne_eqb row.code 2 (λ z. omega arith), ne_eqb row.code 35 (λ z. omega arith)) at q);
        }

    misses_past : (r x : ℕ) (fields : Fields) → IsRow table 3 r → Misses x fields → Misses (set_after (row_at table r) x) (after (row_at table r) fields)
    misses_past r x fields i m = misses_after (row_at table r) x fields (definition_name b table h r i) (restore_name b table h r i) m

    held_after_do : (q : Point) (fields : Fields) → AfterDo table q → Misses d fields → Held q fields
    held_after_do q fields (after_do {l = l} {r = r} c e) m =
        let (x, (i, (some, comes))) = in_chain_comes b table h (set_past d) l r (set_at sets l) c in
        held_or l (row_at table r).next d fields i
        (subst (λ y. Come l (row_at table r).next y) (past_do (row_at table r) x e) (comes_on table (set_past d) r x _ _ some comes)) m

    held_on : (p q : Point) (fields : Fields) → Leads table p q → Held p fields → Held q (passing table p fields)
    unfolding Held passing
    held_on p q fields (to_tests some) t = (t.0, (some, (here, t.1)))
    held_on p q fields (no_tests {l = l} none) t = held_or l _ _ fields t.0 here t.1
    held_on p q fields (next_test {t = r} some) t =
        let (i, (this, (c, m))) = t in (i, (some, (comes_on table (λ row y. y) r _ _ _ this c, m)))
    held_on p q fields (satisfied {l = l}) t = let (i, (this, (c, m))) = t in held_or l _ _ fields i here m
    held_on p q fields (otherwise {t = r} {l = l} some) t =
        let (i, (this, (c, m))) = t in
        ((next_row b table h 1 l i some).0, sub_misses _ _ fields ((k.lines l i).tests (tested_first l r _ this c) some) m)
      where
        tested_first : (l t x : ℕ) → (t ≡ 0 → ⊥) → Comes table (λ row y. y) t x (first_test (row_at table l)) (set_at sets l) → first_test (row_at table l) ≡ 0 → ⊥
        tested_first l t x this c z =
            ⊎_elim (λ q. this (q.0 ∙ z)) (λ q. q.0 z) (Rattle.defined.proofs.Chains.comes_front table (λ row y. y) t x _ _ c)
    held_on p q fields (doing {r = r} {l = l} e) t =
        let (x, (i, (some, (c, m)))) = t in (
          do_row b table h r (come_row l r x i c some) e,
          after_do_same (row_at table r) _ fields e
              (sub_misses _ _ fields ((come_led l r x i c).entered some e) m),
        )
    held_on p q fields (next_operation {r = r} {l = l} o) t =
        let (x, (i, (some, (c, m)))) = t in
        held_or l _ (set_after (row_at table r) x) _ i
        (subst (λ y. Come l (row_at table r).next y) (past_other (row_at table r) x o) (comes_on table (set_past d) r x _ _ some c))
        (misses_past r x fields (come_row l r x i c some) m)
    held_on p q fields (going {l = l} other some) t =
        let (x, (i, (c, m))) = t in
        (go_to_row_lem b table h l i other some, sub_misses _ _ fields (((come_led l 0 x i c).left refl).to_line other some) m)
    held_on p q fields (next_line {l = l} none some) t =
        let (x, (i, (c, m))) = t in
        ((next_row b table h 1 l i some).0, sub_misses _ _ fields (((come_led l 0 x i c).left refl).to_next none some) m)
    held_on p q fields (returning {l = l} e a) t =
        let (x, (i, (c, m))) = t in
        held_after_do _ fields a (sub_misses _ _ fields (((come_led l 0 x i c).left refl).to_done e) m)

    held : (p : Point) (fields : Fields) → Path table p fields → Held p fields
    unfolding Held
    held p fields start = (first_line b table h, record { there = k.begin 36 (omega arith); missed = λ n few q. k.begin n (omega arith) })
    held p fields (along {p = p'} {fields = fields'} path leads) = held_on p' p fields' leads (held p' fields' path)

    -- the mark of a row has what some path uses there undefined
    marked_at : (p : Point) (r n : ℕ) (fields : Fields) → StandsAt p r → Held p fields
        → Rattle.defined.proofs.Refers.row_refers (row_at table r) n ≡ true → fields n ≡ false
        → (n < 36) × (has (set_at (lines_marked table sets) r) n ≡ true)
    unfolding Held
    marked_at p r n fields (at_test {t = t} {l = l}) k u e =
        let (i, (some, (c, m))) = k in
        let below = test_below b table h t (comes_row b table h 2 (λ row y. y) t _ _ _ (test_row_lem b table h l i) c some) n u in
        (below, (all_marked l i).tests t _ some c n (omega arith) (m.missed n below e))
    marked_at p r n fields (at_operation {r = q} {l = l}) k u e =
        let (x, (i, (some, (c, m)))) = k in
        let below = operation_below b table h q (come_row l q x i c some) n u in
        (below, (all_marked l i).operations q x some c n (omega arith) (m.missed n below e))

    -- such a row is a test or an operation
    stands_row : (p : Point) (r : ℕ) (fields : Fields) → StandsAt p r → Held p fields → IsRow table 2 r ⊎ IsRow table 3 r
    unfolding Held
    stands_row p r fields (at_test {t = t} {l = l}) k =
        let (i, (some, (c, m))) = k in inl (comes_row b table h 2 (λ row y. y) t _ _ _ (test_row_lem b table h l i) c some)
    stands_row p r fields (at_operation {r = q} {l = l}) k = let (x, (i, (some, (c, m)))) = k in inr (come_row l q x i c some)

    pub used_row : (r n : ℕ) → UsesUndefined table r n → IsRow table 2 r ⊎ IsRow table 3 r
    used_row r n u = stands_row u.point r u.fields u.is_at (held u.point u.fields u.path)

    pub closed_marked : (r n : ℕ) → UsesUndefined table r n → (n < 36) × (has (set_at (lines_marked table sets) r) n ≡ true)
    closed_marked r n u = marked_at u.point r n u.fields u.is_at (held u.point u.fields u.path) u.is_used u.is_undefined
