-- The loops: what is left of a chain, of the lines, of the rows and of the rounds gives what the whole gives.
-- Assumes nothing.
use Prim.Native.Nat.{ℕ, zero, suc, ◌+◌, ◌-◌, ◌≤◌, ◌<◌}
use native.Mathlib.Omega.{arith}
use mathlib.Core.Bool.{Bool, true, false, cond}
use mathlib.Core.List.{List, [], ◌∷◌}
use mathlib.Core.Logic.{⊎_elim}
use mathlib.Core.Path.{◌≡◌, refl, ap, ap₂, sym, ◌∙◌}
use borrow.Author.Tests.{eq-eqb, ne_eqb, eqb-true, eqb-false}
use lib.Dec.{eqb}
use lib.ListN.{get_or, length, drop}
use lib.Seq.{drop-cons}
use Rattle.table.specs.declared.FieldName.{FieldName}
use Rattle.table.specs.Row.{rows, row_at, first_test, first_operation, go_to_of, done}
use Rattle.std.specs.Prelude.{Some, None}
use Rattle.machine.proofs.Places.{rows_few}
use Rattle.defined.specs.Kinds.{is_kind}
use Rattle.defined.specs.declared.accepted.Table.{Table}
use Rattle.defined.specs.declared.rounds.Rounds.{Rounds}
use Rattle.defined.specs.Search.{has, Sets, set_at, Visit, visited, each_line, joined_at, line_walked, changed_walked}
use Rattle.defined.specs.Search.{lines_walked, rests_walked, returns_walked, rounded, times, first_in, use_at, or_later}
use Rattle.defined.specs.Search.{lowest_using}
use Rattle.defined.specs.Answer.{Passes, Accepted, IsRow, RowOrNone}
use Rattle.defined.proofs.Final.{round_grows, times_same}
use Rattle.defined.proofs.Fit.{References, next_row, test_row_lem, operation_row_lem, go_to_row_lem, do_row, other_row}
use Rattle.defined.proofs.Fit.{operation_name, operation_references, test_references}
use Rattle.defined.proofs.Chains.{Place, begins, goes_on, set_inside}

-- what falls as a chain is followed: the rows after row r, none once it has ended
abbrev pub rows_left : List ℕ → ℕ → ℕ
rows_left table r = cond (eqb r 0) 0 (rows table - r)

-- a table that is accepted
abbrev pub accepted : (t : Table) → Accepted t.numbers.now
accepted t = record { width = t.width; passes = record { wide = t.wide; long = t.long; formed = t.formed; kinds = t.kinds } }

module _ (table : List ℕ) (a : Accepted table) where
  abbrev b : ℕ
  b = a.width

  abbrev h : Passes b table
  h = a.passes

  -- the places of rows among the sets
  pub rows_inside : rows table ≤ 800
  rows_inside = rows_few table h.long

  pub place_inside : (kind r : ℕ) → IsRow table kind r → r < 800
  place_inside kind r i = set_inside b table h kind r i

  pub next_inside : (kind r : ℕ) → IsRow table kind r → (row_at table r).next < 800
  next_inside kind r i = go (eqb (row_at table r).next 0) refl
    where
      go : (t : Bool) → eqb (row_at table r).next 0 ≡ t → (row_at table r).next < 800
      go true e = let z : (row_at table r).next ≡ 0 = eqb-true _ _ e in omega arith
      go false e = place_inside kind _ (next_row b table h kind r i (eqb-false _ _ e)).0

  pub go_to_inside : (l : ℕ) → IsRow table 1 l → (go_to_of (row_at table l) ≡ done → ⊥) → go_to_of (row_at table l) < 800
  go_to_inside l i other = go (eqb (go_to_of (row_at table l)) 0) refl
    where
      go : (t : Bool) → eqb (go_to_of (row_at table l)) 0 ≡ t → go_to_of (row_at table l) < 800
      go true e = let z : go_to_of (row_at table l) ≡ 0 = eqb-true _ _ e in omega arith
      go false e = place_inside 1 _ (go_to_row_lem b table h l i other (eqb-false _ _ e))

  pub do_inside : (r : ℕ) → IsRow table 3 r → (row_at table r).code ≡ 36 → (row_at table r).first.value < 800
  do_inside r i d = place_inside 1 _ (do_row b table h r i d)

  pub name_inside : (r : ℕ) → IsRow table 3 r → (row_at table r).name < 64
  name_inside r i = let few = operation_name b table h r i in omega arith

  pub references_at : (r : ℕ) → 0 < r → r < rows table → ((row_at table r).kind ≡ 1 → ⊥) → References (row_at table r)
  references_at r low high other =
      ⊎_elim (λ i. test_references b table h r i) (λ i. operation_references b table h r i) (other_row b table h r low high other)

  pub first_operation_lem : (l : ℕ) → IsRow table 1 l → RowOrNone table 3 (first_operation (row_at table l))
  first_operation_lem l i = operation_row_lem b table h l i

  pub first_test_lem : (l : ℕ) → IsRow table 1 l → RowOrNone table 2 (first_test (row_at table l))
  first_test_lem l i = test_row_lem b table h l i

  -- the measure falls
  pub left_falls : (kind r : ℕ) → RowOrNone table kind r → (r ≡ 0 → ⊥) → rows_left table (row_at table r).next < rows_left table r
  left_falls kind r i some =
      let high : r < rows table = (i some).high in
      rw (ne_eqb r 0 some) (go (eqb (row_at table r).next 0) refl)
    where
      go : (t : Bool) → eqb (row_at table r).next 0 ≡ t → cond t 0 (rows table - (row_at table r).next) < rows table - r
      go true e = let high : r < rows table = (i some).high in omega arith
      go false e =
          let (j, later) = next_row b table h kind r (i some) (eqb-false _ _ e) in
          let high : (row_at table r).next < rows table = j.high in
          omega arith

-- a chain that is visited
pub record Walks (v : Visit) (table : List ℕ) (kind first start : ℕ) (sets₀ sets : Sets) (r x : ℕ) : Type 0 where
  pub count : ℕ
  pub place : Place table kind r count
  pub same : visited v count table r x sets ≡ visited v (rows table) table first start sets₀

pub walks_begin : (v : Visit) (table : List ℕ) (kind first start : ℕ) (sets : Sets) → Accepted table → RowOrNone table kind first
    → Walks v table kind first start sets sets first start
walks_begin v table kind first start sets a i = record { count = rows table; place = begins a.width table a.passes kind first i; same = refl }

module _ (v : Visit) (table : List ℕ) (a : Accepted table) (kind first start : ℕ) (sets₀ sets : Sets) (r x : ℕ) where
  walks_by : (count : ℕ) → (r ≡ 0 → ⊥) → Place table kind r count → visited v count table r x sets ≡ visited v (rows table) table first start sets₀
      → Walks v table kind first start sets₀ (v.at r x sets) (row_at table r).next (v.past (row_at table r) x)
  unfolding visited
  walks_by zero some p e = absurd (let n : 1 ≤ 0 = p.enough in omega arith)
  walks_by (suc count) some p e =
      record { count = count; place = goes_on a.width table a.passes kind r count some p; same = rw (ne_eqb r 0 some) at e }

  pub walks_on : (r ≡ 0 → ⊥) → Walks v table kind first start sets₀ sets r x
      → Walks v table kind first start sets₀ (v.at r x sets) (row_at table r).next (v.past (row_at table r) x)
  walks_on some w = walks_by w.count some w.place w.same

  end_by : (count : ℕ) → r ≡ 0 → Place table kind r count → visited v count table r x sets ≡ visited v (rows table) table first start sets₀
      → v.end x sets ≡ visited v (rows table) table first start sets₀
  unfolding visited
  end_by zero z p e = absurd (let n : 1 ≤ 0 = p.enough in omega arith)
  end_by (suc count) z p e = rw (eq-eqb r 0 z) at e

  pub walks_end : r ≡ 0 → Walks v table kind first start sets₀ sets r x → v.end x sets ≡ visited v (rows table) table first start sets₀
  walks_end z w = end_by w.count z w.place w.same

-- lines from l on
module _ {A : Type 0} (f : ℕ → A → A) (table : List ℕ) (l : ℕ) (s : A) where
  pub each_step : {t : A} → l < rows table → t ≡ cond (is_kind table 1 l) (f l s) s
      → each_line f (rows table - l) table l s ≡ each_line f (rows table - suc l) table (suc l) t
  unfolding each_line
  each_step inside e = let more : rows table - l ≡ suc (rows table - suc l) = omega arith in rw (more, each_line, e) refl

  pub each_over : rows table ≤ l → s ≡ each_line f (rows table - l) table l s
  unfolding each_line
  each_over past = let none : rows table - l ≡ 0 = omega arith in rw none

-- a row that is a line, and one that is not
pub line_here : (table : List ℕ) (l : ℕ) → 1 ≤ l → l < rows table → is_kind table 1 l ≡ true → IsRow table 1 l
unfolding is_kind
line_here table l low high e = record { low = omega arith; high = high; is = eqb-true _ _ e }

pub other_kind : (table : List ℕ) (r : ℕ) → is_kind table 1 r ≡ false → (row_at table r).kind ≡ 1 → ⊥
unfolding is_kind
other_kind table r e = eqb-false _ _ e

-- the case that a test picks
module _ {A : Type 0} (t : Bool) (x y : A) {z : A} where
  pub picks_first : t ≡ true → z ≡ x → z ≡ cond t x y
  picks_first e i = rw e i

  pub picks_second : t ≡ false → z ≡ y → z ≡ cond t x y
  picks_second e i = rw e i

-- rows from r on
module _ (table : List ℕ) (r : ℕ) (marks : Sets) where
  pub lowest_here : (n : ℕ) → r < rows table → Some n ≡ use_at table r (set_at marks r)
      → Some (record { row = r; field = n }) ≡ lowest_using (rows table - r) table r marks
  unfolding lowest_using or_later
  lowest_here n inside u = let more : rows table - r ≡ suc (rows table - suc r) = omega arith in rw (more, lowest_using, ← u)

  pub lowest_later : r < rows table → None ≡ use_at table r (set_at marks r)
      → lowest_using (rows table - r) table r marks ≡ lowest_using (rows table - suc r) table (suc r) marks
  unfolding lowest_using or_later
  lowest_later inside u = let more : rows table - r ≡ suc (rows table - suc r) = omega arith in rw (more, lowest_using, ← u)

  pub lowest_none : rows table ≤ r → None ≡ lowest_using (rows table - r) table r marks
  unfolding lowest_using
  lowest_none past = let none : rows table - r ≡ 0 = omega arith in rw none

-- names from place i on
module _ (fields : List FieldName) (x i : ℕ) (five : length fields ≡ 5) (d : FieldName) where
  pub first_here : i < 5 → has x (get_or fields i d).0 ≡ true → Some (get_or fields i d).0 ≡ first_in (drop i fields) x
  unfolding first_in
  first_here inside k = let there : i < length fields = rw five inside in rw (drop-cons fields i d there, first_in, k)

  pub first_later : i < 5 → has x (get_or fields i d).0 ≡ false → first_in (drop i fields) x ≡ first_in (drop (suc i) fields) x
  unfolding first_in
  first_later inside k = let there : i < length fields = rw five inside in rw (drop-cons fields i d there, first_in, k)

  pub first_none : 5 ≤ i → None ≡ first_in (drop i fields) x
  unfolding first_in
  first_none past = rw (drop_past fields i (rw five past))
    where
      drop_past : (fs : List FieldName) (i : ℕ) → length fs ≤ i → drop i fs ≡ []
      drop_past [] zero h = refl
      drop_past [] (suc i) h = refl
      drop_past (f ∷ fs) zero h = absurd (omega arith)
      drop_past (f ∷ fs) (suc i) h = drop_past fs i (omega arith)

-- a place that was walked with its present set, and one that was not
module _ (table : List ℕ) (s : Rounds) where
  pub changed_same : (l : ℕ) → set_at s.walked l ≡ set_at s.sets l → s ≡ changed_walked table l s
  unfolding changed_walked
  changed_same l e = rw (eq-eqb (set_at s.walked l) (set_at s.sets l) e)

  pub changed_on : (l : ℕ) {t w : Sets} → (set_at s.walked l ≡ set_at s.sets l → ⊥) → t ≡ line_walked table l (set_at s.sets l) s.sets
      → w ≡ joined_at l (set_at s.sets l) s.walked → record { sets = t; walked = w } ≡ changed_walked table l s
  unfolding changed_walked
  changed_on l o e f = rw (ne_eqb (set_at s.walked l) (set_at s.sets l) o) (ap₂ (λ (x y : Sets). record { sets = x; walked = y }) e f)

  pub returns_same : set_at s.walked 0 ≡ set_at s.sets 0 → s ≡ returns_walked table s
  unfolding returns_walked
  returns_same e = rw (eq-eqb (set_at s.walked 0) (set_at s.sets 0) e)

  pub returns_on : {t w : Sets} → (set_at s.walked 0 ≡ set_at s.sets 0 → ⊥) → t ≡ rests_walked table (set_at s.sets 0) s.sets
      → w ≡ joined_at 0 (set_at s.sets 0) s.walked → record { sets = t; walked = w } ≡ returns_walked table s
  unfolding returns_walked
  returns_on o e f = rw (ne_eqb (set_at s.walked 0) (set_at s.sets 0) o) (ap₂ (λ (x y : Sets). record { sets = x; walked = y }) e f)

-- rounds
module _ (table : List ℕ) (s : Rounds) where
  -- where each set was walked as it is, a round does nothing
  changed_not : s.walked ≡ s.sets → (l : ℕ) → changed_walked table l s ≡ s
  changed_not e l = sym (changed_same table s l (ap (λ t. set_at t l) e))

  lines_not : s.walked ≡ s.sets → (count l : ℕ) → each_line (changed_walked table) count table l s ≡ s
  unfolding each_line
  lines_not e zero l = refl
  lines_not e (suc count) l = ap (each_line (changed_walked table) count table (suc l)) (either_way (is_kind table 1 l)) ∙ lines_not e count (suc l)
    where
      either_way : (t : Bool) → cond t (changed_walked table l s) s ≡ s
      either_way true = changed_not e l
      either_way false = refl

  round_not : s.walked ≡ s.sets → rounded table s ≡ s
  unfolding rounded lines_walked
  round_not e = ap (returns_walked table) (lines_not e (rows table - 1) 1) ∙ sym (returns_same table s (ap (λ t. set_at t 0) e))

  module _ (round : ℕ) where
    pub round_on : round < 59200 → times (59200 - round) (rounded table) s ≡ times (59200 - (round + 1)) (rounded table) (rounded table s)
    unfolding times
    round_on h = let more : 59200 - round ≡ suc (59200 - (round + 1)) = omega arith in rw (more, times) refl

    pub round_same : s.walked ≡ s.sets → times (59200 - round) (rounded table) s ≡ s
    round_same e = times_same (rounded table) (round_grows table) (59200 - round) s (round_not e)

    pub round_over : 59200 ≤ round → times (59200 - round) (rounded table) s ≡ s
    unfolding times
    round_over h = let none : 59200 - round ≡ 0 = omega arith in rw none
