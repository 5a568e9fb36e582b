-- Where no row of a table is ill-formed, a row that is there is usable as the kind that it is. Assumes nothing.
use Prim.Native.Nat.{ℕ, zero, suc, ◌+◌, ◌-◌, ◌/◌, ◌≤◌, ◌<◌}
use native.Mathlib.Omega.{arith}
use mathlib.Core.Bool.{true, false, ◌&&◌, ◌||◌, cond}
use mathlib.Core.List.{List}
use mathlib.Core.Logic.{⊎_elim}
use mathlib.Core.Path.{◌≡◌, refl, sym, subst}
use borrow.Author.Tests.{eqb-true, eqb-false, ne_eqb, lt-ltb}
use lib.Dec.{eqb}
use lib.ListN.{length}
use Rattle.word.proofs.Tests.{and_true as and_parts}
use Rattle.table.specs.declared.Row.{Row}
use Rattle.std.specs.Prelude.{Result, Ok, Err}
use Rattle.table.specs.declared.TableError.{TableError}
use Rattle.table.specs.declared.TableError.TheVariants.{BadLength}
use Rattle.table.specs.Row.{length_fits, rows, row_at}
use Rattle.table.specs.Table.{well_formed_as, well_formed, chained, usable, lowest_from, checked}
use Rattle.machine.proofs.Checks.{or_parts}

-- a table that is checked, with no ill-formed row
abbrev Fine : ℕ → List ℕ → ℕ → Type 0
Fine b table r = well_formed b (rows table) r (row_at table r) ≡ true

no_lowest : (b : ℕ) (table : List ℕ) (r count : ℕ) → 0 < r → lowest_from b table r count ≡ 0 → (i : ℕ) → r ≤ i → i < r + count → Fine b table i
unfolding lowest_from
no_lowest b table r zero pos none i low high = absurd (omega arith)
no_lowest b table r (suc count) pos none i low high =
    elim (well_formed b (rows table) r (row_at table r)) as (λ t. well_formed b (rows table) r (row_at table r) ≡ t
    → cond t (lowest_from b table (suc r) count) r ≡ 0 → Fine b table i) [
      | true ↦ λ fine later.
          elim (eqb i r) as (λ t. eqb i r ≡ t → Fine b table i) [
            | true ↦ λ e. subst (Fine b table) (sym (eqb-true i r e)) fine
            | false ↦ λ e. let other = eqb-false i r e in no_lowest b table (suc r) count (omega arith) later i (omega arith) (omega arith)
          ] refl
      | false ↦ λ bad here. absurd (omega arith)
    ] refl none

lowest_same : {n m : ℕ} → ◌≡◌ {A = Result ℕ TableError} (Ok n) (Ok m) → n ≡ m
lowest_same e = cc

fine_rows : (b : ℕ) (table : List ℕ) → checked b table ≡ Ok 0 → (r : ℕ) → 0 < r → r < rows table → Fine b table r
unfolding checked
fine_rows b table k r pos less =
    elim (length_fits table) as (λ t. cond t (Ok (lowest_from b table 1 (rows table - 1))) (Err BadLength) ≡ Ok 0 → Fine b table r) [
      | true ↦ λ e. no_lowest b table 1 (rows table - 1) (omega arith) (lowest_same e) r (omega arith) (omega arith)
      | false ↦ λ e. let never : ◌≡◌ {A = ℕ} 0 1 = cc in absurd (omega arith)
    ] k

-- the kind of a row that is well-formed as some kind
formed_kind : (kind b n r : ℕ) (row : Row) → well_formed_as kind b n r row ≡ true → row.kind ≡ kind
unfolding well_formed_as
formed_kind kind b n r row h = eqb-true row.kind kind
    (and_parts (eqb row.kind kind) _ (and_parts (eqb row.kind kind && chained n r row.next) _ h).0).0

by_kind : (b n r : ℕ) (row : Row) → well_formed b n r row ≡ true → well_formed_as row.kind b n r row ≡ true
unfolding well_formed
by_kind b n r row h =
    ⊎_elim (λ k. ⊎_elim (one 1) (one 2) (or_parts (well_formed_as 1 b n r row) (well_formed_as 2 b n r row) k)) (one 3)
    (or_parts (well_formed_as 1 b n r row || well_formed_as 2 b n r row) (well_formed_as 3 b n r row) h)
  where
    one : (kind : ℕ) → well_formed_as kind b n r row ≡ true → well_formed_as row.kind b n r row ≡ true
    one kind k = subst (λ (j : ℕ). well_formed_as j b n r row ≡ true) (sym (formed_kind kind b n r row k)) k

other_kind : (kind b n r : ℕ) (row : Row) → (row.kind ≡ kind → ⊥) → well_formed_as kind b n r row ≡ false
unfolding well_formed_as
other_kind kind b n r row h = rw (ne_eqb row.kind kind h)

-- the kind of a row that is there tells
module _ (kind b : ℕ) (table : List ℕ) (r : ℕ) where
  pub kind_tells : checked b table ≡ Ok 0 → 1 ≤ r → r < length table / 10 → {row : Row} → row ≡ row_at table r → eqb row.kind kind ≡ usable kind b table r
  unfolding usable rows
  kind_tells k low high {row} is =
      rw (is, lt-ltb 0 r low, lt-ltb r (length table / 10) high)
      (elim (eqb (row_at table r).kind kind) as (λ t. eqb (row_at table r).kind kind ≡ t → t ≡ well_formed_as kind b (length table / 10) r (row_at table r)) [
        | true ↦ λ e. sym (subst (λ (j : ℕ). well_formed_as j b (length table / 10) r (row_at table r) ≡ true) (eqb-true _ kind e)
            (by_kind b (length table / 10) r (row_at table r) (fine_rows b table k r low high)))
        | false ↦ λ e. sym (other_kind kind b (length table / 10) r (row_at table r) (eqb-false _ kind e))
      ] refl)
