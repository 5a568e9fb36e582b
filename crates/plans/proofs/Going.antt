-- Places by their numbers, and row numbers that are small. Assumes nothing.
use Prim.Native.Nat.{ℕ, ◌%◌, ◌≤◌, ◌<◌}
use native.Mathlib.Omega.{arith}
use mathlib.Core.Bool.{true}
use mathlib.Core.List.{List}
use mathlib.Core.Logic.{⊎_elim}
use mathlib.Core.Path.{◌≡◌}
use borrow.Author.Tests.{eq-eqb, ne_eqb, leb-true}
use lib.Dec.{eqb, leb}
use lib.ListN.{length}
use Rattle.word.proofs.Tests.{and_true as and_parts}
use Rattle.table.specs.declared.Row.{Row}
use Rattle.table.specs.Row.{length_fits, rows, row_at}
use Rattle.table.specs.Table.{usable}
use Rattle.machine.specs.declared.Place.{Place}
use Rattle.machine.specs.State.{tests_of, operation_at, exit_of, the_end}
use Rattle.machine.specs.Sound.{is_row}
use Rattle.machine.specs.Step.{next_line, operation_or_exit}
use Rattle.machine.proofs.Places.{RowOrNone, next_row, line_operation, line_goes}

module _ (n : ℕ) where
  pub next_none : n ≡ 0 → record { kind = 3; row = 0; line = 0 } ≡ next_line n
  unfolding next_line the_end
  next_none z = rw (eq-eqb n 0 z)

  pub next_some : (n ≡ 0 → ⊥) → {p : Place} → p ≡ tests_of n → p ≡ next_line n
  unfolding next_line
  next_some z is = rw (ne_eqb n 0 z) is

  pub exits : n ≡ 0 → {m : ℕ} → record { kind = 2; row = 0; line = m } ≡ operation_or_exit n m
  unfolding operation_or_exit exit_of
  exits z = rw (eq-eqb n 0 z)

  pub operates : (n ≡ 0 → ⊥) → {m : ℕ} → record { kind = 1; row = n; line = m } ≡ operation_or_exit n m
  unfolding operation_or_exit operation_at
  operates z = rw (ne_eqb n 0 z)

-- a row number is small
few : {n : ℕ} → RowOrNone n → n < 65536
unfolding is_row
few {n} h = ⊎_elim (λ z. omega arith) (λ k. let low = leb-true n 799 (and_parts (leb 1 n) (leb n 799) k).1 in omega arith) h

pub some_rows : (table : List ℕ) → length_fits table ≡ true → 1 ≤ rows table
unfolding length_fits rows
some_rows table h =
    let long = leb-true 20 (length table) (and_parts (leb 20 (length table)) (leb (length table) 8000) (and_parts _ (eqb (length table % 10) 0) h).0).0 in
    omega arith

-- the row numbers of a usable row
module _ (b : ℕ) (table : List ℕ) (r : ℕ) (l : length_fits table ≡ true) {row : Row} (e : row ≡ row_at table r) where
  pub next_few : (kind : ℕ) → usable kind b table r ≡ true → row.next < 65536
  next_few kind u = rw e (few (next_row b table r l kind u))

  pub operation_few : usable 1 b table r ≡ true → row.first.value < 65536
  operation_few u = rw e (few (line_operation b table r l u))

  pub goes_few : usable 1 b table r ≡ true → (row.second.form ≡ 65535 → ⊥) → row.second.form < 65536
  goes_few u other = rw e (few (line_goes b table r l u (λ z. other (rw e z))))
