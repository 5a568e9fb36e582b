-- What a usable row gives: where it stands, what follows it, and operands as code takes them. Assumes nothing.
use Prim.Native.Nat.{ℕ, ◌+◌, ◌*◌, ◌≤◌, ◌<◌}
use native.Mathlib.Omega.{arith}
use mathlib.Core.Bool.{true, ◌&&◌, ◌||◌}
use mathlib.Core.List.{List}
use mathlib.Core.Logic.{⊎_elim}
use mathlib.Core.Path.{◌≡◌, sym, subst}
use borrow.Author.Tests.{eqb-true, ltb-true, leb-true}
use lib.Dec.{eqb, ltb, leb}
use lib.ListN.{length}
use Rattle.word.proofs.Tests.{and_true as and_parts}
use Rattle.table.specs.declared.Pair.{Pair}
use Rattle.table.specs.declared.Row.{Row}
use Rattle.table.specs.Reference.{is_reference}
use Rattle.table.specs.Operands.{is_literal, is_ref, test_shape}
use Rattle.table.specs.Row.{rows, row_at}
use Rattle.table.specs.Table.{usable, well_formed_as, chained, shaped, is_test, fits, fit_pairs}
use Rattle.machine.proofs.Checks.{or_parts}
use Rattle.operands.specs.Reading.{Taken}

-- a usable row is there, is chained, and its numbers are those of its kind
pub record Used (kind b : ℕ) (table : List ℕ) (r : ℕ) : Type 0 where
  pub here : r < rows table
  pub room : 10 * r + 10 ≤ length table
  pub chain : ((row_at table r).next ≡ 0 → ⊥) → (r < (row_at table r).next) × ((row_at table r).next < rows table)
  pub numbers : shaped kind b (rows table) (row_at table r) ≡ true

rows_room : (table : List ℕ) (r : ℕ) → r < rows table → 10 * r + 10 ≤ length table
unfolding rows
rows_room table r h = omega arith

pub used : (kind b : ℕ) (table : List ℕ) (r : ℕ) → usable kind b table r ≡ true → Used kind b table r
unfolding usable well_formed_as
used kind b table r u =
    let row = row_at table r in
    let (place, formed) = and_parts (ltb 0 r && ltb r (rows table)) (well_formed_as kind b (rows table) r row) u in
    let here = ltb-true r (rows table) (and_parts (ltb 0 r) (ltb r (rows table)) place).1 in
    let (kind-chain, own) = and_parts (eqb row.kind kind && chained (rows table) r row.next) (shaped kind b (rows table) row) formed in
    let next = (and_parts (eqb row.kind kind) (chained (rows table) r row.next) kind-chain).1 in
    record {
      here = here;
      room = rows_room table r here;
      chain = λ some.
          ⊎_elim (λ e. absurd (some (eqb-true row.next 0 e)))
          (λ q.
          let (low, high) = and_parts (ltb r row.next) (ltb row.next (rows table)) q in
          (ltb-true r row.next low, ltb-true row.next (rows table) high))
          (or_parts (eqb row.next 0) (ltb r row.next && ltb row.next (rows table)) next);
      numbers = own;
    }

-- operands as code takes them
pub ref_taken : (b : ℕ) (p : Pair) → is_ref p ≡ true → Taken b p
ref_taken b p h =
    let (form, is) = and_parts (eqb p.form 2) (is_reference p.value) h in
    let two = eqb-true p.form 2 form in
    record { literal = λ one. absurd (omega arith); reference = λ _. is }

literal_taken : (b : ℕ) (p : Pair) → is_literal b p ≡ true → Taken b p
literal_taken b p h =
    let (form, small) = and_parts (eqb p.form 1) _ h in
    record { literal = λ _. ltb-true _ _ small; reference = λ other. absurd (other (eqb-true p.form 1 form)) }

pub either_taken : (b : ℕ) (p : Pair) → (is_literal b p || is_ref p) ≡ true → Taken b p
either_taken b p h = ⊎_elim (literal_taken b p) (ref_taken b p) (or_parts (is_literal b p) (is_ref p) h)

-- a test's row
pub record TestRow (b : ℕ) (row : Row) : Type 0 where
  pub low : 1 ≤ row.code
  pub high : row.code ≤ 7
  pub c : Taken b row.first
  pub cd : Taken b row.second

pub test_row_lem : (b : ℕ) (table : List ℕ) (r : ℕ) → usable 2 b table r ≡ true → TestRow b (row_at table r)
unfolding shaped is_test fit_pairs
test_row_lem b table r u =
    let row = row_at table r in
    let (low, k₁) = and_parts (leb 1 row.code) (leb row.code 7 && fits b (rows table) test_shape row) (used 2 b table r u).numbers in
    let (high, k₂) = and_parts (leb row.code 7) (fits b (rows table) test_shape row) k₁ in
    let k₃ = (and_parts (leb row.name 0) (fit_pairs b (rows table) test_shape row) k₂).1 in
    let (first, k₄) = and_parts (is_ref row.first) _ k₃ in
    let second = (and_parts (is_literal b row.second || is_ref row.second) _ k₄).0 in
    record { low = leb-true _ _ low; high = leb-true _ _ high; c = ref_taken b _ first; cd = either_taken b _ second }

pub test_row_is : (b : ℕ) (table : List ℕ) (r : ℕ) {row : Row} → row ≡ row_at table r → usable 2 b table r ≡ true → TestRow b row
test_row_is b table r e u = subst (TestRow b) (sym e) (test_row_lem b table r u)
