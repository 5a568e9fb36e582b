-- Tests by what led to them, and the tests of a line one after the other. Assumes nothing.
use Rattle.std.specs.Prelude.{Ok, Err}
use Prim.Native.Nat.{ℕ, zero, suc, ◌+◌, ◌-◌, ◌≤◌, ◌<◌}
use native.Mathlib.Omega.{arith}
use mathlib.Core.Bool.{Bool, true, false, not, ◌||◌, cond, beq}
use mathlib.Core.List.{List}
use mathlib.Core.Path.{◌≡◌, refl, sym, ap, ◌∙◌}
use borrow.Author.Tests.{eq-eqb, ne_eqb, eqb-false}
use lib.Dec.{eqb}
use Rattle.table.specs.declared.Row.{Row}
use Rattle.table.specs.Row.{rows, row_at}
use Rattle.table.specs.Table.{usable}
use Rattle.machine.specs.declared.Refusal.{Refusal}
use Rattle.machine.specs.Answer.{refused, passed, told, ◌>>=◌, ◌>>◌, need}
use Rattle.machine.specs.Locate.{World, Value, operand}
use Rattle.machine.specs.Test.{compared, settling, settled_as, Made, testing, satisfied}
use Rattle.machine.proofs.Checks.{need_passed, bind_passed, passed_same}
use Rattle.plans.specs.Answers.{told_settled}
use Rattle.plans.proofs.Rows.{used}

-- either of two modes
pub either_mode : (mode x y : ℕ) → (eqb mode x || eqb mode y) ≡ cond (eqb mode x) true (eqb mode y)
either_mode mode x y = by (eqb mode x) (eqb mode y)
  where
    by : (s t : Bool) → (s || t) ≡ cond s true t
    by true t = refl
    by false t = refl

-- a comparison at a code that is known
pub compared_at : (b c cd : ℕ) {code k : ℕ} {t : Bool} → code ≡ k → t ≡ compared b k c cd → t ≡ compared b code c cd
compared_at b c cd e is = rw e is

-- the test in a row, by its checks
module _ (b : ℕ) (w : World) (table : List ℕ) (r : ℕ) where
  module _ (u : usable 2 b table r ≡ true) {row : Row} (e : row ≡ row_at table r) where
    pub test_first : {q : Refusal} → operand b w row.first ≡ refused q → testing b table w r ≡ refused q
    unfolding testing need ◌>>◌ ◌>>=◌
    test_first k = rw (u, ← e, k)

    module _ {x : Value} (k : operand b w row.first ≡ passed x) where
      pub test_second : {q : Refusal} → operand b w row.second ≡ refused q → testing b table w r ≡ refused q
      unfolding testing need ◌>>◌ ◌>>=◌
      test_second j = rw (u, ← e, k, j)

      pub test_made : {y : Value} → operand b w row.second ≡ passed y → {h : Bool} → h ≡ compared b row.code x.value y.value
          → testing b table w r ≡ passed (record { holds = h; next = row.next })
      unfolding testing need ◌>>◌ ◌>>=◌
      test_made j same = rw (u, ← e, k, j, same)

  -- a test that was made had a usable row, and names what is next there
  pub test_used : {t : Made} → testing b table w r ≡ passed t → (usable 2 b table r ≡ true) × ((row_at table r).next ≡ t.next)
  unfolding testing
  test_used {t} k =
      let (u, k₁) = need_passed _ _ _ k in
      let (c, _, k₂) = bind_passed _ _ k₁ in
      let (cd, _, k₃) = bind_passed _ _ k₂ in
      (u, ap (λ (x : Made). x.next) (passed_same k₃))

-- a comparison with what settles a line
pub against : (x y : Bool) {t : Bool} → beq x y ≡ t → {z : Bool} → y ≡ z → beq x z ≡ t
against x y e is = rw (← is) e

-- how many tests can follow
unfoldable pub tests_left : ℕ → ℕ → ℕ
tests_left n r = cond (eqb r 0) 0 (suc (n - r))

-- the tests up to row r have not settled the line
pub record Open (b : ℕ) (w : World) (table : List ℕ) (mode first r : ℕ) : Type 0 where
  pub left : ℕ
  pub same : satisfied b table w mode (rows table) first ≡ satisfied b table w mode left r
  pub enough : (r ≡ 0 → ⊥) → (1 ≤ left) × (rows table ≤ left + r)

module _ (b : ℕ) (w : World) (table : List ℕ) (mode first : ℕ) where
  pub open_first : 1 ≤ rows table → Open b w table mode first first
  open_first h = record { left = rows table; same = refl; enough = λ _. (h, omega arith) }

  -- no test is left
  pub open_ends : {r : ℕ} → Open b w table mode first r → r ≡ 0 → {t : Bool} → t ≡ settled_as mode
      → told_settled (Ok (not t)) ≡ told (satisfied b table w mode (rows table) first)
  unfolding satisfied told_settled told
  open_ends {r} o z {t} is = rw (o.same, is) (none o.left)
    where
      none : (count : ℕ) → told_settled (Ok (not (settled_as mode))) ≡ told (satisfied b table w mode count r)
      none zero = refl
      none (suc count) = rw (eq-eqb r 0 z)

  module _ {r : ℕ} (o : Open b w table mode first r) (some : r ≡ 0 → ⊥) where
    -- one test more
    one_more : {A : Type 0} → ((count : ℕ) → o.left ≡ suc count → A) → A
    one_more {A} f = by o.left refl
      where
        by : (n : ℕ) → o.left ≡ n → A
        by zero e = absurd (let low = (o.enough some).0 in omega arith)
        by (suc n) e = f n e

    pub open_stopped : {q : Refusal} → testing b table w r ≡ refused q → told_settled (Err q) ≡ told (satisfied b table w mode (rows table) first)
    unfolding satisfied told_settled told ◌>>=◌
    open_stopped {q} k = one_more (λ count e. rw (o.same, e) (here count))
      where
        here : (count : ℕ) → told_settled (Err q) ≡ told (satisfied b table w mode (suc count) r)
        here count = rw (ne_eqb r 0 some, k)

    module _ {t : Made} (k : testing b table w r ≡ passed t) where
      pub open_settles : beq t.holds (settling mode) ≡ true → {s : Bool} → s ≡ settled_as mode
          → told_settled (Ok s) ≡ told (satisfied b table w mode (rows table) first)
      unfolding satisfied told_settled told ◌>>=◌
      open_settles j {s} is = one_more (λ count e. rw (o.same, e, is) (here count))
        where
          here : (count : ℕ) → told_settled (Ok (settled_as mode)) ≡ told (satisfied b table w mode (suc count) r)
          here count = rw (ne_eqb r 0 some, k, j)

      pub open_next : beq t.holds (settling mode) ≡ false → Open b w table mode first t.next
      unfolding satisfied ◌>>=◌
      open_next j =
          one_more
          (λ count e.
          record {
            left = count;
            same = o.same ∙ rw e (here count);
            enough = λ more.
                let (u, next) = test_used b w table r k in
                let far = (used 2 b table r u).chain (λ z. more (sym next ∙ z)) in
                let all = (o.enough some).1 in
                (omega (arith, e, next, far.0, far.1), omega (arith, e, next, far.0, far.1));
          })
        where
          here : (count : ℕ) → satisfied b table w mode (suc count) r ≡ satisfied b table w mode count t.next
          here count = rw (ne_eqb r 0 some, k, j)

      pub fewer_left : tests_left (rows table) t.next < tests_left (rows table) r
      unfolding tests_left
      fewer_left =
          let (u, next) = test_used b w table r k in
          let h = used 2 b table r u in
          rw (ne_eqb r 0 some)
          (elim (eqb t.next 0) as (λ s. eqb t.next 0 ≡ s → cond s 0 (suc (rows table - t.next)) < suc (rows table - r)) [
            | true ↦ λ e. omega arith
            | false ↦ λ e.
                let far = h.chain (λ z. eqb-false t.next 0 e (sym next ∙ z)) in
                omega (arith, h.here, next, far.0, far.1)
          ] refl)
