-- The check says no exactly when some path reaches a row with a reference to a field that is not defined there, and tells the lowest such
-- row and its first such field; and a table that gets a yes, run alone from a fresh engine, never meets refusal 14.
-- Assumes nothing.
use Prim.Native.Nat.{ℕ, zero, suc, ◌+◌, ◌-◌, ◌<◌}
use native.Mathlib.Omega.{arith}
use mathlib.Core.Bool.{Bool, true, false, cond}
use mathlib.Core.List.{List, [], ◌∷◌}
use mathlib.Core.Logic.{◌⊎◌, ⊎_elim}
use mathlib.Core.Path.{◌≡◌, refl, ap, sym, subst, ◌∙◌}
use borrow.Author.Tests.{eqb-true, eqb-false, eq-eqb}
use lib.Dec.{eqb}
use Rattle.word.specs.Word.{is_width}
use Rattle.table.specs.declared.FieldName.{FieldName}
use Rattle.table.specs.Row.{length_fits, rows, row_at}
use Rattle.machine.proofs.Checks.{or_parts, clash}
use Rattle.std.specs.Prelude.{Option, Some, None, Ok, Err}
use Rattle.defined.specs.declared.FieldsError.TheVariants.{NotDefined, NoWidth, BadLength, IllFormed, WrongKind}
use Rattle.defined.specs.declared.Use.{Use}
use Rattle.defined.specs.Kinds.{is_kind, wrong_row}
use Rattle.defined.specs.Paths.{names, fields_of, UsesUndefined, SomeUse, FirstSuch, here, later, ToldUse}
use Rattle.defined.specs.declared.rounds.Rounds.{Rounds}
use Rattle.defined.specs.Search.{has, set_at, final_sets, final_marks, first_in, use_at, or_later}
use Rattle.defined.specs.Search.{lowest_using, lowest_use, first_use}
use Rattle.defined.specs.Answer.{Passes, ill_formed_row, FieldsCheck, saying, fields_checked, Meant, IsRow}
use Rattle.defined.proofs.Refers.{or_right}
use Rattle.defined.proofs.Final.{final_rounds, final_same, final_holds}
use Rattle.defined.proofs.Fit.{few_rows, other_row, test_below, operation_below}
use Rattle.defined.proofs.Settled.{Settled, LineLed, RestLed, first_settled, round_settles, line_same, dones_same}
use Rattle.defined.proofs.Closed.{Closed, closed_marked, used_row}
use Rattle.defined.proofs.Witness.{Found, Known, first_witnessed, round_witnessed, all_found}

module _ (b : ℕ) (table : List ℕ) (h : Passes b table) where
  settled : Settled b table h (final_rounds table)
  settled = final_holds (Settled b table h) table (round_settles b table h) (first_settled b table h)

  final_closed : Closed table (final_sets table)
  unfolding final_sets
  final_closed =
      let s : Rounds = final_rounds table in
      let same = final_same table in
      record {
        begin = settled.begin;
        lines = λ l i. subst (λ x. LineLed table l x s.sets) (line_same b table h s settled same l i) (settled.lines l i);
        rests = λ l i. subst (λ x. RestLed table l x s.sets) (dones_same b table h s settled same) (settled.rests l i);
      }

  -- the mark of a row has a field exactly where some path reaches the row without it
  mark_found : (r n : ℕ) → n < 36 → has (set_at (final_marks table) r) n ≡ true → Found b table h r n
  unfolding final_marks final_sets
  mark_found r n below k =
      all_found b table h (final_sets table) (final_holds (Known b table h) table (round_witnessed b table h) (first_witnessed b table h)) r n (omega arith) k

  mark_has : (r n : ℕ) → UsesUndefined table r n → has (set_at (final_marks table) r) n ≡ true
  unfolding final_marks
  mark_has r n u = (closed_marked b table h (final_sets table) final_closed r n u).1

  found_used : (r n : ℕ) → n < 36 → names (fields_of (row_at table r)) n ≡ true → has (set_at (final_marks table) r) n ≡ true → UsesUndefined table r n
  found_used r n below named k =
      let f = mark_found r n below k in
      record { point = f.point; fields = f.reach.fields; path = f.reach.path; is_at = f.is_at; is_used = named; is_undefined = f.reach.misses below }

  -- the first field of a row that is in its mark is the first that some path lacks there
  module _ (r : ℕ) (below : (n : ℕ) → names (fields_of (row_at table r)) n ≡ true → n < 36) where
    abbrev x : ℕ
    x = set_at (final_marks table) r

    first_such : (fs : List FieldName) (n : ℕ) → ((m : ℕ) → names fs m ≡ true → names (fields_of (row_at table r)) m ≡ true) → first_in fs x ≡ Some n
        → FirstSuch (UsesUndefined table r) fs n
    unfolding first_in names
    first_such [] n among e = let never : ◌≡◌ {A = ℕ} 0 1 = cc in absurd (omega arith)
    first_such (f ∷ fs) n among e =
        elim (has x f.0) as (λ t. has x f.0 ≡ t → cond t (Some f.0) (first_in fs x) ≡ Some n → FirstSuch (UsesUndefined table r) (f ∷ fs) n) [
          | true ↦ λ q k.
              let is : f.0 ≡ n = same_field k in
              let named = among f.0 (rw (eq-eqb f.0 f.0 refl)) in
              subst (FirstSuch (UsesUndefined table r) (f ∷ fs)) is (here (found_used r f.0 (below f.0 named) named q))
          | false ↦ λ q k.
              later (λ u. clash (sym q ∙ mark_has r f.0 u)) (first_such fs n (λ m p. among m (or_right (eqb f.0 m) _ p)) k)
        ] refl e
      where
        same_field : Some f.0 ≡ Some n → f.0 ≡ n
        same_field k = cc

    none_such : (fs : List FieldName) → first_in fs x ≡ None → (n : ℕ) → names fs n ≡ true → UsesUndefined table r n → ⊥
    unfolding first_in names
    none_such [] e n named u = clash named
    none_such (f ∷ fs) e n named u =
        elim (has x f.0) as (λ t. has x f.0 ≡ t → cond t (Some f.0) (first_in fs x) ≡ None → ⊥) [
          | true ↦ λ q k. let never : ◌≡◌ {A = ℕ} 0 1 = cc in omega arith
          | false ↦ λ q k.
              ⊎_elim (λ p. clash (sym q ∙ subst (λ m. has x m ≡ true) (sym (eqb-true f.0 n p)) (mark_has r n u))) (λ p. none_such fs k n p u)
              (or_parts (eqb f.0 n) (names fs n) named)
        ] refl e

  -- a row from 1 on: a line uses nothing, another row the first field that some path lacks
  used_row_at : (r n : ℕ) → UsesUndefined table r n → IsRow table 2 r ⊎ IsRow table 3 r
  used_row_at = used_row b table h (final_sets table) final_closed

  uses_row : (r n : ℕ) → UsesUndefined table r n → (row_at table r).kind ≡ 1 → ⊥
  uses_row r n u k =
      ⊎_elim (λ i. let e : (row_at table r).kind ≡ 2 = i.is in omega arith) (λ i. let e : (row_at table r).kind ≡ 3 = i.is in omega arith) (used_row_at r n u)

  used_inside : (r n : ℕ) → UsesUndefined table r n → (0 < r) × (r < rows table)
  used_inside r n u = ⊎_elim (λ i. (i.low, i.high)) (λ i. (i.low, i.high)) (used_row_at r n u)

  row_told : (r : ℕ) → 0 < r → r < rows table
      → ((n : ℕ) → use_at table r (set_at (final_marks table) r) ≡ Some n → FirstSuch (UsesUndefined table r) (fields_of (row_at table r)) n)
      × (use_at table r (set_at (final_marks table) r) ≡ None → (n : ℕ) → UsesUndefined table r n → ⊥)
  unfolding use_at is_kind
  row_told r low high =
      elim (eqb (row_at table r).kind 1) as (λ t. eqb (row_at table r).kind 1 ≡ t
      → ((n : ℕ) → cond t None (first_in (fields_of (row_at table r)) (set_at (final_marks table) r)) ≡ Some n
      → FirstSuch (UsesUndefined table r) (fields_of (row_at table r)) n)
      × (cond t None (first_in (fields_of (row_at table r)) (set_at (final_marks table) r)) ≡ None → (n : ℕ) → UsesUndefined table r n → ⊥)) [
        | true ↦ λ e. (λ n k. let never : ◌≡◌ {A = ℕ} 0 1 = cc in absurd (omega arith), λ k n u. uses_row r n u (eqb-true _ _ e))
        | false ↦ λ e.
            let below : (n : ℕ) → names (fields_of (row_at table r)) n ≡ true → n < 36
            = λ n k. ⊎_elim (λ i. test_below b table h r i n k) (λ i. operation_below b table h r i n k) (other_row b table h r low high (eqb-false _ _ e)) in
            (λ n k. first_such r below _ n (λ m p. p) k, λ k n u. none_such r below _ k n u.is_used u)
      ] refl

  -- what is found from row r on, where nothing is found before
  Right : Option Use → Type 0
  Right u = ((v : Use) → u ≡ Some v → ToldUse table v.row v.field) × (u ≡ None → (q m : ℕ) → q < rows table → UsesUndefined table q m → ⊥)

  Clear : ℕ → Type 0
  Clear r = (q m : ℕ) → q < r → UsesUndefined table q m → ⊥

  clear_on : (r : ℕ) → 0 < r → r < rows table → Clear r → use_at table r (set_at (final_marks table) r) ≡ None → Clear (suc r)
  unfolding Clear
  clear_on r low high none e q m less u =
      elim (eqb q r) as (λ t. eqb q r ≡ t → ⊥) [
        | true ↦ λ s. (row_told r low high).1 e m (subst (λ j. UsesUndefined table j m) (eqb-true q r s) u)
        | false ↦ λ s. let o : (q ≡ r → ⊥) = eqb-false q r s in none q m (omega arith) u
      ] refl

  right_by : (r : ℕ) (u : Option ℕ) (rest : Option Use) → 0 < r → r < rows table → Clear r → use_at table r (set_at (final_marks table) r) ≡ u
      → (Clear (suc r) → Right rest) → Right (or_later r u rest)
  unfolding Right Clear or_later
  right_by r (Some n) rest low high none e then = (
    λ v k.
        let same : record { row = r; field = n } ≡ v = cc in
        subst (λ (w : Use). ToldUse table w.row w.field) same (record { lowest = none; is_first = (row_told r low high).0 n e }),
    λ k. let never : ◌≡◌ {A = ℕ} 0 1 = cc in absurd (omega arith),
  )
  right_by r None rest low high none e then = then (clear_on r low high none e)

  rows_right : (count r : ℕ) → 0 < r → r + count ≡ rows table → Clear r → Right (lowest_using count table r (final_marks table))
  unfolding lowest_using Right Clear
  rows_right zero r low end none = (
    λ v k. let never : ◌≡◌ {A = ℕ} 0 1 = cc in absurd (omega arith),
    λ k q m less u. none q m (omega arith) u,
  )
  rows_right (suc count) r low end none =
      right_by r (use_at table r (set_at (final_marks table) r)) _ low (omega arith) none refl (λ e. rows_right count (suc r) (omega arith) (omega arith) e)

  use_right : Right (first_use table)
  unfolding first_use lowest_use Clear
  use_right =
      let two = few_rows b table h in
      rows_right (rows table - 1) 1 (omega arith) (omega arith) (λ q m less u. let low = (used_inside q m u).0 in omega arith)

  -- the search tells what is to be told, and finds nothing exactly where there is nothing
  pub finds : (v : Use) → first_use table ≡ Some v → ToldUse table v.row v.field
  unfolding Right
  finds = use_right.0

  pub finds_none : first_use table ≡ None → SomeUse table → ⊥
  unfolding Right
  finds_none e u = use_right.1 e u.row u.name (used_inside u.row u.name u.uses).1 u.uses

-- yes and no are said of tables that pass what comes before
verdict : FieldsCheck → Bool
verdict (Ok u) = true
verdict (Err (NotDefined r n)) = true
verdict (Err NoWidth) = false
verdict (Err BadLength) = false
verdict (Err (IllFormed r)) = false
verdict (Err (WrongKind r)) = false

verdict_parts : (v x y z : Bool) (m a : FieldsCheck) (w i : ℕ)
    → cond v (cond x (cond y (cond z m (Err (WrongKind w))) (Err (IllFormed i))) (Err BadLength)) (Err NoWidth) ≡ a → verdict a ≡ true
    → (v ≡ true) × ((x ≡ true) × ((y ≡ true) × ((z ≡ true) × (m ≡ a))))
unfolding verdict
verdict_parts true true true true m a w i e k = (refl, (refl, (refl, (refl, e))))
verdict_parts true true true false m a w i e k = clash (rw (← e) at k)
verdict_parts true true false z m a w i e k = clash (rw (← e) at k)
verdict_parts true false y z m a w i e k = clash (rw (← e) at k)
verdict_parts false x y z m a w i e k = clash (rw (← e) at k)

first_holds : (P : ℕ → Type 0) (fs : List FieldName) (n : ℕ) → FirstSuch P fs n → P n
first_holds P fs n (here p) = p
first_holds P fs n (later o f) = first_holds P _ n f

told_some : (table : List ℕ) (r n : ℕ) → ToldUse table r n → SomeUse table
told_some table r n t = record { row = r; name = n; uses = first_holds (UsesUndefined table r) _ n t.is_first }

module _ (b : ℕ) (table : List ℕ) where
  -- what yes and no say of a table
  says : (a : FieldsCheck) → fields_checked b table ≡ a → verdict a ≡ true → Passes b table × (saying (first_use table) ≡ a)
  unfolding fields_checked
  says a e v =
      let (wide, (long, (formed, (kinds, is)))) = verdict_parts (is_width b) (length_fits table) (eqb (ill_formed_row b table) 0) (eqb (wrong_row table) 0)
      (saying (first_use table)) a (wrong_row table) (ill_formed_row b table) e v in
      (record { wide = wide; long = long; formed = eqb-true _ _ formed; kinds = eqb-true _ _ kinds }, is)

  pub passing : Passes b table → fields_checked b table ≡ saying (first_use table)
  unfolding fields_checked
  passing h = rw (h.wide, h.long, eq-eqb _ 0 h.formed, eq-eqb _ 0 h.kinds)

  saying_no : (u : Option Use) (r n : ℕ) → saying u ≡ Err (NotDefined r n) → u ≡ Some (record { row = r; field = n })
  unfolding saying
  saying_no (Some u) r n e = let row : u.row ≡ r = cc in let field : u.field ≡ n = cc in rw (← row, ← field)
  saying_no None r n e = let never : ◌≡◌ {A = ℕ} 0 1 = cc in absurd (omega arith)

  saying_yes : (u : Option Use) → saying u ≡ Ok tt → u ≡ None
  unfolding saying
  saying_yes (Some u) e = let never : ◌≡◌ {A = ℕ} 0 1 = cc in absurd (omega arith)
  saying_yes None e = refl

  no_tells : (r n : ℕ) → fields_checked b table ≡ Err (NotDefined r n) → Passes b table × ToldUse table r n
  unfolding verdict
  no_tells r n e = let (h, is) = says (Err (NotDefined r n)) e refl in (h, finds b table h _ (saying_no _ r n is))

  used_no : Passes b table → SomeUse table → (r : ℕ) × ((n : ℕ) × (fields_checked b table ≡ Err (NotDefined r n)))
  unfolding saying
  used_no h u = by_use (first_use table) refl
    where
      by_use : (f : Option Use) → first_use table ≡ f → (r : ℕ) × ((n : ℕ) × (fields_checked b table ≡ Err (NotDefined r n)))
      by_use (Some u) e = (u.row, (u.field, passing h ∙ ap saying e))
      by_use None e = absurd (finds_none b table h e u)

  pub yes_none : fields_checked b table ≡ Ok tt → Passes b table × (SomeUse table → ⊥)
  unfolding verdict
  yes_none e = let (h, is) = says (Ok tt) e refl in (h, finds_none b table h (saying_yes _ is))

  none_yes : Passes b table → (SomeUse table → ⊥) → fields_checked b table ≡ Ok tt
  unfolding saying
  none_yes h none = by_use (first_use table) refl
    where
      by_use : (f : Option Use) → first_use table ≡ f → fields_checked b table ≡ Ok tt
      by_use (Some u) e = absurd (none (told_some table u.row u.field (finds b table h u e)))
      by_use None e = passing h ∙ ap saying e

  -- no exactly when some path uses a field that is not defined there, with the row and the field that a no tells; yes exactly when none does
  pub meant : (answer : FieldsCheck) → answer ≡ fields_checked b table → Meant b table answer
  meant answer is =
      record {
        is_no = (
          λ k. let (r, (n, e)) = k in let (h, t) = no_tells r n (sym is ∙ e) in (h, told_some table r n t),
          λ k. let (r, (n, e)) = used_no k.0 k.1 in (r, (n, is ∙ e)),
        );
        is_yes = (λ e. yes_none (sym is ∙ e), λ k. is ∙ none_yes k.0 k.1);
        tells = λ r n e. (no_tells r n (sym is ∙ e)).1;
      }
