-- Every element of the sets has a path, and so has every element of the marks: where the search finds a use of a field in a mark, some path
-- uses a field that is not defined there.
-- Assumes nothing.
use Prim.Native.Nat.{ℕ, zero, suc, ◌-◌, ◌<◌}
use native.Mathlib.Omega.{arith}
use mathlib.Core.Bool.{Bool, true, false, not, ◌&&◌, cond}
use mathlib.Core.List.{List}
use mathlib.Core.Logic.{◌⊎◌, inl, inr, ⊎_elim}
use mathlib.Core.Path.{◌≡◌, refl, ap, sym, subst, ◌∙◌}
use borrow.Author.Tests.{eqb-true, eqb-false, eq-eqb, ne_eqb, not-true}
use lib.Dec.{eqb}
use lib.ListN.{set, replicate}
use lib.Seq.{get_or-set_other}
use Rattle.word.specs.Word.{either}
use Rattle.word.proofs.Tests.{and_true as and_parts}
use Rattle.table.specs.declared.Row.{Row}
use Rattle.table.specs.Row.{rows, row_at, first_test, first_operation, go_to_of, done}
use Rattle.machine.proofs.Checks.{or_parts, clash}
use Rattle.defined.specs.Paths.{Point, line, test, operation, exit, operation_or, InChain, first, further, after_do, Leads}
use Rattle.defined.specs.Paths.{to_tests, no_tests, next_test, satisfied, otherwise, doing, next_operation, going, next_line}
use Rattle.defined.specs.Paths.{returning, Fields, no_field, after, passing, Path, start, along, StandsAt, at_test, at_operation}
use Rattle.defined.specs.declared.rounds.Rounds.{Rounds}
use Rattle.defined.specs.Search.{has, reached, everything, without, including, set_after, Sets, set_at, joined_at, joined_to}
use Rattle.defined.specs.Search.{leaving, set_past, entering, Visit, visited, walking, chain_walked, tests_walked, line_walked}
use Rattle.defined.specs.Search.{changed_walked, lines_walked, rests_walked, returns_walked, rounded, first_sets}
use Rattle.defined.specs.Search.{first_rounds, marking, tests_marked, chain_marked, line_marked_of, lines_marked}
use Rattle.defined.specs.Answer.{Passes, IsRow}
use Rattle.defined.proofs.Numbers.{has_either, has_without, has_including, has_nothing}
use Rattle.defined.proofs.Final.{set_there, each_holds}
use Rattle.defined.proofs.Fit.{few_rows, next_row, operation_row_lem, go_to_row_lem, do_row}
use Rattle.defined.proofs.Settled.{nowhere}

-- an element of the set in place i after a join was there before, or was joined to it
joined_from : (r x i n : ℕ) (sets : Sets) → n < 37 → has (set_at (joined_at r x sets) i) n ≡ true
    → (has (set_at sets i) n ≡ true) ⊎ ((i ≡ r) × (has x n ≡ true))
unfolding joined_at
joined_from r x i n sets few k =
    elim (eqb i r) as (λ t. eqb i r ≡ t → (has (set_at sets i) n ≡ true) ⊎ ((i ≡ r) × (has x n ≡ true))) [
      | true ↦ λ e. here (eqb-true i r e)
      | false ↦ λ e. inl (subst (λ y. has y n ≡ true) (get_or-set_other sets r i (either 37 (set_at sets r) x) 0 (eqb-false i r e)) k)
    ] refl
  where
    here : i ≡ r → (has (set_at sets i) n ≡ true) ⊎ ((i ≡ r) × (has x n ≡ true))
    here e =
        let k₁ : has (set_at (set sets r (either 37 (set_at sets r) x)) r) n ≡ true = subst
        (λ j. has (set_at (set sets r (either 37 (set_at sets r) x)) j) n ≡ true) e k in
        ⊎_elim
        (λ q. ⊎_elim (λ p. inl (subst (λ j. has (set_at sets j) n ≡ true) (sym e) p)) (λ p. inr (e, p))
        (or_parts (has (set_at sets r) n) (has x n) (sym (has_either (set_at sets r) x n few) ∙ subst (λ y. has y n ≡ true) q k₁)))
        (λ q. inl (subst (λ j. has (set_at sets j) n ≡ true) (sym e) (subst (λ s. has (set_at s r) n ≡ true) q k₁)))
        (set_there sets r (either 37 (set_at sets r) x))

-- a field that is not defined stays so, where the row does not define it, and a restore makes it so
after_kept : (row : Row) (fields : Fields) (n : ℕ) → (row.code ≡ 2 → row.name ≡ n → ⊥) → fields n ≡ false → after row fields n ≡ false
unfolding after
after_kept row fields n o e = go (eqb row.code 2 && eqb row.name n) refl (eqb row.code 35 && eqb row.name n)
  where
    go : (t : Bool) → (eqb row.code 2 && eqb row.name n) ≡ t → (u : Bool) → cond t true (cond u false (fields n)) ≡ false
    go true q u = let (c, d) = and_parts (eqb row.code 2) (eqb row.name n) q in absurd (o (eqb-true _ _ c) (eqb-true _ _ d))
    go false q true = refl
    go false q false = e

after_restored : (row : Row) (fields : Fields) (n : ℕ) → row.code ≡ 35 → row.name ≡ n → after row fields n ≡ false
unfolding after
after_restored row fields n c d = rw (ne_eqb row.code 2 (λ e. omega arith), eq-eqb row.code 35 c, eq-eqb row.name n d)

module _ (b : ℕ) (table : List ℕ) (h : Passes b table) where
  -- some path leads to this point, and there field n is not defined (36: any path)
  pub record Reach (p : Point) (n : ℕ) : Type 0 where
    pub fields : Fields
    pub path : Path table p fields
    pub misses : n < 36 → fields n ≡ false

  -- every element of a set has such a path
  abbrev pub Reaches : Point → ℕ → Type 0
  Reaches p x = (n : ℕ) → n < 37 → has x n ≡ true → Reach p n

  -- and every element of the DONEs' set one to the exit of a line with a DONE
  abbrev pub Returns : ℕ → Type 0
  Returns d = (n : ℕ) → n < 37 → has d n ≡ true → (l : ℕ) × (go_to_of (row_at table l) ≡ done) × Reach (exit l) n

  pub record Witnessed (sets : Sets) : Type 0 where
    pub lines : (l : ℕ) → 0 < l → Reaches (line l) (set_at sets l)
    pub dones : Returns (set_at sets 0)

  -- the empty set has no element
  none_there : {P : Type 0} (n : ℕ) → has 0 n ≡ true → P
  none_there n k = clash (sym (has_nothing n) ∙ k)

  -- on from a point that changes no field
  reach_on : {p q : Point} → ((fields : Fields) → passing table p fields ≡ fields) → Leads table p q → (x : ℕ) → Reaches p x → Reaches q x
  reach_on same leads x reaches n few k =
      let a = reaches n few k in
      record { fields = a.fields; path = subst (Path table _) (same a.fields) (along a.path leads); misses = a.misses }

  from_line : {q : Point} (l : ℕ) → Leads table (line l) q → (x : ℕ) → Reaches (line l) x → Reaches q x
  unfolding passing
  from_line l leads x reaches = reach_on (λ fields. refl) leads x reaches

  from_test : {q : Point} (t l : ℕ) → Leads table (test t l) q → (x : ℕ) → Reaches (test t l) x → Reaches q x
  unfolding passing
  from_test t l leads x reaches = reach_on (λ fields. refl) leads x reaches

  from_exit : {q : Point} (l : ℕ) → Leads table (exit l) q → (x : ℕ) → Reaches (exit l) x → Reaches q x
  unfolding passing
  from_exit l leads x reaches = reach_on (λ fields. refl) leads x reaches

  -- joins keep the witnesses
  join_line : (r x : ℕ) (sets : Sets) → 0 < r → Reaches (line r) x → Witnessed sets → Witnessed (joined_at r x sets)
  join_line r x sets low reaches w =
      record {
        lines = λ l pos n few k.
            ⊎_elim (λ q. w.lines l pos n few q) (λ q. subst (λ j. Reach (line j) n) (sym q.0) (reaches n few q.1)) (joined_from r x l n sets few k);
        dones = λ n few k. ⊎_elim (λ q. w.dones n few q) (λ q. absurd (let e : 0 ≡ r = q.0 in omega arith)) (joined_from r x 0 n sets few k);
      }

  join_done : (l x : ℕ) (sets : Sets) → go_to_of (row_at table l) ≡ done → Reaches (exit l) x → Witnessed sets → Witnessed (joined_at 0 x sets)
  join_done l x sets d reaches w =
      record {
        lines = λ i pos n few k. ⊎_elim (λ q. w.lines i pos n few q) (λ q. absurd (let e : i ≡ 0 = q.0 in omega arith)) (joined_from 0 x i n sets few k);
        dones = λ n few k. ⊎_elim (λ q. w.dones n few q) (λ q. (l, d, reaches n few q.1)) (joined_from 0 x 0 n sets few k);
      }

  join_next : (r x : ℕ) (sets : Sets) → ((r ≡ 0 → ⊥) → Reaches (line r) x) → Witnessed sets → Witnessed (joined_to r x sets)
  unfolding joined_to
  join_next r x sets reaches w =
      elim (eqb r 0) as (λ t. eqb r 0 ≡ t → Witnessed (cond t sets (joined_at r x sets))) [
        | true ↦ λ e. w
        | false ↦ λ e. join_line r x sets (positive r (eqb-false r 0 e)) (reaches (eqb-false r 0 e)) w
      ] refl
    where
      positive : (n : ℕ) → (n ≡ 0 → ⊥) → 0 < n
      positive zero p = absurd (p refl)
      positive (suc n) p = omega arith

  leaving_witnessed : (l x : ℕ) (sets : Sets) → IsRow table 1 l → Reaches (exit l) x → Witnessed sets → Witnessed (leaving (row_at table l) x sets)
  unfolding leaving
  leaving_witnessed l x sets i reaches w =
      let row = row_at table l in
      elim (eqb (go_to_of row) done) as (λ t. eqb (go_to_of row) done ≡ t
      → Witnessed (cond t (joined_at 0 x sets) (cond (eqb (go_to_of row) 0) (joined_to row.next x sets) (joined_at (go_to_of row) x sets)))) [
        | true ↦ λ d. join_done l x sets (eqb-true _ _ d) reaches w
        | false ↦ λ d.
            elim (eqb (go_to_of row) 0) as (λ t. eqb (go_to_of row) 0 ≡ t → Witnessed (cond t (joined_to row.next x sets) (joined_at (go_to_of row) x sets))) [
              | true ↦ λ z. join_next _ x sets (λ some. from_exit l (next_line (eqb-true _ _ z) some) x reaches) w
              | false ↦ λ z.
                  join_line _ x sets (go_to_row_lem b table h l i (eqb-false _ _ d) (eqb-false _ _ z)).low
                  (from_exit l (going (eqb-false _ _ d) (eqb-false _ _ z)) x reaches) w
            ] refl
      ] refl

  -- past an operation
  do_reaches : (r l x : ℕ) → (row_at table r).code ≡ 36 → Reaches (operation r l) x → Reaches (line (row_at table r).first.value) x
  unfolding passing after
  do_reaches r l x d reaches n few k =
      let a = reaches n few k in
      record {
        fields = after (row_at table r) a.fields;
        path = along a.path (doing d);
        misses = λ below. rw (ne_eqb (row_at table r).code 2 (λ e. omega arith), ne_eqb (row_at table r).code 35 (λ e. omega arith)) (a.misses below);
      }

  back_reaches : (r l d : ℕ) → InChain table l r → (row_at table r).code ≡ 36 → Returns d → Reaches (operation_or (row_at table r).next l) d
  unfolding passing
  back_reaches r l d c e back n few k =
      let (l', is_done, a) = back n few k in
      record { fields = a.fields; path = along a.path (returning is_done (after_do c e)); misses = a.misses }

  -- past any other operation
  past : (r l n m : ℕ) → ((row_at table r).code ≡ 36 → ⊥) → (a : Reach (operation r l) m) → (n < 36 → after (row_at table r) a.fields n ≡ false)
      → Reach (operation_or (row_at table r).next l) n
  unfolding passing
  past r l n m o a e = record { fields = after (row_at table r) a.fields; path = along a.path (next_operation o); misses = e }

  on_reaches : (r l x : ℕ) → ((row_at table r).code ≡ 36 → ⊥) → Reaches (operation r l) x
      → Reaches (operation_or (row_at table r).next l) (set_after (row_at table r) x)
  unfolding set_after
  on_reaches r l x o reaches n few =
      let row = row_at table r in
      elim (eqb row.code 2) as (λ t. eqb row.code 2 ≡ t
      → has (cond t (without row.name x) (cond (eqb row.code 35) (including row.name x) x)) n ≡ true → Reach (operation_or row.next l) n) [
        | true ↦ λ e k.
            let (there, other) = and_parts (has x n) (not (eqb row.name n)) (sym (has_without row.name x n few) ∙ k) in
            let a = reaches n few there in
            past r l n n o a (λ below. after_kept row a.fields n (λ _ d. eqb-false _ _ (not-true _ other) d) (a.misses below))
        | false ↦ λ e.
            elim (eqb row.code 35) as (λ t. eqb row.code 35 ≡ t → has (cond t (including row.name x) x) n ≡ true → Reach
            (operation_or row.next l) n) [
              | true ↦ λ q k.
                  ⊎_elim (λ there. unchanged (λ c. eqb-false _ _ e c) there)
                  (λ both.
                  let (there, named) = and_parts (has x reached) (eqb row.name n) both in
                  let a = reaches 36 (omega arith) there in
                  past r l n 36 o a (λ below. after_restored row a.fields n (eqb-true _ _ q) (eqb-true _ _ named)))
                  (or_parts (has x n) (has x reached && eqb row.name n) (sym (has_including row.name x n few) ∙ k))
              | false ↦ λ q k. unchanged (λ c. eqb-false _ _ e c) k
            ] refl
      ] refl
    where
      unchanged : ((row_at table r).code ≡ 2 → ⊥) → has x n ≡ true → Reach (operation_or (row_at table r).next l) n
      unchanged no-definition there =
          let a = reaches n few there in
          past r l n n o a (λ below. after_kept (row_at table r) a.fields n (λ c d. no-definition c) (a.misses below))

  at_exit : (r l x : ℕ) → r ≡ 0 → Reaches (operation_or r l) x → Reaches (exit l) x
  unfolding operation_or
  at_exit r l x z reaches n few k = subst (λ p. Reach p n) (rw (eq-eqb r 0 z)) (reaches n few k)

  at_operation_lem : (r l x : ℕ) → (r ≡ 0 → ⊥) → Reaches (operation_or r l) x → Reaches (operation r l) x
  unfolding operation_or
  at_operation_lem r l x some reaches n few k = subst (λ p. Reach p n) (rw (ne_eqb r 0 some)) (reaches n few k)

  -- one operation: its DO keeps the witnesses, and the set past it has them
  entering_witnessed : (r l x : ℕ) (sets : Sets) → IsRow table 3 r → Reaches (operation r l) x → Witnessed sets → Witnessed (entering (row_at table r) x sets)
  unfolding entering
  entering_witnessed r l x sets i reaches w =
      elim (eqb (row_at table r).code 36) as (λ t. eqb (row_at table r).code 36 ≡ t → Witnessed (cond t (joined_at (row_at table r).first.value x sets) sets)) [
        | true ↦ λ d. join_line _ x sets (do_row b table h r i (eqb-true _ _ d)).low (do_reaches r l x (eqb-true _ _ d) reaches) w
        | false ↦ λ d. w
      ] refl

  past_reaches : (r l x d : ℕ) → InChain table l r → Reaches (operation r l) x → Returns d
      → Reaches (operation_or (row_at table r).next l) (set_past d (row_at table r) x)
  unfolding set_past
  past_reaches r l x d c reaches back =
      elim (eqb (row_at table r).code 36) as (λ t. eqb (row_at table r).code 36 ≡ t
      → Reaches (operation_or (row_at table r).next l) (cond t d (set_after (row_at table r) x))) [
        | true ↦ λ e. back_reaches r l d c (eqb-true _ _ e) back
        | false ↦ λ e. on_reaches r l x (eqb-false _ _ e) reaches
      ] refl

  chain_row : (l r : ℕ) → InChain table l r → IsRow table 3 r
  chain_row l r (first low high kind some) = operation_row_lem b table h l (record { low = low; high = high; is = kind }) some
  chain_row l r (further {r = r'} c more) = (next_row b table h 3 r' (chain_row l r' c) more).0

  -- what the visit of an operation and the end keep, a visit of the whole chain keeps
  module _ (P : Sets → Type 0) (v : Visit) (l d : ℕ) (back : Returns d) (is : v.past ≡ set_past d)
      (at : (r x : ℕ) (s : Sets) → InChain table l r → Reaches (operation r l) x → P s → P (v.at r x s))
      (end : (x : ℕ) (s : Sets) → Reaches (exit l) x → P s → P (v.end x s)) where
    pub chain_keeps : (count r x : ℕ) (s : Sets) → ((r ≡ 0 → ⊥) → InChain table l r) → Reaches (operation_or r l) x → P s → P (visited v count table r x s)
    unfolding visited
    chain_keeps zero r x s c reaches p = p
    chain_keeps (suc count) r x s c reaches p =
        elim (eqb r 0) as (λ t. eqb r 0 ≡ t → P (cond t (v.end x s) (visited v count table (row_at table r).next (v.past (row_at table r) x) (v.at r x s)))) [
          | true ↦ λ z. end x s (at_exit r l x (eqb-true _ _ z) reaches) p
          | false ↦ λ z.
              let there = c (eqb-false _ _ z) in
              let here = at_operation_lem r l x (eqb-false _ _ z) reaches in
              chain_keeps count (row_at table r).next _ _ (λ more. further there more)
              (subst (λ past. Reaches (operation_or (row_at table r).next l) (past (row_at table r) x)) (sym is) (past_reaches r l x d there here back))
              (at r x s there here p)
        ] refl

  -- a line's operations are reached from the line
  line_chain : (l : ℕ) → IsRow table 1 l → (first_operation (row_at table l) ≡ 0 → ⊥) → InChain table l (first_operation (row_at table l))
  line_chain l i some = first i.low i.high i.is some

  line_reaches : (l x : ℕ) → Reaches (line l) x → Reaches (operation_or (first_operation (row_at table l)) l) x
  line_reaches l x reaches =
      elim (eqb (first_test (row_at table l)) 0) as (λ t. eqb (first_test (row_at table l)) 0 ≡ t → Reaches (operation_or (first_operation (row_at table l)) l) x) [
        | true ↦ λ z. from_line l (no_tests (eqb-true _ _ z)) x reaches
        | false ↦ λ z. from_test _ l satisfied x (from_line l (to_tests (eqb-false _ _ z)) x reaches)
      ] refl

  chain_witnessed : (l x d : ℕ) (sets : Sets) → IsRow table 1 l → Returns d → Reaches (operation_or (first_operation (row_at table l)) l) x → Witnessed sets
      → Witnessed (chain_walked table l x d sets)
  unfolding chain_walked
  chain_witnessed l x d sets i back reaches w =
      chain_keeps Witnessed (walking table (row_at table l) d) l d back refl
      (λ r y s c k q. entering_witnessed r l y s (chain_row l r c) k q) (λ y s k q. leaving_witnessed l y s i k q)
      (rows table) (first_operation (row_at table l)) x sets (line_chain l i) reaches w

  tests_witnessed : (l x : ℕ) (sets : Sets) → Reaches (line l) x → Witnessed sets → Witnessed (tests_walked (row_at table l) x sets)
  unfolding tests_walked
  tests_witnessed l x sets reaches w =
      elim (eqb (first_test (row_at table l)) 0) as (λ t. eqb (first_test (row_at table l)) 0 ≡ t → Witnessed
      (cond t sets (joined_to (row_at table l).next x sets))) [
        | true ↦ λ z. w
        | false ↦ λ z. join_next _ x sets (λ some. from_test _ l (otherwise some) x (from_line l (to_tests (eqb-false _ _ z)) x reaches)) w
      ] refl

  -- rounds
  abbrev pub Known : Rounds → Type 0
  Known s = Witnessed s.sets

  either_way : (c : Bool) (s t : Rounds) → Known s → Known t → Known (cond c s t)
  either_way true s t p q = p
  either_way false s t p q = q

  changed_witnessed : (l : ℕ) (s : Rounds) → IsRow table 1 l → Known s → Known (changed_walked table l s)
  unfolding changed_walked line_walked
  changed_witnessed l s i w =
      let x = set_at s.sets l in
      let reaches = w.lines l i.low in
      either_way (eqb (set_at s.walked l) x) _ _ w
      (chain_witnessed l x 0 _ i (λ n few k. none_there n k) (line_reaches l x reaches) (tests_witnessed l x s.sets reaches w))

  lines_witnessed : (s : Rounds) → Known s → Known (lines_walked table s)
  unfolding lines_walked
  lines_witnessed s w =
      let two = few_rows b table h in
      each_holds Known (changed_walked table) table changed_witnessed (rows table - 1) 1 s (omega arith) (omega arith) w

  returns_witnessed : (s : Rounds) → Known s → Known (returns_walked table s)
  unfolding returns_walked rests_walked
  returns_witnessed s w =
      let two = few_rows b table h in
      let d = set_at s.sets 0 in
      either_way (eqb (set_at s.walked 0) d) _ _ w
      (each_holds Witnessed (λ l t. chain_walked table l 0 d t) table (λ l t i q. chain_witnessed l 0 d t i w.dones (λ n few k. none_there n k) q)
      (rows table - 1) 1 s.sets (omega arith) (omega arith) w)

  pub round_witnessed : (s : Rounds) → Known s → Known (rounded table s)
  unfolding rounded
  round_witnessed s w = returns_witnessed (lines_walked table s) (lines_witnessed s w)

  -- at first only row 1 has elements
  empty : (l n : ℕ) → (l ≡ 1 → ⊥) → has (set_at first_sets l) n ≡ false
  unfolding first_sets
  empty l n other = ap (λ y. has y n) (get_or-set_other (replicate 800 0) 1 l everything 0 other ∙ nowhere b table h l) ∙ has_nothing n

  pub first_witnessed : Known first_rounds
  unfolding first_rounds no_field
  first_witnessed =
      record {
        lines = λ l pos n few k.
            elim (eqb l 1) as (λ t. eqb l 1 ≡ t → Reach (line l) n) [
              | true ↦ λ e. subst (λ j. Reach (line j) n) (sym (eqb-true l 1 e)) (record { fields = no_field; path = start; misses = λ _. refl })
              | false ↦ λ e. clash (sym (empty l n (eqb-false l 1 e)) ∙ k)
            ] refl;
        dones = λ n few k. clash (sym (empty 0 n (λ e. omega arith)) ∙ k);
      }

  -- every element of a mark has a path to its row
  pub record Found (r n : ℕ) : Type 0 where
    pub point : Point
    pub is_at : StandsAt point r
    pub reach : Reach point n

  abbrev pub Marks : Sets → Type 0
  Marks marks = (r n : ℕ) → n < 37 → has (set_at marks r) n ≡ true → Found r n

  mark_at : (p : Point) (r x : ℕ) (marks : Sets) → StandsAt p r → Reaches p x → Marks marks → Marks (joined_at r x marks)
  mark_at p r x marks at reaches m i n few k =
      ⊎_elim (λ q. m i n few q)
      (λ q. subst (λ j. Found j n) (sym q.0) (record { point = p; is_at = at; reach = reaches n few q.1 })) (joined_from r x i n marks few k)

  -- a line's tests
  tests_marked_lem : (count l t x : ℕ) (marks : Sets) → ((t ≡ 0 → ⊥) → Reaches (test t l) x) → Marks marks
      → Marks (visited (marking (λ row y. y)) count table t x marks)
  unfolding visited
  tests_marked_lem zero l t x marks reaches m = m
  tests_marked_lem (suc count) l t x marks reaches m =
      elim (eqb t 0) as (λ u. eqb t 0 ≡ u → Marks (cond u marks (visited (marking (λ row y. y)) count table (row_at table t).next x (joined_at t x marks)))) [
        | true ↦ λ z. m
        | false ↦ λ z.
            let here = reaches (eqb-false _ _ z) in
            tests_marked_lem count l (row_at table t).next x _ (λ more. from_test t l (next_test more) x here) (mark_at (test t l) t x marks at_test here m)
      ] refl

  line_marked : (sets : Sets) → Witnessed sets → (l : ℕ) (marks : Sets) → IsRow table 1 l → Marks marks → Marks (line_marked_of table sets l marks)
  unfolding line_marked_of tests_marked chain_marked
  line_marked sets w l marks i m =
      let x = set_at sets l in
      let reaches = w.lines l i.low in
      chain_keeps Marks (marking (set_past (set_at sets 0))) l (set_at sets 0) w.dones refl
      (λ r y s c k q. mark_at (operation r l) r y s at_operation k q) (λ y s k q. q)
      (rows table) (first_operation (row_at table l)) x _ (line_chain l i) (line_reaches l x reaches)
      (tests_marked_lem (rows table) l (first_test (row_at table l)) x marks (λ some. from_line l (to_tests some) x reaches) m)

  pub all_found : (sets : Sets) → Witnessed sets → Marks (lines_marked table sets)
  unfolding lines_marked
  all_found sets w =
      let two = few_rows b table h in
      each_holds Marks (line_marked_of table sets) table (line_marked sets w) (rows table - 1) 1 _ (omega arith) (omega arith)
      (λ r n few k. clash (sym (ap (λ y. has y n) (nowhere b table h r) ∙ has_nothing n) ∙ k))
