-- What a walk has brought about stays: each line has led on with the set with which it was last walked, and each place after a DO with
-- that of the DONEs. Rounds keep this, and where a round changes nothing those sets are the present ones.
-- Assumes nothing.
use Prim.Native.Nat.{ℕ, zero, suc, ◌+◌, ◌-◌, ◌≤◌, ◌<◌}
use native.Mathlib.Omega.{arith}
use mathlib.Core.Bool.{Bool, true, false, cond}
use mathlib.Core.List.{List}
use mathlib.Core.Path.{◌≡◌, refl, ap, sym, subst, ◌∙◌}
use borrow.Author.Tests.{eqb-true, eqb-false, eq-eqb, ne_eqb}
use lib.Dec.{eqb}
use lib.ListN.{length, get_or, replicate}
use lib.Seq.{get_or-set_same, get_or-set_other}
use Rattle.table.specs.declared.Row.{Row}
use Rattle.table.specs.Row.{rows, row_at, first_test, first_operation, go_to_of, done}
use Rattle.machine.proofs.Checks.{clash}
use Rattle.defined.specs.Kinds.{is_kind}
use Rattle.defined.specs.declared.rounds.Rounds.{Rounds}
use Rattle.defined.specs.Search.{has, without, including, set_after, Sets, set_at, joined_at, joined_to, leaving, set_past}
use Rattle.defined.specs.Search.{entering, walking, chain_walked, tests_walked, line_walked, each_line, changed_walked}
use Rattle.defined.specs.Search.{lines_walked, rests_walked, returns_walked, rounded, everything, first_sets, first_rounds}
use Rattle.defined.specs.Answer.{Passes, IsRow}
use Rattle.defined.proofs.Numbers.{Sub, sub_same, either_sub, either_absorbs, has_everything, has_nothing, has_without}
use Rattle.defined.proofs.Numbers.{has_including}
use Rattle.defined.proofs.Final.{Grows, joined_grows, entering_grows, leaving_grows, chain_grows, tests_grow}
use Rattle.defined.proofs.Final.{line_grows, rests_grow, GrowsBoth, SmallBoth, both_small, between, each_holds}
use Rattle.defined.proofs.Final.{each_changed_grows, changed_grows, lines_grow, returns_grow, small_first, long_none}
use Rattle.defined.proofs.Final.{long_first}
use Rattle.defined.proofs.Fit.{next_row, operation_row_lem, go_to_row_lem, do_row}
use Rattle.defined.proofs.Chains.{Comes, here, on, begins, set_inside, visited_settles, lines_settled}

-- a join puts a set where it is to be
pub joined_sub : (r x : ℕ) (sets : Sets) → r < 800 → length sets ≡ 800 → Sub x (set_at (joined_at r x sets) r)
unfolding joined_at
joined_sub r x sets inside long =
    let there : r < length sets = rw long inside in
    subst (λ y. Sub x y) (sym (get_or-set_same sets r _ 0 there)) (either_sub (set_at sets r) x)

-- where a line's exit leads, the set has come
pub record Left (line : Row) (x : ℕ) (sets : Sets) : Type 0 where
  pub to_done : go_to_of line ≡ done → Sub x (set_at sets 0)
  pub to_next : go_to_of line ≡ 0 → (line.next ≡ 0 → ⊥) → Sub x (set_at sets line.next)
  pub to_line : (go_to_of line ≡ done → ⊥) → (go_to_of line ≡ 0 → ⊥) → Sub x (set_at sets (go_to_of line))

-- the walk of a line's operations has led on from row r (0: its exit) with the set x
pub record Led (table : List ℕ) (l r x : ℕ) (sets : Sets) : Type 0 where
  pub entered : (r ≡ 0 → ⊥) → (row_at table r).code ≡ 36 → Sub x (set_at sets (row_at table r).first.value)
  pub left : r ≡ 0 → Left (row_at table l) x sets

-- a line has led on with the set x at its start, and what follows its DOs with the set d
pub record LineLed (table : List ℕ) (l x : ℕ) (sets : Sets) : Type 0 where
  pub tests : (first_test (row_at table l) ≡ 0 → ⊥) → ((row_at table l).next ≡ 0 → ⊥) → Sub x (set_at sets (row_at table l).next)
  pub chain : (r y : ℕ) → Comes table (set_past 0) r y (first_operation (row_at table l)) x → Led table l r y sets

abbrev pub RestLed : List ℕ → ℕ → ℕ → Sets → Type 0
RestLed table l d sets = (r y : ℕ) → Comes table (set_past d) r y (first_operation (row_at table l)) 0 → Led table l r y sets

-- larger sets keep it
module _ (table : List ℕ) (s t : Sets) (g : Grows s t) where
  grown : (x i : ℕ) → Sub x (set_at s i) → Sub x (set_at t i)
  grown x i h n few k = g.kept i n few (h n few k)

  pub led_grown : (l r x : ℕ) → Led table l r x s → Led table l r x t
  led_grown l r x h =
      record {
        entered = λ some d. grown x _ (h.entered some d);
        left = λ z. record {
          to_done = λ d. grown x _ ((h.left z).to_done d);
          to_next = λ e some. grown x _ ((h.left z).to_next e some);
          to_line = λ o q. grown x _ ((h.left z).to_line o q);
        };
      }

  line_led_grown : (l x : ℕ) → LineLed table l x s → LineLed table l x t
  line_led_grown l x h = record { tests = λ o q. grown x _ (h.tests o q); chain = λ r y c. led_grown l r y (h.chain r y c) }

  rest_led_grown : (l d : ℕ) → RestLed table l d s → RestLed table l d t
  rest_led_grown l d h r y c = led_grown l r y (h r y c)

module _ (b : ℕ) (table : List ℕ) (h : Passes b table) where
  -- a walk leads on
  leaving_left : (l x : ℕ) (sets : Sets) → IsRow table 1 l → length sets ≡ 800 → Left (row_at table l) x (leaving (row_at table l) x sets)
  unfolding leaving joined_to
  leaving_left l x sets i long =
      let line = row_at table l in
      record {
        to_done = λ d. rw (eq-eqb (go_to_of line) done d) (joined_sub 0 x sets (omega arith) long);
        to_next = λ e some.
            rw (ne_eqb (go_to_of line) done (λ d. omega arith), eq-eqb (go_to_of line) 0 e, ne_eqb line.next 0 some)
            (joined_sub line.next x sets (set_inside b table h 1 _ (next_row b table h 1 l i some).0) long);
        to_line = λ o q.
            rw (ne_eqb (go_to_of line) done o, ne_eqb (go_to_of line) 0 q)
            (joined_sub (go_to_of line) x sets (set_inside b table h 1 _ (go_to_row_lem b table h l i o q)) long);
      }

  entering_entered : (r x : ℕ) (sets : Sets) → IsRow table 3 r → length sets ≡ 800 → (row_at table r).code ≡ 36
      → Sub x (set_at (entering (row_at table r) x sets) (row_at table r).first.value)
  unfolding entering
  entering_entered r x sets i long d =
      rw (eq-eqb (row_at table r).code 36 d) (joined_sub _ x sets (set_inside b table h 1 _ (do_row b table h r i d)) long)

  chain_leads : (l x d : ℕ) (sets : Sets) → IsRow table 1 l → length sets ≡ 800
      → (r y : ℕ) → Comes table (set_past d) r y (first_operation (row_at table l)) x → Led table l r y (chain_walked table l x d sets)
  unfolding chain_walked
  chain_leads l x d sets i long =
      visited_settles b table h (walking table (row_at table l) d) 3 (Led table l) (λ r y s t g k. led_grown table s t g l r y k)
      (λ r y s. entering_grows (row_at table r) y s) (λ y s. leaving_grows (row_at table l) y s)
      (λ r y s j n. record {
        entered = λ some e. entering_entered r y s j n e;
        left = λ z. absurd (let low : 0 < r = j.low in omega arith);
      })
      (λ y s n. record { entered = λ some e. absurd (some refl); left = λ z. leaving_left l y s i n })
      (rows table) (first_operation (row_at table l)) x sets (begins b table h 3 _ (operation_row_lem b table h l i)) long

  tests_lead : (l x : ℕ) (sets : Sets) → IsRow table 1 l → length sets ≡ 800 → (first_test (row_at table l) ≡ 0 → ⊥) → ((row_at table l).next ≡ 0 → ⊥)
      → Sub x (set_at (tests_walked (row_at table l) x sets) (row_at table l).next)
  unfolding tests_walked joined_to
  tests_lead l x sets i long o q =
      rw (ne_eqb (first_test (row_at table l)) 0 o, ne_eqb (row_at table l).next 0 q)
      (joined_sub (row_at table l).next x sets (set_inside b table h 1 _ (next_row b table h 1 l i q).0) long)

  line_leads : (l x : ℕ) (sets : Sets) → IsRow table 1 l → length sets ≡ 800 → LineLed table l x (line_walked table l x sets)
  unfolding line_walked
  line_leads l x sets i long =
      let line = row_at table l in
      let tested = tests_walked line x sets in
      record {
        tests = λ o q n few k. (chain_grows table l x 0 tested).kept line.next n few (tests_lead l x sets i long o q n few k);
        chain = chain_leads l x 0 tested i ((tests_grow line x sets).long ∙ long);
      }

  -- what holds all the way
  pub record Settled (s : Rounds) : Type 0 where
    pub small : SmallBoth s
    pub long : length s.sets ≡ 800
    pub long_walked : length s.walked ≡ 800
    pub begin : (n : ℕ) → n < 37 → has (set_at s.sets 1) n ≡ true
    pub sub : (i : ℕ) → Sub (set_at s.walked i) (set_at s.sets i)
    pub lines : (l : ℕ) → IsRow table 1 l → LineLed table l (set_at s.walked l) s.sets
    pub rests : (l : ℕ) → IsRow table 1 l → RestLed table l (set_at s.walked 0) s.sets

  -- a place that is walked with its present set
  module _ (s : Rounds) (k : Settled s) (at : ℕ) (inside : at < 800) where
    abbrev x : ℕ
    x = set_at s.sets at

    abbrev walked' : Sets
    walked' = joined_at at x s.walked

    walked_here : set_at walked' at ≡ x
    unfolding joined_at
    walked_here =
        let there : at < length s.walked = rw k.long_walked inside in
        get_or-set_same s.walked at _ 0 there ∙ either_absorbs _ x (k.small.sets at) (k.sub at)

    walked_other : (i : ℕ) → (i ≡ at → ⊥) → set_at walked' i ≡ set_at s.walked i
    unfolding joined_at
    walked_other i o = get_or-set_other s.walked at i _ 0 o

    -- what holds of the set that was walked, at this place and at others
    walked_by : (P : ℕ → ℕ → Type 0) (i : ℕ) → P at x → (P i (set_at s.walked i)) → P i (set_at walked' i)
    walked_by P i now before =
        elim (eqb i at) as (λ t. eqb i at ≡ t → P i (set_at walked' i)) [
          | true ↦ λ e. subst (λ j. P j (set_at walked' j)) (sym (eqb-true i at e)) (subst (P at) (sym walked_here) now)
          | false ↦ λ e. subst (P i) (sym (walked_other i (eqb-false i at e))) before
        ] refl

    walked_settled : (t : Sets) → Grows s.sets t
        → ((l : ℕ) → IsRow table 1 l → LineLed table l (set_at walked' l) t) → ((l : ℕ) → IsRow table 1 l → RestLed table l (set_at walked' 0) t)
        → Settled (record { sets = t; walked = walked' })
    walked_settled t g lines rests =
        let grows : GrowsBoth s (record { sets = t; walked = walked' }) = record { sets = g; walked = joined_grows at x s.walked } in
        record {
          small = both_small s _ grows k.small;
          long = g.long ∙ k.long;
          long_walked = (joined_grows at x s.walked).long ∙ k.long_walked;
          begin = λ n few. g.kept 1 n few (k.begin n few);
          sub = λ i. walked_by (λ j y. Sub y (set_at t j)) i (λ n few q. g.kept at n few q) (λ n few q. g.kept i n few (k.sub i n few q));
          lines = lines;
          rests = rests;
        }

  changed_settled : (l : ℕ) (s : Rounds) → IsRow table 1 l → Settled s → Settled (changed_walked table l s)
  unfolding changed_walked
  changed_settled l s i k =
      let x = set_at s.sets l in
      let t = line_walked table l x s.sets in
      let g = line_grows table l x s.sets in
      let inside = set_inside b table h 1 l i in
      let low : 0 < l = i.low in
      either_way (eqb (set_at s.walked l) x)
      (walked_settled s k l inside t g
      (λ j q. walked_by s k l inside (λ m y. IsRow table 1 m → LineLed table m y t) j (λ _. line_leads l x s.sets i k.long)
      (λ _. line_led_grown table s.sets t g j _ (k.lines j q)) q)
      (λ j q. rw (walked_other s k l inside 0 (λ e. omega arith)) (rest_led_grown table s.sets t g j _ (k.rests j q))))
    where
      either_way : (c : Bool) {t : Rounds} → Settled t → Settled (cond c s t)
      either_way true _ = k
      either_way false q = q

  lines_settle : (s : Rounds) → Settled s → Settled (lines_walked table s)
  unfolding lines_walked
  lines_settle s k =
      let two = Rattle.defined.proofs.Fit.few_rows b table h in
      each_holds Settled (changed_walked table) table changed_settled (rows table - 1) 1 s (omega arith) (omega arith) k

  rests_lead : (d : ℕ) (sets : Sets) → length sets ≡ 800 → (l : ℕ) → IsRow table 1 l → RestLed table l d (rests_walked table d sets)
  unfolding rests_walked
  rests_lead d sets long =
      lines_settled b table h (λ l s. chain_walked table l 0 d s) (λ l s. RestLed table l d s) (λ l s t g q. rest_led_grown table s t g l d q)
      (λ l s. chain_grows table l 0 d s) (λ l s i n. chain_leads l 0 d s i n) sets long

  returns_settle : (s : Rounds) → Settled s → Settled (returns_walked table s)
  unfolding returns_walked
  returns_settle s k =
      let d = set_at s.sets 0 in
      let t = rests_walked table d s.sets in
      let g = rests_grow table d s.sets in
      let inside : 0 < 800 = omega arith in
      either_way (eqb (set_at s.walked 0) d)
      (walked_settled s k 0 inside t g
      (λ j q. let low : 0 < j = q.low in rw (walked_other s k 0 inside j (λ e. omega arith)) (line_led_grown table s.sets t g j _ (k.lines j q)))
      (λ j q. rw (walked_here s k 0 inside) (rests_lead d s.sets k.long j q)))
    where
      either_way : (c : Bool) {t : Rounds} → Settled t → Settled (cond c s t)
      either_way true _ = k
      either_way false q = q

  pub round_settles : (s : Rounds) → Settled s → Settled (rounded table s)
  unfolding rounded
  round_settles s k = returns_settle (lines_walked table s) (lines_settle s k)

  -- at first nothing is walked: from the empty set a walk brings only empty sets
  abbrev Empty : ℕ → Type 0
  Empty x = (n : ℕ) → n < 37 → has x n ≡ true → ⊥

  empty_after : (row : Row) (x : ℕ) → Empty x → Empty (set_after row x)
  unfolding set_after
  empty_after row x e =
      elim (eqb row.code 2) as (λ t. Empty (cond t (without row.name x) (cond (eqb row.code 35) (including row.name x) x))) [
        | true ↦ λ n few k. e n few (Rattle.word.proofs.Tests.and_true (has x n) _ (sym (has_without row.name x n few) ∙ k)).0
        | false ↦ elim (eqb row.code 35) as (λ t. Empty (cond t (including row.name x) x)) [
          | true ↦ λ n few k.
              mathlib.Core.Logic.⊎_elim (λ q. e n few q) (λ q. e 36 (omega arith) (Rattle.word.proofs.Tests.and_true (has x 36) _ q).0)
              (Rattle.machine.proofs.Checks.or_parts (has x n) _ (sym (has_including row.name x n few) ∙ k))
          | false ↦ e
        ]
      ]

  empty_past : (row : Row) (x : ℕ) → Empty x → Empty (set_past 0 row x)
  unfolding set_past
  empty_past row x e =
      elim (eqb row.code 36) as (λ t. Empty (cond t 0 (set_after row x))) [
        | true ↦ λ n few k. clash (sym (has_nothing n) ∙ k)
        | false ↦ empty_after row x e
      ]

  empty_comes : (r y r₀ x₀ : ℕ) → Empty x₀ → Comes table (set_past 0) r y r₀ x₀ → Empty y
  empty_comes r y r₀ x₀ e here = e
  empty_comes r y r₀ x₀ e (on n c) = empty_comes r y _ _ (empty_past (row_at table r₀) x₀ e) c

  empty_led : (l r y : ℕ) (sets : Sets) → Empty y → Led table l r y sets
  empty_led l r y sets e =
      record {
        entered = λ some d n few k. absurd (e n few k);
        left = λ z. record {
          to_done = λ d n few k. absurd (e n few k);
          to_next = λ q some n few k. absurd (e n few k);
          to_line = λ o q n few k. absurd (e n few k);
        };
      }

  pub nowhere : (i : ℕ) → set_at (replicate 800 0) i ≡ 0
  nowhere i = zeros 800 i
    where
      zeros : (count j : ℕ) → ◌≡◌ {A = ℕ} (get_or (replicate count 0) j 0) 0
      zeros zero j = refl
      zeros (suc count) zero = refl
      zeros (suc count) (suc j) = zeros count j

  nothing : Empty 0
  nothing n few k = clash (sym (has_nothing n) ∙ k)

  first_begin : (n : ℕ) → n < 37 → has (set_at first_sets 1) n ≡ true
  unfolding first_sets
  first_begin n few =
      let there : 1 < length (replicate {A = ℕ} 800 0) = rw long_none (omega arith) in
      ap (λ y. has y n) (get_or-set_same (replicate 800 0) 1 everything 0 there) ∙ has_everything n few

  pub first_settled : Settled first_rounds
  unfolding first_rounds
  first_settled =
      record {
        small = small_first;
        long = long_first;
        long_walked = long_none;
        begin = first_begin;
        sub = λ i. rw (nowhere i) (λ n few k. absurd (nothing n few k));
        lines = λ l i. rw (nowhere l) (record {
          tests = λ o q n few k. absurd (nothing n few k);
          chain = λ r y c. empty_led l r y first_sets (empty_comes r y _ 0 nothing c);
        });
        rests = λ l i. rw (nowhere 0) (λ r y c. empty_led l r y first_sets (empty_comes r y _ 0 nothing c));
      }

  -- where a round changes nothing, each place was walked with its present set
  module _ (s : Rounds) (k : Settled s) (fixed : rounded table s ≡ s) where
    lines_fixed : lines_walked table s ≡ s
    unfolding rounded
    lines_fixed = between s _ _ k.small (lines_grow table s) (returns_grow table _) fixed

    returns_fixed : returns_walked table s ≡ s
    unfolding rounded
    returns_fixed = subst (λ t. returns_walked table t ≡ s) lines_fixed fixed

    one_fixed : (count l : ℕ) → each_line (changed_walked table) count table l s ≡ s → (i : ℕ) → l ≤ i → i < l + count → IsRow table 1 i
        → changed_walked table i s ≡ s
    unfolding each_line is_kind
    one_fixed zero l e i from to is = absurd (omega arith)
    one_fixed (suc count) l e i from to is =
        let one : cond (eqb (row_at table l).kind 1) (changed_walked table l s) s ≡ s
        = between s _ _ k.small (one_grows (eqb (row_at table l).kind 1)) (each_changed_grows table count (suc l) _) e in
        elim (eqb l i) as (λ t. eqb l i ≡ t → changed_walked table i s ≡ s) [
          | true ↦ λ q.
              let same : l ≡ i = eqb-true l i q in
              let one₁ : changed_walked table l s ≡ s = rw (eq-eqb (row_at table l).kind 1 (ap (λ j. (row_at table j).kind) same ∙ is.is)) at one in
              subst (λ j. changed_walked table j s ≡ s) same one₁
          | false ↦ λ q.
              let o : (l ≡ i → ⊥) = eqb-false l i q in
              one_fixed count (suc l) (subst (λ t. each_line (changed_walked table) count table (suc l) t ≡ s) one e) i (omega arith) (omega arith) is
        ] refl
      where
        one_grows : (t : Bool) → GrowsBoth s (cond t (changed_walked table l s) s)
        one_grows true = changed_grows table l s
        one_grows false = record {
          sets = Rattle.defined.proofs.Final.grows_refl
              s.sets;
          walked = Rattle.defined.proofs.Final.grows_refl s.walked;
        }

    -- a place whose walk would change nothing
    walked_same : (at : ℕ) (t : Rounds) → at < 800 → t.walked ≡ joined_at at (set_at s.sets at) s.walked
        → cond (eqb (set_at s.walked at) (set_at s.sets at)) s t ≡ s → set_at s.walked at ≡ set_at s.sets at
    walked_same at t inside is e =
        elim (eqb (set_at s.walked at) (set_at s.sets at)) as (λ c. eqb (set_at s.walked at) (set_at s.sets at) ≡ c → cond c s t ≡ s
        → set_at s.walked at ≡ set_at s.sets at) [
          | true ↦ λ q _. eqb-true _ _ q
          | false ↦ λ q f.
              let g : joined_at at (set_at s.sets at) s.walked ≡ s.walked = sym is ∙ ap (λ (u : Rounds). u.walked) f in
              sub_same _ _ (k.small.walked at) (k.small.sets at) (k.sub at)
              (subst (λ u. Sub (set_at s.sets at) (set_at u at)) g (joined_sub at (set_at s.sets at) s.walked inside k.long_walked))
        ] refl e

    pub line_same : (l : ℕ) → IsRow table 1 l → set_at s.walked l ≡ set_at s.sets l
    unfolding changed_walked lines_walked
    line_same l i =
        let low : 0 < l = i.low in
        let high : l < rows table = i.high in
        walked_same l _ (set_inside b table h 1 l i) refl (one_fixed (rows table - 1) 1 lines_fixed l (omega arith) (omega arith) i)

    pub dones_same : set_at s.walked 0 ≡ set_at s.sets 0
    unfolding returns_walked
    dones_same = walked_same 0 _ (omega arith) refl returns_fixed
