-- Walking lines makes sets larger, so that after enough rounds nothing changes any more; and where a round changes nothing, none of its
-- steps does.
-- Assumes nothing.
use Prim.Native.Nat.{ℕ, zero, suc, ◌+◌, ◌-◌, ◌*◌, ◌^◌, ◌≤◌, ◌<◌}
use native.Mathlib.Nat.{le_refl, le_trans}
use native.Mathlib.Decide.{dec_le}
use native.Mathlib.Omega.{arith}
use mathlib.Core.Bool.{Bool, true, false, cond}
use mathlib.Core.List.{List, [], ◌∷◌}
use mathlib.Core.Logic.{◌⊎◌, inl, inr, ⊎_elim}
use mathlib.Core.Path.{◌≡◌, refl, ap, ap₂, sym, subst, ◌∙◌}
use borrow.Author.Tests.{eqb-true, eqb-false}
use lib.Dec.{eqb}
use lib.ListN.{get_or, set, replicate, length, length-set, length-replicate}
use lib.Seq.{get_or-set_other}
use Rattle.word.specs.Word.{either, ones}
use Rattle.table.specs.declared.Row.{Row}
use Rattle.table.specs.Row.{rows, row_at, first_test, first_operation, go_to_of, done}
use Rattle.defined.specs.Kinds.{is_kind}
use Rattle.defined.specs.declared.rounds.Rounds.{Rounds}
use Rattle.defined.specs.Search.{has, Sets, set_at, joined_at, joined_to, leaving, entering, Visit, visited, walking}
use Rattle.defined.specs.Search.{chain_walked, tests_walked, line_walked, each_line, changed_walked, lines_walked}
use Rattle.defined.specs.Search.{rests_walked, returns_walked, rounded, times, everything, first_sets, first_rounds}
use Rattle.defined.specs.Answer.{IsRow}
use Rattle.defined.proofs.Numbers.{has_either, either_below, either_grows, ones_few}

-- every set is below 2 ^ 37
abbrev pub Small : Sets → Type 0
Small sets = (i : ℕ) → set_at sets i < 2 ^ 37

-- how many elements the sets have
pub total : Sets → ℕ
total [] = 0
total (x ∷ xs) = ones 37 x + total xs

total_few : (sets : Sets) → total sets ≤ 37 * length sets
unfolding total
total_few [] = omega arith
total_few (x ∷ xs) = let h = ones_few 37 x in let i = total_few xs in omega arith

-- sets that grew from others
pub record Grows (s t : Sets) : Type 0 where
  pub long : length t ≡ length s
  pub kept : (i n : ℕ) → n < 37 → has (set_at s i) n ≡ true → has (set_at t i) n ≡ true
  pub small : Small s → Small t
  pub more : Small s → total s ≤ total t
  pub same : Small s → total t ≤ total s → t ≡ s

pub grows_refl : (s : Sets) → Grows s s
grows_refl s = record { long = refl; kept = λ i n few k. k; small = λ h. h; more = λ h. le_refl (total s); same = λ h k. refl }

pub grows_trans : (s t u : Sets) → Grows s t → Grows t u → Grows s u
grows_trans s t u g h =
    record {
      long = h.long ∙ g.long;
      kept = λ i n few k. h.kept i n few (g.kept i n few k);
      small = λ k. h.small (g.small k);
      more = λ k. le_trans (g.more k) (h.more (g.small k));
      same = λ k few.
          let m₁ = g.more k in
          let m₂ = h.more (g.small k) in
          h.same (g.small k) (omega arith) ∙ g.same k (omega arith);
    }

small_set : (sets : Sets) (r v : ℕ) → v < 2 ^ 37 → Small sets → Small (set sets r v)
small_set [] r v h s i = s i
small_set (x ∷ xs) zero v h s zero = h
small_set (x ∷ xs) zero v h s (suc i) = s (suc i)
small_set (x ∷ xs) (suc r) v h s zero = s zero
small_set (x ∷ xs) (suc r) v h s (suc i) = small_set xs r v h (λ j. s (suc j)) i

joined_total : (sets : Sets) (r x : ℕ) → Small sets
    → (total sets ≤ total (set sets r (either 37 (get_or sets r 0) x))) × (total (set sets r (either 37 (get_or sets r 0) x)) ≤ total sets
    → set sets r (either 37 (get_or sets r 0) x) ≡ sets)
unfolding total either
joined_total [] r x s = (omega arith, λ _. refl)
joined_total (y ∷ ys) zero x s =
    let (more, same) = either_grows 37 y x (s zero) in
    (omega arith, λ few. ap (λ z. z ∷ ys) (same (omega arith)))
joined_total (y ∷ ys) (suc r) x s =
    let (more, same) = joined_total ys r x (λ i. s (suc i)) in
    (omega arith, λ few. ap (λ zs. y ∷ zs) (same (omega arith)))

-- what stands in a place after a set: what was put there, or nothing has changed
pub set_there : (sets : Sets) (r v : ℕ) → (set_at (set sets r v) r ≡ v) ⊎ (set sets r v ≡ sets)
set_there [] r v = inr refl
set_there (x ∷ xs) zero v = inl refl
set_there (x ∷ xs) (suc r) v = ⊎_elim (λ e. inl e) (λ e. inr (ap (λ ys. x ∷ ys) e)) (set_there xs r v)

joined_kept : (r x : ℕ) (sets : Sets) (i n : ℕ) → n < 37 → has (set_at sets i) n ≡ true → has (set_at (set sets r (either 37 (set_at sets r) x)) i) n ≡ true
joined_kept r x sets i n few k =
    elim (eqb i r) as (λ t. eqb i r ≡ t → has (set_at (set sets r (either 37 (set_at sets r) x)) i) n ≡ true) [
      | true ↦ λ e. subst (λ j. has (set_at (set sets r (either 37 (set_at sets r) x)) j) n ≡ true) (sym (eqb-true i r e))
          (here (subst (λ j. has (set_at sets j) n ≡ true) (eqb-true i r e) k))
      | false ↦ λ e. subst (λ y. has y n ≡ true) (sym (get_or-set_other sets r i (either 37 (set_at sets r) x) 0 (eqb-false i r e))) k
    ] refl
  where
    here : has (set_at sets r) n ≡ true → has (set_at (set sets r (either 37 (set_at sets r) x)) r) n ≡ true
    here q =
        ⊎_elim (λ e. subst (λ y. has y n ≡ true) (sym e) (has_either (set_at sets r) x n few ∙ rw q))
        (λ e. subst (λ s. has (set_at s r) n ≡ true) (sym e) q) (set_there sets r (either 37 (set_at sets r) x))

pub joined_grows : (r x : ℕ) (sets : Sets) → Grows sets (joined_at r x sets)
unfolding joined_at
joined_grows r x sets =
    record {
      long = length-set sets r _;
      kept = joined_kept r x sets;
      small = small_set sets r _ (either_below (set_at sets r) x);
      more = λ s. (joined_total sets r x s).0;
      same = λ s. (joined_total sets r x s).1;
    }

cond_grows : (c : Bool) (s t u : Sets) → Grows s t → Grows s u → Grows s (cond c t u)
cond_grows true s t u g h = g
cond_grows false s t u g h = h

to_grows : (r x : ℕ) (sets : Sets) → Grows sets (joined_to r x sets)
unfolding joined_to
to_grows r x sets = cond_grows (eqb r 0) _ _ _ (grows_refl sets) (joined_grows r x sets)

pub leaving_grows : (row : Row) (x : ℕ) (sets : Sets) → Grows sets (leaving row x sets)
unfolding leaving
leaving_grows row x sets =
    cond_grows (eqb (go_to_of row) done) _ _ _ (joined_grows 0 x sets)
    (cond_grows (eqb (go_to_of row) 0) _ _ _ (to_grows row.next x sets) (joined_grows (go_to_of row) x sets))

pub entering_grows : (row : Row) (x : ℕ) (sets : Sets) → Grows sets (entering row x sets)
unfolding entering
entering_grows row x sets = cond_grows (eqb row.code 36) _ _ _ (joined_grows row.first.value x sets) (grows_refl sets)

-- a chain
pub visited_grows : (v : Visit) → ((r x : ℕ) (sets : Sets) → Grows sets (v.at r x sets)) → ((x : ℕ) (sets : Sets) → Grows sets (v.end x sets))
    → (count : ℕ) (table : List ℕ) (r x : ℕ) (sets : Sets) → Grows sets (visited v count table r x sets)
unfolding visited
visited_grows v at end zero table r x sets = grows_refl sets
visited_grows v at end (suc count) table r x sets =
    cond_grows (eqb r 0) _ _ _ (end x sets) (grows_trans _ _ _ (at r x sets) (visited_grows v at end count table _ _ _))

pub chain_grows : (table : List ℕ) (l x d : ℕ) (sets : Sets) → Grows sets (chain_walked table l x d sets)
unfolding chain_walked
chain_grows table l x d sets =
    visited_grows (walking table (row_at table l) d) (λ r y t. entering_grows (row_at table r) y t) (λ y t. leaving_grows (row_at table l) y t)
    (rows table) table (first_operation (row_at table l)) x sets

pub tests_grow : (line : Row) (x : ℕ) (sets : Sets) → Grows sets (tests_walked line x sets)
unfolding tests_walked
tests_grow line x sets = cond_grows (eqb (first_test line) 0) _ _ _ (grows_refl sets) (to_grows line.next x sets)

pub line_grows : (table : List ℕ) (l x : ℕ) (sets : Sets) → Grows sets (line_walked table l x sets)
unfolding line_walked
line_grows table l x sets = grows_trans _ _ _ (tests_grow (row_at table l) x sets) (chain_grows table l x 0 _)

-- what is done with each line: a relation that is kept, and what holds all the way
pub each_related : {A : Type 0} (R : A → A → Type 0) → ((s : A) → R s s) → ((s t u : A) → R s t → R t u → R s u)
    → (f : ℕ → A → A) → ((l : ℕ) (s : A) → R s (f l s)) → (count : ℕ) (table : List ℕ) (l : ℕ) (s : A) → R s (each_line f count table l s)
unfolding each_line
each_related R same on f step zero table l s = same s
each_related R same on f step (suc count) table l s =
    on _ _ _ (either_way (is_kind table 1 l)) (each_related R same on f step count table (suc l) _)
  where
    either_way : (t : Bool) → R s (cond t (f l s) s)
    either_way true = step l s
    either_way false = same s

pub each_holds : {A : Type 0} (P : A → Type 0) (f : ℕ → A → A) (table : List ℕ) → ((l : ℕ) (s : A) → IsRow table 1 l → P s → P (f l s))
    → (count l : ℕ) (s : A) → 0 < l → l + count ≤ rows table → P s → P (each_line f count table l s)
unfolding each_line is_kind
each_holds P f table keep zero l s low high p = p
each_holds P f table keep (suc count) l s low high p =
    each_holds P f table keep count (suc l) _ (omega arith) (omega arith)
    (elim (eqb (row_at table l).kind 1) as (λ t. eqb (row_at table l).kind 1 ≡ t → P (cond t (f l s) s)) [
      | true ↦ λ e. keep l s (record { low = low; high = omega arith; is = eqb-true _ _ e }) p
      | false ↦ λ e. p
    ] refl)

pub rests_grow : (table : List ℕ) (d : ℕ) (sets : Sets) → Grows sets (rests_walked table d sets)
unfolding rests_walked
rests_grow table d sets = each_related Grows grows_refl grows_trans _ (λ l s. chain_grows table l 0 d s) (rows table - 1) table 1 sets

-- the sets and those last walked together
pub record GrowsBoth (s t : Rounds) : Type 0 where
  pub sets : Grows s.sets t.sets
  pub walked : Grows s.walked t.walked

pub record SmallBoth (s : Rounds) : Type 0 where
  pub sets : Small s.sets
  pub walked : Small s.walked

abbrev total_both : Rounds → ℕ
total_both s = total s.sets + total s.walked

both_refl : (s : Rounds) → GrowsBoth s s
both_refl s = record { sets = grows_refl s.sets; walked = grows_refl s.walked }

both_trans : (s t u : Rounds) → GrowsBoth s t → GrowsBoth t u → GrowsBoth s u
both_trans s t u g h =
    record { sets = grows_trans _ _ _ g.sets h.sets; walked = grows_trans _ _ _ g.walked h.walked }

pub both_small : (s t : Rounds) → GrowsBoth s t → SmallBoth s → SmallBoth t
both_small s t g k = record { sets = g.sets.small k.sets; walked = g.walked.small k.walked }

rounds_same : (s t : Rounds) → t.sets ≡ s.sets → t.walked ≡ s.walked → t ≡ s
rounds_same s t e f = ap₂ (λ (x y : Sets). record { sets = x; walked = y }) e f

both_more : (s t : Rounds) → SmallBoth s → GrowsBoth s t → total_both s ≤ total_both t
both_more s t k g = let m₁ = g.sets.more k.sets in let m₂ = g.walked.more k.walked in omega arith

both_same : (s t : Rounds) → SmallBoth s → GrowsBoth s t → total_both t ≤ total_both s → t ≡ s
both_same s t k g few =
    let m₁ = g.sets.more k.sets in
    let m₂ = g.walked.more k.walked in
    rounds_same s t (g.sets.same k.sets (omega arith)) (g.walked.same k.walked (omega arith))

-- what lies between the same is the same
pub between : (s t u : Rounds) → SmallBoth s → GrowsBoth s t → GrowsBoth t u → u ≡ s → t ≡ s
between s t u k g h e =
    let m = both_more t u (both_small s t g k) h in
    let is : total_both u ≡ total_both s = ap (λ (r : Rounds). total r.sets + total r.walked) e in
    both_same s t k g (omega arith)

cond_both : (c : Bool) (s t u : Rounds) → GrowsBoth s t → GrowsBoth s u → GrowsBoth s (cond c t u)
cond_both true s t u g h = g
cond_both false s t u g h = h

pub changed_grows : (table : List ℕ) (l : ℕ) (s : Rounds) → GrowsBoth s (changed_walked table l s)
unfolding changed_walked
changed_grows table l s =
    cond_both (eqb (set_at s.walked l) (set_at s.sets l)) _ _ _ (both_refl s)
    (record { sets = line_grows table l (set_at s.sets l) s.sets; walked = joined_grows l (set_at s.sets l) s.walked })

pub each_changed_grows : (table : List ℕ) (count l : ℕ) (s : Rounds) → GrowsBoth s (each_line (changed_walked table) count table l s)
each_changed_grows table count l s = each_related GrowsBoth both_refl both_trans _ (changed_grows table) count table l s

pub lines_grow : (table : List ℕ) (s : Rounds) → GrowsBoth s (lines_walked table s)
unfolding lines_walked
lines_grow table s = each_changed_grows table (rows table - 1) 1 s

pub returns_grow : (table : List ℕ) (s : Rounds) → GrowsBoth s (returns_walked table s)
unfolding returns_walked
returns_grow table s =
    cond_both (eqb (set_at s.walked 0) (set_at s.sets 0)) _ _ _ (both_refl s)
    (record { sets = rests_grow table (set_at s.sets 0) s.sets; walked = joined_grows 0 (set_at s.sets 0) s.walked })

pub round_grows : (table : List ℕ) (s : Rounds) → GrowsBoth s (rounded table s)
unfolding rounded
round_grows table s = both_trans _ _ _ (lines_grow table s) (returns_grow table _)

-- after enough rounds nothing changes any more
module _ (f : Rounds → Rounds) (grows : (s : Rounds) → GrowsBoth s (f s)) where
  pub times_same : (n : ℕ) (s : Rounds) → f s ≡ s → times n f s ≡ s
  unfolding times
  times_same zero s h = refl
  times_same (suc n) s h = ap (times n f) h ∙ times_same n s h

  times_final : (n : ℕ) (s : Rounds) → SmallBoth s → length s.sets ≡ 800 → length s.walked ≡ 800 → 2 * (37 * 800) ≤ total_both s + n
      → f (times n f s) ≡ times n f s
  unfolding times
  times_final zero s k long long' most =
      let is : length (f s).sets ≡ 800 = (grows s).sets.long ∙ long in
      let is' : length (f s).walked ≡ 800 = (grows s).walked.long ∙ long' in
      let few : total (f s).sets ≤ 37 * 800 = rw is at (total_few (f s).sets) in
      let few' : total (f s).walked ≤ 37 * 800 = rw is' at (total_few (f s).walked) in
      both_same s (f s) k (grows s) (omega arith)
  times_final (suc n) s k long long' most =
      go (dec_le (total_both (f s)) (total_both s))
      (times_final n (f s) (both_small s (f s) (grows s) k) ((grows s).sets.long ∙ long) ((grows s).walked.long ∙ long'))
    where
      go : Dec (total_both (f s) ≤ total_both s) → (2 * (37 * 800) ≤ total_both (f s) + n → f (times n f (f s)) ≡ times n f (f s))
          → f (times n f (f s)) ≡ times n f (f s)
      go (yes h) later =
          let is : f s ≡ s = both_same s (f s) k (grows s) h in
          let all : times n f (f s) ≡ s = ap (times n f) is ∙ times_same n s is in
          ap f all ∙ is ∙ sym all
      go (no h) later = later (omega arith)

zeros_small : (n i : ℕ) → get_or (replicate n 0) i 0 < 2 ^ 37
zeros_small zero i = omega arith
zeros_small (suc n) zero = omega arith
zeros_small (suc n) (suc i) = zeros_small n i

pub small_first : SmallBoth first_rounds
unfolding first_rounds first_sets
small_first =
    record { sets = small_set (replicate 800 0) 1 everything (omega arith) (zeros_small 800); walked = zeros_small 800 }

pub long_none : length (replicate {A = ℕ} 800 0) ≡ 800
long_none = length-replicate {A = ℕ} 800 0

pub long_first : length first_sets ≡ 800
unfolding first_sets
long_first = length-set (replicate 800 0) 1 everything ∙ long_none

abbrev pub final_rounds : List ℕ → Rounds
final_rounds table = times (2 * (37 * 800)) (rounded table) first_rounds

pub final_same : (table : List ℕ) → rounded table (final_rounds table) ≡ final_rounds table
unfolding first_rounds
final_same table = times_final (rounded table) (round_grows table) (2 * (37 * 800)) first_rounds small_first long_first long_none (omega arith)

-- what holds at first and is kept by a round holds after any number of rounds
times_holds : (P : Rounds → Type 0) (f : Rounds → Rounds) → ((s : Rounds) → P s → P (f s)) → (n : ℕ) (s : Rounds) → P s → P (times n f s)
unfolding times
times_holds P f keep zero s p = p
times_holds P f keep (suc n) s p = times_holds P f keep n (f s) (keep s p)

pub final_holds : (P : Rounds → Type 0) (table : List ℕ) → ((s : Rounds) → P s → P (rounded table s)) → P first_rounds → P (final_rounds table)
final_holds P table keep p = times_holds P (rounded table) keep (2 * (37 * 800)) first_rounds p
