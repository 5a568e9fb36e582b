-- Chains of rows: how far a chain goes, the rows that a walk comes to and with which set, and what holds once each is visited.
-- Assumes nothing.
use Prim.Native.Nat.{ℕ, zero, suc, ◌+◌, ◌-◌, ◌≤◌, ◌<◌}
use native.Mathlib.Omega.{arith}
use mathlib.Core.Bool.{Bool, true, false, cond}
use mathlib.Core.List.{List}
use mathlib.Core.Logic.{◌⊎◌, inl, inr, ⊎_elim}
use mathlib.Core.Path.{◌≡◌, refl, ap, sym, subst, ◌∙◌}
use borrow.Author.Tests.{eqb-true, eqb-false, eq-eqb}
use lib.Dec.{eqb}
use lib.ListN.{length}
use Rattle.table.specs.declared.Row.{Row}
use Rattle.table.specs.Row.{rows, row_at, first_operation}
use Rattle.machine.proofs.Places.{rows_few}
use Rattle.defined.specs.Kinds.{is_kind}
use Rattle.defined.specs.Paths.{InChain, first, further}
use Rattle.defined.specs.Search.{Sets, set_after, set_past, Visit, visited, each_line}
use Rattle.defined.specs.Answer.{Passes, IsRow, RowOrNone}
use Rattle.defined.proofs.Final.{Grows, grows_refl, grows_trans, visited_grows, each_related}
use Rattle.defined.proofs.Fit.{few_rows, next_row}

-- a place in a chain of rows of one kind: with this many rows to go it reaches the end
pub record Place (table : List ℕ) (kind r count : ℕ) : Type 0 where
  pub is_row : RowOrNone table kind r
  pub enough : 1 ≤ count
  pub left : (r ≡ 0 → ⊥) → rows table < count + r

-- a walk from row r₀ with the set x₀ comes to row r (0: the end) with the set x
pub data Comes (table : List ℕ) (past : Row → ℕ → ℕ) (r x : ℕ) : ℕ → ℕ → Type 0 where
  here : Comes table past r x r x
  on : {r₀ x₀ : ℕ} → (r₀ ≡ 0 → ⊥) → Comes table past r x (row_at table r₀).next (past (row_at table r₀) x₀) → Comes table past r x r₀ x₀

-- at once, or from the next row on
pub comes_front : (table : List ℕ) (past : Row → ℕ → ℕ) (r x r₀ x₀ : ℕ) → Comes table past r x r₀ x₀
    → ((r ≡ r₀) × (x ≡ x₀)) ⊎ ((r₀ ≡ 0 → ⊥) × Comes table past r x (row_at table r₀).next (past (row_at table r₀) x₀))
comes_front table past r x r₀ x₀ here = inl (refl, refl)
comes_front table past r x r₀ x₀ (on n c) = inr (n, c)

-- one row further
pub comes_on : (table : List ℕ) (past : Row → ℕ → ℕ) (r x r₀ x₀ : ℕ) → (r ≡ 0 → ⊥) → Comes table past r x r₀ x₀
    → Comes table past (row_at table r).next (past (row_at table r) x) r₀ x₀
comes_on table past r x r₀ x₀ some here = on some here
comes_on table past r x r₀ x₀ some (on n c) = on n (comes_on table past r x _ _ some c)

-- a walk with what the DONEs bring is, up to the first DO, one with nothing; past a DO, the set at its start has no bearing
module _ (table : List ℕ) (d r y : ℕ) where
  abbrev With : ℕ → ℕ → ℕ → Type 0
  With e r₀ x₀ = Comes table (set_past e) r y r₀ x₀

  pub comes_split : (r₀ x₀ : ℕ) → With d r₀ x₀ → With 0 r₀ x₀ ⊎ ((z : ℕ) → With d r₀ z)
  unfolding set_past
  comes_split r₀ x₀ here = inl here
  comes_split r₀ x₀ (on n c) =
      elim (eqb (row_at table r₀).code 36) as (λ t. eqb (row_at table r₀).code 36 ≡ t
      → With d (row_at table r₀).next (cond t d (set_after (row_at table r₀) x₀))
      → With 0 (row_at table r₀).next (cond t d (set_after (row_at table r₀) x₀)) ⊎ ((z : ℕ) → With d (row_at table r₀).next z)
      → With 0 r₀ x₀ ⊎ ((z : ℕ) → With d r₀ z)) [
        | true ↦ λ e q later. inr (λ z. on {x₀ = z} n (rw e q))
        | false ↦ λ e q later. ⊎_elim (λ k. inl (on {x₀ = x₀} n (rw e k))) (λ k. inr (λ z. on n (k _))) later
      ] refl c (comes_split _ _ c)

module _ (b : ℕ) (table : List ℕ) (h : Passes b table) where
  -- the first place, and the next one
  pub begins : (kind r : ℕ) → RowOrNone table kind r → Place table kind r (rows table)
  begins kind r i =
      let two = few_rows b table h in
      record { is_row = i; enough = omega arith; left = λ some. let low : 0 < r = (i some).low in omega arith }

  pub goes_on : (kind r count : ℕ) → (r ≡ 0 → ⊥) → Place table kind r (suc count) → Place table kind (row_at table r).next count
  goes_on kind r count some p =
      let left : rows table < suc count + r = p.left some in
      let high : r < rows table = (p.is_row some).high in
      record {
        is_row = λ more. (next_row b table h kind r (p.is_row some) more).0;
        enough = omega arith;
        left = λ more. let later = (next_row b table h kind r (p.is_row some) more).1 in omega arith;
      }

  pub set_inside : (kind r : ℕ) → IsRow table kind r → r < 800
  set_inside kind r i = let few = rows_few table h.long in let high : r < rows table = i.high in omega arith

  -- a row that a walk comes to is of the chain's kind
  pub comes_row : (kind : ℕ) (past : Row → ℕ → ℕ) (r x r₀ x₀ : ℕ) → RowOrNone table kind r₀ → Comes table past r x r₀ x₀ → RowOrNone table kind r
  comes_row kind past r x r₀ x₀ i here = i
  comes_row kind past r x r₀ x₀ i (on n c) = comes_row kind past r x _ _ (λ more. (next_row b table h kind r₀ (i n) more).0) c

  -- a row in a line's chain is come to, with some set
  pub in_chain_comes : (past : Row → ℕ → ℕ) (l r x₀ : ℕ) → InChain table l r
      → (x : ℕ) × (IsRow table 1 l × ((r ≡ 0 → ⊥) × Comes table past r x (first_operation (row_at table l)) x₀))
  in_chain_comes past l r x₀ (first low high kind some) = (x₀, (record { low = low; high = high; is = kind }, (some, here)))
  in_chain_comes past l r x₀ (further {r = r'} c more) =
      let (x, (i, (some, comes))) = in_chain_comes past l r' x₀ c in
      (past (row_at table r') x, (i, (more, comes_on table past r' x _ x₀ some comes)))

  -- what a visit of a row brings about, and what grows keeps, holds of every row once the chain is visited
  module _ (v : Visit) (kind : ℕ) (S : ℕ → ℕ → Sets → Type 0)
      (grown : (r x : ℕ) (s t : Sets) → Grows s t → S r x s → S r x t)
      (at-grows : (r x : ℕ) (s : Sets) → Grows s (v.at r x s)) (end-grows : (x : ℕ) (s : Sets) → Grows s (v.end x s))
      (at-settles : (r x : ℕ) (s : Sets) → IsRow table kind r → length s ≡ 800 → S r x (v.at r x s))
      (end-settles : (x : ℕ) (s : Sets) → length s ≡ 800 → S 0 x (v.end x s)) where
    pub visited_settles : (count r₀ x₀ : ℕ) (s : Sets) → Place table kind r₀ count → length s ≡ 800
        → (r x : ℕ) → Comes table v.past r x r₀ x₀ → S r x (visited v count table r₀ x₀ s)
    unfolding visited
    visited_settles zero r₀ x₀ s p long r x c = absurd (let n : 1 ≤ 0 = p.enough in omega arith)
    visited_settles (suc count) r₀ x₀ s p long r x c =
        elim (eqb r₀ 0) as (λ t. eqb r₀ 0 ≡ t
        → S r x (cond t (v.end x₀ s) (visited v count table (row_at table r₀).next (v.past (row_at table r₀) x₀) (v.at r₀ x₀ s)))) [
          | true ↦ λ z.
              let e = eqb-true r₀ 0 z in
              ⊎_elim (λ q. subst (λ i. S i x (v.end x₀ s)) (sym (q.0 ∙ e)) (subst (λ y. S 0 y (v.end x₀ s)) (sym q.1) (end-settles x₀ s long)))
              (λ q. absurd (q.0 e)) (comes_front table v.past r x r₀ x₀ c)
          | false ↦ λ z.
              let some = eqb-false r₀ 0 z in
              let now : S r₀ x₀ (visited v count table (row_at table r₀).next (v.past (row_at table r₀) x₀) (v.at r₀ x₀ s))
              = grown r₀ x₀ _ _ (visited_grows v at-grows end-grows count table _ _ _) (at-settles r₀ x₀ s (p.is_row some) long) in
              ⊎_elim
              (λ q.
              subst (λ i. S i x (visited v count table (row_at table r₀).next (v.past (row_at table r₀) x₀) (v.at r₀ x₀ s))) (sym q.0)
              (subst (λ y. S r₀ y (visited v count table (row_at table r₀).next (v.past (row_at table r₀) x₀) (v.at r₀ x₀ s))) (sym q.1) now))
              (λ q. visited_settles count _ _ _ (goes_on kind r₀ count some p) ((at-grows r₀ x₀ s).long ∙ long) r x q.1)
              (comes_front table v.past r x r₀ x₀ c)
        ] refl

  -- the same of every line
  module _ (f : ℕ → Sets → Sets) (S : ℕ → Sets → Type 0) (grown : (l : ℕ) (s t : Sets) → Grows s t → S l s → S l t)
      (grows : (l : ℕ) (s : Sets) → Grows s (f l s)) (settles : (l : ℕ) (s : Sets) → IsRow table 1 l → length s ≡ 800 → S l (f l s)) where
    each_settled : (count l : ℕ) (s : Sets) → length s ≡ 800 → (i : ℕ) → l ≤ i → i < l + count → IsRow table 1 i → S i (each_line f count table l s)
    unfolding each_line is_kind
    each_settled zero l s long i from to is = absurd (omega arith)
    each_settled (suc count) l s long i from to is =
        elim (eqb l i) as (λ t. eqb l i ≡ t → S i (each_line f count table (suc l) (cond (eqb (row_at table l).kind 1) (f l s) s))) [
          | true ↦ λ q.
              let e : l ≡ i = eqb-true l i q in
              grown i _ _ (each_related Grows grows_refl grows_trans f grows count table (suc l) _)
              (subst (λ t. S i (cond t (f l s) s)) (sym (eq-eqb (row_at table l).kind 1 (ap (λ j. (row_at table j).kind) e ∙ is.is)))
              (subst (λ j. S i (f j s)) (sym e) (settles i s is long)))
          | false ↦ λ q.
              let o : (l ≡ i → ⊥) = eqb-false l i q in
              each_settled count (suc l) _ (kept (eqb (row_at table l).kind 1)) i (omega arith) (omega arith) is
        ] refl
      where
        kept : (t : Bool) → length (cond t (f l s) s) ≡ 800
        kept true = (grows l s).long ∙ long
        kept false = long

    pub lines_settled : (s : Sets) → length s ≡ 800 → (i : ℕ) → IsRow table 1 i → S i (each_line f (rows table - 1) table 1 s)
    lines_settled s long i is =
        let low : 0 < i = is.low in
        let high : i < rows table = is.high in
        each_settled (rows table - 1) 1 s long i (omega arith) (omega arith) is
