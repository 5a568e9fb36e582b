-- Chains of places by the remainders of their stops: a walk along one passes no place of a stop but by its row, and a chain with one place
-- more. Assumes nothing.
use Prim.Native.Nat.{ℕ, zero, suc, ◌-◌, ◌%◌, ◌<◌, ◌≤◌}
use native.Mathlib.Nat.{mod-lt}
use native.Mathlib.Omega.{arith}
use mathlib.Core.Bool.{cond}
use mathlib.Core.List.{List}
use mathlib.Core.Path.{◌≡◌, refl, sym, ap, ◌∙◌}
use lib.ListN.{replicate, length-replicate, get_or-replicate}
use Rattle.word.proofs.Tests.{by_eqb, by_leb}
use Rattle.recordings.specs.Walking.{link_at, stop_at, newest, Chains, Linked, Fresh, Place}

-- heads that are all zero
pub fresh : (n : ℕ) → 0 < n → Fresh (replicate n 0)
fresh n some =
    let long = length-replicate {A = ℕ} n 0 in
    record { some = omega (arith, long); zeros = λ r h. get_or-replicate n r 0 0 (omega (arith, long)) }

module _ (xs output : List ℕ) (size r : ℕ) where
  newest_most : (n : ℕ) → newest xs output size r n ≤ n
  unfolding newest
  newest_most zero = omega arith
  newest_most (suc n) =
      by_eqb (λ t. cond t (suc n) (newest xs output size r n) ≤ suc n) (stop_at xs output n % size) r
      (λ _. omega arith) (λ _. omega (arith, newest_most n))

  -- the place has the remainder
  newest_has : (n k : ℕ) → newest xs output size r n ≡ suc k → stop_at xs output k % size ≡ r
  unfolding newest
  newest_has zero k = λ is. absurd (omega arith)
  newest_has (suc n) k =
      by_eqb (λ t. cond t (suc n) (newest xs output size r n) ≡ suc k → stop_at xs output k % size ≡ r) (stop_at xs output n % size) r
      (λ e is. let same : k ≡ n = omega arith in ap (λ (j : ℕ). stop_at xs output j % size) same ∙ e)
      (λ _ is. newest_has n k is)

  -- and none after it does
  newest_last : (n k : ℕ) → newest xs output size r n ≤ k → k < n → stop_at xs output k % size ≡ r → ⊥
  unfolding newest
  newest_last zero k = λ from h same. omega arith
  newest_last (suc n) k =
      by_eqb (λ t. cond t (suc n) (newest xs output size r n) ≤ k → k < suc n → stop_at xs output k % size ≡ r → ⊥) (stop_at xs output n % size) r
      (λ _ from h same. omega arith)
      (λ other from h same. by_eqb (λ _. ⊥) k n (λ e. other (ap (λ (j : ℕ). stop_at xs output j % size) (sym e) ∙ same))
      (λ apart. newest_last n k from (omega arith) same))

-- the same where the stops are
newest_same : (xs before after : List ℕ) (size r n : ℕ) → ((k : ℕ) → k < n → stop_at xs after k ≡ stop_at xs before k)
    → newest xs before size r n ≡ newest xs after size r n
unfolding newest
newest_same xs before after size r zero same = refl
newest_same xs before after size r (suc n) same =
    rw (same n (omega arith), newest_same xs before after size r n (λ k h. same k (omega arith)))

-- a walk along the chain of a stop, at a head or a link: the last place of the chain below a bound, past which the stop does not stand
pub record Along (xs output : List ℕ) (size count stop at : ℕ) : Type 0 where
  bound : ℕ
  most : bound ≤ count
  is : at ≡ newest xs output size (stop % size) bound
  none : (k : ℕ) → bound ≤ k → k < count → stop_at xs output k ≡ stop → ⊥

module _ {xs output : List ℕ} {n count stop : ℕ} {head : ℕ → ℕ} (chains : Chains xs n head output count) where
  pub along_start : {r : ℕ} → r ≡ stop % n → r < n → Along xs output n count stop (head r)
  along_start {r} e h =
      record {
        bound = count;
        most = omega arith;
        is = chains.first r h ∙ ap (λ (m : ℕ). newest xs output n m count) e;
        none = λ k from few. absurd (omega arith);
      }

  module _ {at : ℕ} (w : Along xs output n count stop at) where
    -- from there on the stop does not stand
    passed : (k : ℕ) → at ≤ k → k < count → stop_at xs output k ≡ stop → ⊥
    passed k from h same =
        by_leb (λ _. ⊥) w.bound k (λ over. w.none k over h same)
        (λ below. newest_last xs output n (stop % n) w.bound k (omega (arith, w.is)) below
        (ap (λ (s : ℕ). s % n) same))

    pub along_end : at ≡ 0 → Place xs output count stop count
    along_end e = record { most = omega arith; found = λ h. absurd (omega arith); none = λ _ k h same. passed k (omega arith) h same }

    module _ (some : 0 < at) where
      pub along_inside : at - 1 < count
      along_inside = omega (arith, w.is, w.most, newest_most xs output n (stop % n) w.bound)

      pub along_less : link_at output (at - 1) < at
      along_less =
          let most = newest_most xs output n (stop_at xs output (at - 1) % n) (at - 1) in
          omega (arith, chains.next (at - 1) along_inside)

      pub along_here : stop_at xs output (at - 1) ≡ stop → Place xs output count stop (at - 1)
      along_here e = record { most = omega (arith, along_inside); found = λ _. e; none = λ full. absurd (omega (arith, along_inside)) }

      pub along_next : (stop_at xs output (at - 1) ≡ stop → ⊥) → Along xs output n count stop (link_at output (at - 1))
      along_next other =
          let one : newest xs output n (stop % n) w.bound ≡ suc (at - 1) = omega (arith, w.is) in
          let same = newest_has xs output n (stop % n) w.bound (at - 1) one in
          record {
            bound = at - 1;
            most = omega (arith, along_inside);
            is = chains.next (at - 1) along_inside ∙ ap (λ (m : ℕ). newest xs output n m (at - 1)) same;
            none = λ k from h e.
                by_eqb (λ _. ⊥) k (at - 1) (λ here. other (ap (stop_at xs output) (sym here) ∙ e)) (λ apart. passed k (omega arith) h e);
          }

-- no place yet
pub linked_none : (xs output : List ℕ) {heads : List ℕ} → Fresh heads → Linked xs heads 0 output 0
unfolding newest
linked_none xs output f =
    record { some = f.some; within = omega arith; chains = λ _. record { first = f.zeros; next = λ k h. absurd (omega arith) } }

-- other rows of the same stops
module _ {xs before after : List ℕ} {n count : ℕ} {head then : ℕ → ℕ} where
  pub chains_same : Chains xs n head before count → ((k : ℕ) → k < count → stop_at xs after k ≡ stop_at xs before k)
      → ((k : ℕ) → k < count → link_at after k ≡ link_at before k) → ((r : ℕ) → r < n → then r ≡ head r) → Chains xs n then after count
  chains_same c stop link heads =
      record {
        first = λ r h. heads r h ∙ c.first r h ∙ newest_same xs before after n r count stop;
        next = λ k h.
            link k h
            ∙ c.next k h
            ∙ newest_same xs before after n (stop_at xs before k % n) k (λ j less. stop j (omega arith))
            ∙ ap (λ (s : ℕ). newest xs after n (s % n) k) (sym (stop k h));
      }

-- a place more at the head of its chain, linked to the head before
module _ {xs before after : List ℕ} {n k : ℕ} {head then : ℕ → ℕ} (c : Chains xs n head before k) (some : 0 < n)
    (stop : (j : ℕ) → stop_at xs after j ≡ stop_at xs before j) (link : (j : ℕ) → j < k → link_at after j ≡ link_at before j)
    (here : link_at after k ≡ head (stop_at xs before k % n)) (first : then (stop_at xs before k % n) ≡ suc k)
    (others : (r : ℕ) → (r ≡ stop_at xs before k % n → ⊥) → then r ≡ head r) where
  moved : Chains xs n head after k
  moved = chains_same c (λ j _. stop j) link (λ _ _. refl)

  pub chains_more : Chains xs n then after (suc k)
  unfolding newest
  chains_more =
      record {
        first = λ r h. by_eqb (λ t. then r ≡ cond t (suc k) (newest xs after n r k)) (stop_at xs after k % n) r
            (λ e. ap then (sym e ∙ remainder) ∙ first)
            (λ other. others r (λ e. other (remainder ∙ sym e)) ∙ moved.first r h);
        next = λ j h. by_eqb (λ _. link_at after j ≡ newest xs after n (stop_at xs after j % n) j) j k
            (λ e. rw (e, remainder) (here ∙ moved.first (stop_at xs before k % n) (mod-lt (stop_at xs before k) some)))
            (λ other. moved.next j (omega arith));
      }
    where
      remainder : stop_at xs after k % n ≡ stop_at xs before k % n
      remainder = ap (λ (s : ℕ). s % n) (stop k)
