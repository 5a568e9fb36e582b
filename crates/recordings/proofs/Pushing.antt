-- Links and heads in the second numbers of pairs: what a store there changes, a place put at the head of its chain, and all chains made anew.
-- Assumes nothing.
use Prim.Native.Nat.{ℕ, suc, ◌+◌, ◌*◌, ◌/◌, ◌%◌, ◌<◌, ◌≤◌}
use native.Mathlib.Omega.{arith}
use mathlib.Core.Bool.{cond}
use mathlib.Core.List.{List}
use mathlib.Core.Path.{◌≡◌, refl, sym, ap, subst, ◌∙◌}
use borrow.Author.Tests.{eq-eqb, ne_eqb}
use lib.ListN.{length, get_or, set, length-set}
use lib.Seq.{get_or-set_same, get_or-set_other, drop-set-lt}
use Rattle.word.proofs.Tests.{by_eqb}
use Rattle.recordings.specs.Recordings.{stop_of}
use Rattle.recordings.specs.Walking.{second_at_of, link_at, chain_count, head_at, stop_at, newest}
use Rattle.recordings.specs.Walking.{Chains, Holds, Noted, Kept, HeadPut, Pushed, Cleared, Regrown}
use Rattle.recordings.proofs.Held.{held_same}
use Rattle.recordings.proofs.Links.{chains_more}

-- what is kept
pub kept_none : (n : ℕ) (output : List ℕ) → Kept n output output
kept_none n output = record { rows = λ k. refl; past = refl; same_long = refl }

pub kept_twice : {n : ℕ} {before between after : List ℕ} → Kept n before between → Kept n between after → Kept n before after
kept_twice a b =
    record { rows = λ k. b.rows k ∙ a.rows k; past = b.past ∙ a.past; same_long = b.same_long ∙ a.same_long }

module _ {n : ℕ} {before after : List ℕ} (kept : Kept n before after) where
  pub kept_holds : {xs : List ℕ} → Holds xs n before → Holds xs n after
  kept_holds h =
      record { is_list_lem = h.is_list_lem; room = omega (arith, h.room, kept.same_long); inside = λ k few. rw (kept.rows k) (h.inside k few) }

  pub kept_noted : {rows start : List ℕ} → Noted rows n start before → Noted rows n start after
  kept_noted is =
      record {
        held = held_same n before after (λ k _. kept.rows k) ∙ is.held;
        room = omega (arith, is.room, kept.same_long);
        past = kept.past ∙ is.past;
        same_long = kept.same_long ∙ is.same_long;
      }

-- another second number of a pair
module _ (before : List ℕ) (k v : ℕ) (room : 2 * k + 2 ≤ length before) where
  pub second_kept : (n : ℕ) → k < n → Kept n before (set before (2 * k + 1) v)
  second_kept n h =
      record {
        rows = λ j. get_or-set_other before (2 * k + 1) (2 * j) v 0 (omega arith);
        past = drop-set-lt (2 * n) before (2 * k + 1) v (omega arith);
        same_long = length-set before (2 * k + 1) v;
      }

  pub second_here : second_at_of (set before (2 * k + 1) v) k ≡ v
  second_here = get_or-set_same before (2 * k + 1) v 0 (omega arith)

  pub second_other : (j : ℕ) → (j ≡ k → ⊥) → second_at_of (set before (2 * k + 1) v) j ≡ second_at_of before j
  second_other j other = get_or-set_other before (2 * k + 1) (2 * j + 1) v 0 (omega arith)

-- another link of a pair: its head stays
module _ (before : List ℕ) (k link : ℕ) (room : 2 * k + 2 ≤ length before) (small : link < 4294967296) where
  abbrev second : ℕ
  second = second_at_of before k / 4294967296 * 4294967296 + link

  abbrev linked : List ℕ
  linked = set before (2 * k + 1) second

  link_here : link_at linked k ≡ link
  link_here = ap (λ (x : ℕ). x % 4294967296) (second_here before k second room) ∙ omega arith

  link_other : (j : ℕ) → (j ≡ k → ⊥) → link_at linked j ≡ link_at before j
  link_other j other = ap (λ (x : ℕ). x % 4294967296) (second_other before k second room j other)

  link_heads : (r : ℕ) → second_at_of linked r / 4294967296 ≡ second_at_of before r / 4294967296
  link_heads r =
      by_eqb (λ _. second_at_of linked r / 4294967296 ≡ second_at_of before r / 4294967296) r k
      (λ e. rw e (ap (λ (x : ℕ). x / 4294967296) (second_here before k second room) ∙ omega arith))
      (λ other. ap (λ (x : ℕ). x / 4294967296) (second_other before k second room r other))

-- heads are the same where they are in numbers apart, or where the second numbers have them
pub heads_same : (heads : List ℕ) (size : ℕ) (before after : List ℕ)
    → ((r : ℕ) → r < size → second_at_of after r / 4294967296 ≡ second_at_of before r / 4294967296)
    → (r : ℕ) → r < chain_count heads size → head_at heads size after r ≡ head_at heads size before r
heads_same heads size before after same r =
    by_eqb (λ t. r < cond t (length heads) size
    → cond t (get_or heads r 0) (second_at_of after r / 4294967296) ≡ cond t (get_or heads r 0) (second_at_of before r / 4294967296)) size 0
    (λ _ _. refl) (λ _ h. same r h)

-- where the head of a chain is
module _ (size r : ℕ) (heads : List ℕ) (h : r < chain_count heads size) where
  pub apart : size ≡ 0 → r < length heads
  apart none = rw (eq-eqb size 0 none) at h

  pub within : (size ≡ 0 → ⊥) → r < size
  within some = rw (ne_eqb size 0 some) at h

-- another head, in numbers apart or in a pair: its link stays
module _ (size r head : ℕ) where
  pub head_apart : size ≡ 0 → (output : List ℕ) {heads : List ℕ} → r < chain_count heads size → HeadPut size r head output output heads (set heads r head)
  head_apart none output {heads} h =
      record {
        kept = λ n _. kept_none n output;
        links = λ k. refl;
        here = rw (eq-eqb size 0 none) (get_or-set_same heads r head 0 (apart size r heads h none));
        others = λ j other. rw (eq-eqb size 0 none) (get_or-set_other heads r j head 0 other);
        same_long = length-set heads r head;
      }

  module _ (some : size ≡ 0 → ⊥) (before heads : List ℕ) (h : r < chain_count heads size) (room : 2 * size ≤ length before) (small : head < 4294967296) where
    inside : r < size
    inside = within size r heads h some

    abbrev second_then : ℕ
    second_then = head * 4294967296 + second_at_of before r % 4294967296

    fits : 2 * r + 2 ≤ length before
    fits = omega (arith, inside)

    pub head_within : HeadPut size r head before (set before (2 * r + 1) (head * 4294967296 + second_at_of before r % 4294967296)) heads heads
    head_within =
        record {
          kept = λ n few. second_kept before r second_then fits n (omega (arith, inside));
          links = λ k. by_eqb (λ _. link_at (set before (2 * r + 1) second_then) k ≡ link_at before k) k r
              (λ e. rw e (ap (λ (x : ℕ). x % 4294967296) (second_here before r second_then fits) ∙ omega arith))
              (λ other. ap (λ (x : ℕ). x % 4294967296) (second_other before r second_then fits k other));
          here = rw (ne_eqb size 0 some) (ap (λ (x : ℕ). x / 4294967296) (second_here before r second_then fits) ∙ omega arith);
          others = λ j other. rw (ne_eqb size 0 some) (ap (λ (x : ℕ). x / 4294967296) (second_other before r second_then fits j other));
          same_long = refl;
        }

-- a place linked and put at the head of its chain
module _ {xs before after heads now : List ℕ} {size r link : ℕ} (k : ℕ) (h : Holds xs (k + 1) before) (some : 0 < chain_count heads size)
    (is : r ≡ stop_at xs before k % chain_count heads size) (old : link ≡ head_at heads size before r) (small : link < 4294967296)
    (put : HeadPut size r (k % 4294967295 + 1) (set before (2 * k + 1) (second_at_of before k / 4294967296 * 4294967296 + link)) after heads now) where
  room : 2 * k + 2 ≤ length before
  room = omega (arith, h.room)

  rows_kept : (n : ℕ) → k < n → size ≤ n → Kept n before after
  rows_kept n few fits = kept_twice (second_kept before k (second before k link room small) room n few) (put.kept n fits)

  pub pushed : Pushed xs size k before after heads now
  pushed =
      record {
        kept = rows_kept;
        same_long = put.same_long;
        chains = λ few c. chains_more c some (λ j. ap (stop_of xs) ((rows_kept (suc k + size) (omega arith) (omega arith)).rows j))
            (λ j less. put.links j ∙ link_other before k link room small j (omega arith))
            (put.links k ∙ link_here before k link room small ∙ old ∙ ap (head_at heads size before) is)
            (ap (head_at now size after) (sym is) ∙ put.here ∙ omega arith)
            (λ j other. put.others j (λ e. other (e ∙ is)) ∙ same j);
      }
    where
      same : (j : ℕ) → head_at heads size (linked before k link room small) j ≡ head_at heads size before j
      same j =
          by_eqb (λ t. head_at heads size (linked before k link room small) j ≡ head_at heads size before j) size 0
          (λ e. rw (eq-eqb size 0 e)) (λ e. rw (ne_eqb size 0 e) (link_heads before k link room small j))

-- one more second number that is zero
pub zeros_more : (before : List ℕ) (k : ℕ) → 2 * k + 2 ≤ length before → ((j : ℕ) → j < k → second_at_of before j ≡ 0)
    → (j : ℕ) → j < k + 1 → second_at_of (set before (2 * k + 1) 0) j ≡ 0
zeros_more before k room zeros j h =
    by_eqb (λ _. second_at_of (set before (2 * k + 1) 0) j ≡ 0) j k (λ e. rw e (second_here before k 0 room))
    (λ other. second_other before k 0 room j other ∙ zeros j (omega arith))

-- all chains made anew, with a head in each pair: so many places are linked
pub record Relinking (xs : List ℕ) (count : ℕ) (before heads after now : List ℕ) (k : ℕ) : Type 0 where
  pub most : k ≤ count
  pub kept : Kept count before after
  pub same_long : length now ≡ length heads
  pub chains : count < 4294967296 → Chains xs (chain_count now count) (head_at now count after) after k

pub relinking_none : (xs heads : List ℕ) {count : ℕ} {start before : List ℕ} → 0 < count → Cleared count start before
    → Relinking xs count before heads before heads 0
unfolding newest
relinking_none xs heads {count} {start} {before} some c =
    record {
      most = omega arith;
      kept = kept_none count before;
      same_long = refl;
      chains = λ _. record {
        first = λ r h. rw (ne_eqb count 0 (omega arith))
            (ap (λ (x : ℕ). x / 4294967296) (c.zeros r (rw (ne_eqb count 0 (omega arith)) at h)) ∙ omega arith);
        next = λ k h. absurd (omega arith);
      };
    }

module _ {xs before heads after now : List ℕ} {count k : ℕ} (l : Relinking xs count before heads after now k) where
  pub relinking_pushes : Holds xs count before → 0 < length heads → k < count
      → Holds xs (k + 1) after × (0 < length now) × (2 * count ≤ length after)
  relinking_pushes h some more =
      let all = kept_holds l.kept h in (
        record { is_list_lem = all.is_list_lem; room = omega (arith, all.room); inside = λ j few. all.inside j (omega arith) },
        omega (arith, l.same_long),
        all.room,
      )

  pub relinking_next : {next then : List ℕ} → k < count → Pushed xs count k after next now then → Relinking xs count before heads next then (k + 1)
  relinking_next {next} {then} more p =
      record {
        most = omega arith;
        kept = kept_twice l.kept (p.kept count more (omega arith));
        same_long = p.same_long ∙ l.same_long;
        chains = λ few. let one : suc k ≡ k + 1 = omega arith in
            rw p.same_long
            (subst (λ (n : ℕ). Chains xs (chain_count now count) (head_at then count next) next n) one (p.chains (omega arith) (l.chains few)));
      }

  pub relinking_all : {start : List ℕ} → Kept count start before → 0 < length heads → count ≤ k → Regrown xs count count start after heads now
  relinking_all cleared some all =
      record {
        kept = kept_twice cleared l.kept;
        linked = record {
          some = omega (arith, l.same_long);
          within = omega arith;
          chains = λ few. let whole : k ≡ count = omega (arith, l.most) in
              subst (λ (n : ℕ). Chains xs (chain_count now count) (head_at now count after) after n) whole (l.chains few);
        };
        same_long = l.same_long;
      }
