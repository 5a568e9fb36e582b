-- The stops of the standing rows: each stop of the chain once, and how a walk by their numbers counts them. Assumes nothing.
use Prim.Native.Nat.{ℕ, suc, ◌-◌, ◌<◌, ◌≤◌}
use native.Mathlib.Omega.{arith}
use mathlib.Core.Bool.{true, false, not, ◌&&◌, ◌||◌, cond}
use mathlib.Core.List.{List, [], ◌∷◌, ◌++◌}
use mathlib.Core.Path.{◌≡◌, refl, sym, ap, ◌∙◌}
use borrow.Author.Tests.{eq-eqb, ne_eqb, le-leb, lt-leb}
use lib.Dec.{eqb, leb, ltb, leb-zero, leb-suc-suc}
use lib.ListN.{length, length-map}
use Rattle.word.proofs.Tests.{by_test, by_eqb, by_leb}
use Rattle.std.proofs.Common.{Option, Some, None, min, Bool}
use Rattle.std.specs.Option.{MatchOption, is_some}
use Rattle.recordings.specs.Recordings.{stop_of, member, has_twice, standing, standing_rows, chain, all_standing}
use Rattle.recordings.specs.Walking.{stops, from, lesser}
use Rattle.recordings.proofs.Counting.{member_first, member_last, each_last, no_both, above, above_all, above_same}
use Rattle.recordings.proofs.Counting.{above_none, above_once}
use Rattle.recordings.proofs.Standing.{standing_stop, no_more}

-- the least of these numbers that is not below a bound, or that there is none
unfoldable pub LeastOf : ℕ → List ℕ → Option ℕ → Type 0
LeastOf low l None = (x : ℕ) → member x l ≡ true → x < low
LeastOf low l (Some found) = (low ≤ found) × (member found l ≡ true) × ((x : ℕ) → member x l ≡ true → low ≤ x → found ≤ x)

module _ (xs : List ℕ) where
  -- a stop seen before is not among those of the standing rows
  stops_seen : (seen rows : List ℕ) (s : ℕ) → member s seen ≡ true → member s (stops xs (standing_rows xs seen rows)) ≡ false
  unfolding standing_rows member
  stops_seen seen [] s is = refl
  stops_seen seen (row ∷ rows) s is =
      by_test (λ t. member s (stops xs (cond t (standing_rows xs seen rows) (standing xs row rows ∷ standing_rows xs (stop_of xs row ∷ seen) rows))) ≡ false)
      (member (stop_of xs row) seen)
      (λ _. stops_seen seen rows s is)
      (λ new. by_eqb (λ t. (t || member s (stops xs (standing_rows xs (stop_of xs row ∷ seen) rows))) ≡ false) s (stop_of xs (standing xs row rows))
      (λ e. absurd (no_both is (ap (λ (x : ℕ). member x seen) (e ∙ standing_stop xs row rows) ∙ new)))
      (λ _. stops_seen (stop_of xs row ∷ seen) rows s (by_test (λ t. (t || member s seen) ≡ true) (eqb s (stop_of xs row)) (λ _. refl) (λ _. is))))

  -- no stop stands twice
  pub stops_differ : (seen rows : List ℕ) → has_twice (stops xs (standing_rows xs seen rows)) ≡ false
  unfolding standing_rows has_twice
  stops_differ seen [] = refl
  stops_differ seen (row ∷ rows) =
      by_test (λ t. has_twice (stops xs (cond t (standing_rows xs seen rows) (standing xs row rows ∷ standing_rows xs (stop_of xs row ∷ seen) rows))) ≡ false)
      (member (stop_of xs row) seen)
      (λ _. stops_differ seen rows)
      (λ _. rw (stops_seen (stop_of xs row ∷ seen) rows (stop_of xs (standing xs row rows))
      (member_first _ (stop_of xs row) seen (standing_stop xs row rows))) (stops_differ (stop_of xs row ∷ seen) rows))

  -- and those of the standing rows are those of all rows, but for stops seen before
  pub stops_same : (seen rows : List ℕ) (s : ℕ) → member s seen ≡ false → member s (stops xs (standing_rows xs seen rows)) ≡ member s (stops xs rows)
  unfolding standing_rows member
  stops_same seen [] s out = refl
  stops_same seen (row ∷ rows) s out =
      by_test (λ t. member s (stops xs (cond t (standing_rows xs seen rows) (standing xs row rows ∷ standing_rows xs (stop_of xs row ∷ seen) rows)))
      ≡ (eqb s (stop_of xs row) || member s (stops xs rows)))
      (member (stop_of xs row) seen)
      (λ old. rw (ne_eqb s (stop_of xs row) (λ e. no_both (ap (λ (x : ℕ). member x seen) e ∙ old) out)) (stops_same seen rows s out))
      (λ new. rw (standing_stop xs row rows)
      (by_eqb (λ t. (t || member s (stops xs (standing_rows xs (stop_of xs row ∷ seen) rows))) ≡ (t || member s (stops xs rows))) s (stop_of xs row)
      (λ _. refl)
      (λ other. stops_same (stop_of xs row ∷ seen) rows s (rw (ne_eqb s (stop_of xs row) other) out))))

  -- each stop of the chain is written once, and no other
  pub stops_once : has_twice (stops xs (all_standing xs)) ≡ false
  unfolding all_standing
  stops_once = stops_differ [] (chain xs)

  pub stops_all : (s : ℕ) → member s (stops xs (all_standing xs)) ≡ member s (stops xs (chain xs))
  unfolding all_standing member
  stops_all s = stops_same [] (chain xs) s refl

  -- how many stops are left from a bound on, by the least of them
  module _ (low : ℕ) where
    pub count_none : LeastOf low (stops xs (chain xs)) None → above low (stops xs (all_standing xs)) ≡ 0
    unfolding LeastOf
    count_none all = above_none (stops xs (all_standing xs)) low (λ x is. all x (sym (stops_all x) ∙ is))

    pub count_next : (found : ℕ) → LeastOf low (stops xs (chain xs)) (Some found)
        → above low (stops xs (all_standing xs)) ≡ suc (above (suc found) (stops xs (all_standing xs)))
    unfolding LeastOf
    count_next found least =
        above_same (stops xs (all_standing xs)) low found least.0 (λ x is. least.2 x (sym (stops_all x) ∙ is))
        ∙ above_once (stops xs (all_standing xs)) found stops_once (stops_all found ∙ least.1)

  pub count_all : above 0 (stops xs (all_standing xs)) ≡ length (all_standing xs)
  count_all = above_all (stops xs (all_standing xs)) ∙ length-map (all_standing xs) (stop_of xs)

  -- whether there is room for all stops, by how many are left
  module _ (room : ℕ) where
    pub room_for_all : {steps : ℕ} → steps ≡ length (chain xs) → steps ≤ room → true ≡ leb (length (all_standing xs)) room
    unfolding all_standing
    room_for_all all h = sym (le-leb (length (all_standing xs)) room (omega (arith, no_more xs [] (chain xs))))

    pub room_start : leb (above (from None) (stops xs (all_standing xs))) room ≡ leb (length (all_standing xs)) room
    unfolding from
    room_start = ap (λ (n : ℕ). leb n room) count_all

  module _ (low left : ℕ) where
    pub room_none : LeastOf low (stops xs (chain xs)) None → leb (above low (stops xs (all_standing xs))) left ≡ true
    room_none none = le-leb (above low (stops xs (all_standing xs))) left (omega (arith, count_none low none))

    module _ (found : ℕ) (least : LeastOf low (stops xs (chain xs)) (Some found)) where
      pub room_short : left ≡ 0 → leb (above low (stops xs (all_standing xs))) left ≡ false
      room_short h = lt-leb (above low (stops xs (all_standing xs))) left (omega (arith, count_next low found least))

      pub room_next : (left ≡ 0 → ⊥) → leb (above (from (Some found)) (stops xs (all_standing xs))) (left - 1)
          ≡ leb (above low (stops xs (all_standing xs))) left
      unfolding from
      room_next some =
          let one_less : left ≡ suc (left - 1) = omega arith in
          sym (ap (λ (n : ℕ). leb n left) (count_next low found least)
          ∙ ap (leb (suc (above (suc found) (stops xs (all_standing xs))))) one_less
          ∙ leb-suc-suc (above (suc found) (stops xs (all_standing xs))) (left - 1))

    -- with no room left, whether there is no stop left
    pub room_end : left ≡ 0 → (r : Option ℕ) → LeastOf low (stops xs (chain xs)) r → (b : Bool) → is_some r ≡ not b
        → leb (above low (stops xs (all_standing xs))) left ≡ b
    room_end full None least true is = room_none least
    room_end full (Some found) least false is = room_short found least full
    room_end full None least false is = cc
    room_end full (Some found) least true is = cc

-- the least of a list that grows
module _ (low : ℕ) where
  pub least_none : LeastOf low [] None
  unfolding LeastOf member
  least_none x is = absurd (no_both is refl)

  module _ (l : List ℕ) (s : ℕ) where
    still : (x : ℕ) → member x l ≡ true → member x (l ++ (s ∷ [])) ≡ true
    still x is = member_last x s l ∙ by_test (λ t. (t || member x l) ≡ true) (eqb x s) (λ _. refl) (λ _. is)

    own : member s (l ++ (s ∷ [])) ≡ true
    own = member_last s s l ∙ rw (eq-eqb s s refl)

    pub least_more : (found : Option ℕ) → LeastOf low l found → LeastOf low (l ++ (s ∷ [])) (lesser low found s)
    unfolding LeastOf lesser
    least_more None none =
        by_leb (λ t. LeastOf low (l ++ (s ∷ [])) (cond t (Some s) None)) low s
        (λ h. (h, own, each_last l s (λ x. low ≤ x → s ≤ x) (λ _. omega arith) (λ x is k. absurd (omega (arith, none x is)))))
        (λ h. each_last l s (λ x. x < low) h none)
    least_more (Some found) least =
        by_leb (λ t. LeastOf low (l ++ (s ∷ [])) (cond (t && ltb s found) (Some s) (Some found))) low s
        (λ h. by_leb (λ t. LeastOf low (l ++ (s ∷ [])) (cond t (Some s) (Some found))) (suc s) found
        (λ less. (h, own, each_last l s (λ x. low ≤ x → s ≤ x) (λ _. omega arith) (λ x is k. let m = least.2 x is k in omega arith)))
        (λ more. (least.0, still found least.1, each_last l s (λ x. low ≤ x → found ≤ x) (λ _. omega arith) least.2)))
        (λ h. (least.0, still found least.1, each_last l s (λ x. low ≤ x → found ≤ x) (λ k. absurd (omega arith)) least.2))

-- whether a stop is after the last one, and the lesser of two, by what is known where there is one
pub after_is : (stop : ℕ) (r : Bool) (P : ℕ → Type 0) (last : Option ℕ) → MatchOption last (r ≡ true) P → ((x : ℕ) → P x → r ≡ ltb x stop)
    → r ≡ leb (from last) stop
unfolding from
after_is stop r P None is here = is ∙ sym (leb-zero stop)
after_is stop r P (Some x) is here = here x is

module _ (low s : ℕ) where
  pub lesser_below : (found : Option ℕ) → leb low s ≡ false → found ≡ lesser low found s
  unfolding lesser
  lesser_below None below = rw below
  lesser_below (Some found) below = rw below

  lesser_two : (x m : ℕ) → leb low s ≡ true → m ≡ min x s → Some m ≡ lesser low (Some x) s
  unfolding lesser
  lesser_two x m after is =
      by_leb (λ t. Some m ≡ cond (leb low s && t) (Some s) (Some x)) (suc s) x
      (λ less. rw after (ap (λ (n : ℕ). Some n) (omega (arith, is))))
      (λ more. rw after (ap (λ (n : ℕ). Some n) (omega (arith, is))))

  pub lesser_is : (m : ℕ) (P : ℕ → Type 0) (found : Option ℕ) → leb low s ≡ true → MatchOption found (m ≡ s) P → ((x : ℕ) → P x → m ≡ min x s)
      → Some m ≡ lesser low found s
  unfolding lesser
  lesser_is m P None after is here = rw after (ap (λ (n : ℕ). Some n) is)
  lesser_is m P (Some x) after is here = lesser_two x m after (here x is)
