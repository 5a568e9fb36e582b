-- What a reader may take from the definitions besides: which stops are silent, in which order, and when there are none. `Twice` has the
-- same of stops that stand twice. Assumes nothing.
use Prim.Native.Nat.{ℕ, zero, suc, ◌+◌, ◌*◌, ◌<◌}
use native.Mathlib.Omega.{arith}
use mathlib.Core.Bool.{true, false, not, ◌&&◌, ◌||◌, cond}
use mathlib.Core.List.{List, [], ◌∷◌, ◌++◌}
use mathlib.Core.Path.{◌≡◌, refl, sym, ap, ◌∙◌}
use borrow.Author.Tests.{eq-eqb, ne_eqb, eqb-true}
use lib.Dec.{eqb, leb}
use lib.ListN.{length, get_or}
use Rattle.word.specs.Told.{number}
use Rattle.word.proofs.Tests.{and_true, and_false, by_test, by_eqb, either_way}
use Rattle.recordings.specs.Recordings.{member}
use Rattle.recordings.proofs.Counting.{Each, member_first, no_both}
use Rattle.silence.specs.declared.Asked.TheVariants.{Silent}
use Rattle.silence.specs.Silence.{has_recording, test_of, picked, silent, Left, telling, told_listed}

-- the pair at place k has the stop, with a recording
pub record RecordedAt (x : ℕ) (pairs : List ℕ) (k : ℕ) : Type 0 where
  pub inside : 2 * k + 1 < length pairs
  pub stop : get_or pairs (2 * k) 0 ≡ x
  pub recording : get_or pairs (2 * k + 1) 0 ≡ 0 → ⊥

-- some pair has it
pub record Recorded (x : ℕ) (pairs : List ℕ) : Type 0 where
  pub place : ℕ
  pub there : RecordedAt x pairs place

module _ (x : ℕ) where
  -- a stop has a recording exactly where some pair has it with one
  pub recorded : (pairs : List ℕ) → has_recording x pairs ≡ true → Recorded x pairs
  unfolding has_recording
  recorded [] is = absurd (no_both is refl)
  recorded (stop ∷ []) is = absurd (no_both is refl)
  recorded (stop ∷ recording ∷ pairs) is =
      by_test (λ t. (t || has_recording x pairs) ≡ true → Recorded x (stop ∷ recording ∷ pairs)) (eqb stop x && not (eqb recording 0))
      (λ here _. let both = and_true (eqb stop x) (not (eqb recording 0)) here in record {
        place = 0;
        there = record {
          inside = omega arith;
          stop = eqb-true stop x both.0;
          recording = λ none. no_both both.1 (ap not (eq-eqb recording 0 none));
        };
      })
      (λ _ later. next (recorded pairs later))
      is
    where
      next : Recorded x pairs → Recorded x (stop ∷ recording ∷ pairs)
      next r =
          let k = r.place in
          let two : 2 * suc k ≡ suc (suc (2 * k)) = omega arith in
          let three : 2 * suc k + 1 ≡ suc (suc (2 * k + 1)) = omega arith in
          record {
            place = suc k;
            there = record {
              inside = omega (arith, r.there.inside);
              stop = ap (λ (m : ℕ). get_or (stop ∷ recording ∷ pairs) m 0) two ∙ r.there.stop;
              recording = λ none. r.there.recording (sym (ap (λ (m : ℕ). get_or (stop ∷ recording ∷ pairs) m 0) three) ∙ none);
            };
          }

  pub recorded_so : (pairs : List ℕ) (k : ℕ) → RecordedAt x pairs k → has_recording x pairs ≡ true
  unfolding has_recording
  recorded_so [] k r = absurd (omega (arith, r.inside))
  recorded_so (stop ∷ []) k r = absurd (omega (arith, r.inside))
  recorded_so (stop ∷ recording ∷ pairs) zero r = rw (eq-eqb stop x r.stop, ne_eqb recording 0 r.recording)
  recorded_so (stop ∷ recording ∷ pairs) (suc k) r =
      let two : 2 * suc k ≡ suc (suc (2 * k)) = omega arith in
      let three : 2 * suc k + 1 ≡ suc (suc (2 * k + 1)) = omega arith in
      let later = recorded_so pairs k (record {
        inside = omega (arith, r.inside);
        stop = sym (ap (λ (m : ℕ). get_or (stop ∷ recording ∷ pairs) m 0) two) ∙ r.stop;
        recording = λ none. r.recording (ap (λ (m : ℕ). get_or (stop ∷ recording ∷ pairs) m 0) three ∙ none);
      }) in
      rw later (by_test (λ t. (t || true) ≡ true) (eqb stop x && not (eqb recording 0)) (λ _. refl) (λ _. refl))

-- a stop is silent exactly where it is in the list and no pair with a recording has it
module _ (x : ℕ) (pairs : List ℕ) where
  silent_from : (before stops : List ℕ) → member x (picked (test_of Silent pairs) before stops) ≡ (member x stops && not (has_recording x pairs))
  unfolding picked test_of member
  silent_from before [] = refl
  silent_from before (s ∷ later) =
      by_test (λ t. has_recording s pairs ≡ t
      → member x (cond (not t) (s ∷ rest) rest) ≡ ((eqb x s || member x later) && not (has_recording x pairs))) (has_recording s pairs)
      (λ is has. silent_from (before ++ (s ∷ [])) later ∙ by_eqb (λ t. (member x later && not (has_recording x pairs))
      ≡ ((t || member x later) && not (has_recording x pairs))) x s
      (λ e. let so : has_recording x pairs ≡ true = ap (λ (y : ℕ). has_recording y pairs) e ∙ is in rw so (and_false (member x later))) (λ _. refl))
      (λ is has. by_eqb (λ t. (t || member x rest) ≡ ((t || member x later) && not (has_recording x pairs))) x s
      (λ e. let so : has_recording x pairs ≡ false = ap (λ (y : ℕ). has_recording y pairs) e ∙ is in rw so) (λ _. silent_from (before ++ (s ∷ [])) later))
      refl
    where
      rest : List ℕ
      rest = picked (test_of Silent pairs) (before ++ (s ∷ [])) later

  pub silent_exactly : (stops : List ℕ) → member x (silent pairs stops) ≡ (member x stops && not (has_recording x pairs))
  silent_exactly stops = silent_from [] stops

-- in the order of the list, and as often as they stand there: the silent stops of two lists, one after the other
module _ (pairs : List ℕ) where
  silent_anywhere : (before other stops : List ℕ) → picked (test_of Silent pairs) before stops ≡ picked (test_of Silent pairs) other stops
  unfolding picked test_of
  silent_anywhere before other [] = refl
  silent_anywhere before other (s ∷ later) =
      ap (λ (l : List ℕ). cond (not (has_recording s pairs)) (s ∷ l) l) (silent_anywhere (before ++ (s ∷ [])) (other ++ (s ∷ [])) later)

  silent_both : (before stops more : List ℕ)
      → picked (test_of Silent pairs) before (stops ++ more) ≡ picked (test_of Silent pairs) before stops ++ picked (test_of Silent pairs) [] more
  unfolding picked test_of
  silent_both before [] more = silent_anywhere before [] more
  silent_both before (s ∷ stops) more =
      ap (λ (l : List ℕ). cond (not (has_recording s pairs)) (s ∷ l) l) (silent_both (before ++ (s ∷ [])) stops more)
      ∙ by_test (λ t. cond t (s ∷ (one ++ two)) (one ++ two) ≡ cond t (s ∷ one) one ++ two) (not (has_recording s pairs)) (λ _. refl) (λ _. refl)
    where
      one : List ℕ
      one = picked (test_of Silent pairs) (before ++ (s ∷ [])) stops

      two : List ℕ
      two = picked (test_of Silent pairs) [] more

  pub silent_order : (stops more : List ℕ) → silent pairs (stops ++ more) ≡ silent pairs stops ++ silent pairs more
  silent_order stops more = silent_both [] stops more

-- a list that has no number is empty
pub none_empty : (l : List ℕ) → ((x : ℕ) → member x l ≡ false) → l ≡ []
none_empty [] h = refl
none_empty (y ∷ l) h = absurd (no_both (member_first y y l refl) (h y))

pub length_empty : (l : List ℕ) → length l ≡ 0 → l ≡ []
length_empty [] h = refl
length_empty (y ∷ l) h = absurd (omega arith)

-- nothing is silent exactly where the count is 0
module _ (pairs stops : List ℕ) where
  pub count_zero : Each (λ x. has_recording x pairs ≡ true) stops → length (silent pairs stops) ≡ 0
  count_zero each =
      ap length (none_empty (silent pairs stops) λ x. silent_exactly x pairs stops
      ∙ by_test (λ t. (t && not (has_recording x pairs)) ≡ false) (member x stops) (λ is. ap not (each x is)) (λ _. refl))

  pub zero_count : length (silent pairs stops) ≡ 0 → Each (λ x. has_recording x pairs ≡ true) stops
  unfolding member
  zero_count none x is =
      let out : member x (silent pairs stops) ≡ false = ap (member x) (length_empty (silent pairs stops) none) in
      by_test (λ t. t ≡ true) (has_recording x pairs) (λ _. refl)
      (λ not_there. absurd (no_both (silent_exactly x pairs stops ∙ rw (is, not_there)) out))

-- a call that is refused writes nothing
pub refused_nothing : (found output : List ℕ) → (number (told_listed (telling found output).answer) ≡ 0 → ⊥) → (telling found output).output ≡ output
unfolding telling told_listed number
refused_nothing found output =
    either_way (λ (l : Left). (number (told_listed l.answer) ≡ 0 → ⊥) → l.output ≡ output) (leb (length found) (length output))
    (λ refused. absurd (refused refl)) (λ _. refl)
