-- What a reader may take from the definition of repeated stops: which they are, that each is told once, and when there are none.
-- Assumes nothing.
use Prim.Native.Nat.{ℕ, suc, ◌≤◌}
use native.Mathlib.Omega.{arith}
use mathlib.Core.Bool.{Bool, true, false, not, ◌&&◌, ◌||◌, cond}
use mathlib.Core.List.{List, [], ◌∷◌, ◌++◌}
use mathlib.Core.Path.{◌≡◌, refl, sym, ap, ◌∙◌}
use borrow.Author.Tests.{eq-eqb, ne_eqb, le-leb, lt-leb, leb-true, leb-false}
use lib.Dec.{eqb, leb}
use lib.ListN.{length}
use Rattle.word.proofs.Tests.{and_false, by_test, by_leb, by_eqb}
use Rattle.recordings.specs.Recordings.{member, has_twice}
use Rattle.recordings.proofs.Counting.{member_last, or_false}
use Rattle.silence.specs.declared.Asked.TheVariants.{Repeated}
use Rattle.silence.specs.Silence.{test_of, picked, repeated}
use Rattle.silence.proofs.Laws.{none_empty, length_empty}

-- how often a number stands in a list
unfoldable pub times : ℕ → List ℕ → ℕ
times x [] = 0
times x (y ∷ l) = cond (eqb x y) (suc (times x l)) (times x l)

member_times : (x : ℕ) (l : List ℕ) → member x l ≡ leb 1 (times x l)
unfolding member times
member_times x [] = refl
member_times x (y ∷ l) =
    by_test (λ t. (t || member x l) ≡ leb 1 (cond t (suc (times x l)) (times x l))) (eqb x y)
    (λ _. sym (le-leb 1 (suc (times x l)) (omega arith))) (λ _. member_times x l)

twice_more : (n : ℕ) → leb 1 n ≡ leb 2 (suc n)
twice_more n =
    by_leb (λ t. t ≡ leb 2 (suc n)) 1 n (λ h. sym (le-leb 2 (suc n) (omega arith))) (λ h. sym (lt-leb 2 (suc n) (omega arith)))

module _ (x s : ℕ) (rest : List ℕ) where
  -- one stop more, if it is picked
  same_more : x ≡ s → member x rest ≡ false → (t : Bool) → member x (cond t (s ∷ rest) rest) ≡ t
  unfolding member
  same_more e none true = rw (eq-eqb x s e)
  same_more e none false = none

  other_more : (x ≡ s → ⊥) → (t : Bool) → member x (cond t (s ∷ rest) rest) ≡ member x rest
  unfolding member
  other_more other true = rw (ne_eqb x s other)
  other_more other false = refl

-- a stop is repeated exactly where it stands in the list twice or more
module _ (x : ℕ) where
  repeated_from : (before stops : List ℕ)
      → member x (picked (test_of Repeated []) before stops) ≡ (leb 2 (times x stops) && not (member x before))
  unfolding picked test_of times member
  repeated_from before [] = refl
  repeated_from before (s ∷ later) =
      by_eqb (λ t. member x rest ≡ (leb 2 (times x later) && not (t || member x before))
      → member x (cond test (s ∷ rest) rest) ≡ (leb 2 (cond t (suc (times x later)) (times x later)) && not (member x before))) x s
      (λ e none. same_more x s rest e (none ∙ and_false (leb 2 (times x later))) test
      ∙ ap (λ (y : ℕ). member y later && not (member y before)) (sym e)
      ∙ ap (λ (t : Bool). t && not (member x before)) (member_times x later ∙ twice_more (times x later)))
      (λ other is. other_more x s rest other test ∙ is)
      (repeated_from (before ++ (s ∷ [])) later ∙ ap (λ (t : Bool). leb 2 (times x later) && not t) (member_last x s before))
    where
      rest : List ℕ
      rest = picked (test_of Repeated []) (before ++ (s ∷ [])) later

      test : Bool
      test = member s later && not (member s before)

  pub repeated_exactly : (stops : List ℕ) → member x (repeated stops) ≡ leb 2 (times x stops)
  unfolding member
  repeated_exactly stops = repeated_from [] stops ∙ by_test (λ t. (t && true) ≡ t) (leb 2 (times x stops)) (λ _. refl) (λ _. refl)

-- each is told once
once_from : (before stops : List ℕ) → has_twice (picked (test_of Repeated []) before stops) ≡ false
unfolding picked test_of has_twice
once_from before [] = refl
once_from before (s ∷ later) =
    by_test (λ t. has_twice (cond t (s ∷ rest) rest) ≡ false) (member s later && not (member s before))
    (λ _. rw gone (once_from (before ++ (s ∷ [])) later)) (λ _. once_from (before ++ (s ∷ [])) later)
  where
    rest : List ℕ
    rest = picked (test_of Repeated []) (before ++ (s ∷ [])) later

    gone : member s rest ≡ false
    gone =
        repeated_from s (before ++ (s ∷ [])) later
        ∙ ap (λ (t : Bool). leb 2 (times s later) && not t) (member_last s s before)
        ∙ ap (λ (t : Bool). leb 2 (times s later) && not (t || member s before)) (eq-eqb s s refl)
        ∙ and_false (leb 2 (times s later))

pub repeated_once : (stops : List ℕ) → has_twice (repeated stops) ≡ false
repeated_once stops = once_from [] stops

-- a list has no number twice exactly where each stands there at most once
once_times : (x : ℕ) (l : List ℕ) → has_twice l ≡ false → times x l ≤ 1
unfolding has_twice times
once_times x [] once = omega arith
once_times x (y ∷ l) once =
    let both = or_false (member y l) (has_twice l) once in
    by_eqb (λ t. cond t (suc (times x l)) (times x l) ≤ 1) x y
    (λ e. let few = leb-false 1 (times x l) (sym (member_times x l) ∙ ap (λ (z : ℕ). member z l) e ∙ both.0) in omega arith)
    (λ _. once_times x l both.1)

times_once : (l : List ℕ) → ((x : ℕ) → times x l ≤ 1) → has_twice l ≡ false
unfolding has_twice times
times_once [] few = refl
times_once (y ∷ l) few =
    by_test (λ t. (t || has_twice l) ≡ false) (member y l)
    (λ again. let two : suc (times y l) ≤ 1 = rw (eq-eqb y y refl) at (few y) in
    absurd (omega (arith, leb-true 1 (times y l) (sym (member_times y l) ∙ again))))
    (λ _. times_once l λ x. by_eqb (λ t. cond t (suc (times x l)) (times x l) ≤ 1 → times x l ≤ 1) x y (λ _ h. omega arith) (λ _ h. h) (few x))

-- nothing is repeated exactly where the count is 0
pub count_zero : (stops : List ℕ) → has_twice stops ≡ false → length (repeated stops) ≡ 0
count_zero stops once =
    ap length (none_empty (repeated stops) λ x. repeated_exactly x stops ∙ lt-leb 2 (times x stops) (omega (arith, once_times x stops once)))

pub zero_count : (stops : List ℕ) → length (repeated stops) ≡ 0 → has_twice stops ≡ false
unfolding member
zero_count stops none =
    times_once stops λ x.
    let out : leb 2 (times x stops) ≡ false = sym (repeated_exactly x stops) ∙ ap (member x) (length_empty (repeated stops) none) in
    omega (arith, leb-false 2 (times x stops) out)
