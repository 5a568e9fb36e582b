-- What a reader may take from the definitions besides: the chain however far it is followed, rows outside it, and a refused call. `Stops` has
-- that each stop of the chain is written once, `Order` which record stands and in which order. Assumes nothing.
use Prim.Native.Nat.{ℕ, zero, suc, ◌*◌, ◌/◌, ◌<◌}
use native.Mathlib.Omega.{arith}
use mathlib.Core.Bool.{Bool, true, false, cond}
use mathlib.Core.List.{List, [], ◌∷◌}
use mathlib.Core.Path.{◌≡◌, refl, ap, ◌∙◌}
use lib.Dec.{eqb, leb}
use lib.ListN.{length, take}
use Rattle.word.proofs.Tests.{by_test, by_eqb, either_way}
use Rattle.recordings.specs.Recordings.{Left, row_count, next_of, first_row, stop_of, day_of, recording_of, is_list, reached, chain}
use Rattle.recordings.specs.Recordings.{member, has_twice}
use Rattle.word.specs.Told.{number}
use Rattle.recordings.specs.Recordings.{replaces, standing, standing_rows, all_standing, pairs, written, correcting}
use Rattle.recordings.specs.Recordings.{told_written}
use Rattle.recordings.proofs.Counting.{Each, each_first, each_others, or_false, no_both}
use Rattle.recordings.proofs.Chain.{chain_most, chain_twice}
use Rattle.recordings.proofs.Standing.{standing_each}

-- a chain that ends, followed further or less far
ended_take : (xs : List ℕ) (m n row : ℕ) → length (reached xs m row) < m → reached xs n row ≡ take n (reached xs m row)
unfolding reached
ended_take xs zero n row = λ h. absurd (omega arith)
ended_take xs (suc m) zero row = λ h. refl
ended_take xs (suc m) (suc n) row =
    by_eqb (λ t. length (cond t [] (row ∷ reached xs m (next_of xs row))) < suc m
    → cond t [] (row ∷ reached xs n (next_of xs row)) ≡ take (suc n) (cond t [] (row ∷ reached xs m (next_of xs row)))) row 0
    (λ _ _. refl)
    (λ _ h. ap (λ (l : List ℕ). row ∷ l) (ended_take xs m n (next_of xs row) (omega arith)))

take_member : (x n : ℕ) (l : List ℕ) → member x l ≡ false → member x (take n l) ≡ false
unfolding member
take_member x zero l out = refl
take_member x (suc n) [] out = refl
take_member x (suc n) (y ∷ l) out =
    let both = or_false (eqb x y) (member x l) out in rw both.0 (take_member x n l both.1)

take_once : (n : ℕ) (l : List ℕ) → has_twice l ≡ false → has_twice (take n l) ≡ false
unfolding has_twice
take_once zero l once = refl
take_once (suc n) [] once = refl
take_once (suc n) (x ∷ l) once =
    let both = or_false (member x l) (has_twice l) once in rw (take_member x n l both.0) (take_once n l both.1)

module _ (xs : List ℕ) (is : is_list xs ≡ true) where
  -- where the chain reaches no row twice, `chain` has all of its rows, however far it is followed
  pub whole_chain : has_twice (chain xs) ≡ false → (n : ℕ) → reached xs n (first_row xs) ≡ take n (chain xs)
  unfolding chain
  whole_chain once n =
      ended_take xs (row_count xs) n (first_row xs)
      (by_eqb (λ _. length (chain xs) < row_count xs) (length (chain xs)) (row_count xs)
      (λ full. absurd (no_both (chain_twice xs is full) once)) (λ other. omega (arith, chain_most xs is)))

  -- a row that it reaches a second time, after any number of steps, is found
  pub found_twice : (n : ℕ) → has_twice (reached xs n (first_row xs)) ≡ true → has_twice (chain xs) ≡ true
  found_twice n twice =
      by_test (λ t. t ≡ true) (has_twice (chain xs)) (λ _. refl)
      (λ once. absurd (no_both twice (ap has_twice (whole_chain once n) ∙ take_once n (chain xs) once)))

-- two lists that are the same at a row
pub record SameAt (xs ys : List ℕ) (row : ℕ) : Type 0 where
  pub next : next_of xs row ≡ next_of ys row
  pub stop : stop_of xs row ≡ stop_of ys row
  pub day : day_of xs row ≡ day_of ys row
  pub recording : recording_of xs row ≡ recording_of ys row

module _ (xs ys : List ℕ) where
  same_reached : (n row : ℕ) → Each (SameAt xs ys) (reached xs n row) → reached xs n row ≡ reached ys n row
  unfolding reached
  same_reached zero row = λ same. refl
  same_reached (suc n) row =
      by_eqb (λ t. Each (SameAt xs ys) (cond t [] (row ∷ reached xs n (next_of xs row)))
      → cond t [] (row ∷ reached xs n (next_of xs row)) ≡ cond t [] (row ∷ reached ys n (next_of ys row))) row 0
      (λ _ _. refl)
      (λ _ same. ap (λ (l : List ℕ). row ∷ l)
      (same_reached n (next_of xs row) (each_others row _ same) ∙ ap (reached ys n) (each_first row _ same).next))

  same_standing : (row : ℕ) (rows : List ℕ) → SameAt xs ys row → Each (SameAt xs ys) rows → standing xs row rows ≡ standing ys row rows
  unfolding standing replaces
  same_standing row [] here each = refl
  same_standing row (later ∷ rows) here each =
      let there = each_first later rows each in
      let same : replaces xs later row ≡ replaces ys later row = rw (here.stop, here.day, there.stop, there.day) in
      same_standing (cond (replaces xs later row) later row) rows
      (by_test (λ t. SameAt xs ys (cond t later row)) (replaces xs later row) (λ _. there) (λ _. here)) (each_others later rows each)
      ∙ ap (λ (t : Bool). standing ys (cond t later row) rows) same

  same_rows : (seen rows : List ℕ) → Each (SameAt xs ys) rows → standing_rows xs seen rows ≡ standing_rows ys seen rows
  unfolding standing_rows
  same_rows seen [] each = refl
  same_rows seen (row ∷ rows) each =
      let here = each_first row rows each in
      let later = each_others row rows each in
      rw (here.stop, same_standing row rows here later, same_rows seen rows later, same_rows (stop_of ys row ∷ seen) rows later)

  same_pairs : (rows : List ℕ) → Each (SameAt xs ys) rows → pairs (stop_of xs) (recording_of xs) rows ≡ pairs (stop_of ys) (recording_of ys) rows
  unfolding pairs
  same_pairs [] each = refl
  same_pairs (row ∷ rows) each =
      let here = each_first row rows each in rw (here.stop, here.recording, same_pairs rows (each_others row rows each))

  -- rows outside the chain have no bearing
  module _ (long : length xs ≡ length ys) (list : is_list xs ≡ is_list ys) (first : first_row xs ≡ first_row ys) (same : Each (SameAt xs ys) (chain xs)) where
    same_chain : chain xs ≡ chain ys
    unfolding chain
    same_chain =
        same_reached (row_count xs) (first_row xs) same
        ∙ ap (λ (n : ℕ). reached ys (n / 4) (first_row xs)) long
        ∙ ap (reached ys (row_count ys)) first

    same_all : all_standing xs ≡ all_standing ys
    unfolding all_standing
    same_all = same_rows [] (chain xs) same ∙ ap (standing_rows ys []) same_chain

    same_numbers : pairs (stop_of xs) (recording_of xs) (all_standing xs) ≡ pairs (stop_of ys) (recording_of ys) (all_standing xs)
    unfolding all_standing
    same_numbers = same_pairs (all_standing xs) (standing_each xs (SameAt xs ys) [] (chain xs) same)

    pub no_bearing : (output : List ℕ) → correcting xs output ≡ correcting ys output
    unfolding correcting written
    no_bearing output = rw (list, same_numbers, same_all, same_chain)

-- a refused call writes nothing
pub refused_nothing : (xs output : List ℕ) → (number (told_written (correcting xs output).answer) ≡ 0 → ⊥) → (correcting xs output).output ≡ output
unfolding correcting written told_written number
refused_nothing xs output =
    either_way Kept (is_list xs)
    (either_way Kept (has_twice (chain xs)) (λ _. refl)
    (either_way Kept (leb (2 * length (all_standing xs)) (length output)) (λ refused. absurd (refused refl)) (λ _. refl)))
    (λ _. refl)
  where
    Kept : Left → Type 0
    Kept l = (number (told_written l.answer) ≡ 0 → ⊥) → l.output ≡ output
