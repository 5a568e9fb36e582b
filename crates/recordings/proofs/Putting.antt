-- Stops and recordings put in the places of the rows that were noted, or from other memory. Assumes nothing.
use Prim.Native.Nat.{ℕ, suc, ◌+◌, ◌*◌, ◌<◌, ◌≤◌}
use native.Mathlib.Numerals.{add-one}
use native.Mathlib.Omega.{arith}
use mathlib.Core.Bool.{true}
use mathlib.Core.List.{List, ◌++◌}
use mathlib.Core.Path.{◌≡◌, refl, sym, ap, ◌∙◌}
use lib.ListN.{length, take, drop, get_or, set, length-append, length-drop, get_or-append}
use Rattle.std.proofs.Common.{get_or-take}
use lib.Seq.{take-suc, drop-cons, drop-drop, length-take-le, take-length, get_or_at}
use Rattle.recordings.specs.Recordings.{stop_of, recording_of, is_list, all_standing, pairs}
use Rattle.recordings.specs.Walking.{row_at, with_row, all_written, Noted}
use Rattle.recordings.proofs.Counting.{each_at}
use Rattle.recordings.proofs.Chain.{number_inside}
use Rattle.recordings.proofs.Growing.{noted_count, noted_row, standing_inside}
use Rattle.recordings.proofs.Held.{held_same}
use Rattle.recordings.proofs.Pairs.{length_pairs, pairs_put}

-- stops and recordings of the first k standing rows in their places, and the others noted still
abbrev pub partly : List ℕ → List ℕ → ℕ → List ℕ
partly xs before k = pairs (stop_of xs) (recording_of xs) (take k (all_standing xs)) ++ drop (2 * k) before

-- an output with room for the pairs of all standing rows
pub record Fits (xs : List ℕ) (count : ℕ) (before : List ℕ) : Type 0 where
  pub all : count ≡ length (all_standing xs)
  pub room : 2 * count ≤ length before

-- as many as are noted in it
pub noted_fits : {xs : List ℕ} {count : ℕ} {before : List ℕ} → Noted (all_standing xs) count before before → Fits xs count before
noted_fits is = record { all = noted_count is; room = is.room }

-- rows noted elsewhere are noted in an output that begins with these pairs
module _ {rows pairs : List ℕ} (output : List ℕ) {n : ℕ} (is : Noted rows n pairs pairs) (room : 2 * n ≤ length output) where
  abbrev copied : List ℕ
  copied = take (2 * n) pairs ++ drop (2 * n) output

  copied_row : (k : ℕ) → k < n → row_at copied k ≡ row_at pairs k
  copied_row k h =
      let long = length-take-le (2 * n) pairs is.room in
      get_or-append (take (2 * n) pairs) (drop (2 * n) output) 0 (2 * k) (omega (arith, long)) ∙ get_or-take (2 * n) pairs (2 * k) 0 (omega arith)

  noted_copied : Noted rows n copied copied
  noted_copied =
      record {
        held = held_same n pairs copied copied_row ∙ is.held;
        room = simp length-append (omega (arith, length-take-le (2 * n) pairs is.room));
        past = refl;
        same_long = refl;
      }

  pub noted_there : (front : List ℕ) → front ≡ take (2 * n) pairs → Noted rows n (front ++ drop (2 * n) output) (front ++ drop (2 * n) output)
  noted_there front e = rw e noted_copied

module _ (xs : List ℕ) {count : ℕ} {before : List ℕ} (is : Fits xs count before) where
  abbrev rows : List ℕ
  rows = all_standing xs

  abbrev front : ℕ → List ℕ
  front k = pairs (stop_of xs) (recording_of xs) (take k rows)

  pub puts_none : before ≡ partly xs before 0
  unfolding pairs
  puts_none = refl

  front_long : (k : ℕ) → k ≤ count → length (front k) ≡ 2 * k
  front_long k h =
      length_pairs (stop_of xs) (recording_of xs) (take k rows) ∙ ap (λ (n : ℕ). 2 * n) (length-take-le k rows (omega (arith, is.all)))

  pub puts_length : (k : ℕ) → k ≤ count → length (partly xs before k) ≡ length before
  puts_length k h =
      length-append (front k) (drop (2 * k) before) ∙ omega (arith, front_long k h, length-drop (2 * k) before, is.room)

  module _ {k : ℕ} (more : k < count) where
    few : k < length rows
    few = omega (arith, is.all)

    pub puts_room : 2 * k + 2 ≤ length (partly xs before k)
    puts_room = omega (arith, puts_length k (omega arith), is.room)

    -- the row of the next place, where the output holds it
    pub puts_row : Noted (all_standing xs) count before before → row_at (partly xs before k) k ≡ get_or rows k 0
    puts_row noted =
        ap (λ (l : List ℕ). get_or (front k ++ l) (2 * k) 0) (drop-cons before (2 * k) 0 (omega (arith, is.room)))
        ∙ get_or_at (front k) (row_at before k) (drop (suc (2 * k)) before) 0 (2 * k) (front_long k (omega arith))
        ∙ noted_row noted more

    -- its numbers
    pub puts_number : is_list xs ≡ true → {row : ℕ} → row ≡ get_or rows k 0 → 4 * row + 3 < length xs
    puts_number list {row} e = number_inside xs list row 3 (rw e (each_at rows (standing_inside xs list) k few)) (omega arith)

    pub puts_next : {row : ℕ} → row ≡ get_or rows k 0 → with_row xs row k (partly xs before k) ≡ partly xs before (k + 1)
    unfolding stop_of recording_of
    puts_next {row} e =
        ap (λ (r : ℕ). with_row xs r k (partly xs before k)) e
        ∙ ap (λ (n : ℕ). set (set (partly xs before k) (2 * n) (stop_of xs last)) (2 * n + 1) (recording_of xs last))
        (sym (length-take-le k rows (omega (arith, few))))
        ∙ pairs_put (stop_of xs) (recording_of xs) (take k rows) last (drop (2 * k) before) (omega (arith, length-drop (2 * k) before, is.room))
        ∙ ap (λ (l : List ℕ). pairs (stop_of xs) (recording_of xs) l ++ drop 2 (drop (2 * k) before)) (sym (take-suc rows k 0 few))
        ∙ ap (λ (l : List ℕ). front (suc k) ++ l) (drop-drop 2 (2 * k) before)
        ∙ ap (λ (n : ℕ). front (suc k) ++ drop n before) two
        ∙ ap (partly xs before) (sym (add-one k))
      where
        last : ℕ
        last = get_or rows k 0

        two : 2 * k + 2 ≡ 2 * suc k
        two = omega arith

  pub puts_all : (k : ℕ) → k ≡ count → partly xs before k ≡ all_written xs ++ drop (2 * count) before
  puts_all k e = rw (e, is.all, take-length)
