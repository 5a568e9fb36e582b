-- A walk that enters the rows of the chain one after the other: the output holds the standing rows of those that it has passed. Assumes nothing.
use Prim.Native.Nat.{ℕ, ◌+◌, ◌-◌, ◌*◌, ◌<◌, ◌≤◌}
use native.Mathlib.Omega.{arith}
use mathlib.Core.Bool.{true}
use mathlib.Core.List.{List, [], ◌∷◌}
use mathlib.Core.Path.{◌≡◌, refl, sym, ap, ◌∙◌}
use lib.ListN.{length, take, drop, get_or, take-append-drop}
use lib.Seq.{drop-drop, take-length}
use Rattle.recordings.specs.Recordings.{row_count, next_of, first_row, is_list, chain, has_twice, standing_rows, all_standing}
use Rattle.recordings.specs.Walking.{entered, held_rows, row_at, stops, Holds, Entering, Enters, Noted, Linked, Fresh, Regrown}
use Rattle.recordings.proofs.Counting.{Each, each_at, each_take}
use Rattle.recordings.proofs.Chain.{At, at_start, at_next, at_passed, chain_inside}
use Rattle.recordings.proofs.Standing.{grown_by_one, no_fewer, entered_most, standing_each}
use Rattle.recordings.proofs.Stops.{stops_differ}
use Rattle.recordings.proofs.Held.{length_held, held_at}
use Rattle.recordings.proofs.Links.{linked_none}
use Rattle.recordings.proofs.Pushing.{kept_noted}

-- lists that are the same from a place on are so from a later one on
drop_later : (before after : List ℕ) (m n : ℕ) → m ≤ n → drop m after ≡ drop m before → drop n after ≡ drop n before
drop_later before after m n h same =
    let sum : n ≡ m + (n - m) = omega arith in
    ap (λ (k : ℕ). drop k after) sum
    ∙ sym (drop-drop (n - m) m after)
    ∙ ap (drop (n - m)) same
    ∙ drop-drop (n - m) m before
    ∙ ap (λ (k : ℕ). drop k before) (sym sum)

module _ {rows : List ℕ} {n : ℕ} {before after : List ℕ} (is : Noted rows n before after) where
  pub noted_count : n ≡ length rows
  noted_count = sym (length_held n after) ∙ ap length is.held

  -- seen from the output itself
  pub noted_itself : Noted rows n after after
  noted_itself = record { held = is.held; room = is.room; past = refl; same_long = refl }

  -- the row at a place
  pub noted_row : {k : ℕ} → k < n → row_at after k ≡ get_or rows k 0
  noted_row {k} h = sym (held_at n k after h) ∙ ap (λ (l : List ℕ). get_or l k 0) is.held

  noted_holds : {xs : List ℕ} → is_list xs ≡ true → Each (λ r. r < row_count xs) rows → Holds xs n after
  noted_holds list each =
      record {
        is_list_lem = list;
        room = is.room;
        inside = λ k h. rw (noted_row h) (each_at rows each k (omega (arith, noted_count)));
      }

-- the standing rows of the first i rows of the chain
abbrev pub so_far : List ℕ → ℕ → List ℕ
so_far xs i = standing_rows xs [] (take i (chain xs))

-- the standing rows are rows of the list
pub standing_inside : (xs : List ℕ) → is_list xs ≡ true → Each (λ r. r < row_count xs) (all_standing xs)
unfolding all_standing
standing_inside xs list = standing_each xs (λ r. r < row_count xs) [] (chain xs) (λ x there. (chain_inside xs list x there).0)

-- a walk at a row of the chain, with the standing rows of those that it has passed
pub record Passing (xs before heads output now : List ℕ) (size count row i : ℕ) : Type 0 where
  pub at : At xs i row
  pub noted : Noted (so_far xs i) count before output
  pub linked : Linked xs now size output count
  pub same_long : length now ≡ length heads

module _ (xs : List ℕ) where
  pub so_far_most : (i : ℕ) → length (so_far xs i) ≤ length (all_standing xs)
  unfolding all_standing
  so_far_most i =
      let more = no_fewer xs [] (take i (chain xs)) (drop i (chain xs)) in
      let whole = ap (λ (l : List ℕ). length (standing_rows xs [] l)) (take-append-drop i (chain xs)) in omega arith

  module _ (list : is_list xs ≡ true) where
    pub passing_none : {before heads : List ℕ} → Fresh heads → Passing xs before heads before heads 0 0 (first_row xs) 0
    unfolding standing_rows held_rows
    passing_none {before} f =
        record {
          at = at_start xs list;
          noted = record { held = refl; room = omega arith; past = refl; same_long = refl };
          linked = linked_none xs before f;
          same_long = refl;
        }

    module _ {before heads output now : List ℕ} {size count row i : ℕ} (p : Passing xs before heads output now size count row i) where
      pub passing_all : i ≡ length (chain xs) → Noted (all_standing xs) count before output
      unfolding all_standing
      passing_all e = rw (e, take-length) at p.noted

      -- the output holds rows of the list
      pub passing_holds : Holds xs count output
      passing_holds =
          noted_holds p.noted list
          (standing_each xs (λ r. r < row_count xs) [] (take i (chain xs)) (each_take (chain xs) i (λ x there. (chain_inside xs list x there).0)))

      -- with its chains made anew
      pub passing_regrown : {n : ℕ} {after then : List ℕ} → Regrown xs n count output after now then → Passing xs before heads after then n count row i
      passing_regrown g =
          record { at = p.at; noted = kept_noted g.kept p.noted; linked = g.linked; same_long = g.same_long ∙ p.same_long }

      module _ (more : i < length (chain xs)) where
        grown : so_far xs (i + 1) ≡ entered xs row (held_rows count output)
        grown =
            ap (standing_rows xs []) (at_passed xs list p.at more)
            ∙ grown_by_one xs (take i (chain xs)) row
            ∙ ap (entered xs row) (sym p.noted.held)

        fewer : length (so_far xs i) ≤ length (so_far xs (i + 1))
        fewer =
            let most = no_fewer xs [] (take i (chain xs)) (row ∷ []) in
            let same = ap (λ (l : List ℕ). length (standing_rows xs [] l)) (at_passed xs list p.at more) in omega arith

        -- at most one row more
        pub grown_few : length (so_far xs (i + 1)) ≤ count + 1
        grown_few = omega (arith, ap length grown, entered_most xs row (held_rows count output), length_held count output)

        pub entering : 2 * length (so_far xs (i + 1)) ≤ length before → Entering xs row count output × Linked xs now size output count
        entering room = (
          record {
            inside = p.at.inside;
            holds = passing_holds;
            differ = ap (λ (l : List ℕ). has_twice (stops xs l)) p.noted.held ∙ stops_differ xs [] (take i (chain xs));
            room = omega (arith, ap length grown, p.noted.same_long);
          },
          p.linked,
        )

        -- one row more
        pub passing_next : {n : ℕ} {after then : List ℕ} → Enters xs row size count n output after now then
            → Passing xs before heads after then size n (next_of xs row) (i + 1)
        passing_next {n} e =
            record {
              at = at_next xs list p.at more;
              noted = record {
                held = e.noted.held ∙ sym grown;
                room = e.noted.room;
                past = e.noted.past ∙ drop_later before output (2 * count) (2 * n) later p.noted.past;
                same_long = e.noted.same_long ∙ p.noted.same_long;
              };
              linked = e.linked;
              same_long = e.same_long ∙ p.same_long;
            }
          where
            later : 2 * count ≤ 2 * n
            later = omega (arith, noted_count p.noted, noted_count e.noted, ap length grown, fewer)
