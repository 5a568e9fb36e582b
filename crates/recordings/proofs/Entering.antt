-- A row entered into the pairs of an output: the rows that it holds then, and the chains of their places. Assumes nothing.
use Prim.Native.Nat.{ℕ, zero, suc, ◌+◌, ◌*◌, ◌/◌, ◌%◌, ◌<◌, ◌≤◌}
use native.Mathlib.Omega.{arith}
use mathlib.Core.Bool.{true, false}
use mathlib.Core.List.{List, [], ◌∷◌, ◌++◌}
use mathlib.Core.Path.{◌≡◌, refl, sym, ap, subst, ◌∙◌}
use lib.Dec.{leb}
use lib.ListN.{length, drop, get_or, set, length-append, length-set}
use lib.Seq.{get_or-set_same, get_or-set_other, drop-set-lt}
use Rattle.word.proofs.Tests.{by_eqb, either_way}
use Rattle.recordings.specs.Recordings.{row_count, number_of, stop_of, day_of, member, has_twice}
use Rattle.recordings.specs.Walking.{standing_of, entered, row_at, second_at_of, chain_count, head_at, stop_at, stops, held_rows}
use Rattle.recordings.specs.Walking.{Holds, Entering, Enters, Chains, Linked, Kept, Pushed, Place}
use Rattle.recordings.proofs.Counting.{or_false, member_first, member_more, no_both}
use Rattle.recordings.proofs.Chain.{number_inside}
use Rattle.recordings.proofs.Standing.{entered_last, entered_at}
use Rattle.recordings.proofs.Held.{length_held, held_at, held_set, held_more}
use Rattle.recordings.proofs.Links.{chains_same}
use Rattle.recordings.proofs.Pushing.{heads_same}

-- the numbers of a pair that holds a row, and of the row
module _ {xs : List ℕ} {count : ℕ} {output : List ℕ} (h : Holds xs count output) {k : ℕ} (few : k < count) where
  pub pair_room : 2 * k + 2 ≤ length output
  pair_room = omega (arith, h.room)

  pub row_number : (i : ℕ) → i < 4 → 4 * row_at output k + i < length xs
  row_number i small = number_inside xs h.is_list_lem (row_at output k) i (h.inside k few) small

-- where no stop stands twice, those of two rows are not the same
module _ (xs : List ℕ) where
  member_at : (rows : List ℕ) (k : ℕ) → k < length rows → member (stop_of xs (get_or rows k 0)) (stops xs rows) ≡ true
  member_at [] k h = absurd (omega arith)
  member_at (row ∷ rows) zero h = member_first (stop_of xs row) (stop_of xs row) (stops xs rows) refl
  member_at (row ∷ rows) (suc k) h = member_more (stop_of xs (get_or rows k 0)) (stop_of xs row) (stops xs rows) (member_at rows k (omega arith))

  two_differ : (rows : List ℕ) → has_twice (stops xs rows) ≡ false → (j k : ℕ) → j < k → k < length rows
      → stop_of xs (get_or rows j 0) ≡ stop_of xs (get_or rows k 0) → ⊥
  unfolding has_twice
  two_differ [] once j k less h same = absurd (omega arith)
  two_differ (row ∷ rows) once j zero less h same = absurd (omega arith)
  two_differ (row ∷ rows) once zero (suc k) less h same =
      no_both (ap (λ (s : ℕ). member s (stops xs rows)) same ∙ member_at rows k (omega arith))
      (or_false (member (stop_of xs row) (stops xs rows)) (has_twice (stops xs rows)) once).0
  two_differ (row ∷ rows) once (suc j) (suc k) less h same =
      two_differ rows (or_false (member (stop_of xs row) (stops xs rows)) (has_twice (stops xs rows)) once).1 j k (omega arith) (omega arith) same

module _ {xs : List ℕ} {row count : ℕ} {before : List ℕ} (e : Entering xs row count before) where
  abbrev rows : List ℕ
  rows = held_rows count before

  long : length rows ≡ count
  long = length_held count before

  stop_at_lem : (k : ℕ) → k < count → stop_of xs (get_or rows k 0) ≡ stop_at xs before k
  stop_at_lem k h = ap (stop_of xs) (held_at count k before h)

  -- the place at which its stop was found, or their count
  module _ {k stop : ℕ} (is : stop ≡ number_of xs row 1) (p : Place xs before count stop k) where
    same_stop : stop ≡ stop_of xs row
    unfolding stop_of
    same_stop = is

    -- a new stop
    module _ (new : k ≡ count) where
      entered_new : entered xs row rows ≡ rows ++ (row ∷ [])
      entered_new = entered_last xs row rows λ j h same.
          let few : j < count = omega (arith, long) in p.none new j few (sym (stop_at_lem j few) ∙ same ∙ sym same_stop)

      pub new_room : 2 * count + 2 ≤ length before
      new_room = omega (arith, e.room, ap length entered_new, length-append rows (row ∷ []), long)

      -- its pair after the others
      with_row : List ℕ
      with_row = set before (2 * count) row

      put : List ℕ
      put = set with_row (2 * count + 1) 0

      row_before : (j : ℕ) → j < count → row_at put j ≡ row_at before j
      unfolding put with_row
      row_before j h =
          get_or-set_other with_row (2 * count + 1) (2 * j) 0 0 (omega arith) ∙ get_or-set_other before (2 * count) (2 * j) row 0 (omega arith)

      second_before : (j : ℕ) → j < count → second_at_of put j ≡ second_at_of before j
      unfolding put with_row
      second_before j h =
          get_or-set_other with_row (2 * count + 1) (2 * j + 1) 0 0 (omega arith)
          ∙ get_or-set_other before (2 * count) (2 * j + 1) row 0 (omega arith)

      row_here : row_at put count ≡ row
      unfolding put with_row
      row_here =
          get_or-set_other with_row (2 * count + 1) (2 * count) 0 0 (omega arith)
          ∙ get_or-set_same before (2 * count) row 0 (omega (arith, new_room))

      same_long : length put ≡ length before
      unfolding put with_row
      same_long = length-set with_row (2 * count + 1) 0 ∙ length-set before (2 * count) row

      same_past : drop (2 * (count + 1)) put ≡ drop (2 * (count + 1)) before
      unfolding put with_row
      same_past =
          drop-set-lt (2 * (count + 1)) with_row (2 * count + 1) 0 (omega arith)
          ∙ drop-set-lt (2 * (count + 1)) before (2 * count) row (omega arith)

      put_holds : Holds xs (count + 1) put
      put_holds =
          record {
            is_list_lem = e.holds.is_list_lem;
            room = omega (arith, same_long, new_room);
            inside = λ j h. by_eqb (λ _. row_at put j < row_count xs) j count (λ same. rw (same, row_here) e.inside)
                (λ other. rw (row_before j (omega arith)) (e.holds.inside j (omega arith)));
          }

      module _ {heads : List ℕ} {size : ℕ} (l : Linked xs heads size before count) where
        -- what pushing its place asks
        pub new_pushes : Holds xs (count + 1) (set (set before (2 * count) row) (2 * count + 1) 0)
            × (0 < length heads) × (2 * size ≤ length (set (set before (2 * count) row) (2 * count + 1) 0))
        unfolding put with_row
        new_pushes = (put_holds, l.some, omega (arith, same_long, new_room, l.within))

        pub enters_new : {after now : List ℕ} → Pushed xs size count (set (set before (2 * count) row) (2 * count + 1) 0) after heads now
            → Enters xs row size count (count + 1) before after heads now
        unfolding put with_row
        enters_new {after} {now} p =
            record {
              noted = record {
                held = held_more count before row after (λ j h. kept.rows j ∙ row_before j h) (kept.rows count ∙ row_here) ∙ sym entered_new;
                room = omega (arith, kept.same_long, same_long, new_room);
                past = kept.past ∙ same_past;
                same_long = kept.same_long ∙ same_long;
              };
              linked = record {
                some = omega (arith, p.same_long, l.some);
                within = omega (arith, l.within);
                chains = λ few. let one : suc count ≡ count + 1 = omega arith in
                    rw p.same_long (subst (λ (n : ℕ). Chains xs (chain_count heads size) (head_at now size after) after n) one
                    (p.chains (omega arith) (before_pushed (l.chains (omega arith)))));
              };
              same_long = p.same_long;
            }
          where
            kept : Kept (count + 1) put after
            kept = p.kept (count + 1) (omega arith) (omega (arith, l.within))

            before_pushed : Chains xs (chain_count heads size) (head_at heads size before) before count
                → Chains xs (chain_count heads size) (head_at heads size put) put count
            before_pushed c =
                chains_same c (λ j h. ap (stop_of xs) (row_before j h)) (λ j h. ap (λ (x : ℕ). x % 4294967296) (second_before j h))
                (heads_same heads size before put (λ r h. ap (λ (x : ℕ). x / 4294967296) (second_before r (omega (arith, l.within)))))

    -- a stop that stands there
    module _ (old : k ≡ count → ⊥) where
      pub old_inside : k < count
      old_inside = omega (arith, p.most)

      row_standing : ℕ
      row_standing = standing_of xs (row_at before k) row

      entered_old : entered xs row rows ≡ set rows k row_standing
      unfolding row_standing
      entered_old =
          entered_at xs row rows k (omega (arith, long, old_inside)) (here ∙ same_stop)
          (λ j less same. two_differ xs rows e.differ j k less (omega (arith, long, old_inside)) (same ∙ sym same_stop ∙ sym here))
          ∙ ap (λ (x : ℕ). set rows k (standing_of xs x row)) (held_at count k before old_inside)
        where
          here : stop_of xs (get_or rows k 0) ≡ stop
          here = stop_at_lem k old_inside ∙ p.found old_inside

      stop_standing : stop_of xs row_standing ≡ stop_at xs before k
      unfolding row_standing
      stop_standing =
          either_way (λ x. stop_of xs x ≡ stop_at xs before k) (leb (day_of xs (row_at before k)) (day_of xs row))
          (sym same_stop ∙ sym (p.found old_inside)) refl

      stop_after : (j : ℕ) → j < count → stop_at xs (set before (2 * k) row_standing) j ≡ stop_at xs before j
      stop_after j h =
          by_eqb (λ _. stop_at xs (set before (2 * k) row_standing) j ≡ stop_at xs before j) j k
          (λ same. rw same (ap (stop_of xs) (get_or-set_same before (2 * k) row_standing 0 (omega (arith, e.holds.room, old_inside))) ∙ stop_standing))
          (λ other. ap (stop_of xs) (get_or-set_other before (2 * k) (2 * j) row_standing 0 (omega arith)))

      second_after : (j : ℕ) → second_at_of (set before (2 * k) row_standing) j ≡ second_at_of before j
      second_after j = get_or-set_other before (2 * k) (2 * j + 1) row_standing 0 (omega arith)

      pub enters_old : {heads : List ℕ} {size : ℕ} → Linked xs heads size before count
          → Enters xs row size count count before (set before (2 * k) (standing_of xs (row_at before k) row)) heads heads
      unfolding row_standing
      enters_old {heads} {size} l =
          record {
            noted = record {
              held = held_set count before k row_standing old_inside e.holds.room ∙ sym entered_old;
              room = omega (arith, length-set before (2 * k) row_standing, e.holds.room);
              past = drop-set-lt (2 * count) before (2 * k) row_standing (omega (arith, old_inside));
              same_long = length-set before (2 * k) row_standing;
            };
            linked = record {
              some = l.some;
              within = l.within;
              chains = λ few. chains_same (l.chains few) stop_after (λ j _. ap (λ (x : ℕ). x % 4294967296) (second_after j))
                  (heads_same heads size before (set before (2 * k) row_standing) (λ r _. ap (λ (x : ℕ). x / 4294967296) (second_after r)));
            };
            same_long = refl;
          }
