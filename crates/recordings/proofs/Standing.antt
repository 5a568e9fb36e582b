-- The standing rows as they grow by one row of the chain after the other: a row is entered in its stop's place, or after the others.
-- Assumes nothing.
use Prim.Native.Nat.{ℕ, zero, suc, ◌<◌, ◌≤◌}
use native.Mathlib.Omega.{arith}
use mathlib.Core.Bool.{false, ◌&&◌, ◌||◌, cond}
use mathlib.Core.List.{List, [], ◌∷◌, ◌++◌}
use mathlib.Core.Path.{◌≡◌, refl, sym, ap, ◌∙◌}
use borrow.Author.Tests.{eq-eqb, ne_eqb}
use lib.Dec.{leb}
use lib.ListN.{length, get_or, set}
use Rattle.word.proofs.Tests.{by_test, by_eqb, either_way}
use Rattle.recordings.specs.Recordings.{stop_of, day_of, member, replaces, standing, standing_rows}
use Rattle.recordings.specs.Walking.{entered}
use Rattle.recordings.proofs.Counting.{Each, each_none, each_more, each_first, each_others}

module _ (xs : List ℕ) where
  -- a row that replaces another is of its stop
  replaced_stop : (later row : ℕ) → stop_of xs (cond (replaces xs later row) later row) ≡ stop_of xs row
  unfolding replaces
  replaced_stop later row =
      by_eqb (λ t. stop_of xs (cond (t && leb (day_of xs row) (day_of xs later)) later row) ≡ stop_of xs row) (stop_of xs later) (stop_of xs row)
      (λ e. either_way (λ r. stop_of xs r ≡ stop_of xs row) (leb (day_of xs row) (day_of xs later)) e refl)
      (λ _. refl)

  pub standing_stop : (row : ℕ) (rows : List ℕ) → stop_of xs (standing xs row rows) ≡ stop_of xs row
  unfolding standing
  standing_stop row [] = refl
  standing_stop row (later ∷ rows) = standing_stop (cond (replaces xs later row) later row) rows ∙ replaced_stop later row

  standing_last : (row : ℕ) (rows : List ℕ) (last : ℕ)
      → standing xs row (rows ++ (last ∷ [])) ≡ cond (replaces xs last (standing xs row rows)) last (standing xs row rows)
  unfolding standing
  standing_last row [] last = refl
  standing_last row (later ∷ rows) last = standing_last (cond (replaces xs later row) later row) rows last

  -- one row more beside a standing row whose stop was not seen before
  beside : (seen others : List ℕ) (last row : ℕ) → member (stop_of xs row) seen ≡ false
      → cond (replaces xs last row) last row ∷ cond (member (stop_of xs last) (stop_of xs row ∷ seen)) others (entered xs last others)
      ≡ cond (member (stop_of xs last) seen) (row ∷ others) (entered xs last (row ∷ others))
  unfolding replaces member entered
  beside seen others last row new =
      by_eqb (λ t. cond (t && leb (day_of xs row) (day_of xs last)) last row ∷ cond (t || member (stop_of xs last) seen) others (entered xs last others)
      ≡ cond (member (stop_of xs last) seen) (row ∷ others) (cond t (cond (leb (day_of xs row) (day_of xs last)) last row ∷ others)
      (row ∷ entered xs last others)))
      (stop_of xs last) (stop_of xs row)
      (λ e. rw (ap (λ (s : ℕ). member s seen) e ∙ new))
      (λ _. by_test (λ t. row ∷ cond t others (entered xs last others) ≡ cond t (row ∷ others) (row ∷ entered xs last others)) (member (stop_of xs last) seen)
      (λ _. refl) (λ _. refl))

  -- one row more, where its stop was not seen before
  grown : (seen rows : List ℕ) (last : ℕ) → standing_rows xs seen (rows ++ (last ∷ []))
      ≡ cond (member (stop_of xs last) seen) (standing_rows xs seen rows) (entered xs last (standing_rows xs seen rows))
  unfolding standing_rows entered standing
  grown seen [] last = refl
  grown seen (row ∷ rows) last =
      let others : List ℕ = standing_rows xs (stop_of xs row ∷ seen) rows in
      by_test (λ t. cond t (standing_rows xs seen (rows ++ (last ∷ [])))
      (standing xs row (rows ++ (last ∷ [])) ∷ standing_rows xs (stop_of xs row ∷ seen) (rows ++ (last ∷ [])))
      ≡ cond (member (stop_of xs last) seen) (cond t (standing_rows xs seen rows) (standing xs row rows ∷ others))
      (entered xs last (cond t (standing_rows xs seen rows) (standing xs row rows ∷ others))))
      (member (stop_of xs row) seen)
      (λ _. grown seen rows last)
      (λ new. rw (standing_last row rows last, grown (stop_of xs row ∷ seen) rows last, ← standing_stop row rows)
      (beside seen _ last (standing xs row rows) (ap (λ (s : ℕ). member s seen) (standing_stop row rows) ∙ new)))

  -- as a walk does it, from the first row on
  pub grown_by_one : (rows : List ℕ) (last : ℕ) → standing_rows xs [] (rows ++ (last ∷ [])) ≡ entered xs last (standing_rows xs [] rows)
  unfolding member
  grown_by_one rows last = grown [] rows last

  -- there are no fewer of more rows
  pub no_fewer : (seen rows more : List ℕ) → length (standing_rows xs seen rows) ≤ length (standing_rows xs seen (rows ++ more))
  unfolding standing_rows
  no_fewer seen [] more = omega arith
  no_fewer seen (row ∷ rows) more =
      by_test (λ t. length (cond t (standing_rows xs seen rows) (standing xs row rows ∷ standing_rows xs (stop_of xs row ∷ seen) rows))
      ≤ length (cond t (standing_rows xs seen (rows ++ more)) (standing xs row (rows ++ more) ∷ standing_rows xs (stop_of xs row ∷ seen) (rows ++ more))))
      (member (stop_of xs row) seen)
      (λ _. no_fewer seen rows more)
      (λ _. omega (arith, no_fewer (stop_of xs row ∷ seen) rows more))

  -- and no more than rows
  pub no_more : (seen rows : List ℕ) → length (standing_rows xs seen rows) ≤ length rows
  unfolding standing_rows
  no_more seen [] = omega arith
  no_more seen (row ∷ rows) =
      by_test (λ t. length (cond t (standing_rows xs seen rows) (standing xs row rows ∷ standing_rows xs (stop_of xs row ∷ seen) rows)) ≤ suc (length rows))
      (member (stop_of xs row) seen)
      (λ _. omega (arith, no_more seen rows))
      (λ _. omega (arith, no_more (stop_of xs row ∷ seen) rows))

  -- what holds of all rows holds of those that stand
  module _ (P : ℕ → Type 0) where
    pub standing_is : (row : ℕ) (rows : List ℕ) → P row → Each P rows → P (standing xs row rows)
    unfolding standing
    standing_is row [] here each = here
    standing_is row (later ∷ rows) here each =
        standing_is (cond (replaces xs later row) later row) rows
        (either_way P (replaces xs later row) (each_first later rows each) here) (each_others later rows each)

    pub standing_each : (seen rows : List ℕ) → Each P rows → Each P (standing_rows xs seen rows)
    unfolding standing_rows
    standing_each seen [] each = each_none P
    standing_each seen (row ∷ rows) each =
        either_way (Each P) (member (stop_of xs row) seen)
        (standing_each seen rows (each_others row rows each))
        (each_more _ _ (standing_is row rows (each_first row rows each) (each_others row rows each))
        (standing_each (stop_of xs row ∷ seen) rows (each_others row rows each)))

  -- a row is entered at a place before which its stop does not stand
  module _ (later : ℕ) where
    pub entered_last : (rows : List ℕ) → ((k : ℕ) → k < length rows → stop_of xs (get_or rows k 0) ≡ stop_of xs later → ⊥)
        → entered xs later rows ≡ rows ++ (later ∷ [])
    unfolding entered
    entered_last [] none = refl
    entered_last (row ∷ rows) none =
        rw (ne_eqb (stop_of xs later) (stop_of xs row) (λ e. none 0 (omega arith) (sym e)))
        (ap (λ (l : List ℕ). row ∷ l) (entered_last rows (λ k h. none (suc k) (omega arith))))

    pub entered_at : (rows : List ℕ) (place : ℕ) → place < length rows → stop_of xs (get_or rows place 0) ≡ stop_of xs later
        → ((k : ℕ) → k < place → stop_of xs (get_or rows k 0) ≡ stop_of xs later → ⊥)
        → entered xs later rows ≡ set rows place (cond (leb (day_of xs (get_or rows place 0)) (day_of xs later)) later (get_or rows place 0))
    unfolding entered
    entered_at [] place h is none = absurd (omega arith)
    entered_at (row ∷ rows) zero h is none = rw (eq-eqb (stop_of xs later) (stop_of xs row) (sym is))
    entered_at (row ∷ rows) (suc place) h is none =
        rw (ne_eqb (stop_of xs later) (stop_of xs row) (λ e. none 0 (omega arith) (sym e)))
        (ap (λ (l : List ℕ). row ∷ l) (entered_at rows place (omega arith) is (λ k h. none (suc k) (omega arith))))

    -- which makes at most one row more
    pub entered_most : (rows : List ℕ) → length (entered xs later rows) ≤ suc (length rows)
    unfolding entered
    entered_most [] = omega arith
    entered_most (row ∷ rows) =
        by_eqb (λ t. length (cond t (cond (leb (day_of xs row) (day_of xs later)) later row ∷ rows) (row ∷ entered xs later rows)) ≤ suc (suc (length rows)))
        (stop_of xs later) (stop_of xs row)
        (λ _. omega arith)
        (λ _. omega (arith, entered_most rows))
