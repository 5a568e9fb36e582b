-- The standing rows for a reader: each is a row of the chain that no other row of its stop outdoes, and their stops stand in the order of first
-- occurrence. That each stop of the chain stands among them once is in `Stops`. Assumes nothing.
use Prim.Native.Nat.{ℕ, suc, ◌<◌, ◌≤◌}
use native.Mathlib.Omega.{arith}
use mathlib.Core.Bool.{true, false, ◌&&◌, cond}
use mathlib.Core.List.{List, [], ◌∷◌, ◌++◌, append_assoc, append-nil}
use mathlib.Core.Path.{◌≡◌, refl, sym, ap, ◌∙◌}
use borrow.Author.Tests.{eqb-true, leb-true, ne_eqb, eq-eqb, lt-ltb, le-ltb}
use lib.Dec.{eqb, ltb, leb-suc-suc}
use Rattle.word.proofs.Tests.{and_true, by_test, by_eqb, by_leb}
use Rattle.recordings.specs.Recordings.{stop_of, day_of, member, replaces, standing, standing_rows, chain, all_standing}
use Rattle.recordings.specs.Walking.{stops}
use Rattle.recordings.proofs.Counting.{Each, each_none, each_more, each_append, each_last, member_first, member_more}
use Rattle.recordings.proofs.Counting.{no_both}
use Rattle.recordings.proofs.Standing.{standing_stop}

-- a row stands among rows: of its stop none before it has a greater issue day, and none after it has as great a one
pub record Stands (xs rows : List ℕ) (row : ℕ) : Type 0 where
  pub before : List ℕ
  pub after : List ℕ
  pub there : rows ≡ before ++ row ∷ after
  pub earlier : (x : ℕ) → member x before ≡ true → stop_of xs x ≡ stop_of xs row → day_of xs x ≤ day_of xs row
  pub later : (x : ℕ) → member x after ≡ true → stop_of xs x ≡ stop_of xs row → day_of xs x < day_of xs row

module _ (xs all : List ℕ) where
  Earlier : ℕ → ℕ → Type 0
  Earlier row x = stop_of xs x ≡ stop_of xs row → day_of xs x ≤ day_of xs row

  Later : ℕ → ℕ → Type 0
  Later row x = stop_of xs x ≡ stop_of xs row → day_of xs x < day_of xs row

  -- a row that stands among those up to some place, and those that are left
  stands_on : (before : List ℕ) (row : ℕ) (after rows : List ℕ) → all ≡ before ++ row ∷ (after ++ rows) → Each (Earlier row) before
      → Each (Later row) after → Stands xs all (standing xs row rows)
  unfolding standing replaces Earlier Later
  stands_on before row after [] is earlier later =
      record { before = before; after = after; there = is ∙ ap (λ (l : List ℕ). before ++ row ∷ l) (append-nil after); earlier = earlier; later = later }
  stands_on before row after (next ∷ rows) is earlier later =
      by_test (λ t. Stands xs all (standing xs (cond t next row) rows)) (replaces xs next row)
      (λ yes. let both = and_true (eqb (stop_of xs next) (stop_of xs row)) _ yes in
      let same = eqb-true (stop_of xs next) (stop_of xs row) both.0 in
      let late = leb-true (day_of xs row) (day_of xs next) both.1 in
      stands_on (before ++ row ∷ after) next [] rows
      (is ∙ sym (append_assoc before (row ∷ after) (next ∷ rows)))
      (each_append before (row ∷ after) (λ x there e. let h = earlier x there (e ∙ same) in omega arith)
      (each_more row after (λ _. late) (λ x there e. let h = later x there (e ∙ same) in omega arith)))
      (each_none _))
      (λ not_so. stands_on before row (after ++ (next ∷ [])) rows
      (is ∙ ap (λ (l : List ℕ). before ++ row ∷ l) (sym (append_assoc after (next ∷ []) rows)))
      earlier
      (each_last after next (Later row) (λ e. by_leb (λ t. (eqb (stop_of xs next) (stop_of xs row) && t) ≡ false → day_of xs next < day_of xs row)
      (day_of xs row) (day_of xs next)
      (λ _ no_way. absurd (no_both (rw (eq-eqb (stop_of xs next) (stop_of xs row) e)) no_way)) (λ less _. less) not_so) later))

  -- each of the standing rows stands among all
  stands_each : (front seen rows : List ℕ) → all ≡ front ++ rows → Each (λ x. member (stop_of xs x) seen ≡ true) front
      → Each (Stands xs all) (standing_rows xs seen rows)
  unfolding standing_rows Earlier
  stands_each front seen [] is old = each_none _
  stands_each front seen (row ∷ rows) is old =
      let on : all ≡ (front ++ (row ∷ [])) ++ rows = is ∙ sym (append_assoc front (row ∷ []) rows) in
      by_test (λ t. Each (Stands xs all) (cond t (standing_rows xs seen rows) (standing xs row rows ∷ standing_rows xs (stop_of xs row ∷ seen) rows)))
      (member (stop_of xs row) seen)
      (λ yes. stands_each (front ++ (row ∷ [])) seen rows on (each_last front row _ yes old))
      (λ new. each_more _ _
      (stands_on front row [] rows is (λ x there e. absurd (no_both (old x there) (ap (λ (s : ℕ). member s seen) e ∙ new))) (each_none _))
      (stands_each (front ++ (row ∷ [])) (stop_of xs row ∷ seen) rows on
      (each_last front row _ (member_first (stop_of xs row) (stop_of xs row) seen refl)
      (λ x there. member_more (stop_of xs x) (stop_of xs row) seen (old x there)))))

pub standing_stands : (xs : List ℕ) (row : ℕ) → member row (all_standing xs) ≡ true → Stands xs (chain xs) row
unfolding all_standing
standing_stands xs = stands_each xs (chain xs) [] [] (chain xs) refl (each_none _)

-- the place at which a number first stands
unfoldable pub place_in : ℕ → List ℕ → ℕ
place_in x [] = 0
place_in x (y ∷ ys) = cond (eqb x y) 0 (suc (place_in x ys))

-- before lists in which two numbers stand in the same order, a number keeps that so
ahead : (x s t : ℕ) (l m : List ℕ) → ((s ≡ x → ⊥) → (t ≡ x → ⊥) → ltb (place_in s l) (place_in t l) ≡ ltb (place_in s m) (place_in t m))
    → ltb (place_in s (x ∷ l)) (place_in t (x ∷ l)) ≡ ltb (place_in s (x ∷ m)) (place_in t (x ∷ m))
unfolding place_in
ahead x s t l m same =
    by_eqb (λ a. ltb (cond a 0 (suc (place_in s l))) (place_in t (x ∷ l)) ≡ ltb (cond a 0 (suc (place_in s m))) (place_in t (x ∷ m))) s x
    (λ _. by_eqb (λ b. ltb 0 (cond b 0 (suc (place_in t l))) ≡ ltb 0 (cond b 0 (suc (place_in t m)))) t x
    (λ _. refl)
    (λ _. lt-ltb 0 (suc (place_in t l)) (omega arith) ∙ sym (lt-ltb 0 (suc (place_in t m)) (omega arith))))
    (λ other. by_eqb (λ b. ltb (suc (place_in s l)) (cond b 0 (suc (place_in t l))) ≡ ltb (suc (place_in s m)) (cond b 0 (suc (place_in t m)))) t x
    (λ _. le-ltb (suc (place_in s l)) 0 (omega arith) ∙ sym (le-ltb (suc (place_in s m)) 0 (omega arith)))
    (λ apart. leb-suc-suc (suc (place_in s l)) (place_in t l) ∙ same other apart ∙ sym (leb-suc-suc (suc (place_in s m)) (place_in t m))))

-- a number that is neither of two stands before them
behind : (x s t : ℕ) (l : List ℕ) → (s ≡ x → ⊥) → (t ≡ x → ⊥) → ltb (place_in s l) (place_in t l) ≡ ltb (place_in s (x ∷ l)) (place_in t (x ∷ l))
unfolding place_in
behind x s t l other apart = rw (ne_eqb s x other, ne_eqb t x apart) (sym (leb-suc-suc (suc (place_in s l)) (place_in t l)))

not_first : (x y : ℕ) (l : List ℕ) → (x ≡ y → ⊥) → member x l ≡ false → member x (y ∷ l) ≡ false
unfolding member
not_first x y l other out = rw (ne_eqb x y other) out

-- two stops that were not seen before stand in the order in which they first occur
in_order : (xs seen rows : List ℕ) (s t : ℕ) → member s seen ≡ false → member t seen ≡ false
    → ltb (place_in s (stops xs (standing_rows xs seen rows))) (place_in t (stops xs (standing_rows xs seen rows)))
    ≡ ltb (place_in s (stops xs rows)) (place_in t (stops xs rows))
unfolding standing_rows
in_order xs seen [] s t new-s new-t = refl
in_order xs seen (row ∷ rows) s t new-s new-t =
    by_test (λ b. ltb (place_in s (stops xs (cond b (standing_rows xs seen rows) (standing xs row rows ∷ standing_rows xs (stop_of xs row ∷ seen) rows))))
    (place_in t (stops xs (cond b (standing_rows xs seen rows) (standing xs row rows ∷ standing_rows xs (stop_of xs row ∷ seen) rows))))
    ≡ ltb (place_in s (stops xs (row ∷ rows))) (place_in t (stops xs (row ∷ rows))))
    (member (stop_of xs row) seen)
    (λ old. in_order xs seen rows s t new-s new-t ∙ behind (stop_of xs row) s t (stops xs rows)
    (λ e. no_both (ap (λ (x : ℕ). member x seen) e ∙ old) new-s) (λ e. no_both (ap (λ (x : ℕ). member x seen) e ∙ old) new-t))
    (λ new. rw (standing_stop xs row rows)
    (ahead (stop_of xs row) s t (stops xs (standing_rows xs (stop_of xs row ∷ seen) rows)) (stops xs rows)
    (λ other-s other-t. in_order xs (stop_of xs row ∷ seen) rows s t (not_first s (stop_of xs row) seen other-s new-s)
    (not_first t (stop_of xs row) seen other-t new-t))))

pub standing_order : (xs : List ℕ) (s t : ℕ)
    → ltb (place_in s (stops xs (all_standing xs))) (place_in t (stops xs (all_standing xs)))
    ≡ ltb (place_in s (stops xs (chain xs))) (place_in t (stops xs (chain xs)))
unfolding all_standing member
standing_order xs s t = in_order xs [] (chain xs) s t refl refl
