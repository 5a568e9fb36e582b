-- The rows that an output holds at its first places, and after a store there. Assumes nothing.
use Prim.Native.Nat.{ℕ, zero, suc, ◌+◌, ◌*◌, ◌<◌, ◌≤◌}
use native.Mathlib.Omega.{arith}
use mathlib.Core.List.{List, [], ◌∷◌, ◌++◌}
use mathlib.Core.Path.{◌≡◌, refl, sym, ap, ◌∙◌}
use lib.ListN.{length, drop, get_or, set, length-append, length-set, get_or-append}
use lib.Seq.{get_or-drop, get_or_at, get_or-set_same, get_or-set_other, ext_get_or}
use Rattle.word.proofs.Tests.{by_eqb}
use Rattle.recordings.specs.Walking.{row_at, held_rows}

pub length_held : (count : ℕ) (output : List ℕ) → length (held_rows count output) ≡ count
unfolding held_rows
length_held zero output = refl
length_held (suc count) output = ap suc (length_held count (drop 2 output))

pub held_at : (count k : ℕ) (output : List ℕ) → k < count → get_or (held_rows count output) k 0 ≡ row_at output k
unfolding held_rows
held_at zero k output h = absurd (omega arith)
held_at (suc count) zero output h = refl
held_at (suc count) (suc k) output h =
    let place : 2 + 2 * k ≡ 2 * suc k = omega arith in
    held_at count k (drop 2 output) (omega arith) ∙ get_or-drop 2 output (2 * k) 0 ∙ ap (λ (n : ℕ). get_or output n 0) place

-- which these are, place by place
held_are : (rows : List ℕ) (count : ℕ) (output : List ℕ) → length rows ≡ count → ((k : ℕ) → k < count → row_at output k ≡ get_or rows k 0)
    → held_rows count output ≡ rows
held_are rows count output long each =
    ext_get_or 0 (held_rows count output) rows (length_held count output ∙ sym long)
    (λ k h. let few : k < count = omega (arith, length_held count output) in held_at count k output few ∙ each k few)

-- the same where the rows are
pub held_same : (count : ℕ) (before after : List ℕ) → ((k : ℕ) → k < count → row_at after k ≡ row_at before k)
    → held_rows count after ≡ held_rows count before
held_same count before after same =
    held_are (held_rows count before) count after (length_held count before) (λ k h. same k h ∙ sym (held_at count k before h))

module _ (count : ℕ) (output : List ℕ) where
  abbrev rows : List ℕ
  rows = held_rows count output

  long : length rows ≡ count
  long = length_held count output

  -- another row at a place
  pub held_set : (k row : ℕ) → k < count → 2 * count ≤ length output → held_rows count (set output (2 * k) row) ≡ set rows k row
  held_set k row few room =
      held_are (set rows k row) count (set output (2 * k) row) (length-set rows k row ∙ long) λ j less.
      by_eqb (λ _. row_at (set output (2 * k) row) j ≡ get_or (set rows k row) j 0) j k
      (λ e. rw e (get_or-set_same output (2 * k) row 0 (omega arith) ∙ sym (get_or-set_same rows k row 0 (omega (arith, long)))))
      (λ other. get_or-set_other output (2 * k) (2 * j) row 0 (omega arith) ∙ sym (held_at count j output less) ∙ sym (get_or-set_other rows k j row 0 other))

  -- one row more
  pub held_more : (row : ℕ) (after : List ℕ) → ((k : ℕ) → k < count → row_at after k ≡ row_at output k) → row_at after count ≡ row
      → held_rows (count + 1) after ≡ rows ++ (row ∷ [])
  held_more row after same here =
      held_are (rows ++ (row ∷ [])) (count + 1) after (length-append rows (row ∷ []) ∙ ap (λ (n : ℕ). n + 1) long) λ k h.
      by_eqb (λ _. row_at after k ≡ get_or (rows ++ (row ∷ [])) k 0) k count
      (λ e. rw e (here ∙ sym (get_or_at rows row [] 0 count long)))
      (λ other. let few : k < count = omega arith in
      same k few ∙ sym (held_at count k output few) ∙ sym (get_or-append rows (row ∷ []) 0 k (omega (arith, long))))
