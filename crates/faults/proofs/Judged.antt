-- The refusal of a text, one line after the other. Assumes nothing.
use Prim.Native.Nat.{ℕ, suc, ◌+◌, ◌≤◌}
use Rattle.std.specs.Prelude.{Result, Ok, Err}
use Rattle.lines.specs.declared.ReadError.{ReadError}
use native.Mathlib.Omega.{arith}
use native.Mathlib.Numerals.{add-one}
use mathlib.Core.Path.{◌≡◌, refl, ap, sym, ◌∙◌}
use mathlib.Core.Bool.{cond}
use mathlib.Core.List.{List, [], ◌∷◌, ◌++◌, map, append-nil}
use mathlib.Core.Option.{Option, none, some}
use borrow.Author.Tests.{ne_eqb, eq-eqb}
use lib.Dec.{eqb}
use lib.ListN.{length, take, drop, take-append-drop}
use lib.Seq.{take-add, drop-drop}
use Rattle.lines.specs.Grammar.{Line, Typed}
use Rattle.lines.specs.Reading.{pieces_in, typed_of, read_line, cut, lines_of, read_lines}
use Rattle.lines.specs.Program.{row_count, kept_lines, fault_of, no_refusal, lowest_fault, refusal_of, program}
use Rattle.lines.specs.Program.{told_read, refusal_told}
use Rattle.faults.specs.Checking.{line_read}
use Rattle.faults.specs.Places.{size_of, lines_in, lines_before, line_judged}
use Rattle.faults.proofs.Faults.{error_stays, rows_accepted}
use Rattle.lines.proofs.Accepted.{faultless, fits_both}
use Rattle.faults.proofs.Texting.{First, cut_none, kept_append}

-- a line without a fault leaves at most 800 rows
few_rows : (b lent : ℕ) (every earlier : List Line) (o : Option Typed) → fault_of b lent every earlier o ≡ 0 → row_count (earlier ++ kept_lines (o ∷ [])) ≤ 800
unfolding fault_of kept_lines
few_rows b lent every earlier none e = absurd (omega arith)
few_rows b lent every earlier (some t) e = (fits_both lent (row_count (earlier ++ t.line ∷ [])) (faultless b lent every earlier t e).short).0

count_more : (earlier : List Line) (o : Option Typed) → row_count (earlier ++ kept_lines (o ∷ [])) ≡ row_count earlier + size_of (line_read o)
unfolding row_count kept_lines size_of line_read
count_more [] none = refl
count_more [] (some t) = omega arith
count_more (l ∷ earlier) o = let later = count_more earlier o in omega arith

-- an empty text is refused, and another has the lines of its cut
pub nothing_typed : (b lent : ℕ) (text : List ℕ) → length text ≡ 0 → record { number = 23; line = 1 } ≡ refusal_of b lent text
unfolding refusal_of lowest_fault read_lines lines_of read_line pieces_in typed_of fault_of
nothing_typed b lent [] e = refl
nothing_typed b lent (x ∷ text) e = absurd (omega arith)

module _ (b : ℕ) (text : List ℕ) (filled : length text ≡ 0 → ⊥) where
  pub lines_cut : read_lines b text ≡ map (read_line b) (cut text)
  unfolding read_lines lines_of
  lines_cut = cut_of text filled
    where
      cut_of : (s : List ℕ) → (length s ≡ 0 → ⊥) → map (read_line b) (lines_of s) ≡ map (read_line b) (cut s)
      cut_of [] e = absurd (e refl)
      cut_of (x ∷ s) e = refl

  pub program_lines : program b text ≡ lines_in b text
  unfolding program lines_in
  program_lines = ap kept_lines lines_cut

module _ (b lent : ℕ) (text : List ℕ) where
  abbrev whole : List (Option Typed)
  whole = map (read_line b) (cut text)

  abbrev read_in : List ℕ → List (Option Typed)
  read_in r = map (read_line b) (cut r)

  pub record Judging (r : List ℕ) (lines count : ℕ) : Type 0 where
    pub filled : length text ≡ 0 → ⊥
    pub few : lines + length r ≤ length text
    pub left : drop lines whole ≡ read_in r
    pub rest : lowest_fault b lent (lines_in b text) (lines_before b text lines) (suc lines) (read_in r) ≡ refusal_of b lent text
    pub counted : count ≡ row_count (lines_before b text lines)
    pub small : count ≤ 800

  pub judging_none : {r : List ℕ} → (length text ≡ 0 → ⊥) → r ≡ text → Judging r 0 1
  unfolding refusal_of lines_in lines_before kept_lines row_count
  judging_none e same_text =
      record {
        filled = e;
        few = let long = ap length same_text in omega arith;
        left = ap read_in (sym same_text);
        rest = ap (λ (s : List ℕ). lowest_fault b lent (kept_lines whole) [] 1 (read_in s)) same_text
            ∙ ap (λ (ts : List (Option Typed)). lowest_fault b lent (kept_lines ts) [] 1 ts) (sym (lines_cut b text e));
        counted = refl;
        small = omega arith;
      }

  module _ {r : List ℕ} {lines count : ℕ} (h : Judging r lines count) where
    pub judging_all : length r ≡ 0 → no_refusal ≡ refusal_of b lent text
    unfolding lowest_fault
    judging_all l =
        sym (ap (λ (ls : List (List ℕ)). lowest_fault b lent (lines_in b text) (lines_before b text lines) (suc lines) (map (read_line b) ls)) (cut_none r l))
        ∙ h.rest

    pub judging_count : length r ≡ 0 → count ≡ row_count (program b text)
    unfolding lines_before lines_in
    judging_count l =
        let none_left : drop lines whole ≡ [] = h.left ∙ ap (map (read_line b)) (cut_none r l) in
        let taken : take lines whole ≡ whole =
        sym (append-nil (take lines whole)) ∙ ap (λ (ts : List (Option Typed)). take lines whole ++ ts) (sym none_left) ∙ take-append-drop lines whole in
        h.counted ∙ ap (λ (ts : List (Option Typed)). row_count (kept_lines ts)) taken ∙ ap row_count (sym (program_lines b text h.filled))

    module _ {x t : List ℕ} (first : First r x t) where
      abbrev its : Option Typed
      its = read_line b x

      here : read_in r ≡ its ∷ read_in t
      here = ap (map (read_line b)) first.cuts

      before_more : lines_before b text (lines + 1) ≡ lines_before b text lines ++ kept_lines (its ∷ [])
      unfolding lines_before
      before_more =
          ap kept_lines (take-add lines 1 whole ∙ ap (λ (ts : List (Option Typed)). take lines whole ++ take 1 ts) (h.left ∙ here))
          ∙ kept_append (take lines whole) (its ∷ [])

      abbrev fault : ℕ
      fault = fault_of b lent (lines_in b text) (lines_before b text lines) its

      fault_here : cond (eqb fault 0) (lowest_fault b lent (lines_in b text) (lines_before b text lines ++ kept_lines (its ∷ [])) (suc (suc lines)) (read_in t))
          (record { number = fault; line = suc lines })
          ≡ refusal_of b lent text
      unfolding lowest_fault
      fault_here = sym (ap (lowest_fault b lent (lines_in b text) (lines_before b text lines) (suc lines)) here) ∙ h.rest

      stop : (fault ≡ 0 → ⊥) → record { number = fault; line = lines + 1 } ≡ refusal_of b lent text
      stop bad = ap (λ (n : ℕ). record { number = fault; line = n }) (add-one lines) ∙ (rw (ne_eqb fault 0 bad) at fault_here)

      -- by what is told of the line
      abbrev ToldHere : Result ℕ ReadError → Type 0
      ToldHere a = told_read a ≡ line_judged b lent (lines_in b text) (lines_before b text lines) (lines + 1) its

      pub judging_error : (e : ReadError) → ToldHere (Err e) → told_read (Err e) ≡ refusal_told (refusal_of b lent text) (row_count (program b text))
      judging_error e told = error_stays e _ _ _ _ told (λ bad. stop bad)

      pub judging_rows : (k : ℕ) → ToldHere (Ok k) → (fault ≡ 0) × (k ≡ size_of (line_read its))
      judging_rows k told = rows_accepted k _ _ told

      module _ (good : fault ≡ 0) where
        counts : row_count (lines_before b text (lines + 1)) ≡ count + size_of (line_read its)
        counts = ap row_count before_more ∙ count_more (lines_before b text lines) its ∙ ap (λ (n : ℕ). n + size_of (line_read its)) (sym h.counted)

        pub judging_small : count + size_of (line_read its) ≤ 800
        judging_small =
            let most = few_rows b lent (lines_in b text) (lines_before b text lines) its good in
            let same_count = ap row_count before_more in
            omega (arith, counts)

        pub judging_more : Judging t (lines + 1) (count + size_of (line_read its))
        judging_more =
            let few = h.few in
            let long = first.long in
            let some = first.some in
            record {
              filled = h.filled;
              few = omega arith;
              left = sym (drop-drop 1 lines whole) ∙ ap (drop 1) (h.left ∙ here);
              rest = rw (before_more, add-one lines) (rw (eq-eqb fault 0 good) at fault_here);
              counted = sym counts;
              small = judging_small;
            }
