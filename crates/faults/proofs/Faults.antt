-- The fault of a line that was scanned. Assumes nothing.
use Prim.Native.Nat.{ℕ, ◌+◌}
use native.Mathlib.Omega.{arith}
use mathlib.Core.Path.{◌≡◌, refl, ap, ap₂, sym, subst, ◌∙◌}
use mathlib.Core.Bool.{Bool, true, not, ◌&&◌, ◌||◌, cond}
use mathlib.Core.List.{List, [], ◌∷◌, ◌++◌}
use mathlib.Core.Option.{Option, none, some}
use borrow.Author.Tests.{ne_eqb}
use lib.Seq.{slice}
use Rattle.std.specs.Prelude.{Ok, Err}
use Rattle.word.specs.Told.{tells}
use Rattle.word.proofs.Tests.{by_eqb}
use Rattle.lines.specs.declared.ReadError.{ReadError}
use Rattle.lines.specs.declared.ReadError.TheVariants.{NoWidth, BadLine, BadLabel, TooLong}
use Rattle.faults.specs.declared.Scan.{Scan}
use Rattle.faults.specs.Checking.{Scanned}
use Rattle.std.specs.Prelude.{Some, None}
use Rattle.lines.specs.Words.{is_empty, all, any}
use Rattle.lines.specs.Forms.{is_operation}
use Rattle.lines.specs.Grammar.{Line, Typed}
use Rattle.lines.specs.Reading.{read_line}
use Rattle.lines.specs.Program.{size, row_count, called_in, used, declares, bad_labels, too_long, fault_of}
use Rattle.lines.specs.Program.{Refusal, told_read, refusal_told}
use Rattle.faults.specs.Checking.{line_read, operations_at, line_at, scanned_line}
use Rattle.faults.specs.Places.{lines_in, missing, goes_to_of, size_of}
use Rattle.lines.proofs.Lists.{none_some, some_same}
use Rattle.lines.proofs.Lines.{line_sound, parts, spacing}
use Rattle.faults.proofs.Using.{any_append}

-- labels by their parts
pub labels_bad : (b : ℕ) (text s : List ℕ) (before : List Line) (c : Scan)
    → ((any (missing b text) (called_in b (operations_at s c)) || any (missing b text) (goes_to_of (slice c.goes c.ends s)))
    || (not (is_empty (slice c.from c.label s)) && declares before (slice c.from c.label s)))
    ≡ bad_labels b (lines_in b text) before (line_at s c)
unfolding bad_labels used missing goes_to_of line_at
labels_bad b text s before c =
    ap (λ (t : Bool). t || (not (is_empty (slice c.from c.label s)) && declares before (slice c.from c.label s)))
    (sym (any_append (missing b text) (called_in b (operations_at s c)) (goes_to_of (slice c.goes c.ends s))))

count_append : (ls : List Line) (l : Line) → row_count (ls ++ l ∷ []) ≡ row_count ls + size l
unfolding row_count
count_append [] l = omega arith
count_append (k ∷ ls) l = let later = count_append ls l in omega arith

module _ (b : ℕ) (s : List ℕ) where
  -- what is read has proper operations
  operations_of : (l : Line) (o : Option Typed) → read_line b s ≡ o → line_read o ≡ some l → all (is_operation b) l.operations ≡ true
  unfolding line_read
  operations_of l none e f = absurd (none_some f)
  operations_of l (some t) e f =
      subst (λ (m : Line). all (is_operation b) m.operations ≡ true) (some_same f)
      (parts b t.line (spacing b t (line_sound b s t e).typed).line).operations

  pub good_operations : {r : Scanned} {c : Scan} → r ≡ Some c → scanned_line s r ≡ line_read (read_line b s) → all (is_operation b) (operations_at s c) ≡ true
  unfolding scanned_line line_at
  good_operations {r} {c} is e = operations_of (line_at s c) (read_line b s) refl (sym e ∙ ap (scanned_line s) is)

  module _ (lent : ℕ) (all_of before : List Line) where
    fault_some : (l : Line) (o : Option Typed) → line_read o ≡ some l
        → fault_of b lent all_of before o ≡ cond (bad_labels b all_of before l) 24 (cond (too_long lent (row_count before + size l)) 25 0)
    unfolding fault_of line_read
    fault_some l none e = absurd (none_some e)
    fault_some l (some t) e =
        ap (λ (m : Line). cond (bad_labels b all_of before m) 24 (cond (too_long lent (row_count (before ++ m ∷ []))) 25 0)) (some_same e)
        ∙ ap (λ (n : ℕ). cond (bad_labels b all_of before l) 24 (cond (too_long lent n) 25 0)) (count_append before l)

    fault_none : (o : Option Typed) → line_read o ≡ none → 23 ≡ fault_of b lent all_of before o
    unfolding fault_of line_read
    fault_none none e = refl
    fault_none (some t) e = absurd (none_some (sym e))

    pub fault_bad : {r : Scanned} → r ≡ None → scanned_line s r ≡ line_read (read_line b s) → 23 ≡ fault_of b lent all_of before (read_line b s)
    unfolding scanned_line
    fault_bad is e = fault_none (read_line b s) (sym e ∙ ap (scanned_line s) is)

    pub fault_good : {r : Scanned} {c : Scan} → r ≡ Some c → scanned_line s r ≡ line_read (read_line b s) → (count rows : ℕ) → count ≡ row_count before
        → rows ≡ size_of (line_read (read_line b s))
        → fault_of b lent all_of before (read_line b s) ≡ cond (bad_labels b all_of before (line_at s c)) 24 (cond (too_long lent (count + rows)) 25 0)
    unfolding scanned_line size_of
    fault_good {r} {c} is e count rows f g =
        let line : line_read (read_line b s) ≡ some (line_at s c) = sym e ∙ ap (scanned_line s) is in
        fault_some (line_at s c) (read_line b s) line
        ∙ ap (λ (n : ℕ). cond (bad_labels b all_of before (line_at s c)) 24 (cond (too_long lent n) 25 0)) (sym (ap₂ ◌+◌ f (g ∙ ap size_of line)))

-- a fault told with its line, or rows told where there is none
module _ {n : ℕ} (line rows : ℕ) where
  pub told_bad_line : n ≡ 23 → told_read (Err (BadLine line)) ≡ refusal_told (record { number = n; line = line }) rows
  unfolding told_read refusal_told
  told_bad_line e = rw e

  pub told_bad_label : n ≡ 24 → told_read (Err (BadLabel line)) ≡ refusal_told (record { number = n; line = line }) rows
  unfolding told_read refusal_told
  told_bad_label e = rw e

  pub told_too_long : n ≡ 25 → told_read (Err (TooLong line)) ≡ refusal_told (record { number = n; line = line }) rows
  unfolding told_read refusal_told
  told_too_long e = rw e

pub told_rows : (r : Refusal) {k n : ℕ} → r.number ≡ 0 → k ≡ n → told_read (Ok k) ≡ refusal_told r n
unfolding told_read refusal_told
told_rows r e f = rw (e, f)

-- what is told of an error is a refusal, and of rows none
pub error_refused : (e : ReadError) (r : Refusal) (n : ℕ) → told_read (Err e) ≡ refusal_told r n → r.number ≡ 0 → ⊥
unfolding told_read refusal_told
error_refused e r n t z = some e (rw z at t)
  where
    some : (e : ReadError) → told_read (Err e) ≡ tells 0 (n ∷ []) → ⊥
    some NoWidth t = cc
    some (BadLine line) t = cc
    some (BadLabel line) t = cc
    some (TooLong line) t = cc

pub rows_accepted : (k n : ℕ) (r : Refusal) → told_read (Ok k) ≡ refusal_told r n → (r.number ≡ 0) × (k ≡ n)
unfolding told_read refusal_told
rows_accepted k n r =
    by_eqb (λ t. tells 0 (k ∷ []) ≡ cond t (tells 0 (n ∷ [])) (tells r.number (r.line ∷ [])) → (r.number ≡ 0) × (k ≡ n)) r.number 0
    (λ z t. (z, cc)) (λ some t. let none : 0 ≡ r.number = cc in absurd (some (sym none)))

-- the refusal alone decides what is told of an error
pub error_stays : (e : ReadError) (r q : Refusal) (n m : ℕ) → told_read (Err e) ≡ refusal_told r n → ((r.number ≡ 0 → ⊥) → r ≡ q)
    → told_read (Err e) ≡ refusal_told q m
unfolding refusal_told
error_stays e r q n m t same_refusal =
    let bad : r.number ≡ 0 → ⊥ = error_refused e r n t in
    let other : refusal_told r n ≡ refusal_told r m = rw (ne_eqb r.number 0 bad) in
    t ∙ other ∙ ap (λ (p : Refusal). refusal_told p m) (same_refusal bad)
