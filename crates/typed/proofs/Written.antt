-- The rows of a text, line after line, and the table that the call leaves. Assumes nothing.
use Prim.Native.Nat.{ℕ, suc, ◌+◌, ◌*◌, ◌≤◌}
use native.Mathlib.Nat.{zero-add}
use native.Mathlib.Omega.{arith}
use mathlib.Core.Path.{◌≡◌, refl, ap, ap₂, sym, subst, ◌∙◌}
use mathlib.Core.Bool.{Bool, true, false, cond}
use mathlib.Core.List.{List, [], ◌∷◌, ◌++◌, append_assoc, map}
use mathlib.Core.Option.{Option, some}
use lib.Dec.{eqb}
use lib.ListN.{length, drop, replicate, length-append, length-map}
use Rattle.word.proofs.Tests.{by_eqb}
use Rattle.table.specs.declared.Row.{Row}
use Rattle.lines.specs.Words.{is_empty}
use Rattle.lines.specs.Grammar.{Line, Typed}
use Rattle.lines.specs.Reading.{cut, read_line}
use Rattle.lines.specs.Program.{size, chained_rows, test_row, operation_row, line_row, rows_from, numbers_of, flat, table_of}
use Rattle.lines.specs.Program.{row_count, kept_lines}
use Rattle.lines.proofs.Tables.{rows_length, flat_length, chained_length, count_pos}
use Rattle.faults.specs.Checking.{line_read}
use Rattle.faults.specs.Places.{size_of, lines_in}
use Rattle.faults.specs.Names.{label_row}
use Rattle.faults.proofs.Texting.{First, left_in, cut_none, cut_filled}
use Rattle.typed.specs.Putting.{put_at, put_rows, line_rows, read_rows, zero_row, Roomy}
use Rattle.typed.proofs.Putting.{rows_none, rows_long, rows_rows}

lines_length : (b : ℕ) (at : List ℕ → ℕ) (r next : ℕ) (l : Line) → length (line_rows b at r next l) ≡ size l
unfolding line_rows size
lines_length b at r next l = simp (length-append, chained_length) (omega arith)

-- a line's rows before those of the lines after it
rows_cons : (b : ℕ) (at : List ℕ → ℕ) (r : ℕ) (l : Line) (ls : List Line)
    → rows_from b at r (l ∷ ls) ≡ line_rows b at r (cond (is_empty ls) 0 (r + size l)) l ++ rows_from b at (r + size l) ls
unfolding rows_from line_rows
rows_cons b at r l ls =
    ap (λ (rs : List Row). line_row b at r (cond (is_empty ls) 0 (r + size l)) l ∷ rs)
    (sym (append_assoc (chained_rows (test_row b at) (r + 1) l.tests) (chained_rows (operation_row b at) (r + 1 + length l.tests) l.operations)
    (rows_from b at (r + size l) ls)))

kept_all : (ts : List Typed) → is_empty (kept_lines (map some ts)) ≡ is_empty ts
unfolding kept_lines
kept_all [] = refl
kept_all (t ∷ ts) = refl

first_same : {A : Type 0} {x y : A} {xs ys : List A} → x ∷ xs ≡ y ∷ ys → x ≡ y
first_same e = cc

others_same : {A : Type 0} {x y : A} {xs ys : List A} → x ∷ xs ≡ y ∷ ys → xs ≡ ys
others_same e = cc

module _ (b : ℕ) (at : List ℕ → ℕ) (lent : ℕ) (goal : List ℕ) where
  pub record Writing (r : List ℕ) (row : ℕ) (table : List ℕ) : Type 0 where
    pub lines : List Typed
    pub good : map (read_line b) (cut r) ≡ map some lines
    pub room : 10 * (row + row_count (left_in b r)) ≤ lent + 10
    pub long : length table ≡ lent
    pub rest : put_rows row (rows_from b at row (left_in b r)) table ≡ goal

  module _ {r : List ℕ} {row : ℕ} {table : List ℕ} (h : Writing r row table) where
    pub writing_all : length r ≡ 0 → table ≡ goal
    unfolding rows_from kept_lines
    writing_all l =
        sym (rows_none row table)
        ∙ sym (ap (λ (ss : List (List ℕ)). put_rows row (rows_from b at row (kept_lines (map (read_line b) ss))) table) (cut_none r l)) ∙ h.rest

    module _ {x t : List ℕ} (front : First r x t) where
      abbrev its : Option Typed
      its = read_line b x

      read_here : map (read_line b) (cut r) ≡ its ∷ map (read_line b) (cut t)
      read_here = ap (map (read_line b)) front.cuts

      record Head : Type 0 where
        line : Typed
        others : List Typed
        is : its ≡ some line
        more : map (read_line b) (cut t) ≡ map some others

      head_line : (ts : List Typed) → its ∷ map (read_line b) (cut t) ≡ map some ts → Head
      head_line [] e = absurd (let long = ap length e in omega arith)
      head_line (u ∷ ts) e = record { line = u; others = ts; is = first_same e; more = others_same e }

      head : Head
      head = head_line h.lines (sym read_here ∙ h.good)

      abbrev its_line : Line
      its_line = head.line.line

      lines_here : left_in b r ≡ its_line ∷ left_in b t
      unfolding kept_lines
      lines_here = ap kept_lines read_here ∙ ap (λ (o : Option Typed). kept_lines (o ∷ map (read_line b) (cut t))) head.is

      read_line_lem : line_read its ≡ some its_line
      unfolding line_read
      read_line_lem = ap line_read head.is

      sizes : size_of (line_read its) ≡ size its_line
      unfolding size_of
      sizes = ap size_of read_line_lem

      counted : row_count (left_in b r) ≡ size its_line + row_count (left_in b t)
      unfolding row_count
      counted = ap row_count lines_here

      pub writing_room : 10 * (row + size_of (line_read its)) ≤ length table
      writing_room = let more = count_pos (left_in b t) in omega (arith, h.room, h.long, counted, sizes)

      -- the last line is the one that ends the text
      none_after : is_empty (left_in b t) ≡ eqb (length t) 0
      none_after =
          ap (λ (ts : List (Option Typed)). is_empty (kept_lines ts)) head.more ∙ kept_all head.others
          ∙ by_eqb (λ u. is_empty head.others ≡ u) (length t) 0 (λ e. at_end_lem head.others head.more e) (λ e. not_end t head.others head.more e)
        where
          at_end_lem : (ts : List Typed) → map (read_line b) (cut t) ≡ map some ts → length t ≡ 0 → is_empty ts ≡ true
          at_end_lem [] g e = refl
          at_end_lem (u ∷ ts) g e = absurd
              (let none_left = ap length (ap (map (read_line b)) (cut_none t e)) in let long = ap length g in omega arith)

          not_end : (s : List ℕ) (ts : List Typed) → map (read_line b) (cut s) ≡ map some ts → (length s ≡ 0 → ⊥) → is_empty ts ≡ false
          not_end s (u ∷ ts) g e = refl
          not_end s [] g e = absurd (let filled = cut_filled s e in omega (arith, simp length-map at (ap length g)))

      module _ {last : Bool} (is_last : last ≡ eqb (length t) 0) where
        rows_here : rows_from b at row (left_in b r) ≡ read_rows b at row last (line_read its) ++ rows_from b at (row + size_of (line_read its)) (left_in b t)
        unfolding read_rows
        rows_here =
            ap (rows_from b at row) lines_here ∙ rows_cons b at row its_line (left_in b t)
            ∙ ap₂ (λ (u : Bool) (n : ℕ). line_rows b at row (cond u 0 (row + size its_line)) its_line ++ rows_from b at (row + n) (left_in b t))
            (none_after ∙ sym is_last) (sym sizes)
            ∙ ap (λ (o : Option Line). read_rows b at row last o ++ rows_from b at (row + size_of (line_read its)) (left_in b t)) (sym read_line_lem)

        rows_many : length (read_rows b at row last (line_read its)) ≡ size_of (line_read its)
        unfolding read_rows
        rows_many = ap (λ (o : Option Line). length (read_rows b at row last o)) read_line_lem ∙ lines_length b at row (cond last 0 (row + size its_line)) its_line
            ∙ sym sizes

        next_line_lem : {next : ℕ} → next ≡ row + size_of (line_read its) → Writing t next (put_rows row (read_rows b at row last (line_read its)) table)
        next_line_lem {next} e =
            let later = rows_from b at (row + size_of (line_read its)) (left_in b t) in
            let many = rows_length b at (row + size_of (line_read its)) (left_in b t) in
            let long = rows_long row (read_rows b at row last (line_read its)) later table (omega (arith, rows_many, writing_room)) in
            record {
              lines = head.others;
              good = head.more;
              room = omega (arith, h.room, counted, sizes);
              long = long ∙ h.long;
              rest = ap (λ (n : ℕ). put_rows n (rows_from b at n (left_in b t)) (put_rows row (read_rows b at row last (line_read its)) table)) e
                  ∙ ap (λ (n : ℕ). put_rows (row + n) later (put_rows row (read_rows b at row last (line_read its)) table)) (sym rows_many)
                  ∙ rows_rows row (read_rows b at row last (line_read its)) later table (omega (arith, rows_many, h.room, h.long, counted, sizes))
                  ∙ sym (ap (λ (rs : List Row). put_rows row rs table) rows_here) ∙ h.rest;
            }

        pub writing_more : {next : ℕ} {after : List ℕ} → next ≡ row + size_of (line_read its) → after ≡ put_rows row (read_rows b at row last (line_read its)) table
            → Writing t next after
        writing_more e f = rw f (next_line_lem e)

pub writing_none : (b : ℕ) (at : List ℕ → ℕ) (text table : List ℕ) {r : List ℕ} → r ≡ text → Roomy b text table
    → Writing b at (length table) (put_rows 1 (rows_from b at 1 (lines_in b text)) table) r 1 table
unfolding lines_in
writing_none b at text table {r} same_text h =
    subst (λ (s : List ℕ). Writing b at (length table) (put_rows 1 (rows_from b at 1 (left_in b text)) table) s 1 table) (sym same_text)
    (record { lines = h.lines; good = h.good; room = omega (arith, h.room); long = refl; rest = refl })

-- the table: row 0, then the rows
whole_table : (rs : List Row) (table : List ℕ) (n : ℕ) → length (flat (zero_row ∷ rs)) ≡ n
    → put_rows 0 (zero_row ∷ rs) table ≡ (replicate 10 0 ++ flat rs) ++ drop n table
unfolding put_rows put_at flat numbers_of
whole_table rs table n is = ap (λ (k : ℕ). (replicate 10 0 ++ flat rs) ++ drop k table) (zero-add (length (flat (zero_row ∷ rs))) ∙ is)

module _ (b : ℕ) (text table : List ℕ) (h : Roomy b text table) where
  abbrev rows : List Row
  rows = rows_from b (label_row b text) 1 (lines_in b text)

  many : suc (length rows) ≡ row_count (lines_in b text)
  many = rows_length b (label_row b text) 1 (lines_in b text)

  pub zero_room : 10 ≤ length table
  zero_room = omega (arith, h.room, many)

  module _ {zeros : Row} {once : List ℕ} (is : zeros ≡ zero_row) (e : once ≡ put_rows 0 (zeros ∷ []) table) where
    once_is : once ≡ put_rows 0 (zero_row ∷ []) table
    once_is = e ∙ ap (λ (r : Row). put_rows 0 (r ∷ []) table) is

    once_long : length once ≡ length table
    once_long = ap length once_is ∙ rows_long 0 (zero_row ∷ []) [] table (omega (arith, zero_room))

    pub zero_ready : Roomy b text once
    zero_ready = record { lines = h.lines; good = h.good; room = omega (arith, h.room, once_long) }

    module _ {after : List ℕ} (f : after ≡ put_rows 1 rows once) where
      pub text_long : length after ≡ length table
      text_long = ap length f ∙ rows_long 1 rows [] once (omega (arith, h.room, many, once_long)) ∙ once_long

      pub table_put : after ≡ table_of b (lines_in b text) ++ drop (10 * row_count (lines_in b text)) table
      unfolding table_of
      table_put =
          f ∙ ap (put_rows 1 rows) once_is ∙ rows_rows 0 (zero_row ∷ []) rows table (omega (arith, h.room, many))
          ∙ whole_table rows table (10 * row_count (lines_in b text)) (flat_length (zero_row ∷ rows) ∙ ap (λ (n : ℕ). 10 * n) many)
