-- Numbers put as bytes one after the other, and the answer of the call. Assumes nothing.
use Prim.Native.Nat.{ℕ, zero, suc, ◌+◌, ◌*◌, ◌/◌, ◌≤◌, ◌<◌}
use native.Mathlib.Nat.{zero-add}
use native.Mathlib.Numerals.{add-one}
use native.Mathlib.Omega.{arith}
use mathlib.Core.Path.{◌≡◌, refl, ap, ap₂, sym, ◌∙◌}
use mathlib.Core.Bool.{cond}
use mathlib.Core.List.{List, [], ◌∷◌, ◌++◌}
use lib.ListN.{length, take, drop, get_or, replicate, length-append, length-drop, drop_of_length-le}
use lib.Seq.{drop-cons, length-take-le}
use Rattle.word.specs.Word.{is_width}
use Rattle.word.proofs.Tests.{by_test, by_eqb}
use Rattle.octets.specs.Octets.{bytes_of}
use Rattle.std.specs.Prelude.{Result, Ok, Err}
use Rattle.lines.specs.declared.ReadError.{ReadError}
use Rattle.word.specs.Told.{tells, gives, refuses}
use Rattle.lines.specs.Program.{row_count, Refusal, refusal_of, program, Left, read_at, told_read, refusal_told, read_told}
use Rattle.lines.proofs.Accepted.{accepted}
use Rattle.typed.specs.Putting.{put_at}
use Rattle.typed.proofs.Putting.{put_nothing, put_put, put_long}
use Rattle.tourtext.specs.Translation.{filed, tour_read, file_by, file_of, printed_by, printed_of, refusal_line}
use Rattle.tour.specs.Put.{put_before}
use Rattle.tour.proofs.Putting.{put_none}

bytes_long : (n v : ℕ) → length (bytes_of n v) ≡ n
unfolding bytes_of
bytes_long zero v = refl
bytes_long (suc n) v = ap suc (bytes_long n (v / 256))

pub filed_long : (xs : List ℕ) → length (filed xs) ≡ 8 * length xs
unfolding filed
filed_long [] = refl
filed_long (x ∷ xs) = length-append (bytes_of 8 x) (filed xs) ∙ omega (arith, bytes_long 8 x, filed_long xs)

module _ (table goal : List ℕ) (lent : ℕ) where
  pub record Filing (i : ℕ) (tab : List ℕ) : Type 0 where
    pub inside : i ≤ length table
    pub room : 8 * length table ≤ lent
    pub long : length tab ≡ lent
    pub rest : put_at (8 * i) (filed (drop i table)) tab ≡ goal

  module _ {i : ℕ} {tab : List ℕ} (h : Filing i tab) where
    pub filing_all : length table ≤ i → tab ≡ goal
    unfolding filed
    filing_all l = sym (put_nothing (8 * i) tab) ∙ (rw (drop_of_length-le table l) at h.rest)

    module _ (l : i < length table) where
      abbrev one : List ℕ
      one = bytes_of 8 (get_or table i 0)

      abbrev later : List ℕ
      later = filed (drop (suc i) table)

      one_put : put_at (8 * i) one tab ≡ take (8 * i) tab ++ (one ++ drop (8 * i + 8) tab)
      unfolding put_at
      one_put = rw (bytes_long 8 (get_or table i 0))

      filed_here : filed (drop i table) ≡ one ++ later
      unfolding filed
      filed_here = ap filed (drop-cons table i 0 l)

      fits_in : 8 * i + length one + length later ≤ length tab
      fits_in = omega (arith, bytes_long 8 (get_or table i 0), filed_long (drop (suc i) table), length-drop (suc i) table, h.room, h.long)

      pub filing_more : {after : List ℕ} → after ≡ take (8 * i) tab ++ (one ++ drop (8 * i + 8) tab) → Filing (i + 1) after
      filing_more e =
          let is = e ∙ sym one_put in
          let next : 8 * (i + 1) ≡ 8 * i + length one = omega (arith, bytes_long 8 (get_or table i 0)) in
          record {
            inside = omega arith;
            room = h.room;
            long = ap length is ∙ put_long (8 * i) one later tab (omega (arith, fits_in)) ∙ h.long;
            rest =
                rw (is, next, add-one i) (put_put (8 * i) one later tab fits_in ∙ sym (ap (λ (v : List ℕ). put_at (8 * i) v tab) filed_here) ∙ h.rest);
          }

pub filing_none : (table tab : List ℕ) → 8 * length table ≤ length tab → Filing table (filed table ++ drop (8 * length table) tab) (length tab) 0 tab
unfolding put_at
filing_none table tab room =
    record {
      inside = omega arith;
      room = room;
      long = refl;
      rest = ap (λ (n : ℕ). filed table ++ drop n tab) (zero-add (length (filed table)) ∙ filed_long table);
    }

-- a text that is told by its row count has few rows
few : (b : ℕ) (text : List ℕ) (n : ℕ) → gives n ≡ read_told b text (replicate 8000 0) → n ≤ 800
unfolding read_told refusal_told
few b text n =
    by_test (λ x. gives n ≡ cond x (refusal_told its (row_count (program b text))) (refuses 31) → n ≤ 800) (is_width b)
    (λ _. by_eqb (λ x. gives n ≡ cond x (gives (row_count (program b text))) (tells its.number (its.line ∷ [])) → n ≤ 800) its.number 0
    (λ z e. let same : n ≡ row_count (program b text) = cc in rw same (accepted b 8000 text z).short)
    (λ some e. let none : its.number ≡ 0 = cc in absurd (some none)))
    (λ _ e. let never : ◌≡◌ {A = ℕ} 0 31 = cc in absurd (omega arith))
  where
    its : Refusal
    its = refusal_of b 8000 text

-- what the call answers tells the file and the line
module _ (b : ℕ) (text : List ℕ) {answer : Result ℕ ReadError} {table : List ℕ} (e : record { answer = answer; table = table } ≡ read_at b text (replicate 8000 0)) where
  pub file_is : file_by answer table ≡ file_of b text
  unfolding file_of tour_read
  file_is = ap (λ (l : Left). file_by l.answer l.table) e

  pub printed_is : printed_by answer ≡ printed_of b text
  unfolding printed_of tour_read
  printed_is = ap (λ (l : Left). printed_by l.answer) e

  -- by the answer
  module _ {n : ℕ} (is : answer ≡ Ok n) where
    pub rows_file : filed (take (10 * n) table) ≡ file_of b text
    unfolding file_by
    rows_file = sym (ap (λ (r : Result ℕ ReadError). file_by r table) is) ∙ file_is

    pub rows_printed : [] ≡ printed_of b text
    unfolding printed_by
    rows_printed = sym (ap printed_by is) ∙ printed_is

    pub rows_few : told_read answer ≡ read_told b text (replicate 8000 0) → n ≤ 800
    unfolding told_read
    rows_few m = few b text n (sym (ap told_read is) ∙ m)

  module _ {error : ReadError} (is : answer ≡ Err error) where
    pub error_file : [] ≡ file_of b text
    unfolding file_by
    error_file = sym (ap (λ (r : Result ℕ ReadError). file_by r table) is) ∙ file_is

    pub error_printed : refusal_line error ≡ printed_of b text
    unfolding printed_by
    error_printed = sym (ap printed_by is) ∙ printed_is

-- what is left of the buffers, by what is written and printed
pub record Translating (b : ℕ) (text tab printed tabAfter printedAfter : List ℕ) (bytes start : ℕ) : Type 0 where
  pub bytes_are : bytes ≡ length (file_of b text)
  pub starts : start + length (printed_of b text) ≡ 128
  pub tab_room : bytes ≤ length tabAfter
  pub tab_is : tabAfter ≡ file_of b text ++ drop (length (file_of b text)) tab
  pub printed_so : printedAfter ≡ put_before 128 (printed_of b text) printed

pub by_rows : (b : ℕ) (text tab printed table tabAfter : List ℕ) {n bytes start : ℕ} → bytes ≤ length tabAfter → n ≤ 800 → length table ≡ 8000
    → filed (take (10 * n) table) ≡ file_of b text → [] ≡ printed_of b text
    → bytes ≡ 80 * n → start ≡ 128 → tabAfter ≡ filed (take (10 * n) table) ++ drop (80 * n) tab → Translating b text tab printed tabAfter printed bytes start
by_rows b text tab printed table tabAfter {n} {bytes} {start} within few room f p size at is =
    let taken = length-take-le (10 * n) table (omega arith) in
    let long : length (filed (take (10 * n) table)) ≡ 80 * n = filed_long (take (10 * n) table) ∙ omega arith in
    record {
      bytes_are = size ∙ sym long ∙ ap length f;
      tab_room = within;
      starts = rw (← p) (omega arith);
      tab_is = is ∙ ap₂ (λ (v : List ℕ) (k : ℕ). v ++ drop k tab) f (sym long ∙ ap length f);
      printed_so = rw (← p) (sym (put_none 128 printed));
    }

pub by_fault : (b : ℕ) (text tab printed line printedAfter : List ℕ) {bytes start : ℕ} → [] ≡ file_of b text → line ≡ printed_of b text → bytes ≡ 0
    → start + length line ≡ 128
    → printedAfter ≡ put_before 128 line printed → Translating b text tab printed tab printedAfter bytes start
by_fault b text tab printed line printedAfter f p long at is =
    record {
      bytes_are = long ∙ ap length f;
      tab_room = omega arith;
      starts = rw (← p) at;
      tab_is = rw (← f) refl;
      printed_so = is ∙ ap (λ (v : List ℕ). put_before 128 v printed) p;
    }

-- a file of so many rows fits its buffer
pub rows_within : (rows : ℕ) (file tab after : List ℕ) → after ≡ file ++ drop (80 * rows) tab → rows ≤ 800 → length tab ≡ 64000 → length file ≡ 80 * rows
    → 8 * (10 * rows) ≤ length after
rows_within rows file tab after e few room long = omega (arith, ap length e, length-append file (drop (80 * rows) tab), length-drop (80 * rows) tab)
