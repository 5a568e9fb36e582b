-- The lines of a text by their places, and what is asked of each in turn. Assumes nothing.
use Prim.Native.Nat.{ℕ, zero, suc, ◌+◌, ◌-◌, ◌≤◌, ◌<◌, min}
use denote.Bor.{Bor}
use Rattle.std.specs.Fn.{Mut, ComputesKey}
use Rattle.std.specs.List.{IsFirstMatchOrLen}
use native.Mathlib.Nat.{zero-add}
use native.Mathlib.Omega.{arith}
use mathlib.Core.Path.{◌≡◌, refl, ap, ap₂, sym, subst, ◌∙◌}
use mathlib.Core.Bool.{Bool, true, false, ◌||◌, cond}
use mathlib.Core.List.{List, [], ◌∷◌, ◌++◌, map}
use mathlib.Core.Option.{Option, none, some}
use lib.Dec.{eqb}
use lib.ListN.{length, take, drop, length-append}
use lib.Seq.{slice}
use Rattle.word.proofs.Tests.{by_test, by_eqb}
use Rattle.faults.specs.Checking.{Scanned}
use Rattle.std.specs.Prelude.{Some, None}
use Rattle.faults.specs.declared.Scan.{Scan}
use Rattle.lines.specs.Words.{same, any}
use Rattle.lines.specs.Grammar.{Line, Typed}
use Rattle.lines.specs.Reading.{onto, cut, read_line}
use Rattle.lines.specs.Program.{size, declares, kept_lines, row_count}
use Rattle.faults.specs.Checking.{line_read, scanned_line, line_at, Placed, PlacedIn}
use Rattle.faults.specs.Places.{size_of, lines_in}
use Rattle.lines.proofs.Parts.{part_slice}

-- the length of the first line, its byte 10 with it
unfoldable line_length : List ℕ → ℕ
line_length [] = 0
line_length (x ∷ s) = cond (eqb x 10) 1 (suc (line_length s))

line_short : (s : List ℕ) → line_length s ≤ length s
unfolding line_length
line_short [] = omega arith
line_short (x ∷ s) = let later = line_short s in by_test (λ t. cond t 1 (suc (line_length s)) ≤ suc (length s)) (eqb x 10) (λ _. omega arith) (λ _. omega arith)

line_some : (x : ℕ) (s : List ℕ) → 1 ≤ line_length (x ∷ s)
unfolding line_length
line_some x s = by_test (λ t. 1 ≤ cond t 1 (suc (line_length s))) (eqb x 10) (λ _. omega arith) (λ _. omega arith)

-- the first line and the others
cut_step : (x : ℕ) (s : List ℕ) → cut (x ∷ s) ≡ take (line_length (x ∷ s)) (x ∷ s) ∷ cut (drop (line_length (x ∷ s)) (x ∷ s))
unfolding cut onto line_length
cut_step x [] = by_eqb (λ t. cond t ((10 ∷ []) ∷ []) ((x ∷ []) ∷ []) ≡ take (cond t 1 1) (x ∷ []) ∷ cut (drop (cond t 1 1) (x ∷ []))) x 10 (λ e. rw e)
    (λ _. refl)
cut_step x (y ∷ s) =
    by_eqb (λ t. cond t ((10 ∷ []) ∷ cut (y ∷ s)) (onto x (cut (y ∷ s)))
    ≡ take (cond t 1 (suc (line_length (y ∷ s)))) (x ∷ y ∷ s) ∷ cut (drop (cond t 1 (suc (line_length (y ∷ s)))) (x ∷ y ∷ s))) x 10
    (λ e. ap (λ (z : ℕ). (z ∷ []) ∷ cut (y ∷ s)) (sym e)) (λ _. ap (onto x) (cut_step y s))

pub cut_filled : (r : List ℕ) → (length r ≡ 0 → ⊥) → 0 < length (cut r)
cut_filled [] e = absurd (e refl)
cut_filled (x ∷ r) e = rw (cut_step x r) (omega arith)

-- a line at the front of what is left of a text, and what is left after it
pub record First (r x t : List ℕ) : Type 0 where
  pub some : 0 < length x
  pub long : length r ≡ length x + length t
  pub cuts : cut r ≡ x ∷ cut t

pub cut_none : (r : List ℕ) → length r ≡ 0 → cut r ≡ []
unfolding cut
cut_none [] e = refl
cut_none (x ∷ r) e = absurd (omega arith)

-- the first byte 10 ends the first line
line_matched : (r : List ℕ) (i : ℕ) → IsFirstMatchOrLen (λ (x : ℕ). eqb x 10) r i → line_length r ≡ min (i + 1) (length r)
unfolding line_length
line_matched [] i m = omega arith
line_matched (x ∷ r) zero m =
    let ends : eqb x 10 ≡ true = m.1 (omega arith) 0 in
    rw ends (omega arith)
line_matched (x ∷ r) (suc i) m =
    let goes : eqb x 10 ≡ false = m.0 0 0 (omega arith) (omega arith) in
    let later = line_matched r i (λ k d l h. m.0 (suc k) d (omega arith) (omega arith), λ l d. m.1 (omega arith) d) in
    rw goes (omega arith)

pub first_line : {F : Type 0} {g : Mut F (Bor ℕ × Unit {0}) Bool} {f f' : F} {r x t : List ℕ}
    → ((r ≡ x ++ t) × ((i : ℕ) × (length x ≡ min (i + 1) (length r))
    × ((p : ℕ → Bool) → ComputesKey g p f → ComputesKey g p f' × IsFirstMatchOrLen p r i)) × (0 < length r))
    → ComputesKey g (λ (y : ℕ). eqb y 10) f → First r x t
first_line {F} {g} {f} {f'} {r} {x} {t} steps computes =
    let (joined, (i, size, by_test), filled) = steps in
    let matched = line_matched r i (by_test (λ (y : ℕ). eqb y 10) computes).1 in
    let long : length r ≡ length x + length t = ap length joined ∙ length-append x t in
    let size_of : line_length r ≡ length x = matched ∙ sym size in
    record {
      some = omega arith;
      long = long;
      cuts = cut_here r filled ∙ ap₂ ◌∷◌ (ap₂ take size_of joined ∙ take_front x t) (ap cut (ap₂ drop size_of joined ∙ drop_front x t));
    }
  where
    cut_here : (r : List ℕ) → 0 < length r → cut r ≡ take (line_length r) r ∷ cut (drop (line_length r) r)
    cut_here [] h = absurd (omega arith)
    cut_here (x ∷ r) h = cut_step x r

    take_front : (x t : List ℕ) → take (length x) (x ++ t) ≡ x
    take_front [] t = refl
    take_front (a ∷ x) t = ap (λ (l : List ℕ). a ∷ l) (take_front x t)

    drop_front : (x t : List ℕ) → drop (length x) (x ++ t) ≡ t
    drop_front [] t = refl
    drop_front (a ∷ x) t = drop_front x t

-- the lines kept, by the line that each reads as
unfoldable pub on_line : Option Line → List Line → List Line
on_line none ls = ls
on_line (some l) ls = l ∷ ls

pub kept_cons : (o : Option Typed) (ts : List (Option Typed)) → kept_lines (o ∷ ts) ≡ on_line (line_read o) (kept_lines ts)
unfolding kept_lines on_line line_read
kept_cons none ts = refl
kept_cons (some t) ts = refl

pub kept_append : (xs ys : List (Option Typed)) → kept_lines (xs ++ ys) ≡ kept_lines xs ++ kept_lines ys
unfolding kept_lines
kept_append [] ys = refl
kept_append (none ∷ xs) ys = kept_append xs ys
kept_append (some t ∷ xs) ys = ap (λ (l : List Line). t.line ∷ l) (kept_append xs ys)

-- the label of a line
module _ (b : ℕ) (s w : List ℕ) where
  or_right : (t : Bool) → (t || false) ≡ t
  or_right true = refl
  or_right false = refl

  declares_line : (r : Scanned) (c : Scan) → r ≡ Some c → scanned_line s r ≡ line_read (read_line b s)
      → same w (slice c.from c.label s) ≡ declares (kept_lines (read_line b s ∷ [])) w
  unfolding scanned_line line_at declares any on_line kept_lines
  declares_line r c is e =
      let line : line_read (read_line b s) ≡ some (line_at s c) = sym e ∙ ap (scanned_line s) is in
      sym (ap (λ (ls : List Line). declares ls w) (kept_cons (read_line b s) [] ∙ ap (λ (o : Option Line). on_line o []) line)
      ∙ or_right (same w (slice c.from c.label s)))

  pub declares_part : {r : Scanned} {c : Scan} → r ≡ Some c → scanned_line s r ≡ line_read (read_line b s)
      → same w (take (c.label - c.from) (drop c.from s)) ≡ declares (kept_lines (read_line b s ∷ [])) w
  declares_part {r} {c} is e = ap (same w) (part_slice c.from c.label s) ∙ declares_line r c is e

  pub declares_none : (r : Scanned) → r ≡ None → scanned_line s r ≡ line_read (read_line b s) → false ≡ declares (kept_lines (read_line b s ∷ [])) w
  unfolding scanned_line declares any on_line kept_lines
  declares_none r is e =
      let line : line_read (read_line b s) ≡ none = sym e ∙ ap (scanned_line s) is in
      sym (ap (λ (ls : List Line). declares ls w) (kept_cons (read_line b s) [] ∙ ap (λ (o : Option Line). on_line o []) line))

-- whether the lines declare a label, one line after the other
pub declares_cons : (w : List ℕ) (o : Option Typed) (ts : List (Option Typed))
    → declares (kept_lines (o ∷ ts)) w ≡ (declares (kept_lines (o ∷ [])) w || declares (kept_lines ts) w)
unfolding declares kept_lines any
declares_cons w none ts = refl
declares_cons w (some t) ts = or_assoc (same w t.line.label) (any (λ (l : Line). same w l.label) (kept_lines ts))
  where
    or_assoc : (x y : Bool) → (x || y) ≡ ((x || false) || y)
    or_assoc true y = refl
    or_assoc false y = refl

-- the lines that are left
abbrev pub left_in : ℕ → List ℕ → List Line
left_in b r = kept_lines (map (read_line b) (cut r))

module _ (b : ℕ) (text w : List ℕ) where
  pub record Sought (r : List ℕ) : Type 0 where
    pub rest : declares (left_in b r) w ≡ declares (lines_in b text) w

  pub sought_none : {r : List ℕ} → r ≡ text → Sought r
  unfolding lines_in
  sought_none e = record { rest = ap (λ (s : List ℕ). declares (left_in b s) w) e }

  module _ {r : List ℕ} (h : Sought r) where
    pub sought_all : length r ≡ 0 → false ≡ declares (lines_in b text) w
    unfolding declares kept_lines any
    sought_all l = sym (ap (λ (ls : List (List ℕ)). declares (kept_lines (map (read_line b) ls)) w) (cut_none r l)) ∙ h.rest

    module _ {x t : List ℕ} (first : First r x t) where
      here : (declares (kept_lines (read_line b x ∷ [])) w || declares (left_in b t) w) ≡ declares (lines_in b text) w
      here =
          sym (declares_cons w (read_line b x) (map (read_line b) (cut t)))
          ∙ ap (λ (ls : List (List ℕ)). declares (kept_lines (map (read_line b) ls)) w) (sym first.cuts)
          ∙ h.rest

      pub sought_here : declares (kept_lines (read_line b x ∷ [])) w ≡ true → true ≡ declares (lines_in b text) w
      sought_here is = rw is at here

      pub sought_more : declares (kept_lines (read_line b x ∷ [])) w ≡ false → Sought t
      sought_more is = record { rest = rw is at here }

pub count_cons : (o : Option Typed) (ts : List (Option Typed)) → row_count (kept_lines (o ∷ ts)) ≡ size_of (line_read o) + row_count (kept_lines ts)
unfolding row_count kept_lines size_of line_read
count_cons none ts = sym (zero-add (row_count (kept_lines ts)))
count_cons (some t) ts = refl

-- the rows of a line that was scanned
module _ (b : ℕ) (s : List ℕ) where
  pub size_line : {r : Scanned} {c : Scan} → r ≡ Some c → scanned_line s r ≡ line_read (read_line b s) → PlacedIn s r
      → 1 + c.tests + c.operations ≡ size_of (line_read (read_line b s))
  unfolding scanned_line size_of size line_at
  size_line {r} {c} is e p =
      let line : line_read (read_line b s) ≡ some (line_at s c) = sym e ∙ ap (scanned_line s) is in
      let placed : Placed s c = subst (λ (q : Scanned). PlacedIn s q) is p in
      let tests = placed.counted.tests in
      let operations = placed.counted.operations in
      ap₂ (λ (n m : ℕ). 1 + n + m) (sym tests) (sym operations) ∙ sym (ap size_of line)

  pub size_none : {r : Scanned} → r ≡ None → scanned_line s r ≡ line_read (read_line b s) → 0 ≡ size_of (line_read (read_line b s))
  unfolding scanned_line size_of
  size_none {r} is e = sym (ap size_of (sym e ∙ ap (scanned_line s) is))
