-- A text that earns no 23, 24 or 25: its lines write it, the labels that they use are declared, it fits, and its table passes the table check.
-- A refused call writes nothing. Assumes nothing.
use Prim.Native.Nat.{ℕ, suc, ◌+◌, ◌*◌, ◌≤◌}
use native.Mathlib.Omega.{arith}
use mathlib.Core.Path.{◌≡◌, refl, ap, sym, ◌∙◌}
use mathlib.Core.Bool.{Bool, true, false, not, ◌&&◌, ◌||◌, cond}
use mathlib.Core.List.{List, [], ◌∷◌, ◌++◌, append_assoc, map}
use mathlib.Core.Option.{Option, none, some}
use borrow.Author.Tests.{not-true, not-false, leb-true, le-leb, ne_eqb}
use lib.Dec.{eqb, leb}
use lib.ListN.{length}
use Rattle.word.proofs.Tests.{by_test, by_eqb, and_true}
use Rattle.std.specs.Prelude.{Ok}
use Rattle.table.specs.Table.{checked}
use Rattle.lines.specs.Words.{is_empty, all, any}
use Rattle.lines.specs.Grammar.{Line, Typed, is_line, is_typed, written_text}
use Rattle.lines.specs.Reading.{onto, cut, lines_of, read_line, read_lines}
use Rattle.lines.specs.Program.{table_of, row_count, kept_lines, used, declares, bad_labels, too_long, fault_of, Refusal}
use Rattle.lines.specs.Program.{lowest_fault, refusal_of, program, reading}
use Rattle.lines.proofs.Lists.{true_false, and_both, all_first, all_others}
use Rattle.lines.proofs.Lines.{spacing}
use Rattle.lines.proofs.Texts.{ReadsText, text_sound, text_complete}
use Rattle.lines.proofs.Tables.{keeps_labels, table_passes, count_pos, size_pos}

-- no fault of 24
none_missing : (p : List ℕ → Bool) (ws : List (List ℕ)) → any (λ w. not (p w)) ws ≡ false → all p ws ≡ true
unfolding any all
none_missing p [] = λ e. refl
none_missing p (w ∷ ws) =
    by_test (λ t. (not t || any (λ v. not (p v)) ws) ≡ false → (t && all p ws) ≡ true) (p w)
    (λ _ e. none_missing p ws e) (λ _ e. absurd (true_false refl e))

or_none : (s t : Bool) → (s || t) ≡ false → s ≡ false
or_none true t e = e
or_none false t e = refl

or_neither : (s t : Bool) → (s || t) ≡ false → t ≡ false
or_neither true t e = absurd (true_false refl e)
or_neither false t e = e

not_zero : (n : ℕ) → suc n ≡ 0 → ⊥
not_zero n e = omega arith

-- each line's own label is declared on no earlier line
unfoldable pub once_each : List Line → List Line → Bool
once_each earlier [] = true
once_each earlier (l ∷ ls) = not (not (is_empty l.label) && declares earlier l.label) && once_each (earlier ++ l ∷ []) ls

-- a line without a fault
pub record Faultless (b lent : ℕ) (every earlier : List Line) (l : Line) : Type 0 where
  pub labels : all (declares every) (used b l) ≡ true
  pub once : not (not (is_empty l.label) && declares earlier l.label) ≡ true
  pub short : too_long lent (row_count (earlier ++ l ∷ [])) ≡ false

pub faultless : (b lent : ℕ) (every earlier : List Line) (t : Typed) → fault_of b lent every earlier (some t) ≡ 0 → Faultless b lent every earlier t.line
unfolding fault_of bad_labels
faultless b lent every earlier t =
    by_test (λ x. bad_labels b every earlier t.line ≡ x → cond {A = ℕ} x 24 (cond (too_long lent (row_count (earlier ++ t.line ∷ []))) 25 0) ≡ 0
    → Faultless b lent every earlier t.line)
    (bad_labels b every earlier t.line)
    (λ _ _ e. absurd (not_zero 23 e))
    (λ _ good. by_test (λ x. too_long lent (row_count (earlier ++ t.line ∷ [])) ≡ x → cond {A = ℕ} x 25 0 ≡ 0 → Faultless b lent every earlier t.line)
    (too_long lent (row_count (earlier ++ t.line ∷ [])))
    (λ _ _ e. absurd (not_zero 24 e))
    (λ _ fit _. record {
      labels = none_missing (declares every) (used b t.line) (or_none _ _ good);
      once = ap not (or_neither (any (λ w. not (declares every w)) (used b t.line)) _ good);
      short = fit;
    }) refl) refl

-- lines without a fault
record Clean (b lent : ℕ) (every earlier : List Line) (ts : List (Option Typed)) : Type 0 where
  lines : List Typed
  whole : ts ≡ map some lines
  labels : all (λ (l : Line). all (declares every) (used b l)) (kept_lines ts) ≡ true
  once : once_each earlier (kept_lines ts) ≡ true
  short : is_empty ts ≡ false → too_long lent (row_count (earlier ++ kept_lines ts)) ≡ false

clean_none : (b lent : ℕ) (every earlier : List Line) → Clean b lent every earlier []
unfolding all once_each kept_lines
clean_none b lent every earlier = record { lines = []; whole = refl; labels = refl; once = refl; short = λ e. absurd (true_false refl e) }

clean_more : (b lent : ℕ) (every earlier : List Line) (t : Typed) (ts : List (Option Typed)) → Faultless b lent every earlier t.line
    → Clean b lent every (earlier ++ kept_lines (some t ∷ [])) ts → Clean b lent every earlier (some t ∷ ts)
unfolding all once_each kept_lines
clean_more b lent every earlier t ts f c =
    record {
      lines = t ∷ c.lines;
      whole = ap (λ (l : List (Option Typed)). some t ∷ l) c.whole;
      labels = and_both f.labels c.labels;
      once = and_both f.once c.once;
      short = λ _. last ts f.short c.short;
    }
  where
    last : (us : List (Option Typed)) → too_long lent (row_count (earlier ++ t.line ∷ [])) ≡ false
        → (is_empty us ≡ false → too_long lent (row_count ((earlier ++ t.line ∷ []) ++ kept_lines us)) ≡ false)
        → too_long lent (row_count (earlier ++ t.line ∷ kept_lines us)) ≡ false
    last [] here later = here
    last (u ∷ us) here later = rw (append_assoc earlier (t.line ∷ []) (kept_lines (u ∷ us))) at (later refl)

broken : (b lent : ℕ) (every earlier : List Line) (line : ℕ) (later : Refusal)
    → (cond (eqb (fault_of b lent every earlier none) 0) later (record { number = fault_of b lent every earlier none; line = line })).number ≡ 0 → ⊥
unfolding fault_of
broken b lent every earlier line later e = omega arith

clean : (b lent : ℕ) (every earlier : List Line) (line : ℕ) (ts : List (Option Typed)) → (lowest_fault b lent every earlier line ts).number ≡ 0
    → Clean b lent every earlier ts
unfolding lowest_fault
clean b lent every earlier line [] = λ e. clean_none b lent every earlier
clean b lent every earlier line (none ∷ ts) = λ e. absurd
    (broken b lent every earlier line (lowest_fault b lent every (earlier ++ kept_lines (none ∷ [])) (suc line) ts) e)
clean b lent every earlier line (some t ∷ ts) =
    by_eqb (λ x. (cond x (lowest_fault b lent every (earlier ++ kept_lines (some t ∷ [])) (suc line) ts)
    (record { number = fault_of b lent every earlier (some t); line = line })).number ≡ 0 → Clean b lent every earlier (some t ∷ ts))
    (fault_of b lent every earlier (some t)) 0
    (λ none_here e. clean_more b lent every earlier t ts (faultless b lent every earlier t none_here)
    (clean b lent every (earlier ++ kept_lines (some t ∷ [])) (suc line) ts e))
    (λ fault e. absurd (fault e))

kept_some : (ts : List Typed) → kept_lines (map some ts) ≡ map (λ (t : Typed). t.line) ts
unfolding kept_lines
kept_some [] = refl
kept_some (t ∷ ts) = ap (λ (l : List Line). t.line ∷ l) (kept_some ts)

-- a text has a line
cut_some : (s : List ℕ) → is_empty s ≡ false → is_empty (cut s) ≡ false
unfolding cut onto
cut_some [] e = absurd (true_false refl e)
cut_some (x ∷ s) e = by_test (λ t. is_empty (cond t ((10 ∷ []) ∷ cut s) (onto x (cut s))) ≡ false) (eqb x 10) (λ _. refl) (λ _. onto_some (cut s))
  where
    onto_some : (ws : List (List ℕ)) → is_empty (onto x ws) ≡ false
    onto_some [] = refl
    onto_some (w ∷ ws) = refl

some_lines : (b : ℕ) (s : List ℕ) → is_empty (read_lines b s) ≡ false
unfolding read_lines lines_of
some_lines b [] = refl
some_lines b (x ∷ s) = map_some (cut (x ∷ s)) (cut_some (x ∷ s) refl)
  where
    map_some : (ls : List (List ℕ)) → is_empty ls ≡ false → is_empty (map (read_line b) ls) ≡ false
    map_some [] e = e
    map_some (l ∷ ls) e = refl

pub fits_both : (lent count : ℕ) → too_long lent count ≡ false → (count ≤ 800) × (10 * count ≤ lent)
unfolding too_long
fits_both lent count e =
    let (few, fit) = and_true (leb count 800) (leb (10 * count) lent) (not-false (leb count 800 && leb (10 * count) lent) e) in
    (leb-true count 800 few, leb-true (10 * count) lent fit)

lines_kept : (b : ℕ) (ts : List Typed) → all (is_typed b) ts ≡ true → all (is_line b) (map (λ (t : Typed). t.line) ts) ≡ true
unfolding all
lines_kept b [] e = refl
lines_kept b (t ∷ ts) e = and_both (spacing b t (all_first (is_typed b) t ts e)).line (lines_kept b ts (all_others (is_typed b) t ts e))

both_kept : (b : ℕ) (every : List Line) (ls : List Line) → all (is_line b) ls ≡ true → all (λ (l : Line). all (declares every) (used b l)) ls ≡ true
    → all (keeps_labels b every) ls ≡ true
unfolding all
both_kept b every [] e f = refl
both_kept b every (l ∷ ls) e f =
    and_both (and_both (all_first (is_line b) l ls e) (all_first (λ (m : Line). all (declares every) (used b m)) l ls f))
    (both_kept b every ls (all_others (is_line b) l ls e) (all_others (λ (m : Line). all (declares every) (used b m)) l ls f))

some_rows : (ts : List Typed) → is_empty (map some ts) ≡ false → 2 ≤ row_count (map (λ (t : Typed). t.line) ts)
unfolding row_count
some_rows [] e = absurd (true_false refl e)
some_rows (t ∷ ts) e = omega (arith, size_pos t.line, count_pos (map (λ (u : Typed). u.line) ts))

-- what an accepted text has
pub record Accepted (b lent : ℕ) (text : List ℕ) : Type 0 where
  pub lines : List Typed
  pub whole : read_lines b text ≡ map some lines
  pub reads : ReadsText b text lines
  pub has_lines : program b text ≡ map (λ (t : Typed). t.line) lines
  pub labels : all (keeps_labels b (program b text)) (program b text) ≡ true
  pub once : once_each [] (program b text) ≡ true
  pub more : 2 ≤ row_count (program b text)
  pub short : row_count (program b text) ≤ 800
  pub fits_in : 10 * row_count (program b text) ≤ lent

pub accepted : (b lent : ℕ) (text : List ℕ) → (refusal_of b lent text).number ≡ 0 → Accepted b lent text
unfolding refusal_of program
accepted b lent text e =
    let c = clean b lent (kept_lines (read_lines b text)) [] 1 (read_lines b text) e in
    let is = text_sound b text c.lines c.whole in
    let its = ap kept_lines c.whole ∙ kept_some c.lines in
    let (few, fit) = fits_both lent (row_count (kept_lines (read_lines b text))) (c.short (some_lines b text)) in
    record {
      lines = c.lines;
      whole = c.whole;
      reads = is;
      has_lines = its;
      labels = both_kept b (kept_lines (read_lines b text)) (kept_lines (read_lines b text)) (rw its (lines_kept b c.lines is.typed)) c.labels;
      once = c.once;
      more = rw its (some_rows c.lines (sym (ap is_empty c.whole) ∙ some_lines b text));
      short = few;
      fits_in = fit;
    }

-- its table passes the table check
pub accepted_passes : (b lent : ℕ) (text : List ℕ) → 10 ≤ b → (refusal_of b lent text).number ≡ 0 → checked b (table_of b (program b text)) ≡ Ok 0
accepted_passes b lent text wide e =
    let a = accepted b lent text e in
    table_passes b wide (program b text) a.short a.labels a.more

-- a refused call writes nothing
pub refused_nothing : (b : ℕ) (text lent : List ℕ) → ((refusal_of b (length lent) text).number ≡ 0 → ⊥) → (reading b text lent).table ≡ lent
unfolding reading
refused_nothing b text lent refused = rw (ne_eqb (refusal_of b (length lent) text).number 0 refused)

-- The other way round: lines that the grammar has, whose labels are declared once and that fit, write a text that is accepted.

missing_none : (p : List ℕ → Bool) (ws : List (List ℕ)) → all p ws ≡ true → any (λ w. not (p w)) ws ≡ false
unfolding any all
missing_none p [] e = refl
missing_none p (w ∷ ws) e = rw (all_first p w ws e) (missing_none p ws (all_others p w ws e))

count_append : (ls ms : List Line) → suc (row_count (ls ++ ms)) ≡ row_count ls + row_count ms
unfolding row_count
count_append [] ms = omega arith
count_append (l ∷ ls) ms = let later = count_append ls ms in omega arith

no_fault : (b lent : ℕ) (every earlier : List Line) (t : Typed) → all (declares every) (used b t.line) ≡ true
    → not (not (is_empty t.line.label) && declares earlier t.line.label) ≡ true
    → row_count (earlier ++ t.line ∷ []) ≤ 800 → 10 * row_count (earlier ++ t.line ∷ []) ≤ lent → fault_of b lent every earlier (some t) ≡ 0
unfolding fault_of bad_labels too_long
no_fault b lent every earlier t labels once few fit =
    rw (
      missing_none (declares every) (used b t.line) labels,
      not-true (not (is_empty t.line.label) && declares earlier t.line.label) once,
      le-leb (row_count (earlier ++ t.line ∷ [])) 800 few,
      le-leb (10 * row_count (earlier ++ t.line ∷ [])) lent fit,
    )

no_faults : (b lent : ℕ) (every earlier : List Line) (line : ℕ) (ts : List Typed)
    → all (λ (l : Line). all (declares every) (used b l)) (map (λ (t : Typed). t.line) ts) ≡ true
    → once_each earlier (map (λ (t : Typed). t.line) ts) ≡ true → row_count (earlier ++ map (λ (t : Typed). t.line) ts) ≤ 800
    → 10 * row_count (earlier ++ map (λ (t : Typed). t.line) ts) ≤ lent → (lowest_fault b lent every earlier line (map some ts)).number ≡ 0
unfolding lowest_fault once_each kept_lines
no_faults b lent every earlier line [] labels once few fit = refl
no_faults b lent every earlier line (t ∷ ts) labels once few fit =
    let (here, later) = and_true (not (not (is_empty t.line.label) && declares earlier t.line.label)) _ once in
    let rest = map (λ (u : Typed). u.line) ts in
    let whole = append_assoc earlier (t.line ∷ []) rest in
    let counted = count_append (earlier ++ t.line ∷ []) rest in
    let same_count = ap row_count whole in
    let more = count_pos rest in
    rw (no_fault b lent every earlier t (all_first (λ (l : Line). all (declares every) (used b l)) t.line rest labels) here (omega arith) (omega arith))
    (no_faults b lent every (earlier ++ t.line ∷ []) (suc line) ts (all_others (λ (l : Line). all (declares every) (used b l)) t.line rest labels) later
    (rw whole few) (rw whole fit))

-- a text is accepted when its lines keep the grammar, use declared labels, declare each once, and fit
pub accepts : (b lent : ℕ) (t : Typed) (ts : List Typed) → all (is_typed b) (t ∷ ts) ≡ true
    → all (λ (l : Line). all (declares (map (λ (u : Typed). u.line) (t ∷ ts))) (used b l)) (map (λ (u : Typed). u.line) (t ∷ ts)) ≡ true
    → once_each [] (map (λ (u : Typed). u.line) (t ∷ ts)) ≡ true → row_count (map (λ (u : Typed). u.line) (t ∷ ts)) ≤ 800
    → 10 * row_count (map (λ (u : Typed). u.line) (t ∷ ts)) ≤ lent → (refusal_of b lent (written_text (t ∷ ts))).number ≡ 0
unfolding refusal_of
accepts b lent t ts typed labels once few fit =
    rw (text_complete b t ts typed, kept_some (t ∷ ts)) (no_faults b lent (map (λ (u : Typed). u.line) (t ∷ ts)) [] 1 (t ∷ ts) labels once few fit)
