-- Labels kept as numbers: the row beside a label's number is the row of the first line that declares it, and a label whose number is not
-- there is declared by a later line or by none. Assumes nothing.
use Prim.Native.Nat.{ℕ, suc, ◌+◌, ◌-◌, ◌≤◌, ◌<◌}
use native.Mathlib.Nat.{add-zero}
use native.Mathlib.Omega.{arith}
use mathlib.Core.Path.{◌≡◌, refl, ap, ap₂, sym, subst, ◌∙◌}
use mathlib.Core.Bool.{Bool, true, false, ◌||◌, cond}
use mathlib.Core.List.{List, [], ◌∷◌, ◌++◌, append_assoc, append-nil, map}
use mathlib.Core.Option.{Option, none, some}
use borrow.Author.Tests.{ltb-true, ltb-false, lt-ltb, eq-eqb, ne_eqb, not-true}
use lib.Dec.{eqb, ltb}
use lib.ListN.{length, take, drop, get_or, set, length-set, drop_of_length-le}
use lib.Seq.{slice, drop-cons, length-take-le, take-suc-set}
use Rattle.word.proofs.Tests.{by_test, by_eqb}
use Rattle.lines.specs.Words.{same, is_empty, all, any, is_label}
use Rattle.lines.specs.Grammar.{Line, Typed}
use Rattle.lines.specs.Reading.{cut, read_line}
use Rattle.lines.specs.Program.{size, row_of, kept_lines, declares}
use Rattle.lines.proofs.Lists.{true_false, same_eq, same_refl, all_first, all_others, and_both}
use Rattle.lines.proofs.Lines.{label_parts, parts, spacing, line_sound}
use Rattle.faults.specs.declared.Label.{Label}
use Rattle.faults.specs.declared.Noted.{Noted}
use Rattle.faults.specs.declared.Scan.{Scan}
use Rattle.faults.specs.Checking.{Scanned}
use Rattle.std.specs.Prelude.{Some, None}
use Rattle.faults.specs.Checking.{line_read, line_at, scanned_line, Placed, PlacedIn}
use Rattle.faults.specs.Places.{size_of, lines_in}
use Rattle.faults.specs.Names.{key_of, beside, known_row, has_row, capped, label_row, Known, noted, labels_of, Put, PutLine}
use Rattle.faults.proofs.Texting.{First, left_in, cut_none, on_line, kept_cons, size_line, size_none}
use Rattle.faults.proofs.Keys.{key_eqb}
use Rattle.faults.proofs.Using.{empty_word, filled_word}
use Rattle.lines.proofs.Parts.{part_slice}

-- the row beside a number, one place after the other
module _ (labels : List Label) (key : ℕ) where
  pub record Seeking (i : ℕ) : Type 0 where
    pub inside : i ≤ length labels
    pub rest : beside (drop i labels) key ≡ beside labels key

  pub seeking_none : Seeking 0
  seeking_none = record { inside = omega arith; rest = refl }

  module _ {i : ℕ} (h : Seeking i) where
    pub seeking_all : length labels ≤ i → 0 ≡ beside labels key
    unfolding beside
    seeking_all l = rw (drop_of_length-le labels l) at h.rest

    module _ (d : Label) (l : i < length labels) where
      seek_here : cond (eqb (get_or labels i d).key key) (get_or labels i d).row (beside (drop (suc i) labels) key) ≡ beside labels key
      unfolding beside
      seek_here = rw (drop-cons labels i d l) at h.rest

      pub seeking_found : (get_or labels i d).key ≡ key → (get_or labels i d).row ≡ beside labels key
      seeking_found e = rw (eq-eqb (get_or labels i d).key key e) at seek_here

      pub seeking_more : ((get_or labels i d).key ≡ key → ⊥) → Seeking (i + 1)
      seeking_more e =
          let one : i + 1 ≡ suc i = omega arith in
          record { inside = omega arith; rest = rw one (rw (ne_eqb (get_or labels i d).key key e) at seek_here) }

-- more labels after those where it is found
pub beside_append : (xs ys : List Label) (key : ℕ) → (beside xs key ≡ 0 → ⊥) → beside (xs ++ ys) key ≡ beside xs key
unfolding beside
beside_append [] ys key = λ h. absurd (h refl)
beside_append (x ∷ xs) ys key =
    by_test (λ t. (cond t x.row (beside xs key) ≡ 0 → ⊥) → cond t x.row (beside (xs ++ ys) key) ≡ cond t x.row (beside xs key)) (eqb x.key key)
    (λ _ h. refl) (λ _ h. beside_append xs ys key h)

-- and after those where it is not, where each has a row
pub beside_past : (xs ys : List Label) (key : ℕ) → all has_row xs ≡ true → beside xs key ≡ 0 → beside (xs ++ ys) key ≡ beside ys key
unfolding beside
beside_past [] ys key p = λ _. refl
beside_past (x ∷ xs) ys key p =
    by_test (λ t. cond t x.row (beside xs key) ≡ 0 → cond t x.row (beside (xs ++ ys) key) ≡ beside ys key) (eqb x.key key)
    (λ _ z. absurd (omega (arith, z, ltb-true 0 x.row (all_first has_row x xs p))))
    (λ _ z. beside_past xs ys key (all_others has_row x xs p) z)

all_front : (p : Label → Bool) (xs ys : List Label) → all p (xs ++ ys) ≡ true → all p xs ≡ true
unfolding all
all_front p [] ys e = refl
all_front p (x ∷ xs) ys e = and_both (all_first p x (xs ++ ys) e) (all_front p xs ys (all_others p x (xs ++ ys) e))

rows_positive : (r : ℕ) (ls : List Line) → all has_row (labels_of (suc r) ls) ≡ true
unfolding labels_of noted all
rows_positive r [] = refl
rows_positive r (l ∷ ls) =
    let sum : suc (r + size l) ≡ suc r + size l = omega arith in
    let later = subst (λ (n : ℕ). all has_row (labels_of n ls) ≡ true) sum (rows_positive (r + size l) ls) in
    by_test (λ t. all has_row (cond t [] (record { key = key_of l.label; row = suc r } ∷ []) ++ labels_of (suc r + size l) ls) ≡ true)
    (is_empty l.label) (λ _. later)
    (λ _. and_both (lt-ltb 0 (suc r) (omega arith)) later)

-- labels of lines
abbrev pub labelled : Line → Bool
labelled l = is_empty l.label || is_label l.label

not_empty : (w : List ℕ) → is_label w ≡ true → (v : List ℕ) → is_empty v ≡ true → same w v ≡ false
unfolding same
not_empty [] e v f = absurd (true_false refl (not-true true (label_parts [] e).filled))
not_empty (x ∷ w) e [] f = refl
not_empty (x ∷ w) e (y ∷ v) f = absurd (true_false f refl)

beside_lines : (r : ℕ) (ls : List Line) (w : List ℕ) → is_label w ≡ true → all labelled ls ≡ true → beside (labels_of r ls) (key_of w) ≡ row_of r ls w
unfolding beside labels_of row_of noted all
beside_lines r [] w is good = refl
beside_lines r (l ∷ ls) w is good =
    let later = beside_lines (r + size l) ls w is (all_others labelled l ls good) in
    by_test (λ t. is_empty l.label ≡ t → (t || is_label l.label) ≡ true
    → beside (cond t [] (record { key = key_of l.label; row = r } ∷ []) ++ labels_of (r + size l) ls) (key_of w) ≡ cond (same w l.label) r
    (row_of (r + size l) ls w))
    (is_empty l.label) (λ _ none_here _. rw (not_empty w is l.label none_here) later)
    (λ _ _ label. rw (key_eqb l.label w label is) (ap (cond (same w l.label) r) later)) refl (all_first labelled l ls good)

-- no line declares what is no label
row_none : (r : ℕ) (ls : List Line) (w : List ℕ) → is_empty w ≡ false → is_label w ≡ false → all labelled ls ≡ true → row_of r ls w ≡ 0
unfolding row_of all
row_none r [] w f n good = refl
row_none r (l ∷ ls) w f n good =
    by_test (λ t. same w l.label ≡ t → cond t r (row_of (r + size l) ls w) ≡ 0) (same w l.label)
    (λ _ is. absurd (other l.label (same_eq w l.label is) (all_first labelled l ls good)))
    (λ _ _. row_none (r + size l) ls w f n (all_others labelled l ls good)) refl
  where
    other : (v : List ℕ) → w ≡ v → (is_empty v || is_label v) ≡ true → ⊥
    other v e g = true_false (subst (λ (u : List ℕ). (is_empty u || is_label u) ≡ true) (sym e) g) (rw (f, n))

pub row_from : (r : ℕ) (ls : List Line) (w : List ℕ) → (row_of r ls w ≡ 0 → ⊥) → r ≤ row_of r ls w
unfolding row_of
row_from r [] w = λ h. absurd (h refl)
row_from r (l ∷ ls) w =
    by_test (λ t. (cond t r (row_of (r + size l) ls w) ≡ 0 → ⊥) → r ≤ cond t r (row_of (r + size l) ls w)) (same w l.label)
    (λ _ _. omega arith) (λ _ h. let later = row_from (r + size l) ls w h in omega arith)

-- the labels of a line and of those after it
labels_cons : (r : ℕ) (o : Option Typed) (ts : List (Option Typed))
    → labels_of r (kept_lines (o ∷ ts)) ≡ labels_of r (kept_lines (o ∷ [])) ++ labels_of (r + size_of (line_read o)) (kept_lines ts)
unfolding labels_of kept_lines size_of line_read
labels_cons r none ts = ap (λ (n : ℕ). labels_of n (kept_lines ts)) (sym (add-zero r))
labels_cons r (some t) ts = ap (λ (k : List Label). k ++ labels_of (r + size t.line) (kept_lines ts)) (sym (append-nil (noted t.line.label r)))

-- lines that are read have proper labels
read_labelled : (b : ℕ) (ss : List (List ℕ)) → all labelled (kept_lines (map (read_line b) ss)) ≡ true
unfolding all kept_lines
read_labelled b [] = refl
read_labelled b (s ∷ ss) = one (read_line b s) refl (read_labelled b ss)
  where
    one : (o : Option Typed) → read_line b s ≡ o → all labelled (kept_lines (map (read_line b) ss)) ≡ true
        → all labelled (kept_lines (o ∷ map (read_line b) ss)) ≡ true
    one none e later = later
    one (some t) e later = and_both (parts b t.line (spacing b t (line_sound b s t e).typed).line).labels later

-- the labels of a text, one line after the other
module _ (b : ℕ) (text : List ℕ) where
  pub record Collecting (labels : List Label) (room : ℕ) (r : List ℕ) (n before : ℕ) : Type 0 where
    pub few : before + length r ≤ length text
    pub sized : n ≤ before
    pub long : length labels ≡ room
    pub most : n ≤ room
    pub rest : labels_of 1 (lines_in b text) ≡ take n labels ++ labels_of (suc before) (left_in b r)

  pub collecting_none : (labels : List Label) {r : List ℕ} → r ≡ text → Collecting labels (length labels) r 0 0
  unfolding lines_in
  collecting_none labels same_text =
      record {
        few = let size = ap length same_text in omega arith;
        sized = omega arith;
        long = refl;
        most = omega arith;
        rest = ap (λ (s : List ℕ). labels_of 1 (left_in b s)) (sym same_text);
      }

  module _ {labels : List Label} {room n before : ℕ} {r : List ℕ} (h : Collecting labels room r n before) where
    taken : length (take n labels) ≡ n
    taken = length-take-le n labels (omega (arith, h.most, h.long))

    found_right : (w : List ℕ) → is_label w ≡ true → (beside (take n labels) (key_of w) ≡ 0 → ⊥) → beside (take n labels) (key_of w) ≡ label_row b text w
    unfolding lines_in
    found_right w is found =
        sym (beside_append (take n labels) (labels_of (suc before) (left_in b r)) (key_of w) found)
        ∙ ap (λ (k : List Label). beside k (key_of w)) (sym h.rest)
        ∙ beside_lines 1 (lines_in b text) w is (read_labelled b (cut text))

    positive : all has_row (take n labels) ≡ true
    positive =
        all_front has_row (take n labels) (labels_of (suc before) (left_in b r))
        (subst (λ (k : List Label). all has_row k ≡ true) h.rest (rows_positive 0 (lines_in b text)))

    -- a label that is not found is declared by the lines that are left
    left_row : (w : List ℕ) → is_empty w ≡ false → known_row (take n labels) w ≡ 0 → label_row b text w ≡ row_of (suc before) (left_in b r) w
    unfolding known_row lines_in
    left_row w f =
        by_test (λ t. is_label w ≡ t → cond t (beside (take n labels) (key_of w)) 0 ≡ 0
        → label_row b text w ≡ row_of (suc before) (left_in b r) w) (is_label w)
        (λ _ is z. sym (beside_lines 1 (lines_in b text) w is (read_labelled b (cut text)))
        ∙ ap (λ (k : List Label). beside k (key_of w)) h.rest
        ∙ beside_past (take n labels) (labels_of (suc before) (left_in b r)) (key_of w) positive z
        ∙ beside_lines (suc before) (left_in b r) w is (read_labelled b (cut r)))
        (λ _ is _. row_none 1 (lines_in b text) w f is (read_labelled b (cut text)) ∙ sym (row_none (suc before) (left_in b r) w f is (read_labelled b (cut r))))
        refl

    none_left : (w : List ℕ) → is_empty w ≡ false → known_row (take n labels) w ≡ 0 → (0 < length r → label_row b text w ≤ before) → label_row b text w ≡ 0
    unfolding row_of kept_lines
    none_left w f z small =
        by_test (λ t. ltb 0 (length r) ≡ t → label_row b text w ≡ 0) (ltb 0 (length r))
        (λ _ l. by_eqb (λ _. label_row b text w ≡ 0) (label_row b text w) 0 (λ e. e)
        (λ (some : label_row b text w ≡ 0 → ⊥). absurd (omega (
          arith,
          small (ltb-true 0 (length r) l),
          left_row w f z,
          row_from (suc before) (left_in b r) w (λ (e : row_of (suc before) (left_in b r) w ≡ 0). some (left_row w f z ∙ e)),
        ))))
        (λ _ l. let over = ltb-false 0 (length r) l in left_row w f z
        ∙ ap (λ (ls : List (List ℕ)). row_of (suc before) (kept_lines (map (read_line b) ls)) w) (cut_none r (omega arith))) refl

    pub collecting_known : (0 < length r → 800 ≤ n) → Known b text (take n labels)
    unfolding known_row
    collecting_known full =
        let sized = h.sized in
        record {
          right = λ w. by_test (λ t. is_label w ≡ t → (cond t (beside (take n labels) (key_of w)) 0 ≡ 0 → ⊥)
              → capped (cond t (beside (take n labels) (key_of w)) 0) ≡ capped (label_row b text w)) (is_label w)
              (λ _ is found. ap capped (found_right w is found)) (λ _ _ found. absurd (found refl)) refl;
          some = positive;
          near = λ w f z small. none_left w f z (λ l. omega (arith, full l));
          whole = λ few w f z. none_left w f z (λ l. absurd (omega (arith, full l, taken)));
        }

    module _ {x t : List ℕ} (first : First r x t) {after : List Label} {k : Noted} (p : PutLine b x n before labels after k) where
      kept_here : left_in b r ≡ kept_lines (read_line b x ∷ map (read_line b) (cut t))
      kept_here = ap (λ (ls : List (List ℕ)). kept_lines (map (read_line b) ls)) first.cuts

      pub collecting_fits : before + k.size + length t ≤ length text
      collecting_fits = omega (arith, p.size_few, first.long, h.few)

      next : suc before + size_of (line_read (read_line b x)) ≡ suc (before + k.size)
      next = omega (arith, p.size_of_lem)

      pub collecting_more : n < room → Collecting after room t k.count (before + k.size)
      collecting_more some_room =
          record {
            few = collecting_fits;
            sized = omega (arith, h.sized, p.sized);
            long = p.long ∙ h.long;
            most = omega (arith, p.few);
            rest =
                h.rest ∙ ap (λ (ls : List Line). take n labels ++ labels_of (suc before) ls) kept_here
                ∙ ap (λ (l : List Label). take n labels ++ l) (labels_cons (suc before) (read_line b x) (map (read_line b) (cut t)))
                ∙ sym (append_assoc (take n labels) (labels_of (suc before) (kept_lines (read_line b x ∷ [])))
                (labels_of (suc before + size_of (line_read (read_line b x))) (left_in b t)))
                ∙ ap₂ (λ (l : List Label) (m : ℕ). l ++ labels_of m (left_in b t)) (sym p.put) next;
          }

-- one label put by
module _ (n : ℕ) (w : List ℕ) (row : ℕ) (labels : List Label) where
  pub put_none : length w ≡ 0 → Put n w row labels labels n
  unfolding noted
  put_none e = record { put = rw (empty_word w e) (sym (append-nil (take n labels))); long = refl; few = omega arith }

  pub put_one : (length w ≡ 0 → ⊥) → (key : ℕ) → key ≡ key_of w → n < length labels
      → Put n w row labels (set labels n (record { key = key; row = row })) (n + 1)
  unfolding noted
  put_one e key is l =
      let one : n + 1 ≡ suc n = omega arith in
      record {
        put = rw (one, filled_word w e, is) (take-suc-set labels n (record { key = key_of w; row = row }) l);
        long = length-set labels n (record { key = key; row = row });
        few = omega arith;
      }

-- the label of a line that was scanned
module _ (b : ℕ) (s : List ℕ) where
  kept_good : {r : Scanned} {c : Scan} → r ≡ Some c → scanned_line s r ≡ line_read (read_line b s) → kept_lines (read_line b s ∷ []) ≡ line_at s c ∷ []
  unfolding scanned_line on_line kept_lines
  kept_good {r} {c} is e = kept_cons (read_line b s) [] ∙ ap (λ (o : Option Line). on_line o []) (sym e ∙ ap (scanned_line s) is)

  kept_bad : {r : Scanned} → r ≡ None → scanned_line s r ≡ line_read (read_line b s) → kept_lines (read_line b s ∷ []) ≡ []
  unfolding scanned_line on_line kept_lines
  kept_bad {r} is e = kept_cons (read_line b s) [] ∙ ap (λ (o : Option Line). on_line o []) (sym e ∙ ap (scanned_line s) is)

  -- its label is one that the line declares
  pub line_told_lem : {r : Scanned} {c : Scan} → r ≡ Some c → scanned_line s r ≡ line_read (read_line b s) → is_empty (slice c.from c.label s) ≡ false
      → (is_label (slice c.from c.label s) ≡ true) × (declares (kept_lines (read_line b s ∷ [])) (slice c.from c.label s) ≡ true)
  unfolding line_at declares any
  line_told_lem {r} {c} is e filled =
      let w = slice c.from c.label s in
      let good = all_first labelled (line_at s c) [] (subst (λ (ls : List Line). all labelled ls ≡ true) (kept_good is e) (read_labelled b (s ∷ []))) in
      (rw filled at good, subst (λ (ls : List Line). declares ls w ≡ true) (sym (kept_good is e)) (rw (same_refl w)))

  module _ (n before : ℕ) (labels : List Label) where
    pub put_bad : {r : Scanned} → r ≡ None → scanned_line s r ≡ line_read (read_line b s)
        → PutLine b s n before labels labels (record { count = n; size = 0 })
    unfolding labels_of
    put_bad is e =
        record {
          put = rw (kept_bad is e) (sym (append-nil (take n labels)));
          long = refl;
          few = omega arith;
          sized = omega arith;
          size_of_lem = size_none b s is e;
          size_few = omega arith;
        }

    pub put_good : {r : Scanned} {c : Scan} → r ≡ Some c → scanned_line s r ≡ line_read (read_line b s) → PlacedIn s r → {after : List Label} {count : ℕ}
        → Put n (take (c.label - c.from) (drop c.from s)) (before + 1) labels after count
        → PutLine b s n before labels after (record { count = count; size = 1 + c.tests + c.operations })
    unfolding labels_of line_at
    put_good {r} {c} is e placed {after} {count} p =
        let word = part_slice c.from c.label s in
        let one : before + 1 ≡ suc before = omega arith in
        let good : Placed s c = subst (λ (q : Scanned). PlacedIn s q) is placed in
        record {
          put =
              rw (kept_good is e) (p.put ∙ ap₂ (λ (v : List ℕ) (m : ℕ). take n labels ++ noted v m) word one
              ∙ ap (λ (k : List Label). take n labels ++ k) (sym (append-nil (noted (slice c.from c.label s) (suc before)))));
          long = p.long;
          few = p.few;
          sized = omega (arith, p.few);
          size_of_lem = size_line b s is e placed;
          size_few = omega (arith, good.less);
        }
