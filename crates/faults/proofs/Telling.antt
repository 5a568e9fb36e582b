-- What a row that is known, or not, tells of declarations. Assumes nothing.
use Prim.Native.Nat.{ℕ, suc, ◌+◌, ◌≤◌, ◌<◌}
use native.Mathlib.Omega.{arith}
use mathlib.Core.Path.{◌≡◌, refl, ap, ap₂, sym, ◌∙◌}
use mathlib.Core.Bool.{true, false, not, ◌&&◌, ◌||◌, cond}
use mathlib.Core.List.{List, [], ◌∷◌, ◌++◌, append-nil, map}
use borrow.Author.Tests.{ltb-true, ltb-false, lt-ltb, le-ltb, not-true}
use lib.Dec.{leb, ltb}
use lib.ListN.{length, take, drop, get_or, set, length-append, length-set, take-append-drop}
use lib.Seq.{length-take-le, take-suc-set}
use Rattle.word.proofs.Tests.{by_test, by_eqb, by_leb}
use Rattle.lines.specs.Words.{same, is_empty, all, any, is_label}
use Rattle.lines.specs.Grammar.{Line}
use Rattle.lines.specs.Reading.{cut, read_line}
use Rattle.lines.specs.Program.{size, row_of, row_count, kept_lines, declares}
use Rattle.lines.proofs.Lists.{true_false, and_both, all_append}
use Rattle.lines.proofs.Lines.{label_parts}
use Rattle.lines.proofs.Tables.{size_pos, count_pos}
use Rattle.faults.specs.Places.{lines_in, lines_before, missing}
use Rattle.faults.specs.Names.{key_of, beside, known_row, known_before, capped, label_row, has_row, Known, Found}
use Rattle.faults.specs.declared.Label.{Label}
use Rattle.faults.proofs.Texting.{kept_append}
use Rattle.faults.proofs.Naming.{row_from, beside_append, beside_past}

row_declared : (r : ℕ) (ls : List Line) (w : List ℕ) → (row_of r ls w ≡ 0 → ⊥) → declares ls w ≡ true
unfolding row_of declares any
row_declared r [] w = λ h. absurd (h refl)
row_declared r (l ∷ ls) w =
    by_test (λ t. (cond t r (row_of (r + size l) ls w) ≡ 0 → ⊥) → (t || any (λ (m : Line). same w m.label) ls) ≡ true) (same w l.label)
    (λ _ _. refl) (λ _ h. row_declared (r + size l) ls w h)

-- the row of a label declared on one of the first lines, and of one that is not
row_before : (r : ℕ) (ls ms : List Line) (w : List ℕ) → (row_of r (ls ++ ms) w ≡ 0 → ⊥) → ltb (suc (row_of r (ls ++ ms) w)) (r + row_count ls) ≡ declares ls w
unfolding row_of row_count declares any
row_before r [] ms w = λ h. let from = row_from r ms w h in le-ltb (suc (row_of r ms w)) (r + 1) (omega arith)
row_before r (l ∷ ls) ms w =
    let pos = size_pos l in
    let more = count_pos ls in
    by_test (λ t. (cond t r (row_of (r + size l) (ls ++ ms) w) ≡ 0 → ⊥)
    → ltb (suc (cond t r (row_of (r + size l) (ls ++ ms) w))) (r + (size l + row_count ls)) ≡ (t || any (λ (m : Line). same w m.label) ls)) (same w
    l.label)
    (λ _ _. lt-ltb (suc r) (r + (size l + row_count ls)) (omega arith))
    (λ _ h. ap (ltb (suc (row_of (r + size l) (ls ++ ms) w))) (sum r (size l) (row_count ls)) ∙ row_before (r + size l) ls ms w h)
  where
    sum : (x y z : ℕ) → x + (y + z) ≡ x + y + z
    sum x y z = omega arith

known_filled : (labels : List Label) (w : List ℕ) → (known_row labels w ≡ 0 → ⊥) → is_empty w ≡ false
unfolding known_row is_label
known_filled labels [] some = absurd (some refl)
known_filled labels (x ∷ w) some = refl

-- a label that some of the first lines declare has a row
declared_row : (r : ℕ) (ls ms : List Line) (w : List ℕ) → declares ls w ≡ true → row_of (suc r) (ls ++ ms) w ≡ 0 → ⊥
unfolding row_of declares any
declared_row r [] ms w = λ e. absurd (true_false e refl)
declared_row r (l ∷ ls) ms w =
    let sum : suc r + size l ≡ suc (r + size l) = omega arith in
    by_test (λ t. (t || any (λ (m : Line). same w m.label) ls) ≡ true → cond t (suc r) (row_of (suc r + size l) (ls ++ ms) w) ≡ 0 → ⊥)
    (same w l.label) (λ _ _ z. omega (arith, z)) (λ _ e z. declared_row (r + size l) ls ms w e (ap (λ (n : ℕ). row_of n (ls ++ ms) w) (sym sum) ∙ z))

-- the rows of lines are below their number
row_below : (r : ℕ) (ls : List Line) (w : List ℕ) → row_of r ls w < r + row_count ls
unfolding row_of row_count
row_below r [] w = omega arith
row_below r (l ∷ ls) w =
    let pos = count_pos ls in
    let more = size_pos l in
    let later = row_below (r + size l) ls w in
    by_test (λ t. cond t r (row_of (r + size l) ls w) < r + (size l + row_count ls)) (same w l.label) (λ _. omega arith) (λ _. omega arith)

-- what is told of a row as far as 800
by_cap : {A : Type 0} (r : ℕ) → (r ≤ 800 → capped r ≡ r → A) → (800 < r → capped r ≡ 801 → A) → A
unfolding capped
by_cap {A} r near far = by_leb (λ t. leb r 800 ≡ t → A) r 800 (λ l e. near l (rw e)) (λ l e. far l (rw e)) refl

capped_some : (r q : ℕ) → (r ≡ 0 → ⊥) → capped r ≡ capped q → q ≡ 0 → ⊥
capped_some r q some e z =
    by_cap r (λ l f. by_cap q (λ m g. some (omega arith)) (λ m g. omega arith)) (λ l f. by_cap q (λ m g. omega arith) (λ m g. omega arith))

capped_less : (r q count : ℕ) → count ≤ 800 → capped r ≡ capped q → ltb r count ≡ ltb q count
capped_less r q count few e =
    by_cap r (λ l f. by_cap q (λ m g. let same : r ≡ q = omega arith in rw same) (λ m g. absurd (omega arith)))
    (λ l f. by_cap q (λ m g. absurd (omega arith)) (λ m g. le-ltb r count (omega arith) ∙ sym (le-ltb q count (omega arith))))

capped_far : (r : ℕ) → 800 < r → capped r ≡ 801
capped_far r l = by_cap r (λ m f. absurd (omega arith)) (λ m f. f)

capped_near : (r q : ℕ) → q ≤ 800 → capped r ≡ capped q → r ≡ q
capped_near r q near e =
    by_cap r (λ l f. by_cap q (λ m g. omega arith) (λ m g. absurd (omega arith)))
    (λ l f. by_cap q (λ m g. absurd (omega arith)) (λ m g. absurd (omega arith)))

module _ (b : ℕ) (text w : List ℕ) where
  pub known_there : (row : ℕ) → (row ≡ 0 → ⊥) → capped row ≡ capped (label_row b text w) → false ≡ missing b text w
  unfolding missing
  known_there row found is = rw (row_declared 1 (lines_in b text) w (capped_some row (label_row b text w) found is))

  declared_some : declares (lines_in b text) w ≡ true → label_row b text w ≡ 0 → ⊥
  declared_some is e = declared_row 0 (lines_in b text) [] w is (ap (λ (ls : List Line). row_of 1 ls w) (append-nil (lines_in b text)) ∙ e)

  pub known_nowhere : label_row b text w ≡ 0 → true ≡ missing b text w
  unfolding missing
  known_nowhere e =
      by_test (λ t. declares (lines_in b text) w ≡ t → true ≡ not t) (declares (lines_in b text) w) (λ _ is. absurd (declared_some is e)) (λ _ _. refl) refl

  module _ (lines count : ℕ) (counted : count ≡ row_count (lines_before b text lines)) where
    abbrev after : List Line
    after = kept_lines (drop lines (map (read_line b) (cut text)))

    row_is : label_row b text w ≡ row_of 1 (lines_before b text lines ++ after) w
    unfolding lines_in lines_before
    row_is =
        let every = map (read_line b) (cut text) in
        ap (λ (ls : List Line). row_of 1 ls w) (ap kept_lines (sym (take-append-drop lines every)) ∙ kept_append (take lines every) (drop lines every))

    row_tells : (label_row b text w ≡ 0 → ⊥) → ltb (label_row b text w) count ≡ declares (lines_before b text lines) w
    row_tells some =
        shifted (label_row b text w) count
        ∙ ap₂ (λ (n m : ℕ). ltb (suc n) (1 + m)) row_is counted
        ∙ row_before 1 (lines_before b text lines) after w (λ (e : row_of 1 (lines_before b text lines ++ after) w ≡ 0). some (row_is ∙ e))
      where
        shifted : (x y : ℕ) → ltb x y ≡ ltb (suc x) (1 + y)
        shifted x y =
            by_test (λ t. ltb x y ≡ t → t ≡ ltb (suc x) (1 + y)) (ltb x y)
            (λ _ is. sym (lt-ltb (suc x) (1 + y) (omega (arith, ltb-true x y is)))) (λ _ is. sym (le-ltb (suc x) (1 + y) (omega
            (arith, ltb-false x y is)))) refl

    none_before : count ≤ 800 → (label_row b text w ≤ 800 → label_row b text w ≡ 0) → declares (lines_before b text lines) w ≡ false
    none_before few far =
        by_test (λ t. declares (lines_before b text lines) w ≡ t → t ≡ false) (declares (lines_before b text lines) w)
        (λ _ is. absurd (there is (λ (e : label_row b text w ≡ 0). declared_row 0 (lines_before b text lines) after w is (sym row_is ∙ e)))) (λ _ _. refl) refl
      where
        there : declares (lines_before b text lines) w ≡ true → (label_row b text w ≡ 0 → ⊥) → ⊥
        there is some = some (far (let less = ltb-true (label_row b text w) count (row_tells some ∙ is) in omega arith))

    -- a label that lines before declare is one whose row is known and less
    pub again_is : {labels : List Label} → Known b text labels → count ≤ 800
        → known_before labels count w ≡ (not (is_empty w) && declares (lines_before b text lines) w)
    unfolding known_before
    again_is {labels} k few =
        by_eqb (λ t. (not t && ltb (known_row labels w) count) ≡ (not (is_empty w) && declares (lines_before b text lines) w)) (known_row labels w) 0
        (λ z. unknown z) (λ some. known some)
      where
        unknown : known_row labels w ≡ 0 → false ≡ (not (is_empty w) && declares (lines_before b text lines) w)
        unknown z =
            by_test (λ t. is_empty w ≡ t → false ≡ (not t && declares (lines_before b text lines) w)) (is_empty w) (λ _ _. refl)
            (λ _ f. sym (none_before few (k.near w f z))) refl

        known : (known_row labels w ≡ 0 → ⊥) → ltb (known_row labels w) count ≡ (not (is_empty w) && declares (lines_before b text lines) w)
        known some =
            rw (known_filled labels w some)
            (capped_less (known_row labels w) (label_row b text w) count few (k.right w some)
            ∙ row_tells (capped_some (known_row labels w) (label_row b text w) some (k.right w some)))

-- in a text without a refusal every row is found
pub ready_row : {b : ℕ} {text : List ℕ} {labels : List Label} → Known b text labels → row_count (lines_in b text) ≤ 800 → (w : List ℕ)
    → is_empty w ≡ false → known_row labels w ≡ label_row b text w
ready_row {b} {text} {labels} known few w f =
    let below = row_below 1 (lines_in b text) w in
    by_eqb (λ _. known_row labels w ≡ label_row b text w) (known_row labels w) 0 (λ z. z ∙ sym (known.near w f z (omega arith)))
    (λ some. capped_near (known_row labels w) (label_row b text w) (omega arith) (known.right w some))

-- one label more that lines declare, put after those that are known
module _ {b : ℕ} {text : List ℕ} {xs : List Label} (k : Known b text xs) (many : 800 ≤ length xs) (key : ℕ)
    (there : (w : List ℕ) → is_label w ≡ true → key ≡ key_of w → declares (lines_in b text) w ≡ true) where
  abbrev one : Label
  one = record { key = key; row = 801 }

  old : (w : List ℕ) → (known_row xs w ≡ 0 → ⊥) → known_row (xs ++ one ∷ []) w ≡ known_row xs w
  unfolding known_row
  old w =
      by_test (λ t. (cond t (beside xs (key_of w)) 0 ≡ 0 → ⊥) → cond t (beside (xs ++ one ∷ []) (key_of w)) 0 ≡ cond t (beside xs (key_of w)) 0) (is_label w)
      (λ _ some. beside_append xs (one ∷ []) (key_of w) some) (λ _ _. refl)

  still : (w : List ℕ) → known_row (xs ++ one ∷ []) w ≡ 0 → known_row xs w ≡ 0
  still w z = by_eqb (λ _. known_row xs w ≡ 0) (known_row xs w) 0 (λ e. e) (λ some. absurd (some (sym (old w some) ∙ z)))

  far : (w : List ℕ) → is_label w ≡ true → key ≡ key_of w → known_row xs w ≡ 0 → 800 < label_row b text w
  far w is e z =
      by_leb (λ _. 800 < label_row b text w) (label_row b text w) 800
      (λ l. absurd (declared_some b text w (there w is e) (k.near w (not-true (is_empty w) (label_parts w is).filled) z l))) (λ l. l)

  new : (w : List ℕ) → known_row xs w ≡ 0 → (known_row (xs ++ one ∷ []) w ≡ 0 → ⊥) → (800 < label_row b text w) × (known_row (xs ++ one ∷ []) w ≡ 801)
  unfolding known_row beside
  new w none =
      by_test (λ t. is_label w ≡ t → cond t (beside xs (key_of w)) 0 ≡ 0 → (cond t (beside (xs ++ one ∷ []) (key_of w)) 0 ≡ 0 → ⊥)
      → (800 < label_row b text w) × (cond t (beside (xs ++ one ∷ []) (key_of w)) 0 ≡ 801)) (is_label w)
      (λ _ is z some. by_eqb (λ t. beside (xs ++ one ∷ []) (key_of w) ≡ cond t 801 0
      → (800 < label_row b text w) × (beside (xs ++ one ∷ []) (key_of w) ≡ 801)) key (key_of w)
      (λ e f. (far w is e none, f)) (λ _ f. absurd (some f)) (beside_past xs (one ∷ []) (key_of w) k.some z))
      (λ _ _ _ some. absurd (some refl)) refl none

  pub known_more : Known b text (xs ++ one ∷ [])
  unfolding all
  known_more =
      let long = length-append xs (one ∷ []) in
      record {
        right = λ w some. by_eqb (λ _. capped (known_row (xs ++ one ∷ []) w) ≡ capped (label_row b text w)) (known_row xs w) 0
            (λ none. let (past, is) = new w none some in ap capped is ∙ capped_far 801 (omega arith) ∙ sym (capped_far (label_row b text w) past))
            (λ found. ap capped (old w found) ∙ k.right w found);
        some = all_append has_row xs (one ∷ []) k.some (and_both (lt-ltb 0 801 (omega arith)) refl);
        near = λ w f z small. k.near w f (still w z) small;
        whole = λ few w f z. absurd (omega arith);
      }

-- labels that are found, one after the other
module _ (n : ℕ) (labels₀ : List Label) (found : List ℕ) where
  pub record Appending (labels : List Label) (k i : ℕ) : Type 0 where
    pub many : 800 ≤ k
    pub most : k ≤ length labels
    pub inside : i ≤ length found
    pub long : length labels ≡ length labels₀
    pub known : (b : ℕ) (text : List ℕ) → Known b text (take n labels₀) → Found b text found → Known b text (take k labels)

  pub appending_none : 800 ≤ n → n ≤ length labels₀ → Appending labels₀ n 0
  appending_none many most = record { many = many; most = most; inside = omega arith; long = refl; known = λ b text k f. k }

  pub appending_more : {labels : List Label} {k i : ℕ} → Appending labels k i → k < length labels → i < length found
      → Appending (set labels k (record { key = get_or found i 0; row = 801 })) (k + 1) (i + 1)
  appending_more {labels} {k} {i} h room l =
      let key = get_or found i 0 in
      let its : Label = record { key = key; row = 801 } in
      let one : k + 1 ≡ suc k = omega arith in
      let is-set = length-set labels k its in
      let long = h.long in
      let many = h.many in
      let taken = length-take-le k labels (omega arith) in
      record {
        many = omega arith;
        most = omega arith;
        inside = omega arith;
        long = omega arith;
        known = λ b text known f. rw (one, take-suc-set labels k its (omega arith))
            (known_more (h.known b text known f) (omega arith) key (λ w is e. f w is i l e));
      }
