-- Labels that are sought together: those put first are declared by lines of the text. Assumes nothing.
use Prim.Native.Nat.{ℕ, suc, ◌+◌, ◌-◌, ◌≤◌, ◌<◌}
use native.Mathlib.Omega.{arith}
use mathlib.Core.Path.{◌≡◌, refl, ap, sym, subst, ◌∙◌}
use mathlib.Core.Bool.{Bool, true, false, not, ◌||◌}
use mathlib.Core.List.{List, [], ◌∷◌, ◌++◌, map}
use borrow.Author.Tests.{ltb-true, ltb-false, eqb-true}
use Rattle.std.specs.Prelude.{nat_eq}
use Rattle.std.specs.List.{IsAnyAnswer}
use lib.Dec.{ltb}
use lib.ListN.{length, take, drop, get_or, set, length-append, length-set, get_or-append}
use lib.Seq.{slice, get_or_at, take-set-le, take-suc-set}
use Rattle.word.proofs.Tests.{by_test}
use Rattle.lines.specs.Words.{is_empty, is_label}
use Rattle.lines.specs.Reading.{cut, read_line}
use Rattle.lines.specs.Program.{kept_lines, declares}
use Rattle.faults.specs.declared.Scan.{Scan}
use Rattle.faults.specs.Checking.{Scanned}
use Rattle.std.specs.Prelude.{Some}
use Rattle.faults.specs.Checking.{line_read, scanned_line}
use Rattle.faults.specs.Places.{lines_in, missing}
use Rattle.faults.specs.Names.{key_of, Found, Told, LineOf, Kept, Moved}
use Rattle.lines.proofs.Parts.{part_slice}
use Rattle.faults.proofs.Texting.{First, left_in, declares_cons}
use Rattle.faults.proofs.Keys.{key_same}
use Rattle.faults.proofs.Naming.{line_told_lem}

module _ (b : ℕ) (text : List ℕ) where
  -- one more
  found_more : (xs : List ℕ) → Found b text xs → (w : List ℕ) → is_label w ≡ true → declares (lines_in b text) w ≡ true → (key : ℕ) → key ≡ key_of w
      → Found b text (xs ++ key ∷ [])
  found_more xs f w is there key k = λ v label j l e.
      by_test (λ t. ltb j (length xs) ≡ t → declares (lines_in b text) v ≡ true) (ltb j (length xs))
      (λ _ less. f v label j (ltb-true j (length xs) less) (sym (get_or-append xs (key ∷ []) 0 j (ltb-true j (length xs) less)) ∙ e))
      (λ _ not-less. last v label j (omega (arith, ltb-false j (length xs) not-less, length-append xs (key ∷ []))) e) refl
    where
      last : (v : List ℕ) → is_label v ≡ true → (j : ℕ) → length xs ≡ j → get_or (xs ++ key ∷ []) j 0 ≡ key_of v → declares (lines_in b text) v ≡ true
      last v label j long e =
          subst (λ (u : List ℕ). declares (lines_in b text) u ≡ true) (key_same w v is label (sym k ∙ sym (get_or_at xs key [] 0 j long) ∙ e)) there

  pub found_settled : (w : List ℕ) → Told b text w → is_empty w ≡ false → (sought : List ℕ) (m i x key : ℕ) → m ≤ i → i < length sought → key ≡ key_of w
      → Kept b text m sought (m + 1) (set (set sought i x) m key)
  found_settled w told filled sought m i x key l h k = λ f.
      let one : m + 1 ≡ suc m = omega arith in
      let size = length-set sought i x in
      let put : take (suc m) (set (set sought i x) m key) ≡ take m sought ++ key ∷ [] =
      take-suc-set (set sought i x) m key (omega arith) ∙ ap (λ (ys : List ℕ). ys ++ key ∷ []) (take-set-le m sought i x l) in
      let (is, there) = told filled in
      subst (λ (ys : List ℕ). Found b text ys) (sym (ap (λ (n : ℕ). take n (set (set sought i x) m key)) one ∙ put)) (found_more
      (take m sought) f w is there key k)

  -- a label that is among them is not missing
  pub found_there : (found : List ℕ) → Found b text found → (w : List ℕ) → is_label w ≡ true → (j : ℕ) → j < length found → get_or found j 0 ≡ key_of w
      → false ≡ missing b text w
  unfolding missing
  found_there found f w is j l e = sym (ap not (f w is j l e))

  pub found_among : (found : List ℕ) (w : List ℕ) (key : ℕ) → IsAnyAnswer (λ y t. nat_eq y key ≡ t) found true → key ≡ key_of w → is_label w ≡ true
      → Found b text found → false ≡ missing b text w
  found_among found w key (j, l, at) k is f = found_there found f w is j l (eqb-true (get_or found j 0) key (at 0) ∙ k)

  -- a line's label
  pub line_tells : (s : List ℕ) → LineOf b text s → {r : Scanned} {c : Scan} → r ≡ Some c → scanned_line s r ≡ line_read (read_line b s)
      → Told b text (take (c.label - c.from) (drop c.from s))
  line_tells s part {r} {c} is e =
      subst (λ (w : List ℕ). Told b text w) (sym (part_slice c.from c.label s))
      (λ filled. let (label, there) = line_told_lem b s is e filled in (label, part (slice c.from c.label s) there))

  -- the lines of the text one after the other
  pub record Sifting (n long : ℕ) (r : List ℕ) (m : ℕ) (sought : List ℕ) : Type 0 where
    pub few : m ≤ n
    pub size : length sought ≡ long
    pub found : Found b text (take m sought)
    pub left : (w : List ℕ) → declares (left_in b r) w ≡ true → declares (lines_in b text) w ≡ true

  pub sifting_none : (n : ℕ) (sought : List ℕ) {r : List ℕ} → r ≡ text → Sifting n (length sought) r 0 sought
  unfolding lines_in
  sifting_none n sought same_text =
      record {
        few = omega arith;
        size = refl;
        found = λ w is j l e. absurd (omega arith);
        left = λ w e. ap (λ (s : List ℕ). declares (left_in b s) w) (sym same_text) ∙ e;
      }

  module _ {n long m : ℕ} {r sought : List ℕ} (h : Sifting n long r m sought) {x t : List ℕ} (first : First r x t) where
    here : (w : List ℕ) → (declares (kept_lines (read_line b x ∷ [])) w || declares (left_in b t) w) ≡ true → declares (lines_in b text) w ≡ true
    here w e = h.left w
        (ap (λ (ls : List (List ℕ)). declares (kept_lines (map (read_line b) ls)) w) first.cuts
        ∙ declares_cons w (read_line b x) (map (read_line b) (cut t)) ∙ e)

    line_of : LineOf b text x
    line_of w e = here w (ap (λ (u : Bool). u || declares (left_in b t) w) e)

    later : (w : List ℕ) → declares (left_in b t) w ≡ true → declares (lines_in b text) w ≡ true
    later w e = here w (ap (λ (u : Bool). declares (kept_lines (read_line b x ∷ [])) w || u) e ∙ or_true (declares (kept_lines (read_line b x ∷ [])) w))
      where
        or_true : (t : Bool) → (t || true) ≡ true
        or_true true = refl
        or_true false = refl

    pub sifting_more : {k : ℕ} {after : List ℕ} → m < n → Moved m sought k after
        → ((s : List ℕ) → LineOf b s x → Kept b s m sought k after) → Sifting n long t k after
    sifting_more less moved kept =
        record {
          few = omega (arith, moved.few);
          size = moved.long ∙ h.size;
          found = kept text line_of h.found;
          left = later;
        }
