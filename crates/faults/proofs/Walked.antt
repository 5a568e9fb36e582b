-- The loop over the tokens of a line: what is left, read from the walk so far, is the line. Assumes nothing.
use Prim.Native.Nat.{ℕ, ◌+◌, ◌-◌, ◌≤◌, ◌<◌}
use native.Mathlib.Nat.{add-zero}
use native.Mathlib.Numerals.{add-one}
use native.Mathlib.Omega.{arith}
use mathlib.Core.Path.{◌≡◌, refl, ap, sym, ◌∙◌}
use mathlib.Core.Bool.{Bool, true, false, ◌&&◌, cond}
use mathlib.Core.List.{List, [], ◌∷◌}
use mathlib.Core.Option.{none, some}
use borrow.Author.Tests.{eq-eqb, ne_eqb}
use lib.Dec.{eqb, eqb-suc-zero}
use lib.ListN.{length, drop, get_or, length-drop}
use lib.Seq.{slice, length-slice, get_or-drop}
use Rattle.word.proofs.Tests.{by_eqb, either_way, and_false}
use Rattle.faults.specs.declared.Scan.{Scan}
use Rattle.faults.specs.declared.Walk.{Walk}
use Rattle.faults.specs.declared.Walk.TheVariants.{Start, Broken, Mode, Tests, Then, Operations, End}
use Rattle.faults.specs.Checking.{Scanned}
use Rattle.std.specs.Prelude.{Some, None}
use Rattle.lines.specs.declared.Spot.{Spot}
use Rattle.lines.specs.declared.Spot.TheVariants.{Word, Paren}
use Rattle.lines.specs.Words.{same, is_empty}
use Rattle.lines.specs.Grammar.{Line, word, paren}
use Rattle.lines.specs.Reading.{front, behind, is_blank, split, token_at, read_line}
use Rattle.lines.specs.Walking.{token_of, Within, State, at_start, finished}
use Rattle.faults.specs.Checking.{so_far, proper, enough, only_if, line_from, in_column, line_read, parens_in, tests_at}
use Rattle.faults.specs.Checking.{operations_at, line_at, scanned_line, state_at}
use Rattle.faults.specs.Checking.{Placed, PlacedAt, PlacedIn, then_scan, go_scan, word_walk}
use Rattle.faults.specs.Checking.{paren_walk, spot_walk, place_after, Few}
use Rattle.faults.specs.Checking.{enough_at, column_at, end_scan, finish_walk}
use Rattle.lines.proofs.Lists.{same_eq}
use Rattle.lines.proofs.Literals.{and_right}
use Rattle.lines.proofs.Scanning.{drop_behind, end_inside}
use Rattle.faults.proofs.Checked.{nothing_bad, checked_good}
use Rattle.faults.proofs.Onward.{pieces_of, line_last, line_none, line_more, read_line_lem}
use Rattle.faults.proofs.Taking.{word_state, word_placed, paren_state, paren_placed}

paren_found : (s : List ℕ) (at close : ℕ)
    → token_of s at (Some (Paren close)) ≡ some (record { token = paren (split (slice (at + 1) close s)); rest = drop (close + 1) s })
unfolding token_of
paren_found s at close = rw (add-one at, add-one close)

-- lists by their lengths
pub empty_length : {A : Type 0} (xs : List A) → is_empty xs ≡ eqb (length xs) 0
empty_length [] = refl
empty_length (x ∷ xs) = sym (eqb-suc-zero (length xs))

empty_slice : (s : List ℕ) (from to : ℕ) → (from ≤ to) × (to ≤ length s) → is_empty (slice from to s) ≡ eqb from to
empty_slice s from to (h, k) =
    empty_length (slice from to s) ∙ ap (λ (n : ℕ). eqb n 0) (length-slice from to s k)
    ∙ by_eqb (λ t. eqb (to - from) 0 ≡ t) from to (λ e. eq-eqb (to - from) 0 (omega arith)) (λ e. ne_eqb (to - from) 0 (λ (z : to - from ≡ 0). e (omega arith)))

filled_slice : (s : List ℕ) (from to : ℕ) → from < to → to ≤ length s → is_empty (slice from to s) ≡ false
filled_slice s from to h k = empty_slice s from to (omega arith, k) ∙ ne_eqb from to (λ (z : from ≡ to). omega arith)

pub few_placed : (s : List ℕ) (k : Walk) (before at : ℕ) → before ≤ at → PlacedAt s k before → Few k at
few_placed s Start before at l h = tt
few_placed s Broken before at l h = tt
few_placed s (Mode c) before at l h = tt
few_placed s (Tests c) before at l h = omega (arith, h.few)
few_placed s (Then c) before at l h = omega (arith, h.0.counted.few)
few_placed s (Operations c) before at l h = omega (arith, h.counted.few)
few_placed s (End c) before at l h = tt

module _ (b : ℕ) (s : List ℕ) where
  pub record Walked (at : ℕ) (k : Walk) : Type 0 where
    pub inside : at ≤ length s
    pub good : proper b (so_far (state_at s k)) ≡ true
    pub placed : PlacedAt s k at
    pub rest : line_from b (state_at s k) (pieces_of (drop at s)) ≡ line_from b at_start (pieces_of s)

  pub walked_none : Walked 0 Start
  unfolding state_at
  walked_none = record { inside = omega arith; good = nothing_bad b; placed = tt; rest = refl }

  module _ {at : ℕ} {k : Walk} (h : Walked at k) (start : ℕ) (begins : start ≡ at + length (front is_blank (drop at s))) where
    pub starts : (at ≤ start) × (start ≤ length s)
    starts = let inside = end_inside is_blank s at h.inside in (omega arith, omega arith)

    blanks_passed : drop start s ≡ behind is_blank (drop at s)
    blanks_passed = rw begins (drop_behind is_blank s at)

    module _ (other : same (drop at s) (10 ∷ []) ≡ false) where
      pub walked_bad : token_of s start None ≡ token_at (drop start s) → none ≡ line_from b at_start (pieces_of s)
      unfolding token_of
      walked_bad t = sym (line_none b (state_at s k) (drop at s) other (ap token_at (sym blanks_passed) ∙ sym t)) ∙ h.rest

      shorter : (end : ℕ) → at < end → end ≤ length s → length (drop end s) < length (drop at s)
      shorter end l m = let one = length-drop end s in let two = length-drop at s in omega arith

      word_taken : (end : ℕ) → token_of s start (Some (Word end)) ≡ token_at (drop start s) → (start < end) × (end ≤ length s) → Walked end (word_walk s k start end)
      unfolding token_of
      word_taken end t (l, m) =
          let from = starts in
          let state = word_state s b start end (filled_slice s start end l m) k h.good in
          record {
            inside = m;
            good = rw state (checked_good b (state_at s k) (word (slice start end s)));
            placed = word_placed s at start end from.0 l m k h.placed;
            rest =
                ap (λ (x : State). line_from b x (pieces_of (drop end s))) state
                ∙ sym (line_more b (state_at s k) (drop at s) (record { token = word (slice start end s); rest = drop end s }) other
                (ap token_at (sym blanks_passed) ∙ sym t) (shorter end (omega arith) m))
                ∙ h.rest;
          }

      paren_taken : (close : ℕ) → token_of s start (Some (Paren close)) ≡ token_at (drop start s) → (start < close) × (close < length s)
          → Walked (close + 1) (paren_walk s b k start close)
      paren_taken close t (l, m) =
          let from = starts in
          let token = t ∙ ap token_at blanks_passed in
          let state = paren_state s at start close from.0 l token b k h.placed h.good in
          record {
            inside = omega arith;
            good = rw state (checked_good b (state_at s k) (paren (split (slice (start + 1) close s))));
            placed = paren_placed s at start close from.0 l token b k h.placed;
            rest =
                ap (λ (x : State). line_from b x (pieces_of (drop (close + 1) s))) state
                ∙ sym (line_more b (state_at s k) (drop at s) (record { token = paren (split (slice (start + 1) close s)); rest = drop (close + 1) s }) other
                (sym token ∙ paren_found s start close) (shorter (close + 1) (omega arith) (omega arith)))
                ∙ h.rest;
          }

      pub walked_more : (spot : Spot) → token_of s start (Some spot) ≡ token_at (drop start s) → Within s start (Some spot)
          → Walked (place_after spot) (spot_walk s b k start spot)
      unfolding place_after spot_walk
      walked_more (Word end) t i = word_taken end t i
      walked_more (Paren close) t i = paren_taken close t i

      pub place_later : (spot : Spot) → Within s start (Some spot) → at < place_after spot
      unfolding place_after
      place_later (Word end) i = let from = starts in omega arith
      place_later (Paren close) i = let from = starts in omega arith

  -- the line where a walk ends
  enough_at_lem : (c : Scan) → Placed s c → enough (line_at s c) ≡ enough_at c
  unfolding enough enough_at line_at
  enough_at_lem c h =
      let tests : is_empty (tests_at s c) ≡ eqb c.tests 0 = empty_length (tests_at s c) ∙ ap (λ (n : ℕ). eqb n 0) h.counted.tests in
      let operations : is_empty (operations_at s c) ≡ eqb c.operations 0 = empty_length (operations_at s c)
      ∙ ap (λ (n : ℕ). eqb n 0) h.counted.operations in
      rw (tests, operations, empty_slice s c.goes c.ends h.go_to)

  column_at_lem : (c : Scan) → Placed s c → in_column s (line_at s c) ≡ column_at s c
  unfolding in_column column_at line_at
  column_at_lem c h = rw (empty_slice s c.from c.label h.counted.label)

  scanned_cond : (t u : Bool) (c : Scan) → scanned_line s (cond (t && u) (Some c) None) ≡ cond t (cond u (some (line_at s c)) none) none
  unfolding scanned_line
  scanned_cond true true c = refl
  scanned_cond true false c = refl
  scanned_cond false u c = refl

  only_cond : (t u : Bool) (l : Line) (p : Line → Bool) → p l ≡ u → only_if p (cond t (some l) none) ≡ cond t (cond u (some l) none) none
  unfolding only_if
  only_cond true u l p e = rw e
  only_cond false u l p e = refl

  end_line : (c : Scan) → Placed s c → scanned_line s (end_scan s c) ≡ only_if (in_column s) (only_if enough (some (line_at s c)))
  unfolding end_scan only_if
  end_line c h =
      scanned_cond (enough_at c) (column_at s c) c
      ∙ sym (rw (enough_at_lem c h) (only_cond (enough_at c) (column_at s c) (line_at s c) (in_column s) (column_at_lem c h)))

  end_placed : (c : Scan) → Placed s c → PlacedIn s (end_scan s c)
  unfolding end_scan
  end_placed c h = either_way (λ (r : Scanned). PlacedIn s r) (enough_at c && column_at s c) h tt

  finish_line : (at : ℕ) (k : Walk) → at < length s → PlacedAt s k at
      → (scanned_line s (finish_walk s k) ≡ only_if (in_column s) (only_if enough (finished (state_at s k)))) × PlacedIn s (finish_walk s k)
  unfolding finish_walk scanned_line state_at finished only_if line_at tests_at operations_at parens_in
  finish_line at Start l h = (refl, tt)
  finish_line at Broken l h = (refl, tt)
  finish_line at (Mode c) l h = (refl, tt)
  finish_line at (Tests c) l h =
      let few = h.few in
      let placed : Placed s (then_scan c 0) = record {
        counted = record { label = h.label; tests = h.tests; operations = refl; begins = omega arith; few = omega arith };
        less = omega arith;
        go_to = (omega arith, omega arith);
      } in
      (end_line (then_scan c 0) placed, end_placed (then_scan c 0) placed)
  finish_line at (Then c) l h = (refl, tt)
  finish_line at (Operations c) l h =
      let counted = h.counted in
      let few = counted.few in
      let placed : Placed s (go_scan c 0 0) = record {
        counted = record { label = counted.label; tests = counted.tests; operations = counted.operations; begins = counted.begins; few = omega arith };
        less = omega arith;
        go_to = (omega arith, omega arith);
      } in
      (end_line (go_scan c 0 0) placed, end_placed (go_scan c 0 0) placed)
  finish_line at (End c) l h = (end_line c h, end_placed c h)

  pub walked_all : {at : ℕ} {k : Walk} → Walked at k → same (drop at s) (10 ∷ []) ≡ true
      → (scanned_line s (finish_walk s k) ≡ line_read (read_line b s)) × PlacedIn s (finish_walk s k)
  walked_all {at} {k} h e =
      let left = ap length (same_eq (drop at s) (10 ∷ []) e) in
      let (line, placed) = finish_line at k (omega (arith, length-drop at s)) h.placed in
      let last : only_if enough (finished (state_at s k)) ≡ line_from b at_start (pieces_of s) =
      sym (ap (λ (r : List ℕ). line_from b (state_at s k) (pieces_of r)) (same_eq (drop at s) (10 ∷ []) e) ∙ line_last b (state_at s k)) ∙ h.rest in
      (line ∙ ap (only_if (in_column s)) last ∙ sym (read_line_lem b s), placed)

  bad_column : only_if (in_column s) none ≡ none
  unfolding only_if
  bad_column = refl

  pub walked_none_left : none ≡ line_from b at_start (pieces_of s) → scanned_line s None ≡ line_read (read_line b s)
  unfolding scanned_line
  walked_none_left e = sym bad_column ∙ ap (only_if (in_column s)) e ∙ sym (read_line_lem b s)

-- the byte that ends a line
same_one : (r : List ℕ) → (length r ≡ 1 → ⊥) → false ≡ same r (10 ∷ [])
unfolding same
same_one [] h = refl
same_one (x ∷ []) h = absurd (h refl)
same_one (x ∷ y ∷ r) h = sym (and_false (eqb x 10))

pub not_last : (s : List ℕ) (at : ℕ) → (length s - at ≡ 1 → ⊥) → false ≡ same (drop at s) (10 ∷ [])
not_last s at h = same_one (drop at s) (λ e. h (sym (length-drop at s) ∙ e))

byte_alone : (r : List ℕ) → length r ≡ 1 → eqb (get_or r 0 0) 10 ≡ same r (10 ∷ [])
unfolding same
byte_alone [] h = absurd (omega arith)
byte_alone (x ∷ []) h = sym (and_right (eqb x 10))
byte_alone (x ∷ y ∷ r) h = absurd (omega arith)

pub last_byte : (s : List ℕ) (at : ℕ) → length s - at ≡ 1 → eqb (get_or s at 0) 10 ≡ same (drop at s) (10 ∷ [])
last_byte s at h = ap (λ (n : ℕ). eqb (get_or s n 0) 10) (sym (add-zero at)) ∙ ap (λ (x : ℕ). eqb x 10) (sym (get_or-drop at s 0 0))
    ∙ byte_alone (drop at s) (length-drop at s ∙ h)
