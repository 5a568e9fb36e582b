-- A line read token by token, with its parts tested on the way, is the line that `read_line` gives. Assumes nothing.
use Prim.Native.Nat.{ℕ}
use mathlib.Core.Path.{◌≡◌, refl, ap, sym, ◌∙◌}
use mathlib.Core.Bool.{Bool, true, false, not, ◌&&◌, ◌||◌, cond}
use mathlib.Core.List.{List, [], ◌∷◌, ◌++◌}
use mathlib.Core.Option.{none, some}
use lib.Dec.{eqb, leb}
use Rattle.word.proofs.Tests.{by_test, and_true, and_false}
use Rattle.lines.specs.Words.{spelled, same, is_empty, all, mode_words, is_mode, is_done, is_label}
use Rattle.lines.specs.Forms.{is_test, is_operation}
use Rattle.lines.specs.Grammar.{Line, Token, word, paren, is_line}
use Rattle.lines.specs.Reading.{place_of, line_of}
use Rattle.lines.specs.Walking.{State, at_start, broken, at_mode, in_tests, at_then, in_operations, at_end, entered, step, fed, finished}
use Rattle.faults.specs.Checking.{so_far, proper, enough, checked_step, checked_fed, only_if}
use Rattle.lines.proofs.Lists.{true_false, and_both, all_first, all_others}
use Rattle.faults.proofs.Walking.{fed_broken, fed_line}

-- a line is proper in its parts, and enough
shuffle : (r s t u v w x : Bool) → (r && (s && (t && (u && (v && (w && x)))))) ≡ ((r && (s && (u && (v && w)))) && (t && x))
shuffle false s t u v w x = refl
shuffle true false t u v w x = refl
shuffle true true t false v w x = and_false t
shuffle true true t true false w x = and_false t
shuffle true true t true true false x = and_false t
shuffle true true t true true true x = refl

is_line_lem : (b : ℕ) (l : Line) → is_line b l ≡ (proper b l && enough l)
unfolding is_line proper enough
is_line_lem b l =
    shuffle (is_empty l.label || is_label l.label) (leb l.mode 4) (cond (eqb l.mode 0) (is_empty l.tests) (not (is_empty l.tests)))
    (all (is_test b) l.tests) (all (is_operation b) l.operations) (is_empty l.go_to_of || (is_done l.go_to_of || is_label l.go_to_of))
    (not (is_empty l.operations && is_empty l.go_to_of))

all_left : {A : Type 0} (p : A → Bool) (xs ys : List A) → all p (xs ++ ys) ≡ true → all p xs ≡ true
unfolding all
all_left p [] ys e = refl
all_left p (x ∷ xs) ys e = and_both (all_first p x (xs ++ ys) e) (all_left p xs ys (all_others p x (xs ++ ys) e))

module _ (b : ℕ) where
  abbrev good : State → Bool
  good st = proper b (so_far st)

  -- what was proper before is a part of what is proper now
  weaker : (l m : Line) → ((is_empty m.label || is_label m.label) ≡ true → (is_empty l.label || is_label l.label) ≡ true)
      → (leb m.mode 4 ≡ true → leb l.mode 4 ≡ true)
      → (all (is_test b) m.tests ≡ true → all (is_test b) l.tests ≡ true)
      → (all (is_operation b) m.operations ≡ true → all (is_operation b) l.operations ≡ true)
      → ((is_empty m.go_to_of || (is_done m.go_to_of || is_label m.go_to_of)) ≡ true → (is_empty l.go_to_of || (is_done l.go_to_of || is_label l.go_to_of)) ≡ true)
      → proper b m ≡ true → proper b l ≡ true
  unfolding proper
  weaker l m f g h i j e =
      let (e1, r1) = and_true (is_empty m.label || is_label m.label) _ e in
      let (e2, r2) = and_true (leb m.mode 4) _ r1 in
      let (e3, r3) = and_true (all (is_test b) m.tests) _ r2 in
      let (e4, e5) = and_true (all (is_operation b) m.operations) _ r3 in
      and_both (f e1) (and_both (g e2) (and_both (h e3) (and_both (i e4) (j e5))))

  worse : (st su : State) → (good su ≡ true → good st ≡ true) → good st ≡ false → good su ≡ false
  worse st su f e = by_test (λ t. good su ≡ t → t ≡ false) (good su) (λ _ is. absurd (true_false (f is) e)) (λ _ _. refl) refl

  pub nothing_bad : good at_start ≡ true
  unfolding so_far proper all
  nothing_bad = refl

  pub broken_good : good broken ≡ true
  unfolding so_far proper all
  broken_good = refl

  none_left : (ts : List Token) → only_if (is_line b) (finished (fed broken ts)) ≡ none
  unfolding only_if
  none_left ts = rw (fed_broken ts)

  bad_line : (l : Line) → proper b l ≡ false → only_if (is_line b) (some l) ≡ none
  unfolding only_if
  bad_line l e = rw (is_line_lem b l, e)

  bad_end : (st : State) → good st ≡ false → only_if (is_line b) (finished st) ≡ none
  unfolding finished only_if so_far
  bad_end at_start e = refl
  bad_end broken e = refl
  bad_end (at_mode label) e = refl
  bad_end (in_tests label mode tests) e = bad_line (so_far (in_tests label mode tests)) e
  bad_end (at_then label mode tests) e = refl
  bad_end (in_operations label mode tests operations) e = bad_line (so_far (in_operations label mode tests operations)) e
  bad_end (at_end l) e = bad_line l e

  worse_entered : (label : List ℕ) (mode : ℕ) → good (at_mode label) ≡ false → good (entered label mode) ≡ false
  unfolding entered so_far all
  worse_entered label mode e =
      by_test (λ t. good (cond t (in_operations label mode [] []) (in_tests label mode [])) ≡ false) (eqb mode 0)
      (λ _. worse (at_mode label) (in_operations label mode [] []) (weaker _ _ (λ x. x) (λ _. refl) (λ _. refl) (λ _. refl) (λ _. refl)) e)
      (λ _. worse (at_mode label) (in_tests label mode []) (weaker _ _ (λ x. x) (λ _. refl) (λ _. refl) (λ _. refl) (λ _. refl)) e)

  -- a bad state stays bad
  bad_fed : (ts : List Token) (st : State) → good st ≡ false → only_if (is_line b) (finished (fed st ts)) ≡ none
  unfolding fed step so_far all
  bad_fed [] st e = bad_end st e
  bad_fed (t ∷ ts) at_start e = absurd (true_false nothing_bad e)
  bad_fed (t ∷ ts) broken e = absurd (true_false broken_good e)
  bad_fed (word w ∷ ts) (at_mode label) e =
      by_test (λ t. only_if (is_line b) (finished (fed (cond t (entered label (place_of w mode_words)) broken) ts)) ≡ none) (is_mode w)
      (λ _. bad_fed ts (entered label (place_of w mode_words)) (worse_entered label (place_of w mode_words) e)) (λ _. none_left ts)
  bad_fed (paren args ∷ ts) (at_mode label) e = none_left ts
  bad_fed (word w ∷ ts) (in_tests label mode tests) e =
      by_test (λ t. only_if (is_line b)
      (finished (fed (cond t (at_then label mode tests) (at_end (record { label = label; mode = mode; tests = tests; operations = []; go_to_of = w })))
      ts)) ≡ none) (same w (spelled "THEN"))
      (λ _. bad_fed ts (at_then label mode tests) e)
      (λ _. bad_fed ts (at_end (record { label = label; mode = mode; tests = tests; operations = []; go_to_of = w }))
      (worse (in_tests label mode tests) (at_end (record { label = label; mode = mode; tests = tests; operations = []; go_to_of = w }))
      (weaker _ _ (λ x. x) (λ x. x) (λ x. x) (λ x. x) (λ _. refl)) e))
  bad_fed (paren args ∷ ts) (in_tests label mode tests) e =
      bad_fed ts (in_tests label mode (tests ++ args ∷ []))
      (worse (in_tests label mode tests) (in_tests label mode (tests ++ args ∷ []))
      (weaker _ _ (λ x. x) (λ x. x) (all_left (is_test b) tests (args ∷ [])) (λ x. x) (λ x. x)) e)
  bad_fed (word w ∷ ts) (at_then label mode tests) e = none_left ts
  bad_fed (paren args ∷ ts) (at_then label mode tests) e =
      bad_fed ts (in_operations label mode tests (args ∷ []))
      (worse (at_then label mode tests) (in_operations label mode tests (args ∷ [])) (weaker _ _ (λ x. x) (λ x. x) (λ x. x) (λ _. refl) (λ x. x)) e)
  bad_fed (word w ∷ ts) (in_operations label mode tests operations) e =
      bad_fed ts (at_end (record { label = label; mode = mode; tests = tests; operations = operations; go_to_of = w }))
      (worse (in_operations label mode tests operations) (at_end (record { label = label; mode = mode; tests = tests; operations = operations; go_to_of = w }))
      (weaker _ _ (λ x. x) (λ x. x) (λ x. x) (λ x. x) (λ _. refl)) e)
  bad_fed (paren args ∷ ts) (in_operations label mode tests operations) e =
      bad_fed ts (in_operations label mode tests (operations ++ args ∷ []))
      (worse (in_operations label mode tests operations) (in_operations label mode tests (operations ++ args ∷ []))
      (weaker _ _ (λ x. x) (λ x. x) (λ x. x) (all_left (is_operation b) operations (args ∷ [])) (λ x. x)) e)
  bad_fed (t ∷ ts) (at_end l) e = none_left ts

  good_line : (l : Line) → proper b l ≡ true → only_if enough (some l) ≡ only_if (is_line b) (some l)
  unfolding only_if
  good_line l e = rw (is_line_lem b l, e)

  good_end : (st : State) → good st ≡ true → only_if enough (finished st) ≡ only_if (is_line b) (finished st)
  unfolding finished only_if so_far
  good_end at_start e = refl
  good_end broken e = refl
  good_end (at_mode label) e = refl
  good_end (in_tests label mode tests) e = good_line (so_far (in_tests label mode tests)) e
  good_end (at_then label mode tests) e = refl
  good_end (in_operations label mode tests operations) e = good_line (so_far (in_operations label mode tests operations)) e
  good_end (at_end l) e = good_line l e

  -- the state after a checked step is good
  pub checked_good : (st : State) (t : Token) → good (checked_step b st t) ≡ true
  unfolding checked_step
  checked_good st t = by_test (λ x. good (step st t) ≡ x → good (cond x (step st t) broken) ≡ true) (good (step st t)) (λ _ e. e) (λ _ _. broken_good) refl

  pub step_broken : (t : Token) → step broken t ≡ broken
  unfolding step
  step_broken t = refl

  checked_broken : (ts : List Token) → only_if enough (finished (checked_fed b broken ts)) ≡ none
  unfolding checked_fed checked_step finished only_if
  checked_broken [] = refl
  checked_broken (t ∷ ts) = rw (step_broken t, broken_good) (checked_broken ts)

  pub checked_fed_lem : (ts : List Token) (st : State) → good st ≡ true → only_if enough (finished (checked_fed b st ts)) ≡ only_if (is_line b) (finished (fed st ts))
  unfolding checked_fed fed checked_step
  checked_fed_lem [] st e = good_end st e
  checked_fed_lem (t ∷ ts) st e =
      by_test (λ x. good (step st t) ≡ x
      → only_if enough (finished (checked_fed b (cond x (step st t) broken) ts)) ≡ only_if (is_line b) (finished (fed (step st t) ts))) (good (step st t))
      (λ _ is. checked_fed_lem ts (step st t) is)
      (λ _ other. checked_broken ts ∙ sym (bad_fed ts (step st t) other)) refl

  pub checked_line : (ts : List Token) → only_if enough (finished (checked_fed b at_start ts)) ≡ only_if (is_line b) (line_of ts)
  checked_line ts = checked_fed_lem ts at_start nothing_bad ∙ ap (only_if (is_line b)) (fed_line ts)
