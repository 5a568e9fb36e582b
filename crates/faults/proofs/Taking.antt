-- A token taken by its place is a step of the state, and the places stay those of the line's parts. Assumes nothing.
use Prim.Native.Nat.{ℕ, zero, suc, ◌+◌, ◌≤◌, ◌<◌}
use native.Mathlib.Numerals.{add-one}
use native.Mathlib.Omega.{arith}
use mathlib.Core.Path.{◌≡◌, refl, ap, ap₂, sym, ◌∙◌}
use mathlib.Core.Bool.{Bool, true, false, not, ◌||◌, cond}
use mathlib.Core.List.{List, [], ◌∷◌, ◌++◌}
use mathlib.Core.Option.{Option, none, some}
use borrow.Author.Tests.{le-leb, eqb-false}
use lib.Dec.{eqb, leb}
use lib.ListN.{length, drop, length-append}
use lib.Seq.{slice}
use Rattle.word.proofs.Tests.{by_test, either_way, and_true}
use Rattle.faults.specs.declared.Scan.{Scan}
use Rattle.faults.specs.declared.Walk.{Walk}
use Rattle.faults.specs.declared.Walk.TheVariants.{Start, Broken, Mode, Tests, Then, Operations, End}
use Rattle.std.specs.Prelude.{Some}
use Rattle.lines.specs.declared.Spot.TheVariants.{Paren}
use Rattle.lines.specs.Words.{spelled, same, is_empty, all, mode_words, is_mode, is_done, is_label}
use Rattle.lines.specs.Forms.{is_test, is_operation}
use Rattle.lines.specs.Grammar.{Line, Token, word, paren}
use Rattle.lines.specs.Reading.{behind, is_blank, split, place_of, Found, token_at}
use Rattle.lines.specs.Walking.{token_of, State, at_start, broken, at_mode, in_tests, at_then, in_operations, at_end, entered, step}
use Rattle.faults.specs.Checking.{so_far, proper, checked_step, parens_on, parens_next, parens_in, after_next, after_in, tests_at}
use Rattle.faults.specs.Checking.{operations_at, line_at, state_at}
use Rattle.faults.specs.Checking.{Counted, Operating, PlacedAt, label_scan, mode_scan, then_scan, more_tests}
use Rattle.faults.specs.Checking.{more_operations, go_scan}
use Rattle.faults.specs.Checking.{entered_walk, go_walk, mode_walk, word_walk, operation_walk, paren_walk}
use Rattle.lines.proofs.Literals.{and_right, no_mode}
use Rattle.faults.proofs.Checked.{broken_good, step_broken}

-- a mode word's place
place_most : (w : List ℕ) (vs : List (List ℕ)) → place_of w vs ≤ length vs
unfolding place_of
place_most w [] = omega arith
place_most w (v ∷ vs) =
    let later = place_most w vs in
    by_test (λ t. cond t 0 (suc (place_of w vs)) ≤ suc (length vs)) (same w v) (λ _. omega arith) (λ _. omega arith)

five_modes : length mode_words ≡ 5
unfolding mode_words
five_modes = refl

mode_small : (w : List ℕ) → is_mode w ≡ true → leb (place_of w mode_words) 4 ≡ true
mode_small w e =
    let most = place_most w mode_words in
    let five = five_modes in
    let other : place_of w mode_words ≡ 5 → ⊥ = eqb-false (place_of w mode_words) 5 (no_mode w ∙ ap not e) in
    le-leb (place_of w mode_words) 4 (omega (arith, other))

-- what is asked of each part
pub record Proper (b : ℕ) (l : Line) : Type 0 where
  pub label : (is_empty l.label || is_label l.label) ≡ true
  pub mode : leb l.mode 4 ≡ true
  pub tests : all (is_test b) l.tests ≡ true
  pub operations : all (is_operation b) l.operations ≡ true

module _ (b : ℕ) where
  proper_parts : (l : Line) → proper b l ≡ true → Proper b l
  unfolding proper
  proper_parts l e =
      let (e1, r1) = and_true (is_empty l.label || is_label l.label) _ e in
      let (e2, r2) = and_true (leb l.mode 4) _ r1 in
      let (e3, r3) = and_true (all (is_test b) l.tests) _ r2 in
      let (e4, e5) = and_true (all (is_operation b) l.operations) _ r3 in
      record { label = e1; mode = e2; tests = e3; operations = e4 }

  entered_proper : (label : List ℕ) (mode : ℕ) → (is_empty label || is_label label) ≡ true → leb mode 4 ≡ true → proper b (so_far (entered label mode)) ≡ true
  unfolding entered so_far proper all
  entered_proper label mode e f =
      by_test (λ t. proper b (so_far (cond t (in_operations label mode [] []) (in_tests label mode []))) ≡ true) (eqb mode 0) (λ _. rw (e, f)) (λ _. rw (e, f))

  -- a step whose state is proper, or whose test decides
  step_kept : (st : State) (t : Token) → proper b (so_far (step st t)) ≡ true → checked_step b st t ≡ step st t
  unfolding checked_step
  step_kept st t e = rw e

  step_tested : (st : State) (t : Token) (x : Bool) → proper b (so_far (step st t)) ≡ x → checked_step b st t ≡ cond x (step st t) broken
  unfolding checked_step
  step_tested st t x e = rw e

  pub step_broke : (st : State) (t : Token) → step st t ≡ broken → checked_step b st t ≡ broken
  unfolding checked_step
  step_broke st t e = rw (e, broken_good b)

  module _ (label : List ℕ) (mode : ℕ) (tests operations : List (List (List ℕ))) where
    abbrev its : List ℕ → Line
    its w = record { label = label; mode = mode; tests = tests; operations = operations; go_to_of = w }

    go_proper : (w : List ℕ) → is_empty w ≡ false → Proper b (its w) → proper b (its w) ≡ (is_done w || is_label w)
    unfolding proper
    go_proper w e p = rw (p.label, p.mode, p.tests, p.operations, e)

  all_more : {A : Type 0} (p : A → Bool) (xs : List A) (x : A) → all p xs ≡ true → all p (xs ++ x ∷ []) ≡ p x
  unfolding all
  all_more p [] x e = and_right (p x)
  all_more p (y ∷ xs) x e = let (h, t) = and_true (p y) (all p xs) e in rw h (all_more p xs x t)

  module _ (label : List ℕ) (mode : ℕ) (tests : List (List (List ℕ))) where
    test_proper : (args : List (List ℕ)) → Proper b (so_far (in_tests label mode tests))
        → proper b (so_far (in_tests label mode (tests ++ args ∷ []))) ≡ is_test b args
    unfolding proper so_far all
    test_proper args p = rw (p.label, p.mode, all_more (is_test b) tests args p.tests) (and_right (is_test b args))

    operation_proper : (operations : List (List (List ℕ))) (args : List (List ℕ)) → Proper b (so_far (in_operations label mode tests operations))
        → proper b (so_far (in_operations label mode tests (operations ++ args ∷ []))) ≡ is_operation b args
    unfolding proper so_far all
    operation_proper operations args p = rw (p.label, p.mode, p.tests, all_more (is_operation b) operations args p.operations)
        (and_right (is_operation b args))

-- one parenthesis more
parens_more : (n : ℕ) (r : List ℕ) (args : List (List ℕ)) (rest : List ℕ) → length (parens_in n r) ≡ n
    → token_at (behind is_blank (after_in n r)) ≡ some (record { token = paren args; rest = rest })
    → (parens_in (suc n) r ≡ parens_in n r ++ args ∷ []) × (after_in (suc n) r ≡ rest)
unfolding parens_in after_in parens_next after_next parens_on
parens_more zero r args rest h e = (rw e, rw e)
parens_more (suc n) r args rest h e = found (λ q k f. parens_more n q args rest k f) (token_at (behind is_blank r)) h e
  where
    taken : ((q : List ℕ) → length (parens_in n q) ≡ n → token_at (behind is_blank (after_in n q)) ≡ some (record { token = paren args; rest = rest })
        → (parens_in (suc n) q ≡ parens_in n q ++ args ∷ []) × (after_in (suc n) q ≡ rest)) → (t : Token) (q : List ℕ)
        → length (parens_on (parens_in n) q t) ≡ suc n → token_at (behind is_blank (after_in n q)) ≡ some (record { token = paren args; rest = rest })
        → (parens_on (parens_in (suc n)) q t ≡ parens_on (parens_in n) q t ++ args ∷ []) × (after_in (suc n) q ≡ rest)
    taken more (word w) q h e = absurd (omega arith)
    taken more (paren a) q h e =
        let (one, two) = more q (omega arith) e in
        (ap (λ (l : List (List (List ℕ))). a ∷ l) one, two)

    found : ((q : List ℕ) → length (parens_in n q) ≡ n → token_at (behind is_blank (after_in n q)) ≡ some (record { token = paren args; rest = rest })
        → (parens_in (suc n) q ≡ parens_in n q ++ args ∷ []) × (after_in (suc n) q ≡ rest)) → (o : Option Found) → length (parens_next (parens_in n) o) ≡ suc n
        → token_at (behind is_blank (after_next (after_in n) o)) ≡ some (record { token = paren args; rest = rest })
        → (parens_next (parens_in (suc n)) o ≡ parens_next (parens_in n) o ++ args ∷ []) × (after_next (after_in (suc n)) o ≡ rest)
    found more none h e = absurd (omega arith)
    found more (some f) h e = taken more f.token f.rest h e

proper_label : (b : ℕ) (label : List ℕ) → proper b (so_far (at_mode label)) ≡ true → (is_empty label || is_label label) ≡ true
unfolding so_far
proper_label b label e = (proper_parts b (so_far (at_mode label)) e).label

then_broke : (label : List ℕ) (mode : ℕ) (tests : List (List (List ℕ))) (w : List ℕ) → step (at_then label mode tests) (word w) ≡ broken
unfolding step
then_broke label mode tests w = refl

end_broke : (l : Line) (t : Token) → step (at_end l) t ≡ broken
unfolding step
end_broke l t = refl

no_parens : (r : List ℕ) → parens_in 0 r ≡ []
unfolding parens_in
no_parens r = refl

-- a word after a state
module _ (b : ℕ) (w : List ℕ) (filled : is_empty w ≡ false) where
  abbrev place : ℕ
  place = place_of w mode_words

  label_proper : proper b (so_far (at_mode w)) ≡ is_label w
  unfolding proper so_far all
  label_proper = rw filled (and_right (is_label w))

  start_word : checked_step b at_start (word w) ≡ cond (is_mode w) (entered [] place) (cond (is_label w) (at_mode w) broken)
  unfolding checked_step step
  start_word =
      by_test (λ t. is_mode w ≡ t → cond (proper b (so_far (cond t (entered [] place) (at_mode w)))) (cond t (entered [] place) (at_mode w)) broken
      ≡ cond t (entered [] place) (cond (is_label w) (at_mode w) broken)) (is_mode w)
      (λ _ is. rw (entered_proper b [] place refl (mode_small w is))) (λ _ _. rw label_proper) refl

  mode_word : (label : List ℕ) → (is_empty label || is_label label) ≡ true → checked_step b (at_mode label) (word w) ≡ cond (is_mode w) (entered label place) broken
  unfolding checked_step step
  mode_word label e =
      by_test (λ t. is_mode w ≡ t
      → cond (proper b (so_far (cond t (entered label place) broken))) (cond t (entered label place) broken) broken ≡ cond t (entered label place) broken)
      (is_mode w)
      (λ _ is. rw (entered_proper b label place e (mode_small w is))) (λ _ _. rw (broken_good b)) refl

  go_word : (label : List ℕ) (mode : ℕ) (tests operations : List (List (List ℕ))) → proper b (so_far (in_operations label mode tests operations)) ≡ true
      → checked_step b (in_operations label mode tests operations) (word w)
      ≡ cond (is_done w || is_label w) (at_end (record { label = label; mode = mode; tests = tests; operations = operations; go_to_of = w })) broken
  unfolding step so_far
  go_word label mode tests operations e =
      let p = proper_parts b (so_far (in_operations label mode tests operations)) e in
      step_tested b (in_operations label mode tests operations) (word w) (is_done w || is_label w)
      (go_proper b label mode tests operations w filled (record { label = p.label; mode = p.mode; tests = p.tests; operations = p.operations }))

  tests_word : (label : List ℕ) (mode : ℕ) (tests : List (List (List ℕ))) → proper b (so_far (in_tests label mode tests)) ≡ true
      → checked_step b (in_tests label mode tests) (word w)
      ≡ cond (same w (spelled "THEN")) (at_then label mode tests)
      (cond (is_done w || is_label w) (at_end (record { label = label; mode = mode; tests = tests; operations = []; go_to_of = w })) broken)
  unfolding checked_step step so_far
  tests_word label mode tests e =
      let p = proper_parts b (so_far (in_tests label mode tests)) e in
      let l : Line = record { label = label; mode = mode; tests = tests; operations = []; go_to_of = w } in
      let its-end = go_proper b label mode tests [] w filled (record { label = p.label; mode = p.mode; tests = p.tests; operations = p.operations }) in
      by_test (λ t. cond (proper b (so_far (cond t (at_then label mode tests) (at_end l)))) (cond t (at_then label mode tests) (at_end l)) broken
      ≡ cond t (at_then label mode tests) (cond (is_done w || is_label w) (at_end l) broken)) (same w (spelled "THEN"))
      (λ _. rw e) (λ _. rw its-end)

module _ (s : List ℕ) where
  state_cond : (t : Bool) (x y : Walk) → state_at s (cond t x y) ≡ cond t (state_at s x) (state_at s y)
  state_cond true x y = refl
  state_cond false x y = refl

  entered_state : (from label mode end : ℕ) → state_at s (entered_walk from label mode end) ≡ entered (slice from label s) mode
  unfolding entered_walk entered state_at tests_at operations_at parens_in
  entered_state from label mode end = state_cond (eqb mode 0) (Operations (mode_scan from label mode end)) (Tests (mode_scan from label mode end))

  entered_placed : (from label mode end : ℕ) → end ≤ length s → (from ≤ label) × (label ≤ length s) → PlacedAt s (entered_walk from label mode end) end
  unfolding entered_walk tests_at operations_at parens_in after_in
  entered_placed from label mode end n h =
      either_way (λ (k : Walk). PlacedAt s k end) (eqb mode 0)
      (record { counted = record { label = h; tests = refl; operations = refl; begins = n; few = omega arith }; left = refl })
      (record { label = h; tests = refl; few = omega arith; left = refl })

  module _ (b at end : ℕ) (filled : is_empty (slice at end s) ≡ false) where
    abbrev w : List ℕ
    w = slice at end s

    pub word_state : (k : Walk) → proper b (so_far (state_at s k)) ≡ true → state_at s (word_walk s k at end) ≡ checked_step b (state_at s k) (word (slice at end s))
    unfolding word_walk mode_walk go_walk state_at line_at tests_at operations_at parens_in
    word_state Start e =
        state_cond (is_mode w) (entered_walk 0 0 (place_of w mode_words) end) (cond (is_label w) (Mode (label_scan at end)) Broken)
        ∙ ap₂ (cond (is_mode w)) (entered_state 0 0 (place_of w mode_words) end) (state_cond (is_label w) (Mode (label_scan at end)) Broken)
        ∙ sym (start_word b w filled)
    word_state Broken e = sym (step_broke b broken (word w) (step_broken b (word w)))
    word_state (Mode c) e =
        state_cond (is_mode w) (entered_walk c.from c.label (place_of w mode_words) end) Broken
        ∙ ap (λ (x : State). cond (is_mode w) x broken) (entered_state c.from c.label (place_of w mode_words) end)
        ∙ sym (mode_word b w filled (slice c.from c.label s) (proper_label b (slice c.from c.label s) e))
    word_state (Tests c) e =
        state_cond (same w (spelled "THEN")) (Then (then_scan c end)) (go_walk s (then_scan c end) at end)
        ∙ ap (cond (same w (spelled "THEN")) (at_then (slice c.from c.label s) c.mode (tests_at s c)))
        (state_cond (is_done w || is_label w) (End (go_scan (then_scan c end) at end)) Broken)
        ∙ sym (tests_word b w filled (slice c.from c.label s) c.mode (tests_at s c) e)
    word_state (Then c) e = sym (step_broke b (state_at s (Then c)) (word w) (then_broke (slice c.from c.label s) c.mode (tests_at s c) w))
    word_state (Operations c) e =
        state_cond (is_done w || is_label w) (End (go_scan c at end)) Broken
        ∙ sym (go_word b w filled (slice c.from c.label s) c.mode (tests_at s c) (operations_at s c) e)
    word_state (End c) e = sym (step_broke b (state_at s (End c)) (word w) (end_broke (line_at s c) (word w)))

  module _ (before at end : ℕ) (l : before ≤ at) (m : at < end) (n : end ≤ length s) where
    go_placed : (c : Scan) → Counted s c before → PlacedAt s (go_walk s c at end) end
    unfolding go_walk tests_at operations_at
    go_placed c h =
        either_way (λ (k : Walk). PlacedAt s k end) (is_done (slice at end s) || is_label (slice at end s))
        (record {
          counted = record { label = h.label; tests = h.tests; operations = h.operations; begins = h.begins; few = omega (arith, h.few) };
          less = omega (arith, h.few);
          go_to = (omega arith, n);
        })
        tt

    pub word_placed : (k : Walk) → PlacedAt s k before → PlacedAt s (word_walk s k at end) end
    unfolding word_walk mode_walk tests_at operations_at parens_in after_in
    word_placed Start h =
        either_way (λ (k : Walk). PlacedAt s k end) (is_mode (slice at end s))
        (entered_placed 0 0 (place_of (slice at end s) mode_words) end n (omega arith, omega arith))
        (either_way (λ (k : Walk). PlacedAt s k end) (is_label (slice at end s)) (omega arith, n) tt)
    word_placed Broken h = tt
    word_placed (Mode c) h =
        either_way (λ (k : Walk). PlacedAt s k end) (is_mode (slice at end s))
        (entered_placed c.from c.label (place_of (slice at end s) mode_words) end n h) tt
    word_placed (Tests c) h =
        let counted : Counted s (then_scan c end) before = record
        { label = h.label; tests = h.tests; operations = refl; begins = n; few = omega (arith, h.few) } in
        either_way (λ (k : Walk). PlacedAt s k end) (same (slice at end s) (spelled "THEN"))
        (record { counted = record { label = h.label; tests = h.tests; operations = refl; begins = n; few = omega (arith, h.few) }; left = refl }, refl)
        (go_placed (then_scan c end) counted)
    word_placed (Then c) h = tt
    word_placed (Operations c) h =
        go_placed c h.counted
    word_placed (End c) h = tt

  -- a parenthesis after a state
  module _ (before at close : ℕ) (l : before ≤ at) (m : at < close) (token : token_of s at (Some (Paren close)) ≡ token_at (behind is_blank (drop before s))) where
    abbrev args : List (List ℕ)
    args = split (slice (at + 1) close s)

    found_here : token_at (behind is_blank (drop before s)) ≡ some (record { token = paren args; rest = drop (close + 1) s })
    unfolding token_of
    found_here = rw (add-one at, add-one close) (sym token)

    more_here : (count from : ℕ) → length (parens_in count (drop from s)) ≡ count → after_in count (drop from s) ≡ drop before s
        → (parens_in (count + 1) (drop from s) ≡ parens_in count (drop from s) ++ args ∷ []) × (after_in (count + 1) (drop from s) ≡ drop (close + 1) s)
    more_here count from h e = rw (add-one count) (parens_more count (drop from s) args (drop (close + 1) s) h (rw e found_here))

    longer : (xs : List (List (List ℕ))) (ys : List (List (List ℕ))) (n : ℕ) → ys ≡ xs ++ args ∷ [] → length xs ≡ n → length ys ≡ n + 1
    longer xs ys n e h = omega (arith, ap length e, length-append xs (args ∷ []))

    operations_placed : (b : ℕ) (c : Scan) → Operating s c before → PlacedAt s (operation_walk s b c at close) (close + 1)
    unfolding operation_walk tests_at operations_at
    operations_placed b c h =
        let counted = h.counted in
        let (more, after) = more_here c.operations c.operation counted.operations h.left in
        either_way (λ (k : Walk). PlacedAt s k (close + 1)) (is_operation b args)
        (record {
          counted = record {
            label = counted.label;
            tests = counted.tests;
            operations = longer (parens_in c.operations (drop c.operation s)) _ c.operations more counted.operations;
            begins = counted.begins;
            few = omega (arith, counted.few);
          };
          left = after;
        })
        tt

    pub paren_placed : (b : ℕ) (k : Walk) → PlacedAt s k before → PlacedAt s (paren_walk s b k at close) (close + 1)
    unfolding paren_walk tests_at operations_at
    paren_placed b Start h = tt
    paren_placed b Broken h = tt
    paren_placed b (Mode c) h = tt
    paren_placed b (Tests c) h =
        let (more, after) = more_here c.tests c.test h.tests h.left in
        either_way (λ (k : Walk). PlacedAt s k (close + 1)) (is_test b args)
        (record {
          label = h.label;
          tests = longer (parens_in c.tests (drop c.test s)) _ c.tests more h.tests;
          few = omega (arith, h.few);
          left = after;
        }) tt
    paren_placed b (Then c) h = operations_placed b c h.0
    paren_placed b (Operations c) h = operations_placed b c h
    paren_placed b (End c) h = tt

    pub paren_state : (b : ℕ) (k : Walk) → PlacedAt s k before → proper b (so_far (state_at s k)) ≡ true
        → state_at s (paren_walk s b k at close) ≡ checked_step b (state_at s k) (paren args)
    unfolding paren_walk operation_walk state_at tests_at operations_at step so_far
    paren_state b Start h e = sym (step_broke b at_start (paren args) refl)
    paren_state b Broken h e = sym (step_broke b broken (paren args) refl)
    paren_state b (Mode c) h e = sym (step_broke b (at_mode (slice c.from c.label s)) (paren args) refl)
    paren_state b (Tests c) h e =
        let ts = tests_at s c in
        let label = slice c.from c.label s in
        let more = (more_here c.tests c.test h.tests h.left).0 in
        state_cond (is_test b args) (Tests (more_tests c)) Broken
        ∙ ap (λ (us : List (List (List ℕ))). cond (is_test b args) (in_tests label c.mode us) broken) more
        ∙ sym (step_tested b (in_tests label c.mode ts) (paren args) (is_test b args)
        (test_proper b label c.mode ts args (proper_parts b (so_far (in_tests label c.mode ts)) e)))
    paren_state b (Then c) h e =
        let ts = tests_at s c in
        let label = slice c.from c.label s in
        let none_yet : parens_in c.operations (drop c.operation s) ≡ [] = ap (λ (n : ℕ). parens_in n (drop c.operation s)) h.1
        ∙ no_parens (drop c.operation s) in
        let more = (more_here c.operations c.operation h.0.counted.operations h.0.left).0
        ∙ ap (λ (us : List (List (List ℕ))). us ++ args ∷ []) none_yet in
        state_cond (is_operation b args) (Operations (more_operations c)) Broken
        ∙ ap (λ (us : List (List (List ℕ))). cond (is_operation b args) (in_operations label c.mode ts us) broken) more
        ∙ sym (step_tested b (at_then label c.mode ts) (paren args) (is_operation b args)
        (operation_proper b label c.mode ts [] args (proper_parts b (so_far (in_operations label c.mode ts [])) e)))
    paren_state b (Operations c) h e =
        let os = operations_at s c in
        let ts = tests_at s c in
        let label = slice c.from c.label s in
        let more = (more_here c.operations c.operation h.counted.operations h.left).0 in
        state_cond (is_operation b args) (Operations (more_operations c)) Broken
        ∙ ap (λ (us : List (List (List ℕ))). cond (is_operation b args) (in_operations label c.mode ts us) broken) more
        ∙ sym (step_tested b (in_operations label c.mode ts os) (paren args) (is_operation b args)
        (operation_proper b label c.mode ts os args (proper_parts b (so_far (in_operations label c.mode ts os)) e)))
    paren_state b (End c) h e = sym (step_broke b (at_end (line_at s c)) (paren args) refl)

-- a mode word by its place
module _ (s : List ℕ) (from label at end : ℕ) (other : Walk) where
  pub mode_other : is_mode (slice at end s) ≡ false → other ≡ mode_walk s from label at end other
  unfolding mode_walk
  mode_other e = rw e

  pub mode_known : {mode : ℕ} → is_mode (slice at end s) ≡ true → mode ≡ place_of (slice at end s) mode_words
      → entered_walk from label mode end ≡ mode_walk s from label at end other
  unfolding mode_walk
  mode_known e is = rw (e, is)
