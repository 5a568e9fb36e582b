-- A line read token by token is the line that `line_of` gives. Assumes nothing.
use Prim.Native.Nat.{ℕ}
use mathlib.Core.Path.{◌≡◌, refl, sym, subst}
use mathlib.Core.Bool.{cond}
use mathlib.Core.List.{List, [], ◌∷◌, ◌++◌, append-nil, append_assoc}
use mathlib.Core.Option.{none}
use lib.Dec.{eqb}
use Rattle.word.proofs.Tests.{by_test}
use Rattle.lines.specs.Words.{spelled, same, is_empty, mode_words, is_mode}
use Rattle.lines.specs.Grammar.{Line, Token, word, paren}
use Rattle.lines.specs.Reading.{parens, after_parens, ending, operating, tested, moded, place_of, labelled, line_of}
use Rattle.lines.specs.Walking.{at_start, broken, at_mode, in_tests, at_then, in_operations, at_end, entered, step, fed, finished}

pub fed_broken : (ts : List Token) → finished (fed broken ts) ≡ none
unfolding fed step finished
fed_broken [] = refl
fed_broken (t ∷ ts) = fed_broken ts

fed_ended : (l : Line) (t : Token) (ts : List Token) → finished (fed (at_end l) (t ∷ ts)) ≡ none
unfolding fed step
fed_ended l t ts = fed_broken ts

module _ (label : List ℕ) (mode : ℕ) (tests : List (List (List ℕ))) where
  fed_operations : (os : List (List (List ℕ))) (ts : List Token)
      → finished (fed (in_operations label mode tests os) ts) ≡ ending label mode tests (os ++ parens ts) (after_parens ts)
  unfolding fed step finished ending parens after_parens
  fed_operations os [] = rw (append-nil os)
  fed_operations os (word w ∷ []) = rw (append-nil os)
  fed_operations os (word w ∷ t ∷ ts) = fed_broken ts
  fed_operations os (paren args ∷ ts) = rw (fed_operations (os ++ args ∷ []) ts, append_assoc os (args ∷ []) (parens ts))

  fed_then : (ts : List Token) → finished (fed (at_then label mode tests) ts) ≡ cond (is_empty (parens ts)) none (operating label mode tests ts)
  unfolding fed step finished operating parens after_parens
  fed_then [] = refl
  fed_then (word w ∷ ts) = fed_broken ts
  fed_then (paren args ∷ ts) = fed_operations (args ∷ []) ts

fed_tests : (label : List ℕ) (mode : ℕ) (tests : List (List (List ℕ))) (ts : List Token)
    → finished (fed (in_tests label mode tests) ts) ≡ tested label mode (tests ++ parens ts) (after_parens ts)
unfolding fed step finished tested ending parens after_parens
fed_tests label mode tests [] = rw (append-nil tests)
fed_tests label mode tests (word w ∷ ts) =
    subst (λ (xs : List (List (List ℕ))). finished (fed (in_tests label mode tests) (word w ∷ ts)) ≡ tested label mode xs (word w ∷ ts))
    (sym (append-nil tests))
    (by_test (λ t. finished
    (fed (cond t (at_then label mode tests) (at_end (record { label = label; mode = mode; tests = tests; operations = []; go_to_of = w }))) ts)
    ≡ cond t (cond (is_empty (parens ts)) none (operating label mode tests ts)) (ending label mode tests [] (word w ∷ ts))) (same w (spelled "THEN"))
    (λ _. fed_then label mode tests ts) (λ _. fed_go_to ts))
  where
    fed_go_to : (us : List Token)
        → finished (fed (at_end (record { label = label; mode = mode; tests = tests; operations = []; go_to_of = w })) us) ≡ ending label mode tests [] (word w ∷ us)
    fed_go_to [] = refl
    fed_go_to (u ∷ us) = fed_broken us
fed_tests label mode tests (paren args ∷ ts) =
    rw (fed_tests label mode (tests ++ args ∷ []) ts, append_assoc tests (args ∷ []) (parens ts))

fed_entered : (label : List ℕ) (mode : ℕ) (ts : List Token) → finished (fed (entered label mode) ts) ≡ moded label mode ts
unfolding entered moded operating
fed_entered label mode ts =
    by_test (λ t. finished (fed (cond t (in_operations label mode [] []) (in_tests label mode [])) ts)
    ≡ cond t (operating label mode [] ts) (tested label mode (parens ts) (after_parens ts))) (eqb mode 0)
    (λ _. fed_operations label mode [] [] ts) (λ _. fed_tests label mode [] ts)

fed_label : (label : List ℕ) (ts : List Token) → finished (fed (at_mode label) ts) ≡ labelled label ts
unfolding fed step finished labelled
fed_label label [] = refl
fed_label label (paren args ∷ ts) = fed_broken ts
fed_label label (word w ∷ ts) =
    by_test (λ t. finished (fed (cond t (entered label (place_of w mode_words)) broken) ts) ≡ cond t (moded label (place_of w mode_words) ts) none) (is_mode w)
    (λ _. fed_entered label (place_of w mode_words) ts) (λ _. fed_broken ts)

-- the tokens fed one after the other
pub fed_line : (ts : List Token) → finished (fed at_start ts) ≡ line_of ts
unfolding fed step finished line_of
fed_line [] = refl
fed_line (paren args ∷ ts) = fed_broken ts
fed_line (word w ∷ ts) =
    by_test (λ t. finished (fed (cond t (entered [] (place_of w mode_words)) (at_mode w)) ts) ≡ cond t (moded [] (place_of w mode_words) ts) (labelled w ts))
    (is_mode w)
    (λ _. fed_entered [] (place_of w mode_words) ts) (λ _. fed_label w ts)
