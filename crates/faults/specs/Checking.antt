-- A line read token by token, with what the grammar asks tested on the way, and the parts of a line by their places.
-- `proofs/Checked.antt` has that the lines so read are those of `read_line`. Assumes nothing.
use Rattle.std.specs.Prelude.{ℕ, zero, suc, ◌+◌, ◌≤◌, ◌<◌, ◌≡◌, Bool, not, ◌&&◌, ◌||◌, cond, List, [], ◌∷◌, map, eqb, leb, length, drop}
use Rattle.std.specs.Prelude.{Some, None, Option as RustOption}
use Rattle.std.proofs.Math.Option.{Option, none, some}
use Rattle.std.proofs.Math.Seq.{slice}
use Rattle.word.specs.Told.{Told, tells, gives, refuses}
use Rattle.faults.specs.declared.Scan.{Scan}
use Rattle.faults.specs.declared.Walk.{Walk}
use Rattle.faults.specs.declared.Walk.TheVariants.{Start, Broken, Mode, Tests, Then, Operations, End}
use Rattle.lines.specs.declared.Spot.{Spot}
use Rattle.lines.specs.declared.Spot.TheVariants.{Word, Paren}
use Rattle.lines.specs.Words.{spelled, same, is_empty, all, mode_words, is_mode, is_done, is_label}
use Rattle.lines.specs.Forms.{is_test, is_operation}
use Rattle.lines.specs.Grammar.{Line, Token, word, paren, Piece, Typed}
use Rattle.lines.specs.Reading.{front, behind, is_blank, split, place_of, Found, token_at}
use Rattle.lines.specs.Walking.{State, at_start, broken, at_mode, in_tests, at_then, in_operations, at_end, step, finished}

abbrev pub no_line_of : Line
no_line_of = record { label = []; mode = 0; tests = []; operations = []; go_to_of = [] }

-- what was read of a line
unfoldable pub so_far : State → Line
so_far at_start = no_line_of
so_far broken = no_line_of
so_far (at_mode label) = record { label = label; mode = 0; tests = []; operations = []; go_to_of = [] }
so_far (in_tests label mode tests) = record { label = label; mode = mode; tests = tests; operations = []; go_to_of = [] }
so_far (at_then label mode tests) = record { label = label; mode = mode; tests = tests; operations = []; go_to_of = [] }
so_far (in_operations label mode tests operations) =
    record { label = label; mode = mode; tests = tests; operations = operations; go_to_of = [] }
so_far (at_end l) = l

-- what `is_line` asks of each part, and what it asks of a whole line
unfoldable pub proper : ℕ → Line → Bool
proper b l =
    (is_empty l.label || is_label l.label)
    && (leb l.mode 4 && (all (is_test b) l.tests && (all (is_operation b) l.operations
    && (is_empty l.go_to_of || (is_done l.go_to_of || is_label l.go_to_of)))))

unfoldable pub enough : Line → Bool
enough l =
    cond (eqb l.mode 0) (is_empty l.tests) (not (is_empty l.tests)) && not (is_empty l.operations && is_empty l.go_to_of)

unfoldable pub checked_step : ℕ → State → Token → State
checked_step b st t = cond (proper b (so_far (step st t))) (step st t) broken

unfoldable pub checked_fed : ℕ → State → List Token → State
checked_fed b st [] = st
checked_fed b st (t ∷ ts) = checked_fed b (checked_step b st t) ts

unfoldable pub only_if : (Line → Bool) → Option Line → Option Line
only_if p none = none
only_if p (some l) = cond (p l) (some l) none

-- the line of pieces, where a state goes on with them
unfoldable pub line_from : ℕ → State → Option (List Piece) → Option Line
line_from b st none = none
line_from b st (some ps) = only_if enough (finished (checked_fed b st (map (λ (p : Piece). p.token) ps)))

-- a label stands in column one, and a line without a label begins with blanks
unfoldable pub in_column : List ℕ → Line → Bool
in_column s l = cond (is_empty l.label) (leb 1 (length (front is_blank s))) (eqb (length (front is_blank s)) 0)

unfoldable pub line_read : Option Typed → Option Line
line_read none = none
line_read (some t) = some t.line

-- what the reading of a line tells: the line, or 23
unfoldable pub typed_told : Option Typed → Told Line
typed_told none = refuses 23
typed_told (some t) = gives t.line

-- what scanning a line answers: the places of its parts, or none where the line breaks the grammar
abbrev pub Scanned : Type 0
Scanned = RustOption Scan

-- a scan in numbers: 0 and the places of the line's parts, or 23
abbrev pub told_scanned : Scanned → Told Scan
told_scanned (Some c) = gives c
told_scanned None = refuses 23

-- how far a line is read in numbers: 0, how far and the places so far, or 23 where it is broken. The papers give the steps no
-- numbers: they are 1 to 5
unfoldable pub told_walk : Walk → Told (ℕ × Scan)
told_walk Start = tells 0 []
told_walk Broken = refuses 23
told_walk (Mode c) = gives (1, c)
told_walk (Tests c) = gives (2, c)
told_walk (Then c) = gives (3, c)
told_walk (Operations c) = gives (4, c)
told_walk (End c) = gives (5, c)

-- the parentheses that come next, up to a number of them, and what follows
unfoldable pub parens_on : (List ℕ → List (List (List ℕ))) → List ℕ → Token → List (List (List ℕ))
parens_on more rest (word w) = []
parens_on more rest (paren args) = args ∷ more rest

unfoldable pub parens_next : (List ℕ → List (List (List ℕ))) → Option Found → List (List (List ℕ))
parens_next more none = []
parens_next more (some f) = parens_on more f.rest f.token

unfoldable pub parens_in : ℕ → List ℕ → List (List (List ℕ))
parens_in zero s = []
parens_in (suc n) s = parens_next (parens_in n) (token_at (behind is_blank s))

unfoldable pub after_next : (List ℕ → List ℕ) → Option Found → List ℕ
after_next more none = []
after_next more (some f) = more f.rest

unfoldable pub after_in : ℕ → List ℕ → List ℕ
after_in zero s = s
after_in (suc n) s = after_next (after_in n) (token_at (behind is_blank s))

module _ (s : List ℕ) where
  -- the line with its parts at these places
  unfoldable pub tests_at : Scan → List (List (List ℕ))
  tests_at c = parens_in c.tests (drop c.test s)

  unfoldable pub operations_at : Scan → List (List (List ℕ))
  operations_at c = parens_in c.operations (drop c.operation s)

  unfoldable pub line_at : Scan → Line
  line_at c =
      record {
        label = slice c.from c.label s;
        mode = c.mode;
        tests = tests_at c;
        operations = operations_at c;
        go_to_of = slice c.goes c.ends s;
      }

  unfoldable pub scanned_line : Scanned → Option Line
  scanned_line None = none
  scanned_line (Some c) = some (line_at c)

  -- what is told of the line at the places that are told
  unfoldable pub line_told : Told Scan → Told Line
  line_told (tells n cs) = tells n (map line_at cs)

  unfoldable pub state_at : Walk → State
  state_at Start = at_start
  state_at Broken = broken
  state_at (Mode c) = at_mode (slice c.from c.label s)
  state_at (Tests c) = in_tests (slice c.from c.label s) c.mode (tests_at c)
  state_at (Then c) = at_then (slice c.from c.label s) c.mode (tests_at c)
  state_at (Operations c) = in_operations (slice c.from c.label s) c.mode (tests_at c) (operations_at c)
  state_at (End c) = at_end (line_at c)

  -- the places so far: counts are those of the parentheses, and what follows the last of them is what is left of the line
  pub record Counted (c : Scan) (most : ℕ) : Type 0 where
    pub label : (c.from ≤ c.label) × (c.label ≤ length s)
    pub tests : length (tests_at c) ≡ c.tests
    pub operations : length (operations_at c) ≡ c.operations
    pub begins : c.operation ≤ length s
    pub few : c.tests + c.operations ≤ most

  pub record Testing (c : Scan) (at : ℕ) : Type 0 where
    pub label : (c.from ≤ c.label) × (c.label ≤ length s)
    pub tests : length (tests_at c) ≡ c.tests
    pub few : c.tests ≤ at
    pub left : after_in c.tests (drop c.test s) ≡ drop at s

  pub record Operating (c : Scan) (at : ℕ) : Type 0 where
    pub counted : Counted c at
    pub left : after_in c.operations (drop c.operation s) ≡ drop at s

  pub record Placed (c : Scan) : Type 0 where
    pub counted : Counted c (length s)
    pub less : c.tests + c.operations < length s
    pub go_to : (c.goes ≤ c.ends) × (c.ends ≤ length s)

  abbrev pub PlacedAt : Walk → ℕ → Type 0
  PlacedAt Start at = Unit {0}
  PlacedAt Broken at = Unit {0}
  PlacedAt (Mode c) at = (c.from ≤ c.label) × (c.label ≤ length s)
  PlacedAt (Tests c) at = Testing c at
  PlacedAt (Then c) at = Operating c at × (c.operations ≡ 0)
  PlacedAt (Operations c) at = Operating c at
  PlacedAt (End c) at = Placed c

  -- places that are told, if any are
  abbrev pub PlacedTold : Told Scan → Type 0
  PlacedTold (tells n []) = Unit {0}
  PlacedTold (tells n (c ∷ cs)) = Placed c

  abbrev pub PlacedIn : Scanned → Type 0
  PlacedIn r = PlacedTold (told_scanned r)

-- places set: after a label, after a mode word, after THEN, with a test more, with an operation more, with a go-to
abbrev pub label_scan : ℕ → ℕ → Scan
label_scan at end =
    record { from = at; label = end; mode = 0; test = 0; tests = 0; operation = 0; operations = 0; goes = 0; ends = 0 }

abbrev pub mode_scan : ℕ → ℕ → ℕ → ℕ → Scan
mode_scan from label mode end =
    record { from = from; label = label; mode = mode; test = end; tests = 0; operation = end; operations = 0; goes = 0; ends = 0 }

abbrev pub then_scan : Scan → ℕ → Scan
then_scan c end =
    record {
      from = c.from;
      label = c.label;
      mode = c.mode;
      test = c.test;
      tests = c.tests;
      operation = end;
      operations = 0;
      goes = 0;
      ends = 0;
    }

abbrev pub more_tests : Scan → Scan
more_tests c =
    record {
      from = c.from;
      label = c.label;
      mode = c.mode;
      test = c.test;
      tests = c.tests + 1;
      operation = c.operation;
      operations = c.operations;
      goes = 0;
      ends = 0;
    }

abbrev pub more_operations : Scan → Scan
more_operations c =
    record {
      from = c.from;
      label = c.label;
      mode = c.mode;
      test = c.test;
      tests = c.tests;
      operation = c.operation;
      operations = c.operations + 1;
      goes = 0;
      ends = 0;
    }

abbrev pub go_scan : Scan → ℕ → ℕ → Scan
go_scan c at end =
    record {
      from = c.from;
      label = c.label;
      mode = c.mode;
      test = c.test;
      tests = c.tests;
      operation = c.operation;
      operations = c.operations;
      goes = at;
      ends = end;
    }

-- how a walk goes on with a word and with a parenthesis at a place
unfoldable pub entered_walk : ℕ → ℕ → ℕ → ℕ → Walk
entered_walk from label mode end =
    cond (eqb mode 0) (Operations (mode_scan from label mode end)) (Tests (mode_scan from label mode end))

module _ (s : List ℕ) where
  unfoldable pub go_walk : Scan → ℕ → ℕ → Walk
  go_walk c at end = cond (is_done (slice at end s) || is_label (slice at end s)) (End (go_scan c at end)) Broken

  unfoldable pub mode_walk : ℕ → ℕ → ℕ → ℕ → Walk → Walk
  mode_walk from label at end other =
      cond (is_mode (slice at end s)) (entered_walk from label (place_of (slice at end s) mode_words) end) other

  unfoldable pub word_walk : Walk → ℕ → ℕ → Walk
  word_walk Start at end = mode_walk 0 0 at end (cond (is_label (slice at end s)) (Mode (label_scan at end)) Broken)
  word_walk Broken at end = Broken
  word_walk (Mode c) at end = mode_walk c.from c.label at end Broken
  word_walk (Tests c) at end = cond (same (slice at end s) (spelled "THEN")) (Then (then_scan c end)) (go_walk (then_scan c end) at end)
  word_walk (Then c) at end = Broken
  word_walk (Operations c) at end = go_walk c at end
  word_walk (End c) at end = Broken

  unfoldable pub operation_walk : ℕ → Scan → ℕ → ℕ → Walk
  operation_walk b c at close = cond (is_operation b (split (slice (at + 1) close s))) (Operations (more_operations c)) Broken

  unfoldable pub paren_walk : ℕ → Walk → ℕ → ℕ → Walk
  paren_walk b Start at close = Broken
  paren_walk b Broken at close = Broken
  paren_walk b (Mode c) at close = Broken
  paren_walk b (Tests c) at close = cond (is_test b (split (slice (at + 1) close s))) (Tests (more_tests c)) Broken
  paren_walk b (Then c) at close = operation_walk b c at close
  paren_walk b (Operations c) at close = operation_walk b c at close
  paren_walk b (End c) at close = Broken

  unfoldable pub spot_walk : ℕ → Walk → ℕ → Spot → Walk
  spot_walk b w at (Word end) = word_walk w at end
  spot_walk b w at (Paren close) = paren_walk b w at close

-- the place after a token
unfoldable pub place_after : Spot → ℕ
place_after (Word end) = end
place_after (Paren close) = close + 1

-- counts that one more fits
abbrev pub Few : Walk → ℕ → Type 0
Few Start at = Unit {0}
Few Broken at = Unit {0}
Few (Mode c) at = Unit {0}
Few (Tests c) at = c.tests ≤ at
Few (Then c) at = c.operations ≤ at
Few (Operations c) at = c.operations ≤ at
Few (End c) at = Unit {0}

-- `enough` and `in_column` by places, and the line where one may end
unfoldable pub enough_at : Scan → Bool
enough_at c =
    cond (eqb c.mode 0) (eqb c.tests 0) (not (eqb c.tests 0)) && not (eqb c.operations 0 && eqb c.goes c.ends)

unfoldable pub column_at : List ℕ → Scan → Bool
column_at s c = cond (eqb c.from c.label) (leb 1 (length (front is_blank s))) (eqb (length (front is_blank s)) 0)

unfoldable pub end_scan : List ℕ → Scan → Scanned
end_scan s c = cond (enough_at c && column_at s c) (Some c) None

unfoldable pub finish_walk : List ℕ → Walk → Scanned
finish_walk s Start = None
finish_walk s Broken = None
finish_walk s (Mode c) = None
finish_walk s (Tests c) = end_scan s (then_scan c 0)
finish_walk s (Then c) = None
finish_walk s (Operations c) = end_scan s (go_scan c 0 0)
finish_walk s (End c) = end_scan s c
