-- What the contracts of inner functions name besides: the tokens of a text by their places, a line read token by token, which
-- `proofs/Walking.antt` of crate faults has to be `line_of`, and Table II as the code has it. Assumes nothing.
use Rattle.std.specs.Prelude.{ℕ, suc, ◌+◌, ◌-◌, ◌≤◌, ◌<◌, Bool, not, ◌&&◌, cond}
use Rattle.std.specs.Prelude.{List, [], ◌∷◌, ◌++◌, map, eqb, leb, ltb, length, drop}
use Rattle.std.specs.Prelude.{Option as RustOption, Some, None}
use Rattle.std.proofs.Math.Option.{Option, none, some}
use Rattle.std.proofs.Math.Seq.{slice}
use Rattle.word.specs.Told.{Told, tells}
use Rattle.lines.specs.declared.Spot.{Spot}
use Rattle.lines.specs.declared.Spot.TheVariants.{Word, Paren}
use Rattle.lines.specs.declared.Kind.{Kind as RustKind}
use Rattle.lines.specs.declared.Kind.TheVariants as rust
use Rattle.lines.specs.declared.Kind.TheVariants.{Field, Decimal, Octal, Hollerith, FieldOrDecimal, FieldOrOctal}
use Rattle.lines.specs.declared.Kind.TheVariants.{Name, Definition, Symbol}
use Rattle.lines.specs.declared.Form.{Form as RustForm}
use Rattle.lines.specs.Words.{spelled, same, is_empty, all, literal, mode_words, is_mode, Kind, itself, field, decimal, octal}
use Rattle.lines.specs.Words.{hollerith}
use Rattle.lines.specs.Words.{field_or_decimal, field_or_octal, name, definition, symbol}
use Rattle.lines.specs.Forms.{Form, test_forms, operation_forms, expanded, form_of, symbols_in}
use Rattle.lines.specs.Grammar.{Line, Token, word, paren}
use Rattle.lines.specs.Reading.{split, Found, place_of}

-- where a reader stands: at the start, after a label, among tests, after THEN, among operations, after the go-to; each with what it
-- has read
pub data State : Type 0 where
  at_start broken : State
  at_mode : List ℕ → State
  in_tests at_then : List ℕ → ℕ → List (List (List ℕ)) → State
  in_operations : List ℕ → ℕ → List (List (List ℕ)) → List (List (List ℕ)) → State
  at_end : Line → State

-- after the mode word
unfoldable pub entered : List ℕ → ℕ → State
entered label mode = cond (eqb mode 0) (in_operations label mode [] []) (in_tests label mode [])

unfoldable pub step : State → Token → State
step at_start (word w) = cond (is_mode w) (entered [] (place_of w mode_words)) (at_mode w)
step at_start (paren args) = broken
step broken t = broken
step (at_mode label) (word w) = cond (is_mode w) (entered label (place_of w mode_words)) broken
step (at_mode label) (paren args) = broken
step (in_tests label mode tests) (word w) =
    cond (same w (spelled "THEN")) (at_then label mode tests)
    (at_end (record { label = label; mode = mode; tests = tests; operations = []; go_to_of = w }))
step (in_tests label mode tests) (paren args) = in_tests label mode (tests ++ args ∷ [])
step (at_then label mode tests) (word w) = broken
step (at_then label mode tests) (paren args) = in_operations label mode tests (args ∷ [])
step (in_operations label mode tests operations) (word w) =
    at_end (record { label = label; mode = mode; tests = tests; operations = operations; go_to_of = w })
step (in_operations label mode tests operations) (paren args) = in_operations label mode tests (operations ++ args ∷ [])
step (at_end l) t = broken

unfoldable pub fed : State → List Token → State
fed s [] = s
fed s (t ∷ ts) = fed (step s t) ts

-- the line, where one may end here
unfoldable pub finished : State → Option Line
finished at_start = none
finished broken = none
finished (at_mode label) = none
finished (in_tests label mode tests) = some (record { label = label; mode = mode; tests = tests; operations = []; go_to_of = [] })
finished (at_then label mode tests) = none
finished (in_operations label mode tests operations) =
    some (record { label = label; mode = mode; tests = tests; operations = operations; go_to_of = [] })
finished (at_end l) = some l

-- a token found at a place of a text: where its word ends, or where its parenthesis closes
unfoldable pub token_of : List ℕ → ℕ → RustOption Spot → Option Found
token_of text at None = none
token_of text at (Some (Word end)) = some (record { token = word (slice at end text); rest = drop end text })
token_of text at (Some (Paren close)) =
    some (record { token = paren (split (slice (suc at) close text)); rest = drop (suc close) text })

-- a token ends within the text
abbrev pub Within : List ℕ → ℕ → RustOption Spot → Type 0
Within text at None = Unit {0}
Within text at (Some (Word end)) = (at < end) × (end ≤ length text)
Within text at (Some (Paren close)) = (at < close) × (close < length text)

-- a token's place in numbers: 1 and where a word ends, 2 and where a parenthesis closes, no values for neither. The papers give
-- these cases no number
unfoldable pub told_spot : RustOption Spot → Told ℕ
told_spot None = tells 0 []
told_spot (Some (Word end)) = tells 0 (1 ∷ end ∷ [])
told_spot (Some (Paren close)) = tells 0 (2 ∷ close ∷ [])

-- what is told of a token of a text by the bytes that follow it
unfoldable pub place_told : List ℕ → Token → List ℕ → Told ℕ
place_told text (word w) rest = tells 0 (1 ∷ (length text - length rest) ∷ [])
place_told text (paren args) rest = tells 0 (2 ∷ (length text - suc (length rest)) ∷ [])

unfoldable pub spot_told : List ℕ → Option Found → Told ℕ
spot_told text none = tells 0 []
spot_told text (some f) = place_told text f.token f.rest

-- a kind and a form of Table II, as the code has them
unfoldable pub kind_of : RustKind → Kind
kind_of (rust.Word v) = itself v.now
kind_of Field = field
kind_of Decimal = decimal
kind_of Octal = octal
kind_of Hollerith = hollerith
kind_of FieldOrDecimal = field_or_decimal
kind_of FieldOrOctal = field_or_octal
kind_of Name = name
kind_of Definition = definition
kind_of Symbol = symbol

unfoldable pub as_form : RustForm → Form
as_form f = record { code = f.code; arguments = map kind_of f.arguments.now; operands = f.operands.now }

-- each operand of a form is one of its arguments
unfoldable pub within : Form → Bool
within f = all (λ (i : ℕ). ltb i (length f.arguments)) f.operands

unfoldable pub forms_of : Bool → List Form
forms_of tests = cond tests test_forms operation_forms

-- a number literal in base 10 or 8, below a limit
unfoldable pub is_digit_of : ℕ → ℕ → Bool
is_digit_of base x = leb 48 x && leb x (47 + base)

unfoldable pub is_number : ℕ → ℕ → List ℕ → Bool
is_number base limit w = not (is_empty w) && (all (is_digit_of base) w && ltb (literal base w) limit)

-- the arguments where they are two
unfoldable pub two_of : List (List ℕ) → RustOption (List ℕ × List ℕ)
two_of [] = None
two_of (x ∷ []) = None
two_of (x ∷ y ∷ []) = Some (x, y)
two_of (x ∷ y ∷ z ∷ ws) = None

-- the arguments written out, for a field and its names: none where there is nothing to write out
unfoldable pub expanded_by : RustOption (List ℕ × List ℕ) → List (List ℕ) → List (List ℕ)
expanded_by None ws = ws
expanded_by (Some p) ws = p.0 ∷ spelled "P" ∷ (p.0 ++ p.1) ∷ []

-- the labels that an operation calls, as `called_in` has them
unfoldable pub calls_in : ℕ → List (List ℕ) → List (List ℕ)
calls_in b x = symbols_in (form_of b (expanded x) operation_forms).arguments (expanded x)
