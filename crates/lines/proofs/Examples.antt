-- Worked examples, computed from the definitions: the four routines of document 000, section 6, with IFALL for IF, IFNONE for NOT and 1 for
-- its misprinted I, and a text for each common fault. Assumes nothing.
use Prim.Native.Nat.{ℕ}
use Prim.Native.String.{String}
use mathlib.Core.Bool.{Bool, true, ◌&&◌}
use lib.Dec.{eqb}
use mathlib.Core.Path.{◌≡◌, refl}
use mathlib.Core.List.{List, [], ◌∷◌, ◌++◌}
use Rattle.character.specs.Character.{number, packed, period, code_of}
use Rattle.lines.specs.Reading.{after_parens, before, behind, closed, cut, ending, front, kept, labelled, line_of, lines_of}
use Rattle.lines.specs.Reading.{moded, onto, onward, operating, parens, pieces_in, place_of, read_line, read_lines, split, tested}
use Rattle.lines.specs.Reading.{token_at, typed_of}
use Rattle.lines.specs.Words.{all, any, character_code, gives_name, is_character, is_decimal, is_definition, is_digit, is_done}
use Rattle.lines.specs.Words.{is_field, is_field_name, is_hollerith, is_kind, is_label, is_letter, is_mode, is_name, is_octal}
use Rattle.lines.specs.Words.{is_octal_digit, is_symbol, last_byte_of, literal, mode_words, name_number, pair_of, same, spelled}
use Rattle.lines.specs.Words.{starts_with}
use Rattle.lines.specs.Program.{bad_labels, called_in, chained_rows, declares, fault_of, flat, go_to_row, kept_lines, line_row}
use Rattle.lines.specs.Program.{lowest_fault, numbers_of, operation_row, program, reading, refusal_of, refused, row_count, row_of}
use Rattle.lines.specs.Program.{rows_from, size, table_of, test_row, too_long, used}
use Rattle.lines.specs.Grammar.{indented, is_line, is_typed, joined, optional, pieces, spaced, then_word, tokens, written_line}
use Rattle.lines.specs.Grammar.{written_pieces, written_text, written_token}
use Rattle.lines.specs.Forms.{are_kinds, expanded, fits, form_of, is_argument, is_operation, is_test, name_in, operand_at}
use Rattle.lines.specs.Forms.{operation_forms, pairs_of, row_in, symbols_in, test_forms}

-- a text, the numbers lent, the refusal and its line
record Example : Type 0 where
  text : List ℕ
  lent : ℕ
  number : ℕ
  line : ℕ

abbrev for : String → ℕ → ℕ → ℕ → Example
for text lent number line = record { text = spelled text; lent = lent; number = number; line = line }

-- the lines of a text, each with its byte 10
lines_in : List String → List ℕ
lines_in [] = []
lines_in (line ∷ lines) = spelled line ++ lines_in lines

abbrev for_lines : List String → ℕ → ℕ → ℕ → Example
for_lines lines lent number line = record { text = lines_in lines; lent = lent; number = number; line = line }

examples : List Example
examples =
    -- 6.1 to 6.3
    for_lines (
    "INP THEN (W,GT,2) (WB,E,32767) (S,FC,X)\n"
    ∷ "RD THEN (X,IN,6) (X,BZ,X)\n"
    ∷ "      THEN (W,GT,2,WA) (WAD,P,W) (WB,DB,X)\n"
    ∷ "      IFNONE (X,E,0) RD\n"
    ∷ "      THEN (X,IN,73) (R,FC,X) DONE\n"
    ∷ "ORDER THEN (S,FC,X) (X,P,WA)\n"
    ∷ "ND IFALL (XA,E,0) THEN (R,FC,X) DONE\n"
    ∷ "BACK IFALL (XB,E,XDB) THEN (XDA,P,XA) (XAD,P,XD) (X,FR,XA) ND\n"
    ∷ " IFALL (XB,L,XDB) THEN (XB,IC,XDB) (X,D) BACK\n"
    ∷ " THEN (X,A) ND\n"
    ∷ "OUTPUT THEN (W,FR,WA) (S,FC,X)\n"
    ∷ "ANYMOR IFALL (WA,E,0) THEN (W,FR,0) (1,PR,77) (R,FC,X) DONE\n"
    ∷ " THEN (X,BD,WB) (X,ZB,X) (6,PR,X) (W,FR,WA) ANYMOR\n"
    ∷ []) 8000 0 0
    -- an empty text
    ∷ for "" 8000 23 1
    -- the last line's byte 10 is missing
    ∷ for " THEN DONE" 8000 23 1
    -- a mode word in column one
    ∷ for "THEN DONE\n" 8000 23 1
    -- THEN without operations
    ∷ for " IFALL(X,E,0)THEN DONE\n" 8000 23 1
    -- neither operations nor a go-to
    ∷ for " IFALL(X,E,0)\n" 8000 23 1
    -- a blank before byte 10
    ∷ for " THEN DONE \n" 8000 23 1
    -- a blank inside a parenthesis
    ∷ for " THEN (X, E,0)\n" 8000 23 1
    -- 8 is no octal digit
    ∷ for " THEN(X,O,8)\n" 8000 23 1
    -- a label that no line declares
    ∷ for " THEN L1\n" 8000 24 1
    -- a label declared again
    ∷ for "A THEN A\nA THEN A\n" 8000 24 2
    -- a broken line declares none
    ∷ for " THEN A\nA THEN\n" 8000 24 1
    -- the lowest line decides, and on it the lower number
    ∷ for "A THEN A\nA THEN\n" 8000 23 2
    -- two lines want thirty numbers
    ∷ for " THEN DONE\n THEN DONE\n" 29 25 2
    ∷ for " THEN DONE\n THEN DONE\n" 30 0 0
    -- a label that is a mode word
    ∷ for " THEN THEN\n" 8000 23 1
    -- a DO of DONE
    ∷ for " THEN (DO,DONE)\n" 8000 23 1
    -- DO of STATE, an ordinary label
    ∷ for "STATE THEN (DO,STATE)\n" 8000 0 0
    -- IF and NOT are labels
    ∷ for "IF THEN NOT\nNOT THEN IF\n" 8000 0 0
    -- leading zeros
    ∷ for " THEN (X,E,0007)\n" 8000 0 0
    -- (a,FR,0) has the one digit 0
    ∷ for " THEN (X,FR,00)\n" 8000 23 1
    -- 24 comes before 25
    ∷ for " THEN L1\n" 0 24 1
    ∷ []

right : Example → Bool
right e = eqb (refusal_of 36 e.lent e.text).number e.number && eqb (refusal_of 36 e.lent e.text).line e.line

all_right : all right examples ≡ true
unfolding examples right lines_in number packed period code_of after_parens before behind closed cut ending front kept labelled line_of lines_of moded onto onward
    operating parens pieces_in place_of read_line read_lines split tested token_at typed_of all any character_code gives_name is_character is_decimal
    is_definition is_digit is_done is_field is_field_name is_hollerith is_kind is_label is_letter is_mode is_name is_octal is_octal_digit is_symbol last_byte_of literal
    mode_words name_number pair_of same spelled starts_with bad_labels called_in chained_rows declares fault_of flat go_to_row kept_lines line_row lowest_fault
    numbers_of operation_row program reading refusal_of refused row_count row_of rows_from size table_of test_row too_long used indented is_line is_typed joined
    optional pieces spaced then_word tokens written_line written_pieces written_text written_token are_kinds expanded fits form_of is_argument is_operation
    is_test name_in operand_at operation_forms pairs_of row_in symbols_in test_forms
all_right = refl

-- 6.4: its table
returning : table_of 36 (program 36 (spelled "RTRE IFALL (W,E,0) DONE\n THEN (S,FC,WA) (W,FR,WD) (DO,RTRE) (R,FC,W) RTRE\n"))
    ≡ 0 ∷ 0 ∷ 0 ∷ 0 ∷ 0 ∷ 0 ∷ 0 ∷ 0 ∷ 0 ∷ 0
    ∷ 1 ∷ 3 ∷ 1 ∷ 0 ∷ 2 ∷ 0 ∷ 65535 ∷ 0 ∷ 0 ∷ 0
    ∷ 2 ∷ 0 ∷ 1 ∷ 0 ∷ 2 ∷ 33 ∷ 1 ∷ 0 ∷ 0 ∷ 0
    ∷ 1 ∷ 0 ∷ 0 ∷ 0 ∷ 0 ∷ 4 ∷ 1 ∷ 0 ∷ 0 ∷ 0
    ∷ 3 ∷ 5 ∷ 32 ∷ 0 ∷ 2 ∷ 2123 ∷ 0 ∷ 0 ∷ 0 ∷ 0
    ∷ 3 ∷ 6 ∷ 4 ∷ 0 ∷ 2 ∷ 33 ∷ 2 ∷ 2126 ∷ 0 ∷ 0
    ∷ 3 ∷ 7 ∷ 36 ∷ 0 ∷ 1 ∷ 1 ∷ 0 ∷ 0 ∷ 0 ∷ 0
    ∷ 3 ∷ 0 ∷ 33 ∷ 0 ∷ 2 ∷ 33 ∷ 0 ∷ 0 ∷ 0 ∷ 0
    ∷ []
unfolding number packed period code_of after_parens before behind closed cut ending front kept labelled line_of lines_of moded onto onward operating
    parens pieces_in place_of read_line read_lines split tested token_at typed_of all any character_code gives_name is_character is_decimal is_definition is_digit
    is_done is_field is_field_name is_hollerith is_kind is_label is_letter is_mode is_name is_octal is_octal_digit is_symbol last_byte_of literal mode_words name_number
    pair_of same spelled starts_with bad_labels called_in chained_rows declares fault_of flat go_to_row kept_lines line_row lowest_fault numbers_of operation_row
    program reading refusal_of refused row_count row_of rows_from size table_of test_row too_long used indented is_line is_typed joined optional pieces spaced
    then_word tokens written_line written_pieces written_text written_token are_kinds expanded fits form_of is_argument is_operation is_test name_in operand_at
    operation_forms pairs_of row_in symbols_in test_forms
returning = refl
