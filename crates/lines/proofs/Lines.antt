-- A line is read as a tree exactly when the grammar has that tree and it writes the line; so a line has one reading only. The same of texts.
-- Assumes nothing.
use Prim.Native.Nat.{ℕ, zero, suc, ◌≤◌, ◌<◌}
use native.Mathlib.Omega.{arith}
use mathlib.Core.Path.{◌≡◌, refl, ap, sym, subst, ◌∙◌}
use mathlib.Core.Bool.{Bool, true, false, not, ◌&&◌, ◌||◌, cond}
use mathlib.Core.List.{List, [], ◌∷◌, ◌++◌, map}
use mathlib.Core.Option.{Option, none, some}
use borrow.Author.Tests.{eqb-true, eq-eqb, not-true, leb-true}
use lib.Dec.{eqb, leb}
use lib.ListN.{length, get_or, length-append}
use Rattle.word.proofs.Tests.{by_test, and_true}
use Rattle.lines.specs.Words.{spelled, same, is_empty, all, any, is_digit, is_letter, is_name, is_character, mode_words, is_mode}
use Rattle.lines.specs.Words.{is_done, is_label}
use Rattle.lines.specs.Forms.{test_forms, operation_forms, expanded, are_kinds, fits, is_argument, is_test, is_operation}
use Rattle.lines.specs.Grammar.{Line, Token, word, paren, optional, then_word, tokens, written_token, Piece}
use Rattle.lines.specs.Grammar.{written_pieces, spaced, Typed, pieces}
use Rattle.lines.specs.Grammar.{written_line, indented, is_line, is_typed}
use Rattle.lines.specs.Reading.{pieces_in, line_of, kept, typed_of, read_line}
use Rattle.lines.proofs.Lists.{none_some, true_false, some_same, and_both, same_eq, all_first, all_others}
use Rattle.lines.proofs.Lists.{all_append, all_weaken}
use Rattle.lines.proofs.Pieces.{is_proper, proper_piece, pieces_read, is_filled, Cut, pieces_cut}
use Rattle.lines.proofs.Tokens.{Readable, tokens_read, line_tokens}

abbrev pub blanks_of : List Piece → List ℕ
blanks_of ps = map (λ (p : Piece). p.blanks) ps

abbrev pub tokens_of : List Piece → List Token
tokens_of ps = map (λ (p : Piece). p.token) ps

-- pieces are their blanks and their tokens
pub pieces_again : (ps : List Piece) → pieces (blanks_of ps) (tokens_of ps) ≡ ps
unfolding pieces
pieces_again [] = refl
pieces_again (p ∷ ps) = ap (λ (l : List Piece). p ∷ l) (pieces_again ps)

pieces_blanks : (ns : List ℕ) (ts : List Token) → length ns ≡ length ts → blanks_of (pieces ns ts) ≡ ns
unfolding pieces
pieces_blanks [] ts e = refl
pieces_blanks (n ∷ ns) [] e = absurd (omega arith)
pieces_blanks (n ∷ ns) (t ∷ ts) e = ap (λ (l : List ℕ). n ∷ l) (pieces_blanks ns ts (omega arith))

pieces_tokens : (ns : List ℕ) (ts : List Token) → length ns ≡ length ts → tokens_of (pieces ns ts) ≡ ts
unfolding pieces
pieces_tokens [] [] e = refl
pieces_tokens [] (t ∷ ts) e = absurd (omega arith)
pieces_tokens (n ∷ ns) [] e = absurd (omega arith)
pieces_tokens (n ∷ ns) (t ∷ ts) e = ap (λ (l : List Token). t ∷ l) (pieces_tokens ns ts (omega arith))

pub tokens_filled : (ps : List Piece) → all (λ (p : Piece). is_filled p.token) ps ≡ true → all is_filled (tokens_of ps) ≡ true
unfolding all
tokens_filled [] e = refl
tokens_filled (p ∷ ps) e =
    and_both (all_first (λ (q : Piece). is_filled q.token) p ps e) (tokens_filled ps (all_others (λ (q : Piece). is_filled q.token) p ps e))

-- a line that the grammar has, and that writes these bytes
pub record Reads (b : ℕ) (s : List ℕ) (t : Typed) : Type 0 where
  pub typed : is_typed b t ≡ true
  pub written : written_line t ≡ s

line_back : (ps : List Piece) (l : Line) (s : List ℕ) → Cut s ps → line_of (tokens_of ps) ≡ some l → written_line (record { line = l; blanks = blanks_of ps }) ≡ s
unfolding written_line
line_back ps l s c is = rw (line_tokens (tokens_of ps) l (tokens_filled ps c.filled) is, pieces_again ps) c.written

module _ (b : ℕ) (s : List ℕ) where
  kept_reads : (ps : List Piece) (o : Option Line) (t : Typed) → Cut s ps → line_of (tokens_of ps) ≡ o → kept b (blanks_of ps) o ≡ some t → Reads b s t
  unfolding kept
  kept_reads ps none t c is = λ e. absurd (none_some e)
  kept_reads ps (some l) t c is =
      by_test (λ x. cond x (some (record { line = l; blanks = blanks_of ps })) none ≡ some t → Reads b s t)
      (is_typed b (record { line = l; blanks = blanks_of ps }))
      (λ good e. subst (Reads b s) (some_same e) (record { typed = good; written = back }))
      (λ _ e. absurd (none_some e))
    where
      back : written_line (record { line = l; blanks = blanks_of ps }) ≡ s
      back = line_back ps l s c is

  typed_reads : (o : Option (List Piece)) (t : Typed) → pieces_in (length s) s ≡ o → typed_of b o ≡ some t → Reads b s t
  unfolding typed_of
  typed_reads none t is e = absurd (none_some e)
  typed_reads (some ps) t is e = kept_reads ps (line_of (tokens_of ps)) t (pieces_cut (length s) s ps is) refl e

  -- what is read is what the grammar has
  pub line_sound : (t : Typed) → read_line b s ≡ some t → Reads b s t
  unfolding read_line
  line_sound t e = typed_reads (pieces_in (length s) s) t refl e

-- the parts of a line that the grammar has
pub record Parts (b : ℕ) (l : Line) : Type 0 where
  pub labels : (is_empty l.label || is_label l.label) ≡ true
  pub modes : leb l.mode 4 ≡ true
  pub conditions : cond (eqb l.mode 0) (is_empty l.tests) (not (is_empty l.tests)) ≡ true
  pub tests : all (is_test b) l.tests ≡ true
  pub operations : all (is_operation b) l.operations ≡ true
  pub goes : (is_empty l.go_to_of || (is_done l.go_to_of || is_label l.go_to_of)) ≡ true
  pub does : not (is_empty l.operations && is_empty l.go_to_of) ≡ true

pub parts : (b : ℕ) (l : Line) → is_line b l ≡ true → Parts b l
unfolding is_line
parts b l e =
    let (x1, e1) = and_true _ _ e in
    let (x2, e2) = and_true _ _ e1 in
    let (x3, e3) = and_true _ _ e2 in
    let (x4, e4) = and_true _ _ e3 in
    let (x5, e5) = and_true _ _ e4 in
    let (x6, x7) = and_true _ _ e5 in
    record { labels = x1; modes = x2; conditions = x3; tests = x4; operations = x5; goes = x6; does = x7 }

-- a label is a word that is no mode word
pub record LabelParts (w : List ℕ) : Type 0 where
  pub filled : not (is_empty w) ≡ true
  pub short : leb (length w) 6 ≡ true
  pub names : all is_name w ≡ true
  pub no_mode : not (is_mode w) ≡ true
  pub no_done : not (is_done w) ≡ true

pub label_parts : (w : List ℕ) → is_label w ≡ true → LabelParts w
unfolding is_label
label_parts w e =
    let (x1, e1) = and_true _ _ e in
    let (x2, e2) = and_true _ _ e1 in
    let (x3, e3) = and_true _ _ e2 in
    let (x4, x5) = and_true _ _ e3 in
    record { filled = x1; short = x2; names = x3; no_mode = x4; no_done = x5 }

label_proper : (w : List ℕ) → is_label w ≡ true → is_proper (word w) ≡ true
unfolding is_proper
label_proper w e = let p = label_parts w e in and_both p.filled p.names

label_mode : (w : List ℕ) → is_label w ≡ true → is_mode w ≡ false
label_mode w e = not-true (is_mode w) (label_parts w e).no_mode

done_word : (w : List ℕ) → is_done w ≡ true → w ≡ spelled "DONE"
unfolding is_done
done_word w e = same_eq w (spelled "DONE") e

done_proper : is_proper (word (spelled "DONE")) ≡ true
unfolding is_proper spelled all is_name is_digit is_letter
done_proper = refl

then_proper : is_proper (word (spelled "THEN")) ≡ true
unfolding is_proper spelled all is_name is_digit is_letter
then_proper = refl

done_mode : is_mode (spelled "DONE") ≡ false
unfolding is_mode mode_words spelled any same
done_mode = refl

mode_proper : (m : ℕ) → leb m 4 ≡ true → is_proper (word (get_or mode_words m [])) ≡ true
unfolding is_proper mode_words spelled all is_name is_digit is_letter
mode_proper zero e = refl
mode_proper (suc zero) e = refl
mode_proper (suc (suc zero)) e = refl
mode_proper (suc (suc (suc zero))) e = refl
mode_proper (suc (suc (suc (suc zero)))) e = refl
mode_proper (suc (suc (suc (suc (suc m))))) e = absurd (omega (arith, leb-true (suc (suc (suc (suc (suc m))))) 4 e))

-- a label or a go-to, where there is one
label_optional : (w : List ℕ) → (is_empty w || is_label w) ≡ true → all is_proper (optional w) ≡ true
unfolding optional all
label_optional [] e = refl
label_optional (x ∷ w) e = and_both (label_proper (x ∷ w) e) refl

go_to_word : (w : List ℕ) → (is_done w || is_label w) ≡ true → (is_proper (word w) ≡ true) × (is_mode w ≡ false)
go_to_word w =
    by_test (λ t. is_done w ≡ t → (t || is_label w) ≡ true → (is_proper (word w) ≡ true) × (is_mode w ≡ false)) (is_done w)
    (λ _ is _. rw (done_word w is) (done_proper, done_mode))
    (λ _ _ e. (label_proper w e, label_mode w e)) refl

go_to_optional : (w : List ℕ) → (is_empty w || (is_done w || is_label w)) ≡ true → all is_proper (optional w) ≡ true
unfolding optional all
go_to_optional [] e = refl
go_to_optional (x ∷ w) e = and_both (go_to_word (x ∷ w) e).0 refl

then_mode : is_mode (spelled "THEN") ≡ true
unfolding is_mode mode_words spelled any same
then_mode = refl

-- THEN is a mode word, so no label and no go-to
no_then : (w : List ℕ) → is_mode w ≡ false → same w (spelled "THEN") ≡ false
no_then w other =
    by_test (λ t. same w (spelled "THEN") ≡ t → t ≡ false) (same w (spelled "THEN"))
    (λ _ is. absurd (true_false then_mode (rw (← (same_eq w (spelled "THEN") is)) other))) (λ _ _. refl) refl

empty_mode : is_mode [] ≡ false
unfolding is_mode mode_words spelled any same
empty_mode = refl

-- the arguments of a test and of an operation
argument_characters : (w : List ℕ) → is_argument w ≡ true → all is_character w ≡ true
unfolding is_argument
argument_characters w e = (and_true (not (is_empty w)) (all is_character w) e).1

no_test : (b : ℕ) → any (fits b []) test_forms ≡ false
unfolding any fits are_kinds test_forms
no_test b = refl

no_operation : (b : ℕ) → any (fits b (expanded [])) operation_forms ≡ false
unfolding any fits are_kinds operation_forms expanded
no_operation b = refl

arguments_proper : (args : List (List ℕ)) → is_empty args ≡ false → all is_argument args ≡ true → is_proper (paren args) ≡ true
unfolding is_proper
arguments_proper args some-arg e = rw some-arg (all_weaken is_argument (all is_character) argument_characters args e)

test_proper : (b : ℕ) (args : List (List ℕ)) → is_test b args ≡ true → is_proper (paren args) ≡ true
unfolding is_test
test_proper b [] e = absurd (true_false (and_true (all is_argument []) (any (fits b []) test_forms) e).1 (no_test b))
test_proper b (w ∷ ws) e = arguments_proper (w ∷ ws) refl (and_true (all is_argument (w ∷ ws)) (any (fits b (w ∷ ws)) test_forms) e).0

operation_proper : (b : ℕ) (args : List (List ℕ)) → is_operation b args ≡ true → is_proper (paren args) ≡ true
unfolding is_operation
operation_proper b [] e = absurd (true_false (and_true (all is_argument []) (any (fits b (expanded [])) operation_forms) e).1 (no_operation b))
operation_proper b (w ∷ ws) e =
    arguments_proper (w ∷ ws) refl (and_true (all is_argument (w ∷ ws)) (any (fits b (expanded (w ∷ ws))) operation_forms) e).0

parens_proper : (p : List (List ℕ) → Bool) → ((args : List (List ℕ)) → p args ≡ true → is_proper (paren args) ≡ true)
    → (gs : List (List (List ℕ))) → all p gs ≡ true → all is_proper (map paren gs) ≡ true
unfolding all
parens_proper p h [] e = refl
parens_proper p h (g ∷ gs) e = and_both (h g (all_first p g gs e)) (parens_proper p h gs (all_others p g gs e))

then_all : (l : Line) → all is_proper (then_word l) ≡ true
unfolding then_word all
then_all l = by_test (λ t. all is_proper (cond t [] (word (spelled "THEN") ∷ [])) ≡ true) (eqb l.mode 0 || is_empty l.operations) (λ _. refl)
    (λ _. and_both then_proper refl)

-- all tokens of a line are read as they are written
pub tokens_proper : (b : ℕ) (l : Line) → Parts b l → all is_proper (tokens l) ≡ true
unfolding tokens all
tokens_proper b l p =
    all_append is_proper (optional l.label) _ (label_optional l.label p.labels)
    (and_both (mode_proper l.mode p.modes)
    (all_append is_proper (map paren l.tests) _ (parens_proper (is_test b) (test_proper b) l.tests p.tests)
    (all_append is_proper (then_word l) _ (then_all l)
    (all_append is_proper (map paren l.operations) _ (parens_proper (is_operation b) (operation_proper b) l.operations p.operations)
    (go_to_optional l.go_to_of p.goes)))))

readable : (b : ℕ) (l : Line) → Parts b l → Readable l
readable b l p =
    record {
      modes = p.modes;
      no_mode = label_other l.label p.labels;
      then_tests = λ m. no_tests_lem m;
      no_then = go_other l.go_to_of p.goes;
    }
  where
    label_other : (w : List ℕ) → (is_empty w || is_label w) ≡ true → is_mode w ≡ false
    label_other [] e = empty_mode
    label_other (x ∷ w) e = label_mode (x ∷ w) e

    go_other : (w : List ℕ) → (is_empty w || (is_done w || is_label w)) ≡ true → same w (spelled "THEN") ≡ false
    go_other [] e = no_then [] empty_mode
    go_other (x ∷ w) e = no_then (x ∷ w) (go_to_word (x ∷ w) e).1

    is_empty_lem : (ts : List (List (List ℕ))) → is_empty ts ≡ true → ts ≡ []
    is_empty_lem [] e = refl
    is_empty_lem (t ∷ ts) e = absurd (true_false e refl)

    no_tests_lem : l.mode ≡ 0 → l.tests ≡ []
    no_tests_lem m = is_empty_lem l.tests (rw (eq-eqb l.mode 0 m) at p.conditions)

-- each token has a byte, so there are fewer pieces than bytes in a line
token_long : (t : Token) → is_proper t ≡ true → 1 ≤ length (written_token t)
unfolding is_proper written_token
token_long (word []) e = absurd (true_false e refl)
token_long (word (x ∷ w)) e = omega arith
token_long (paren args) e = omega arith

pieces_long : (ps : List Piece) → all proper_piece ps ≡ true → length ps ≤ length (written_pieces ps)
unfolding written_pieces
pieces_long [] e = omega arith
pieces_long (p ∷ ps) e =
    let token = token_long p.token (all_first proper_piece p ps e) in
    let others = pieces_long ps (all_others proper_piece p ps e) in
    simp length-append (omega arith)

pub pieces_proper : (ns : List ℕ) (ts : List Token) → all is_proper ts ≡ true → all proper_piece (pieces ns ts) ≡ true
unfolding pieces all
pieces_proper [] ts e = refl
pieces_proper (n ∷ ns) [] e = refl
pieces_proper (n ∷ ns) (t ∷ ts) e = and_both (all_first is_proper t ts e) (pieces_proper ns ts (all_others is_proper t ts e))

pub record Spacing (b : ℕ) (t : Typed) : Type 0 where
  pub line : is_line b t.line ≡ true
  pub long : eqb (length t.blanks) (length (tokens t.line)) ≡ true
  pub indent : indented t ≡ true
  pub apart : spaced false (pieces t.blanks (tokens t.line)) ≡ true

pub spacing : (b : ℕ) (t : Typed) → is_typed b t ≡ true → Spacing b t
unfolding is_typed
spacing b t e =
    let (x1, e1) = and_true _ _ e in
    let (x2, e2) = and_true _ _ e1 in
    let (x3, x4) = and_true _ _ e2 in
    record { line = x1; long = x2; indent = x3; apart = x4 }

-- what the grammar has is read
pub line_complete : (b : ℕ) (t : Typed) → is_typed b t ≡ true → read_line b (written_line t) ≡ some t
unfolding read_line typed_of kept written_line
line_complete b t good =
    let s = spacing b t good in
    let long = eqb-true (length t.blanks) (length (tokens t.line)) s.long in
    let its = parts b t.line s.line in
    let ps = pieces t.blanks (tokens t.line) in
    let proper = pieces_proper t.blanks (tokens t.line) (tokens_proper b t.line its) in
    let fuel : length ps < length (written_pieces ps ++ 10 ∷ []) = omega (arith, length-append (written_pieces ps) (10 ∷ []), pieces_long ps proper) in
    rw (
      pieces_read ps false (length (written_pieces ps ++ 10 ∷ [])) proper s.apart fuel,
      pieces_blanks t.blanks (tokens t.line) long,
      pieces_tokens t.blanks (tokens t.line) long,
      tokens_read t.line (readable b t.line its),
      good,
    )

-- a line has one reading only
pub one_reading : (b : ℕ) (t u : Typed) → is_typed b t ≡ true → is_typed b u ≡ true → written_line t ≡ written_line u → t ≡ u
one_reading b t u good fine e = some_same (sym (line_complete b t good) ∙ ap (read_line b) e ∙ line_complete b u fine)
