-- Texts: the lines of a text are those that write it, and a text has one reading only. Assumes nothing.
use Prim.Native.Nat.{ℕ, zero, suc}
use native.Mathlib.Omega.{arith}
use mathlib.Core.Path.{◌≡◌, refl, ap, ap₂, sym, subst, ◌∙◌}
use mathlib.Core.Bool.{Bool, true, false, not, cond}
use mathlib.Core.List.{List, [], ◌∷◌, ◌++◌, map, head-eq_of_cons-eq, tail-eq_of_cons-eq, nil≢cons}
use mathlib.Core.Option.{none, some}
use borrow.Author.Tests.{ne_eqb, not-true}
use lib.Dec.{eqb}
use lib.ListN.{replicate}
use Rattle.word.proofs.Tests.{by_eqb, and_true}
use Rattle.lines.specs.Words.{is_empty, all, is_name, is_character}
use Rattle.lines.specs.Grammar.{Token, word, paren, tokens, joined, written_token, Piece, written_pieces, Typed, pieces}
use Rattle.lines.specs.Grammar.{written_line, is_typed, written_text}
use Rattle.lines.specs.Reading.{pieces_in, typed_of, read_line, onto, cut, lines_of, read_lines}
use Rattle.lines.proofs.Lists.{none_some, some_same, and_both, all_first, all_others, all_append, all_weaken}
use Rattle.lines.proofs.Pieces.{named, character_low, is_proper, proper_piece}
use Rattle.lines.proofs.Lines.{line_sound, line_complete, parts, tokens_proper, spacing, pieces_proper}

-- bytes other than 10
abbrev in_line : ℕ → Bool
in_line x = not (eqb x 10)

name_in_line : (x : ℕ) → is_name x ≡ true → in_line x ≡ true
name_in_line x e = rw (ne_eqb x 10 (λ eq. absurd (omega (arith, (named x e).low))))

character_in_line : (x : ℕ) → is_character x ≡ true → in_line x ≡ true
character_in_line x e = rw (ne_eqb x 10 (λ eq. absurd (omega (arith, character_low x e))))

joined_in_line : (args : List (List ℕ)) → all (all is_character) args ≡ true → all in_line (joined args) ≡ true
unfolding joined all
joined_in_line [] e = refl
joined_in_line (w ∷ []) e = all_weaken is_character in_line character_in_line w (all_first (all is_character) w [] e)
joined_in_line (w ∷ v ∷ ws) e =
    all_append in_line w (44 ∷ joined (v ∷ ws)) (all_weaken is_character in_line character_in_line w (all_first (all is_character) w (v ∷ ws) e))
    (joined_in_line (v ∷ ws) (all_others (all is_character) w (v ∷ ws) e))

token_in_line : (t : Token) → is_proper t ≡ true → all in_line (written_token t) ≡ true
unfolding written_token is_proper all
token_in_line (word w) e = all_weaken is_name in_line name_in_line w (and_true (not (is_empty w)) (all is_name w) e).1
token_in_line (paren args) e =
    all_append in_line (joined args) (41 ∷ []) (joined_in_line args (and_true (not (is_empty args)) (all (all is_character) args) e).1) refl

blanks_in_line : (n : ℕ) → all in_line (replicate n 32) ≡ true
unfolding all
blanks_in_line zero = refl
blanks_in_line (suc n) = blanks_in_line n

pieces_in_line : (ps : List Piece) → all proper_piece ps ≡ true → all in_line (written_pieces ps) ≡ true
unfolding written_pieces all
pieces_in_line [] e = refl
pieces_in_line (p ∷ ps) e =
    all_append in_line (replicate p.blanks 32) _ (blanks_in_line p.blanks)
    (all_append in_line (written_token p.token) _ (token_in_line p.token (all_first proper_piece p ps e))
    (pieces_in_line ps (all_others proper_piece p ps e)))

-- a line is cut off after its byte 10
cut_first : (w s : List ℕ) → all in_line w ≡ true → cut ((w ++ 10 ∷ []) ++ s) ≡ (w ++ 10 ∷ []) ∷ cut s
unfolding cut onto all
cut_first [] s e = refl
cut_first (x ∷ w) s e = rw (not-true (eqb x 10) (all_first in_line x w e), cut_first w s (all_others in_line x w e))

cut_line : (b : ℕ) (t : Typed) (s : List ℕ) → is_typed b t ≡ true → cut (written_line t ++ s) ≡ written_line t ∷ cut s
unfolding written_line
cut_line b t s good =
    let its = spacing b t good in
    cut_first (written_pieces (pieces t.blanks (tokens t.line))) s
    (pieces_in_line (pieces t.blanks (tokens t.line))
    (pieces_proper t.blanks (tokens t.line) (tokens_proper b t.line (parts b t.line its.line))))

cut_nothing : cut [] ≡ []
unfolding cut
cut_nothing = refl

cut_text : (b : ℕ) (ts : List Typed) → all (is_typed b) ts ≡ true → cut (written_text ts) ≡ map written_line ts
unfolding written_text
cut_text b [] e = cut_nothing
cut_text b (t ∷ ts) e =
    cut_line b t (written_text ts) (all_first (is_typed b) t ts e)
    ∙ ap (λ (l : List (List ℕ)). written_line t ∷ l) (cut_text b ts (all_others (is_typed b) t ts e))

lines_read : (b : ℕ) (ts : List Typed) → all (is_typed b) ts ≡ true → map (read_line b) (map written_line ts) ≡ map some ts
lines_read b [] e = refl
lines_read b (t ∷ ts) e = ap₂ ◌∷◌ (line_complete b t (all_first (is_typed b) t ts e)) (lines_read b ts (all_others (is_typed b) t ts e))

line_some : (t : Typed) (s : List ℕ) → is_empty (written_line t ++ s) ≡ false
unfolding written_line
line_some t s = ends_some (written_pieces (pieces t.blanks (tokens t.line)))
  where
    ends_some : (w : List ℕ) → is_empty ((w ++ 10 ∷ []) ++ s) ≡ false
    ends_some [] = refl
    ends_some (x ∷ w) = refl

text_some : (t : Typed) (ts : List Typed) → is_empty (written_text (t ∷ ts)) ≡ false
unfolding written_text
text_some t ts = line_some t (written_text ts)

-- one or more lines that the grammar has are read from what they write
pub text_complete : (b : ℕ) (t : Typed) (ts : List Typed) → all (is_typed b) (t ∷ ts) ≡ true → read_lines b (written_text (t ∷ ts)) ≡ map some (t ∷ ts)
unfolding read_lines lines_of
text_complete b t ts e =
    rw (text_some t ts) (ap (map (read_line b)) (cut_text b (t ∷ ts) e) ∙ lines_read b (t ∷ ts) e)

-- a text has one reading only
some_lines : (ts us : List Typed) → map some ts ≡ map some us → ts ≡ us
some_lines [] [] e = refl
some_lines [] (u ∷ us) e = absurd (nil≢cons e)
some_lines (t ∷ ts) [] e = absurd (nil≢cons (sym e))
some_lines (t ∷ ts) (u ∷ us) e = ap₂ ◌∷◌ (some_same (head-eq_of_cons-eq e)) (some_lines ts us (tail-eq_of_cons-eq e))

pub one_text : (b : ℕ) (t : Typed) (ts : List Typed) (u : Typed) (us : List Typed) → all (is_typed b) (t ∷ ts) ≡ true → all (is_typed b) (u ∷ us) ≡ true
    → written_text (t ∷ ts) ≡ written_text (u ∷ us) → t ∷ ts ≡ u ∷ us
one_text b t ts u us good fine e =
    some_lines (t ∷ ts) (u ∷ us) (sym (text_complete b t ts good) ∙ ap (read_lines b) e ∙ text_complete b u us fine)

-- the lines of a text, one after the other, are the text
joined_lines : List (List ℕ) → List ℕ
joined_lines [] = []
joined_lines (l ∷ ls) = l ++ joined_lines ls

lines_onto : (x : ℕ) (ls : List (List ℕ)) → joined_lines (onto x ls) ≡ x ∷ joined_lines ls
unfolding onto joined_lines
lines_onto x [] = refl
lines_onto x (l ∷ ls) = refl

lines_again : (s : List ℕ) → joined_lines (cut s) ≡ s
unfolding cut joined_lines
lines_again [] = refl
lines_again (x ∷ s) =
    by_eqb (λ t. joined_lines (cond t ((10 ∷ []) ∷ cut s) (onto x (cut s))) ≡ x ∷ s) x 10
    (λ e. ap₂ ◌∷◌ (sym e) (lines_again s)) (λ _. lines_onto x (cut s) ∙ ap (λ (l : List ℕ). x ∷ l) (lines_again s))

-- lines that the grammar has, and that write this text
pub record ReadsText (b : ℕ) (s : List ℕ) (ts : List Typed) : Type 0 where
  pub typed : all (is_typed b) ts ≡ true
  pub written : written_text ts ≡ s

lines_sound : (b : ℕ) (ls : List (List ℕ)) (ts : List Typed) → map (read_line b) ls ≡ map some ts → ReadsText b (joined_lines ls) ts
unfolding written_text all joined_lines
lines_sound b [] [] e = record { typed = refl; written = refl }
lines_sound b [] (t ∷ ts) e = absurd (nil≢cons e)
lines_sound b (l ∷ ls) [] e = absurd (nil≢cons (sym e))
lines_sound b (l ∷ ls) (t ∷ ts) e =
    let first = line_sound b l t (head-eq_of_cons-eq e) in
    let others = lines_sound b ls ts (tail-eq_of_cons-eq e) in
    record { typed = and_both first.typed others.typed; written = ap₂ (λ (x y : List ℕ). x ++ y) first.written others.written }

empty_line : (b : ℕ) → read_line b [] ≡ none
unfolding read_line pieces_in typed_of
empty_line b = refl

-- a text whose lines are all read is what they write; an empty one is not read
pub text_sound : (b : ℕ) (s : List ℕ) (ts : List Typed) → read_lines b s ≡ map some ts → ReadsText b s ts
unfolding read_lines lines_of
text_sound b [] [] e = absurd (nil≢cons (sym e))
text_sound b [] (t ∷ ts) e = absurd (none_some (sym (empty_line b) ∙ head-eq_of_cons-eq e))
text_sound b (x ∷ s) ts e = subst (λ l. ReadsText b l ts) (lines_again (x ∷ s)) (lines_sound b (cut (x ∷ s)) ts e)
