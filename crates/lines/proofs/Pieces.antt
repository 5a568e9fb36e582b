-- Words, parentheses and blanks: what is written piece by piece is read so, and what is read so is what was written. Assumes nothing.
use Prim.Native.Nat.{ℕ, zero, suc, ◌≤◌, ◌<◌}
use native.Mathlib.Omega.{arith}
use mathlib.Core.Path.{◌≡◌, refl, ap, ap₂, sym, subst, ◌∙◌}
use mathlib.Core.Bool.{Bool, true, false, not, ◌&&◌, ◌||◌, cond}
use mathlib.Core.List.{List, [], ◌∷◌, ◌++◌, append_assoc}
use mathlib.Core.Option.{Option, none, some}
use borrow.Author.Tests.{eqb-true, ne_eqb, leb-true}
use lib.Dec.{eqb, leb}
use lib.ListN.{length, replicate, length-replicate}
use Rattle.word.proofs.Tests.{by_test, by_eqb, and_true}
use Rattle.lines.specs.Words.{same, is_empty, all, is_digit, is_letter, is_name, is_character}
use Rattle.lines.specs.Grammar.{Token, word, paren, is_word, joined, written_token, Piece, written_pieces, spaced}
use Rattle.lines.specs.Reading.{front, behind, is_blank, is_inside, split, Found, closed, token_at, before, onward, pieces_in}
use Rattle.lines.proofs.Lists.{none_some, true_false, some_same, and_both, same_eq, all_first, all_others}
use Rattle.lines.proofs.Lists.{all_append, all_weaken}
use Rattle.lines.proofs.Lists.{stops, front_append, behind_append, front_behind, front_all, no_comma, split_joined}
use Rattle.lines.proofs.Lists.{joined_split}

-- a name byte lies between 48 and 90
pub record Named (x : ℕ) : Type 0 where
  pub low : 48 ≤ x
  pub high : x ≤ 90

pub named : (x : ℕ) → is_name x ≡ true → Named x
unfolding is_name is_digit is_letter
named x =
    by_test (λ t. (t || (leb 65 x && leb x 90)) ≡ true → Named x) (leb 48 x && leb x 57)
    (λ d _. let (l, h) = and_true (leb 48 x) (leb x 57) d in
    record { low = leb-true 48 x l; high = omega (arith, leb-true x 57 h) })
    (λ _ e. let (l, h) = and_true (leb 65 x) (leb x 90) e in
    record { low = omega (arith, leb-true 65 x l); high = leb-true x 90 h })

-- a byte below 48 is no name byte
pub no_name : (x : ℕ) → x < 48 → is_name x ≡ false
no_name x h = by_test (λ t. is_name x ≡ t → t ≡ false) (is_name x) (λ _ e. absurd (omega (arith, (named x e).low))) (λ _ _. refl) refl

pub name_other : (x y : ℕ) → is_name x ≡ true → y < 48 → eqb x y ≡ false
name_other x y e h = let n = (named x e).low in ne_eqb x y (λ eq. absurd (omega arith))

-- a character is a period or a name byte
pub character_low : (x : ℕ) → is_character x ≡ true → 46 ≤ x
unfolding is_character
character_low x =
    by_test (λ t. is_name x ≡ t → (t || eqb x 46) ≡ true → 46 ≤ x) (is_name x)
    (λ _ is _. omega (arith, (named x is).low)) (λ _ _ e. omega (arith, eqb-true x 46 e)) refl

-- a token that is read as it is written
unfoldable pub is_proper : Token → Bool
is_proper (word w) = not (is_empty w) && all is_name w
is_proper (paren args) = not (is_empty args) && all (all is_character) args

plain_inside : (x : ℕ) → is_character x ≡ true → is_inside x ≡ true
plain_inside x e = rw (ne_eqb x 41 (λ eq. absurd (omega (arith, character_low x e))))

plain_comma : (x : ℕ) → is_character x ≡ true → no_comma x ≡ true
plain_comma x e = rw (ne_eqb x 44 (λ eq. absurd (omega (arith, character_low x e))))

joined_inside : (args : List (List ℕ)) → all (all is_character) args ≡ true → all is_inside (joined args) ≡ true
unfolding joined all
joined_inside [] e = refl
joined_inside (w ∷ []) e = all_weaken is_character is_inside plain_inside w (all_first (all is_character) w [] e)
joined_inside (w ∷ v ∷ ws) e =
    all_append is_inside w (44 ∷ joined (v ∷ ws)) (all_weaken is_character is_inside plain_inside w (all_first (all is_character) w (v ∷ ws) e))
    (joined_inside (v ∷ ws) (all_others (all is_character) w (v ∷ ws) e))

split_proper : (args : List (List ℕ)) → is_proper (paren args) ≡ true → split (joined args) ≡ args
unfolding is_proper
split_proper [] e = absurd (true_false e refl)
split_proper (w ∷ ws) e =
    split_joined w ws (all_weaken (all is_character) (all no_comma) (all_weaken is_character no_comma plain_comma) (w ∷ ws) e)

-- after a word no name byte follows
abbrev pub ends : Token → List ℕ → Bool
ends t s = not (is_word t) || stops is_name s

stops_close : (s : List ℕ) → stops is_inside (41 ∷ s) ≡ true
unfolding stops
stops_close s = refl

token_read : (t : Token) (s : List ℕ) → is_proper t ≡ true → ends t s ≡ true → token_at (written_token t ++ s) ≡ some (record { token = t; rest = s })
unfolding is_proper written_token token_at closed
token_read (word []) s p e = absurd (true_false p refl)
token_read (word (x ∷ w)) s p e =
    let n = all_first is_name x w p in
    let ns = all_others is_name x w p in
    rw (name_other x 40 n (omega arith), n, front_append is_name w s ns e, behind_append is_name w s ns e)
token_read (paren args) s p e =
    let inside = joined_inside args (and_true (not (is_empty args)) (all (all is_character) args) p).1 in
    let stop = stops_close s in
    rw (
      append_assoc (joined args) (41 ∷ []) s,
      front_append is_inside (joined args) (41 ∷ s) inside stop,
      behind_append is_inside (joined args) (41 ∷ s) inside stop,
      split_proper args p,
    )

-- a token begins with no blank, and a piece with no byte 10
stops_blank : (t : Token) (s : List ℕ) → is_proper t ≡ true → stops is_blank (written_token t ++ s) ≡ true
unfolding is_proper written_token stops
stops_blank (word []) s p = absurd (true_false p refl)
stops_blank (word (x ∷ w)) s p = rw (name_other x 32 (all_first is_name x w p) (omega arith))
stops_blank (paren args) s p = refl

no_end : (n : ℕ) (t : Token) (s : List ℕ) → is_proper t ≡ true → same (replicate n 32 ++ (written_token t ++ s)) (10 ∷ []) ≡ false
unfolding is_proper written_token same
no_end zero (word []) s p = absurd (true_false p refl)
no_end zero (word (x ∷ w)) s p = rw (name_other x 10 (all_first is_name x w p) (omega arith))
no_end zero (paren args) s p = refl
no_end (suc n) t s p = refl

all_blank : (n : ℕ) → all is_blank (replicate n 32) ≡ true
unfolding all
all_blank zero = refl
all_blank (suc n) = all_blank n

-- one piece is read
piece_read : (n k : ℕ) (t : Token) (s : List ℕ) → is_proper t ≡ true → ends t s ≡ true
    → pieces_in (suc n) (replicate k 32 ++ (written_token t ++ s)) ≡ before (record { blanks = k; token = t }) (pieces_in n s)
unfolding pieces_in onward
piece_read n k t s p e =
    let blank = all_blank k in
    let stop = stops_blank t s p in
    rw (
      no_end k t s p,
      front_append is_blank (replicate k 32) (written_token t ++ s) blank stop,
      behind_append is_blank (replicate k 32) (written_token t ++ s) blank stop,
      length-replicate,
      token_read t s p e,
    )

-- what follows a word does not go on with it
name_ends : (k : ℕ) (t : Token) (s : List ℕ) → (not (is_word t) || leb 1 k) ≡ true → stops is_name (replicate k 32 ++ (written_token t ++ s)) ≡ true
unfolding stops written_token is_name is_digit is_letter
name_ends zero (word w) s e = absurd (true_false e refl)
name_ends zero (paren args) s e = refl
name_ends (suc k) t s e = refl

end_ends : stops is_name (10 ∷ []) ≡ true
unfolding stops is_name is_digit is_letter
end_ends = refl

written_more : (p : Piece) (ps : List Piece) (s : List ℕ)
    → written_pieces (p ∷ ps) ++ s ≡ replicate p.blanks 32 ++ (written_token p.token ++ (written_pieces ps ++ s))
unfolding written_pieces
written_more p ps s = simp append_assoc

written_none : (s : List ℕ) → written_pieces [] ++ s ≡ s
unfolding written_pieces
written_none s = refl

after_word : (ps : List Piece) → spaced true ps ≡ true → stops is_name (written_pieces ps ++ 10 ∷ []) ≡ true
unfolding spaced
after_word [] e = rw (written_none (10 ∷ [])) end_ends
after_word (p ∷ ps) e =
    rw (written_more p ps (10 ∷ []))
    (name_ends p.blanks p.token (written_pieces ps ++ 10 ∷ [])
    (and_true (not (is_word p.token) || leb 1 p.blanks) (spaced (is_word p.token) ps) e).0)

abbrev pub proper_piece : Piece → Bool
proper_piece p = is_proper p.token

token_ends : (t : Token) (ps : List Piece) → spaced (is_word t) ps ≡ true → ends t (written_pieces ps ++ 10 ∷ []) ≡ true
token_ends (word w) ps e = after_word ps e
token_ends (paren args) ps e = refl

end_read : (n : ℕ) → pieces_in (suc n) (10 ∷ []) ≡ some []
unfolding pieces_in same
end_read n = refl

-- pieces are read as they are written
pub pieces_read : (ps : List Piece) (after : Bool) (n : ℕ) → all proper_piece ps ≡ true → spaced after ps ≡ true → length ps < n
    → pieces_in n (written_pieces ps ++ 10 ∷ []) ≡ some ps
unfolding before spaced
pieces_read ps after zero p e h = absurd (omega arith)
pieces_read [] after (suc n) p e h = rw (written_none (10 ∷ [])) (end_read n)
pieces_read (q ∷ ps) after (suc n) p e h =
    let rest = written_pieces ps ++ 10 ∷ [] in
    let later = (and_true (not (after && is_word q.token) || leb 1 q.blanks) (spaced (is_word q.token) ps) e).1 in
    rw (
      written_more q ps (10 ∷ []),
      piece_read n q.blanks q.token rest (all_first proper_piece q ps p) (token_ends q.token ps later),
      pieces_read ps (is_word q.token) n (all_others proper_piece q ps p) later (omega arith),
    )

-- a word that is not empty
unfoldable pub is_filled : Token → Bool
is_filled (word w) = not (is_empty w)
is_filled (paren args) = true

-- a token that was read is what was written
record Took (s : List ℕ) (f : Found) : Type 0 where
  written : written_token f.token ++ f.rest ≡ s
  filled : is_filled f.token ≡ true

took : {s : List ℕ} {f g : Found} → Took s f → some f ≡ some g → Took s g
took {s} h e = subst (Took s) (some_same e) h

paren_filled : (args : List (List ℕ)) → is_filled (paren args) ≡ true
unfolding is_filled
paren_filled args = refl

word_filled : (x : ℕ) (s : List ℕ) → is_filled (word (x ∷ front is_name s)) ≡ true
unfolding is_filled
word_filled x s = refl

paren_written : (inside rest : List ℕ) → written_token (paren (split inside)) ++ rest ≡ 40 ∷ (inside ++ 41 ∷ rest)
unfolding written_token
paren_written inside rest = rw (joined_split inside, append_assoc inside (41 ∷ []) rest)

word_written : (x : ℕ) (s : List ℕ) → written_token (word (x ∷ front is_name s)) ++ behind is_name s ≡ x ∷ s
unfolding written_token
word_written x s = ap (λ (l : List ℕ). x ∷ l) (front_behind is_name s)

closed_took : (inside rest : List ℕ) (f : Found) → closed inside rest ≡ some f → Took (40 ∷ (inside ++ rest)) f
unfolding closed
closed_took inside [] f = λ e. absurd (none_some e)
closed_took inside (x ∷ rest) f =
    by_eqb (λ t. cond t (some (record { token = paren (split inside); rest = rest })) none ≡ some f → Took (40 ∷ (inside ++ x ∷ rest)) f) x 41
    (λ close e. took (record { written = closing x close; filled = paren_filled (split inside) }) e)
    (λ _ e. absurd (none_some e))
  where
    closing : (x : ℕ) → x ≡ 41 → written_token (paren (split inside)) ++ rest ≡ 40 ∷ (inside ++ x ∷ rest)
    closing x close = rw close (paren_written inside rest)

token_took : (s : List ℕ) (f : Found) → token_at s ≡ some f → Took s f
unfolding token_at
token_took [] f = λ e. absurd (none_some e)
token_took (x ∷ s) f =
    by_eqb (λ t. cond t (closed (front is_inside s) (behind is_inside s))
    (cond (is_name x) (some (record { token = word (x ∷ front is_name s); rest = behind is_name s })) none) ≡ some f → Took (x ∷ s) f) x 40
    (λ opened e. subst (λ l. Took l f) (ap₂ ◌∷◌ (sym opened) (front_behind is_inside s)) (closed_took (front is_inside s) (behind is_inside s) f e))
    (λ _. by_test (λ t. cond t (some (record { token = word (x ∷ front is_name s); rest = behind is_name s })) none ≡ some f → Took (x ∷ s) f) (is_name x)
    (λ _ e. took (record { written = word_written x s; filled = word_filled x s }) e)
    (λ _ e. absurd (none_some e)))

-- pieces that were read are what was written
pub record Cut (s : List ℕ) (ps : List Piece) : Type 0 where
  pub written : written_pieces ps ++ 10 ∷ [] ≡ s
  pub filled : all (λ (p : Piece). is_filled p.token) ps ≡ true

cut_end : Cut (10 ∷ []) []
unfolding written_pieces all
cut_end = record { written = refl; filled = refl }

blanks_front : (s : List ℕ) → all is_blank s ≡ true → replicate (length s) 32 ≡ s
blanks_front [] e = refl
blanks_front (x ∷ s) e = ap₂ ◌∷◌ (sym (eqb-true x 32 (all_first is_blank x s e))) (blanks_front s (all_others is_blank x s e))

cut_more : (s : List ℕ) (f : Found) (ps : List Piece) → Took (behind is_blank s) f → Cut f.rest ps
    → Cut s (record { blanks = length (front is_blank s); token = f.token } ∷ ps)
unfolding all
cut_more s f ps t c =
    record {
      written =
          written_more (record { blanks = length (front is_blank s); token = f.token }) ps (10 ∷ [])
          ∙ ap₂ (λ (x y : List ℕ). x ++ y) (blanks_front (front is_blank s) (front_all is_blank s))
          (ap (λ (r : List ℕ). written_token f.token ++ r) c.written ∙ t.written)
          ∙ front_behind is_blank s;
      filled = and_both t.filled c.filled;
    }

before_cut : (s : List ℕ) (f : Found) (o : Option (List Piece)) (ps : List Piece) → Took (behind is_blank s) f
    → ((qs : List Piece) → o ≡ some qs → Cut f.rest qs)
    → before (record { blanks = length (front is_blank s); token = f.token }) o ≡ some ps → Cut s ps
unfolding before
before_cut s f none ps t c e = absurd (none_some e)
before_cut s f (some qs) ps t c e = subst (Cut s) (some_same e) (cut_more s f qs t (c qs refl))

onward_cut : (s : List ℕ) (more : List ℕ → Option (List Piece)) (ps : List Piece)
    → ((r : List ℕ) (qs : List Piece) → more r ≡ some qs → Cut r qs)
    → (o : Option Found) → token_at (behind is_blank s) ≡ o → onward (length (front is_blank s)) more o ≡ some ps → Cut s ps
unfolding onward
onward_cut s more ps c none t e = absurd (none_some e)
onward_cut s more ps c (some f) t e = before_cut s f (more f.rest) ps (token_took (behind is_blank s) f t) (c f.rest) e

pub pieces_cut : (n : ℕ) (s : List ℕ) (ps : List Piece) → pieces_in n s ≡ some ps → Cut s ps
unfolding pieces_in
pieces_cut zero s ps = λ e. absurd (none_some e)
pieces_cut (suc n) s ps =
    by_test (λ t. cond t (some []) (onward (length (front is_blank s)) (pieces_in n) (token_at (behind is_blank s))) ≡ some ps → Cut s ps) (same s (10 ∷ []))
    (λ last e. subst (λ l. Cut l ps) (sym (same_eq s (10 ∷ []) last)) (subst (Cut (10 ∷ [])) (some_same e) cut_end))
    (λ _ e. onward_cut s (pieces_in n) ps (pieces_cut n) (token_at (behind is_blank s)) refl e)
