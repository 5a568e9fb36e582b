-- The pieces of a line one after the other, with a state that goes on with their tokens; and that this is `read_line`. Assumes nothing.
use Prim.Native.Nat.{ℕ, zero, suc, ◌≤◌, ◌<◌}
use native.Mathlib.Omega.{arith}
use mathlib.Core.Path.{◌≡◌, refl, ap, sym, ◌∙◌}
use mathlib.Core.Bool.{Bool, true, false, ◌&&◌, cond}
use mathlib.Core.List.{List, [], ◌∷◌}
use mathlib.Core.Option.{Option, none, some}
use borrow.Author.Tests.{eq-eqb}
use lib.Dec.{eqb}
use lib.ListN.{length, length-append, length-map}
use Rattle.word.proofs.Tests.{by_test}
use Rattle.lines.specs.Words.{same, all}
use Rattle.lines.specs.Grammar.{Line, Token, word, paren, tokens, written_token, Piece, written_pieces, spaced, pieces, Typed}
use Rattle.lines.specs.Grammar.{indented, is_line, is_typed}
use Rattle.lines.specs.Reading.{front, behind, is_blank, Found, token_at, before, onward, pieces_in, line_of, kept, typed_of, read_line}
use Rattle.lines.specs.Walking.{State, at_start, finished}
use Rattle.faults.specs.Checking.{enough, checked_step, checked_fed, only_if, line_from, in_column, line_read}
use Rattle.lines.proofs.Lists.{none_some, true_false, all_first, all_others}
use Rattle.lines.proofs.Pieces.{is_filled, pieces_cut}
use Rattle.lines.proofs.Tokens.{line_tokens}
use Rattle.faults.proofs.Steps.{Stepped, last, next, pieces_step, pieces_spaced, pieces_fuel}
use Rattle.lines.proofs.Lines.{blanks_of, tokens_of, pieces_again, tokens_filled}
use Rattle.faults.proofs.Checked.{checked_line}

-- there are fewer pieces than bytes, so as much fuel as bytes is enough
token_some : (t : Token) → is_filled t ≡ true → 1 ≤ length (written_token t)
unfolding is_filled written_token
token_some (word []) e = absurd (true_false e refl)
token_some (word (x ∷ w)) e = omega arith
token_some (paren args) e = omega arith

filled_long : (ps : List Piece) → all (λ (p : Piece). is_filled p.token) ps ≡ true → length ps ≤ length (written_pieces ps)
unfolding written_pieces
filled_long [] e = omega arith
filled_long (p ∷ ps) e =
    let token = token_some p.token (all_first (λ (q : Piece). is_filled q.token) p ps e) in
    let others = filled_long ps (all_others (λ (q : Piece). is_filled q.token) p ps e) in
    simp length-append (omega arith)

pieces_few : (n : ℕ) (s : List ℕ) (ps : List Piece) → pieces_in n s ≡ some ps → length ps < length s
pieces_few n s ps e =
    let c = pieces_cut n s ps e in
    let long = filled_long ps c.filled in
    omega (arith, simp length-append at (ap length c.written))

fuel_same : (n m : ℕ) (s : List ℕ) → length s ≤ n → length s ≤ m → pieces_in n s ≡ pieces_in m s
fuel_same n m s h k = cases (pieces_in n s) (pieces_in m s) refl refl
  where
    cases : (o q : Option (List Piece)) → pieces_in n s ≡ o → pieces_in m s ≡ q → o ≡ q
    cases none none e f = refl
    cases none (some ps) e f =
        let few = pieces_few m s ps f in
        absurd (none_some (sym e ∙ pieces_fuel m n s ps f (omega arith)))
    cases (some ps) q e f =
        let few = pieces_few n s ps e in
        sym (pieces_fuel n m s ps e (omega arith)) ∙ f

abbrev pub pieces_of : List ℕ → Option (List Piece)
pieces_of s = pieces_in (length s) s

module _ (b : ℕ) (st : State) where
  before_line : (p : Piece) (o : Option (List Piece)) → line_from b st (before p o) ≡ line_from b (checked_step b st p.token) o
  unfolding line_from before checked_fed
  before_line p none = refl
  before_line p (some ps) = refl

  pub line_last : line_from b st (pieces_of (10 ∷ [])) ≡ only_if enough (finished st)
  unfolding line_from pieces_in checked_fed same
  line_last = refl

  pub line_none : (r : List ℕ) → same r (10 ∷ []) ≡ false → token_at (behind is_blank r) ≡ none → line_from b st (pieces_of r) ≡ none
  unfolding line_from pieces_in onward
  line_none [] e t = refl
  line_none (x ∷ r) e t = rw (e, t)

  pub line_more : (r : List ℕ) (f : Found) → same r (10 ∷ []) ≡ false → token_at (behind is_blank r) ≡ some f → length f.rest < length r
      → line_from b st (pieces_of r) ≡ line_from b (checked_step b st f.token) (pieces_of f.rest)
  unfolding pieces_in onward
  line_more [] f e t l = absurd (omega arith)
  line_more (x ∷ r) f e t l =
      let fuel : pieces_in (length r) f.rest ≡ pieces_of f.rest = fuel_same (length r) (length f.rest) f.rest (omega arith) (omega arith) in
      rw (e, t, fuel) (before_line (record { blanks = length (front is_blank (x ∷ r)); token = f.token }) (pieces_of f.rest))

-- `read_line` by its line: what it asks of the blanks comes to the column
module _ (b : ℕ) (s : List ℕ) (ps : List Piece) (read : pieces_of s ≡ some ps) (l : Line) (is : line_of (tokens_of ps) ≡ some l) where
  abbrev its : Typed
  its = record { line = l; blanks = blanks_of ps }

  its_tokens : tokens l ≡ tokens_of ps
  its_tokens = line_tokens (tokens_of ps) l (tokens_filled ps (pieces_cut (length s) s ps read).filled) is

  long : eqb (length (blanks_of ps)) (length (tokens l)) ≡ true
  long = eq-eqb (length (blanks_of ps)) (length (tokens l)) (rw its_tokens (simp length-map))

  apart : spaced false (pieces (blanks_of ps) (tokens l)) ≡ true
  apart = rw (its_tokens, pieces_again ps) (pieces_spaced (length s) s ps false (λ e. absurd (true_false e refl)) read)

  no_line : line_of [] ≡ none
  unfolding line_of
  no_line = refl

  column : (n : ℕ) → pieces_in n s ≡ some ps → indented its ≡ in_column s l
  unfolding indented in_column pieces_in
  column zero e = absurd (none_some e)
  column (suc n) e = cases (pieces_step n s ps e)
    where
      cases : Stepped n s ps → indented its ≡ in_column s l
      cases (last ends none_left) = absurd (none_some (sym (ap (λ (qs : List Piece). line_of (tokens_of qs)) none_left ∙ no_line) ∙ is))
      cases (next f qs other t q first) = rw first

  right : (t u : Bool) → u ≡ true → (t && u) ≡ t
  right true u e = e
  right false u e = refl

  typed_column : is_typed b its ≡ (is_line b l && in_column s l)
  unfolding is_typed
  typed_column = rw (long, apart, column (length s) read) (ap (λ (t : Bool). is_line b l && t) (right (in_column s l) true refl))

  pub kept_line : line_read (kept b (blanks_of ps) (some l)) ≡ only_if (in_column s) (only_if (is_line b) (some l))
  unfolding kept line_read only_if
  kept_line =
      rw typed_column
      (by_test (λ t. line_read (cond (t && in_column s l) (some its) none) ≡ only_if (in_column s) (cond t (some l) none)) (is_line b l)
      (λ _. by_test (λ t. line_read (cond t (some its) none) ≡ cond t (some l) none) (in_column s l) (λ _. refl) (λ _. refl)) (λ _. refl))

pub read_line_lem : (b : ℕ) (s : List ℕ) → line_read (read_line b s) ≡ only_if (in_column s) (line_from b at_start (pieces_of s))
unfolding read_line typed_of kept line_read line_from only_if
read_line_lem b s = cases (pieces_of s) refl
  where
    lines : (ps : List Piece) (o : Option Line) → pieces_of s ≡ some ps → line_of (tokens_of ps) ≡ o
        → line_read (kept b (blanks_of ps) o) ≡ only_if (in_column s) (only_if (is_line b) o)
    lines ps none e is = refl
    lines ps (some l) e is = kept_line b s ps e l is

    cases : (o : Option (List Piece)) → pieces_of s ≡ o → line_read (typed_of b o) ≡ only_if (in_column s) (line_from b at_start o)
    cases none e = refl
    cases (some ps) e = lines ps (line_of (tokens_of ps)) e refl ∙ sym (ap (only_if (in_column s)) (checked_line b (tokens_of ps)))
