-- Pieces read one after the other: how each is found, that words so found stand apart, and how far fuel reaches. Assumes nothing.
use Prim.Native.Nat.{ℕ, zero, suc, ◌<◌}
use native.Mathlib.Omega.{arith}
use mathlib.Core.Path.{◌≡◌, refl, ap, sym, subst, ◌∙◌}
use mathlib.Core.Bool.{Bool, true, false, not, ◌&&◌, ◌||◌, cond}
use mathlib.Core.List.{List, [], ◌∷◌, ◌++◌}
use mathlib.Core.Option.{Option, none, some}
use borrow.Author.Tests.{le-leb}
use lib.Dec.{eqb, leb}
use lib.ListN.{length}
use Rattle.word.proofs.Tests.{by_test, by_eqb}
use Rattle.lines.specs.Words.{same, is_name}
use Rattle.lines.specs.Grammar.{word, paren, is_word, Piece, spaced}
use Rattle.lines.specs.Reading.{front, behind, is_blank, is_inside, split, Found, closed, token_at, before, onward, pieces_in}
use Rattle.lines.proofs.Lists.{none_some, true_false, some_same, and_both, same_eq, stops, front_behind, behind_stops}

-- how pieces are found: the byte 10 that ends a line, or a token after blanks and then the others
pub data Stepped (n : ℕ) (s : List ℕ) (ps : List Piece) : Type 0 where
  last : s ≡ 10 ∷ [] → ps ≡ [] → Stepped n s ps
  next : (f : Found) (qs : List Piece) → same s (10 ∷ []) ≡ false → token_at (behind is_blank s) ≡ some f → pieces_in n f.rest ≡ some qs
      → ps ≡ record { blanks = length (front is_blank s); token = f.token } ∷ qs → Stepped n s ps

pub pieces_step : (n : ℕ) (s : List ℕ) (ps : List Piece) → pieces_in (suc n) s ≡ some ps → Stepped n s ps
unfolding pieces_in before onward
pieces_step n s ps =
    by_test (λ t. same s (10 ∷ []) ≡ t → cond t (some []) (onward (length (front is_blank s)) (pieces_in n) (token_at (behind is_blank s))) ≡ some ps
    → Stepped n s ps) (same s (10 ∷ []))
    (λ _ is e. last (same_eq s (10 ∷ []) is) (sym (some_same e)))
    (λ _ other e. found other (token_at (behind is_blank s)) refl e) refl
  where
    others : same s (10 ∷ []) ≡ false → (f : Found) → token_at (behind is_blank s) ≡ some f → (o : Option (List Piece)) → pieces_in n f.rest ≡ o
        → before (record { blanks = length (front is_blank s); token = f.token }) o ≡ some ps → Stepped n s ps
    others other f t none q e = absurd (none_some e)
    others other f t (some qs) q e = next f qs other t q (sym (some_same e))

    found : same s (10 ∷ []) ≡ false → (o : Option Found) → token_at (behind is_blank s) ≡ o → onward (length (front is_blank s)) (pieces_in n) o ≡ some ps
        → Stepped n s ps
    found other none t e = absurd (none_some e)
    found other (some f) t e = others other f t (pieces_in n f.rest) refl e

-- a word begins with a name byte, and no other follows it
closed_paren : (inside rest : List ℕ) (f : Found) → closed inside rest ≡ some f → is_word f.token ≡ false
unfolding closed
closed_paren inside [] f = λ e. absurd (none_some e)
closed_paren inside (x ∷ rest) f =
    by_test (λ t. cond t (some (record { token = paren (split inside); rest = rest })) none ≡ some f → is_word f.token ≡ false) (eqb x 41)
    (λ _ e. ap (λ (g : Found). is_word g.token) (sym (some_same e))) (λ _ e. absurd (none_some e))

token_word : (s : List ℕ) (f : Found) → token_at s ≡ some f → is_word f.token ≡ true → (stops is_name s ≡ false) × (stops is_name f.rest ≡ true)
unfolding token_at stops
token_word [] f = λ e w. absurd (none_some e)
token_word (x ∷ s) f =
    by_test (λ t. cond t (closed (front is_inside s) (behind is_inside s))
    (cond (is_name x) (some (record { token = word (x ∷ front is_name s); rest = behind is_name s })) none) ≡ some f → is_word f.token ≡ true
    → (not (is_name x) ≡ false) × (stops is_name f.rest ≡ true)) (eqb x 40)
    (λ _ e w. absurd (true_false w (closed_paren (front is_inside s) (behind is_inside s) f e)))
    (λ _. by_test (λ t. is_name x ≡ t → cond t (some (record { token = word (x ∷ front is_name s); rest = behind is_name s })) none ≡ some f
    → is_word f.token ≡ true
    → (not t ≡ false) × (stops is_name f.rest ≡ true)) (is_name x)
    (λ _ is e w. (refl, subst (λ (g : Found). stops is_name g.rest ≡ true) (some_same e) (behind_stops is_name s)))
    (λ _ _ e w. absurd (none_some e)) refl)

-- words that are found stand apart, without a test
no_blanks : (l s : List ℕ) → length l ≡ 0 → l ++ s ≡ s
no_blanks [] s e = refl
no_blanks (x ∷ l) s e = absurd (omega arith)

apart_here : (after : Bool) (s : List ℕ) (f : Found) → (after ≡ true → stops is_name s ≡ true) → token_at (behind is_blank s) ≡ some f
    → (not (after && is_word f.token) || leb 1 (length (front is_blank s))) ≡ true
apart_here false s f h t = refl
apart_here true s f h t =
    by_test (λ w. is_word f.token ≡ w → (not w || leb 1 (length (front is_blank s))) ≡ true) (is_word f.token)
    (λ _ is. by_eqb (λ _. leb 1 (length (front is_blank s)) ≡ true) (length (front is_blank s)) 0
    (λ z. absurd (true_false (h refl)
    (subst (λ (l : List ℕ). stops is_name l ≡ false) (sym (no_blanks (front is_blank s) (behind is_blank s) z) ∙ front_behind is_blank s)
    (token_word (behind is_blank s) f t is).0)))
    (λ z. le-leb 1 (length (front is_blank s)) (omega arith)))
    (λ _ _. refl) refl

pub pieces_spaced : (n : ℕ) (s : List ℕ) (ps : List Piece) (after : Bool) → (after ≡ true → stops is_name s ≡ true) → pieces_in n s ≡ some ps
    → spaced after ps ≡ true
unfolding pieces_in spaced
pieces_spaced zero s ps after h e = absurd (none_some e)
pieces_spaced (suc n) s ps after h e = cases (pieces_step n s ps e) (λ r qs a k q. pieces_spaced n r qs a k q)
  where
    cases : Stepped n s ps → ((r : List ℕ) (qs : List Piece) (a : Bool) → (a ≡ true → stops is_name r ≡ true) → pieces_in n r ≡ some qs → spaced a qs ≡ true)
        → spaced after ps ≡ true
    cases (last is none_left) later = rw none_left refl
    cases (next f qs other t q is) later =
        rw is (and_both (apart_here after s f h t) (later f.rest qs (is_word f.token) (λ w. (token_word (behind is_blank s) f t w).1) q))

-- fuel beyond the pieces is of no account
pub pieces_fuel : (n m : ℕ) (s : List ℕ) (ps : List Piece) → pieces_in n s ≡ some ps → length ps < m → pieces_in m s ≡ some ps
unfolding pieces_in onward before same
pieces_fuel zero m s ps e h = absurd (none_some e)
pieces_fuel (suc n) zero s ps e h = absurd (omega arith)
pieces_fuel (suc n) (suc m) s ps e h = cases (pieces_step n s ps e) (λ r qs q k. pieces_fuel n m r qs q k)
  where
    cases : Stepped n s ps → ((r : List ℕ) (qs : List Piece) → pieces_in n r ≡ some qs → length qs < m → pieces_in m r ≡ some qs) → pieces_in (suc m) s ≡ some ps
    cases (last is none_left) later = rw (is, none_left) refl
    cases (next f qs other t q is) later =
        let k : length qs < m = omega (arith, ap length is) in
        rw (other, t, later f.rest qs q k, is)
