-- The bytes of a kind that come first, by their places, and the token at a place. Assumes nothing.
use Prim.Native.Nat.{ℕ, suc, ◌+◌, ◌≤◌, ◌<◌}
use native.Mathlib.Omega.{arith}
use mathlib.Core.Path.{◌≡◌, refl, ap, sym, ◌∙◌}
use mathlib.Core.Bool.{Bool, true, false, not, cond}
use mathlib.Core.List.{List, [], ◌∷◌}
use borrow.Author.Tests.{eq-eqb, ne_eqb, not-true, not-false}
use lib.Dec.{eqb}
use lib.ListN.{length, take, drop, get_or, length-drop, drop_of_length-le}
use lib.Seq.{slice, drop-cons, drop-drop, drop_at, take-add, length-take-le, slice-cons}
use Rattle.std.specs.Prelude.{Some, None}
use Rattle.word.proofs.Tests.{by_test, either_way}
use Rattle.lines.specs.declared.Spot.TheVariants.{Word, Paren}
use Rattle.lines.specs.Words.{starts_with, is_name}
use Rattle.lines.specs.Reading.{front, behind, is_inside, closed, token_at}
use Rattle.lines.specs.Walking.{token_of}
use Rattle.lines.proofs.Lists.{stops, behind_stops}

front_length : (p : ℕ → Bool) (s : List ℕ) → length (front p s) ≤ length s
unfolding front
front_length p [] = omega arith
front_length p (x ∷ s) = let later = front_length p s in either_way (λ (l : List ℕ). length l ≤ suc (length s)) (p x) (omega arith) (omega arith)

-- the first byte of a word, for a kind that 0 is not of
pub starts_first : (p : ℕ → Bool) (w : List ℕ) → p 0 ≡ false → starts_with p w ≡ p (get_or w 0 0)
unfolding starts_with
starts_first p [] e = sym e
starts_first p (x ∷ w) e = refl

-- the bytes that come first, and those behind them, by their places
front_take : (p : ℕ → Bool) (s : List ℕ) → take (length (front p s)) s ≡ front p s
unfolding front
front_take p [] = refl
front_take p (x ∷ s) =
    by_test (λ t. take (length (cond t (x ∷ front p s) [])) (x ∷ s) ≡ cond t (x ∷ front p s) []) (p x)
    (λ _. ap (λ (l : List ℕ). x ∷ l) (front_take p s)) (λ _. refl)

behind_drop : (p : ℕ → Bool) (s : List ℕ) → drop (length (front p s)) s ≡ behind p s
unfolding front behind
behind_drop p [] = refl
behind_drop p (x ∷ s) =
    by_test (λ t. drop (length (cond t (x ∷ front p s) [])) (x ∷ s) ≡ cond t (behind p s) (x ∷ s)) (p x) (λ _. behind_drop p s) (λ _. refl)

module _ (p : ℕ → Bool) (s : List ℕ) (at : ℕ) where
  pub slice_front : at ≤ length s → slice at (at + length (front p (drop at s))) s ≡ front p (drop at s)
  slice_front h =
      ap (drop at) (take-add at (length (front p (drop at s))) s)
      ∙ drop_at (take at s) (take (length (front p (drop at s))) (drop at s)) at (length-take-le at s h)
      ∙ front_take p (drop at s)

  pub drop_behind : drop (at + length (front p (drop at s))) s ≡ behind p (drop at s)
  drop_behind = sym (drop-drop (length (front p (drop at s))) at s) ∙ behind_drop p (drop at s)

  pub end_inside : at ≤ length s → at + length (front p (drop at s)) ≤ length s
  end_inside h = omega (arith, front_length p (drop at s), length-drop at s)

stopped : (x : ℕ) (s : List ℕ) → stops is_inside (x ∷ s) ≡ true → eqb x 41 ≡ true
unfolding stops
stopped x s e = not-false (eqb x 41) (not-true (not (eqb x 41)) e)

-- the tokens at a place of a text
module _ (text : List ℕ) (at : ℕ) where
  pub no_token : length text ≤ at → token_of text at None ≡ token_at (drop at text)
  unfolding token_at token_of
  no_token h = rw (drop_of_length-le text h)

  module _ (inside : at < length text) where
    pub no_token_here : (get_or text at 0 ≡ 40 → ⊥) → is_name (get_or text at 0) ≡ false → token_of text at None ≡ token_at (drop at text)
    unfolding token_at token_of
    no_token_here other no_word = rw (drop-cons text at 0 inside, ne_eqb (get_or text at 0) 40 other, no_word)

    pub word_here : (end : ℕ) → (get_or text at 0 ≡ 40 → ⊥) → is_name (get_or text at 0) ≡ true → end ≡ at + 1 + length (front is_name (drop (at + 1) text))
        → token_of text at (Some (Word end)) ≡ token_at (drop at text)
    unfolding token_at token_of
    word_here end other is e =
        let one : at + 1 ≡ suc at = omega arith in
        let its_end : end ≡ suc at + length (front is_name (drop (suc at) text)) = rw one at e in
        let held = end_inside is_name text (suc at) inside in
        let first : slice at end text ≡ get_or text at 0 ∷ front is_name (drop (suc at) text) =
        slice-cons at end text 0 (omega arith) (omega arith)
        ∙ ap (λ (l : List ℕ). get_or text at 0 ∷ l) (rw its_end (slice_front is_name text (suc at) inside)) in
        let rest : drop end text ≡ behind is_name (drop (suc at) text) = rw its_end (drop_behind is_name text (suc at)) in
        rw (first, rest, drop-cons text at 0 inside, ne_eqb (get_or text at 0) 40 other, is)

    pub open_here : (close : ℕ) → get_or text at 0 ≡ 40 → close ≡ at + 1 + length (front is_inside (drop (at + 1) text)) → close < length text
        → token_of text at (Some (Paren close)) ≡ token_at (drop at text)
    unfolding token_at token_of closed
    open_here close is e more =
        let one : at + 1 ≡ suc at = omega arith in
        let its_end : close ≡ suc at + length (front is_inside (drop (suc at) text)) = rw one at e in
        let first : slice (suc at) close text ≡ front is_inside (drop (suc at) text) = rw its_end (slice_front is_inside text (suc at) inside) in
        let rest : behind is_inside (drop (suc at) text) ≡ get_or text close 0 ∷ drop (suc close) text =
        sym (rw its_end (drop_behind is_inside text (suc at))) ∙ drop-cons text close 0 more in
        let stop : eqb (get_or text close 0) 41 ≡ true = stopped (get_or text close 0) (drop (suc close) text)
        (rw rest at (behind_stops is_inside (drop (suc at) text))) in
        rw (first, drop-cons text at 0 inside, eq-eqb (get_or text at 0) 40 is, rest, stop)

    pub never_closed : (close : ℕ) → get_or text at 0 ≡ 40 → close ≡ at + 1 + length (front is_inside (drop (at + 1) text)) → length text ≤ close
        → token_of text at None ≡ token_at (drop at text)
    unfolding token_at token_of closed
    never_closed close is e less =
        let one : at + 1 ≡ suc at = omega arith in
        let its_end : close ≡ suc at + length (front is_inside (drop (suc at) text)) = rw one at e in
        let rest : behind is_inside (drop (suc at) text) ≡ [] = sym (rw its_end (drop_behind is_inside text (suc at))) ∙ drop_of_length-le text less in
        rw (drop-cons text at 0 inside, eq-eqb (get_or text at 0) 40 is, rest)

-- a token ends within the text
pub within_word : (text : List ℕ) (at end : ℕ) → at < length text → end ≡ at + 1 + length (front is_name (drop (at + 1) text)) → (at < end) × (end ≤ length text)
within_word text at end l e = let inside = end_inside is_name text (at + 1) (omega arith) in (omega arith, omega arith)

pub within_open : (text : List ℕ) (at close : ℕ) → close ≡ at + 1 + length (front is_inside (drop (at + 1) text)) → at < close
within_open text at close e = omega arith
