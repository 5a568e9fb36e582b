-- The labels that a line's operations call, one operation after the other. Assumes nothing.
use Prim.Native.Nat.{ℕ, suc, ◌+◌, ◌-◌, ◌≤◌, ◌<◌}
use native.Mathlib.Numerals.{add-one}
use native.Mathlib.Omega.{arith}
use mathlib.Core.Path.{◌≡◌, refl, ap, ap₂, sym, subst, ◌∙◌}
use mathlib.Core.Bool.{Bool, true, false, ◌||◌}
use mathlib.Core.List.{List, [], ◌∷◌, ◌++◌}
use borrow.Author.Tests.{lt-leb}
use lib.ListN.{length, drop}
use lib.Seq.{slice}
use Rattle.lines.specs.declared.Spot.{Spot}
use Rattle.lines.specs.declared.Spot.TheVariants.{Word, Paren}
use Rattle.std.specs.Prelude.{Option, Some, None}
use Rattle.lines.specs.Words.{is_empty, all, any, is_done}
use Rattle.lines.specs.Forms.{is_operation}
use Rattle.lines.specs.Reading.{front, is_blank, split, token_at}
use Rattle.lines.specs.Program.{called_in, too_long}
use Rattle.lines.specs.Walking.{token_of, Within, told_spot, spot_told}
use Rattle.faults.specs.Checking.{parens_on, parens_next, parens_in}
use Rattle.lines.specs.Walking.{calls_in}
use Rattle.faults.specs.Places.{goes_to_of}
use Rattle.lines.proofs.Lists.{all_first, all_others}
use Rattle.lines.proofs.Scanning.{drop_behind, end_inside}
use Rattle.lines.proofs.Telling.{spot_is}

-- what an operation calls: nothing, or one label
module _ (p : List ℕ → Bool) where
  pub no_call : {calls : List (List ℕ)} → [] ≡ calls → false ≡ any p calls
  unfolding any
  no_call e = ap (any p) e

  pub one_call : {w : List ℕ} {calls : List (List ℕ)} → w ∷ [] ≡ calls → p w ≡ any p calls
  unfolding any
  one_call {w} e = sym (or_right (p w)) ∙ ap (any p) e
    where
      or_right : (t : Bool) → (t || false) ≡ t
      or_right true = refl
      or_right false = refl

pub any_append : (p : List ℕ → Bool) (xs ys : List (List ℕ)) → any p (xs ++ ys) ≡ (any p xs || any p ys)
unfolding any
any_append p [] ys = refl
any_append p (x ∷ xs) ys = ap (λ (t : Bool). p x || t) (any_append p xs ys) ∙ or_assoc (p x) (any p xs) (any p ys)
  where
    or_assoc : (r s t : Bool) → (r || (s || t)) ≡ ((r || s) || t)
    or_assoc true s t = refl
    or_assoc false s t = refl

called_cons : (b : ℕ) (x : List (List ℕ)) (xs : List (List (List ℕ))) → called_in b (x ∷ xs) ≡ calls_in b x ++ called_in b xs
unfolding called_in calls_in
called_cons b x xs = refl

-- parentheses of a line from a place on, all of a kind, one after the other
module _ (q : List (List ℕ) → Bool) (s : List ℕ) where
  pub record Parens (left at : ℕ) : Type 0 where
    pub inside : at ≤ length s
    pub whole : length (parens_in left (drop at s)) ≡ left
    pub proper : all q (parens_in left (drop at s)) ≡ true

  pub parens_none : (left at : ℕ) → left ≤ 0 → parens_in left (drop at s) ≡ []
  unfolding parens_in
  parens_none left at l = let none_left : left ≡ 0 = omega arith in rw none_left

  module _ {left at : ℕ} (h : Parens left at) (more : 0 < left) (start : ℕ) (begins : start ≡ at + length (front is_blank (drop at s))) where
    pub parens_start : start ≤ length s
    parens_start = let inside = end_inside is_blank s at h.inside in omega arith

    one_less : left ≡ suc (left - 1)
    one_less = omega arith

    pub record Here (close : ℕ) : Type 0 where
      pub opens : start < close
      pub closes : close < length s
      pub found : parens_in left (drop at s) ≡ split (slice (start + 1) close s) ∷ parens_in (left - 1) (drop (close + 1) s)

    next_token : (spot : Option Spot) → token_of s start spot ≡ token_at (drop start s)
        → parens_in left (drop at s) ≡ parens_next (parens_in (left - 1)) (token_of s start spot)
    unfolding parens_in
    next_token spot t =
        ap (λ (n : ℕ). parens_in n (drop at s)) one_less
        ∙ ap (parens_next (parens_in (left - 1))) (ap token_at (sym (rw begins (drop_behind is_blank s at))) ∙ sym t)

    -- the token is a parenthesis
    paren_here : (spot : Option Spot) → token_of s start spot ≡ token_at (drop start s) → Within s start spot
        → (close : ℕ) × ((spot ≡ Some (Paren close)) × Here close)
    unfolding token_of parens_next parens_on
    paren_here None t i = let none = ap length (next_token None t) in let whole = h.whole in absurd (omega arith)
    paren_here (Some (Word end)) t i = let none = ap length (next_token (Some (Word end)) t) in let whole = h.whole in absurd (omega arith)
    paren_here (Some (Paren close)) t i = (
      close,
      (
        refl,
        record {
          opens = i.0;
          closes = i.1;
          found = next_token (Some (Paren close)) t
              ∙ ap₂ (λ (n m : ℕ). split (slice n close s) ∷ parens_in (left - 1) (drop m s)) (sym (add-one start)) (sym (add-one close));
        },
      ),
    )

    pub parens_only : (spot : Option Spot) → told_spot spot ≡ spot_told s (token_at (drop start s)) → ((close : ℕ) → spot ≡ Some (Paren close) → ⊥) → ⊥
    parens_only spot told other =
        let (t, i) = spot_is s start spot told in
        let (close, (is, k)) = paren_here spot t i in
        other close is

    pub parens_close : {close : ℕ} → told_spot (Some (Paren close)) ≡ spot_told s (token_at (drop start s)) → Here close
    parens_close {close} told =
        let (t, i) = spot_is s start (Some (Paren close)) told in
        let (to, (is, k)) = paren_here (Some (Paren close)) t i in
        let same_close : close ≡ to = cc in
        subst (λ (n : ℕ). Here n) (sym same_close) k

    module _ {close : ℕ} (k : Here close) where
      pub parens_first : q (split (slice (start + 1) close s)) ≡ true
      parens_first = all_first q (split (slice (start + 1) close s)) (parens_in (left - 1) (drop (close + 1) s)) (rw k.found at h.proper)

      pub parens_more : Parens (left - 1) (close + 1)
      parens_more =
          let whole = h.whole in
          let long = ap length k.found in
          let closes = k.closes in
          record {
            inside = omega arith;
            whole = omega arith;
            proper = all_others q (split (slice (start + 1) close s)) (parens_in (left - 1) (drop (close + 1) s)) (rw k.found at h.proper);
          }

module _ (b : ℕ) (p : List ℕ → Bool) (s : List ℕ) (goal : Bool) where
  pub record Using (left at : ℕ) : Type 0 where
    pub parens : Parens (is_operation b) s left at
    pub rest : any p (called_in b (parens_in left (drop at s))) ≡ goal

  module _ {left at : ℕ} (h : Using left at) where
    pub using_all : left ≤ 0 → false ≡ goal
    unfolding called_in any
    using_all l = rw (parens_none (is_operation b) s left at l) at h.rest

    module _ (more : 0 < left) (start : ℕ) (begins : start ≡ at + length (front is_blank (drop at s))) {close : ℕ}
        (k : Here (is_operation b) s h.parens more start begins close) where
      abbrev its : List (List ℕ)
      its = split (slice (start + 1) close s)

      calls_here : (any p (calls_in b its) || any p (called_in b (parens_in (left - 1) (drop (close + 1) s)))) ≡ goal
      calls_here =
          sym (ap (λ (xs : List (List (List ℕ))). any p (called_in b xs)) k.found ∙ ap (any p) (called_cons b its (parens_in (left - 1) (drop (close + 1) s)))
          ∙ any_append p (calls_in b its) (called_in b (parens_in (left - 1) (drop (close + 1) s)))) ∙ h.rest

      pub using_found : any p (calls_in b its) ≡ true → true ≡ goal
      using_found e = rw e at calls_here

      pub using_more : any p (calls_in b its) ≡ false → Using (left - 1) (close + 1)
      using_more e = record { parens = parens_more (is_operation b) s h.parens more start begins k; rest = rw e at calls_here }

-- a go-to, and a label declared again
pub empty_word : (w : List ℕ) → length w ≡ 0 → is_empty w ≡ true
empty_word [] e = refl
empty_word (x ∷ w) e = absurd (omega arith)

pub filled_word : (w : List ℕ) → (length w ≡ 0 → ⊥) → is_empty w ≡ false
filled_word [] e = absurd (e refl)
filled_word (x ∷ w) e = refl

module _ (p : List ℕ → Bool) (w : List ℕ) where
  pub goes_nowhere : is_empty w ≡ true → false ≡ any p (goes_to_of w)
  unfolding goes_to_of any
  goes_nowhere e = rw e

  pub goes_done : is_empty w ≡ false → is_done w ≡ true → false ≡ any p (goes_to_of w)
  unfolding goes_to_of any
  goes_done e f = rw (e, f)

  pub goes_on : is_empty w ≡ false → is_done w ≡ false → p w ≡ any p (goes_to_of w)
  unfolding goes_to_of any
  goes_on e f = rw (e, f) (sym (or_right (p w)))
    where
      or_right : (t : Bool) → (t || false) ≡ t
      or_right true = refl
      or_right false = refl

pub too_many : (lent count size : ℕ) → 800 < size → true ≡ too_long lent (count + size)
unfolding too_long
too_many lent count size h = rw (lt-leb (count + size) 800 (omega arith))
