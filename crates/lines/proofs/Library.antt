-- The words of the specs on lists are the library's, in which iterators state their results. Assumes nothing.
use Prim.Native.Nat.{ℕ, suc, ◌+◌}
use native.Mathlib.Omega.{arith}
use mathlib.Core.Path.{◌≡◌, refl, ap, sym, ◌∙◌}
use mathlib.Core.Bool.{Bool, true, false, not, ◌&&◌, ◌||◌, cond}
use mathlib.Core.List.{List, [], ◌∷◌, map}
use lib.Dec.{eqb, ltb, leb-suc-suc, eqb-suc-zero}
use lib.ListN.{length, take, get_or}
use denote.Ref.{Bor}
use Rattle.std.specs.Prelude.{Option, Some, None, find, position, is_some, option_map, slice_get, unwrap_or}
use Rattle.std.specs.List.{list_all, list_any, prefix_len, position_or_len, slice_split, onto_first}
use Rattle.std.specs.Cmp.Lexicographic.{pointwise}
use Rattle.std.proofs.lemmas.List.Folds.{length-prefix_len}
use borrow.Author.Tests.{lt-ltb, le-ltb}
use Rattle.word.proofs.Tests.{by_test}
use Rattle.lines.specs.Words.{is_empty, same, all, any}
use Rattle.lines.specs.Reading.{front, onto, split, place_of}

pub all_lem : {A : Type 0} (p : A → Bool) (xs : List A) → list_all p xs ≡ all p xs
unfolding all
all_lem p [] = refl
all_lem p (x ∷ xs) = ap (λ (t : Bool). p x && t) (all_lem p xs)

pub any_lem : {A : Type 0} (p : A → Bool) (xs : List A) → list_any p xs ≡ any p xs
unfolding any
any_lem p [] = refl
any_lem p (x ∷ xs) = ap (λ (t : Bool). p x || t) (any_lem p xs)

pub same_lem : (v w : List ℕ) → pointwise eqb v w ≡ same v w
unfolding same
same_lem [] [] = refl
same_lem [] (y ∷ w) = refl
same_lem (x ∷ v) [] = refl
same_lem (x ∷ v) (y ∷ w) = ap (λ (t : Bool). eqb x y && t) (same_lem v w)

prefix_front : (p : ℕ → Bool) (s : List ℕ) → prefix_len p s ≡ length (front p s)
unfolding front
prefix_front p [] = refl
prefix_front p (x ∷ s) =
    by_test (λ t. cond t (1 + prefix_len p s) 0 ≡ length (cond t (x ∷ front p s) [])) (p x)
    (λ _. let later = prefix_front p s in omega arith) (λ _. refl)

-- a word compared with one that is written out
pub same_as : (v : List ℕ) {u w : List ℕ} {r t : Bool} → r ≡ pointwise eqb v u → u ≡ w → r ≡ t → same v w ≡ t
same_as v {w = w} e f g = sym (same_lem v w) ∙ ap (pointwise eqb v) (sym f) ∙ sym e ∙ g

not_not : (t : Bool) → not (not t) ≡ t
not_not true = refl
not_not false = refl

pub differs_as : (v : List ℕ) {u w : List ℕ} {r t : Bool} → r ≡ not (pointwise eqb v u) → u ≡ w → r ≡ t → same v w ≡ not t
differs_as v {u} {w} e f g = sym (same_lem v w) ∙ ap (pointwise eqb v) (sym f) ∙ sym (not_not (pointwise eqb v u)) ∙ ap not (sym e ∙ g)

-- the bytes of a kind that come first, as many as are taken
pub front_taken : (p : ℕ → Bool) (s : List ℕ) → length (take (prefix_len p s) s) ≡ length (front p s)
front_taken p s = length-prefix_len p s ∙ prefix_front p s

pub split_lem : (s : List ℕ) → slice_split (λ x. eqb x 44) s ≡ split s
unfolding split onto
split_lem [] = refl
split_lem (x ∷ s) = rw (split_lem s) (ap (cond (eqb x 44) ([] ∷ split s)) (first (split s)))
  where
    first : (ws : List (List ℕ)) → onto_first x ws ≡ onto x ws
    first [] = refl
    first (w ∷ ws) = refl

-- a word without bytes
pub no_bytes : (w : List ℕ) → eqb (length w) 0 ≡ is_empty w
no_bytes [] = refl
no_bytes (x ∷ w) = eqb-suc-zero (length w)

-- the answer of `is_none`
pub none_is : {A : Type 0} (o : Option A) (r : Bool) → is_some o ≡ not r → r ≡ not (is_some o)
none_is o true e = sym (ap not e)
none_is o false e = sym (ap not e)

-- some element passes exactly when a first one is found, or has a place
pub any_found : {A : Type 0} (p : A → Bool) (xs : List A) → is_some (find p xs) ≡ any p xs
unfolding any
any_found p [] = refl
any_found p (x ∷ xs) = by_test (λ t. is_some (cond t (Some x) (find p xs)) ≡ (t || any p xs)) (p x) (λ _. refl) (λ _. any_found p xs)

any_before : {A : Type 0} (p : A → Bool) (xs : List A) → ltb (position_or_len p xs) (length xs) ≡ any p xs
unfolding any
any_before p [] = le-ltb 0 0 (omega arith)
any_before p (x ∷ xs) =
    by_test (λ t. ltb (cond (not t) (1 + position_or_len p xs) 0) (suc (length xs)) ≡ (t || any p xs)) (p x)
    (λ _. lt-ltb 0 (suc (length xs)) (omega arith))
    (λ _. let one : 1 + position_or_len p xs ≡ suc (position_or_len p xs) = omega arith in
    rw one (leb-suc-suc (suc (position_or_len p xs)) (length xs)) ∙ any_before p xs)

pub any_placed : {A : Type 0} (p : A → Bool) (xs : List A) → is_some (position p xs) ≡ any p xs
any_placed p xs = chosen (ltb (position_or_len p xs) (length xs)) ∙ any_before p xs
  where
    chosen : (t : Bool) → is_some (cond t (Some (position_or_len p xs)) None) ≡ t
    chosen true = refl
    chosen false = refl

-- what is found by a test of what is meant
pub find_map : {A B : Type 0} (g : A → B) (p : B → Bool) (xs : List A) → option_map g (find (λ x. p (g x)) xs) ≡ find p (map g xs)
find_map g p [] = refl
find_map g p (x ∷ xs) =
    by_test (λ t. option_map g (cond t (Some x) (find (λ y. p (g y)) xs)) ≡ cond t (Some (g x)) (find p (map g xs))) (p (g x)) (λ _. refl)
    (λ _. find_map g p xs)

pub map_then : {A B C : Type 0} (g : A → B) (h : B → C) (o : Option A) → option_map (λ x. h (g x)) o ≡ option_map h (option_map g o)
map_then g h None = refl
map_then g h (Some x) = refl

pub some_found : {A B : Type 0} (g : A → B) (o : Option A) (p : B → Bool) (xs : List B) → option_map g o ≡ find p xs → is_some o ≡ any p xs
some_found {A = A} g o p xs e = kept o ∙ ap is_some e ∙ any_found p xs
  where
    kept : (o : Option A) → is_some o ≡ is_some (option_map g o)
    kept None = refl
    kept (Some x) = refl

-- the second of some words, none where there is none
pub second_or : (ws : List (List ℕ)) (o : Option (Bor (List ℕ))) (none : Bor (List ℕ)) → option_map (λ w. w.now) o ≡ slice_get ws 1 → none.now ≡ []
    → get_or ws 1 [] ≡ (unwrap_or o none).now
second_or [] None d e n = sym n
second_or (x ∷ []) None d e n = sym n
second_or (x ∷ y ∷ ws) None d e n = cc
second_or [] (Some w) d e n = cc
second_or (x ∷ []) (Some w) d e n = cc
second_or (x ∷ y ∷ ws) (Some w) d e n = cc

-- a word's place among others, found or not
pub placed_none : (w : List ℕ) (vs : List (List ℕ)) → None ≡ position (same w) vs → any (same w) vs ≡ false
placed_none w vs e = sym (any_placed (same w) vs) ∙ ap is_some (sym e)

pub placed_some : (w : List ℕ) (vs : List (List ℕ)) {m : ℕ} → Some m ≡ position (same w) vs → (any (same w) vs ≡ true) × (m ≡ place_of w vs)
unfolding place_of
placed_some w vs e = (sym (any_placed (same w) vs) ∙ ap is_some (sym e), chosen (ltb (position_or_len (same w) vs) (length vs)) e ∙ place_len vs)
  where
    chosen : {m : ℕ} (t : Bool) → Some m ≡ cond t (Some (position_or_len (same w) vs)) None → m ≡ position_or_len (same w) vs
    chosen true h = cc
    chosen false h = cc

    place_len : (vs : List (List ℕ)) → position_or_len (same w) vs ≡ place_of w vs
    place_len [] = refl
    place_len (v ∷ vs) =
        by_test (λ t. cond (not t) (1 + position_or_len (same w) vs) 0 ≡ cond t 0 (suc (place_of w vs))) (same w v) (λ _. refl)
        (λ _. let later = place_len vs in omega arith)
