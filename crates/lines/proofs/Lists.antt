-- Lists of bytes: tests over them, what comes first and what follows, words joined by commas and split again. Assumes nothing.
use Prim.Native.Nat.{ℕ, ◌<◌}
use native.Mathlib.Omega.{arith}
use mathlib.Core.Path.{◌≡◌, refl, ap, ap₂, sym, ◌∙◌}
use mathlib.Core.Bool.{Bool, true, false, not, ◌&&◌, cond}
use mathlib.Core.List.{List, [], ◌∷◌, ◌++◌}
use mathlib.Core.Option.{none, some}
use borrow.Author.Tests.{eqb-true, eq-eqb, not-true}
use lib.Dec.{eqb}
use lib.ListN.{length}
use Rattle.word.proofs.Tests.{by_test, by_eqb, and_true, and_false}
use Rattle.lines.specs.Words.{same, is_empty, all}
use Rattle.lines.specs.Grammar.{joined}
use Rattle.lines.specs.Reading.{front, behind, onto, split}

-- what is none is not some
pub none_some : {A : Type 0} {x : A} → none ≡ some x → ⊥
none_some e = let z : ◌≡◌ {A = ℕ} 0 1 = cc in omega arith

pub true_false : {t : Bool} → t ≡ true → t ≡ false → ⊥
true_false e n = let z : ◌≡◌ {A = ℕ} 0 1 = cc in omega arith

pub some_same : {A : Type 0} {x y : A} → some x ≡ some y → x ≡ y
some_same e = cc

-- both tests hold, as one
pub and_both : {s t : Bool} → s ≡ true → t ≡ true → (s && t) ≡ true
and_both e f = rw (e, f)

pub same_eq : (v w : List ℕ) → same v w ≡ true → v ≡ w
unfolding same
same_eq [] [] e = refl
same_eq [] (y ∷ w) e = absurd (true_false e refl)
same_eq (x ∷ v) [] e = absurd (true_false e refl)
same_eq (x ∷ v) (y ∷ w) e = let (h, t) = and_true (eqb x y) (same v w) e in ap₂ ◌∷◌ (eqb-true x y h) (same_eq v w t)

pub same_refl : (w : List ℕ) → same w w ≡ true
unfolding same
same_refl [] = refl
same_refl (x ∷ w) = rw (eq-eqb x x refl) (same_refl w)

module _ {A : Type 0} (p : A → Bool) where
  pub all_first : (x : A) (xs : List A) → all p (x ∷ xs) ≡ true → p x ≡ true
  unfolding all
  all_first x xs e = (and_true (p x) (all p xs) e).0

  pub all_others : (x : A) (xs : List A) → all p (x ∷ xs) ≡ true → all p xs ≡ true
  unfolding all
  all_others x xs e = (and_true (p x) (all p xs) e).1

  pub all_append : (xs ys : List A) → all p xs ≡ true → all p ys ≡ true → all p (xs ++ ys) ≡ true
  unfolding all
  all_append [] ys e f = f
  all_append (x ∷ xs) ys e f = and_both (all_first x xs e) (all_append xs ys (all_others x xs e) f)

-- a test that follows from another
pub all_weaken : {A : Type 0} (p q : A → Bool) → ((x : A) → p x ≡ true → q x ≡ true) → (xs : List A) → all p xs ≡ true → all q xs ≡ true
unfolding all
all_weaken p q h [] e = refl
all_weaken p q h (x ∷ xs) e = and_both (h x (all_first p x xs e)) (all_weaken p q h xs (all_others p x xs e))

module _ (p : ℕ → Bool) where
  -- a list that does not go on with such a byte
  unfoldable pub stops : List ℕ → Bool
  stops [] = true
  stops (x ∷ xs) = not (p x)

  pub front_append : (w s : List ℕ) → all p w ≡ true → stops s ≡ true → front p (w ++ s) ≡ w
  unfolding front stops all
  front_append [] [] e st = refl
  front_append [] (x ∷ s) e st = rw (not-true (p x) st)
  front_append (x ∷ w) s e st = rw (all_first p x w e) (ap (λ (l : List ℕ). x ∷ l) (front_append w s (all_others p x w e) st))

  pub behind_append : (w s : List ℕ) → all p w ≡ true → stops s ≡ true → behind p (w ++ s) ≡ s
  unfolding behind stops all
  behind_append [] [] e st = refl
  behind_append [] (x ∷ s) e st = rw (not-true (p x) st)
  behind_append (x ∷ w) s e st = rw (all_first p x w e) (behind_append w s (all_others p x w e) st)

  pub front_behind : (s : List ℕ) → front p s ++ behind p s ≡ s
  unfolding front behind
  front_behind [] = refl
  front_behind (x ∷ s) =
      by_test (λ t. cond t (x ∷ front p s) [] ++ cond t (behind p s) (x ∷ s) ≡ x ∷ s) (p x)
      (λ _. ap (λ (l : List ℕ). x ∷ l) (front_behind s)) (λ _. refl)

  pub behind_stops : (s : List ℕ) → stops (behind p s) ≡ true
  unfolding behind stops
  behind_stops [] = refl
  behind_stops (x ∷ s) =
      by_test (λ t. p x ≡ t → stops (cond t (behind p s) (x ∷ s)) ≡ true) (p x) (λ _ _. behind_stops s) (λ _ e. ap not e) refl

  pub front_all : (s : List ℕ) → all p (front p s) ≡ true
  unfolding front all
  front_all [] = refl
  front_all (x ∷ s) =
      by_test (λ t. p x ≡ t → all p (cond t (x ∷ front p s) []) ≡ true) (p x) (λ _ e. and_both e (front_all s)) (λ _ _. refl) refl

-- bytes other than a comma
abbrev pub no_comma : ℕ → Bool
no_comma x = not (eqb x 44)

split_word : (w : List ℕ) → all no_comma w ≡ true → split w ≡ w ∷ []
unfolding split onto all
split_word [] e = refl
split_word (x ∷ w) e = rw (not-true (eqb x 44) (all_first no_comma x w e), split_word w (all_others no_comma x w e))

split_comma : (w s : List ℕ) → all no_comma w ≡ true → split (w ++ 44 ∷ s) ≡ w ∷ split s
unfolding split onto all
split_comma [] s e = refl
split_comma (x ∷ w) s e = rw (not-true (eqb x 44) (all_first no_comma x w e), split_comma w s (all_others no_comma x w e))

-- words joined by commas are split again
pub split_joined : (w : List ℕ) (ws : List (List ℕ)) → all (all no_comma) (w ∷ ws) ≡ true → split (joined (w ∷ ws)) ≡ w ∷ ws
unfolding joined
split_joined w [] e = split_word w (all_first (all no_comma) w [] e)
split_joined w (v ∷ ws) e =
    split_comma w (joined (v ∷ ws)) (all_first (all no_comma) w (v ∷ ws) e)
    ∙ ap (λ (l : List (List ℕ)). w ∷ l) (split_joined v ws (all_others (all no_comma) w (v ∷ ws) e))

joined_onto : (x : ℕ) (ws : List (List ℕ)) → joined (onto x ws) ≡ x ∷ joined ws
unfolding joined onto
joined_onto x [] = refl
joined_onto x (w ∷ []) = refl
joined_onto x (w ∷ v ∷ ws) = refl

joined_empty : (ws : List (List ℕ)) → is_empty ws ≡ false → joined ([] ∷ ws) ≡ 44 ∷ joined ws
unfolding joined
joined_empty ws e = rw e

split_some : (s : List ℕ) → is_empty (split s) ≡ false
unfolding split onto
split_some [] = refl
split_some (x ∷ s) = by_test (λ t. is_empty (cond t ([] ∷ split s) (onto x (split s))) ≡ false) (eqb x 44) (λ _. refl) (λ _. onto_some (split s))
  where
    onto_some : (ws : List (List ℕ)) → is_empty (onto x ws) ≡ false
    onto_some [] = refl
    onto_some (w ∷ ws) = refl

joined_nothing : joined ([] ∷ []) ≡ []
unfolding joined
joined_nothing = refl

-- bytes split at commas are joined again
pub joined_split : (s : List ℕ) → joined (split s) ≡ s
unfolding split
joined_split [] = joined_nothing
joined_split (x ∷ s) =
    by_eqb (λ t. joined (cond t ([] ∷ split s) (onto x (split s))) ≡ x ∷ s) x 44
    (λ e. joined_empty (split s) (split_some s) ∙ ap₂ ◌∷◌ (sym e) (joined_split s))
    (λ _. joined_onto x (split s) ∙ ap (λ (l : List ℕ). x ∷ l) (joined_split s))
