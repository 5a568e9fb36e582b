-- Counting numbers of a list by a bound: a list in which no number stands twice has at most as many numbers as there are below a bound that
-- is above them all. Assumes nothing.
use Prim.Native.Nat.{ℕ, zero, suc, ◌+◌, ◌<◌, ◌≤◌}
use mathlib.Core.Bool.{Bool, true, false, ◌||◌, cond}
use mathlib.Core.List.{List, [], ◌∷◌, ◌++◌}
use mathlib.Core.Path.{◌≡◌, refl, ap, ◌∙◌}
use native.Mathlib.Omega.{arith}
use borrow.Author.Tests.{le-leb, lt-leb, eq-eqb}
use lib.Dec.{eqb, leb}
use lib.ListN.{length, take, get_or}
use Rattle.word.proofs.Tests.{by_test, by_leb, by_eqb}
use Rattle.recordings.specs.Recordings.{member, has_twice}

-- neither test of a disjunction that fails holds
pub or_false : (s t : Bool) → (s || t) ≡ false → (s ≡ false) × (t ≡ false)
or_false true t e = (e, cc)
or_false false t e = (refl, e)

pub member_first : (x y : ℕ) (l : List ℕ) → x ≡ y → member x (y ∷ l) ≡ true
unfolding member
member_first x y l e = rw (eq-eqb x y e)

-- one number more at the end
pub member_more : (x y : ℕ) (l : List ℕ) → member x l ≡ true → member x (y ∷ l) ≡ true
unfolding member
member_more x y l is = by_test (λ t. (t || member x l) ≡ true) (eqb x y) (λ _. refl) (λ _. is)

pub member_last : (x y : ℕ) (l : List ℕ) → member x (l ++ (y ∷ [])) ≡ (eqb x y || member x l)
unfolding member
member_last x y [] = refl
member_last x y (z ∷ l) =
    ap (λ (t : Bool). eqb x z || t) (member_last x y l) ∙ swap (eqb x z) (eqb x y) (member x l)
  where
    swap : (a b c : Bool) → (a || (b || c)) ≡ (b || (a || c))
    swap true true c = refl
    swap true false c = refl
    swap false b c = refl

-- each number of a list is so
abbrev pub Each : (ℕ → Type 0) → List ℕ → Type 0
Each P l = (x : ℕ) → member x l ≡ true → P x

module _ {P : ℕ → Type 0} (x : ℕ) (xs : List ℕ) where
  pub each_first : Each P (x ∷ xs) → P x
  each_first h = h x (member_first x x xs refl)

  pub each_others : Each P (x ∷ xs) → Each P xs
  each_others h y is = h y (member_more y x xs is)

  pub each_more : P x → Each P xs → Each P (x ∷ xs)
  unfolding member
  each_more here later y =
      by_eqb (λ t. (t || member y xs) ≡ true → P y) y x (λ e _. rw e here) (λ _ is. later y is)

-- no number of an empty list
pub each_none : (P : ℕ → Type 0) → Each P []
unfolding member
each_none P x is = let z : ◌≡◌ {A = ℕ} 0 1 = cc in absurd (omega arith)

-- in two lists one after the other, and in one with one number more
pub each_append : {P : ℕ → Type 0} (l m : List ℕ) → Each P l → Each P m → Each P (l ++ m)
each_append [] m each other = other
each_append (x ∷ l) m each other = each_more x (l ++ m) (each_first x l each) (each_append l m (each_others x l each) other)

pub each_last : (l : List ℕ) (s : ℕ) (P : ℕ → Type 0) → P s → Each P l → Each P (l ++ (s ∷ []))
each_last l s P here each = each_append l (s ∷ []) each (each_more s [] here (each_none P))

-- at each place, and in the first so many
pub each_at : {P : ℕ → Type 0} (l : List ℕ) → Each P l → (k : ℕ) → k < length l → P (get_or l k 0)
each_at [] each k h = absurd (omega arith)
each_at (x ∷ l) each zero h = each_first x l each
each_at (x ∷ l) each (suc k) h = each_at l (each_others x l each) k (omega arith)

pub each_take : {P : ℕ → Type 0} (l : List ℕ) (i : ℕ) → Each P l → Each P (take i l)
each_take [] zero each = each
each_take [] (suc i) each = each
each_take {P} (x ∷ l) zero each = each_none P
each_take (x ∷ l) (suc i) each = each_more x (take i l) (each_first x l each) (each_take l i (each_others x l each))

-- how many numbers are not below a bound
unfoldable pub above : ℕ → List ℕ → ℕ
above low [] = 0
above low (x ∷ xs) = cond (leb low x) (suc (above low xs)) (above low xs)

pub above_all : (l : List ℕ) → above 0 l ≡ length l
unfolding above
above_all [] = refl
above_all (x ∷ l) = rw (le-leb 0 x (omega arith)) (ap suc (above_all l))

-- the same count at two bounds between which no number stands
pub above_same : (l : List ℕ) (low bound : ℕ) → low ≤ bound → Each (λ x. low ≤ x → bound ≤ x) l → above low l ≡ above bound l
unfolding above
above_same [] low bound h each = refl
above_same (x ∷ l) low bound h each =
    let later = above_same l low bound h (each_others x l each) in
    by_leb (λ t. cond t (suc (above low l)) (above low l) ≡ above bound (x ∷ l)) low x
    (λ in-low. rw (le-leb bound x (each_first x l each in-low)) (ap suc later))
    (λ out. rw (lt-leb bound x (omega arith)) later)

pub above_none : (l : List ℕ) (low : ℕ) → Each (λ x. x < low) l → above low l ≡ 0
unfolding above
above_none [] low each = refl
above_none (x ∷ l) low each = rw (lt-leb low x (each_first x l each)) (above_none l low (each_others x l each))

-- true is not false
pub no_both : {t : Bool} → t ≡ true → t ≡ false → ⊥
no_both p q = let z : ◌≡◌ {A = ℕ} 0 1 = cc in omega arith

-- a number that does not stand there is passed
above_pass : (l : List ℕ) (k : ℕ) → member k l ≡ false → above k l ≡ above (suc k) l
above_pass l k out =
    above_same l k (suc k) (omega arith) λ x is h.
    by_eqb (λ _. suc k ≤ x) x k (λ e. absurd (no_both is (ap (λ (y : ℕ). member y l) e ∙ out))) (λ other. omega arith)

-- where no number stands twice, one that stands there counts once
pub above_once : (l : List ℕ) (k : ℕ) → has_twice l ≡ false → member k l ≡ true → above k l ≡ suc (above (suc k) l)
unfolding above member has_twice
above_once [] k once is = let z : ◌≡◌ {A = ℕ} 0 1 = cc in absurd (omega arith)
above_once (x ∷ l) k once is =
    let both = or_false (member x l) (has_twice l) once in
    by_eqb (λ t. (t || member k l) ≡ true → above k (x ∷ l) ≡ suc (above (suc k) (x ∷ l))) k x
    (λ e _. rw (le-leb k x (omega arith), lt-leb (suc k) x (omega arith)) (ap suc (above_pass l k (ap (λ (y : ℕ). member y l) e ∙ both.0))))
    (λ other later. by_leb (λ t. cond t (suc (above k l)) (above k l) ≡ suc (above (suc k) (x ∷ l))) k x
    (λ in-k. rw (le-leb (suc k) x (omega arith)) (ap suc (above_once l k both.1 later)))
    (λ out. rw (lt-leb (suc k) x (omega arith)) (above_once l k both.1 later)))
    is

above_step : (l : List ℕ) (k : ℕ) → has_twice l ≡ false → above k l ≤ suc (above (suc k) l)
above_step l k once =
    by_test (λ t. above k l ≤ suc (above (suc k) l)) (member k l)
    (λ is. omega (arith, above_once l k once is))
    (λ out. omega (arith, above_pass l k out))

above_steps : (l : List ℕ) (n k : ℕ) → has_twice l ≡ false → above k l ≤ n + above (n + k) l
above_steps l zero k once = let same : above (0 + k) l ≡ above k l = ap (λ (m : ℕ). above m l) (omega arith) in omega arith
above_steps l (suc n) k once =
    let next = above_steps l n (suc k) once in
    let same : above (n + suc k) l ≡ above (suc n + k) l = ap (λ (m : ℕ). above m l) (omega arith) in
    omega (arith, above_step l k once)

pub few_below : (l : List ℕ) (n : ℕ) → has_twice l ≡ false → Each (λ x. x < n) l → length l ≤ n
few_below l n once each =
    let steps = above_steps l n 0 once in
    let none = above_none l n each in
    let same : above (n + 0) l ≡ above n l = ap (λ (m : ℕ). above m l) (omega arith) in
    omega (arith, above_all l)
