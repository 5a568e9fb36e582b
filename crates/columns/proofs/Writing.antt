-- Numbers stored one after the other from a place on. Assumes nothing.
use Prim.Native.Nat.{ℕ, zero, suc, ◌+◌, ◌≤◌}
use native.Mathlib.Omega.{arith}
use mathlib.Core.List.{List, [], ◌∷◌, ◌++◌, append_assoc}
use mathlib.Core.Path.{◌≡◌, sym, ap, ap₂, ◌∙◌}
use lib.ListN.{length, set, take, drop}
use lib.Seq.{take-nil, length-take-le, sets, sets-eq}
use Rattle.word.proofs.Filling.{Fills, fills_all}

-- the first p, and then m more
pub sets_more : (p m to : ℕ) (xs l : List ℕ) → sets (sets l to (take p xs)) (to + p) (take m (drop p xs)) ≡ sets l to (take (p + m) xs)
sets_more zero m to xs l =
    let start : to + zero ≡ to = omega arith in
    let count : zero + m ≡ m = omega arith in
    ap₂ (λ (i j : ℕ). sets l i (take j xs)) start (sym count)
sets_more (suc p) m to [] l = ap (λ (ys : List ℕ). sets l (to + suc p) ys) (take-nil m) ∙ ap (λ (ys : List ℕ). sets l to ys) (sym (take-nil (suc p + m)))
sets_more (suc p) m to (x ∷ xs) l =
    let start : to + suc p ≡ suc to + p = omega arith in
    let count : suc p + m ≡ suc (p + m) = omega arith in
    ap (λ (i : ℕ). sets (sets (set l to x) (suc to) (take p xs)) i (take m (drop p xs))) start
    ∙ sets_more p m (suc to) xs (set l to x)
    ∙ ap (λ (j : ℕ). sets l to (take j (x ∷ xs))) (sym count)

-- by a loop that fills
pub fills_sets : {to n : ℕ} {xs l o : List ℕ} {i : ℕ} → Fills to n xs l o i → n ≤ i → o ≡ sets l to xs
fills_sets {to} {n} {xs} {l} so_far done = fills_all so_far done ∙ sym (sets-eq xs l to (omega arith) ∙ rw (so_far.count, append_assoc))

-- from the start on
pub sets_start : (xs l : List ℕ) → length xs ≤ length l → sets l 0 xs ≡ xs ++ drop (length xs) l
sets_start xs l room =
    let count : 0 + length xs ≡ length xs = omega arith in
    sets-eq xs l 0 (omega arith) ∙ ap (λ (k : ℕ). xs ++ drop k l) count

module _ (xs l : List ℕ) {o : List ℕ} where
  pub start_more : (p m : ℕ) → o ≡ sets l 0 (take p xs) → sets o p (take m (drop p xs)) ≡ sets l 0 (take (p + m) xs)
  start_more p m so_far =
      let here : p ≡ 0 + p = omega arith in
      ap₂ (λ (r : List ℕ) (i : ℕ). sets r i (take m (drop p xs))) so_far here ∙ sets_more p m 0 xs l

  pub start_all : (n : ℕ) → n ≤ length xs → n ≤ length l → o ≡ sets l 0 (take n xs) → o ≡ take n xs ++ drop n l
  start_all n some room so_far =
      let long = length-take-le n xs some in
      so_far ∙ sets_start (take n xs) l (omega arith) ∙ ap (λ (k : ℕ). take n xs ++ drop k l) long
