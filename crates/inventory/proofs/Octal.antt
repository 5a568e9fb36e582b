-- Octal digits, the last one first. Assumes nothing.
use Prim.Native.Nat.{ℕ, zero, suc, ◌+◌, ◌-◌, ◌/◌, ◌%◌, ◌<◌}
use native.Mathlib.Omega.{arith}
use mathlib.Core.List.{List, [], ◌∷◌, ◌++◌, append-nil, append_assoc}
use mathlib.Core.Path.{◌≡◌, refl, sym, ap, ◌∙◌}
use lib.ListN.{length, length-append}
use Rattle.tour.specs.Tour.{nought}
use Rattle.inventory.specs.Inventory.{octal}

pub octal_long : (k n : ℕ) → length (octal k n) ≡ k
unfolding octal
octal_long zero n = refl
octal_long (suc k) n = omega (arith, length-append (octal k (n / 8)) ((nought + n % 8) ∷ []), octal_long k (n / 8))

-- the digits of a number end with these, and those before them are left to the rest
pub record Ends (k n left rest : ℕ) (xs : List ℕ) : Type 0 where
  pub digits : octal k n ≡ octal left rest ++ xs
  pub long : left + length xs ≡ k

pub ends_first : (k n : ℕ) → Ends k n k n []
ends_first k n = record { digits = sym (append-nil (octal k n)); long = omega arith }

octal_last : (left rest : ℕ) → 0 < left → octal left rest ≡ octal (left - 1) (rest / 8) ++ ((nought + rest % 8) ∷ [])
unfolding octal
octal_last zero rest h = absurd (omega arith)
octal_last (suc k) rest h = let less : k ≡ suc k - 1 = omega arith in ap (λ (m : ℕ). octal m (rest / 8) ++ ((nought + rest % 8) ∷ [])) less

pub ends_next : {k n left rest : ℕ} {xs : List ℕ} → Ends k n left rest xs → 0 < left → Ends k n (left - 1) (rest / 8) ((nought + rest % 8) ∷ xs)
ends_next {k} {n} {left} {rest} {xs} e some =
    record {
      digits = e.digits
          ∙ ap (λ (ys : List ℕ). ys ++ xs) (octal_last left rest some)
          ∙ append_assoc (octal (left - 1) (rest / 8)) ((nought + rest % 8) ∷ []) xs;
      long = omega (arith, e.long);
    }

pub ends_last : {k n left rest : ℕ} {xs : List ℕ} → Ends k n left rest xs → left ≡ 0 → octal k n ≡ xs
unfolding octal
ends_last {k} {n} {left} {rest} {xs} e none = e.digits ∙ ap (λ (m : ℕ). octal m rest ++ xs) none
