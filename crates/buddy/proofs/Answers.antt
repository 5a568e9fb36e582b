-- The answer of the search for a run, in numbers and as it is. Assumes nothing.
use Rattle.std.specs.Prelude.{Option, Some, None}
use Rattle.std.proofs.Common.{◌≡◌, ℕ, List, [], ◌∷◌, refl, ap, arith}
use Rattle.buddy.specs.Lowest.{first_of, told_found, first_told}

pub first_told_lem : (rs : List ℕ) {answer : Option ℕ} → answer ≡ first_of rs → told_found answer ≡ first_told rs
unfolding first_of told_found first_told
first_told_lem [] e = ap told_found e
first_told_lem (r ∷ rs) e = ap told_found e

pub told_first : (rs : List ℕ) {answer : Option ℕ} → told_found answer ≡ first_told rs → answer ≡ first_of rs
unfolding first_of told_found first_told
told_first [] {answer = Some a} e = let never : ◌≡◌ {A = ℕ} 0 1 = cc in absurd (omega arith)
told_first [] {answer = None} e = refl
told_first (r ∷ rs) {answer = Some a} e = let same : a ≡ r = cc in ap Some same
told_first (r ∷ rs) {answer = None} e = let never : ◌≡◌ {A = ℕ} 0 1 = cc in absurd (omega arith)
