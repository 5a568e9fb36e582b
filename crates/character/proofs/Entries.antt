-- Laws of the three-character list: its entries by the decimal definition, and that the constant is the list so worked out. The constant's
-- rule is one test over its entries, which antt computes. Assumes nothing.
use mathlib.Core.Path.{◌≡◌, refl, sym, ◌∙◌}
use mathlib.Core.Logic.{⊎_elim}
use mathlib.Core.Bool.{Bool}
use mathlib.Core.List.{[], ◌∷◌, ◌++◌}
use Prim.Native.Nat.{ℕ, zero, suc, ◌+◌, ◌*◌, ◌/◌, ◌%◌, ◌<◌}
use native.Mathlib.Nat.{eq-or-lt_of_le, le_of_suc-le-suc}
use native.Mathlib.Omega.{arith}
use lib.Dec.{T, eqb, eqb→eq}
use lib.ListN.{length, get_or, length-append, get_or-append}
use lib.Seq.{get_or-append-add, ext_get_or}
use Rattle.character.specs.Character.{digits, number, packed, from_binary}
use Rattle.character.specs.Thousand.{thousand}
use Rattle.character.specs.Triples.{triples}
use Rattle.character.proofs.Digits.{three_three}
use Rattle.character.proofs.RoundTrip.{from_binary_lt}
use Rattle.character.proofs.Table.{every, at}

-- as many entries as asked for
pub length_triples : (n : ℕ) → length (triples n) ≡ n
unfolding triples
length_triples zero = refl
length_triples (suc n) = rw (length-append, length_triples n) (omega arith)

-- entry k is the three decimal digits of k
pub triples_at : (n k : ℕ) → k < n → get_or (triples n) k 0 ≡ from_binary 10 3 k
unfolding triples
triples_at zero k h = omega arith
triples_at (suc n) k h = ⊎_elim last (λ l. earlier l (triples_at n k l)) (eq-or-lt_of_le (le_of_suc-le-suc h))
  where
    last : k ≡ n → get_or (triples n ++ (from_binary 10 3 n ∷ [])) k 0 ≡ from_binary 10 3 k
    last e =
        let place : length (triples n) + 0 ≡ k = rw length_triples (omega arith) in
        rw (← place, get_or-append-add, place, e)

    earlier : k < n → get_or (triples n) k 0 ≡ from_binary 10 3 k → get_or (triples n ++ (from_binary 10 3 n ∷ [])) k 0 ≡ from_binary 10 3 k
    earlier l same =
        let inside : k < length (triples n) = rw length_triples l in
        rw get_or-append same

-- the test over the whole constant, and carried to each entry
right : ℕ → ℕ → Bool
right k x = eqb x (from_binary 10 3 k)

every_right : T (every right 0 thousand)
unfolding right thousand digits number packed from_binary
every_right = tt

pub thousand_length : length thousand ≡ 1000
unfolding thousand
thousand_length = refl

-- entry k of the constant is the three decimal digits of k
pub thousand_at : (k : ℕ) → k < 1000 → get_or thousand k 0 ≡ from_binary 10 3 k
unfolding right
thousand_at k h = eqb→eq (get_or thousand k 0) (from_binary 10 3 k) (at right thousand every_right k (rw thousand_length h))

-- three characters fit eighteen bits
pub thousand_small : (k : ℕ) → k < 1000 → get_or thousand k 0 < 262144
thousand_small k h = rw (thousand_at k h) (from_binary_lt 10 3 k (omega arith) (omega arith))

-- six characters, three and three
pub six_is : (k : ℕ) → k < 1000000 → get_or thousand (k / 1000) 0 * 262144 + get_or thousand (k % 1000) 0 ≡ from_binary 10 6 k
six_is k h = rw (thousand_at (k / 1000) (omega arith), thousand_at (k % 1000) (omega arith)) (three_three k h)

-- of a number below 1,000 the first three are zeros
pub three_is : (k : ℕ) → k < 1000 → get_or thousand (k / 1000) 0 * 262144 + get_or thousand (k % 1000) 0 ≡ from_binary 10 3 k
three_is k h =
    let none : k / 1000 ≡ 0 = omega arith in
    let all : k % 1000 ≡ k = omega arith in
    let zero-first : get_or thousand 0 0 ≡ 0 = unfold thousand in refl in
    rw (none, all, zero-first, thousand_at k h) (omega arith)

-- the constant is the list worked out
pub thousand_made : thousand ≡ triples 1000
thousand_made =
    ext_get_or 0 thousand (triples 1000) (thousand_length ∙ sym (length_triples 1000))
    (λ k h. let small : k < 1000 = rw thousand_length at h in thousand_at k small ∙ sym (triples_at 1000 k small))
