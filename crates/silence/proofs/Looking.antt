-- A stop looked up, number by number or pair by pair, by the library's words. Assumes nothing.
use Rattle.std.proofs.Common.{◌≡◌, ℕ, zero, suc, ◌+◌, ◌*◌, ◌<◌, ◌≤◌, Bool, true, false, not, ◌&&◌, ◌||◌, eqb, List, [], ◌∷◌, length, get_or, take, drop, length-drop, ◌-◌, refl, sym, ap, ap₂, ◌∙◌, arith}
use Rattle.std.specs.List.{list_any}
use Rattle.std.specs.Simd.{first_chunks}
use lib.ListN.{drop_of_length-le}
use lib.Seq.{take_all, drop-cons}
use Rattle.word.proofs.Tests.{by_eqb}
use borrow.Author.Tests.{eq-eqb, ne_eqb}
use Rattle.recordings.specs.Recordings.{member}
use Rattle.silence.specs.Silence.{has_recording}

-- what a slice from a place on holds
pub part_rest : (n : ℕ) (l : List ℕ) → take (length l - n) (drop n l) ≡ drop n l
part_rest n l = take_all (length l - n) (drop n l) (omega (arith, length-drop n l))

-- of those that are left the first passes, or the others decide, or none is left
module _ {A : Type 0} (test : A → Bool) (l : List A) where
  one_more : (i : ℕ) (d : A) → i < length l → list_any test (drop i l) ≡ (test (get_or l i d) || list_any test (drop (i + 1) l))
  one_more i d less =
      let next : suc i ≡ i + 1 = omega arith in
      ap (list_any test) (drop-cons l i d less) ∙ ap (λ (k : ℕ). test (get_or l i d) || list_any test (drop k l)) next

  pub any_found : (i : ℕ) (d : A) → i < length l → test (get_or l i d) ≡ true → list_any test (drop i l) ≡ true
  any_found i d less is = one_more i d less ∙ ap (λ (t : Bool). t || list_any test (drop (i + 1) l)) is

  pub any_passed : (i : ℕ) (d : A) → i < length l → test (get_or l i d) ≡ false → list_any test (drop i l) ≡ list_any test (drop (i + 1) l)
  any_passed i d less is = one_more i d less ∙ ap (λ (t : Bool). t || list_any test (drop (i + 1) l)) is

  pub any_none : (i : ℕ) → length l ≤ i → list_any test (drop i l) ≡ false
  any_none i all = ap (list_any test) (drop_of_length-le l all)

module _ (x : ℕ) where
  turned : (y : ℕ) → eqb y x ≡ eqb x y
  turned y = by_eqb (λ t. eqb y x ≡ t) x y (λ e. eq-eqb y x (sym e)) (λ other. ne_eqb y x (λ e. other (sym e)))

  -- a stop stands in a list
  pub member_is : (l : List ℕ) → list_any (λ (y : ℕ). eqb y x) l ≡ member x l
  unfolding member
  member_is [] = refl
  member_is (y ∷ l) = ap₂ (λ (s t : Bool). s || t) (turned y) (member_is l)

  -- a pair has it with a recording
  abbrev pub recorded_in : List ℕ → Bool
  recorded_in pair = eqb (get_or pair 0 0) x && not (eqb (get_or pair 1 0) 0)

  pub recording_is : (count : ℕ) (l : List ℕ) → 2 * count ≤ length l → length l < 2 * count + 2
      → list_any recorded_in (first_chunks 2 count l) ≡ has_recording x l
  unfolding has_recording
  recording_is zero [] low high = refl
  recording_is zero (a ∷ []) low high = refl
  recording_is zero (a ∷ b ∷ l) low high = absurd (omega arith)
  recording_is (suc count) [] low high = absurd (omega arith)
  recording_is (suc count) (a ∷ []) low high = absurd (omega arith)
  recording_is (suc count) (a ∷ b ∷ l) low high =
      ap (λ (t : Bool). (eqb a x && not (eqb b 0)) || t) (recording_is count l (omega arith) (omega arith))
