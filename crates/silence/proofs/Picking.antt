-- The stops that a test picks, place by place, and how many there are. Assumes nothing.
use Prim.Native.Nat.{ℕ, zero, suc, ◌+◌, ◌<◌, ◌≤◌}
use native.Mathlib.Numerals.{add-one}
use native.Mathlib.Omega.{arith}
use mathlib.Core.Bool.{Bool, cond}
use mathlib.Core.List.{List, [], ◌∷◌}
use mathlib.Core.Path.{◌≡◌, sym, ap, ◌∙◌}
use lib.ListN.{length, get_or, take, drop, drop_of_length-le}
use lib.Seq.{drop-cons, take-suc}
use Rattle.std.specs.List.{filter, range_with_len}
use Rattle.word.proofs.Tests.{by_test}
use Rattle.silence.specs.Silence.{Test, picked, test_at}

-- those that are left from a place on
abbrev pub left_at : Test → List ℕ → ℕ → List ℕ
left_at test stops i = picked test (take i stops) (drop i stops)

module _ (test : Test) (stops : List ℕ) where
  pub left_none : (i : ℕ) → length stops ≤ i → left_at test stops i ≡ []
  unfolding picked
  left_none i h = ap (picked test (take i stops)) (drop_of_length-le stops h)

  module _ (i : ℕ) (more : i < length stops) where
    left_here : left_at test stops i
        ≡ cond (test_at test stops i) (get_or stops i 0 ∷ left_at test stops (i + 1)) (left_at test stops (i + 1))
    unfolding picked
    left_here =
        rw (add-one i)
        (ap (picked test (take i stops)) (drop-cons stops i 0 more)
        ∙ ap (λ (l : List ℕ). cond (test (take i stops) (get_or stops i 0) (drop (suc i) stops))
        (get_or stops i 0 ∷ picked test l (drop (suc i) stops)) (picked test l (drop (suc i) stops))) (sym (take-suc stops i 0 more)))

    -- what is left where the stop there is picked, and where it is not
    abbrev pub LeftBy : Bool → Type 0
    LeftBy is = left_at test stops i ≡ cond is (get_or stops i 0 ∷ left_at test stops (i + 1)) (left_at test stops (i + 1))

    pub left_by : {is : Bool} → is ≡ test_at test stops i → LeftBy is
    left_by same =
        left_here ∙ ap (λ (t : Bool). cond t (get_or stops i 0 ∷ left_at test stops (i + 1)) (left_at test stops (i + 1))) (sym same)

  -- how many there are, by the places that are picked
  count_left : (n i : ℕ) → i + n ≡ length stops → length (filter (test_at test stops) (range_with_len i n)) ≡ length (left_at test stops i)
  count_left zero i all = sym (ap length (left_none i (omega arith)))
  count_left (suc n) i all =
      let rest : List ℕ = filter (test_at test stops) (range_with_len (i + 1) n) in
      let later : length rest ≡ length (left_at test stops (i + 1)) = count_left n (i + 1) (omega arith) in
      by_test (λ t. length (cond t (i ∷ rest) rest) ≡ length (cond t (get_or stops i 0 ∷ left_at test stops (i + 1)) (left_at test stops (i + 1))))
      (test_at test stops i)
      (λ _. ap suc later) (λ _. later)
      ∙ sym (ap length (left_here i (omega arith)))

  pub count_picks : length (filter (test_at test stops) (range_with_len 0 (length stops))) ≡ length (picked test [] stops)
  count_picks = count_left (length stops) 0 (omega arith)
