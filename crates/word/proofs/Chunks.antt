-- The parts of n numbers that a list has, one after the other, as `chunks_exact` gives them. Assumes nothing.
use Rattle.std.proofs.Common.{◌≡◌, ℕ, zero, suc, ◌+◌, ◌*◌, ◌/◌, ◌≤◌, ◌<◌, List, [], ◌∷◌, length, take, drop, map, Option, sym, ap, subst, ◌∙◌, length-append, arith}
use Rattle.std.proofs.Math.Nat.{suc-mul, div-mul-le_self}
use Rattle.std.proofs.Math.Seq.{take-append_seam, drop-append_seam}
use Rattle.std.specs.Iterator.{AlwaysYields}
use Rattle.std.specs.Slice.Iter.{chunks_exact_rest, chunks_exact_size, chunks_exact_steps}
use Rattle.std.specs.declared.slice.ChunksExact.{ChunksExact}
use Rattle.std.proofs.lemmas.Iterator.{YieldsList}

-- so many parts
unfoldable pub parts_of : ℕ → ℕ → List ℕ → List (List ℕ)
parts_of n zero xs = []
parts_of n (suc count) xs = take n xs ∷ parts_of n count (drop n xs)

come : (n count : ℕ) (s : ChunksExact ℕ) → 0 < n → chunks_exact_size s ≡ n → count * n ≤ length (chunks_exact_rest s)
    → length (chunks_exact_rest s) < count * n + n
    → AlwaysYields (chunks_exact_steps {A = ℕ}) (λ x. x.now) s (parts_of n count (chunks_exact_rest s))
unfolding parts_of
come n zero s some sized low high =
    λ x t step.
    let all = ap length step.1.0 ∙ length-append x.now (chunks_exact_rest t) in
    omega (arith, all, step.1.1)
come n (suc count) s some sized low high = (
  λ t step. let short = step.1.0 in omega (arith, suc-mul count n),
  λ x t step.
      let long : length x.now ≡ n = step.1.1 ∙ sized in
      let all = ap length step.1.0 ∙ length-append x.now (chunks_exact_rest t) in
      let first : x.now ≡ take n (chunks_exact_rest s) = rw (step.1.0, ← long) (sym (take-append_seam x.now (chunks_exact_rest t))) in
      let rest : chunks_exact_rest t ≡ drop n (chunks_exact_rest s) = rw (step.1.0, ← long) (sym (drop-append_seam x.now (chunks_exact_rest t))) in (
        first,
        rw (← rest) (come n count t some (step.0 ∙ sized) (omega (arith, suc-mul count n)) (omega (arith, suc-mul count n))),
      ),
)

-- all that a list has
pub parts_come : {s : ChunksExact ℕ} (n : ℕ) (list : List ℕ) → 0 < n → chunks_exact_size s ≡ n → chunks_exact_rest s ≡ list
    → YieldsList (chunks_exact_steps {A = ℕ}) (λ x. x.now) s (parts_of n (length list / n) list)
parts_come {s} n list some sized is =
    record {
      runs = subst (λ (xs : List ℕ). AlwaysYields (chunks_exact_steps {A = ℕ}) (λ x. x.now) s (parts_of n (length xs / n) xs)) is
          (come n (length (chunks_exact_rest s) / n) s some sized
          (omega (arith, div-mul-le_self (length (chunks_exact_rest s)) n)) (omega arith));
    }

-- and what a function makes of them
module _ {S A B C : Type 0} (steps : S → Option A → S → Type 0) (v : A → B) (h : B → C) where
  made : (ys : List B) (s : S) → AlwaysYields steps v s ys → AlwaysYields steps (λ x. h (v x)) s (map h ys)
  made [] s all = all
  made (y ∷ ys) s all = (all.0, λ x j step. let next = all.1 x j step in (ap h next.0, made ys j next.1))

pub parts_made : {C : Type 0} (h : List ℕ → C) {s : ChunksExact ℕ} (n : ℕ) (list : List ℕ) → 0 < n → chunks_exact_size s ≡ n → chunks_exact_rest s ≡ list
    → YieldsList (chunks_exact_steps {A = ℕ}) (λ x. h x.now) s (map h (parts_of n (length list / n) list))
parts_made h {s} n list some sized is =
    record { runs = made (chunks_exact_steps {A = ℕ}) (λ x. x.now) h _ s (parts_come n list some sized is).runs }
