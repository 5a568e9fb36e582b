-- Answers in numbers: no two answers are told alike, the least stop is what the definition finds, and few stops are told as the call tells them.
-- Assumes nothing.
use Prim.Native.Nat.{ℕ, suc, ◌*◌, ◌<◌, ◌≤◌}
use native.Mathlib.Omega.{arith}
use mathlib.Core.Bool.{Bool, true, false, ◌&&◌, cond}
use mathlib.Core.List.{List, [], ◌∷◌, ◌++◌, append_assoc, append-nil}
use mathlib.Core.Path.{◌≡◌, refl, sym, ap, ap₂, ◌∙◌}
use borrow.Author.Tests.{lt-ltb, le-leb, lt-leb, leb-false}
use lib.Dec.{eqb, leb, ltb}
use lib.ListN.{length}
use Rattle.std.proofs.Common.{Option, Some, None, Result, Ok, Err}
use Rattle.word.specs.Told.{Told, tells, gives, refuses, value}
use Rattle.word.proofs.Tests.{by_test, by_leb}
use Rattle.recordings.specs.declared.CorrectionError.{CorrectionError}
use Rattle.recordings.specs.declared.CorrectionError.TheVariants.{BadList, RowTwice, OutputShort}
use Rattle.recordings.specs.Recordings.{row_count, is_list, chain, has_twice, all_standing, Left, written, correcting, told_written, correcting_told}
use Rattle.recordings.specs.Walking.{Answered, ManyStops, has_few, told_few, few_told, few_output}
use Rattle.recordings.specs.Walking.{lesser, least_from, told_least, lesser_told, least_told}
use Rattle.recordings.proofs.Stops.{LeastOf, least_none, least_more}

-- the least stop
lesser_told_lem : (low : ℕ) (found : Option ℕ) (s : ℕ) → told_least (lesser low found s) ≡ lesser_told low found s
unfolding told_least lesser lesser_told
lesser_told_lem low None s = by_test (λ t. told_least (cond t (Some s) None) ≡ cond t (gives s) (tells 0 [])) (leb low s) (λ _. refl) (λ _. refl)
lesser_told_lem low (Some found) s =
    by_test (λ t. told_least (cond t (Some s) (Some found)) ≡ cond t (gives s) (gives found)) (leb low s && ltb s found) (λ _. refl) (λ _. refl)

pub lesser_tells : (low : ℕ) (found : Option ℕ) (s : ℕ) {r : Option ℕ} → r ≡ lesser low found s → told_least r ≡ lesser_told low found s
lesser_tells low found s e = ap told_least e ∙ lesser_told_lem low found s

pub least_tells : (low : ℕ) (l : List ℕ) {r : Option ℕ} → r ≡ least_from low None l → told_least r ≡ least_told low l
unfolding least_told
least_tells low l e = ap told_least e

module _ (low : ℕ) where
  least_on : (l rest : List ℕ) (found : Option ℕ) → LeastOf low l found → LeastOf low (l ++ rest) (least_from low found rest)
  unfolding least_from
  least_on l [] found least = rw append-nil least
  least_on l (s ∷ rest) found least =
      rw append_assoc at (least_on (l ++ (s ∷ [])) rest (lesser low found s) (least_more low l s found least))

  module _ (l : List ℕ) where
    one_least : (a b : Option ℕ) → LeastOf low l a → LeastOf low l b → a ≡ b
    unfolding LeastOf
    one_least (Some x) (Some y) p q =
        let same : x ≡ y = omega (arith, p.2 y q.1 q.0, q.2 x p.1 p.0) in ap (λ (n : ℕ). Some n) same
    one_least (Some x) None p none = absurd (omega (arith, none x p.1, p.0))
    one_least None (Some y) none q = absurd (omega (arith, none y q.1, q.0))
    one_least None None p q = refl

    found_least : LeastOf low l (least_from low None l)
    found_least = least_on [] l None (least_none low)

    pub least_found : (r : Option ℕ) → LeastOf low l r → r ≡ least_from low None l
    least_found r least = one_least r (least_from low None l) least found_least

    pub least_is : (r : Option ℕ) → r ≡ least_from low None l → LeastOf low l r
    least_is r e = rw e found_least

-- the call's answer
same_written : {a b : Result ℕ CorrectionError} → told_written a ≡ told_written b → a ≡ b
unfolding told_written value
same_written {a} {b} e = sym (back a) ∙ ap numbered e ∙ back b
  where
    numbered : Told ℕ → Result ℕ CorrectionError
    numbered (tells n xs) = cond (eqb n 26) (Err BadList) (cond (eqb n 27) (Err RowTwice) (cond (eqb n 28) (Err OutputShort) (Ok (value (tells n xs)))))

    back : (a : Result ℕ CorrectionError) → numbered (told_written a) ≡ a
    back (Ok n) = refl
    back (Err BadList) = refl
    back (Err RowTwice) = refl
    back (Err OutputShort) = refl

some_written : (a : Result ℕ CorrectionError) → told_written a ≡ tells 0 [] → ⊥
unfolding told_written
some_written (Ok n) e = let z : ◌≡◌ {A = ℕ} 0 1 = cc in omega arith
some_written (Err BadList) e = let z : ◌≡◌ {A = ℕ} 26 0 = cc in omega arith
some_written (Err RowTwice) e = let z : ◌≡◌ {A = ℕ} 27 0 = cc in omega arith
some_written (Err OutputShort) e = let z : ◌≡◌ {A = ℕ} 28 0 = cc in omega arith

module _ (xs output : List ℕ) where
  correcting_told_lem : told_written (correcting xs output).answer ≡ correcting_told xs output
  unfolding told_written correcting written correcting_told
  correcting_told_lem = by_checks (is_list xs) (has_twice (chain xs)) (leb (2 * length (all_standing xs)) (length output)) _ _
    where
      by_checks : (l h r : Bool) (n : ℕ) (after : List ℕ)
          → told_written
          (cond l
          (cond h (record { answer = Err RowTwice; output = output })
          (cond {A = Left} r (record { answer = Ok n; output = after }) (record { answer = Err OutputShort; output = output })))
          (record { answer = Err BadList; output = output })
          ).answer
          ≡ cond l (cond h (refuses 27) (cond r (gives n) (refuses 28))) (refuses 26)
      by_checks true true r n after = refl
      by_checks true false true n after = refl
      by_checks true false false n after = refl
      by_checks false h r n after = refl

  -- few stops or not
  module _ {after : List ℕ} where
    pub few_tells : {answer : Result ℕ CorrectionError} → length (chain xs) < row_count xs → length (all_standing xs) ≤ 1023 → Answered xs output answer after
        → (told_few (Some answer) ≡ few_told xs output) × (after ≡ few_output xs output)
    unfolding has_few told_few few_told few_output
    few_tells ends few-stops (is, told) =
        let ends_so = lt-ltb _ _ ends in
        let few-so = le-leb _ _ few-stops in
        (rw (ends_so, few-so) told, rw (ends_so, few-so) (ap (λ (l : Left). l.output) is))

    pub few_answered : {answer : Result ℕ CorrectionError} → told_few (Some answer) ≡ few_told xs output → after ≡ few_output xs output
        → Answered xs output answer after
    unfolding told_few few_told few_output
    few_answered {answer} e o =
        by_test (λ t. told_written answer ≡ cond t (correcting_told xs output) (tells 0 []) → after ≡ cond t (correcting xs output).output output
        → Answered xs output answer after)
        (has_few xs)
        (λ _ told left. (
          ap₂ (λ (a : Result ℕ CorrectionError) (l : List ℕ). record { answer = a; output = l })
              (same_written (told ∙ sym correcting_told_lem)) left,
          told,
        ))
        (λ _ told _. absurd (some_written answer told)) e o

    pub many_left : told_few None ≡ few_told xs output → after ≡ few_output xs output → (after ≡ output) × ManyStops xs
    unfolding has_few told_few few_told few_output
    many_left e o =
        by_test (λ t. tells 0 [] ≡ cond t (correcting_told xs output) (tells 0 []) → after ≡ cond t (correcting xs output).output output
        → (after ≡ output) × ManyStops xs)
        (has_few xs)
        (λ _ told _. absurd (some_written _ (correcting_told_lem ∙ sym told)))
        (λ not-few _ left. (left, many not-few)) e o
      where
        many : has_few xs ≡ false → ManyStops xs
        many not-few ends = leb-false (length (all_standing xs)) 1023 (rw (lt-ltb _ _ ends) at not-few)

  pub many_tells : ManyStops xs → (told_few None ≡ few_told xs output) × (output ≡ few_output xs output)
  unfolding has_few told_few few_told few_output
  many_tells many =
      by_leb (λ t. (tells 0 [] ≡ cond (t && leb (length (all_standing xs)) 1023) (correcting_told xs output) (tells 0 []))
      × (output ≡ cond (t && leb (length (all_standing xs)) 1023) (correcting xs output).output output))
      (suc (length (chain xs))) (row_count xs)
      (λ ends. let more = lt-leb (length (all_standing xs)) 1023 (many ends) in (rw more, rw more))
      (λ _. (refl, refl))
