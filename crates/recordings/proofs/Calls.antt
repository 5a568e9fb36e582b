-- The call by its checks. Assumes nothing.
use Prim.Native.Nat.{ℕ, ◌*◌, ◌/◌, ◌<◌, ◌≤◌}
use native.Mathlib.Omega.{arith}
use mathlib.Core.Bool.{true, false}
use mathlib.Core.List.{List, ◌++◌}
use mathlib.Core.Path.{◌≡◌, sym, ◌∙◌}
use borrow.Author.Tests.{le-leb, lt-leb, leb-true, leb-false}
use lib.Dec.{leb}
use lib.ListN.{length, drop}
use Rattle.std.proofs.Common.{Ok, Err}
use Rattle.recordings.specs.declared.CorrectionError.TheVariants.{BadList, RowTwice, OutputShort}
use Rattle.recordings.specs.Recordings.{row_count, is_list, chain, has_twice, all_standing, written, correcting, told_written}
use Rattle.recordings.specs.Recordings.{correcting_told}
use Rattle.recordings.specs.Walking.{all_written, Answered}
use Rattle.recordings.proofs.Chain.{chain_once, chain_twice, chain_most}

-- room for so many pairs
half_room : (n m : ℕ) → leb n (m / 2) ≡ true → 2 * n ≤ m
half_room n m h = let most = leb-true n (m / 2) h in omega arith

half_short : (n m : ℕ) → leb n (m / 2) ≡ false → m < 2 * n
half_short n m h = let short = leb-false n (m / 2) h in omega arith

module _ (xs output : List ℕ) where
  pub bad_list : is_list xs ≡ false → Answered xs output (Err BadList) output
  unfolding correcting told_written correcting_told
  bad_list b = (rw b, rw b)

  module _ (is : is_list xs ≡ true) {steps : ℕ} (all : steps ≡ length (chain xs)) where
    pub row_twice : steps ≡ row_count xs → Answered xs output (Err RowTwice) output
    unfolding correcting told_written correcting_told
    row_twice full =
        let twice = chain_twice xs is (sym all ∙ full) in
        (rw (is, twice), rw (is, twice))

    module _ (ends : steps ≡ row_count xs → ⊥) where
      once : has_twice (chain xs) ≡ false
      once = chain_once xs is (omega (arith, chain_most xs is))

      pub output_short : leb (length (all_standing xs)) (length output / 2) ≡ false → Answered xs output (Err OutputShort) output
      unfolding correcting written told_written correcting_told
      output_short h =
          let short = lt-leb (2 * length (all_standing xs)) (length output) (half_short _ _ h) in
          (rw (is, once, short), rw (is, once, short))

      module _ (fits : leb (length (all_standing xs)) (length output / 2) ≡ true) where
        pub pairs_fit : 2 * length (all_standing xs) ≤ length output
        pairs_fit = half_room (length (all_standing xs)) (length output) fits

        pub all_written_lem : {count : ℕ} {after : List ℕ} → count ≡ length (all_standing xs)
            → after ≡ all_written xs ++ drop (2 * count) output → Answered xs output (Ok count) after
        unfolding correcting written told_written correcting_told
        all_written_lem count-is e =
            let room = le-leb (2 * length (all_standing xs)) (length output) pairs_fit in
            (rw (is, once, room, e, count-is), rw (is, once, room, count-is))
