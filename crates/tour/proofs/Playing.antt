-- The run that tourrun makes: what is lent to it, and that no more codes are written than the output holds. Assumes nothing.
use Prim.Native.Nat.{ℕ, ◌≤◌, min}
use native.Mathlib.Omega.{arith}
use mathlib.Core.Bool.{true, false}
use mathlib.Core.List.{List}
use mathlib.Core.Path.{◌≡◌, refl, sym, ap, ◌∙◌}
use borrow.Author.Tests.{leb-true, leb-false}
use lib.Dec.{leb}
use lib.ListN.{length, take, replicate}
use lib.Seq.{take_all}
use Rattle.machine.specs.declared.State.{State}
use Rattle.machine.specs.State.{fresh}
use Rattle.machine.specs.Step.{RunOutcome, run, engine_ran}
use Rattle.machine.proofs.Starting.{fresh_sound}
use Rattle.machine.proofs.Soundness.{run_keeps_sound, counts_fit, lent_ran}
use Rattle.tour.specs.Tour.{table_of, played, codes, lines, printed}
use Rattle.tour.specs.Put.{put_before}
use Rattle.tour.proofs.Tables.{take_put}

-- as many as there are, and no more than n
pub take_least : (n : ℕ) (xs : List ℕ) → take (min (length xs) n) xs ≡ take n xs
take_least n xs =
    elim (leb (length xs) n) as (λ t. leb (length xs) n ≡ t → take (min (length xs) n) xs ≡ take n xs) [
      | true ↦ λ k.
          let all : min (length xs) n ≡ length xs = omega (arith, leb-true (length xs) n k) in
          ap (λ (m : ℕ). take m xs) all ∙ take_all (length xs) xs (omega arith) ∙ sym (take_all n xs (leb-true (length xs) n k))
      | false ↦ λ k.
          let some : min (length xs) n ≡ n = omega (arith, leb-false (length xs) n k) in
          ap (λ (m : ℕ). take m xs) some
    ] refl

-- the run of what was read
pub run_played : (tab stops first : List ℕ) {table : List ℕ} {count given : ℕ} {state : State} {r : RunOutcome} → count ≡ length (table_of tab)
    → table ≡ put_before count (table_of tab) first → given ≡ min (length stops) 4096 → state ≡ fresh 36
    → r ≡ run 100000 (record { table = take count table; input = take given stops; output = replicate 4096 0 })
    (record { state = state; storage = replicate 4096 0 })
    → r ≡ played tab stops
unfolding played
run_played tab stops first {table} {count} n t g s is = is ∙ rw (t, take_put (table_of tab) first count n, g, take_least 4096 stops, s)

-- no more codes are written than the output holds
pub written_fits : (tab stops : List ℕ) {r : RunOutcome} → r ≡ played tab stops → r.ran.state.core.written ≤ length r.output
unfolding played run engine_ran lent_ran fresh
written_fits tab stops is =
    rw is
    (counts_fit _ _ _ (run_keeps_sound 0 100000 _ _ (fresh_sound 36 _ _))).1

-- what is printed of it
pub printed_is : (tab stops : List ℕ) {r : RunOutcome} → r ≡ played tab stops → lines (codes r) r.ran.answer r.ran.count ≡ printed tab stops
unfolding printed
printed_is tab stops is = ap (λ (r : RunOutcome). lines (codes r) r.ran.answer r.ran.count) is
