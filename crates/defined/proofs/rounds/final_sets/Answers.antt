-- `defined::rounds::final_sets` meets its contract. The invariant: the rounds that are left give what all give. Assumes nothing.
use Rattle.std.proofs.Common.{◌≡◌, ap, sym, ◌∙◌, ◌+◌, ◌-◌, arith, rules}
use Rattle.defined.specs.declared.rounds.Rounds.{Rounds}
use Rattle.defined.specs.Search.{rounded, times, final_sets}
use Rattle.defined.proofs.Loops.{round_on, round_same, round_over}
use Rattle.defined.proofs.rounds.final_sets.Goals as goal
use Rattle.defined.proofs.rounds.final_sets.Goals.{else-loop-test, then-loop-test+then-eq}

pub loop-init : goal.loop-init
unfolding final_sets
loop-init c = ap (λ s. (times 59200 (rounded c.args.table.now.numbers.now) s).sets) c.first-rounds.ensures

pub loop-preserved : goal.loop-preserved
loop-preserved c =
    let table = c.args.table.now.numbers.now in
    let more = round_on table c.loop.rounds c.loop.counter (omega arith) in
    ap (λ s. (times (59200 - (c.loop.counter + 1)) (rounded table) s).sets) c.walk.ensures
    ∙ sym (ap (λ (s : Rounds). s.sets) more) ∙ c.loop.invariant

pub returns : goal.returns
returns c =
    let table = c.args.table.now.numbers.now in
    let over : times (59200 - c.loop.counter) (rounded table) c.loop.rounds ≡ c.loop.rounds = elim c.loop-test.branch [
      | else-loop-test w ↦ let h = w.loop-test in round_over table c.loop.rounds c.loop.counter (omega arith)
      | then-loop-test+then-eq w ↦ let same = w.if-eq.ensures in round_same table c.loop.rounds c.loop.counter (search rules)
    ] in
    sym (ap (λ (s : Rounds). s.sets) over) ∙ c.loop.invariant
