use Rattle.std.specs.Slice.Iter.{splitn_parts, splitn_count, split_done, split_rest}
use Rattle.lines.proofs.Matching.{Fitting}
use Rattle.lines.proofs.fitting.is_form.Given as goal

abbrev pub invariant-loop-kind : goal.invariant-loop-kind
invariant-loop-kind l =
    (goal.iterator-loop-kind).can_next l.parts
    × Fitting l.b l.form.arguments.now l.s l.kind-index (splitn_count l.parts) (split_done (splitn_parts l.parts)) (split_rest (splitn_parts l.parts))
