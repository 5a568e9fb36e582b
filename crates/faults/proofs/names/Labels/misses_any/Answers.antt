-- `faults::names::Labels::misses_any` meets its contract. The loop's invariant: the operations passed call no missing label, and lines declare the
-- labels found. Assumes nothing.
use Prim.Native.Nat.{ℕ, ◌+◌}
use native.Mathlib.Omega.{arith}
use mathlib.Core.Path.{refl, sym, ap, subst, ◌∙◌}
use mathlib.Core.List.{List}
use lib.ListN.{length, length-drop}
use Rattle.lines.specs.Words.{any}
use Rattle.lines.specs.Forms.{is_operation}
use Rattle.lines.specs.Reading.{split}
use Rattle.lines.specs.Walking.{calls_in}
use Rattle.faults.specs.Places.{missing}
use Rattle.faults.specs.Names.{Found}
use Rattle.lines.proofs.Parts.{part_slice, part_rest}
use Rattle.faults.proofs.Using.{parens_start, parens_close, parens_only, parens_first, using_all, using_found, using_more}
use Rattle.faults.proofs.names.Labels.misses_any.Goals.{in_default-via-in-Some+in_default, in_default-via-in_default}
use Rattle.faults.proofs.names.Labels.misses_any.Goals as goal

pub loop-left-init : goal.loop-left-init
loop-left-init c = (
  record { parens = record { inside = c.requires.0; whole = c.requires.1.0; proper = c.requires.1.1 }; rest = refl },
  (omega arith, (refl, λ w is j l e. absurd (omega arith))),
)

pub blanks_end-start-requires : goal.blanks_end-start-requires
blanks_end-start-requires c = c.loop-left.invariant.0.parens.inside

pub token_at-requires : goal.token_at-requires
token_at-requires c = parens_start _ _ c.loop-left.invariant.0.parens c.loop-left-test.true _ c.blanks_end-start.ensures

pub overflow_add-from : goal.overflow_add-from
overflow_add-from c =
    let k = parens_close _ _ c.loop-left.invariant.0.parens c.loop-left-test.true _ c.blanks_end-start.ensures
    (rw c.in-Some-Paren.field-0-is at c.in-Some-Paren.ensures) in omega (arith, k.opens, k.closes)

pub slice_bounds-renew-count : goal.slice_bounds-renew-count
slice_bounds-renew-count c =
    let k = parens_close _ _ c.loop-left.invariant.0.parens c.loop-left-test.true _ c.blanks_end-start.ensures
    (rw c.in-Some-Paren.field-0-is at c.in-Some-Paren.ensures) in omega (arith, k.opens, k.closes)

pub slice_bounds-renew-start : goal.slice_bounds-renew-start
slice_bounds-renew-start c =
    let k = parens_close _ _ c.loop-left.invariant.0.parens c.loop-left-test.true _ c.blanks_end-start.ensures
    (rw c.in-Some-Paren.field-0-is at c.in-Some-Paren.ensures) in omega (arith, k.opens, k.closes)

pub slice_bounds-renew-end : goal.slice_bounds-renew-end
slice_bounds-renew-end c =
    let k = parens_close _ _ c.loop-left.invariant.0.parens c.loop-left-test.true _ c.blanks_end-start.ensures
    (rw c.in-Some-Paren.field-0-is at c.in-Some-Paren.ensures) in omega (arith, k.opens, k.closes)

pub overflow_sub-close : goal.overflow_sub-close
overflow_sub-close c =
    let k = parens_close _ _ c.loop-left.invariant.0.parens c.loop-left-test.true _ c.blanks_end-start.ensures
    (rw c.in-Some-Paren.field-0-is at c.in-Some-Paren.ensures) in omega (arith, k.opens, k.closes)

pub renew-n-requires : goal.renew-n-requires
renew-n-requires c =
    let k = parens_close _ _ c.loop-left.invariant.0.parens c.loop-left-test.true _ c.blanks_end-start.ensures
    (rw c.in-Some-Paren.field-0-is at c.in-Some-Paren.ensures) in
    let rest = ap length (part_rest c.blanks_end-start.result c.args.s.now) ∙ length-drop c.blanks_end-start.result
    c.args.s.now in
    (c.args.self.now.width, (omega (arith, k.opens), (omega (arith, k.opens, k.closes), c.loop-left.invariant.1.0)))

pub slice_bounds-calls_missing-count-in-loop-left : goal.slice_bounds-calls_missing-count-in-loop-left
slice_bounds-calls_missing-count-in-loop-left c =
    let k = parens_close _ _ c.loop-left.invariant.0.parens c.loop-left-test.true _ c.blanks_end-start.ensures
    (rw c.in-Some-Paren.field-0-is at c.in-Some-Paren.ensures) in omega (arith, k.opens, k.closes)

pub slice_bounds-calls_missing-start-in-loop-left : goal.slice_bounds-calls_missing-start-in-loop-left
slice_bounds-calls_missing-start-in-loop-left c =
    let k = parens_close _ _ c.loop-left.invariant.0.parens c.loop-left-test.true _ c.blanks_end-start.ensures
    (rw c.in-Some-Paren.field-0-is at c.in-Some-Paren.ensures) in omega (arith, k.opens, k.closes)

pub slice_bounds-calls_missing-end-in-loop-left : goal.slice_bounds-calls_missing-end-in-loop-left
slice_bounds-calls_missing-end-in-loop-left c =
    let k = parens_close _ _ c.loop-left.invariant.0.parens c.loop-left-test.true _ c.blanks_end-start.ensures
    (rw c.in-Some-Paren.field-0-is at c.in-Some-Paren.ensures) in omega (arith, k.opens, k.closes)

pub calls_missing-requires : goal.calls_missing-requires
calls_missing-requires c =
    let k = parens_close _ _ c.loop-left.invariant.0.parens c.loop-left-test.true _ c.blanks_end-start.ensures
    (rw c.in-Some-Paren.field-0-is at c.in-Some-Paren.ensures) in
    let operation = parens_first _ _ c.loop-left.invariant.0.parens c.loop-left-test.true _ c.blanks_end-start.ensures k in (
      subst (λ (l : List ℕ). Found c.args.self.now.b c.args.self.now.text.now l) (sym (part_slice 0 c.renew-n.result _))
          (c.renew-n.ensures.1.1 c.loop-left.invariant.1.1.1),
      ap (λ (w : List ℕ). is_operation c.args.self.now.b (split w)) (part_slice (c.blanks_end-start.result + 1) c.in-Some-Paren.close
          c.args.s.now) ∙ operation,
    )

pub returns-then-calls_missing : goal.returns-then-calls_missing
returns-then-calls_missing c =
    let k = parens_close _ _ c.loop-left.invariant.0.parens c.loop-left-test.true _ c.blanks_end-start.ensures
    (rw c.in-Some-Paren.field-0-is at c.in-Some-Paren.ensures) in
    using_found _ _ _ _ c.loop-left.invariant.0 c.loop-left-test.true _ c.blanks_end-start.ensures k
    (ap (λ (w : List ℕ). any (missing c.args.self.now.b c.args.self.now.text.now) (calls_in c.args.self.now.b (split w)))
    (sym (part_slice (c.blanks_end-start.result + 1) c.in-Some-Paren.close c.args.s.now)) ∙ sym
    c.calls_missing.ensures ∙ c.if-calls_missing.true)

pub overflow_add-place : goal.overflow_add-place
overflow_add-place c =
    let k = parens_close _ _ c.loop-left.invariant.0.parens c.loop-left-test.true _ c.blanks_end-start.ensures
    (rw c.in-Some-Paren.field-0-is at c.in-Some-Paren.ensures) in omega (arith, k.opens, k.closes, c.well_formed.1.0.1)

pub loop-left-preserved : goal.loop-left-preserved
loop-left-preserved c =
    let k = parens_close _ _ c.loop-left.invariant.0.parens c.loop-left-test.true _ c.blanks_end-start.ensures
    (rw c.in-Some-Paren.field-0-is at c.in-Some-Paren.ensures) in (
      using_more _ _ _ _ c.loop-left.invariant.0 c.loop-left-test.true _ c.blanks_end-start.ensures k
          (ap (λ (w : List ℕ). any (missing c.args.self.now.b c.args.self.now.text.now) (calls_in c.args.self.now.b (split w)))
          (sym (part_slice (c.blanks_end-start.result + 1) c.in-Some-Paren.close c.args.s.now)) ∙ sym
          c.calls_missing.ensures ∙ c.if-calls_missing.false),
      (
        c.renew-n.ensures.0,
        (
          c.renew-n.ensures.1.0 ∙ c.loop-left.invariant.1.1.0,
          c.renew-n.ensures.1.1
              c.loop-left.invariant.1.1.1,
        ),
      ),
    )

pub returns : goal.returns
returns c = using_all _ _ _ _ c.loop-left.invariant.0 c.loop-left-test.false

pub unreachable-requires : goal.unreachable-requires
unreachable-requires c =
    parens_only _ _ c.loop-left.invariant.0.parens c.loop-left-test.true _ c.blanks_end-start.ensures _ c.token_at.ensures
    (λ close is. elim c.in_default.branch [
      | in_default-via-in-Some+in_default w ↦ cc
      | in_default-via-in_default w ↦ cc
    ])
