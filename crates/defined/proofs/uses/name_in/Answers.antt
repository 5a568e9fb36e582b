-- `defined::uses::name_in` meets its contract. The invariant: the names that are left give what all give. Assumes nothing.
use Rattle.defined.proofs.Loops.{first_here, first_later, first_none}
use Rattle.defined.proofs.Telling.{first_tells}
use native.Mathlib.Omega.{arith}
use mathlib.Core.Path.{refl, ap, sym, ◌∙◌}
use Rattle.std.specs.Prelude.{Some}
use Rattle.defined.specs.Search.{has}
use native.Mathlib.Numerals.{add-one}
use Rattle.table.specs.Reference.{names_of}
use Rattle.defined.proofs.uses.name_in.Goals as goal

pub loop-i-init : goal.loop-i-init
loop-i-init c = refl

pub returns-then-contains : goal.returns-then-contains
unfolding names_of
returns-then-contains c =
    let at-args = c.args in
    let at_pre = c.requires in
    let names = at-args.names in
    first_tells _ _ (ap Some c.from-n.ensures
    ∙ first_here names.fields at-args.x c.loop-i.i (at_pre) (record { 0 = 0 }) (omega arith)
    (ap (λ n. has at-args.x n) (sym c.from-n.ensures) ∙ sym c.contains.ensures ∙ c.if-contains.true) ∙ sym c.loop-i.invariant)

pub loop-i-preserved : goal.loop-i-preserved
loop-i-preserved c =
    let at-args = c.args in
    let at_pre = c.requires in
    let names = at-args.names in
    rw add-one (c.loop-i.invariant ∙ first_later names.fields at-args.x c.loop-i.i (at_pre) (record { 0 = 0 }) (omega arith)
    (ap (λ n. has at-args.x n) (sym c.from-n.ensures) ∙ sym c.contains.ensures ∙ c.if-contains.false))

pub returns : goal.returns
unfolding names_of
returns c =
    let at-args = c.args in
    let at_pre = c.requires in
    first_tells _ _ (first_none at-args.names.fields at-args.x c.loop-i.i (at_pre) (record { 0 = 0 }) (omega arith) ∙ sym c.loop-i.invariant)

pub bounds-names-i : goal.bounds-names-i
bounds-names-i element-copy-out-field = omega arith
