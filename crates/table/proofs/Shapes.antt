-- The operands of runs of codes that take the same: the list of shapes is looked at once for a run, by computing.
-- Assumes nothing.
use Prim.Native.Nat.{ℕ, ◌+◌, ◌-◌, ◌≤◌, ◌<◌}
use native.Mathlib.Omega.{arith}
use mathlib.Core.List.{List}
use mathlib.Core.Path.{◌≡◌, ap, sym, ◌∙◌}
use lib.ListN.{get_or, take, drop, replicate, get_or-replicate}
use lib.Seq.{get_or-take, get_or-drop}
use Rattle.table.specs.declared.Operand.TheVariants.{Absent}
use Rattle.table.specs.declared.Shape.{Shape}
use Rattle.table.specs.Operands.{shape, shapes}
use Rattle.table.specs.Table.{shape_of}

pub in_run : (s : Shape) (lo n code : ℕ) → take n (drop lo shapes) ≡ replicate n s → lo < code → code ≤ lo + n → s ≡ shape_of code
unfolding shape_of
in_run s lo n code same low high =
    let d : Shape = shape Absent Absent Absent in
    let i : ℕ = code - 1 - lo in
    let inside : i < n = omega arith in
    let at : lo + i ≡ code - 1 = omega arith in
    sym
    (ap (λ (j : ℕ). get_or shapes j d) (sym at)
    ∙ sym (get_or-drop lo shapes i d)
    ∙ sym (get_or-take n (drop lo shapes) i d inside)
    ∙ ap (λ (xs : List Shape). get_or xs i d) same
    ∙ get_or-replicate n i s d inside)
