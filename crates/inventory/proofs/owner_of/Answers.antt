-- `inventory::owner_of` meets its contract. The loop's invariant: the words passed are no starts. Assumes nothing.
use native.Mathlib.Omega.{arith}
use Prim.Native.Nat.{◌+◌, ◌-◌}
use mathlib.Core.Path.{◌≡◌, sym, ap, ◌∙◌}
use Rattle.inventory.specs.Inventory.{owner}
use Rattle.inventory.proofs.Owners.{owner_here, owner_before, owner_first}
use Rattle.inventory.proofs.owner_of.Goals as goal

pub loop-at-init : goal.loop-at-init
loop-at-init c =
    let same : c.args.i ≡ c.args.i + 1 - 1 = omega arith in (omega arith, omega arith, ap (owner c.args.map.now) same)

pub returns-then-map-at-ne0 : goal.returns-then-map-at-ne0
returns-then-map-at-ne0 c = sym (c.loop-at.invariant.2 ∙ owner_here _ _ c.if-map-at-ne0.true)

pub loop-at-preserved : goal.loop-at-preserved
loop-at-preserved c =
    (omega arith, omega arith, c.loop-at.invariant.2 ∙ owner_before _ _ (omega (arith, c.loop-at-test.true)) c.if-map-at-ne0.false)

pub returns : goal.returns
returns c = sym (c.loop-at.invariant.2 ∙ owner_first _ _ (omega arith))
