-- `recordings::places::head_of` meets its contract. Each branch is one case of the definition: heads in numbers apart, or in the pairs; the
-- chain lies in them (`apart`, `within`). Assumes nothing.
use Prim.Native.Nat.{ℕ, ◌/◌}
use mathlib.Core.Path.{refl, ap}
use native.Mathlib.Omega.{arith}
use borrow.Author.Tests.{eq-eqb, ne_eqb}
use Rattle.recordings.proofs.Pushing.{apart, within}
use Rattle.recordings.proofs.places.head_of.Goals as goal

pub offset_bounds-heads-chain : goal.offset_bounds-heads-chain
offset_bounds-heads-chain c =
    let inside = apart c.args.size c.args.chain c.args.heads.now c.requires.0 c.if-size-eq0.true in omega arith

pub bounds-heads-chain : goal.bounds-heads-chain
bounds-heads-chain c =
    apart c.args.size c.args.chain c.args.heads.now c.requires.0 c.if-size-eq0.true

pub overflow_cast-result : goal.overflow_cast-result
overflow_cast-result c =
    omega (arith, c.shared_slice_known-then-size-eq0-1.given c.args.chain)

pub returns-then-size-eq0 : goal.returns-then-size-eq0
returns-then-size-eq0 c =
    rw (eq-eqb c.args.size 0 c.if-size-eq0.true) (refl, omega (arith, c.shared_slice_known-then-size-eq0-1.given c.args.chain))

pub second_of-requires : goal.second_of-requires
second_of-requires c =
    omega (arith, within c.args.size c.args.chain c.args.heads.now c.requires.0 c.if-size-eq0.false, c.requires.1)

pub returns : goal.returns
returns c =
    rw (ne_eqb c.args.size 0 c.if-size-eq0.false) (ap (λ (x : ℕ). x / 4294967296) c.second_of.ensures, omega arith)
