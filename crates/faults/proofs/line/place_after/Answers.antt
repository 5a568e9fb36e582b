-- `faults::line::place_after` meets its contract: by the token. Assumes nothing.
use native.Mathlib.Omega.{arith}
use mathlib.Core.Path.{sym, ap, subst}
use Rattle.std.specs.Prelude.{Some}
use Rattle.lines.specs.declared.Spot.{Spot}
use Rattle.lines.specs.Walking.{Within}
use Rattle.faults.specs.Checking.{place_after}
use Rattle.faults.proofs.line.place_after.Goals as goal

pub overflow_add-result : goal.overflow_add-result
overflow_add-result c =
    let (later, inside) = subst (λ (k : Spot). Within c.args.s.now c.args.at (Some k)) c.in-Paren.is c.requires in
    omega arith

pub returns-in-Word : goal.returns-in-Word
unfolding place_after
returns-in-Word c = sym (ap place_after c.in-Word.is)

pub returns-in-Paren : goal.returns-in-Paren
unfolding place_after
returns-in-Paren c = sym (ap place_after c.in-Paren.is)
