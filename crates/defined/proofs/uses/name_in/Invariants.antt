use mathlib.Core.Path.{◌≡◌}
use Rattle.defined.specs.Search.{first_in}
use lib.ListN.{drop}
use Rattle.defined.proofs.uses.name_in.Given as goal

abbrev pub invariant-loop-i : goal.invariant-loop-i
invariant-loop-i l = first_in (drop l.names.from l.names.fields) l.x ≡ first_in (drop l.i l.names.fields) l.x
