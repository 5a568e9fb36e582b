-- `defined::walk::leave` meets its contract. Each return is one case of the definition: DONE, the next line, or a go-to. Assumes nothing.
use Rattle.defined.proofs.Reading.{leaves_done, leaves_next, leaves_to}
use native.Mathlib.Omega.{arith}
use Rattle.defined.proofs.walk.leave.Goals as goal

pub returns-then-go_to-eq-DONE : goal.returns-then-go_to-eq-DONE
returns-then-go_to-eq-DONE c = leaves_done _ _ _ (omega arith) c.join_at.ensures

pub returns-then-go_to-eq0 : goal.returns-then-go_to-eq0
returns-then-go_to-eq0 c = leaves_next _ _ _ (omega arith) c.join_to.ensures

pub join_at-requires-2 : goal.join_at-requires-2
join_at-requires-2 c = c.requires.1 (omega arith)

pub returns : goal.returns
returns c = leaves_to _ _ _ (omega arith) (omega arith) c.join_at-2.ensures
