-- `faults::names::Labels::misses_call` meets its contract: without parentheses nothing is called (`parens_none`), and otherwise `misses_any`
-- answers what is asked. Assumes nothing.
use native.Mathlib.Omega.{arith}
use Rattle.lines.specs.Words.{any}
use Rattle.lines.specs.Forms.{is_operation}
use Rattle.lines.specs.Program.{called_in}
use Rattle.faults.proofs.Using.{parens_none}
use Rattle.faults.proofs.names.Labels.misses_call.Goals as goal

pub returns-then-count-eq0 : goal.returns-then-count-eq0
unfolding called_in any
returns-then-count-eq0 c =
    rw (parens_none (is_operation c.args.self.now.b) c.args.s.now c.args.count c.args.at (omega arith))

pub misses_any-requires : goal.misses_any-requires
misses_any-requires c =
    c.requires

pub returns : goal.returns
returns c = c.misses_any.ensures
