-- `faults::names::Labels::calls_missing` meets its contract: without a call nothing is missing (`no_call`), and with one its label decides
-- (`one_call`); one that is found is declared. Assumes nothing.
use mathlib.Core.Path.{◌∙◌}
use Rattle.faults.specs.Places.{missing}
use Rattle.faults.proofs.Using.{no_call, one_call}
use Rattle.faults.proofs.names.Labels.calls_missing.Goals as goal

pub returns-in_default : goal.returns-in_default
returns-in_default c = no_call (missing c.args.self.now.b c.args.self.now.text.now) (c.in_default.ensures c.args.self.now.b c.requires.1)

pub returns-then-is_found : goal.returns-then-is_found
returns-then-is_found c =
    c.is_found.ensures c.args.self.now.b c.args.self.now.text.now c.requires.0 c.if-is_found.true
    ∙ one_call (missing c.args.self.now.b c.args.self.now.text.now) (c.in-Some.ensures c.args.self.now.b c.requires.1)

pub returns : goal.returns
returns c =
    c.is_missing.ensures ∙ one_call (missing c.args.self.now.b c.args.self.now.text.now) (c.in-Some.ensures c.args.self.now.b c.requires.1)
