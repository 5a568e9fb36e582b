-- `faults::seeking::is_found` meets its contract: a label whose key is among those found is declared (`found_among`); where the answer is
-- no, nothing is promised. Assumes nothing.
use Rattle.std.proofs.lemmas.Bool.Decides.{when_true}
use mathlib.Core.Path.{sym, ◌∙◌}
use Rattle.faults.proofs.Finding.{found_among}
use Rattle.faults.proofs.seeking.is_found.Goals as goal

pub returns-then-is_label : goal.returns-then-is_label
returns-then-is_label c = λ b text f e.
    found_among b text c.args.found.now c.args.w.now c.key_of.result (when_true _ _ e c.contains.ensures.cases) c.key_of.ensures
    (sym c.is_label.ensures ∙ c.if-is_label.true) f
