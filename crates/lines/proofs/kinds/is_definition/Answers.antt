-- `lines::kinds::is_definition` meets its contract: its tests joined are the definition. Assumes nothing.
use mathlib.Core.Path.{refl, sym, ap, ◌∙◌}
use lib.Dec.{eqb}
use Rattle.lines.specs.Words.{is_definition}
use Rattle.lines.proofs.Scanning.{starts_first}
use Rattle.lines.proofs.kinds.is_definition.Goals as goal

pub returns : goal.returns
unfolding is_definition
returns c =
    let starts = ap (eqb 68) c.first.ensures ∙ sym (starts_first (eqb 68) c.args.w.now refl) in
    rw (starts, c.all_names.ensures)
