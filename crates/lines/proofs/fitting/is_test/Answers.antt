-- `lines::fitting::is_test` meets its contract: the two calls' answers joined are the definition. Assumes nothing.
use mathlib.Core.Path.{ap₂, ◌∙◌}
use mathlib.Core.Bool.{◌&&◌}
use Rattle.lines.specs.Forms.{is_test}
use Rattle.lines.specs.Walking.{forms_of}
use Rattle.lines.proofs.Library.{some_found}
use Rattle.lines.proofs.fitting.is_test.Goals as goal

pub returns : goal.returns
unfolding is_test forms_of
returns c = ap₂ ◌&&◌ c.all_arguments.ensures (c.is_some.ensures ∙ some_found _ _ _ _ c.form_of.ensures)
