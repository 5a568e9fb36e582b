-- `typed::values::Ready::test_row` meets its contract: the row that `row_in` makes of the tests' forms is the definition's, as a test fits one of
-- them. Assumes nothing.
use Rattle.word.proofs.Tests.{and_true}
use Rattle.lines.specs.Words.{all, any}
use Rattle.lines.specs.Forms.{test_forms, is_argument, fits, is_test}
use Rattle.lines.specs.Reading.{split}
use Rattle.lines.specs.Walking.{forms_of}
use Rattle.lines.specs.Program.{test_row}
use Rattle.typed.proofs.values.Ready.test_row.Goals as goal

pub row_in-requires : goal.row_in-requires
unfolding is_test forms_of
row_in-requires c =
    (and_true (all is_argument (split c.args.s.now)) (any (fits c.args.self.now.labels.b (split c.args.s.now)) test_forms) c.requires).1

pub returns : goal.returns
unfolding test_row forms_of
returns c = c.row_in.ensures
