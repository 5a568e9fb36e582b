-- The row of a label in a text without a refusal. Assumes nothing.
use Rattle.std.specs.Prelude.{ℕ, List}
use Rattle.faults.specs.Names.{label_row}
use Rattle.typed.specs.declared.values.Ready.{Ready}

abbrev pub row_at : Ready → List ℕ → ℕ
row_at r = label_row r.labels.b r.labels.text.now
