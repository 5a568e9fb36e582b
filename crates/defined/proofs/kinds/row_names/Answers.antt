-- `defined::kinds::row_names` meets its contract. Each return is one case of the definition: a next row of another kind, a line, an
-- operation, a test. Assumes nothing.
use Rattle.std.proofs.Common.{sym, ◌∙◌, arith}
use Rattle.defined.proofs.Reading.{names_not, names_line, names_operation, names_test}
use Rattle.defined.proofs.kinds.row_names.Goals as goal

pub returns-then-not-names_kind : goal.returns-then-not-names_kind
returns-then-not-names_kind c = names_not _ _ (sym c.names_kind.ensures ∙ c.if-not-names_kind.true)

pub returns-in-1 : goal.returns-in-1
returns-in-1 c = names_line _ _ (sym c.names_kind.ensures ∙ c.if-not-names_kind.false) c.in-1.is c.line_names.ensures

pub returns-in-3 : goal.returns-in-3
returns-in-3 c = names_operation _ _ (sym c.names_kind.ensures ∙ c.if-not-names_kind.false) c.in-3.is c.operation_names.ensures

pub returns-in_default : goal.returns-in_default
returns-in_default c = names_test _ _ (sym c.names_kind.ensures ∙ c.if-not-names_kind.false) (λ e. omega arith) (λ e. omega arith)
