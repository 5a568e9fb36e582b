-- `engine::walks::stopped` meets its contract: the report is that of `no_report`, and the rest is what is asked (`with_report`).
-- Assumes nothing.
use Rattle.engine.proofs.Now.{with_report}
use Rattle.engine.proofs.walks.stopped.Goals as goal

pub returns : goal.returns
returns c = with_report c.no_report-report.ensures
