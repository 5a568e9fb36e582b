-- `silence::count_picked` meets its contract: as many as there are places that are picked. Assumes nothing.
use Rattle.std.proofs.Common.{length, arith, ◌∙◌, rules}
use Rattle.std.proofs.lemmas.Iterator.{YieldsList-from_range}
use Rattle.std.proofs.lemmas.Iterator.Consumers.{YieldsList-from_filter, count_from_yields_List}
use Rattle.silence.specs.Silence.{test_of, test_at}
use Rattle.silence.proofs.Picking.{count_picks}
use Rattle.silence.proofs.count_picked.Goals as goal

pub returns : goal.returns
returns c =
    count_from_yields_List _ _ c.count.ensures.ran
    (YieldsList-from_filter _ (test_at (test_of c.args.asked c.args.pairs.now) c.args.stops.now)
    (YieldsList-from_range 0 (length c.args.stops.now) (length c.args.stops.now) c.filter.ensures.source (omega arith)) c.filter.ensures.closure
    (λ x b q k. search rules))
    ∙ count_picks (test_of c.args.asked c.args.pairs.now) c.args.stops.now
