-- `player::keeping::l6_save` meets its contract: what the crate columns saves, in numbers. Assumes nothing.
use Rattle.std.proofs.Common.{ap, rules}
use Rattle.columns.specs.Columns.{Left}
use Rattle.player.specs.Keeping.{after_save, save_left}
use Rattle.player.proofs.Telling.{counted_is}
use Rattle.player.proofs.keeping.l6_save.Goals as goal

pub returns : goal.returns
unfolding after_save save_left
returns c =
    let count = counted_is c.save-kept.result c.args.count.now c.map_or.result _ c.map_or.ensures (λ x is. search rules) in
    rw (c.number_of.ensures, count) (ap (λ (l : Left). after_save c.args.count.now l) c.save-kept.ensures.bytes_after)
