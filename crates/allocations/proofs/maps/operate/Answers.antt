-- `allocations::maps::operate` meets its contract. What the allocator requires of the map is the test just made. Assumes nothing.
use Rattle.std.proofs.Common.{sym, ◌∙◌, rules}
use Rattle.allocations.proofs.maps.operate.Goals as goal

pub done-requires : goal.done-requires
done-requires c = (search rules, sym c.keeps_section.ensures ∙ c.if-keeps_section.true, search rules, search rules)
