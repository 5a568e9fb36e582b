-- `listing::is_wanted` meets its contract. Each branch is one case of the definition: an even tag or an odd one. Assumes nothing.
use borrow.Author.Tests.{eq-eqb, ne_eqb}
use Rattle.listing.specs.Listing.{wanted}
use Rattle.listing.proofs.is_wanted.Goals as goal

pub returns-then-tag-eq0 : goal.returns-then-tag-eq0
unfolding wanted
returns-then-tag-eq0 c = rw (eq-eqb _ _ c.if-tag-eq0.true)

pub returns-else-tag-eq0 : goal.returns-else-tag-eq0
unfolding wanted
returns-else-tag-eq0 c = rw (ne_eqb _ _ c.if-tag-eq0.false)
