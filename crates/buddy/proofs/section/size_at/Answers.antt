-- `size_at` looks at one byte of the map; past its end there is none. Assumes nothing.
use Rattle.std.proofs.Common.{◌∙◌, le-ltb, lt-ltb}
use lib.ListN.{get_or-eq_default}
use Rattle.buddy.specs.Tag.{tag_size, start_size}
use Rattle.buddy.proofs.section.size_at.Goals as goal

pub returns-then-address-first : goal.returns-then-address-first
unfolding start_size
returns-then-address-first c = rw (lt-ltb _ _ c.if-address-first.true)

pub returns-then-offset-map : goal.returns-then-offset-map
unfolding start_size
returns-then-offset-map c =
    c.tag_size.ensures ∙ rw (le-ltb _ _ c.if-address-first.false)

pub returns : goal.returns
unfolding start_size tag_size
returns c =
    let a = c.args in
    rw (le-ltb _ _ c.if-address-first.false, get_or-eq_default a.map.now 0 c.if-offset-map.false)
