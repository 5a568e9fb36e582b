-- `tag_size` gives the size of the live block of which a byte is the tag. Assumes nothing.
use Rattle.std.proofs.Common.{◌∙◌, le-ltb, lt-ltb, eq-eqb, ne_eqb}
use Rattle.buddy.specs.Tag.{tag_size}
use Rattle.buddy.proofs.section.tag_size.Goals as goal

pub returns-then-tag-gt-LAST_TAG : goal.returns-then-tag-gt-LAST_TAG
unfolding tag_size
returns-then-tag-gt-LAST_TAG c = rw (lt-ltb _ _ c.if-tag-gt-LAST_TAG.true)

pub returns-then-tag-eq1 : goal.returns-then-tag-eq1
unfolding tag_size
returns-then-tag-eq1 c = rw (le-ltb _ _ c.if-tag-gt-LAST_TAG.false, eq-eqb _ _ c.if-tag-eq1.true)

pub returns-then-tag-lt2 : goal.returns-then-tag-lt2
unfolding tag_size
returns-then-tag-lt2 c = rw (le-ltb _ _ c.if-tag-gt-LAST_TAG.false, ne_eqb _ _ c.if-tag-eq1.false, lt-ltb _ _ c.if-tag-lt2.true)

pub returns : goal.returns
unfolding tag_size
returns c =
    c.size_of.ensures ∙ rw (le-ltb _ _ c.if-tag-gt-LAST_TAG.false, ne_eqb _ _ c.if-tag-eq1.false, le-ltb _ _ c.if-tag-lt2.false)
