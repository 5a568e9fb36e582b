-- `split` delivers the first words of a free block, which is halved until the wanted size is reached. The measure is k. Assumes nothing.
use Rattle.std.proofs.Common.{◌/◌, length, refl, arith, length-set, ◌∙◌}
use Rattle.block.proofs.Size.{size_pos}
use Rattle.buddy.proofs.Halves.{half_size, part_length}
use Rattle.buddy.proofs.Tags.{split_ends, split_goes}
use Rattle.buddy.proofs.tree.+split.Goals as goal

pub bounds-tags-0 : goal.bounds-tags-0
bounds-tags-0 t c = omega (arith, size_pos c.args.k)

pub returns-then-k-j : goal.returns-then-k-j
returns-then-k-j t c = λ at w. split_ends c.args.k c.args.j c.live_tag.result at _ c.if-k-j.true c.live_tag.ensures w

pub bounds-tags-half : goal.bounds-tags-half
bounds-tags-half t c = omega (arith, size_pos c.args.k)

pub bounds-tags-0-2 : goal.bounds-tags-0-2
bounds-tags-0-2 t c = simp length-set (omega (arith, size_pos c.args.k))

pub split-requires : goal.split-requires
split-requires t c =
    let half = length c.args.tags.now / 2 in
    (omega arith, (omega arith, omega arith, part_length _ half _ (simp length-set (omega arith)) ∙ half_size _ _ (omega arith) c.requires.2))

pub returns : goal.returns
returns t c =
    λ at w. split_goes c.args.k c.args.j c.free_tag-tag.result at _ c.args.tags.now _ c.split.new.tags refl refl (omega arith)
    (half_size _ _ (omega arith) c.requires.2) c.free_tag-tag.ensures w (c.split.ensures at)
