-- `free_up` frees a block upward. The loop's invariant: the bytes lack just the tag of a free block at the place, and rejoined upward they
-- are what they would have been at first. The measure is how many levels are left. Assumes nothing.
use Rattle.std.proofs.Common.{◌≡◌, ℕ, ◌+◌, ◌<◌, ◌≤◌, get_or, set, sym, ap, ◌∙◌, arith, length-set}
use Rattle.block.specs.Blocks.{size}
use Rattle.block.specs.Map.{free_tag}
use Rattle.buddy.specs.Upward.{other_place}
use Rattle.block.proofs.Size.{size_pos, size_small}
use Rattle.buddy.proofs.Upward.{rise_low, rise_inside, rise_pair, rise_widens, rise_ends, both_hold, not_both}
use Rattle.buddy.proofs.tree.free_up.Goals as goal
use Rattle.buddy.proofs.tree.free_up.Goals.{After-pair_start-at, In-loop-n}

-- the block goes on: its other half is free
goes_on : (c : In-loop-n) → let l = c.loop-n in
    (l.j < c.args.k) × (get_or l.tags (other_place (size l.j) l.at) 0 ≡ free_tag l.j)
goes_on c =
    let l = c.loop-n in both_hold l.j _ (get_or l.tags (other_place (size l.j) l.at) 0) (free_tag l.j) c.is_joined.ensures
    c.loop-n-test.true

-- the block of both halves
pair : (c : After-pair_start-at) → let start = c.pair_start-at.result in let n = c.size_of-n.result in
    (start + n + n ≤ size c.args.k)
    × (size c.args.k ≤ 128)
pair c =
    let h = rise_pair c.loop-n.invariant.1.1 (goes_on c.before.before).0 c.size_of-n.result c.size_of-n.ensures
    c.pair_start-at.result c.pair_start-at.ensures in
    (h.2, size_small c.args.k (omega arith))

pub loop-n-init : goal.loop-n-init
loop-n-init c = (c.requires.1, c.requires.2, λ new r. r)

pub is_joined-requires : goal.is_joined-requires
is_joined-requires c = (omega arith, c.loop-n.invariant.0, c.loop-n.invariant.1)

pub size_of-n-requires : goal.size_of-n-requires
size_of-n-requires c = omega (arith, rise_low c.loop-n.invariant.1.1)

pub pair_start-at-requires : goal.pair_start-at-requires
pair_start-at-requires c =
    let small = size_small c.loop-n.j (omega (arith, rise_low c.loop-n.invariant.1.1)) in
    (omega (arith, c.size_of-n.ensures, size_pos c.loop-n.j), omega (arith, c.size_of-n.ensures))

pub overflow_add-tags : goal.overflow_add-tags
overflow_add-tags c = let h = pair c in record { fits = omega arith }

pub bounds-tags-at : goal.bounds-tags-at
bounds-tags-at c =
    let h = pair c in omega (arith, c.loop-n.invariant.0, c.size_of-n.ensures, size_pos c.loop-n.j)

pub overflow_add-j : goal.overflow_add-j
overflow_add-j c = let h = goes_on c.before.before in record { fits = omega (arith, h.0) }

pub loop-n-smaller : goal.loop-n-smaller
loop-n-smaller c = let h = goes_on c.before.before in omega (arith, h.0)

pub loop-n-preserved : goal.loop-n-preserved
loop-n-preserved c =
    let (less, free) = goes_on c.before.before in (
      rw length-set c.loop-n.invariant.0,
      (
        _,
        rise_widens c.loop-n.invariant.1.1 less c.size_of-n.result c.size_of-n.ensures c.pair_start-at.result
            c.pair_start-at.ensures free,
      ),
      λ new r. rise_widens (c.loop-n.invariant.2 new r) less c.size_of-n.result c.size_of-n.ensures c.pair_start-at.result
          c.pair_start-at.ensures free,
    )

pub free_tag-requires : goal.free_tag-requires
free_tag-requires c = omega (arith, rise_low c.loop-n.invariant.1.1)

pub bounds-tags-at-2 : goal.bounds-tags-at-2
bounds-tags-at-2 c =
    omega (arith, c.loop-n.invariant.0, rise_inside c.loop-n.invariant.1.1, size_pos c.loop-n.j)

pub shape_of-tags : goal.shape_of-tags
shape_of-tags c = rw length-set (c.loop-n.invariant.0 ∙ sym c.requires.1)

pub returns : goal.returns
returns c =
    λ new r. ap (λ (x : ℕ). set c.loop-n.tags c.loop-n.at x) c.free_tag.ensures
    ∙ rise_ends (c.loop-n.invariant.2 new r) (not_both c.loop-n.j c.args.k _ _ c.is_joined.ensures
    c.loop-n-test.false)
