-- `listing::list_blocks` meets its contract. The loop's invariant: the numbers of the blocks up to word i are put. Assumes nothing.
use native.Mathlib.Omega.{arith}
use Prim.Native.Nat.{◌-◌, ◌/◌}
use lib.ListN.{get_or}
use Rattle.block.proofs.Map.{keeps_words}
use Rattle.block.proofs.Size.{size_pos, words_le}
use Rattle.layout.proofs.Placing.{same_length as kept}
use Rattle.listing.proofs.Passing.{passed_none}
use Rattle.listing.proofs.Lists.{listing_none, found, room, listing_next, listing_all}
use Rattle.listing.proofs.list_blocks.Goals as goal

pub loop-i-init : goal.loop-i-init
loop-i-init c =
    λ long. listing_none _ _ _ _ _ _ long (passed_none c.args.live c.args.setup c.args.map.now c.requires.0 c.requires.1)

pub bounds-map-i : goal.bounds-map-i
bounds-map-i c =
    omega (
      arith,
      c.words_of-end.ensures,
      c.loop-i-test.true,
      keeps_words c.args.setup c.args.map.now c.requires.0 c.requires.1,
    )

pub overflow_sub-tag : goal.overflow_sub-tag
overflow_sub-tag c =
    (found _ _ _ _ _ _ c.requires.2 (c.loop-i.invariant c.requires.2) (omega (
      arith,
      c.words_of-end.ensures,
      c.loop-i-test.true,
    ))).tagged

pub size_of-size-requires : goal.size_of-size-requires
size_of-size-requires c =
    (found _ _ _ _ _ _ c.requires.2 (c.loop-i.invariant c.requires.2) (omega (
      arith,
      c.words_of-end.ensures,
      c.loop-i-test.true,
    ))).level

pub overflow_add-setup : goal.overflow_add-setup
overflow_add-setup c =
    record { fits = omega (arith, c.words_of-end.ensures, c.loop-i-test.true, words_le c.args.setup) }

pub put_block-n-requires : goal.put_block-n-requires
put_block-n-requires c =
    room _ _ _ _ _ _ c.requires.2 (c.loop-i.invariant c.requires.2) (omega (
      arith,
      c.words_of-end.ensures,
      c.loop-i-test.true,
    )) c.is_wanted-asked.ensures c.size_of-size.ensures

pub overflow_add-i : goal.overflow_add-i
overflow_add-i c =
    record {
      fits = omega (
        arith,
        (found _ _ _ _ _ _ c.requires.2 (c.loop-i.invariant c.requires.2)
            (omega (arith, c.words_of-end.ensures, c.loop-i-test.true))).passed.0,
        c.size_of-size.ensures,
        words_le c.args.setup,
      );
    }

pub loop-i-smaller : goal.loop-i-smaller
loop-i-smaller c =
    omega (arith, c.size_of-size.ensures, size_pos ((get_or c.args.map.now c.loop-i.i 0 - 1) / 2))

pub loop-i-preserved : goal.loop-i-preserved
loop-i-preserved c =
    λ long. listing_next _ _ _ _ _ _ long (c.loop-i.invariant long) (omega (arith, c.words_of-end.ensures, c.loop-i-test.true))
    c.is_wanted-asked.ensures c.size_of-size.ensures
    c.put_block-n.ensures.list_after c.put_block-n.ensures.value

pub shape_of-list : goal.shape_of-list
shape_of-list c = kept (c.loop-i.invariant c.requires.2).put

pub returns : goal.returns
returns c =
    listing_all _ _ _ _ _ _ c.requires.2 (c.loop-i.invariant c.requires.2) (omega (arith, c.words_of-end.ensures, c.loop-i-test.false))
