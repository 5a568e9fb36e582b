-- `listing::count_blocks` meets its contract. The loop's invariant: the blocks up to word i are counted. Assumes nothing.
use native.Mathlib.Omega.{arith}
use Prim.Native.Nat.{◌-◌, ◌/◌}
use lib.ListN.{get_or}
use Rattle.block.proofs.Map.{keeps_words}
use Rattle.block.proofs.Size.{size_pos, words_le}
use Rattle.listing.proofs.Passing.{passed_none}
use Rattle.listing.proofs.Lists.{byte_most, counting_none, met, counting_next, counting_all}
use Rattle.listing.proofs.count_blocks.Goals as goal

pub loop-i-init : goal.loop-i-init
loop-i-init c = counting_none _ _ _ _ _ (passed_none c.args.live c.args.setup c.args.map.now c.requires.0
    c.requires.1)

pub bounds-map-i : goal.bounds-map-i
bounds-map-i c =
    omega (arith, c.words_of.ensures, c.loop-i-test.true, keeps_words c.args.setup c.args.map.now c.requires.0 c.requires.1)

pub overflow_add-n : goal.overflow_add-n
overflow_add-n c =
    record { fits = omega (arith, byte_most c.is_wanted.result, c.loop-i.invariant.few, c.loop-i.invariant.passed.0, words_le c.args.setup) }

pub overflow_sub-tag : goal.overflow_sub-tag
overflow_sub-tag c =
    (met _ _ _ _ _ c.loop-i.invariant (omega (arith, c.words_of.ensures, c.loop-i-test.true))).tagged

pub size_of-i-requires : goal.size_of-i-requires
size_of-i-requires c =
    (met _ _ _ _ _ c.loop-i.invariant (omega (arith, c.words_of.ensures, c.loop-i-test.true))).level

pub overflow_add-i : goal.overflow_add-i
overflow_add-i c =
    let next = counting_next _ _ _ _ _ c.loop-i.invariant (omega (arith, c.words_of.ensures, c.loop-i-test.true))
    c.is_wanted.ensures
    c.size_of-i.ensures in record { fits = omega (arith, next.passed.0, words_le c.args.setup) }

pub loop-i-smaller : goal.loop-i-smaller
loop-i-smaller c =
    omega (
      arith,
      c.words_of.ensures,
      c.loop-i-test.true,
      c.size_of-i.ensures,
      size_pos ((get_or c.args.map.now c.loop-i.i 0 - 1) / 2),
    )

pub loop-i-preserved : goal.loop-i-preserved
loop-i-preserved c =
    counting_next _ _ _ _ _ c.loop-i.invariant (omega (arith, c.words_of.ensures, c.loop-i-test.true))
    c.is_wanted.ensures c.size_of-i.ensures

pub returns : goal.returns
returns c =
    let all = counting_all _ _ _ _ _ c.loop-i.invariant (omega (arith, c.words_of.ensures, c.loop-i-test.false)) in
    record {
      value = all;
      few = omega (arith, c.loop-i.invariant.few, c.loop-i.invariant.passed.0, words_le c.args.setup);
    }
