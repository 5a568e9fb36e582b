-- `lowest_run` scans the map from block to block. The loop's invariant: the first of the aligned runs is among the words that are left, and
-- no smaller block stands first there. The measure is how many are left. Assumes nothing.
use Rattle.std.proofs.Common.{◌≡◌, ℕ, ◌+◌, ◌-◌, ◌/◌, ◌<◌, ◌≤◌, length, get_or, arith}
use Rattle.block.specs.Blocks.{size}
use Rattle.block.specs.SetUp.{words, runs}
use Rattle.block.specs.Map.{live, free_tag}
use Rattle.block.proofs.Size.{size_pos, size_small, top_le, words_le}
use Rattle.block.proofs.Map.{keeps_words}
use Rattle.buddy.specs.Lowest.{first_of}
use Rattle.buddy.proofs.Answers.{first_told_lem}
use Rattle.buddy.proofs.Scan.{Scanned, meets_free, meets_live, passed_scanned, passed_on, scan_starts, scan_ends}
use Rattle.buddy.proofs.section.lowest_run.Goals as goal

pub size_of-n-requires : goal.size_of-n-requires
size_of-n-requires c = omega (arith, top_le c.args.setup.d)

pub free_tag-least-requires : goal.free_tag-least-requires
free_tag-least-requires c = omega (arith, top_le c.args.setup.d)

pub skip-i-requires : goal.skip-i-requires
skip-i-requires c =
    let skip-asks : let n = c.size_of-n.result in let end = c.words_of-end.result in
    (end ≤ length c.args.map.now) × (end ≤ 65536) × (0 < n) × (n ≤ 128) =
    let sized = c.size_of-n.ensures in (
      omega (arith, c.words_of-end.ensures, keeps_words c.args.setup c.args.map.now c.requires.0 c.requires.1),
      omega (arith, c.words_of-end.ensures, words_le c.args.setup),
      omega (arith, sized, size_pos c.args.j),
      omega (arith, sized, size_small c.args.j (omega (arith, top_le c.args.setup.d))),
    ) in
    skip-asks

pub loop-i-init : goal.loop-i-init
loop-i-init c = (
  passed_scanned c.args.setup.s1 (words c.args.setup) c.args.j c.words_of-end.ensures c.free_tag-least.ensures c.size_of-n.ensures (scan_starts c.args.setup c.args.map.now c.args.j c.requires.0 c.requires.1 c.requires.2)
      c.skip-i.ensures.0,
  c.skip-i.ensures.1,
)

pub bounds-map-i : goal.bounds-map-i
bounds-map-i c =
    omega (arith, c.words_of-end.ensures, keeps_words c.args.setup c.args.map.now c.requires.0 c.requires.1)

pub overflow_add-result : goal.overflow_add-result
overflow_add-result c =
    record { fits = omega (arith, c.loop-i.invariant.0.0, words_le c.args.setup) }

pub returns-then-tag-eq1 : goal.returns-then-tag-eq1
returns-then-tag-eq1 c =
    let large : let a = c.args in
    free_tag a.j ≤ get_or a.map.now c.loop-i.i 0 =
    omega (arith, c.loop-i.invariant.1 c.loop-i-test.true, c.free_tag-least.ensures) in
    first_told_lem _ (meets_free c.args.setup.s1 (words c.args.setup) c.loop-i.i c.args.map.now c.loop-i.invariant.0
    (omega (arith, c.words_of-end.ensures)) (large) (λ e. omega (arith, c.if-tag-eq1.true)))

pub overflow_sub-tag : goal.overflow_sub-tag
unfolding free_tag
overflow_sub-tag c =
    let large : let a = c.args in
    free_tag a.j ≤ get_or a.map.now c.loop-i.i 0 =
    omega (arith, c.loop-i.invariant.1 c.loop-i-test.true, c.free_tag-least.ensures) in
    omega (arith, large, c.if-tag-eq1.false)

pub size_of-requires : goal.size_of-requires
size_of-requires c =
    let past-live : let l = c.before.before.before in
    let k = get_or l.args.map.now l.loop-i.i 0 / 2 - 1 in
    (k ≤ 7) × ((n : ℕ) → n ≡ size k → Scanned c.args.j c.args.setup.s1 (words c.args.setup) c.args.map.now (first_of (runs (size c.args.j) c.args.setup (live c.args.setup c.args.map.now))) (l.loop-i.i + n)) =
    let large : let a = c.args in
    free_tag a.j ≤ get_or a.map.now c.loop-i.i 0 =
    omega (arith, c.loop-i.invariant.1 c.loop-i-test.true, c.free_tag-least.ensures) in
    let a = c.args in
    meets_live a.setup.s1 (words a.setup) c.loop-i.i a.map.now c.loop-i.invariant.0 (omega (arith, c.words_of-end.ensures))
    (large) (omega (arith, c.if-tag-eq1.false)) in
    past-live.0

pub overflow_add-i : goal.overflow_add-i
overflow_add-i c =
    let past-live : let l = c.before.before.before in
    let k = get_or l.args.map.now l.loop-i.i 0 / 2 - 1 in
    (k ≤ 7) × ((n : ℕ) → n ≡ size k → Scanned c.args.j c.args.setup.s1 (words c.args.setup) c.args.map.now (first_of (runs (size c.args.j) c.args.setup (live c.args.setup c.args.map.now))) (l.loop-i.i + n)) =
    let large : let a = c.args in
    free_tag a.j ≤ get_or a.map.now c.loop-i.i 0 =
    omega (arith, c.loop-i.invariant.1 c.loop-i-test.true, c.free_tag-least.ensures) in
    let a = c.args in
    meets_live a.setup.s1 (words a.setup) c.loop-i.i a.map.now c.loop-i.invariant.0 (omega (arith, c.words_of-end.ensures))
    (large) (omega (arith, c.if-tag-eq1.false)) in
    record { fits = omega (arith, (past-live.1 c.size_of.result c.size_of.ensures).0, words_le c.args.setup) }

pub skip-i-requires-in-loop-i : goal.skip-i-requires-in-loop-i
skip-i-requires-in-loop-i c =
    let skip-asks : let n = c.size_of-n.result in let end = c.words_of-end.result in
    (end ≤ length c.args.map.now) × (end ≤ 65536) × (0 < n) × (n ≤ 128) =
    let sized = c.size_of-n.ensures in (
      omega (arith, c.words_of-end.ensures, keeps_words c.args.setup c.args.map.now c.requires.0 c.requires.1),
      omega (arith, c.words_of-end.ensures, words_le c.args.setup),
      omega (arith, sized, size_pos c.args.j),
      omega (arith, sized, size_small c.args.j (omega (arith, top_le c.args.setup.d))),
    ) in
    skip-asks

pub loop-i-smaller : goal.loop-i-smaller
loop-i-smaller c =
    omega (arith, passed_on c.skip-i-in-loop-i.ensures.0, c.size_of.ensures, size_pos (get_or c.args.map.now c.loop-i.i 0 / 2 - 1))

pub loop-i-preserved : goal.loop-i-preserved
loop-i-preserved c =
    let past-live : let l = c.before.before.before in
    let k = get_or l.args.map.now l.loop-i.i 0 / 2 - 1 in
    (k ≤ 7) × ((n : ℕ) → n ≡ size k → Scanned c.args.j c.args.setup.s1 (words c.args.setup) c.args.map.now (first_of (runs (size c.args.j) c.args.setup (live c.args.setup c.args.map.now))) (l.loop-i.i + n)) =
    let large : let a = c.args in
    free_tag a.j ≤ get_or a.map.now c.loop-i.i 0 =
    omega (arith, c.loop-i.invariant.1 c.loop-i-test.true, c.free_tag-least.ensures) in
    let a = c.args in
    meets_live a.setup.s1 (words a.setup) c.loop-i.i a.map.now c.loop-i.invariant.0 (omega (arith, c.words_of-end.ensures))
    (large) (omega (arith, c.if-tag-eq1.false)) in (
      passed_scanned c.args.setup.s1 (words c.args.setup) c.args.j c.words_of-end.ensures c.free_tag-least.ensures c.size_of-n.ensures (past-live.1 c.size_of.result
          c.size_of.ensures) c.skip-i-in-loop-i.ensures.0,
      c.skip-i-in-loop-i.ensures.1,
    )

pub returns : goal.returns
returns c =
    first_told_lem _ (scan_ends c.args.setup.s1 (words c.args.setup) c.loop-i.i c.args.map.now
    c.loop-i.invariant.0 (omega (arith, c.words_of-end.ensures)))
