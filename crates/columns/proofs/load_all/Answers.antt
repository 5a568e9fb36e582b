-- `columns::load_all` meets its contract. The loop's invariant: the words of k groups, or the first n of them, are stored. Assumes nothing.
use Rattle.std.proofs.Common.{min}
use Prim.Native.Nat.{ℕ, suc, ◌+◌, ◌*◌}
use mathlib.Core.List.{List}
use mathlib.Core.Path.{◌≡◌, refl, sym, ap, ◌∙◌}
use native.Mathlib.Nat.{mul-le-mul_left}
use native.Mathlib.Omega.{arith}
use lib.ListN.{length, take, drop}
use lib.Seq.{sets, length-sets, take-take}
use Rattle.columns.specs.Columns.{turned_groups}
use Rattle.columns.proofs.Back.{room, group_below}
use Rattle.columns.proofs.Turning.{length_turned, length_groups}
use Rattle.columns.proofs.Parts.{group_of}
use Rattle.columns.proofs.Writing.{start_more, start_all}
use Rattle.columns.proofs.load_all.Goals as goal

pub loop-k-init : goal.loop-k-init
loop-k-init c =
    let none : 0 ≡ min c.args.n (8 * 0) = omega arith in
    (omega arith, refl, ap (λ (i : ℕ). sets c.args.words.now 0 (take i (turned_groups 8 c.args.b c.args.groups c.args.bytes.now))) none)

pub overflow_mul-size : goal.overflow_mul-size
overflow_mul-size c =
    let most = mul-le-mul_left {m = c.loop-k.k} {n = c.args.groups} c.args.b c.loop-k.invariant.0 in
    omega (arith, c.requires.1)

pub load_group-group-requires : goal.load_group-group-requires
load_group-group-requires c =
    let more = c.loop-k-test.true in
    let most = mul-le-mul_left {m = suc c.loop-k.k} {n = c.args.groups} c.args.b more in
    (c.requires.0, omega (arith, c.requires.1))

pub overflow_mul-i : goal.overflow_mul-i
overflow_mul-i c = omega (arith, group_below c.args.n c.loop-k.k c.requires.2 c.loop-k-test.true)

pub overflow_sub-n : goal.overflow_sub-n
overflow_sub-n c = omega (arith, group_below c.args.n c.loop-k.k c.requires.2 c.loop-k-test.true)

pub slice_bounds-put_words-end : goal.slice_bounds-put_words-end
slice_bounds-put_words-end c = sym (ap length c.load_group-group.ensures ∙ length_turned 8 _)

pub put_words-requires : goal.put_words-requires
put_words-requires c =
    let long = ap length c.load_group-group.ensures
    ∙ length_turned 8 (take c.args.b (drop (c.args.b * c.loop-k.k) c.args.bytes.now)) in
    let below = group_below c.args.n c.loop-k.k c.requires.2 c.loop-k-test.true in (
      omega (arith, c.min.ensures),
      omega (arith, c.min.ensures, c.requires.3, c.loop-k.invariant.1),
    )

pub loop-k-preserved : goal.loop-k-preserved
loop-k-preserved c =
    let a = c.args in
    let l = c.loop-k in
    let more = c.loop-k-test.true in
    let below = group_below a.n l.k c.requires.2 more in
    let m = c.min.result in
    let is = c.min.ensures in
    let all = turned_groups 8 a.b a.groups a.bytes.now in
    let here : min a.n (8 * l.k) ≡ 8 * l.k = omega arith in
    let next : 8 * l.k + m ≡ min a.n (8 * (l.k + 1)) = omega arith in (
      omega arith,
      ap length c.put_words.ensures ∙ simp length-sets l.invariant.1,
      c.put_words.ensures
          ∙ ap (λ (g : List ℕ). sets l.words (8 * l.k) (take m g)) (c.load_group-group.ensures
          ∙ sym (group_of 8 a.b a.groups l.k a.bytes.now more))
          ∙ ap (sets l.words (8 * l.k)) (take-take m 8 (drop (8 * l.k) all) (omega arith))
          ∙ start_more all a.words.now (8 * l.k) m (l.invariant.2 ∙ ap (λ (j : ℕ). sets a.words.now 0 (take j all)) here)
          ∙ ap (λ (j : ℕ). sets a.words.now 0 (take j all)) next,
    )

pub shape_of-words : goal.shape_of-words
shape_of-words c = c.loop-k.invariant.1

pub returns : goal.returns
returns c =
    let a = c.args in
    let l = c.loop-k in
    let over = c.loop-k-test.false in
    let most = l.invariant.0 in
    let all = turned_groups 8 a.b a.groups a.bytes.now in
    let most_words = room a.n in
    let count = c.requires.2 in
    let same : min a.n (8 * l.k) ≡ a.n = omega arith in
    start_all all a.words.now a.n (omega (arith, length_groups 8 a.b a.groups a.bytes.now)) c.requires.3
    (l.invariant.2 ∙ ap (λ (j : ℕ). sets a.words.now 0 (take j all)) same)
