-- `columns::save_all` meets its contract. The loop's invariant: the bytes of the first k groups are stored. Assumes nothing.
use Prim.Native.Nat.{ℕ, suc, ◌+◌, ◌*◌}
use mathlib.Core.List.{List, ◌++◌}
use mathlib.Core.Path.{◌≡◌, refl, sym, ap, ◌∙◌}
use native.Mathlib.Nat.{mul-le-mul_left}
use native.Mathlib.Omega.{arith}
use lib.ListN.{length, take, drop}
use lib.Seq.{sets, length-sets, take_all}
use Rattle.columns.specs.Columns.{groups_of, turned, saved}
use Rattle.columns.proofs.Back.{length_saved}
use Rattle.columns.proofs.Loops.{length_group}
use Rattle.columns.proofs.Parts.{saved_group}
use Rattle.columns.proofs.Writing.{start_more, start_all}
use Rattle.columns.proofs.save_all.Goals as goal

pub loop-k-init : goal.loop-k-init
loop-k-init c =
    let none : 0 ≡ c.args.b * 0 = omega arith in
    (omega arith, refl, ap (λ (i : ℕ). sets c.args.bytes.now 0 (take i (saved c.args.b c.args.words.now))) none)

pub overflow_mul-k : goal.overflow_mul-k
unfolding groups_of
overflow_mul-k c = let count = c.requires.1 in let more = c.loop-k-test.true in omega arith

pub group_at-group-requires : goal.group_at-group-requires
group_at-group-requires c = let count = c.requires.1 in let more = c.loop-k-test.true in omega arith

pub slice_bounds-save_group-end : goal.slice_bounds-save_group-end
slice_bounds-save_group-end c =
    let count = c.requires.1 in
    let more = c.loop-k-test.true in
    sym (ap length c.group_at-group.ensures ∙ length_group c.args.words.now (8 * c.loop-k.k) (omega arith))

pub overflow_mul-n : goal.overflow_mul-n
overflow_mul-n c =
    let most = mul-le-mul_left {m = c.loop-k.k} {n = c.args.groups} c.args.b c.loop-k.invariant.0 in
    omega (arith, c.requires.2)

pub save_group-requires : goal.save_group-requires
save_group-requires c =
    let count = c.requires.1 in
    let more = c.loop-k-test.true in
    let most = mul-le-mul_left {m = suc c.loop-k.k} {n = c.args.groups} c.args.b more in (
      c.requires.0,
      ap length c.group_at-group.ensures ∙ length_group c.args.words.now (8 * c.loop-k.k) (omega arith),
      omega (arith, c.requires.2, c.loop-k.invariant.1),
    )

pub loop-k-preserved : goal.loop-k-preserved
loop-k-preserved c =
    let a = c.args in
    let l = c.loop-k in
    let more = c.loop-k-test.true in
    let count = c.requires.1 in
    let s = saved a.b a.words.now in
    let next : a.b * l.k + a.b ≡ a.b * (l.k + 1) = omega arith in (
      omega arith,
      ap length c.save_group.ensures ∙ simp length-sets l.invariant.1,
      c.save_group.ensures
          ∙ ap (λ (g : List ℕ). sets l.bytes (a.b * l.k) (turned a.b g)) c.group_at-group.ensures
          ∙ ap (sets l.bytes (a.b * l.k)) (sym (saved_group a.b a.words.now l.k (omega arith)))
          ∙ start_more s a.bytes.now (a.b * l.k) a.b l.invariant.2
          ∙ ap (λ (i : ℕ). sets a.bytes.now 0 (take i s)) next,
    )

pub shape_of-bytes : goal.shape_of-bytes
shape_of-bytes c = c.loop-k.invariant.1

pub returns : goal.returns
returns c =
    let a = c.args in
    let l = c.loop-k in
    let over = c.loop-k-test.false in
    let most = l.invariant.0 in
    let s = saved a.b a.words.now in
    let same : l.k ≡ a.groups = omega arith in
    let long : length s ≡ a.b * a.groups = length_saved a.b a.words.now ∙ ap (λ (g : ℕ). a.b * g) (sym c.requires.1) in
    start_all s a.bytes.now (a.b * a.groups) (omega arith) c.requires.2 (l.invariant.2 ∙ ap (λ (k : ℕ). sets a.bytes.now 0 (take (a.b * k) s)) same)
    ∙ ap (λ (r : List ℕ). r ++ drop (a.b * a.groups) a.bytes.now) (take_all (a.b * a.groups) s (omega arith))
