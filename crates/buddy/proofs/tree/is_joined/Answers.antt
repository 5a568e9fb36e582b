-- `is_joined` looks at the first byte of the other half. Assumes nothing.
use Rattle.std.proofs.Common.{ℕ, ◌+◌, ◌≤◌, eqb, get_or, ap₂, arith, le-ltb, lt-ltb}
use Rattle.block.specs.Blocks.{size}
use Rattle.block.proofs.Size.{size_pos, size_small}
use Rattle.buddy.proofs.Upward.{rise_pair, rise_other}
use Rattle.buddy.proofs.tree.is_joined.Goals as goal

pub returns-then-k-j : goal.returns-then-k-j
returns-then-k-j c =
    rw (le-ltb c.args.j c.args.k c.if-k-j.true)

pub pair_start-start-requires : goal.pair_start-start-requires
pair_start-start-requires c =
    let small = size_small c.args.j (omega arith) in (omega (arith, c.size_of-n.ensures, size_pos c.args.j), omega (arith, c.size_of-n.ensures))

pub overflow_add-result : goal.overflow_add-result
overflow_add-result c =
    let pair : let start = c.pair_start-start.result in let n = c.size_of-n.result in
    let a = c.args in
    (start ≤ a.at) × (a.at ≤ start + n) × (start + n + n ≤ size a.k) × (size a.k ≤ 128) =
    let h = rise_pair c.requires.2.1 (omega arith) c.size_of-n.result c.size_of-n.ensures c.pair_start-start.result
    c.pair_start-start.ensures in
    (h.0, h.1, h.2, size_small c.args.k (omega arith)) in
    let h = pair in record { fits = omega arith }

pub overflow_add-result-2 : goal.overflow_add-result-2
overflow_add-result-2 c =
    let pair : let start = c.pair_start-start.result in let n = c.size_of-n.result in
    let a = c.args in
    (start ≤ a.at) × (a.at ≤ start + n) × (start + n + n ≤ size a.k) × (size a.k ≤ 128) =
    let h = rise_pair c.requires.2.1 (omega arith) c.size_of-n.result c.size_of-n.ensures c.pair_start-start.result
    c.pair_start-start.ensures in
    (h.0, h.1, h.2, size_small c.args.k (omega arith)) in
    let h = pair in record { fits = omega arith }

pub overflow_sub-result : goal.overflow_sub-result
overflow_sub-result c =
    let pair : let start = c.pair_start-start.result in let n = c.size_of-n.result in
    let a = c.args in
    (start ≤ a.at) × (a.at ≤ start + n) × (start + n + n ≤ size a.k) × (size a.k ≤ 128) =
    let h = rise_pair c.requires.2.1 (omega arith) c.size_of-n.result c.size_of-n.ensures c.pair_start-start.result
    c.pair_start-start.ensures in
    (h.0, h.1, h.2, size_small c.args.k (omega arith)) in
    let h = pair in omega arith

pub bounds-tags-start : goal.bounds-tags-start
bounds-tags-start c =
    let pair : let start = c.pair_start-start.result in let n = c.size_of-n.result in
    let a = c.args in
    (start ≤ a.at) × (a.at ≤ start + n) × (start + n + n ≤ size a.k) × (size a.k ≤ 128) =
    let h = rise_pair c.requires.2.1 (omega arith) c.size_of-n.result c.size_of-n.ensures c.pair_start-start.result
    c.pair_start-start.ensures in
    (h.0, h.1, h.2, size_small c.args.k (omega arith)) in
    let h = pair in omega (arith, c.size_of-n.ensures, size_pos c.args.j)

pub returns : goal.returns
returns c =
    let other = rise_other c.requires.2.1 (omega arith) c.size_of-n.result c.size_of-n.ensures
    c.pair_start-start.result c.pair_start-start.ensures in
    rw (lt-ltb c.args.j c.args.k c.if-k-j.false) (ap₂ (λ (i x : ℕ). eqb (get_or c.args.tags.now i 0) x) other c.free_tag.ensures)

pub size_of-n-requires : goal.size_of-n-requires
size_of-n-requires size-of-requires = omega arith

pub free_tag-requires : goal.free_tag-requires
free_tag-requires free-tag-requires = omega arith
