-- `character::from_binary_decimal` meets its contract. Six digits are made, or nine, and the last n of them kept.
-- Assumes nothing.
use mathlib.Core.Path.{◌≡◌, ◌∙◌}
use Prim.Native.Nat.{ℕ, ◌+◌, ◌-◌, ◌/◌, ◌%◌, ◌^◌, ◌<◌}
use native.Mathlib.Nat.{one-le-pow}
use native.Mathlib.Omega.{arith}
use Rattle.character.specs.Character.{from_binary}
use Rattle.character.proofs.RoundTrip.{from_binary_lt}
use Rattle.character.proofs.Entries.{six_is, three_is}
use Rattle.character.proofs.Digits.{three_six, last_of_six, from_binary_last}
use Rattle.character.proofs.from_binary_decimal.Goals as goal
use Rattle.character.proofs.from_binary_decimal.Goals.{After-six, After-six-last}

pub nonzero_rem-result : goal.nonzero_rem-result
nonzero_rem-result c = rw c.power.ensures (one-le-pow _ 64 (omega arith))

-- what is looked up
last : (c : After-six-last) → c.six-last.result ≡ from_binary 10 6 (c.args.v % 1000000)
last c = c.six-last.ensures ∙ six_is _ (omega arith)

first : (c : After-six) → c.six.result ≡ from_binary 10 3 (c.args.v / 1000000 % 1000)
first c = c.six.ensures ∙ three_is _ (omega arith)

pub returns-then-n-le-SIX : goal.returns-then-n-le-SIX
returns-then-n-le-SIX c =
    let d = c.before.before in
    rw (c.power.ensures, last d) (last_of_six d.args.n d.args.v (omega arith))

-- three characters fit eighteen bits, and six 36
small : (n k : ℕ) {r : ℕ} → r ≡ from_binary 10 n k → r < 64 ^ n
small n k e = rw e (from_binary_lt 10 n k (omega arith) (omega arith))

pub overflow_mul-result : goal.overflow_mul-result
overflow_mul-result c = omega (arith, small 3 _ (first c))

pub overflow_add-result : goal.overflow_add-result
overflow_add-result c = omega (arith, small 3 _ (first c), small 6 _ (last c.before.before))

pub nonzero_rem-result-2 : goal.nonzero_rem-result-2
nonzero_rem-result-2 c = rw c.power-2.ensures (one-le-pow _ 64 (omega arith))

pub returns : goal.returns
returns c =
    let d = c.before.before.before in
    let a = d.args in
    let e : 9 - a.n + a.n ≡ 9 = omega arith in
    rw (c.power-2.ensures, first c.before, last d, three_six a.v)
    (rw e at (from_binary_last 10 (9 - a.n) a.n a.v (omega arith) (omega arith)))
