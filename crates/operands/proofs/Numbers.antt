-- Locations as numbers: which numbers stand for bugs and which for fields. Assumes nothing.
use Prim.Native.Nat.{ℕ, ◌+◌, ◌*◌, ◌/◌, ◌%◌, ◌≤◌, ◌<◌}
use native.Mathlib.Omega.{arith}
use mathlib.Core.Path.{◌≡◌}
use borrow.Author.Tests.{lt-ltb, le-ltb}
use Rattle.table.specs.declared.BugLetter.{BugLetter}
use Rattle.machine.specs.declared.Location.TheVariants.{Bug, Field}
use Rattle.operands.specs.Locating.{located}

-- a number below 65,536 stands for a bug
pub bug_number : (n : ℕ) → n < 65536 → located n ≡ Bug (record { 0 = n })
unfolding located
bug_number n h = rw (lt-ltb n 65536 h)

-- a letter stands for itself
pub letter_number : (x : BugLetter) → x.0 < 26 → located x.0 ≡ Bug x
letter_number x h = bug_number x.0 (omega arith)

-- any other for a field
pub field_number : (n : ℕ) → 65536 ≤ n → located n ≡ Field (n / 65536) (n % 256) (n / 256 % 256)
unfolding located
field_number n h = rw (le-ltb n 65536 h)

-- the number of a field's parts
pub parts_number : (address left right : ℕ) → 1 ≤ address → left < 256 → right < 256
    → located ((address * 256 + right) * 256 + left) ≡ Field address left right
parts_number address left right some l r = go (field_number n (omega arith)) (omega arith) (omega arith) (omega arith)
  where
    n : ℕ
    n = (address * 256 + right) * 256 + left

    go : located n ≡ Field (n / 65536) (n % 256) (n / 256 % 256) → n / 65536 ≡ address → n % 256 ≡ left → n / 256 % 256 ≡ right
        → located n ≡ Field address left right
    go is a b c = rw (a, b, c) at is
