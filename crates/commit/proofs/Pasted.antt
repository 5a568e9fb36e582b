-- How many words are to be copied. Assumes nothing.
use Rattle.std.specs.Prelude.{◌≡◌, ℕ, ◌+◌, ◌≤◌, List, length, take, drop}
use native.Mathlib.Omega.{arith}
use lib.ListN.{length-drop}
use lib.Seq.{length-take-le}

-- a part of a list is as long as asked for
pub length_copied : (ws : List ℕ) (from n : ℕ) → from + n ≤ length ws → length (take n (drop from ws)) ≡ n
length_copied ws from n h = length-take-le n (drop from ws) (omega (arith, length-drop from ws))
