-- `table::forms::fits_word` meets its contract: from 64 bits on, 2 ^ b is above every number that is held. Assumes nothing.
use borrow.Author.Tests.{lt-ltb}
use mathlib.Core.Path.{sym}
use native.Mathlib.Nat.{lt_of_lt_of_le}
use lib.Pow.{pow_mono}
use Rattle.table.proofs.forms.fits_word.Goals as goal

pub returns-then-b-lt64 : goal.returns-then-b-lt64
returns-then-b-lt64 c = cc

pub returns-else-b-lt64 : goal.returns-else-b-lt64
returns-else-b-lt64 c = sym (lt-ltb _ _ (lt_of_lt_of_le c.ranges.v.fits (pow_mono {i = 64} c.if-b-lt64.false)))
