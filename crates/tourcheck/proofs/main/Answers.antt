-- `tourcheck::main` is safe: what is printed lies at the end of the text. Assumes nothing.
use native.Mathlib.Omega.{arith}
use lib.ListN.{replicate}
use Rattle.tour.proofs.Putting.{Put, same_length}
use borrow.Author.Rules.{rules}
use Rattle.tourcheck.proofs.main.Goals as goal

pub slice_bounds-write_all-end : goal.slice_bounds-write_all-end
slice_bounds-write_all-end c =
    let put : Put 128 _ (replicate 128 0) _ _ = record { starts = c.diagnose-start.ensures.tab_value; buffer = c.diagnose-start.ensures.text_after; inside = search rules } in
    omega (arith, same_length put, c.diagnose-start.ensures.tab_value)
