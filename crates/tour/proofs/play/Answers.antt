-- `tour::play` meets its contract: what is printed is that of the run (`printed_is`), and the codes written lie in the output
-- (`written_fits`). Assumes nothing.
use native.Mathlib.Omega.{arith}
use mathlib.Core.Path.{◌≡◌, refl, sym}
use lib.ListN.{length, length-take}
use lib.Seq.{length-take-le}
use Rattle.tour.specs.Tour.{codes}
use Rattle.tour.proofs.Playing.{written_fits, printed_is}
use borrow.Author.Rules.{rules}
use Rattle.tour.proofs.play.Goals as goal

pub run_tour-ran-requires : goal.run_tour-ran-requires
run_tour-ran-requires c = (refl, refl)

pub slice_bounds-output-end : goal.slice_bounds-output-end
slice_bounds-output-end c =
    written_fits c.args.tab.now c.args.stops.now c.run_tour-ran.ensures

pub slice_bounds-put_lines-end-2 : goal.slice_bounds-put_lines-end-2
slice_bounds-put_lines-end-2 c =
    sym (length-take-le _ _ (written_fits c.args.tab.now c.args.stops.now c.run_tour-ran.ensures))

pub put_lines-requires : goal.put_lines-requires
put_lines-requires c =
    let long : length c.run_tour-ran.new.output ≡ 4096 = search rules in
    let room : length c.args.text.now ≡ 12331 = search rules in
    omega (arith, length-take c.run_tour-ran.result.state.core.written c.run_tour-ran.new.output)

pub returns : goal.returns
unfolding codes
returns c =
    let room : length c.args.text.now ≡ 12331 = search rules in
    let is = printed_is c.args.tab.now c.args.stops.now c.run_tour-ran.ensures in
    record {
      stops_value = rw (is, room) at c.put_lines.ensures.count_value;
      text_after = rw (is, room) at c.put_lines.ensures.text_after;
    }
