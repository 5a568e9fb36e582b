-- `tourtext::fault` meets its contract: the line put is the fault's, before place 128, which is the end of the text. Assumes nothing.
use Prim.Native.Nat.{ℕ}
use native.Mathlib.Omega.{arith}
use mathlib.Core.Path.{◌≡◌, refl, ap, ◌∙◌}
use lib.ListN.{length}
use Rattle.tour.specs.Put.{put_before}
use Rattle.tourtext.specs.Translation.{fault_line}
use borrow.Author.Rules.{rules}
use Rattle.tourtext.proofs.fault.Goals as goal

pub put_fault-start-requires : goal.put_fault-start-requires
put_fault-start-requires c = let room : length c.args.printed.now ≡ 128 = search rules in omega arith

pub returns : goal.returns
returns c =
    let room : length c.args.printed.now ≡ 128 = search rules in
    record {
      bytes_value = (refl, c.put_fault-start.ensures.line_value ∙ room);
      printed_after = c.put_fault-start.ensures.text_after
          ∙ ap (λ (n : ℕ). put_before n (fault_line c.args.number c.args.line) c.args.printed.now) room;
    }
