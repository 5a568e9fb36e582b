-- `inventory::put_head` meets its contract: its parts, the last first. Assumes nothing.
use native.Mathlib.Omega.{arith}
use lib.ListN.{get_or}
use Rattle.diagnosis.specs.Diagnosis.{spelled}
use Rattle.machine.specs.State.{undefined}
use Rattle.inventory.specs.Inventory.{head_text, bug_text, field_text}
use Rattle.inventory.proofs.Pieces.{puts_join, puts_wider}
use borrow.Author.Rules.{rules}
use Rattle.inventory.proofs.put_head.Goals as goal

pub put_each-fields-requires : goal.put_each-fields-requires
unfolding undefined
put_each-fields-requires c =
    record {
      room = (omega (arith, c.requires.0), search rules);
      calls = λ t place i h k l. search rules;
      lines = (λ i. field_text i (get_or c.args.core.now.definitions i undefined), λ t place i r u h p. search rules);
    }

pub put_each-letters-requires : goal.put_each-letters-requires
put_each-letters-requires c =
    record {
      room = (omega (arith, c.requires.0), search rules);
      calls = λ t place i h k l. search rules;
      lines = (λ i. bug_text i (get_or c.args.core.now.bugs i 0), λ t place i r u h p. search rules);
    }

pub put_line-requires : goal.put_line-requires
put_line-requires c = (omega arith, omega (arith, c.requires.0), search rules)

pub returns : goal.returns
unfolding head_text spelled undefined
returns c =
    let core = c.args.core.now in
    let fields = c.put_each-fields.ensures.text_after (λ i. field_text i (get_or core.definitions i undefined)) (λ t place i r u h p. search rules) in
    let letters = c.put_each-letters.ensures.text_after (λ i. bug_text i (get_or core.bugs i 0)) (λ t place i r u h p. search rules) in
    let line = rw (c.from.ensures, c.from-2.ensures, c.from-3.ensures) at c.put_line.ensures in
    puts_wider (puts_join (puts_join fields c.requires.1 letters) c.requires.1 line) 6048 (omega arith)
