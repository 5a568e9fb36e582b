-- `inventory::put_stacks` meets its contract: its parts, the last first. Assumes nothing.
use native.Mathlib.Omega.{arith}
use Prim.Native.Nat.{◌<◌}
use lib.ListN.{get_or}
use Rattle.machine.specs.State.{undefined, tests_of}
use Rattle.inventory.specs.Inventory.{stacks_text, saved_text, definition_text, place_text}
use Rattle.inventory.proofs.Pieces.{puts_join, puts_wider}
use borrow.Author.Rules.{rules}
use Rattle.inventory.proofs.put_stacks.Goals as goal

pub put_each-places-requires : goal.put_each-places-requires
unfolding tests_of
put_each-places-requires c =
    record {
      room = (omega (arith, c.min.ensures, c.requires.0), search rules);
      calls = λ t place i h k l. let few : i < 128 = omega (arith, c.min.ensures) in search rules;
      lines = (λ i. place_text (get_or c.args.core.now.calls.entries i (tests_of 0)), λ t place i r u h p. search rules);
    }

pub put_each-definitions-requires : goal.put_each-definitions-requires
unfolding undefined
put_each-definitions-requires c =
    record {
      room = (omega (arith, c.min.ensures, c.min-2.ensures, c.requires.0), search rules);
      calls = λ t place i h k l. let few : i < 128 = omega (arith, c.min-2.ensures) in search rules;
      lines = (λ i. definition_text (get_or c.args.core.now.saved.entries i undefined), λ t place i r u h p. search rules);
    }

pub put_each-words-requires : goal.put_each-words-requires
put_each-words-requires c =
    record {
      room = (omega (arith, c.min.ensures, c.min-2.ensures, c.min-3.ensures, c.requires.0), search rules);
      calls = λ t place i h k l. let few : i < 128 = omega (arith, c.min-3.ensures) in search rules;
      lines = (λ i. saved_text (get_or c.args.core.now.contents.entries i 0), λ t place i r u h p. search rules);
    }

pub put_counts-requires : goal.put_counts-requires
put_counts-requires c = (omega (arith, c.min.ensures, c.min-2.ensures, c.min-3.ensures, c.requires.0), search rules)

pub returns : goal.returns
unfolding stacks_text undefined tests_of
returns c =
    let core = c.args.core.now in
    let places = c.put_each-places.ensures.text_after (λ i. place_text (get_or core.calls.entries i (tests_of 0))) (λ t place i r u h p. search rules) in
    let definitions =
    c.put_each-definitions.ensures.text_after (λ i. definition_text (get_or core.saved.entries i undefined)) (λ t place i r u h p. search rules) in
    let words = c.put_each-words.ensures.text_after (λ i. saved_text (get_or core.contents.entries i 0)) (λ t place i r u h p. search rules) in
    let two = puts_join places c.requires.1 definitions in
    let four = puts_join (puts_join two c.requires.1 words) c.requires.1 c.put_counts.ensures in
    let all = puts_wider four 36960 (omega (arith, c.min.ensures, c.min-2.ensures, c.min-3.ensures)) in
    rw (← c.min.ensures, ← c.min-2.ensures, ← c.min-3.ensures) all
