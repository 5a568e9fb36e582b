-- `inventory::put_listing` meets its contract: its parts, the last first. Assumes nothing.
use native.Mathlib.Omega.{arith}
use Prim.Native.Nat.{◌<◌}
use Rattle.inventory.specs.Inventory.{stored_text, storage_text, listing}
use Rattle.inventory.proofs.Pieces.{puts_join, puts_room, puts_wider}
use borrow.Author.Rules.{rules}
use Rattle.inventory.proofs.put_listing.Goals as goal

pub put_stacks-stacks-requires : goal.put_stacks-stacks-requires
put_stacks-stacks-requires c = (omega (arith, c.requires.0), search rules)

pub put_each-blocks-requires : goal.put_each-blocks-requires
put_each-blocks-requires c =
    let room = puts_room c.put_stacks-stacks.ensures 400000 (omega (arith, c.requires.0)) in
    record {
      room = (omega (arith, c.min.ensures), search rules);
      calls = λ t place i h k l. let few : i < 4096 = omega (arith, c.min.ensures) in search rules;
      lines = (stored_text c.args.state.now.core.setup.s1 c.args.state.now.map c.args.storage.now, λ t place i r u h p. search rules);
    }

pub put_head-requires : goal.put_head-requires
put_head-requires c =
    let room = puts_room c.put_stacks-stacks.ensures 400000 (omega (arith, c.requires.0)) in (omega (arith, c.min.ensures), search rules)

pub returns : goal.returns
unfolding listing storage_text
returns c =
    let s = c.args.state.now in
    let blocks = c.put_each-blocks.ensures.text_after (stored_text s.core.setup.s1 s.map c.args.storage.now) (λ t place i r u h p. search rules) in
    let two = puts_join c.put_stacks-stacks.ensures c.requires.1 blocks in
    let all = puts_wider (puts_join two c.requires.1 c.put_head.ensures) 440000 (omega (arith, c.min.ensures)) in
    rw (← c.words_of.ensures, ← c.min.ensures) all
