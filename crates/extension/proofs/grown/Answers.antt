-- `extension::grown` meets its contract: the map, and then the words. Assumes nothing.
use native.Mathlib.Omega.{arith}
use mathlib.Core.Path.{refl, ◌∙◌}
use Rattle.block.specs.Extension.{extended_to}
use Rattle.block.proofs.Extension.{extending_facts}
use Rattle.machine.specs.State.{with_set_up}
use Rattle.extension.proofs.Extending.{added_lies, map_room, engine_made}
use borrow.Author.Rules.{rules}
use Rattle.extension.proofs.grown.Goals as goal

pub extend_map-requires : goal.extend_map-requires
extend_map-requires c =
    ((_, c.requires.0, c.requires.1), c.requires.2, map_room _ _ c.args.state.core.setup c.requires.0 c.requires.1 _ (search rules))

pub overflow_sub-last : goal.overflow_sub-last
overflow_sub-last c =
    omega (arith, (extending_facts _ _ c.args.state.core.setup c.requires.1).later)

pub zero_words-requires : goal.zero_words-requires
zero_words-requires c =
    omega (arith, c.words_of.ensures, added_lies _ _ c.args.state.core.setup c.requires.0 c.requires.1)

pub returns : goal.returns
unfolding with_set_up extended_to
returns c =
    engine_made c.args.last c.args.state.width c.args.state.core c.args.state.map _ c.args.storage.now _
    c.extend_map.ensures (c.zero_words.ensures ∙ rw c.words_of.ensures refl)
