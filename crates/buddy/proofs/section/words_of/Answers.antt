-- `words_of` counts the set-up words. Assumes nothing.
use Rattle.std.proofs.Common.{sym, arith}
use Rattle.block.proofs.Size.{words_set, words_none}
use Rattle.buddy.proofs.section.words_of.Goals as goal

pub returns-then-setup-eq0 : goal.returns-then-setup-eq0
returns-then-setup-eq0 c = sym (words_none c.args.setup c.if-setup-eq0.true)

pub returns-then-setup : goal.returns-then-setup
returns-then-setup c = omega (arith, words_set c.args.setup (omega arith))

pub returns : goal.returns
returns c = omega (arith, words_set c.args.setup (omega arith))
