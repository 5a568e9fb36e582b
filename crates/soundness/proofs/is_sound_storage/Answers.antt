-- `soundness::is_sound_storage` meets its contract: each return by the set-up's numbers. Assumes nothing.
use mathlib.Core.Bool.{◌||◌}
use mathlib.Core.Path.{ap₂}
use borrow.Author.Rules.{rules}
use borrow.Author.Tests.{not-true, not-false}
use Rattle.word.proofs.Tests.{known_true}
use Rattle.operands.proofs.Readable.{numbers_room}
use Rattle.soundness.proofs.Stored.{not_known, is_known}
use Rattle.soundness.proofs.is_sound_storage.Goals as goal

pub returns-then-not-known : goal.returns-then-not-known
returns-then-not-known c =
    not_known _ _ _ _ _ (ap₂ ◌||◌ c.fits-fitting.ensures c.is_absent.ensures) (not-true _ c.if-not-known.true-raw)

pub are_set_up_words-requires : goal.are_set_up_words-requires
are_set_up_words-requires c =
    (search rules, numbers_room _ _ (known_true (ap₂ ◌||◌ c.fits-fitting.ensures c.is_absent.ensures) c.if-not-known.false-raw))

pub returns : goal.returns
returns c =
    is_known _ _ _ _ _ (ap₂ ◌||◌ c.fits-fitting.ensures c.is_absent.ensures) (not-false _ c.if-not-known.false-raw)
    c.keeps_section.ensures c.are_set_up_words.ensures
