-- `allocations::references::followed` meets its contract. What references rely on: the tests just made. Assumes nothing.
use Rattle.word.proofs.Tests.{known_true}
use Rattle.allocations.proofs.Readable.{tested_readable}
use Rattle.allocations.proofs.references.followed.Goals as goal

pub locate-requires : goal.locate-requires
locate-requires c = (
  tested_readable _ _ _ _ _ (rw (c.from.ensures, c.from-2.ensures, c.from-3.ensures) at (known_true c.fits.ensures c.if-not-fits.false-raw))
      (known_true c.keeps_section.ensures c.if-not-keeps_section.false-raw) c.requires
      (known_true c.are_words.ensures c.if-not-are_words.false-raw),
  known_true c.is_reference.ensures c.if-not-is_reference.false-raw,
)
