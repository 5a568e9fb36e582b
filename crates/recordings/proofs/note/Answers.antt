-- `recordings::note` meets its contract: the heads it makes are as `note_standing` asks, which answers what is asked. Assumes nothing.
use mathlib.Core.Path.{sym}
use Rattle.recordings.proofs.note.Goals as goal

pub slice_bounds-note_standing-end : goal.slice_bounds-note_standing-end
slice_bounds-note_standing-end c = sym c.no_heads-heads.ensures.0

pub note_standing-requires : goal.note_standing-requires
note_standing-requires c =
    (c.requires.0, c.requires.1, c.no_heads-heads.ensures.1)
