-- l6_save and l6_load: what they answer, and what they leave in the memory lent to them. Assumes nothing.
use Rattle.std.specs.Prelude.{ℕ, List}
use Rattle.word.specs.Told.{number}
use Rattle.player.specs.Counted.{count_after}
use Rattle.columns.specs.Columns.{Left, saving, loading, told_kept}

-- l6_save
pub record SaveLeft : Type 0 where
  pub answer : ℕ
  pub bytes : List ℕ
  pub count : ℕ

unfoldable pub after_save : ℕ → Left → SaveLeft
after_save count l = record { answer = number (told_kept l.answer); bytes = l.output; count = count_after l.answer count }

unfoldable pub save_left : ℕ → List ℕ → List ℕ → ℕ → SaveLeft
save_left width words bytes count = after_save count (saving width words bytes)

-- l6_load
pub record LoadLeft : Type 0 where
  pub answer : ℕ
  pub words : List ℕ

unfoldable pub after_load : Left → LoadLeft
after_load l = record { answer = number (told_kept l.answer); words = l.output }

unfoldable pub load_left : ℕ → List ℕ → ℕ → List ℕ → LoadLeft
load_left width bytes n words = after_load (loading width n bytes words)
