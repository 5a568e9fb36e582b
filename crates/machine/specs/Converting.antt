-- Steps that convert, which the round trip of numbers is said of. Document 01: demand 2, "Numbers below 1,000,000, held in whole
-- words, survive conversion to characters and back"; document 02, ticket 9. Assumes nothing.
use Rattle.std.specs.Prelude.{ℕ, ◌+◌, ◌<◌, true, ◌≡◌, length}
use Rattle.word.specs.Word.{is_width}
use Rattle.word.specs.Told.{number}
use Rattle.table.specs.declared.Row.{Row}
use Rattle.table.specs.Row.{length_fits, row_at}
use Rattle.table.specs.Table.{usable}
use Rattle.machine.specs.declared.Location.{Location}
use Rattle.machine.specs.declared.Location.TheVariants.{Bug, Field}
use Rattle.machine.specs.Answer.{passed, told_answer}
use Rattle.machine.specs.State.{is_set_up}
use Rattle.machine.specs.Sound.{Lent, Engine, sound}
use Rattle.machine.specs.Locate.{Value, world, contents, locate, operand}
use Rattle.machine.specs.Step.{step, engine_of}

-- the row of the operation at the engine's place
abbrev pub row_here_of : Lent → Engine → Row
row_here_of l e = row_at l.table e.state.core.place.row

-- a step of words of b bits is one of an operation (a, x) of this code that clears every check before the operation's own: a is
-- located there, and x is what it takes
pub record Clears (b code : ℕ) (l : Lent) (e : Engine) (a : Location) (x : Value) : Type 0 where
  pub is_word : is_width b ≡ true
  pub width : e.state.width ≡ b
  pub is_sound : sound b l e ≡ true
  pub long : length_fits l.table ≡ true
  pub at_operation : e.state.core.place.kind ≡ 1
  pub is_usable : usable 3 b l.table e.state.core.place.row ≡ true
  pub is_code : (row_here_of l e).code ≡ code
  pub is_set : is_set_up e.state.core ≡ true
  pub located : locate b (world e) (row_here_of l e).first ≡ passed a
  pub taken : operand b (world e) (row_here_of l e).second ≡ passed x

-- a whole word: a bug, or a field of all b bits
unfoldable pub Whole : ℕ → Engine → Location → Type 0
Whole b e (Bug x) = x.0 < length e.state.core.bugs
Whole b e (Field address left right) = (left ≡ 0) × (right + 1 ≡ b)

-- what stands at a location once the step is done
unfoldable pub left : ℕ → Lent → Engine → Location → ℕ
left b l e a = contents b (world (engine_of (step l e))) a

-- a step that is not refused leaves this number at a location
pub record Leaves (b : ℕ) (l : Lent) (e : Engine) (a : Location) (v : ℕ) : Type 0 where
  pub is_done : number (told_answer (step l e).stepped.answer) ≡ 0
  pub holds : left b l e a ≡ v
