-- l6_extend: what it answers, and what it leaves in the memory lent to it. Document 02, tickets 9 and 11. Assumes nothing.
use Rattle.std.specs.Prelude.{ℕ, cond, List, eqb, length}
use Rattle.word.specs.Told.{number}
use Rattle.machine.specs.Extend.{Extension, told_extension, is_done, extend}
use Rattle.layout.specs.Layout.{state_length, bytes_of_state}
use Rattle.player.specs.Calls.{wrong_state, engine_at}

pub record ExtendLeft : Type 0 where
  pub answer : ℕ
  pub storage : List ℕ
  pub state : List ℕ

-- 0, or the number of the refusal; the state's bytes are written anew only where nothing is refused
unfoldable pub after_extension : List ℕ → Extension → ExtendLeft
after_extension bytes x =
    record {
      answer = number (told_extension x.extended.answer);
      storage = x.storage;
      state = cond (is_done x.extended.answer) (bytes_of_state x.extended.state) bytes;
    }

unfoldable pub extend_left : ℕ → List ℕ → List ℕ → ExtendLeft
extend_left last storage bytes =
    cond (eqb (length bytes) state_length) (after_extension bytes (extend last (engine_at bytes storage)))
    (record { answer = wrong_state; storage = storage; state = bytes })
