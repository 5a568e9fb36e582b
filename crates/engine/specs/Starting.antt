-- What is judged once before a walk: what its first step answers where it stops there, or that it may be planned. Assumes nothing.
use Rattle.std.specs.Prelude.{◌≡◌, ℕ, Bool, true, false, cond}
use Rattle.word.specs.Told.{Told, gives, refuses}
use Rattle.word.specs.Word.{is_width}
use Rattle.std.specs.Prelude.{Ok}
use Rattle.table.specs.Row.{length_fits}
use Rattle.table.specs.Table.{checked}
use Rattle.machine.specs.State.{is_finished}
use Rattle.machine.specs.Sound.{Lent, Engine, sound}

-- the number of that answer: 31, 11, finished, 1 in this order, and otherwise running
unfoldable pub start_told : Lent → Engine → Told ℕ
start_told l e =
    cond (is_width e.state.width)
    (cond (sound e.state.width l e)
    (cond (is_finished e.state.core.place) (gives 1) (cond (length_fits l.table) (gives 0) (refuses 1)))
    (refuses 11))
    (refuses 31)

-- a sound engine that is not finished, with a table of the right length, which is known to be well-formed or not
pub record Ready (judged : Bool) (l : Lent) (e : Engine) : Type 0 where
  pub wide : is_width e.state.width ≡ true
  pub fits : length_fits l.table ≡ true
  pub formed : judged ≡ true → checked e.state.width l.table ≡ Ok 0
  pub going : is_finished e.state.core.place ≡ false
  pub fine : sound e.state.width l e ≡ true
