-- More storage while a tour runs: between steps a host gives a new last address. What it comes to is determined by the address and
-- the engine; no table, input or output bears on it.
-- Document 02: tickets 11 and 9. Assumes nothing.
use Rattle.std.specs.Prelude.{ℕ, ◌-◌, Bool, true, false, cond, List, length, replicate, Result, Ok, Err}
use Rattle.word.specs.Word.{is_width}
use Rattle.word.specs.Told.{Told, gives, refuses}
use Rattle.block.specs.SetUp.{words}
use Rattle.block.specs.Extension.{extended_to, extending, extended_map}
use Rattle.machine.specs.declared.ExtensionError.{ExtensionError}
use Rattle.machine.specs.declared.ExtensionError.TheVariants.{NoWidth, Unsound, BeforeSetUp, LastAddress}
use Rattle.machine.specs.declared.Extended.{Extended}
use Rattle.machine.specs.State.{is_set_up, with_set_up, on_core, with_map}
use Rattle.machine.specs.Storage.{placed}
use Rattle.machine.specs.Sound.{Engine, sound_engine}

-- an extension's answer in numbers: that it is done, or the refusal
unfoldable pub told_extension : Result (Unit {0}) ExtensionError → Told (Unit {0})
told_extension (Ok _) = gives tt
told_extension (Err NoWidth) = refuses 31
told_extension (Err Unsound) = refuses 11
told_extension (Err BeforeSetUp) = refuses 12
told_extension (Err LastAddress) = refuses 32

unfoldable pub is_done : Result (Unit {0}) ExtensionError → Bool
is_done (Ok _) = true
is_done (Err _) = false

-- what an extension leaves: what it returns, and the lent storage
pub record Extension : Type 0 where
  pub extended : Extended
  pub storage : List ℕ

-- one that is refused changes nothing
unfoldable pub not_extended : Result (Unit {0}) ExtensionError → Engine → Extension
not_extended answer e = record { extended = record { state = e.state; answer = answer }; storage = e.storage }

-- the engine with more words: those added are zeroed and become free blocks of size d, and all else stays
unfoldable pub engine_extended : ℕ → Engine → Engine
engine_extended last e =
    let u = e.state.core.setup in
    record {
      state = with_map (extended_map last u e.state.map) (on_core (with_set_up (extended_to last u)) e.state);
      storage = placed (words u) (replicate (last - u.s2) 0) e.storage;
    }

-- any other leaves that engine
unfoldable pub extended_by : ℕ → Engine → Extension
extended_by last e =
    record {
      extended = record { state = (engine_extended last e).state; answer = Ok tt };
      storage = (engine_extended last e).storage;
    }

-- an extension of words of b bits to a new last address, in the order 11 (input and output counts aside), 12, 32; in a finished
-- engine too
unfoldable pub extend_at : ℕ → ℕ → Engine → Extension
extend_at b last e =
    cond (sound_engine b e)
    (cond (is_set_up e.state.core)
    (cond (extending (length e.storage) last e.state.core.setup) (extended_by last e) (not_extended (Err LastAddress) e))
    (not_extended (Err BeforeSetUp) e))
    (not_extended (Err Unsound) e)

-- an extension: it goes by the state's width, and is refused by 31, before anything else, where that is none
unfoldable pub extend : ℕ → Engine → Extension
extend last e = cond (is_width e.state.width) (extend_at e.state.width last e) (not_extended (Err NoWidth) e)

-- what it answers in numbers, in the order 31, 11, 12, 32
unfoldable pub extend_told : ℕ → Engine → Told (Unit {0})
extend_told last e =
    let b = e.state.width in
    cond (is_width b)
    (cond (sound_engine b e)
    (cond (is_set_up e.state.core)
    (cond (extending (length e.storage) last e.state.core.setup) (gives tt) (refuses 32))
    (refuses 12))
    (refuses 11))
    (refuses 31)

-- the engine that an extension leaves
unfoldable pub engine_left : Extension → Engine
engine_left x = record { state = x.extended.state; storage = x.storage }
