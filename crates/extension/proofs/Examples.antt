-- Extensions of the worked example's engine, which has finished with d = 8, s1 = 8, s2 = 23 over 4,096 words. The checker computes each.
-- Assumes nothing.
use Prim.Native.Nat.{ℕ}
use mathlib.Core.List.{[], ◌∷◌, map}
use mathlib.Core.Path.{◌≡◌, refl}
use lib.ListN.{take, replicate}
use Rattle.word.specs.Told.{number}
use Rattle.block.specs.Map.{free}
use Rattle.block.specs.Extension.{extended_to, extending, extended_map}
use Rattle.machine.specs.State.{fresh}
use Rattle.machine.specs.Sound.{Engine}
use Rattle.machine.specs.Step.{engine_ran}
use Rattle.machine.specs.Bench.{tour, tour_run}
use Rattle.machine.specs.Extend.{told_extension, not_extended, engine_extended, extended_by, extend_at, extend, engine_left}
use Rattle.machine.proofs.Computing.{computing}

-- the finished engine, with 7 in every word
unfoldable pub finished : Engine
finished = record { state = (engine_ran (tour_run tour [])).state; storage = replicate 4096 7 }

-- the answer's number at a last address
unfoldable pub answered : ℕ → ℕ
answered last = number (told_extension (extend last finished).extended.answer)

-- one block more, all words that there may be, and none; half a block, an earlier address, a block too many
pub answers : map answered (31 ∷ 4103 ∷ 23 ∷ 27 ∷ 15 ∷ 4111 ∷ []) ≡ 0 ∷ 0 ∷ 32 ∷ 32 ∷ 32 ∷ 32 ∷ []
unfolding computing answered finished told_extension number extend_at extend extending extended_to extended_by not_extended engine_ran
answers = refl

-- before a set-up
pub early : number (told_extension (extend 31 (record { state = fresh 36; storage = replicate 4096 7 })).extended.answer) ≡ 12
unfolding computing told_extension number extend_at extend not_extended
early = refl

-- after one block more: three free blocks, the sixteen words as they were, eight zeros, and then what stood there
pub one_more : let e = engine_left (extend 31 finished) in
    (free e.state.core.setup e.state.map
    ≡ record { address = 8; size = 8 } ∷ record { address = 16; size = 8 } ∷ record { address = 24; size = 8 } ∷ [])
    × (take 26 e.storage ≡ 7 ∷ 7 ∷ 7 ∷ 7 ∷ 7 ∷ 7 ∷ 7 ∷ 7 ∷ 7 ∷ 7 ∷ 7 ∷ 7 ∷ 7 ∷ 7 ∷ 7 ∷ 7 ∷ 0 ∷ 0 ∷ 0 ∷ 0 ∷ 0 ∷ 0 ∷ 0 ∷ 0 ∷ 7 ∷ 7 ∷ [])
unfolding computing finished extend_at extend extending extended_to extended_map engine_extended extended_by engine_left engine_ran
one_more = (refl, refl)

-- of a width that is none
pub no_width : number (told_extension (extend 31 (record { state = fresh 40; storage = replicate 4096 7 })).extended.answer) ≡ 31
unfolding computing told_extension number extend not_extended
no_width = refl
