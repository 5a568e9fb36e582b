-- Soundness of a state, with the storage, input and output lent to a step: where it fails, refusal 11.
-- Document 01: "From the state", 11, clause by clause. Assumes nothing.
use Rattle.std.specs.Prelude.{ℕ, ◌^◌, Bool, true, ◌&&◌, ◌||◌, not, cond, List, [], ◌∷◌, eqb, leb, ltb, length, take}
use Rattle.block.specs.declared.SetUp.{SetUp}
use Rattle.block.specs.SetUp.{words, fitting, absent}
use Rattle.block.specs.Map.{keeps}
use Rattle.machine.specs.declared.Place.{Place}
use Rattle.machine.specs.declared.Definition.{Definition}
use Rattle.machine.specs.declared.Core.{Core}
use Rattle.machine.specs.declared.State.{State}
use Rattle.machine.specs.State.{is_finished}

-- what a host lends to one step: its table, input and output buffer
pub record Lent : Type 0 where
  pub table : List ℕ
  pub input : List ℕ
  pub output : List ℕ

abbrev pub lends : List ℕ → List ℕ → List ℕ → Lent
lends table input output = record { table = table; input = input; output = output }

-- what goes on from one step to the next: the state and the storage
pub record Engine : Type 0 where
  pub state : State
  pub storage : List ℕ

abbrev pub engine_on : State → List ℕ → Engine
engine_on state storage = record { state = state; storage = storage }

-- every one of these passes a test
unfoldable pub every : {A : Type 0} → (A → Bool) → List A → Bool
every f [] = true
every f (x ∷ xs) = f x && every f xs

-- a place names rows 1-799
unfoldable pub is_row : ℕ → Bool
is_row r = leb 1 r && leb r 799

-- a place in range: at an operation it names the operation's row too, otherwise that number is zero
unfoldable pub is_place : Place → Bool
is_place p =
    is_row p.line
    && cond (eqb p.kind 1) (is_row p.row) (eqb p.row 0 && (eqb p.kind 0 || eqb p.kind 2))

-- a definition in range: word 0-127, left and right bit below b
unfoldable pub in_range : ℕ → ℕ → ℕ → ℕ → Bool
in_range b word left right = leb word 127 && ltb left b && ltb right b

unfoldable pub is_definition : ℕ → Definition → Bool
is_definition b x = not x.defined || in_range b x.word x.left x.right

-- the place is in range, or the engine is finished
unfoldable pub sound_place : Place → Bool
sound_place p = is_place p || (is_finished p && eqb p.row 0 && eqb p.line 0)

-- a stack has at most 128 entries, and each used one passes a test
unfoldable pub sound_stack : {A : Type 0} → (A → Bool) → ℕ → List A → Bool
sound_stack f count entries = leb count 128 && every f (take count entries)

-- the three stacks: words below 2 ^ b, definitions and places in range
unfoldable pub sound_stacks : ℕ → Core → Bool
sound_stacks b c =
    sound_stack (λ x. ltb x (2 ^ b)) c.contents.count c.contents.entries
    && sound_stack (is_definition b) c.saved.count c.saved.entries
    && sound_stack is_place c.calls.count c.calls.entries

-- set-up numbers in range, against the lent storage too, or none yet; blocks that keep their section; set-up words below 2 ^ b
unfoldable pub sound_storage : ℕ → SetUp → List ℕ → List ℕ → Bool
sound_storage b setup map storage =
    (fitting (length storage) setup || absent setup)
    && keeps setup map
    && every (λ x. ltb x (2 ^ b)) (take (words setup) storage)

-- bugs below 2 ^ b, definitions, place and stacks in range
unfoldable pub sound_core : ℕ → Core → Bool
sound_core b c =
    every (λ x. ltb x (2 ^ b)) c.bugs
    && every (is_definition b) c.definitions
    && sound_place c.place
    && sound_stacks b c

-- what of soundness no lent table, input or output bears on
unfoldable pub sound_engine : ℕ → Engine → Bool
sound_engine b e =
    sound_core b e.state.core && sound_storage b e.state.core.setup e.state.map e.storage

-- sound: and the counts are not past the input's or the output's length
unfoldable pub sound : ℕ → Lent → Engine → Bool
sound b l e =
    sound_engine b e
    && leb e.state.core.taken (length l.input)
    && leb e.state.core.written (length l.output)
