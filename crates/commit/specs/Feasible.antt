-- An action that can be carried out. Assumes nothing.
use Rattle.std.specs.Prelude.{◌≡◌, ℕ, ◌+◌, ◌<◌, ◌≤◌, true, ◌⊎◌, List, length, ◌≢◌}
use Rattle.block.specs.declared.SetUp.{SetUp}
use Rattle.block.specs.Blocks.{size, size_at}
use Rattle.block.specs.SetUp.{top, words, fitting}
use Rattle.block.specs.Map.{live}
use Rattle.machine.specs.declared.Location.{Location}
use Rattle.machine.specs.Answer.{passed}
use Rattle.operands.specs.Reading.{Reached}
use Rattle.operations.specs.declared.Counts.{Counts}
use Rattle.operations.specs.Deeds.{Deed}
use Rattle.operations.specs.Deeds.{Nothing, Store, StoreTwo, SetUpWords, Define, Deliver, DeliverTwo, Free, Input, Print, Save}
use Rattle.operations.specs.Deeds.{Restore}
use Rattle.operations.specs.Deeds.{SaveDefinition, RestoreDefinition, Call, Return}
use Rattle.machine.specs.Operations.{lowest_run}

-- what an action is carried out on: set-up numbers, map and storage, how far stacks, input and output are used, and the lengths of
-- input and output
pub record Ground : Type 0 where
  pub setup : SetUp
  pub map : List ℕ
  pub storage : List ℕ
  pub counts : Counts
  pub given : ℕ
  pub room : ℕ

abbrev pub ground : SetUp → List ℕ → List ℕ → Counts → ℕ → ℕ → Ground
ground setup map storage counts given room =
    record { setup = setup; map = map; storage = storage; counts = counts; given = given; room = room }

-- where no stack, input or output is used
abbrev pub ground_of : SetUp → List ℕ → List ℕ → Ground
ground_of setup map storage = ground setup map storage (record { contents = 0; saved = 0; calls = 0; taken = 0; written = 0 }) 0 0

-- the lowest aligned run of one of the sizes
pub record Run (g : Ground) (address n : ℕ) : Type 0 where
  pub fits : fitting (length g.storage) g.setup ≡ true
  pub place : ℕ
  pub low : place ≤ top g.setup.d
  pub is_size : n ≡ size place
  pub is_lowest : lowest_run g.setup g.map n ≡ passed address

-- a block that is copied lies in the set-up words, clear of the new one
pub record Copy (g : Ground) (address n from : ℕ) : Type 0 where
  pub low : g.setup.s1 ≤ from
  pub high : from + n ≤ g.setup.s1 + words g.setup
  pub clear : (from + n ≤ address) ⊎ (address + n ≤ from)

abbrev pub ReachedIn : ℕ → Ground → Location → Type 0
ReachedIn b g at = Reached b g.setup.s1 g.storage at

-- each action by what it reaches, and which stack entries it uses
unfoldable pub Feasible : ℕ → Ground → Deed → Type 0
Feasible b g Nothing = Unit {0}
Feasible b g (Store at v) = ReachedIn b g at
Feasible b g (StoreTwo a v c x) = ReachedIn b g a × ReachedIn b g c
Feasible b g (SetUpWords u) = (fitting (length g.storage) u ≡ true) × (words u ≤ length g.map)
Feasible b g (Define f x) = f.0 < 36
Feasible b g (Deliver address n from a) = Run g address n × ((from ≢ 0) → Copy g address n from) × ReachedIn b g a
Feasible b g (DeliverTwo address n a a2 v) = Run g address n × ReachedIn b g a × ReachedIn b g a2
Feasible b g (Free address at v) =
    ReachedIn b g at × (size_at address (live g.setup g.map) ≢ 0)
Feasible b g (Input at v n) = ReachedIn b g at × (g.counts.taken + n ≤ g.given)
Feasible b g (Print n width v) = (width ≤ 64) × (g.counts.written + n ≤ g.room)
Feasible b g (Save v) = g.counts.contents < 128
Feasible b g (Restore at v) = ReachedIn b g at × (0 < g.counts.contents) × (g.counts.contents ≤ 128)
Feasible b g (SaveDefinition f) = (f.0 < 36) × (g.counts.saved < 128)
Feasible b g (RestoreDefinition f) = (f.0 < 36) × (0 < g.counts.saved) × (g.counts.saved ≤ 128)
Feasible b g (Call row) = (row < 65536) × (g.counts.calls < 128)
Feasible b g Return = (0 < g.counts.calls) × (g.counts.calls ≤ 128)

-- an action that can be carried out with these counts
pub record Countable (counts : Counts) (x : Deed) : Type 0 where
  pub width : ℕ
  pub on : Ground
  pub same : on.counts ≡ counts
  pub feasible : Feasible width on x

-- and with an input and an output of these lengths
pub record Counted (counts : Counts) (given room : ℕ) (x : Deed) : Type 0 where
  pub countable : Countable counts x
  pub input : countable.on.given ≡ given
  pub output : countable.on.room ≡ room
