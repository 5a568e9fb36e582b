-- What carrying an action out leaves in each part of the engine and in the output. Assumes nothing.
use Rattle.std.specs.Prelude.{ℕ, suc, ◌+◌, ◌-◌, Bool, true, false, cond, List, length, take, drop, replicate, ◌==◌, slice_index_or, slice_set}
use Rattle.character.specs.Character.{printed}
use Rattle.block.specs.declared.SetUp.{SetUp}
use Rattle.block.specs.Blocks.{level}
use Rattle.block.specs.SetUp.{top, words}
use Rattle.block.specs.Map.{fresh_map, freed_map, delivered_map}
use Rattle.machine.specs.declared.Definition.{Definition}
use Rattle.machine.specs.declared.Place.{Place}
use Rattle.machine.specs.State.{undefined, tests_of, the_end}
use Rattle.machine.specs.Storage.{placed}
use Rattle.operands.specs.Storing.{bugs_stored, words_stored}
use Rattle.operations.specs.declared.Counts.{Counts}
use Rattle.operations.specs.Deeds.{Deed}
use Rattle.operations.specs.Deeds.{Nothing, Store, StoreTwo, SetUpWords, Define, Deliver, DeliverTwo, Free, Input, Print, Save}
use Rattle.operations.specs.Deeds.{Restore}
use Rattle.operations.specs.Deeds.{SaveDefinition, RestoreDefinition, Call, Return}
use Rattle.commit.specs.declared.Onward.{Onward}
use Rattle.commit.specs.declared.Records.{Records}

-- the bugs
unfoldable pub bugs_after : ℕ → Deed → List ℕ → List ℕ
bugs_after b (Store at v) bugs = bugs_stored b at v bugs
bugs_after b (StoreTwo a v c x) bugs = bugs_stored b c x (bugs_stored b a v bugs)
bugs_after b (Deliver address n from a) bugs = bugs_stored b a address bugs
bugs_after b (DeliverTwo address n a a2 v) bugs = bugs_stored b a2 v (bugs_stored b a address bugs)
bugs_after b (Free address at v) bugs = bugs_stored b at v bugs
bugs_after b (Input at v n) bugs = bugs_stored b at v bugs
bugs_after b (Restore at v) bugs = bugs_stored b at v bugs
bugs_after b Nothing bugs = bugs
bugs_after b (SetUpWords u) bugs = bugs
bugs_after b (Define f x) bugs = bugs
bugs_after b (Print n width v) bugs = bugs
bugs_after b (Save v) bugs = bugs
bugs_after b (SaveDefinition f) bugs = bugs
bugs_after b (RestoreDefinition f) bugs = bugs
bugs_after b (Call row) bugs = bugs
bugs_after b Return bugs = bugs

-- the entries of the contents stack
unfoldable pub entries_after : ℕ → Deed → List ℕ → List ℕ
entries_after count (Save v) l = slice_set l count v
entries_after count Nothing l = l
entries_after count (Store at v) l = l
entries_after count (StoreTwo a v c x) l = l
entries_after count (SetUpWords u) l = l
entries_after count (Define f x) l = l
entries_after count (Deliver address n from a) l = l
entries_after count (DeliverTwo address n a a2 v) l = l
entries_after count (Free address at v) l = l
entries_after count (Input at v n) l = l
entries_after count (Print n width v) l = l
entries_after count (Restore at v) l = l
entries_after count (SaveDefinition f) l = l
entries_after count (RestoreDefinition f) l = l
entries_after count (Call row) l = l
entries_after count Return l = l

-- the block map
unfoldable pub map_after : SetUp → Deed → List ℕ → List ℕ
map_after u (SetUpWords w) m = fresh_map w (length m)
map_after u (Deliver address n from a) m = delivered_map (level (top u.d) n) address u m
map_after u (DeliverTwo address n a a2 v) m = delivered_map (level (top u.d) n) address u m
map_after u (Free address at v) m = freed_map address u m
map_after u Nothing m = m
map_after u (Store at v) m = m
map_after u (StoreTwo a v c x) m = m
map_after u (Define f x) m = m
map_after u (Input at v n) m = m
map_after u (Print n width v) m = m
map_after u (Save v) m = m
map_after u (Restore at v) m = m
map_after u (SaveDefinition f) m = m
map_after u (RestoreDefinition f) m = m
map_after u (Call row) m = m
map_after u Return m = m

-- a block's words: zero, and then a copy of those from an address on, if it is not zero
unfoldable pub zeroed : ℕ → ℕ → ℕ → List ℕ → List ℕ
zeroed s1 address n ws = placed (address - s1) (replicate n 0) ws

unfoldable pub copied : ℕ → ℕ → ℕ → ℕ → List ℕ → List ℕ
copied s1 address n from ws = cond (from == 0) ws (placed (address - s1) (take n (drop (from - s1) ws)) ws)

-- the storage
unfoldable pub words_after : ℕ → ℕ → Deed → List ℕ → List ℕ
words_after b s1 (Store at v) ws = words_stored b s1 at v ws
words_after b s1 (StoreTwo a v c x) ws = words_stored b s1 c x (words_stored b s1 a v ws)
words_after b s1 (SetUpWords u) ws = placed 0 (replicate (words u) 0) ws
words_after b s1 (Deliver address n from a) ws = words_stored b s1 a address (copied s1 address n from (zeroed s1 address n ws))
words_after b s1 (DeliverTwo address n a a2 v) ws = words_stored b s1 a2 v (words_stored b s1 a address (zeroed s1 address n ws))
words_after b s1 (Free address at v) ws = words_stored b s1 at v ws
words_after b s1 (Input at v n) ws = words_stored b s1 at v ws
words_after b s1 (Restore at v) ws = words_stored b s1 at v ws
words_after b s1 Nothing ws = ws
words_after b s1 (Define f x) ws = ws
words_after b s1 (Print n width v) ws = ws
words_after b s1 (Save v) ws = ws
words_after b s1 (SaveDefinition f) ws = ws
words_after b s1 (RestoreDefinition f) ws = ws
words_after b s1 (Call row) ws = ws
words_after b s1 Return ws = ws

-- the output
unfoldable pub output_after : ℕ → Deed → List ℕ → List ℕ
output_after written (Print n width v) out = placed written (printed n width v) out
output_after written Nothing out = out
output_after written (Store at v) out = out
output_after written (StoreTwo a v c x) out = out
output_after written (SetUpWords u) out = out
output_after written (Define f x) out = out
output_after written (Deliver address n from a) out = out
output_after written (DeliverTwo address n a a2 v) out = out
output_after written (Free address at v) out = out
output_after written (Input at v n) out = out
output_after written (Save v) out = out
output_after written (Restore at v) out = out
output_after written (SaveDefinition f) out = out
output_after written (RestoreDefinition f) out = out
output_after written (Call row) out = out
output_after written Return out = out

-- the set-up numbers
unfoldable pub setup_after : Deed → SetUp → SetUp
setup_after (SetUpWords w) u = w
setup_after Nothing u = u
setup_after (Store at v) u = u
setup_after (StoreTwo a v c x) u = u
setup_after (Define f x) u = u
setup_after (Deliver address n from a) u = u
setup_after (DeliverTwo address n a a2 v) u = u
setup_after (Free address at v) u = u
setup_after (Input at v n) u = u
setup_after (Print n width v) u = u
setup_after (Save v) u = u
setup_after (Restore at v) u = u
setup_after (SaveDefinition f) u = u
setup_after (RestoreDefinition f) u = u
setup_after (Call row) u = u
setup_after Return u = u

-- how far stacks, input and output are used
abbrev pub counting : ℕ → ℕ → ℕ → ℕ → ℕ → Counts
counting contents saved calls taken written =
    record { contents = contents; saved = saved; calls = calls; taken = taken; written = written }

unfoldable pub counts_after : Deed → Counts → Counts
counts_after (Input at v n) c = counting c.contents c.saved c.calls (c.taken + n) c.written
counts_after (Print n width v) c = counting c.contents c.saved c.calls c.taken (c.written + n)
counts_after (Save v) c = counting (suc c.contents) c.saved c.calls c.taken c.written
counts_after (Restore at v) c = counting (c.contents - 1) c.saved c.calls c.taken c.written
counts_after (SaveDefinition f) c = counting c.contents (suc c.saved) c.calls c.taken c.written
counts_after (RestoreDefinition f) c = counting c.contents (c.saved - 1) c.calls c.taken c.written
counts_after (Call row) c = counting c.contents c.saved (suc c.calls) c.taken c.written
counts_after Return c = counting c.contents c.saved (c.calls - 1) c.taken c.written
counts_after Nothing c = c
counts_after (Store at v) c = c
counts_after (StoreTwo a v x y) c = c
counts_after (SetUpWords u) c = c
counts_after (Define f x) c = c
counts_after (Deliver address n from a) c = c
counts_after (DeliverTwo address n a a2 v) c = c
counts_after (Free address at v) c = c

-- the place, where the action goes to one
unfoldable pub place_after : Deed → Place → List Place → ℕ → Place
place_after (Call row) to calls count = tests_of row
place_after Return to calls count = slice_index_or calls (count - 1) the_end
place_after Nothing to calls count = to
place_after (Store at v) to calls count = to
place_after (StoreTwo a v c x) to calls count = to
place_after (SetUpWords u) to calls count = to
place_after (Define f x) to calls count = to
place_after (Deliver address n from a) to calls count = to
place_after (DeliverTwo address n a a2 v) to calls count = to
place_after (Free address at v) to calls count = to
place_after (Input at v n) to calls count = to
place_after (Print n width v) to calls count = to
place_after (Save v) to calls count = to
place_after (Restore at v) to calls count = to
place_after (SaveDefinition f) to calls count = to
place_after (RestoreDefinition f) to calls count = to

-- the definitions, saved definitions and saved places
abbrev pub recording : List Definition → List Definition → List Place → Records
recording definitions saved calls = record { definitions = definitions; saved = saved; calls = calls }

unfoldable pub records_after : Deed → Place → Counts → Records → Records
records_after (Define f x) to c r = recording (slice_set r.definitions f.0 x) r.saved r.calls
records_after (SaveDefinition f) to c r =
    recording r.definitions (slice_set r.saved c.saved (slice_index_or r.definitions f.0 undefined)) r.calls
records_after (RestoreDefinition f) to c r =
    recording (slice_set r.definitions f.0 (slice_index_or r.saved (c.saved - 1) undefined)) r.saved r.calls
records_after (Call row) to c r = recording r.definitions r.saved (slice_set r.calls c.calls to)
records_after Nothing to c r = r
records_after (Store at v) to c r = r
records_after (StoreTwo a v x y) to c r = r
records_after (SetUpWords u) to c r = r
records_after (Deliver address n from a) to c r = r
records_after (DeliverTwo address n a a2 v) to c r = r
records_after (Free address at v) to c r = r
records_after (Input at v n) to c r = r
records_after (Print n width v) to c r = r
records_after (Save v) to c r = r
records_after (Restore at v) to c r = r
records_after Return to c r = r

-- the actions that change a place by the calls, or one of these three
unfoldable pub is_recorded : Deed → Bool
is_recorded Nothing = false
is_recorded (Store at v) = false
is_recorded (StoreTwo a v c x) = false
is_recorded (SetUpWords u) = false
is_recorded (Define f x) = true
is_recorded (Deliver address n from a) = false
is_recorded (DeliverTwo address n a a2 v) = false
is_recorded (Free address at v) = false
is_recorded (Input at v n) = false
is_recorded (Print n width v) = false
is_recorded (Save v) = false
is_recorded (Restore at v) = false
is_recorded (SaveDefinition f) = true
is_recorded (RestoreDefinition f) = true
is_recorded (Call row) = true
is_recorded Return = true

-- where an action leads besides: set-up numbers, counts, and whether it is one of these
abbrev pub onward : Deed → SetUp → Counts → Onward
onward x u c = record { setup = setup_after x u; counts = counts_after x c; recorded = is_recorded x }
