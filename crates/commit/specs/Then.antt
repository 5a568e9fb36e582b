-- An engine of width b by the parts that a run keeps in locals, and the engine after an action. Assumes nothing.
use Rattle.std.specs.Prelude.{ℕ, List}
use Rattle.block.specs.declared.SetUp.{SetUp}
use Rattle.machine.specs.declared.Place.{Place}
use Rattle.machine.specs.declared.Core.{Core}
use Rattle.machine.specs.Sound.{Engine}
use Rattle.operations.specs.declared.Counts.{Counts}
use Rattle.operations.specs.Deeds.{Deed}
use Rattle.operations.specs.Seen.{counts_of}
use Rattle.commit.specs.declared.Records.{Records}
use Rattle.commit.specs.Carried.{bugs_after, entries_after, map_after, words_after, setup_after, counts_after, place_after}
use Rattle.commit.specs.Carried.{records_after}

-- the core by its parts
abbrev pub core_with : Place → List ℕ → Records → List ℕ → Counts → SetUp → Core
core_with place bugs r entries c u =
    record {
      place = place;
      bugs = bugs;
      definitions = r.definitions;
      contents = record { entries = entries; count = c.contents };
      saved = record { entries = r.saved; count = c.saved };
      calls = record { entries = r.calls; count = c.calls };
      setup = u;
      taken = c.taken;
      written = c.written;
    }

abbrev pub engine_with : ℕ → Place → List ℕ → Records → List ℕ → Counts → SetUp → List ℕ → List ℕ → Engine
engine_with b place bugs r entries c u map storage =
    record { state = record { width = b; core = core_with place bugs r entries c u; map = map }; storage = storage }

abbrev pub records_of : Core → Records
records_of c = record { definitions = c.definitions; saved = c.saved.entries; calls = c.calls.entries }

-- the engine after an action, at the place that it goes to
abbrev pub engine_then : ℕ → Place → Deed → Engine → Engine
engine_then b to x e =
    let c = e.state.core in
    engine_with e.state.width (place_after x to c.calls.entries c.calls.count) (bugs_after b x c.bugs)
    (records_after x to (counts_of c) (records_of c))
    (entries_after c.contents.count x c.contents.entries)
    (counts_after x (counts_of c))
    (setup_after x c.setup)
    (map_after c.setup x e.state.map)
    (words_after b c.setup.s1 x e.storage)
