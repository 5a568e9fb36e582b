-- The effects that an action stands for, on a state at the place after it. Assumes nothing.
use Rattle.std.specs.Prelude.{ℕ, suc, ◌+◌, ◌-◌, [], length, get_or, set}
use Rattle.character.specs.Character.{printed}
use Rattle.block.specs.SetUp.{words}
use Rattle.block.specs.Map.{fresh_map, freed_map}
use Rattle.machine.specs.declared.State.{State}
use Rattle.machine.specs.State.{undefined, tests_of, the_end, moved_to, with_definition, with_contents, with_saved, with_calls, with_set_up}
use Rattle.machine.specs.State.{with_taken, with_written, on_core, with_map}
use Rattle.machine.specs.Storage.{no_store_of, no_report}
use Rattle.machine.specs.Effects.{Effects, quietly, reporting, assigned, store_to, storing}
use Rattle.machine.specs.Operations.{delivering, and_storing}
use Rattle.operations.specs.Deeds.{Deed}
use Rattle.operations.specs.Deeds.{Nothing, Store, StoreTwo, SetUpWords, Define, Deliver, DeliverTwo, Free, Input, Print}
use Rattle.operations.specs.Deeds.{Save}
use Rattle.operations.specs.Deeds.{Restore, SaveDefinition, RestoreDefinition, Call, Return}

unfoldable pub effects : ℕ → Deed → State → Effects
effects b Nothing s = quietly s
effects b (Store at v) s = storing b at v s
effects b (StoreTwo a v c x) s = and_storing b c x (storing b a v s)
effects b (SetUpWords u) s =
    record {
      state = with_map (fresh_map u (length s.map)) (on_core (with_set_up u) s);
      report = no_report;
      zeroed = words u;
      printed = [];
    }
effects b (Define f x) s = quietly (on_core (with_definition f x) s)
effects b (Deliver address n from a) s = delivering b (record { a = a; words = n; copied = from }) address s
effects b (DeliverTwo address n a a2 v) s = and_storing b a2 v (delivering b (record { a = a; words = n; copied = 0 }) address s)
effects b (Free address at v) s =
    reporting (record { freed = address; delivered = 0; size = 0; copied = 0; first = store_to at v; second = no_store_of })
    (with_map (freed_map address s.core.setup s.map) (on_core (assigned b at v) s))
effects b (Input at v n) s = storing b at v (on_core (with_taken (s.core.taken + n)) s)
effects b (Print n width v) s =
    record {
      state = on_core (with_written (s.core.written + n)) s;
      report = no_report;
      zeroed = 0;
      printed = printed n width v;
    }
effects b (Save v) s =
    quietly
    (on_core
    (with_contents
    (record { entries = set s.core.contents.entries s.core.contents.count v; count = suc s.core.contents.count }))
    s)
effects b (Restore at v) s =
    storing b at v
    (on_core (with_contents (record { entries = s.core.contents.entries; count = s.core.contents.count - 1 })) s)
effects b (SaveDefinition f) s =
    quietly
    (on_core
    (with_saved
    (record {
      entries = set s.core.saved.entries s.core.saved.count (get_or s.core.definitions f.0 undefined);
      count = suc s.core.saved.count;
    }))
    s)
effects b (RestoreDefinition f) s =
    quietly
    (on_core
    (λ c. with_definition f (get_or c.saved.entries (c.saved.count - 1) undefined)
    (with_saved (record { entries = c.saved.entries; count = c.saved.count - 1 }) c))
    s)
effects b (Call row) s =
    quietly
    (on_core
    (λ c. moved_to (tests_of row)
    (with_calls (record { entries = set c.calls.entries c.calls.count c.place; count = suc c.calls.count }) c))
    s)
effects b Return s =
    quietly
    (on_core
    (λ c. moved_to (get_or c.calls.entries (c.calls.count - 1) the_end)
    (with_calls (record { entries = c.calls.entries; count = c.calls.count - 1 }) c))
    s)
