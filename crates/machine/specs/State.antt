-- The engine's state: places, the fresh engine, and each change of one part.
-- Document 01: "Steps"; document 02, ticket 9. Assumes nothing.
use Rattle.std.specs.Prelude.{ℕ, Bool, false, not, cond, List, eqb, set, replicate, Result, Ok, Err}
use Rattle.word.specs.Word.{is_width}
use Rattle.word.specs.Told.{Told, gives, refuses}
use Rattle.block.specs.declared.SetUp.{SetUp}
use Rattle.table.specs.declared.BugLetter.{BugLetter}
use Rattle.table.specs.declared.FieldName.{FieldName}
use Rattle.machine.specs.declared.Place.{Place}
use Rattle.machine.specs.declared.Definition.{Definition}
use Rattle.machine.specs.declared.Stack.{Stack}
use Rattle.machine.specs.declared.Core.{Core}
use Rattle.machine.specs.declared.State.{State}
use Rattle.machine.specs.declared.Fresh.{Fresh}
use Rattle.machine.specs.declared.NoWidth.{NoWidth}

-- a place is a line's tests, one operation (its row and its line's), or a line's exit; or the engine is finished
unfoldable pub tests_of : ℕ → Place
tests_of line = record { kind = 0; row = 0; line = line }

unfoldable pub operation_at : ℕ → ℕ → Place
operation_at row line = record { kind = 1; row = row; line = line }

unfoldable pub exit_of : ℕ → Place
exit_of line = record { kind = 2; row = 0; line = line }

unfoldable pub the_end : Place
the_end = record { kind = 3; row = 0; line = 0 }

unfoldable pub is_finished : Place → Bool
is_finished p = eqb p.kind 3

unfoldable pub undefined : Definition
undefined = record { defined = false; word = 0; left = 0; right = 0 }

unfoldable pub no_set_up : SetUp
no_set_up = record { d = 0; s1 = 0; s2 = 0 }

-- a set-up has happened
unfoldable pub is_set_up : Core → Bool
is_set_up c = not (eqb c.setup.d 0)

-- a fresh engine of width b is at the tests of row 1, with no set-up, definition or stack entry and nothing taken or written; bugs
-- are zero
unfoldable pub fresh : ℕ → State
fresh b =
    record {
      width = b;
      core = record {
        place = tests_of 1;
        bugs = replicate 26 0;
        definitions = replicate 36 undefined;
        contents = record { entries = replicate 128 0; count = 0 };
        saved = record { entries = replicate 128 undefined; count = 0 };
        calls = record { entries = replicate 128 (tests_of 1); count = 0 };
        setup = no_set_up;
        taken = 0;
        written = 0;
      };
      map = replicate 4096 0;
    }

-- one of the width that is asked for: 31 where that is none, and then a state that every call refuses by 31
unfoldable pub fresh_of : ℕ → Fresh
fresh_of b = cond (is_width b) (record { state = fresh b; answer = Ok tt }) (record { state = fresh 0; answer = Err (record {}) })

-- its answer in numbers: that it is made, or 31
unfoldable pub told_fresh : Result (Unit {0}) NoWidth → Told (Unit {0})
told_fresh (Ok _) = gives tt
told_fresh (Err _) = refuses 31

-- a core by its parts, in the order of the struct
abbrev core_of : Place → List ℕ → List Definition → Stack ℕ → Stack Definition → Stack Place → SetUp → ℕ → ℕ → Core
core_of place bugs definitions contents saved calls setup taken written =
    record {
      place = place;
      bugs = bugs;
      definitions = definitions;
      contents = contents;
      saved = saved;
      calls = calls;
      setup = setup;
      taken = taken;
      written = written;
    }

-- the same core with one part changed
unfoldable pub moved_to : Place → Core → Core
moved_to x c = core_of x c.bugs c.definitions c.contents c.saved c.calls c.setup c.taken c.written

unfoldable pub with_bug : BugLetter → ℕ → Core → Core
with_bug x v c = core_of c.place (set c.bugs x.0 v) c.definitions c.contents c.saved c.calls c.setup c.taken c.written

unfoldable pub with_definition : FieldName → Definition → Core → Core
with_definition f x c = core_of c.place c.bugs (set c.definitions f.0 x) c.contents c.saved c.calls c.setup c.taken c.written

unfoldable pub with_contents : Stack ℕ → Core → Core
with_contents x c = core_of c.place c.bugs c.definitions x c.saved c.calls c.setup c.taken c.written

unfoldable pub with_saved : Stack Definition → Core → Core
with_saved x c = core_of c.place c.bugs c.definitions c.contents x c.calls c.setup c.taken c.written

unfoldable pub with_calls : Stack Place → Core → Core
with_calls x c = core_of c.place c.bugs c.definitions c.contents c.saved x c.setup c.taken c.written

unfoldable pub with_set_up : SetUp → Core → Core
with_set_up x c = core_of c.place c.bugs c.definitions c.contents c.saved c.calls x c.taken c.written

unfoldable pub with_taken : ℕ → Core → Core
with_taken n c = core_of c.place c.bugs c.definitions c.contents c.saved c.calls c.setup n c.written

unfoldable pub with_written : ℕ → Core → Core
with_written n c = core_of c.place c.bugs c.definitions c.contents c.saved c.calls c.setup c.taken n

-- the same state with its core changed, its map, or its width
unfoldable pub on_core : (Core → Core) → State → State
on_core f s = record { width = s.width; core = f s.core; map = s.map }

unfoldable pub with_map : List ℕ → State → State
with_map m s = record { width = s.width; core = s.core; map = m }

abbrev pub with_width : ℕ → State → State
with_width b s = record { width = b; core = s.core; map = s.map }
