-- The 6,676 bytes of a state: fixed places, numbers low byte first. Every list of that many bytes is that of a state, sound or not.
-- Assumes nothing.
use Rattle.std.specs.Prelude.{ℕ, not, cond, List, ◌++◌, eqb, take, drop}
use Rattle.octets.specs.Octets.{low_first, bytes_of}
use Rattle.machine.specs.declared.Place.{Place}
use Rattle.machine.specs.declared.Definition.{Definition}
use Rattle.machine.specs.declared.Core.{Core}
use Rattle.machine.specs.declared.State.{State}
use Rattle.layout.specs.Records.{number_at, bytes_of_all, records_of}

-- how many bytes a state has
abbrev pub state_length : ℕ
state_length = 6676

-- a place: its kind in one byte, row and line in two
unfoldable pub bytes_of_place : Place → List ℕ
bytes_of_place p = bytes_of 1 p.kind ++ (bytes_of 2 p.row ++ bytes_of 2 p.line)

unfoldable pub place_of : List ℕ → Place
place_of bytes = record { kind = number_at 0 1 bytes; row = number_at 1 2 bytes; line = number_at 3 2 bytes }

-- a definition: 1 where it is defined and 0 where not, then word, left and right; any byte but 0 reads as defined
unfoldable pub bytes_of_definition : Definition → List ℕ
bytes_of_definition x =
    bytes_of 1 (cond x.defined 1 0) ++ (bytes_of 1 x.word ++ (bytes_of 1 x.left ++ bytes_of 1 x.right))

unfoldable pub definition_of : List ℕ → Definition
definition_of bytes =
    record {
      defined = not (eqb (number_at 0 1 bytes) 0);
      word = number_at 1 1 bytes;
      left = number_at 2 1 bytes;
      right = number_at 3 1 bytes;
    }

-- what stands before the bugs: the place, how much is taken and written, the set-up's numbers, the stacks' counts
unfoldable pub bytes_of_numbers : Core → List ℕ
bytes_of_numbers c =
    bytes_of_place c.place
    ++ (bytes_of 8 c.taken
    ++ (bytes_of 8 c.written
    ++ (bytes_of 2 c.setup.d
    ++ (bytes_of 2 c.setup.s1
    ++ (bytes_of 2 c.setup.s2
    ++ (bytes_of 8 c.contents.count
    ++ (bytes_of 8 c.saved.count ++ bytes_of 8 c.calls.count)))))))

-- and before the map: bugs, saved contents, definitions, saved definitions, saved places
unfoldable pub bytes_of_arrays : Core → List ℕ
bytes_of_arrays c =
    bytes_of_all (bytes_of 8) c.bugs
    ++ (bytes_of_all (bytes_of 8) c.contents.entries
    ++ (bytes_of_all bytes_of_definition c.definitions
    ++ (bytes_of_all bytes_of_definition c.saved.entries ++ bytes_of_all bytes_of_place c.calls.entries)))

-- the bytes of a state: the width comes last
unfoldable pub bytes_of_state : State → List ℕ
bytes_of_state s =
    bytes_of_numbers s.core ++ (bytes_of_arrays s.core ++ (bytes_of_all (bytes_of 1) s.map ++ bytes_of 1 s.width))

-- the state of these bytes
unfoldable pub state_of : List ℕ → State
state_of bytes =
    record {
      width = number_at 6675 1 bytes;
      core = record {
        place = place_of (take 5 bytes);
        taken = number_at 5 8 bytes;
        written = number_at 13 8 bytes;
        setup = record { d = number_at 21 2 bytes; s1 = number_at 23 2 bytes; s2 = number_at 25 2 bytes };
        bugs = records_of low_first 8 26 (drop 51 bytes);
        contents = record { entries = records_of low_first 8 128 (drop 259 bytes); count = number_at 27 8 bytes };
        definitions = records_of definition_of 4 36 (drop 1283 bytes);
        saved = record { entries = records_of definition_of 4 128 (drop 1427 bytes); count = number_at 35 8 bytes };
        calls = record { entries = records_of place_of 5 128 (drop 1939 bytes); count = number_at 43 8 bytes };
      };
      map = records_of low_first 1 4096 (drop 2579 bytes);
    }
