-- What a plan sees of an engine and of what is lent. Assumes nothing.
use Rattle.std.specs.Prelude.{ℕ, ◌≤◌, List, length}
use Rattle.machine.specs.declared.Core.{Core}
use Rattle.machine.specs.Sound.{Lent, Engine}
use Rattle.machine.specs.Locate.{World, world}
use Rattle.operands.specs.Reading.{seen, Readable}
use Rattle.operations.specs.declared.Counts.{Counts}
use Rattle.operations.specs.declared.Known.{Known}

-- what references read, how far stacks, input and output are used, the entries of the contents stack, the input, and the output's
-- length
pub record Sight : Type 0 where
  pub world : World
  pub counts : Counts
  pub entries : List ℕ
  pub input : List ℕ
  pub room : ℕ

-- what references read of lent slices
abbrev pub seen_by : Known → List ℕ → List ℕ → List ℕ → List ℕ → World
seen_by known bugs fields map storage = seen bugs fields known.setup map storage

-- of lent slices
abbrev pub sees : Known → List ℕ → List ℕ → List ℕ → List ℕ → List ℕ → List ℕ → Sight
sees known bugs fields map storage entries input =
    record {
      world = seen_by known bugs fields map storage;
      counts = known.counts;
      entries = entries;
      input = input;
      room = known.room;
    }

-- of an engine
abbrev pub counts_of : Core → Counts
counts_of c =
    record {
      contents = c.contents.count;
      saved = c.saved.count;
      calls = c.calls.count;
      taken = c.taken;
      written = c.written;
    }

abbrev pub sight : Lent → Engine → Sight
sight l e =
    record {
      world = world e;
      counts = counts_of e.state.core;
      entries = e.state.core.contents.entries;
      input = l.input;
      room = length l.output;
    }

-- what a plan relies on, and a sound engine has
pub record Ready (b : ℕ) (s : Sight) : Type 0 where
  pub readable : Readable b s.world
  pub contents : s.counts.contents ≤ 128
  pub taken : s.counts.taken ≤ length s.input
  pub written : s.counts.written ≤ s.room
