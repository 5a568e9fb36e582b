-- What a step that is not refused brings about: the state after it, its report, and what a set-up or a print adds to that.
-- Document 01: "Steps" and "Fields and references". Assumes nothing.
use Rattle.std.specs.Prelude.{ℕ, ◌%◌, ◌^◌, cond, List, [], eqb, replicate}
use Rattle.word.specs.Field.{width, kept}
use Rattle.machine.specs.declared.Core.{Core}
use Rattle.machine.specs.declared.State.{State}
use Rattle.machine.specs.declared.Location.{Location}
use Rattle.machine.specs.declared.Location.TheVariants.{Bug, Field}
use Rattle.machine.specs.declared.Store.{Store}
use Rattle.machine.specs.declared.Report.{Report}
use Rattle.machine.specs.State.{with_bug, on_core, with_width}
use Rattle.machine.specs.Storage.{no_store_of, no_report, placed, after_report}
use Rattle.machine.specs.Sound.{Engine}

pub record Effects : Type 0 where
  pub state : State
  pub report : Report
  -- how many words, from the first, a set-up zeroes
  pub zeroed : ℕ
  -- the characters that a print writes
  pub printed : List ℕ

-- a change of the state alone
unfoldable pub quietly : State → Effects
quietly s = record { state = s; report = no_report; zeroed = 0; printed = [] }

-- a change of the state, with a report
unfoldable pub reporting : Report → State → Effects
reporting r s = record { state = s; report = r; zeroed = 0; printed = [] }

-- a store's part in the state: a bug's word is replaced, keeping the value's rightmost b bits
unfoldable pub assigned : ℕ → Location → ℕ → Core → Core
assigned b (Bug x) v c = with_bug x (v % 2 ^ b) c
assigned b (Field address left right) v c = c

-- a store's part in the report: zero where it goes to a bug or a null field
unfoldable pub store_to : Location → ℕ → Store
store_to (Bug x) v = no_store_of
store_to (Field address left right) v =
    cond (eqb (width left right) 0) no_store_of (record { address = address; left = left; right = right; bits = kept left right v })

-- one store and nothing else
unfoldable pub storing : ℕ → Location → ℕ → State → Effects
storing b at v s =
    reporting (record { freed = 0; delivered = 0; size = 0; copied = 0; first = store_to at v; second = no_store_of })
    (on_core (assigned b at v) s)

-- the storage after the effects: a set-up zeroes its words, and all else is as reported
unfoldable pub storage_after : ℕ → Effects → List ℕ → List ℕ
storage_after b x ws = after_report b x.state.core.setup.s1 x.report (placed 0 (replicate x.zeroed 0) ws)

-- the engine after the effects: its width stays
unfoldable pub engine_after : ℕ → Effects → Engine → Engine
engine_after b x e = record { state = with_width e.state.width x.state; storage = storage_after b x e.storage }
