-- Lists of steps and extensions from a fresh engine over one storage, what they report, and the book that is fed those reports.
-- The lists are of events, newest first; each event is a step or an extension. Document 01: demand 3 and "The book"; document 02,
-- tickets 9 and 11. Assumes nothing.
use Rattle.std.specs.Prelude.{ℕ, zero, suc, Bool, true, false, cond, List, [], ◌∷◌, ◌≡◌}
use Rattle.word.specs.Word.{is_width}
use Rattle.block.specs.Blocks.{Block}
use Rattle.machine.specs.declared.Answer.{Answer}
use Rattle.machine.specs.declared.Answer.TheVariants.{Running, Finished, Refused}
use Rattle.machine.specs.declared.Report.{Report}
use Rattle.machine.specs.State.{fresh, no_set_up}
use Rattle.machine.specs.Storage.{no_report}
use Rattle.machine.specs.Sound.{Lent, Engine}
use Rattle.machine.specs.Answer.{is_running}
use Rattle.machine.specs.Step.{Outcome, step, engine_of, set_up_at}
use Rattle.machine.specs.Extend.{Extension, is_done, extend, engine_left}
use Rattle.book.specs.Book.{Book, Entry, empty_book, enter, enter_extension}

-- an event: a step, with what was lent to it, the engine before it and what it left; or an extension, with the new last address
-- that was given, the engine before it and what it left
pub data Event : Type 0 where
  stepped : Lent → Engine → Outcome → Event
  extended : ℕ → Engine → Extension → Event

-- these events lead to this engine: the first has a fresh engine of width b, 36 or 48, over the storage ws, each other the state
-- and storage that the one before it left, and each step its own table, input and output, each extension its own last address,
-- refused or not
pub data Leads (b : ℕ) (ws : List ℕ) : List Event → Engine → Type 0 where
  begin : is_width b ≡ true → Leads b ws [] (record { state = fresh b; storage = ws })
  after : {events : List Event} {e : Engine} → Leads b ws events e → (l : Lent)
      → Leads b ws (stepped l e (step l e) ∷ events) (engine_of (step l e))
  after_extension_lem : {events : List Event} {e : Engine} → Leads b ws events e → (last : ℕ)
      → Leads b ws (extended last e (extend last e) ∷ events) (engine_left (extend last e))

-- these events and then the steps of a run, as runFrom takes them
unfoldable pub with_run : ℕ → Lent → Engine → List Event → List Event
with_run zero l e events = events
with_run (suc limit) l e events =
    let o : Outcome = step l e in
    elim (is_running o.stepped.answer) [
      | true ↦
          with_run limit (record { table = l.table; input = l.input; output = o.output }) (engine_of o)
          (stepped l e o ∷ events)
      | false ↦ stepped l e o ∷ events
    ]

unfoldable pub is_refused : Answer → Bool
is_refused Running = false
is_refused Finished = false
is_refused (Refused r) = true

-- what an event reports: an extension nothing
unfoldable pub report_of : Event → Report
report_of (stepped l e o) = o.stepped.report
report_of (extended last e x) = no_report

-- what the book is fed by a step: a refused one enters nothing, any other its report and the set-up's d, s1 and s2
unfoldable pub entry_of : Lent → Engine → Outcome → Entry
entry_of l e o =
    cond (is_refused o.stepped.answer) (record { setup = no_set_up; report = no_report })
    (record { setup = set_up_at l e; report = o.stepped.report })

-- the book after these events: an extension that is refused enters nothing, any other its new last address
unfoldable pub book_after : List Event → Book
book_after [] = empty_book
book_after (stepped l e o ∷ xs) = enter (entry_of l e o) (book_after xs)
book_after (extended last e x ∷ xs) = cond (is_done x.extended.answer) (enter_extension last (book_after xs)) (book_after xs)

-- a block is live by the reports: delivered with this size, and not since freed
pub data LiveBy (x : Block) : List Event → Type 0 where
  delivered : {event : Event} {events : List Event} → (report_of event).delivered ≡ x.address → (report_of event).size ≡ x.size
      → (x.size ≡ 0 → ⊥) → LiveBy x (event ∷ events)
  still : {event : Event} {events : List Event} → ((report_of event).freed ≡ x.address → ⊥) → LiveBy x events
      → LiveBy x (event ∷ events)
