-- Rooms closed in either order: tours whose engines have come to the same set-up numbers and live blocks have the same free blocks,
-- and what both are asked in the same order they answer the same.
-- Document 02: tickets 9 and 14. Assumes nothing.
use Rattle.std.specs.Prelude.{ℕ, ◌&&◌, cond, List, [], ◌∷◌, ◌++◌, map, ◌⊎◌, ◌≡◌, eqb}
use Rattle.block.specs.Map.{free}
use Rattle.table.specs.Row.{row_at}
use Rattle.machine.specs.declared.Answer.{Answer}
use Rattle.machine.specs.declared.Answer.TheVariants.{Running, Refused}
use Rattle.machine.specs.declared.Refusal.TheVariants.{NoRun}
use Rattle.machine.specs.declared.Report.{Report}
use Rattle.machine.specs.Answer.{Checked}
use Rattle.machine.specs.Sound.{Lent, Engine}
use Rattle.machine.specs.Locate.{live_blocks}
use Rattle.machine.specs.Operations.{Wanted, get_wants}
use Rattle.machine.specs.Step.{Outcome, given, step, engine_of}
use Rattle.book.specs.Steps.{Event, stepped, extended, Leads, is_refused}

-- two engines have the same set-up addresses, the same d and the same live blocks. All else may differ: bugs, definitions, stacks,
-- place, counts, what the blocks hold, and what was done to come here
pub record Alike (e f : Engine) : Type 0 where
  pub setup : e.state.core.setup ≡ f.state.core.setup
  pub live : live_blocks e ≡ live_blocks f

-- a step that is no set-up and no duplicate, and is answered running or refused by 17
pub record Ordinary (l : Lent) (e : Engine) (answer : Answer) : Type 0 where
  pub answered : (answer ≡ Running) ⊎ (answer ≡ Refused NoRun)
  pub neither : e.state.core.place.kind ≡ 1 → let code = (row_at l.table e.state.core.place.row).code in
      (code ≡ 1 → ⊥) × (code ≡ 5 → ⊥)

-- further such steps of an engine, newest first, each with its own table, input and output, and the engine that they leave
pub data Further (e : Engine) : List Event → Engine → Type 0 where
  begin : Further e [] e
  after : {events : List Event} {now : Engine} → Further e events now → (l : Lent) → Ordinary l now (step l now).stepped.answer
      → Further e (stepped l now (step l now) ∷ events) (engine_of (step l now))

-- what a step asks of the blocks
pub data Request : Type 0 where
  -- a free of the block at an address
  free_of : ℕ → Request
  -- a get of so many words, its size raised
  get_of : ℕ → Request

-- a request with its answer
pub data Asked : Type 0 where
  -- a free of the block at an address
  freed : ℕ → Asked
  -- a get of so many words, delivered at an address
  delivered : (words address : ℕ) → Asked
  -- a get of so many words, refused by 17
  no_run : (words : ℕ) → Asked

-- the request without the answer
unfoldable pub request : Asked → Request
request (freed address) = free_of address
request (delivered words address) = get_of words
request (no_run words) = get_of words

-- what a step that is not refused has asked and was answered, by its report
unfoldable pub asked_by : Report → List Asked
asked_by r = cond (eqb r.freed 0) (cond (eqb r.size 0) [] (delivered r.size r.delivered ∷ [])) (freed r.freed ∷ [])

-- what a get that is refused by 17 has asked
unfoldable pub wanted_by : Checked Wanted → List Asked
wanted_by (Rattle.machine.specs.Answer.refused r) = []
wanted_by (Rattle.machine.specs.Answer.passed w) = no_run w.words ∷ []

unfoldable pub refused_get : ℕ → Lent → Engine → List Asked
refused_get b l e =
    cond (eqb e.state.core.place.kind 1 && eqb (row_at l.table e.state.core.place.row).code 3)
    (wanted_by (get_wants b (given l e))) []

-- what a step has asked: one thing, or nothing, as tests, exits and all operations but frees and gets do
unfoldable pub asked_of : ℕ → Lent → Engine → Outcome → List Asked
asked_of b l e o = cond (is_refused o.stepped.answer) (refused_get b l e) (asked_by o.stepped.report)

-- the frees and gets of these events with their answers, newest first
unfoldable pub asked_in : ℕ → List Event → List Asked
asked_in b [] = []
asked_in b (stepped l e o ∷ events) = asked_of b l e o ++ asked_in b events
asked_in b (extended last e x ∷ events) = asked_in b events

-- how two engines of the widths b and c go on
pub record GoingOn (b c : ℕ) (e f : Engine) : Type 0 where
  -- their free blocks are equal
  pub free : free e.state.core.setup e.state.map ≡ Rattle.block.specs.Map.free f.state.core.setup f.state.map
  -- where further steps of both free the same addresses and get the same sizes in one order, the delivered addresses and the
  -- refusals 17 are the same, one for one
  pub answers : (xs ys : List Event) (e' f' : Engine) → Further e xs e' → Further f ys f'
      → map request (asked_in b xs) ≡ map request (asked_in c ys) → asked_in b xs ≡ asked_in c ys

-- after any two lists of steps and extensions from fresh engines, of either width each and over any storages
abbrev pub EitherOrder : Type 0
EitherOrder = (b c : ℕ) (ws vs : List ℕ) (xs ys : List Event) (e f : Engine) → Leads b ws xs e → Leads c vs ys f → Alike e f
    → GoingOn b c e f
