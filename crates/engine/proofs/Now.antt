-- A turn of a walk by the walk's locals. Assumes nothing.
use Rattle.std.specs.Prelude.{◌≡◌, ℕ, ◌+◌, ◌-◌, ◌≤◌, Bool, true, false, cond, ◌||◌, eqb, List, length}
use native.Mathlib.Omega.{arith}
use mathlib.Core.Path.{refl, sym, ap, subst, ◌∙◌}
use borrow.Author.Tests.{eqb-false}
use Rattle.word.specs.Word.{is_width}
use Rattle.word.proofs.Width.{width_range}
use Rattle.block.specs.declared.SetUp.{SetUp}
use Rattle.table.specs.Row.{length_fits}
use Rattle.machine.specs.declared.Definition.{Definition}
use Rattle.machine.specs.declared.Place.{Place}
use Rattle.machine.specs.declared.Core.{Core}
use Rattle.machine.specs.declared.State.{State}
use Rattle.machine.specs.declared.Report.{Report}
use Rattle.machine.specs.declared.Refusal.{Refusal}
use Rattle.machine.specs.declared.Answer.{Answer}
use Rattle.machine.specs.declared.Answer.TheVariants.{Running, Finished, Refused}
use Rattle.machine.specs.Answer.{told}
use Rattle.machine.specs.State.{is_finished}
use Rattle.machine.specs.Storage.{no_report}
use Rattle.machine.specs.Sound.{lends, Engine, sound}
use Rattle.machine.specs.Locate.{world}
use Rattle.operations.specs.declared.Action.{Action}
use Rattle.operations.specs.Deeds.{Deed, meant}
use Rattle.operations.specs.declared.Counts.{Counts}
use Rattle.plans.specs.declared.Step.{Step}
use Rattle.plans.specs.declared.Step.TheVariants.{Goes, Stopped}
use Rattle.operands.specs.Packing.{unpacked_all}
use Rattle.operations.specs.Seen.{Sight, counts_of, Ready}
use Rattle.word.specs.Told.{Told}
use Rattle.plans.specs.Answers.{Plan, told_step}
use Rattle.plans.specs.Steps.{step_plan}
use Rattle.plans.proofs.Answers.{goes_is, halts_is}
use Rattle.plans.proofs.Ready.{ready_is}
use Rattle.commit.specs.declared.Onward.{Onward}
use Rattle.commit.specs.declared.Records.{Records}
use Rattle.commit.specs.Carried.{bugs_after, entries_after, map_after, words_after, output_after, records_after, recording, onward}
use Rattle.commit.specs.Feasible.{ground, Feasible, Countable, Counted}
use Rattle.commit.specs.Reported.{report_of, Reportable}
use Rattle.commit.specs.Then.{core_with, engine_with, engine_then, records_of}
use Rattle.commit.proofs.Turning.{Turned, feasible_reportable}
use Rattle.engine.specs.declared.Walked.{Walked}
use Rattle.engine.specs.Walking.{Walk, walks, walk_from}
use Rattle.engine.proofs.Able.{Able, plan_able}
use Rattle.engine.proofs.Turns.{Going, going_refused, going_ends, going_next, going_first}

-- of two tests none holds
neither : (s t : Bool) → (s || t) ≡ false → (s ≡ false) × (t ≡ false)
neither true t e = (let never : ◌≡◌ {A = ℕ} 0 1 = cc in absurd (omega arith))
neither false t e = (refl, e)

-- what a walk returns
abbrev pub returning : Walked → List ℕ → List ℕ → Walk
returning r storage output = record { walked = r; storage = storage; output = output }

-- where a turn starts, by the walk's locals: what is left of the walk leads where the whole does, and the definitions are those packed
pub record Turn (b : ℕ) (table input : List ℕ) (start : Walk) (limit count : ℕ) (output : List ℕ) (place : Place) (bugs : List ℕ)
    (records : Records) (entries : List ℕ) (counts : Counts) (setup : SetUp) (map storage fields : List ℕ) : Type 0 where
  pub going : Going b table input start limit count output (engine_with b place bugs records entries counts setup map storage)
  pub packed : unpacked_all fields ≡ records.definitions
  pub wide : is_width b ≡ true
  pub fits : length_fits table ≡ true

module _ {b : ℕ} {table input : List ℕ} {start : Walk} {limit count : ℕ} {output : List ℕ} {place : Place} {bugs : List ℕ} {records : Records}
    {entries : List ℕ} {counts : Counts} {setup : SetUp} {map storage fields : List ℕ}
    (t : Turn b table input start limit count output place bugs records entries counts setup map storage fields) where
  abbrev narrow : b ≤ 48
  narrow = (width_range b t.wide).1

  abbrev e : Engine
  e = engine_with b place bugs records entries counts setup map storage

  -- what a plan sees with these definitions
  abbrev pub with_fields : List Definition → Sight
  with_fields ds =
      record {
        world = record { bugs = bugs; definitions = ds; setup = setup; map = map; storage = storage };
        counts = counts;
        entries = entries;
        input = input;
        room = length output;
      }

  pub ready_now : Ready b (with_fields (unpacked_all fields))
  unfolding world
  ready_now =
      subst (λ (ds : List Definition). Ready b (with_fields ds)) (sym t.packed) (ready_is b (lends table input output) e t.going.fine narrow)

  -- what is told of a plan with the packed definitions is told of it with the engine's
  so : {said : Told Plan} → said ≡ told (step_plan b (with_fields (unpacked_all fields)) table place)
      → said ≡ told (step_plan b (with_fields records.definitions) table place)
  so is = is ∙ ap (λ (ds : List Definition). told (step_plan b (with_fields ds) table place)) t.packed

  module _ {answer : Step} (is : told_step answer ≡ told (step_plan b (with_fields (unpacked_all fields)) table place)) where
    pub refused_now : {q : Refusal} → answer ≡ Stopped q → {report : Report} → report ≡ no_report → {r : Walked}
        → r ≡ record {
          state = record { width = b; core = core_with place bugs records entries counts setup; map = map };
          answer = Refused q;
          report = report;
          count = count + 1;
        }
        → returning r storage output ≡ start
    unfolding world
    refused_now to none same = rw (same, none) (going_refused b table input start limit count output e t.going t.wide t.fits (halts_is _ (so is) to))

    module _ {to : Place} {action : Action} (made : answer ≡ Goes to action) (long : length map ≡ 4096) where
      abbrev x : Deed
      x = meant action

      able : Able b (lends table input output) e x
      unfolding world
      able = plan_able b (lends table input output) e t.going.fine narrow t.fits (rw long (omega arith)) _ (goes_is _ (so is) made)

      pub feasible_now : Feasible b (ground setup map storage counts (length input) (length output)) x
      feasible_now = able.feasible

      pub countable_now : Countable counts x
      countable_now = record { width = b; on = ground setup map storage counts (length input) (length output); same = refl; feasible = able.feasible }

      pub counted_now : Counted counts (length input) (length output) x
      unfolding countable_now
      counted_now = record { countable = countable_now; input = refl; output = refl }

      pub reportable_now : Reportable x
      reportable_now = feasible_reportable b _ x narrow able.feasible

      module _ {y : Deed} {place' : Place} {ds ss : List Definition} {ps : List Place} {fields' : List ℕ}
          (turn : Turned x to counts records y place' ds ss ps fields')
          {bugs' entries' : List ℕ} {next : Onward} {map' storage' output' : List ℕ}
          (carried : (bugs' ≡ bugs_after b x bugs) × (entries' ≡ entries_after counts.contents x entries) × (map' ≡ map_after setup x map)
          × (storage' ≡ words_after b setup.s1 x storage) × (output' ≡ output_after counts.written x output))
          (goes : next ≡ onward x setup counts) where
        abbrev f : Engine
        f = engine_with b place' bugs' (recording ds ss ps) entries' next.counts next.setup map' storage'

        then_with : {r : Records} → r ≡ records_after x to counts records → engine_then b to x e ≡ engine_with b place' bugs' r entries' next.counts
            next.setup map' storage'
        then_with same = rw (turn.place, same, carried.0, carried.1, carried.2, carried.3, goes)

        then_now : engine_then b to x e ≡ f
        then_now = then_with turn.records

        ends : {end : Bool} → eqb place'.kind 3 ≡ end → is_finished (engine_then b to x e).state.core.place ≡ end
        unfolding is_finished
        ends k = ap (λ (f : Engine). eqb f.state.core.place.kind 3) then_now ∙ k

        pub ended_now : (eqb place'.kind 3 || eqb (count + 1) limit) ≡ true → {answer : Answer} → answer ≡ cond (is_finished place') Finished Running
            → {report : Report} → report ≡ report_of y → {r : Walked}
            → r ≡ record { state = f.state; answer = answer; report = report; count = count + 1 } → returning r storage' output' ≡ start
        unfolding world is_finished
        ended_now over answers reports same =
            rw (same, answers, reports ∙ ap report_of turn.same, carried.4)
            (ap (λ (f : Engine). walks f.state (cond (eqb place'.kind 3) Finished Running) (report_of x) (count + 1) f.storage
            (output_after counts.written x output)) (sym then_now)
            ∙ going_ends b table input start limit count output e t.going t.wide t.fits _ (goes_is _ (so is) made) able.sure _ (ends refl) over)

        pub next_now : (eqb place'.kind 3 || eqb (count + 1) limit) ≡ false
            → Turn b table input start limit (count + 1) output' place' bugs' (recording ds ss ps) entries' next.counts next.setup map' storage' fields'
        unfolding world
        next_now on =
            let (unfinished, more) = neither _ _ on in
            record {
              going = subst (λ (out : List ℕ). Going b table input start limit (count + 1) out f) (sym carried.4)
                  (subst (Going b table input start limit (count + 1) (output_after counts.written x output)) then_now
                  (going_next b table input start limit count output e t.going t.wide t.fits _ (goes_is _ (so is) made) able.sure
                  (ends unfinished) (eqb-false _ _ more)));
              packed = turn.packed;
              wide = t.wide;
              fits = t.fits;
            }

-- what a walk returns, by its core
pub with_core : {c d : Core} → c ≡ d → {width : ℕ} {map : List ℕ} {answer : Answer} {report : Report} {count : ℕ}
    → ◌≡◌ {A = Walked} (record { state = record { width = width; core = c; map = map }; answer = answer; report = report; count = count })
    (record { state = record { width = width; core = d; map = map }; answer = answer; report = report; count = count })
with_core e = rw e

-- where a walk starts, by the core's parts
pub started : (b : ℕ) (table input : List ℕ) (limit : ℕ) (output : List ℕ) (core : Core) (map storage : List ℕ) {records : Records} {counts : Counts}
    → records ≡ records_of core → counts ≡ counts_of core
    → walk_from 0 (limit - 1) (lends table input output) (engine_with b core.place core.bugs records core.contents.entries counts
    core.setup map storage)
    ≡ walk_from 0 (limit - 1) (lends table input output) (record { state = record { width = b; core = core; map = map }; storage = storage })
started b table input limit output core map storage r c = rw (r, c)

pub starts : (b : ℕ) (table input : List ℕ) (limit : ℕ) (output : List ℕ) (core : Core) (map storage : List ℕ) {records : Records} {counts : Counts}
    → records ≡ records_of core → counts ≡ counts_of core → 1 ≤ limit
    → sound b (lends table input output) (record { state = record { width = b; core = core; map = map }; storage = storage }) ≡ true
    → is_finished core.place ≡ false
    → Going b table input (walk_from 0 (limit - 1) (lends table input output) (engine_with b core.place core.bugs records
    core.contents.entries counts core.setup map storage))
    limit 0 output (engine_with b core.place core.bugs records core.contents.entries counts core.setup map storage)
starts b table input limit output core map storage r c some fine unfinished =
    going_first b table input limit output _ refl some (rw (r, c) fine) unfinished

-- and by its report
pub with_report : {p q : Report} → p ≡ q → {state : State} {answer : Answer} {count : ℕ}
    → ◌≡◌ {A = Walked} (record { state = state; answer = answer; report = p; count = count })
    (record { state = state; answer = answer; report = q; count = count })
with_report e = rw e
