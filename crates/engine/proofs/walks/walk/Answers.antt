-- `engine::walks::walk` meets its contract. It stops as it was judged, or goes on: the loop's invariant is that what is left of the walk
-- leads where the whole walk does, from a sound engine that is not finished, and that the definitions are those packed. The measure is the
-- number of steps left. Assumes nothing.
use Rattle.std.specs.Prelude.{◌-◌, ◌<◌, length}
use native.Mathlib.Omega.{arith}
use mathlib.Core.Path.{refl, sym, ap, subst, ◌∙◌}
use Rattle.machine.specs.State.{undefined, the_end}
use Rattle.operations.specs.Deeds.{meant}
use Rattle.commit.specs.declared.Onward.{Onward}
use Rattle.commit.specs.Carried.{recording}
use Rattle.commit.specs.Reported.{Reportable}
use Rattle.commit.proofs.Others.{unrecorded}
use Rattle.commit.proofs.Turning.{define_name, save_definition_room, restore_definition_room, call_room, return_room, Turned}
use Rattle.commit.proofs.Turning.{any_place, turned_kept, turned_define, turned_save, turned_restore, turned_call, turned_return}
use Rattle.engine.specs.Starting.{Ready}
use Rattle.machine.specs.Sound.{lends}
use Rattle.engine.proofs.First.{first_goes, first_stops, halted}
use Rattle.engine.proofs.Now.{started, starts, ready_now, refused_now, feasible_now, countable_now, counted_now}
use Rattle.engine.proofs.Now.{reportable_now, ended_now, next_now, with_core}
use borrow.Author.Rules.{rules}
use Rattle.engine.proofs.walks.walk.Goals as goal
use Rattle.engine.proofs.walks.walk.Goals.{then-next+in-Define, then-next+in-SaveDefinition, then-next+in-RestoreDefinition, then-next+in-Call}
use Rattle.engine.proofs.walks.walk.Goals.{then-next+in-Return, then-next+in_default-action, else-next}
use borrow.Enum.Refused.{opened}

pub returns-in_default : goal.returns-in_default
returns-in_default c =
    first_stops _ _ c.requires.1 (halted c.args.first.answer (opened c.in_default.in_default-own.keys2)) _ c.stopped.ensures

pub loop-r-init : goal.loop-r-init
loop-r-init c =
    let ready : Ready c.args.first.judged (lends c.args.table.now c.args.input.now c.args.output.now)
    (record { state = c.args.state; storage = c.args.storage.now }) =
    first_goes _ _ c.requires.1 c.in-Running.is c.requires.2 in (
      refl,
      refl,
      (search rules),
      record {
        going = starts _ _ _ _ _ _ _ _ refl c.counts_of-counts.ensures.0 c.requires.0 ready.fine ready.going;
        packed = c.pack_all.ensures;
        wide = ready.wide;
        fits = ready.fits;
      },
      c.counts_of-counts.ensures.1,
    )

pub overflow_add-count : goal.overflow_add-count
overflow_add-count c = let few = c.loop-r.invariant.3.going.few in omega arith

pub plan_step-planned-requires : goal.plan_step-planned-requires
plan_step-planned-requires c =
    let ready : Ready c.args.first.judged (lends c.args.table.now c.args.input.now c.args.output.now)
    (record { state = c.args.state; storage = c.args.storage.now }) =
    first_goes _ _ c.requires.1 c.in-Running.is c.requires.2 in
    (ready_now c.loop-r.invariant.3, ready.fits, ready.formed)

pub shape_of-storage-in-Stopped : goal.shape_of-storage-in-Stopped
shape_of-storage-in-Stopped c = c.loop-r.invariant.0

pub shape_of-output-in-Stopped : goal.shape_of-output-in-Stopped
shape_of-output-in-Stopped c = c.loop-r.invariant.1

pub returns-in-Stopped : goal.returns-in-Stopped
returns-in-Stopped c =
    refused_now c.loop-r.invariant.3 c.plan_step-planned.ensures c.in-Stopped.is
    c.no_report.ensures (c.ended.ensures ∙ with_core c.core_of-core.ensures)
    ∙ started _ _ _ _ _ _ _ _ refl c.counts_of-counts.ensures.0

pub go_on-next-requires : goal.go_on-next-requires
go_on-next-requires c =
    let inv = c.loop-r.invariant in
    counted_now inv.3 c.plan_step-planned.ensures c.in-Goes.is inv.2

pub carry_out-requires : goal.carry_out-requires
carry_out-requires c =
    let inv = c.loop-r.invariant in
    let readable = (ready_now inv.3).readable in
    let feasible = feasible_now inv.3 c.plan_step-planned.ensures c.in-Goes.is inv.2 in
    (readable.width, readable.whole, readable.kept, (_, feasible))

pub bounds-definitions-i : goal.bounds-definitions-i
unfolding meant
bounds-definitions-i c =
    define_name (countable_now c.loop-r.invariant.3 c.plan_step-planned.ensures c.in-Goes.is c.loop-r.invariant.2) (ap meant c.in-Define.is)

pub bounds-fields-i : goal.bounds-fields-i
unfolding meant
bounds-fields-i c =
    define_name (countable_now c.loop-r.invariant.3 c.plan_step-planned.ensures c.in-Goes.is c.loop-r.invariant.2) (ap meant c.in-Define.is)

pub bounds-definitions-i-in-SaveDefinition : goal.bounds-definitions-i-in-SaveDefinition
unfolding meant
bounds-definitions-i-in-SaveDefinition c =
    (save_definition_room (countable_now c.loop-r.invariant.3 c.plan_step-planned.ensures c.in-Goes.is c.loop-r.invariant.2) (ap meant c.in-SaveDefinition.is)).0

pub offset_bounds-saved-n : goal.offset_bounds-saved-n
unfolding meant
offset_bounds-saved-n c =
    let few = (save_definition_room (countable_now c.loop-r.invariant.3 c.plan_step-planned.ensures c.in-Goes.is c.loop-r.invariant.2) (ap meant c.in-SaveDefinition.is)).1 in search rules

pub bounds-saved-n : goal.bounds-saved-n
unfolding meant
bounds-saved-n c =
    (save_definition_room (countable_now c.loop-r.invariant.3 c.plan_step-planned.ensures c.in-Goes.is c.loop-r.invariant.2) (ap meant c.in-SaveDefinition.is)).1

pub overflow_sub-n : goal.overflow_sub-n
unfolding meant
overflow_sub-n c =
    (restore_definition_room (countable_now c.loop-r.invariant.3 c.plan_step-planned.ensures c.in-Goes.is c.loop-r.invariant.2) (ap meant c.in-RestoreDefinition.is)).1

pub offset_bounds-saved-n-in-RestoreDefinition : goal.offset_bounds-saved-n-in-RestoreDefinition
unfolding meant
offset_bounds-saved-n-in-RestoreDefinition c =
    let few = (restore_definition_room (countable_now c.loop-r.invariant.3 c.plan_step-planned.ensures c.in-Goes.is c.loop-r.invariant.2) (ap meant c.in-RestoreDefinition.is)).2 in search rules

pub bounds-saved-n-in-RestoreDefinition : goal.bounds-saved-n-in-RestoreDefinition
unfolding meant
bounds-saved-n-in-RestoreDefinition c =
    let room = restore_definition_room (countable_now c.loop-r.invariant.3 c.plan_step-planned.ensures c.in-Goes.is c.loop-r.invariant.2) (ap meant c.in-RestoreDefinition.is) in omega (arith, room.1, room.2)

pub bounds-definitions-i-in-RestoreDefinition : goal.bounds-definitions-i-in-RestoreDefinition
unfolding meant
bounds-definitions-i-in-RestoreDefinition c =
    (restore_definition_room (countable_now c.loop-r.invariant.3 c.plan_step-planned.ensures c.in-Goes.is c.loop-r.invariant.2) (ap meant c.in-RestoreDefinition.is)).0

pub bounds-fields-i-in-RestoreDefinition : goal.bounds-fields-i-in-RestoreDefinition
unfolding meant
bounds-fields-i-in-RestoreDefinition c =
    (restore_definition_room (countable_now c.loop-r.invariant.3 c.plan_step-planned.ensures c.in-Goes.is c.loop-r.invariant.2) (ap meant c.in-RestoreDefinition.is)).0

pub offset_bounds-calls-n : goal.offset_bounds-calls-n
unfolding meant
offset_bounds-calls-n c =
    let few = (call_room (countable_now c.loop-r.invariant.3 c.plan_step-planned.ensures c.in-Goes.is c.loop-r.invariant.2) (ap meant c.in-Call.is)).1 in search rules

pub bounds-calls-n : goal.bounds-calls-n
unfolding meant
bounds-calls-n c =
    (call_room (countable_now c.loop-r.invariant.3 c.plan_step-planned.ensures c.in-Goes.is c.loop-r.invariant.2) (ap meant c.in-Call.is)).1

pub tests_of-place-requires : goal.tests_of-place-requires
unfolding meant
tests_of-place-requires c =
    (call_room (countable_now c.loop-r.invariant.3 c.plan_step-planned.ensures c.in-Goes.is c.loop-r.invariant.2) (ap meant c.in-Call.is)).0

pub overflow_sub-n-in-Return : goal.overflow_sub-n-in-Return
unfolding meant
overflow_sub-n-in-Return c =
    (return_room (countable_now c.loop-r.invariant.3 c.plan_step-planned.ensures c.in-Goes.is c.loop-r.invariant.2) (ap meant c.in-Return.is)).0

pub offset_bounds-calls-n-in-Return : goal.offset_bounds-calls-n-in-Return
unfolding meant
offset_bounds-calls-n-in-Return c =
    let few = (return_room (countable_now c.loop-r.invariant.3 c.plan_step-planned.ensures c.in-Goes.is c.loop-r.invariant.2) (ap meant c.in-Return.is)).1 in search rules

pub bounds-calls-n-in-Return : goal.bounds-calls-n-in-Return
unfolding meant
bounds-calls-n-in-Return c =
    let room = return_room (countable_now c.loop-r.invariant.3 c.plan_step-planned.ensures c.in-Goes.is c.loop-r.invariant.2) (ap meant c.in-Return.is) in omega (arith, room.0, room.1)

pub report_of-requires : goal.report_of-requires
unfolding meant undefined the_end
report_of-requires c =
    let packed = c.loop-r.invariant.3.packed in
    let turn : Turned (meant c.in-Goes.action) c.in-Goes.to c.loop-r.counts
    (recording c.loop-r.definitions c.loop-r.saved c.loop-r.calls) (meant c.if-next.action) c.if-next.place
    c.if-next.definitions c.if-next.saved c.if-next.calls c.if-next.fields =
    elim c.if-next.branch [
      | then-next+in-Define w ↦ turned_define _ _ _ _ packed (ap meant w.in-Define.is) _ w.pack.ensures w.place-is
          w.definitions-is w.saved-is w.calls-is w.fields-is (ap meant (w.action-is ∙ sym w.in-Define.is))
      | then-next+in-SaveDefinition w ↦ turned_save _ _ _ _ packed (ap meant w.in-SaveDefinition.is) w.place-is
          w.definitions-is w.saved-is w.calls-is w.fields-is (ap meant (w.action-is ∙ sym w.in-SaveDefinition.is))
      | then-next+in-RestoreDefinition w ↦ turned_restore _ _ _ _ packed (ap meant w.in-RestoreDefinition.is) _
          w.pack-in-RestoreDefinition.ensures w.place-is w.definitions-is w.saved-is w.calls-is w.fields-is
          (ap meant (w.action-is ∙ sym w.in-RestoreDefinition.is))
      | then-next+in-Call w ↦ turned_call _ _ _ _ packed (ap meant w.in-Call.is) (w.place-is ∙ w.tests_of-place.ensures)
          w.definitions-is w.saved-is w.calls-is w.fields-is (ap meant (w.action-is ∙ sym w.in-Call.is))
      | then-next+in-Return w ↦
          let room = return_room (countable_now c.loop-r.invariant.3 c.plan_step-planned.ensures c.in-Goes.is c.loop-r.invariant.2) (ap meant w.in-Return.is) in
          let last : c.loop-r.counts.calls - 1 < length c.loop-r.calls = omega (arith, room.0, room.1, c.loop-r.invariant.4) in
          turned_return _ _ _ _ packed (ap meant w.in-Return.is)
          (w.place-is ∙ any_place c.loop-r.calls (c.loop-r.counts.calls - 1) (record { kind = 0; row = 0; line = 0 }) the_end last)
          w.definitions-is w.saved-is w.calls-is w.fields-is (ap meant w.action-is)
      | then-next+in_default-action w ↦ turned_kept _ _ _ _ packed
          (unrecorded c.in-Goes.action (opened w.in_default-action.in_default-action-own.keys6)) w.place-is w.definitions-is w.saved-is
          w.calls-is w.fields-is (ap meant w.action-is)
      | else-next w ↦ turned_kept _ _ _ _ packed (ap (λ (n : Onward). n.recorded) (sym c.go_on-next.ensures) ∙ w.if-next.false)
          w.place-is w.definitions-is w.saved-is w.calls-is w.fields-is (ap meant w.action-is)
    ] in
    subst Reportable (sym turn.same) (reportable_now c.loop-r.invariant.3 c.plan_step-planned.ensures c.in-Goes.is c.loop-r.invariant.2)

pub shape_of-storage-then-place-count : goal.shape_of-storage-then-place-count
shape_of-storage-then-place-count c =
    c.storage-1.given ∙ c.loop-r.invariant.0

pub shape_of-output-then-place-count : goal.shape_of-output-then-place-count
shape_of-output-then-place-count c =
    c.output-1.given ∙ c.loop-r.invariant.1

pub returns-then-place-count : goal.returns-then-place-count
unfolding meant undefined the_end
returns-then-place-count c =
    let packed = c.loop-r.invariant.3.packed in
    let turn : Turned (meant c.in-Goes.action) c.in-Goes.to c.loop-r.counts
    (recording c.loop-r.definitions c.loop-r.saved c.loop-r.calls) (meant c.if-next.action) c.if-next.place
    c.if-next.definitions c.if-next.saved c.if-next.calls c.if-next.fields =
    elim c.if-next.branch [
      | then-next+in-Define w ↦ turned_define _ _ _ _ packed (ap meant w.in-Define.is) _ w.pack.ensures w.place-is
          w.definitions-is w.saved-is w.calls-is w.fields-is (ap meant (w.action-is ∙ sym w.in-Define.is))
      | then-next+in-SaveDefinition w ↦ turned_save _ _ _ _ packed (ap meant w.in-SaveDefinition.is) w.place-is
          w.definitions-is w.saved-is w.calls-is w.fields-is (ap meant (w.action-is ∙ sym w.in-SaveDefinition.is))
      | then-next+in-RestoreDefinition w ↦ turned_restore _ _ _ _ packed (ap meant w.in-RestoreDefinition.is) _
          w.pack-in-RestoreDefinition.ensures w.place-is w.definitions-is w.saved-is w.calls-is w.fields-is
          (ap meant (w.action-is ∙ sym w.in-RestoreDefinition.is))
      | then-next+in-Call w ↦ turned_call _ _ _ _ packed (ap meant w.in-Call.is) (w.place-is ∙ w.tests_of-place.ensures)
          w.definitions-is w.saved-is w.calls-is w.fields-is (ap meant (w.action-is ∙ sym w.in-Call.is))
      | then-next+in-Return w ↦
          let room = return_room (countable_now c.loop-r.invariant.3 c.plan_step-planned.ensures c.in-Goes.is c.loop-r.invariant.2) (ap meant w.in-Return.is) in
          let last : c.loop-r.counts.calls - 1 < length c.loop-r.calls = omega (arith, room.0, room.1, c.loop-r.invariant.4) in
          turned_return _ _ _ _ packed (ap meant w.in-Return.is)
          (w.place-is ∙ any_place c.loop-r.calls (c.loop-r.counts.calls - 1) (record { kind = 0; row = 0; line = 0 }) the_end last)
          w.definitions-is w.saved-is w.calls-is w.fields-is (ap meant w.action-is)
      | then-next+in_default-action w ↦ turned_kept _ _ _ _ packed
          (unrecorded c.in-Goes.action (opened w.in_default-action.in_default-action-own.keys6)) w.place-is w.definitions-is w.saved-is
          w.calls-is w.fields-is (ap meant w.action-is)
      | else-next w ↦ turned_kept _ _ _ _ packed (ap (λ (n : Onward). n.recorded) (sym c.go_on-next.ensures) ∙ w.if-next.false)
          w.place-is w.definitions-is w.saved-is w.calls-is w.fields-is (ap meant w.action-is)
    ] in
    ended_now c.loop-r.invariant.3 c.plan_step-planned.ensures c.in-Goes.is c.loop-r.invariant.2 turn
    c.carry_out.ensures c.go_on-next.ensures c.if-place-count.true c.answer_at.ensures
    c.report_of.ensures (c.ended-then-place-count.ensures ∙ with_core c.core_of-core-then-place-count.ensures)
    ∙ started _ _ _ _ _ _ _ _ refl c.counts_of-counts.ensures.0

pub loop-r-smaller : goal.loop-r-smaller
loop-r-smaller c = let few = c.loop-r.invariant.3.going.few in omega arith

pub loop-r-preserved : goal.loop-r-preserved
unfolding meant undefined the_end
loop-r-preserved c =
    let packed = c.loop-r.invariant.3.packed in
    let turn : Turned (meant c.in-Goes.action) c.in-Goes.to c.loop-r.counts
    (recording c.loop-r.definitions c.loop-r.saved c.loop-r.calls) (meant c.if-next.action) c.if-next.place
    c.if-next.definitions c.if-next.saved c.if-next.calls c.if-next.fields =
    elim c.if-next.branch [
      | then-next+in-Define w ↦ turned_define _ _ _ _ packed (ap meant w.in-Define.is) _ w.pack.ensures w.place-is
          w.definitions-is w.saved-is w.calls-is w.fields-is (ap meant (w.action-is ∙ sym w.in-Define.is))
      | then-next+in-SaveDefinition w ↦ turned_save _ _ _ _ packed (ap meant w.in-SaveDefinition.is) w.place-is
          w.definitions-is w.saved-is w.calls-is w.fields-is (ap meant (w.action-is ∙ sym w.in-SaveDefinition.is))
      | then-next+in-RestoreDefinition w ↦ turned_restore _ _ _ _ packed (ap meant w.in-RestoreDefinition.is) _
          w.pack-in-RestoreDefinition.ensures w.place-is w.definitions-is w.saved-is w.calls-is w.fields-is
          (ap meant (w.action-is ∙ sym w.in-RestoreDefinition.is))
      | then-next+in-Call w ↦ turned_call _ _ _ _ packed (ap meant w.in-Call.is) (w.place-is ∙ w.tests_of-place.ensures)
          w.definitions-is w.saved-is w.calls-is w.fields-is (ap meant (w.action-is ∙ sym w.in-Call.is))
      | then-next+in-Return w ↦
          let room = return_room (countable_now c.loop-r.invariant.3 c.plan_step-planned.ensures c.in-Goes.is c.loop-r.invariant.2) (ap meant w.in-Return.is) in
          let last : c.loop-r.counts.calls - 1 < length c.loop-r.calls = omega (arith, room.0, room.1, c.loop-r.invariant.4) in
          turned_return _ _ _ _ packed (ap meant w.in-Return.is)
          (w.place-is ∙ any_place c.loop-r.calls (c.loop-r.counts.calls - 1) (record { kind = 0; row = 0; line = 0 }) the_end last)
          w.definitions-is w.saved-is w.calls-is w.fields-is (ap meant w.action-is)
      | then-next+in_default-action w ↦ turned_kept _ _ _ _ packed
          (unrecorded c.in-Goes.action (opened w.in_default-action.in_default-action-own.keys6)) w.place-is w.definitions-is w.saved-is
          w.calls-is w.fields-is (ap meant w.action-is)
      | else-next w ↦ turned_kept _ _ _ _ packed (ap (λ (n : Onward). n.recorded) (sym c.go_on-next.ensures) ∙ w.if-next.false)
          w.place-is w.definitions-is w.saved-is w.calls-is w.fields-is (ap meant w.action-is)
    ] in
    let inv = c.loop-r.invariant in (
      c.storage-1.given ∙ inv.0,
      c.output-1.given ∙ inv.1,
      search rules,
      next_now inv.3 c.plan_step-planned.ensures c.in-Goes.is inv.2 turn
          c.carry_out.ensures c.go_on-next.ensures c.if-place-count.false,
      turn.long ∙ inv.4,
    )
