-- The definitions of the machine, opened at once: a proof that computes says `unfolding computing`. Each file of definitions has its
-- own list here. Assumes nothing.
use Rattle.word.specs.Field as fields-file
use Rattle.word.specs.Word as words-file
use Rattle.word.specs.Told as told-file
use Rattle.character.specs.Character as characters-file
use Rattle.block.specs.Blocks as blocks-file
use Rattle.block.specs.SetUp as setups-file
use Rattle.block.specs.Map as maps-file
use Rattle.table.specs.Reference as references-file
use Rattle.table.specs.Row as rows_file
use Rattle.table.specs.Operands as operands-file
use Rattle.table.specs.Table as tables-file
use Rattle.machine.specs.Answer as answers-file
use Rattle.machine.specs.State as states-file
use Rattle.machine.specs.Storage as storages-file
use Rattle.machine.specs.Sound as soundness-file
use Rattle.machine.specs.Locate as locations-file
use Rattle.machine.specs.Test as tests-file
use Rattle.machine.specs.Effects as effects-file
use Rattle.machine.specs.Operations as operations-file
use Rattle.machine.specs.Step as steps-file
use Rattle.machine.specs.Bench as benches-file

unfoldable fields : Unit {0}
unfolding fields-file.width fields-file.shift fields-file.field_of fields-file.kept fields-file.stored
fields = tt

unfoldable words : Unit {0}
unfolding words-file.is_width words-file.bit words-file.sum words-file.product words-file.nearest words-file.complement words-file.bitwise
    words-file.either words-file.both words-file.differing words-file.ones words-file.zeros words-file.leftmost words-file.rightmost_of
    words-file.rightmost words-file.left_shift words-file.right_shift
words = tt

unfoldable characters : Unit {0}
unfolding characters-file.digits characters-file.number characters-file.characters characters-file.packed characters-file.holds characters-file.blank
    characters-file.leading characters-file.all_below characters-file.printed characters-file.blanks_to_zeros characters-file.to_binary
    characters-file.from_binary characters-file.zeros_to_blanks
characters = tt

unfoldable blocks : Unit {0}
unfolding blocks-file.size blocks-file.level blocks-file.joined blocks-file.live_in blocks-file.free_in blocks-file.freed blocks-file.delivered
    blocks-file.gathered blocks-file.changed blocks-file.size_at blocks-file.outside blocks-file.runs_from
blocks = tt

unfoldable setups : Unit {0}
unfolding setups-file.top setups-file.words setups-file.fitting setups-file.absent setups-file.runs
setups = tt

unfoldable maps : Unit {0}
unfolding maps-file.free_tag maps-file.live_tag_of maps-file.written maps-file.told maps-file.is_free maps-file.canonical maps-file.all_written
    maps-file.all_told maps-file.all_canonical maps-file.same maps-file.trees maps-file.map_of maps-file.keeps maps-file.live maps-file.free
    maps-file.fresh_map maps-file.freed_map maps-file.delivered_map
maps = tt

unfoldable references : Unit {0}
unfolding references-file.digits_before references-file.digits_of references-file.names references-file.names_field references-file.names_bug
    references-file.name_fields references-file.starts_with_bug references-file.is_reference references-file.named references-file.reference_of
references = tt

unfoldable rows : Unit {0}
unfolding rows_file.length_fits rows_file.rows rows_file.pair_at rows_file.as_row rows_file.row_at
rows = tt

unfoldable operands : Unit {0}
unfolding operands-file.shapes
operands = tt

unfoldable tables : Unit {0}
unfolding tables-file.fit_pairs tables-file.names_rows tables-file.complete tables-file.is_line tables-file.is_test tables-file.shape_of
    tables-file.is_operation tables-file.shaped tables-file.well_formed_as tables-file.usable
tables = tt

unfoldable answers : Unit {0}
unfolding told-file.number answers-file.refusal_number answers-file.told_answer answers-file.is_running answers-file.◌>>=◌ answers-file.◌>>◌ answers-file.need
answers = tt

unfoldable states : Unit {0}
unfolding states-file.tests_of states-file.operation_at states-file.exit_of states-file.the_end states-file.is_finished states-file.undefined
    states-file.no_set_up states-file.is_set_up states-file.fresh states-file.moved_to states-file.with_bug states-file.with_definition
    states-file.with_contents states-file.with_saved states-file.with_calls states-file.with_set_up states-file.with_taken states-file.with_written
    states-file.on_core states-file.with_map
states = tt

unfoldable storages : Unit {0}
unfolding storages-file.no_store_of storages-file.no_report storages-file.placed storages-file.word_at storages-file.with_store storages-file.with_delivery
    storages-file.with_copy storages-file.after_report
storages = tt

unfoldable soundness : Unit {0}
unfolding soundness-file.every soundness-file.is_row soundness-file.is_place soundness-file.in_range soundness-file.is_definition
    soundness-file.sound_place soundness-file.sound_stack soundness-file.sound_stacks soundness-file.sound_storage soundness-file.sound_core
    soundness-file.sound_engine soundness-file.sound
soundness = tt

unfoldable locations : Unit {0}
unfolding locations-file.world locations-file.definition_of locations-file.contents_of locations-file.width_of locations-file.link_by locations-file.link
    locations-file.follow locations-file.locate locations-file.read locations-file.operand
locations = tt

unfoldable tests : Unit {0}
unfolding tests-file.comparisons tests-file.compared tests-file.settling tests-file.settled_as tests-file.testing tests-file.satisfied
tests = tt

unfoldable effects : Unit {0}
unfolding effects-file.quietly effects-file.reporting effects-file.assigned effects-file.store_to effects-file.storing effects-file.storage_after
    effects-file.engine_after
effects = tt

unfoldable operations : Unit {0}
unfolding operations-file.or_refuse operations-file.asked operations-file.set_up operations-file.the_name operations-file.define operations-file.first_run_of
    operations-file.lowest_run operations-file.delivering operations-file.and_storing operations-file.get_wants operations-file.get
    operations-file.lies_in operations-file.free operations-file.duplicate_wants operations-file.duplicate operations-file.interchange
    operations-file.computing operations-file.difference operations-file.quotient operations-file.found_characters operations-file.bytes_taken
    operations-file.input operations-file.print operations-file.save_contents operations-file.restore_contents operations-file.save_definition
    operations-file.restore_definition operations-file.do_line operations-file.makes operations-file.operations operations-file.operation_of
    operations-file.meaning_of operations-file.meaning
operations = tt

unfoldable steps : Unit {0}
unfolding steps-file.next_line steps-file.operation_or_exit steps-file.going_to steps-file.tests_step steps-file.in_turn steps-file.given
    steps-file.operation_step steps-file.return steps-file.exit_step steps-file.plan steps-file.unchanged steps-file.carried_out steps-file.outcome
    steps-file.step_at steps-file.step steps-file.engine_of steps-file.ending steps-file.run_from steps-file.run
steps = tt

unfoldable benches : Unit {0}
unfolding benches-file.operation benches-file.lit benches-file.ref benches-file.chain benches-file.program benches-file.bench_run
    benches-file.refusal_of benches-file.bug_of benches-file.word_of benches-file.sizes_of benches-file.passes benches-file.W benches-file.X
    benches-file.Y benches-file.WA benches-file.getting benches-file.field benches-file.with benches-file.from benches-file.cases benches-file.tour
    benches-file.tour_run
benches = tt

unfoldable pub computing : Unit {0}
unfolding fields words characters blocks setups maps references rows operands tables answers states storages soundness locations tests effects
    operations steps benches
computing = tt
