-- What an action reports: the report of its effects. Assumes nothing.
use Rattle.std.specs.Prelude.{ℕ, ◌<◌}
use Rattle.machine.specs.declared.Location.{Location}
use Rattle.machine.specs.declared.Location.TheVariants.{Bug, Field}
use Rattle.machine.specs.declared.Store.{Store}
use Rattle.machine.specs.declared.Report.{Report}
use Rattle.machine.specs.Storage.{no_store_of, no_report}
use Rattle.machine.specs.Effects.{store_to}
use Rattle.operations.specs.Deeds.{Deed}
use Rattle.operations.specs.Deeds.{Nothing, StoreTwo, SetUpWords, Define, Deliver, DeliverTwo, Free, Input, Print, Save, Restore}
use Rattle.operations.specs.Deeds.{SaveDefinition, RestoreDefinition, Call, Return}
use Rattle.operations.specs.Deeds as act

-- a report by its parts
abbrev pub told : ℕ → ℕ → ℕ → ℕ → Store → Store → Report
told freed delivered size copied first second =
    record { freed = freed; delivered = delivered; size = size; copied = copied; first = first; second = second }

unfoldable pub report_of : Deed → Report
report_of (act.Store at v) = told 0 0 0 0 (store_to at v) no_store_of
report_of (StoreTwo a v c x) = told 0 0 0 0 (store_to a v) (store_to c x)
report_of (Deliver address n from a) = told 0 address n from (store_to a address) no_store_of
report_of (DeliverTwo address n a a2 v) = told 0 address n 0 (store_to a address) (store_to a2 v)
report_of (Free address at v) = told address 0 0 0 (store_to at v) no_store_of
report_of (Input at v n) = told 0 0 0 0 (store_to at v) no_store_of
report_of (Restore at v) = told 0 0 0 0 (store_to at v) no_store_of
report_of Nothing = no_report
report_of (SetUpWords u) = no_report
report_of (Define f x) = no_report
report_of (Print n width v) = no_report
report_of (Save v) = no_report
report_of (SaveDefinition f) = no_report
report_of (RestoreDefinition f) = no_report
report_of (Call row) = no_report
report_of Return = no_report

-- a location whose bits have places below 63, as every one that can be reached
unfoldable pub Short : Location → Type 0
Short (Bug x) = Unit {0}
Short (Field address left right) = right < 63

-- an action whose stores go to such locations
unfoldable pub Reportable : Deed → Type 0
Reportable (act.Store at v) = Short at
Reportable (StoreTwo a v c x) = Short a × Short c
Reportable (Deliver address n from a) = Short a
Reportable (DeliverTwo address n a a2 v) = Short a × Short a2
Reportable (Free address at v) = Short at
Reportable (Input at v n) = Short at
Reportable (Restore at v) = Short at
Reportable Nothing = Unit {0}
Reportable (SetUpWords u) = Unit {0}
Reportable (Define f x) = Unit {0}
Reportable (Print n width v) = Unit {0}
Reportable (Save v) = Unit {0}
Reportable (SaveDefinition f) = Unit {0}
Reportable (RestoreDefinition f) = Unit {0}
Reportable (Call row) = Unit {0}
Reportable Return = Unit {0}
