-- What holds of each action that the last arm of a match takes, by its place among the actions. Assumes nothing.
use Rattle.std.specs.Prelude.{◌≡◌, ℕ, false, List, [], ◌∷◌}
use mathlib.Core.Path.{refl}
use denote.Enum.Declared.{tag_of}
use types.Run.{OneOf, miss}
use Rattle.block.specs.declared.SetUp.{SetUp}
use Rattle.machine.specs.Storage.{no_report}
use Rattle.operations.specs.declared.Counts.{Counts}
use Rattle.operations.specs.declared.Action.{Action}
use Rattle.operations.specs.Deeds.{meant}
use Rattle.operations.specs.declared.Action.TheVariants.{Nothing, Store, StoreTwo, SetUpWords, Define, Deliver, DeliverTwo, Free}
use Rattle.operations.specs.declared.Action.TheVariants.{Input, Print, Save, Restore, SaveDefinition, RestoreDefinition, Call}
use Rattle.operations.specs.declared.Action.TheVariants.{Return}
use Rattle.operations.specs.contracts.Action.{the_type}
use Rattle.commit.specs.Carried.{setup_after, counts_after, is_recorded, onward}
use Rattle.commit.specs.Reported.{report_of}

abbrev pub Among : List ℕ → Action → Type 0
Among ks x = OneOf ks (tag_of the_type x)

-- those that leave set-up numbers, counts, place and records
abbrev staying : List ℕ
staying = 0 ∷ 1 ∷ 2 ∷ 5 ∷ 6 ∷ 7 ∷ []

module _ (u : SetUp) (c : Counts) where
  pub stays : (x : Action) → Among staying x → onward (meant x) u c ≡ record { setup = u; counts = c; recorded = false }
  unfolding meant setup_after counts_after is_recorded
  stays Nothing h = refl
  stays (Store at v) h = refl
  stays (StoreTwo a v y w) h = refl
  stays (SetUpWords w) h = absurd (miss staying 3 tt h)
  stays (Define f d) h = absurd (miss staying 4 tt h)
  stays (Deliver address n from a) h = refl
  stays (DeliverTwo address n a a2 v) h = refl
  stays (Free address at v) h = refl
  stays (Input at v n) h = absurd (miss staying 8 tt h)
  stays (Print n width v) h = absurd (miss staying 9 tt h)
  stays (Save v) h = absurd (miss staying 10 tt h)
  stays (Restore at v) h = absurd (miss staying 11 tt h)
  stays (SaveDefinition f) h = absurd (miss staying 12 tt h)
  stays (RestoreDefinition f) h = absurd (miss staying 13 tt h)
  stays (Call row) h = absurd (miss staying 14 tt h)
  stays Return h = absurd (miss staying 15 tt h)

-- those that leave place and records
abbrev unturned : List ℕ
unturned = 0 ∷ 1 ∷ 2 ∷ 3 ∷ 5 ∷ 6 ∷ 7 ∷ 8 ∷ 9 ∷ 10 ∷ 11 ∷ []

pub unrecorded : (x : Action) → Among unturned x → is_recorded (meant x) ≡ false
unfolding meant is_recorded
unrecorded Nothing h = refl
unrecorded (Store at v) h = refl
unrecorded (StoreTwo a v y w) h = refl
unrecorded (SetUpWords u) h = refl
unrecorded (Define f d) h = absurd (miss unturned 4 tt h)
unrecorded (Deliver address n from a) h = refl
unrecorded (DeliverTwo address n a a2 v) h = refl
unrecorded (Free address at v) h = refl
unrecorded (Input at v n) h = refl
unrecorded (Print n width v) h = refl
unrecorded (Save v) h = refl
unrecorded (Restore at v) h = refl
unrecorded (SaveDefinition f) h = absurd (miss unturned 12 tt h)
unrecorded (RestoreDefinition f) h = absurd (miss unturned 13 tt h)
unrecorded (Call row) h = absurd (miss unturned 14 tt h)
unrecorded Return h = absurd (miss unturned 15 tt h)

-- those that report nothing
abbrev quiet : List ℕ
quiet = 0 ∷ 3 ∷ 4 ∷ 9 ∷ 10 ∷ 12 ∷ 13 ∷ 14 ∷ 15 ∷ []

pub unreported : (x : Action) → Among quiet x → report_of (meant x) ≡ no_report
unfolding meant report_of
unreported Nothing h = refl
unreported (Store at v) h = absurd (miss quiet 1 tt h)
unreported (StoreTwo a v y w) h = absurd (miss quiet 2 tt h)
unreported (SetUpWords u) h = refl
unreported (Define f d) h = refl
unreported (Deliver address n from a) h = absurd (miss quiet 5 tt h)
unreported (DeliverTwo address n a a2 v) h = absurd (miss quiet 6 tt h)
unreported (Free address at v) h = absurd (miss quiet 7 tt h)
unreported (Input at v n) h = absurd (miss quiet 8 tt h)
unreported (Print n width v) h = refl
unreported (Save v) h = refl
unreported (Restore at v) h = absurd (miss quiet 11 tt h)
unreported (SaveDefinition f) h = refl
unreported (RestoreDefinition f) h = refl
unreported (Call row) h = refl
unreported Return h = refl
