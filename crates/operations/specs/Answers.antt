-- What the code answers, in numbers. Assumes nothing.
use Rattle.std.specs.Prelude.{ℕ, Result, Ok, Err}
use Rattle.word.specs.Told.{Told, gives, refuses}
use Rattle.machine.specs.Answer.{Checked, refused, passed, refusal_number}
use Rattle.operations.specs.Deeds.{Deed, meant}
use Rattle.machine.specs.declared.Refusal.{Refusal}
use Rattle.operations.specs.declared.Action.{Action}
use Rattle.operations.specs.declared.Run.{Run}

unfoldable pub told_computed : Result ℕ Refusal → Told ℕ
told_computed (Ok v) = gives v
told_computed (Err r) = refuses (refusal_number r)

unfoldable pub told_planned : Result Action Refusal → Told Deed
told_planned (Ok x) = gives (meant x)
told_planned (Err r) = refuses (refusal_number r)

unfoldable pub told_fetched : Result Run Refusal → Told Run
told_fetched (Ok run) = gives run
told_fetched (Err r) = refuses (refusal_number r)

-- the run of n words at an address
unfoldable pub fetched : ℕ → Checked ℕ → Checked Run
fetched n (refused r) = refused r
fetched n (passed a) = passed (record { address = a; size = n })
