-- Answers: document 01's numbers for them, and checks one after the other, of which the first that fails refuses.
-- Document 01: "From the input", "From the state" and the order of refusals. Assumes nothing.
use Rattle.std.specs.Prelude.{ℕ, Bool, true, false}
use Rattle.word.specs.Told.{Told, gives, refuses}
use Rattle.machine.specs.declared.Refusal.{Refusal}
use Rattle.machine.specs.declared.Refusal.TheVariants.{TableLength, BadRow, SetUpNumbers, InputByte, InputShort, NotADigit}
use Rattle.machine.specs.declared.Refusal.TheVariants.{DefinitionNumber, BlockSize, ZeroDivisor, CharacterCount, Unsound}
use Rattle.machine.specs.declared.Refusal.TheVariants.{BeforeSetUp, SecondSetUp, UndefinedField, NotABlock, OutsideBlock}
use Rattle.machine.specs.declared.Refusal.TheVariants.{NoRun}
use Rattle.machine.specs.declared.Refusal.TheVariants.{FieldFreed, StackFull, StackEmpty, OutputFull, SubtrahendGreater}
use Rattle.machine.specs.declared.Refusal.TheVariants.{NoWidth}
use Rattle.machine.specs.declared.Answer.{Answer}
use Rattle.machine.specs.declared.Answer.TheVariants.{Running, Finished, Refused}

-- the number of a refusal: document 01's, 22 of ticket 1, and 31 of ticket 9
unfoldable pub refusal_number : Refusal → ℕ
refusal_number TableLength = 1
refusal_number BadRow = 2
refusal_number SetUpNumbers = 3
refusal_number InputByte = 4
refusal_number InputShort = 5
refusal_number NotADigit = 6
refusal_number DefinitionNumber = 7
refusal_number BlockSize = 8
refusal_number ZeroDivisor = 9
refusal_number CharacterCount = 10
refusal_number Unsound = 11
refusal_number BeforeSetUp = 12
refusal_number SecondSetUp = 13
refusal_number UndefinedField = 14
refusal_number NotABlock = 15
refusal_number OutsideBlock = 16
refusal_number NoRun = 17
refusal_number FieldFreed = 18
refusal_number StackFull = 19
refusal_number StackEmpty = 20
refusal_number OutputFull = 21
refusal_number SubtrahendGreater = 22
refusal_number NoWidth = 31

-- an answer: 0 with the value 0 for running and 1 for finished, or the refusal
unfoldable pub told_answer : Answer → Told ℕ
told_answer Running = gives 0
told_answer Finished = gives 1
told_answer (Refused r) = refuses (refusal_number r)

unfoldable pub is_running : Answer → Bool
is_running Running = true
is_running Finished = false
is_running (Refused r) = false

-- what checks come to: the first refusal, or what is found once all have passed
pub data Checked (A : Type 0) : Type 0 where
  refused : Refusal → Checked A
  passed : A → Checked A

-- what checks come to in numbers
unfoldable pub told : {A : Type 0} → Checked A → Told A
told (refused r) = refuses (refusal_number r)
told (passed x) = gives x

infixl 20 ◌>>=◌
infixl 20 ◌>>◌
-- go on where the checks have passed
unfoldable pub ◌>>=◌ : {A B : Type 0} → Checked A → (A → Checked B) → Checked B
◌>>=◌ (refused r) f = refused r
◌>>=◌ (passed x) f = f x

unfoldable pub ◌>>◌ : {A B : Type 0} → Checked A → Checked B → Checked B
◌>>◌ (refused r) y = refused r
◌>>◌ (passed x) y = y

-- refuse where the test fails
unfoldable pub need : Bool → Refusal → Checked (Unit {0})
need true r = passed tt
need false r = refused r
