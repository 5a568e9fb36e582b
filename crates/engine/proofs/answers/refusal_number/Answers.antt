-- `engine::answers::refusal_number` meets its contract: by the refusal. Assumes nothing.
use Rattle.machine.specs.Answer.{refusal_number}
use Rattle.engine.proofs.answers.refusal_number.Goals as goal

pub returns-in-TableLength : goal.returns-in-TableLength
unfolding refusal_number
returns-in-TableLength c = rw c.in-TableLength.is

pub returns-in-BadRow : goal.returns-in-BadRow
unfolding refusal_number
returns-in-BadRow c = rw c.in-BadRow.is

pub returns-in-SetUpNumbers : goal.returns-in-SetUpNumbers
unfolding refusal_number
returns-in-SetUpNumbers c = rw c.in-SetUpNumbers.is

pub returns-in-InputByte : goal.returns-in-InputByte
unfolding refusal_number
returns-in-InputByte c = rw c.in-InputByte.is

pub returns-in-InputShort : goal.returns-in-InputShort
unfolding refusal_number
returns-in-InputShort c = rw c.in-InputShort.is

pub returns-in-NotADigit : goal.returns-in-NotADigit
unfolding refusal_number
returns-in-NotADigit c = rw c.in-NotADigit.is

pub returns-in-DefinitionNumber : goal.returns-in-DefinitionNumber
unfolding refusal_number
returns-in-DefinitionNumber c = rw c.in-DefinitionNumber.is

pub returns-in-BlockSize : goal.returns-in-BlockSize
unfolding refusal_number
returns-in-BlockSize c = rw c.in-BlockSize.is

pub returns-in-ZeroDivisor : goal.returns-in-ZeroDivisor
unfolding refusal_number
returns-in-ZeroDivisor c = rw c.in-ZeroDivisor.is

pub returns-in-CharacterCount : goal.returns-in-CharacterCount
unfolding refusal_number
returns-in-CharacterCount c = rw c.in-CharacterCount.is

pub returns-in-Unsound : goal.returns-in-Unsound
unfolding refusal_number
returns-in-Unsound c = rw c.in-Unsound.is

pub returns-in-BeforeSetUp : goal.returns-in-BeforeSetUp
unfolding refusal_number
returns-in-BeforeSetUp c = rw c.in-BeforeSetUp.is

pub returns-in-SecondSetUp : goal.returns-in-SecondSetUp
unfolding refusal_number
returns-in-SecondSetUp c = rw c.in-SecondSetUp.is

pub returns-in-UndefinedField : goal.returns-in-UndefinedField
unfolding refusal_number
returns-in-UndefinedField c = rw c.in-UndefinedField.is

pub returns-in-NotABlock : goal.returns-in-NotABlock
unfolding refusal_number
returns-in-NotABlock c = rw c.in-NotABlock.is

pub returns-in-OutsideBlock : goal.returns-in-OutsideBlock
unfolding refusal_number
returns-in-OutsideBlock c = rw c.in-OutsideBlock.is

pub returns-in-NoRun : goal.returns-in-NoRun
unfolding refusal_number
returns-in-NoRun c = rw c.in-NoRun.is

pub returns-in-FieldFreed : goal.returns-in-FieldFreed
unfolding refusal_number
returns-in-FieldFreed c = rw c.in-FieldFreed.is

pub returns-in-StackFull : goal.returns-in-StackFull
unfolding refusal_number
returns-in-StackFull c = rw c.in-StackFull.is

pub returns-in-StackEmpty : goal.returns-in-StackEmpty
unfolding refusal_number
returns-in-StackEmpty c = rw c.in-StackEmpty.is

pub returns-in-OutputFull : goal.returns-in-OutputFull
unfolding refusal_number
returns-in-OutputFull c = rw c.in-OutputFull.is

pub returns-in-SubtrahendGreater : goal.returns-in-SubtrahendGreater
unfolding refusal_number
returns-in-SubtrahendGreater c = rw c.in-SubtrahendGreater.is

pub returns-in-NoWidth : goal.returns-in-NoWidth
unfolding refusal_number
returns-in-NoWidth c = rw c.in-NoWidth.is
