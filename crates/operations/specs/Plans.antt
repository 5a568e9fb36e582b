-- What each operation plans: an action, or the first refusal. Each is its meaning in the machine without the effects.
-- Assumes nothing.
use Rattle.std.specs.Prelude.{ℕ, ◌+◌, ◌-◌, ◌/◌, ◌≤◌, true, not, ◌&&◌, cond, List, ◌≡◌, eqb, leb, ltb, length, get_or}
use Rattle.character.specs.Character.{packed, all_below}
use Rattle.block.specs.declared.SetUp.{SetUp}
use Rattle.block.specs.Blocks.{size, level, size_at}
use Rattle.block.specs.SetUp.{top, fitting}
use Rattle.block.specs.Map.{live}
use Rattle.table.specs.declared.FieldName.{FieldName}
use Rattle.table.specs.declared.Pair.{Pair}
use Rattle.table.specs.declared.Row.{Row}
use Rattle.machine.specs.declared.Location.{Location}
use Rattle.machine.specs.declared.Refusal.TheVariants.{SetUpNumbers, InputByte, InputShort, DefinitionNumber, BlockSize}
use Rattle.machine.specs.declared.Refusal.TheVariants.{CharacterCount}
use Rattle.machine.specs.declared.Refusal.TheVariants.{NotABlock, FieldFreed, StackFull, StackEmpty, OutputFull}
use Rattle.machine.specs.Answer.{Checked, refused, passed, ◌>>=◌, ◌>>◌, need}
use Rattle.machine.specs.Sound.{in_range}
use Rattle.machine.specs.Locate.{World, Value, contents, read, locate, operand}
use Rattle.machine.specs.Operations.{Operation, own, computes, operation_of, asked, lowest_run, lies_in, found_characters, bytes_taken}
use Rattle.operands.specs.Storing.{bugs_stored}
use Rattle.operands.specs.Through.{through}
use Rattle.operations.specs.declared.Counts.{Counts}
use Rattle.operations.specs.Deeds.{Deed}
use Rattle.operations.specs.Deeds.{Store, StoreTwo, SetUpWords, Define, Deliver, DeliverTwo, Free, Input, Print, Save}
use Rattle.operations.specs.Deeds.{Restore}
use Rattle.operations.specs.Deeds.{SaveDefinition, RestoreDefinition, Call}
use Rattle.operations.specs.Seen.{Sight}

-- 1 set up, in a storage of this length: 3
unfoldable pub set_up_plan : ℕ → Row → Checked Deed
set_up_plan lent row = do
  need (fitting lent (asked row)) SetUpNumbers
  passed (SetUpWords (asked row))

-- the field that an operation names
abbrev pub name_of : Row → FieldName
name_of row = record { 0 = row.name }

-- 2 define, once its numbers are taken: 7
unfoldable pub defining : ℕ → ℕ → ℕ → ℕ → ℕ → Checked Deed
defining b name word left right = do
  need (in_range b word left right) DefinitionNumber
  passed (Define (record { 0 = name }) (record { defined = true; word = word; left = left; right = right }))

unfoldable pub define_plan : ℕ → World → Row → Checked Deed
define_plan b w row = do
  word ← operand b w row.first
  left ← operand b w row.second
  right ← operand b w row.third
  defining b row.name word.value left.value right.value

-- the size of the live block at an address, 0 if there is none
abbrev pub size_of : World → ℕ → ℕ
size_of w a = size_at a (live w.setup w.map)

-- what references read after a delivery, its address stored in a
unfoldable pub after_delivery : ℕ → ℕ → ℕ → Location → World → World
after_delivery b address n a w =
    through b (record { address = address; size = n; at = a })
    (record {
      bugs = bugs_stored b a address w.bugs;
      definitions = w.definitions;
      setup = w.setup;
      map = w.map;
      storage = w.storage;
    })

-- 3 get, once a run is found: a2 is located after the delivery
unfoldable pub delivering : ℕ → World → Pair → Location → ℕ → ℕ → Checked Deed
delivering b w third a address n =
    cond (eqb third.form 0) (passed (Deliver address n 0 a))
    (locate b (after_delivery b address n a w) third >>= λ a2. passed (DeliverTwo address n a a2 (contents b w a)))

-- 3 get, once a is located and the size taken: 8, 17, a2
unfoldable pub getting : ℕ → World → Pair → Location → ℕ → Checked Deed
getting b w third a n = do
  let d = w.setup.d
  need (leb 1 n && leb n d) BlockSize
  address ← lowest_run w.setup w.map (size (level (top d) n))
  delivering b w third a address (size (level (top d) n))

-- 4 free, of the block of n words at an address: 15, 18
unfoldable pub freeing : ℕ → ℕ → Location → ℕ → Checked Deed
freeing address n a v = do
  need (not (eqb n 0)) NotABlock
  need (not (lies_in address n a)) FieldFreed
  passed (Free address a v)

-- 5 duplicate, of the block of n words at an address: 15, 17
unfoldable pub duplicating : SetUp → List ℕ → Location → ℕ → ℕ → Checked Deed
duplicating u m a from n = do
  need (not (eqb n 0)) NotABlock
  address ← lowest_run u m n
  passed (Deliver address n from a)

-- 24 input: 10, 5, 4
unfoldable pub taking : ℕ → ℕ → List ℕ → Location → ℕ → Checked Deed
taking b taken input a n = do
  let count = bytes_taken n input
  let characters = found_characters n taken input
  need (leb n (b / 6)) CharacterCount
  need (leb (taken + count) (length input)) InputShort
  need (all_below 64 characters) InputByte
  passed (Input a (packed characters) count)

-- what an operation that computes makes of a's old contents and of x
unfoldable pub value_of : Operation → ℕ → Value → Value → Checked ℕ
value_of (own m) = λ b a x. passed 0
value_of (computes f) = f

unfoldable pub value_by : ℕ → ℕ → Value → Value → Checked ℕ
value_by code = value_of (operation_of code)

-- the codes of these operations: 6 to 31, but for interchange, input and print
pub record Computes (code : ℕ) : Type 0 where
  pub low : 6 ≤ code
  pub high : code ≤ 31
  pub no_interchange : code ≡ 7 → ⊥
  pub no_input : code ≡ 24 → ⊥
  pub no_print : code ≡ 25 → ⊥

-- it is stored in a
unfoldable pub storing : Location → Checked ℕ → Checked Deed
storing at (refused r) = refused r
storing at (passed v) = passed (Store at v)

-- an operation (a, x) by its code, once a is located and x taken
unfoldable pub acting : ℕ → ℕ → World → ℕ → List ℕ → Pair → Location → Value → Checked Deed
acting code b w taken input third a x =
    cond (eqb code 3) (getting b w third a x.value)
    (cond (eqb code 4) (freeing (contents b w a) (size_of w (contents b w a)) a x.value)
    (cond (eqb code 5) (duplicating w.setup w.map a x.value (size_of w x.value))
    (cond (eqb code 24) (taking b taken input a x.value)
    (storing a (value_by code b (read b w a) x)))))

unfoldable pub two_plan : ℕ → World → ℕ → List ℕ → Row → Checked Deed
two_plan b w taken input row = do
  a ← locate b w row.first
  x ← operand b w row.second
  acting row.code b w taken input row.third a x

-- 7 interchange: both located, and then each gets what the other held
unfoldable pub swap_plan : ℕ → World → Row → Checked Deed
swap_plan b w row = do
  a ← locate b w row.first
  c ← locate b w row.second
  passed (StoreTwo a (contents b w c) c (contents b w a))

-- 25 print, once its operands are taken: 10, 21
unfoldable pub printing : ℕ → ℕ → ℕ → Value → Checked Deed
printing written room n x = do
  need (leb n 120) CharacterCount
  need (leb (written + n) room) OutputFull
  passed (Print n x.width x.value)

unfoldable pub print_plan : ℕ → World → ℕ → ℕ → Row → Checked Deed
print_plan b w written room row = do
  n ← operand b w row.first
  x ← operand b w row.second
  printing written room n.value x

-- 32 save contents: 19. 33 restore contents: 20. a is located before the stack is looked at
unfoldable pub contents_plan : ℕ → World → ℕ → List ℕ → Row → Checked Deed
contents_plan b w count entries row = do
  a ← locate b w row.first
  cond (eqb row.code 32) (need (ltb count 128) StackFull >> passed (Save (contents b w a)))
      (need (ltb 0 count) StackEmpty >> passed (Restore a (get_or entries (count - 1) 0)))

-- 34 save a definition: 19. 35 restore it: 20. 36 DO: 19
unfoldable pub record_plan : ℕ → ℕ → Row → Checked Deed
record_plan saved calls row =
    cond (eqb row.code 34) (need (ltb saved 128) StackFull >> passed (SaveDefinition (name_of row)))
    (cond (eqb row.code 35) (need (ltb 0 saved) StackEmpty >> passed (RestoreDefinition (name_of row)))
    (need (ltb calls 128) StackFull >> passed (Call row.first.value)))

-- the stacks: 32 to 36
unfoldable pub stack_plan : ℕ → World → Counts → List ℕ → Row → Checked Deed
stack_plan b w counts entries row =
    cond (ltb 33 row.code) (record_plan counts.saved counts.calls row) (contents_plan b w counts.contents entries row)

-- an operation but the set-up, by its code
unfoldable pub plan_of : ℕ → Sight → Row → Checked Deed
plan_of b s row =
    cond (ltb 31 row.code) (stack_plan b s.world s.counts s.entries row)
    (cond (eqb row.code 2) (define_plan b s.world row)
    (cond (eqb row.code 7) (swap_plan b s.world row)
    (cond (eqb row.code 25) (print_plan b s.world s.counts.written s.room row)
    (two_plan b s.world s.counts.taken s.input row))))

-- the operations (a, x) that are no interchange: 3 to 31, but for 7 and 25
pub record Acts (code : ℕ) : Type 0 where
  pub low : 3 ≤ code
  pub high : code ≤ 31
  pub no_interchange : code ≡ 7 → ⊥
  pub no_print : code ≡ 25 → ⊥
