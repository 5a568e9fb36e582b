-- The 36 operations, in the order of document 01's section "Operations". Each takes its operands as written, then makes its own
-- checks in the order given there. The state that an operation is handed already stands at the place after it.
-- Assumes nothing.
use Rattle.std.specs.Prelude.{ℕ, suc, ◌+◌, ◌-◌, ◌/◌, Bool, true, false, not, ◌&&◌, cond, List, [], ◌∷◌, eqb, leb, ltb, length, get_or, set, take, drop, replicate}
use Rattle.std.proofs.Math.Option.{Option, none, some}
use Rattle.word.specs.Word.{sum, product, nearest, complement, either, both, differing, ones, zeros, leftmost, rightmost, left_shift}
use Rattle.word.specs.Word.{right_shift}
use Rattle.character.specs.Character.{packed, all_below, printed, blanks_to_zeros, to_binary, from_binary, zeros_to_blanks}
use Rattle.block.specs.declared.SetUp.{SetUp}
use Rattle.block.specs.Blocks.{size, level, size_at}
use Rattle.block.specs.SetUp.{top, words, fitting, runs}
use Rattle.block.specs.Map.{live, fresh_map, freed_map, delivered_map}
use Rattle.table.specs.declared.FieldName.{FieldName}
use Rattle.table.specs.declared.Row.{Row}
use Rattle.machine.specs.declared.Refusal.{Refusal}
use Rattle.machine.specs.declared.Refusal.TheVariants.{SetUpNumbers, InputByte, InputShort, NotADigit, DefinitionNumber}
use Rattle.machine.specs.declared.Refusal.TheVariants.{BlockSize}
use Rattle.machine.specs.declared.Refusal.TheVariants.{ZeroDivisor, CharacterCount, NotABlock, NoRun, FieldFreed, StackFull}
use Rattle.machine.specs.declared.Refusal.TheVariants.{StackEmpty, OutputFull, SubtrahendGreater}
use Rattle.machine.specs.declared.State.{State}
use Rattle.machine.specs.declared.Location.{Location}
use Rattle.machine.specs.declared.Location.TheVariants.{Bug, Field}
use Rattle.machine.specs.Answer.{Checked, refused, passed, ◌>>=◌, ◌>>◌, need}
use Rattle.machine.specs.State.{undefined, tests_of, moved_to, with_definition, with_contents, with_saved, with_calls, with_set_up}
use Rattle.machine.specs.State.{with_taken}
use Rattle.machine.specs.State.{with_written, on_core, with_map}
use Rattle.machine.specs.Storage.{no_store_of}
use Rattle.machine.specs.Sound.{Lent, Engine, in_range}
use Rattle.machine.specs.Locate.{world, Value, live_blocks, definition_of, contents, locate, read, operand}
use Rattle.machine.specs.Effects.{Effects, quietly, reporting, assigned, store_to, storing, engine_after}

-- what an operation is given: its row, what is lent, and the engine
pub record Given : Type 0 where
  pub row : Row
  pub lent : Lent
  pub engine : Engine

abbrev pub Meaning : Type 0
Meaning = ℕ → Given → Checked Effects

-- a value, or refuse where there is none
unfoldable pub or_refuse : Option ℕ → Refusal → Checked ℕ
or_refuse none r = refused r
or_refuse (some v) r = passed v

-- 1 set up (d, s1, s2): 3
unfoldable pub asked : Row → SetUp
asked row = record { d = row.first.value; s1 = row.second.value; s2 = row.third.value }

unfoldable pub set_up : Meaning
set_up b g = do
  let u = asked g.row
  need (fitting (length g.engine.storage) u) SetUpNumbers
  passed
      (record {
        state = with_map (fresh_map u (length g.engine.state.map)) (on_core (with_set_up u) g.engine.state);
        report = (quietly g.engine.state).report;
        zeroed = words u;
        printed = [];
      })

-- the field that an operation names
unfoldable pub the_name : Given → FieldName
the_name g = record { 0 = g.row.name }

-- 2 define name (word, left, right): 7
unfoldable pub define : Meaning
define b g = do
  word ← operand b (world g.engine) g.row.first
  left ← operand b (world g.engine) g.row.second
  right ← operand b (world g.engine) g.row.third
  need (in_range b word.value left.value right.value) DefinitionNumber
  passed
      (quietly
      (on_core
      (with_definition (the_name g) (record { defined = true; word = word.value; left = left.value; right = right.value }))
      g.engine.state))

-- the first of these runs; 17 where there is none
unfoldable pub first_run_of : List ℕ → Checked ℕ
first_run_of [] = refused NoRun
first_run_of (r ∷ rs) = passed r

-- the address that is delivered for n words: the lowest aligned run outside the live blocks
unfoldable pub lowest_run : SetUp → List ℕ → ℕ → Checked ℕ
lowest_run u m n = first_run_of (runs n u (live u m))

-- what a get or a duplicate wants once its earlier checks are cleared: a run of so many words, as a copy of the block at an
-- address (0: none), its own address to be stored in a
pub record Wanted : Type 0 where
  pub a : Location
  pub words : ℕ
  pub copied : ℕ

-- the effects of delivering what is wanted at an address, and storing the address in a
unfoldable pub delivering : ℕ → Wanted → ℕ → State → Effects
delivering b w address s =
    reporting
    (record {
      freed = 0;
      delivered = address;
      size = w.words;
      copied = w.copied;
      first = store_to w.a address;
      second = no_store_of;
    })
    (with_map (delivered_map (level (top s.core.setup.d) w.words) address s.core.setup s.map)
    (on_core (assigned b w.a address) s))

-- and then a second store
unfoldable pub and_storing : ℕ → Location → ℕ → Effects → Effects
and_storing b a v x =
    record {
      state = on_core (assigned b a v) x.state;
      report = record {
        freed = x.report.freed;
        delivered = x.report.delivered;
        size = x.report.size;
        copied = x.report.copied;
        first = x.report.first;
        second = store_to a v;
      };
      zeroed = x.zeroed;
      printed = x.printed;
    }

-- 3 get (a, size, optional a2), up to 8: the size is raised to the next power of two
unfoldable pub get_wants : ℕ → Given → Checked Wanted
get_wants b g = do
  a ← locate b (world g.engine) g.row.first
  n ← operand b (world g.engine) g.row.second
  let d = g.engine.state.core.setup.d
  need (leb 1 n.value && leb n.value d) BlockSize
  passed (record { a = a; words = size (level (top d) n.value); copied = 0 })

-- 3 get: 8, 17, a2. Old a is read, the address stored in a, then a2 located and given old a
unfoldable pub get : Meaning
get b g = do
  w ← get_wants b g
  address ← lowest_run g.engine.state.core.setup g.engine.state.map w.words
  let x = delivering b w address g.engine.state
  cond (eqb g.row.third.form 0) (passed x)
      (locate b (world (engine_after b x g.engine)) g.row.third
      >>= λ a2. passed (and_storing b a2 (contents b (world g.engine) w.a) x))

-- the field to change lies in the block of n words at an address
unfoldable pub lies_in : ℕ → ℕ → Location → Bool
lies_in address n (Bug x) = false
lies_in address n (Field word left right) = leb address word && ltb word (address + n)

-- 4 free (a, c or literal 0): 15, 18. Free a's block, then a gets c's old contents
unfoldable pub free : Meaning
free b g = do
  a ← locate b (world g.engine) g.row.first
  c ← operand b (world g.engine) g.row.second
  let address = contents b (world g.engine) a
  let n = size_at address (live_blocks g.engine)
  need (not (eqb n 0)) NotABlock
  need (not (lies_in address n a)) FieldFreed
  passed
      (reporting
      (record { freed = address; delivered = 0; size = 0; copied = 0; first = store_to a c.value; second = no_store_of })
      (with_map (freed_map address g.engine.state.core.setup g.engine.state.map)
      (on_core (assigned b a c.value) g.engine.state)))

-- 5 duplicate (a, c), up to 15: the size is that of c's block
unfoldable pub duplicate_wants : ℕ → Given → Checked Wanted
duplicate_wants b g = do
  a ← locate b (world g.engine) g.row.first
  c ← operand b (world g.engine) g.row.second
  need (not (eqb (size_at c.value (live_blocks g.engine)) 0)) NotABlock
  passed (record { a = a; words = size_at c.value (live_blocks g.engine); copied = c.value })

-- 5 duplicate (a, c): 15, 17. a points to a new block like c's before the step
unfoldable pub duplicate : Meaning
duplicate b g = do
  w ← duplicate_wants b g
  address ← lowest_run g.engine.state.core.setup g.engine.state.map w.words
  passed (delivering b w address g.engine.state)

-- 7 interchange (a1, a2): a1 stored first
unfoldable pub interchange : Meaning
interchange b g = do
  a1 ← locate b (world g.engine) g.row.first
  a2 ← locate b (world g.engine) g.row.second
  passed
      (and_storing b a2 (contents b (world g.engine) a1) (storing b a1 (contents b (world g.engine) a2) g.engine.state))

-- an operation (a, x) that stores in a what f makes of a's old contents and of x
unfoldable pub computing : (ℕ → Value → Value → Checked ℕ) → Meaning
computing f b g = do
  a ← locate b (world g.engine) g.row.first
  x ← operand b (world g.engine) g.row.second
  v ← f b (read b (world g.engine) a) x
  passed (storing b a v g.engine.state)

-- 9 subtract: 22 where the subtrahend is greater (ticket 1)
unfoldable pub difference : ℕ → Value → Value → Checked ℕ
difference b a x = do
  need (leb x.value a.value) SubtrahendGreater
  passed (a.value - x.value)

-- 11 divide to the nearest whole number (ticket 10): 9
unfoldable pub quotient : ℕ → Value → Value → Checked ℕ
quotient b a x = do
  need (not (eqb x.value 0)) ZeroDivisor
  passed (nearest a.value x.value)

-- what an input of n characters finds: octal 77 where the input lent has length 0 (ticket 4)
unfoldable pub found_characters : ℕ → ℕ → List ℕ → List ℕ
found_characters n taken input = cond (eqb (length input) 0) (replicate n 0o77) (take n (drop taken input))

-- and the bytes that it takes: none there
unfoldable pub bytes_taken : ℕ → List ℕ → ℕ
bytes_taken n input = cond (eqb (length input) 0) 0 n

-- 24 input (a, cd): 10, 5, 4. cd characters, the first taken leftmost, with leading zeros
unfoldable pub input : Meaning
input b g = do
  a ← locate b (world g.engine) g.row.first
  n ← operand b (world g.engine) g.row.second
  let taken = g.engine.state.core.taken
  let count = bytes_taken n.value g.lent.input
  let characters = found_characters n.value taken g.lent.input
  need (leb n.value (b / 6)) CharacterCount
  need (leb (taken + count) (length g.lent.input)) InputShort
  need (all_below 64 characters) InputByte
  passed (storing b a (packed characters) (on_core (with_taken (taken + count)) g.engine.state))

-- 25 print (cd, cd): 10, 21. A count of characters from the right end
unfoldable pub print : Meaning
print b g = do
  n ← operand b (world g.engine) g.row.first
  x ← operand b (world g.engine) g.row.second
  let written = g.engine.state.core.written
  need (leb n.value 120) CharacterCount
  need (leb (written + n.value) (length g.lent.output)) OutputFull
  passed
      (record {
        state = on_core (with_written (written + n.value)) g.engine.state;
        report = (quietly g.engine.state).report;
        zeroed = 0;
        printed = printed n.value x.width x.value;
      })

-- 32 save contents (a): 19
unfoldable pub save_contents : Meaning
save_contents b g = do
  a ← locate b (world g.engine) g.row.first
  let stack = g.engine.state.core.contents
  need (ltb stack.count 128) StackFull
  passed
      (quietly
      (on_core
      (with_contents (record {
        entries = set stack.entries stack.count (contents b (world g.engine) a);
        count = suc stack.count;
      }))
      g.engine.state))

-- 33 restore contents (a): 20
unfoldable pub restore_contents : Meaning
restore_contents b g = do
  a ← locate b (world g.engine) g.row.first
  let stack = g.engine.state.core.contents
  need (ltb 0 stack.count) StackEmpty
  passed
      (storing b a (get_or stack.entries (stack.count - 1) 0)
      (on_core (with_contents (record { entries = stack.entries; count = stack.count - 1 })) g.engine.state))

-- 34 save the definition of name, undefined included: 19
unfoldable pub save_definition : Meaning
save_definition b g = do
  let stack = g.engine.state.core.saved
  need (ltb stack.count 128) StackFull
  passed
      (quietly
      (on_core
      (with_saved
      (record {
        entries = set stack.entries stack.count (definition_of (the_name g) (world g.engine));
        count = suc stack.count;
      }))
      g.engine.state))

-- 35 restore the definition of name: 20
unfoldable pub restore_definition : Meaning
restore_definition b g = do
  let stack = g.engine.state.core.saved
  need (ltb 0 stack.count) StackEmpty
  passed
      (quietly
      (on_core
      (λ c. with_definition (the_name g) (get_or stack.entries (stack.count - 1) undefined)
      (with_saved (record { entries = stack.entries; count = stack.count - 1 }) c))
      g.engine.state))

-- 36 DO (a row): 19. It saves the place after it
unfoldable pub do_line : Meaning
do_line b g = do
  let stack = g.engine.state.core.calls
  need (ltb stack.count 128) StackFull
  passed
      (quietly
      (on_core
      (λ c. moved_to (tests_of g.row.first.value)
      (with_calls (record { entries = set stack.entries stack.count c.place; count = suc stack.count }) c))
      g.engine.state))

-- an operation has a meaning of its own, or stores in a what a function makes of a's old contents and of x
pub data Operation : Type 0 where
  own : Meaning → Operation
  computes : (ℕ → Value → Value → Checked ℕ) → Operation

-- the same, where the function refuses nothing
unfoldable pub makes : (ℕ → Value → Value → ℕ) → Operation
makes f = computes (λ b a x. passed (f b a x))

-- the operations in the order of their codes
unfoldable pub operations : List Operation
operations =
    own set_up  -- 1
    ∷ own define  -- 2
    ∷ own get  -- 3
    ∷ own free  -- 4
    ∷ own duplicate  -- 5
    ∷ makes (λ b a x. x.value)  -- 6 copy
    ∷ own interchange  -- 7
    ∷ makes (λ b a x. sum b a.value x.value)  -- 8 add
    ∷ computes difference  -- 9 subtract
    ∷ makes (λ b a x. product b a.value x.value)  -- 10 multiply
    ∷ computes quotient  -- 11 divide
    ∷ makes (λ b a x. either b a.value x.value)  -- 12 or
    ∷ makes (λ b a x. both b a.value x.value)  -- 13 and
    ∷ makes (λ b a x. differing b a.value x.value)  -- 14 exclusive or
    ∷ makes (λ b a x. complement b x.value)  -- 15 complement
    ∷ makes (λ b a x. ones x.width x.value)  -- 16 count ones
    ∷ makes (λ b a x. zeros x.width x.value)  -- 17 count zeros
    ∷ makes (λ b a x. leftmost 1 x.width x.value)  -- 18 leftmost one
    ∷ makes (λ b a x. rightmost 1 x.width x.value)  -- 19 rightmost one
    ∷ makes (λ b a x. leftmost 0 x.width x.value)  -- 20 leftmost zero
    ∷ makes (λ b a x. rightmost 0 x.width x.value)  -- 21 rightmost zero
    ∷ makes (λ b a x. left_shift a.width a.value x.value)  -- 22 left shift
    ∷ makes (λ b a x. right_shift a.width a.value x.value)  -- 23 right shift
    ∷ own input  -- 24
    ∷ own print  -- 25
    ∷ makes (λ b a x. blanks_to_zeros (b / 6) x.width x.value)  -- 26 blanks to zeros
    ∷ computes (λ b a x. or_refuse (to_binary 10 (b / 6) x.value) NotADigit)  -- 27 decimal to binary: 6
    ∷ computes (λ b a x. or_refuse (to_binary 8 (b / 6) x.value) NotADigit)  -- 28 octal to binary: 6
    ∷ makes (λ b a x. from_binary 10 (b / 6) x.value)  -- 29 binary to decimal
    ∷ makes (λ b a x. from_binary 8 (b / 6) x.value)  -- 30 binary to octal
    ∷ makes (λ b a x. zeros_to_blanks (b / 6) x.value)  -- 31 zeros to blanks
    ∷ own save_contents  -- 32
    ∷ own restore_contents  -- 33
    ∷ own save_definition  -- 34
    ∷ own restore_definition  -- 35
    ∷ own do_line  -- 36
    ∷ []

-- no operation has any other code
unfoldable pub operation_of : ℕ → Operation
operation_of code = get_or operations (code - 1) (own (λ b g. passed (quietly g.engine.state)))

unfoldable pub meaning_of : Operation → Meaning
meaning_of (own m) = m
meaning_of (computes f) = computing f

-- the meaning of a code
unfoldable pub meaning : ℕ → Meaning
meaning code = meaning_of (operation_of code)
