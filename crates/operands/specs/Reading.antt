-- What code that follows references is lent, relies on and answers. Assumes nothing.
use Rattle.std.specs.Prelude.{Result, Ok, Err}
use Rattle.operands.specs.declared.Spot.{Spot}
use Rattle.machine.specs.declared.Refusal.{Refusal}
use Rattle.std.specs.Prelude.{ℕ, ◌+◌, ◌%◌, ◌^◌, ◌≤◌, ◌<◌, ◌≡◌, true, ◌||◌, List, ltb, length}
use Rattle.word.specs.Told.{Told, gives, refuses}
use Rattle.block.specs.declared.SetUp.{SetUp}
use Rattle.block.specs.Blocks.{size}
use Rattle.block.specs.SetUp.{top, words, fitting, absent}
use Rattle.block.specs.Map.{keeps}
use Rattle.table.specs.declared.Pair.{Pair}
use Rattle.table.specs.Reference.{is_reference, reference_of}
use Rattle.machine.specs.declared.Definition.{Definition}
use Rattle.machine.specs.declared.Location.{Location}
use Rattle.machine.specs.declared.Location.TheVariants.{Bug, Field}
use Rattle.machine.specs.Answer.{Checked, passed, refusal_number, ◌>>=◌}
use Rattle.machine.specs.Sound.{every, is_definition}
use Rattle.machine.specs.Locate.{World, Value, follow}
use Rattle.operands.specs.Locating.{located, bits_at}
use Rattle.operands.specs.Packing.{unpacked_all}

-- what lent slices show, the definitions packed
abbrev pub seen : List ℕ → List ℕ → SetUp → List ℕ → List ℕ → World
seen bugs fields setup map storage =
    record { bugs = bugs; definitions = unpacked_all fields; setup = setup; map = map; storage = storage }

-- what is relied on, and a sound engine has: set-up numbers that fit or are absent, and so in range, a map that keeps its section,
-- a storage that has the set-up words, definitions in range, bugs below 2 ^ b
pub record Readable (b : ℕ) (w : World) : Type 0 where
  pub width : b ≤ 48
  pub numbers : (fitting (length w.storage) w.setup || absent w.setup) ≡ true
  pub first : w.setup.s1 ≤ 32767
  pub last : w.setup.s2 ≤ 32767
  pub whole : words w.setup % size (top w.setup.d) ≡ 0
  pub kept : keeps w.setup w.map ≡ true
  pub room : words w.setup ≤ length w.storage
  pub definitions : every (is_definition b) w.definitions ≡ true
  pub bugs : every (λ x. ltb x (2 ^ b)) w.bugs ≡ true

-- the set-up of these numbers
abbrev pub set_up_of : ℕ → ℕ → ℕ → SetUp
set_up_of d s1 s2 = record { d = d; s1 = s1; s2 = s2 }

-- a location that can be read: one of the bugs, or bits inside a word of the storage, whose first word is at address s1
unfoldable pub Reached : ℕ → ℕ → List ℕ → Location → Type 0
Reached b s1 storage (Bug x) = x.0 < 26
Reached b s1 storage (Field address left right) = (right < b) × (s1 ≤ address) × (address < s1 + length storage)

-- a location that is one of the bugs, or none
unfoldable pub Bugs : Location → Type 0
Bugs (Bug x) = x.0 < 26
Bugs (Field address left right) = Unit {0}

-- what a link relies on: a block of n words at the pointer lies in the storage, and a field that is defined in its words
pub record Lying (b s1 : ℕ) (storage : List ℕ) (x : Definition) (n pointer : ℕ) : Type 0 where
  pub low : (n ≡ 0 → ⊥) → s1 ≤ pointer
  pub high : (n ≡ 0 → ⊥) → pointer + n ≤ s1 + length storage
  pub some : (n ≡ 0 → ⊥) → 1 ≤ pointer
  pub small : (n ≡ 0 → ⊥) → pointer ≤ 131072
  pub right : x.defined ≡ true → x.right < b

-- an operand that is used: a literal below 2 ^ b, or a reference
pub record Taken (b : ℕ) (p : Pair) : Type 0 where
  pub literal : p.form ≡ 1 → p.value < 2 ^ b
  pub reference : (p.form ≡ 1 → ⊥) → is_reference p.value ≡ true

-- a value that code has in hand
abbrev pub valued : ℕ → ℕ → Value
valued v n = record { value = v; width = n }

-- where a reference leads, by its number
unfoldable pub leads : ℕ → World → ℕ → Checked Location
leads b w v = follow b w (Bug (reference_of v).bug) (reference_of v).fields

-- a location and what stands there
pub record Stand : Type 0 where
  pub at : Location
  pub holds : ℕ

-- a location that a check gives, with what stands there
unfoldable pub standing : (Location → ℕ) → Checked Location → Checked Stand
standing holds k = k >>= λ at. passed (record { at = at; holds = holds at })

-- answers in numbers: a location with what stands there, or, of an operand, a value with its width
unfoldable pub told_linked : Result Spot Refusal → Told Stand
told_linked (Ok spot) = gives (record { at = located spot.at; holds = spot.holds })
told_linked (Err r) = refuses (refusal_number r)

unfoldable pub told_value : ℕ → Result Spot Refusal → Told Value
told_value b (Ok spot) = gives (valued spot.holds (bits_at b spot.at))
told_value b (Err r) = refuses (refusal_number r)
