-- References: from a bug along the fields, link by link, to the location of the last one.
-- Document 01: "Fields and references". Assumes nothing.
use Rattle.std.specs.Prelude.{ℕ, ◌+◌, not, cond, List, [], ◌∷◌, eqb, ltb, get_or}
use Rattle.word.specs.Field.{width, field_of}
use Rattle.block.specs.declared.SetUp.{SetUp}
use Rattle.block.specs.Blocks.{Block, size_at}
use Rattle.block.specs.Map.{live}
use Rattle.table.specs.declared.FieldName.{FieldName}
use Rattle.table.specs.declared.Pair.{Pair}
use Rattle.table.specs.Reference.{reference_of}
use Rattle.machine.specs.declared.Definition.{Definition}
use Rattle.machine.specs.declared.Location.{Location}
use Rattle.machine.specs.declared.Location.TheVariants.{Bug, Field}
use Rattle.machine.specs.declared.Refusal.TheVariants.{UndefinedField, NotABlock, OutsideBlock}
use Rattle.machine.specs.Answer.{Checked, passed, ◌>>=◌, ◌>>◌, need}
use Rattle.machine.specs.State.{undefined}
use Rattle.machine.specs.Storage.{word_at}
use Rattle.machine.specs.Sound.{Engine}

-- the live blocks of an engine
abbrev pub live_blocks : Engine → List Block
live_blocks e = live e.state.core.setup e.state.map

-- what references read: bugs, definitions and set-up numbers, the block map and the storage
pub record World : Type 0 where
  pub bugs : List ℕ
  pub definitions : List Definition
  pub setup : SetUp
  pub map : List ℕ
  pub storage : List ℕ

unfoldable pub world : Engine → World
world e =
    record {
      bugs = e.state.core.bugs;
      definitions = e.state.core.definitions;
      setup = e.state.core.setup;
      map = e.state.map;
      storage = e.storage;
    }

-- the definition of a field
unfoldable pub definition_of : FieldName → World → Definition
definition_of f w = get_or w.definitions f.0 undefined

-- what stands at a location: a bug's word, or a field's bits
unfoldable pub contents_of : ℕ → List ℕ → ℕ → List ℕ → Location → ℕ
contents_of b bugs s1 storage (Bug x) = get_or bugs x.0 0
contents_of b bugs s1 storage (Field address left right) = field_of b left right (word_at s1 address storage)

abbrev pub contents : ℕ → World → Location → ℕ
contents b w at = contents_of b w.bugs w.setup.s1 w.storage at

-- the bits of a location: a bug is a whole word
unfoldable pub width_of : ℕ → Location → ℕ
width_of b (Bug x) = b
width_of b (Field address left right) = width left right

-- one link by its field's definition, the pointer, and the size of the live block that starts there (0: none), in this order:
-- field defined (14), pointer is the start of a live block (15), word inside that block (16)
unfoldable pub link_by : Definition → ℕ → ℕ → Checked Location
link_by x n pointer = do
  need x.defined UndefinedField
  need (not (eqb n 0)) NotABlock
  need (ltb x.word n) OutsideBlock
  passed (Field (pointer + x.word) x.left x.right)

unfoldable pub link : World → ℕ → FieldName → Checked Location
link w pointer f = link_by (definition_of f w) (size_at pointer (live w.setup w.map)) pointer

-- the links one after the other: what one holds is the next one's pointer
unfoldable pub follow : ℕ → World → Location → List FieldName → Checked Location
follow b w at [] = passed at
follow b w at (f ∷ fs) = link w (contents b w at) f >>= λ next. follow b w next fs

-- the location of a reference: its bug, or that of its last link
unfoldable pub locate : ℕ → World → Pair → Checked Location
locate b w p = follow b w (Bug (reference_of p.value).bug) (reference_of p.value).fields

-- a value and its width; a literal is a whole word
pub record Value : Type 0 where
  pub value : ℕ
  pub width : ℕ

unfoldable pub read : ℕ → World → Location → Value
read b w at = record { value = contents b w at; width = width_of b at }

-- an operand that is used: a literal (form 1), or what stands where a reference leads
unfoldable pub operand : ℕ → World → Pair → Checked Value
operand b w p =
    cond (eqb p.form 1) (passed (record { value = p.value; width = b })) (locate b w p >>= λ at. passed (read b w at))
