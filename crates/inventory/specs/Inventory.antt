-- tourlist: the listing that it prints of the bytes of tour.tab and stops.in: the storage that the tour leaves. Text is ASCII.
-- Assumes nothing.
use Rattle.std.specs.Prelude.{ℕ, zero, suc, ◌+◌, ◌-◌, ◌/◌, ◌%◌, min, Bool, not, ◌&&◌, cond, List, [], ◌∷◌, ◌++◌, eqb, get_or}
use Prim.Native.String.{String}
use Rattle.block.specs.declared.SetUp.{SetUp}
use Rattle.block.specs.Blocks.{size}
use Rattle.block.specs.SetUp.{words}
use Rattle.machine.specs.declared.Definition.{Definition}
use Rattle.machine.specs.declared.Place.{Place}
use Rattle.machine.specs.declared.Stack.{Stack}
use Rattle.machine.specs.declared.Core.{Core}
use Rattle.machine.specs.declared.State.{State}
use Rattle.machine.specs.State.{undefined, tests_of}
use Rattle.machine.specs.Step.{RunOutcome}
use Rattle.tour.specs.Tour.{decimal, blank, newline, nought, played}
use Rattle.diagnosis.specs.Diagnosis.{spelled, field_character}

-- the last k octal digits of a number
unfoldable pub octal : ℕ → ℕ → List ℕ
octal zero n = []
octal (suc k) n = octal k (n / 8) ++ ((nought + n % 8) ∷ [])

-- a word at the end of a line: its twelve octal digits
unfoldable pub word_end : ℕ → List ℕ
word_end w = blank ∷ (octal 12 w ++ (newline ∷ []))

-- a number in decimal after a blank, and three of them at the end of a line
unfoldable pub number_text : ℕ → List ℕ
number_text n = blank ∷ decimal n

unfoldable pub three_end : ℕ → ℕ → ℕ → List ℕ
three_end x y z = number_text x ++ (number_text y ++ (number_text z ++ (newline ∷ [])))

-- the texts of n places from place i on, one after the other
unfoldable pub texts : (ℕ → List ℕ) → ℕ → ℕ → List ℕ
texts f i zero = []
texts f i (suc n) = f i ++ texts f (suc i) n

-- a bug that is not zero: its letter, and its word
unfoldable pub bug_text : ℕ → ℕ → List ℕ
bug_text i w = cond (eqb w 0) [] (spelled "bug " ++ ((65 + i) ∷ word_end w))

-- a field that is defined: its name, word, left and right bit
unfoldable pub field_text : ℕ → Definition → List ℕ
field_text i x = cond x.defined (spelled "field " ++ (field_character i ∷ three_end x.word x.left x.right)) []

-- a block's line: first and last address, and size. A live block's tag is even, a free one's odd, and other words have 0
unfoldable pub block_line : String → ℕ → ℕ → List ℕ
block_line word address tag =
    let n : ℕ = size ((tag - 1) / 2 % 8) in
    spelled word ++ three_end address (address + n - 1) n

unfoldable pub is_live_of : ℕ → Bool
is_live_of tag = not (eqb tag 0) && eqb (tag % 2) 0

-- where a block starts
unfoldable pub start_text : ℕ → ℕ → List ℕ
start_text address tag = cond (eqb tag 0) [] (cond (eqb (tag % 2) 0) (block_line "block" address tag) (block_line "free" address tag))

-- the tag of the block that the word at a place lies in: the last one up to there that is not 0
unfoldable pub owner : List ℕ → ℕ → ℕ
owner map zero = get_or map 0 0
owner map (suc i) = cond (eqb (get_or map (suc i) 0) 0) (owner map i) (get_or map (suc i) 0)

-- a word of a live block: its address in five octal digits, and the word
unfoldable pub content_text : ℕ → ℕ → ℕ → List ℕ
content_text address tag w = cond (is_live_of tag) (octal 5 address ++ word_end w) []

-- the block that starts at a place, if one does, and the word there, if it is live
unfoldable pub stored_text : ℕ → List ℕ → List ℕ → ℕ → List ℕ
stored_text s1 map storage i =
    start_text (s1 + i) (get_or map i 0) ++ content_text (s1 + i) (owner map i) (get_or storage i 0)

-- an entry of each stack: contents, a definition, a place (kind, row and line)
unfoldable pub saved_text : ℕ → List ℕ
saved_text w = spelled "contents" ++ word_end w

unfoldable pub definition_text : Definition → List ℕ
definition_text x =
    cond x.defined (spelled "definition" ++ three_end x.word x.left x.right) (spelled "definition undefined\n")

unfoldable pub place_text : Place → List ℕ
place_text p = spelled "place" ++ three_end p.kind p.row p.line

-- set-up, bugs and fields
unfoldable pub head_text : Core → List ℕ
head_text c =
    (spelled "set-up" ++ three_end c.setup.d c.setup.s1 c.setup.s2)
    ++ (texts (λ i. bug_text i (get_or c.bugs i 0)) 0 26 ++ texts (λ i. field_text i (get_or c.definitions i undefined)) 0 36)

-- the blocks by their addresses, of the words set up
unfoldable pub storage_text : SetUp → List ℕ → List ℕ → List ℕ
storage_text u map storage = texts (stored_text u.s1 map storage) 0 (min (words u) 4096)

-- the stacks: how many entries each has, and these, oldest first
unfoldable pub counts_line : ℕ → ℕ → ℕ → List ℕ
counts_line contents saved calls = spelled "stacks" ++ three_end contents saved calls

unfoldable pub stacks_text : Stack ℕ → Stack Definition → Stack Place → List ℕ
stacks_text contents saved calls =
    counts_line contents.count saved.count calls.count
    ++ (texts (λ i. saved_text (get_or contents.entries i 0)) 0 (min contents.count 128)
    ++ (texts (λ i. definition_text (get_or saved.entries i undefined)) 0 (min saved.count 128)
    ++ texts (λ i. place_text (get_or calls.entries i (tests_of 0))) 0 (min calls.count 128)))

-- the listing of a state and its storage
unfoldable pub listing : State → List ℕ → List ℕ
listing s storage =
    head_text s.core
    ++ (storage_text s.core.setup s.map storage ++ stacks_text s.core.contents s.core.saved s.core.calls)

-- what tourlist prints: the listing of what tourrun's run leaves
unfoldable pub printed : List ℕ → List ℕ → List ℕ
printed tab stops =
    let r : RunOutcome = played tab stops in
    listing r.ran.state r.storage
