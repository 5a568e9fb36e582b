-- The claim of demand 3 about a whole list of events, part by part.
-- The set-up words are the book's: those of the set-up and of all extensions so far, and 17 is judged against those of its moment.
-- Document 01: demand 3, "Blocks" and "The book"; document 02, ticket 11. Assumes nothing.
use Rattle.std.specs.Prelude.{ℕ, ◌+◌, ◌%◌, ◌≤◌, ◌<◌, true, false, ◌≡◌, ◌↔◌, ◌⊎◌}
use mathlib.Core.List.{List, [], ◌∷◌, ◌++◌, Memᴰ}
use Rattle.word.specs.Word.{bit}
use Rattle.block.specs.declared.SetUp.{SetUp}
use Rattle.block.specs.Blocks.{size, Block, covering}
use Rattle.block.specs.SetUp.{words}
use Rattle.block.specs.Map.{free}
use Rattle.table.specs.Row.{length_fits, row_at}
use Rattle.table.specs.Table.{usable}
use Rattle.machine.specs.declared.Answer.TheVariants.{Refused}
use Rattle.machine.specs.declared.Refusal.TheVariants.{NoRun}
use Rattle.machine.specs.Answer.{passed}
use Rattle.machine.specs.State.{is_set_up}
use Rattle.machine.specs.Storage.{word_at}
use Rattle.machine.specs.Sound.{Lent, Engine, sound}
use Rattle.machine.specs.Locate.{live_blocks}
use Rattle.machine.specs.Operations.{Wanted, get_wants, duplicate_wants}
use Rattle.machine.specs.Step.{given}
use Rattle.book.specs.Book.{LiveBlock, blocks, halves}
use Rattle.book.specs.Steps.{Event, stepped, extended, Leads, LiveBy, book_after}

infix 30 ◌∈◌
abbrev pub ◌∈◌ : {A : Type 0} → A → List A → Type 0
x ∈ xs = Memᴰ x xs

-- live and free blocks tile the set-up words
pub record Tiled (u : SetUp) (live free : List Block) : Type 0 where
  -- each set-up word lies in just one block
  pub once : (w : ℕ) → u.s1 ≤ w → w < u.s1 + words u → covering w (live ++ free) ≡ 1
  -- each block lies in the set-up words
  pub inside : (x : Block) → x ∈ live ++ free → (u.s1 ≤ x.address) × (x.address + x.size ≤ u.s1 + words u)
  -- it starts on an address that its size divides
  pub aligned : (x : Block) → x ∈ live ++ free → x.address % x.size ≡ 0
  -- sizes are powers of two up to d
  pub sizes : (x : Block) → x ∈ live ++ free → ((k : ℕ) × (x.size ≡ size k)) × (x.size ≤ u.d)
  -- no two free halves of one block stand separately
  pub apart : (x y : Block) → x ∈ free → y ∈ free → halves u.d x y ≡ false

-- an aligned run of n words in the set-up words, outside the blocks that are live by the reports
pub record AlignedRun (u : SetUp) (events : List Event) (n at : ℕ) : Type 0 where
  pub aligned : at % n ≡ 0
  pub first : u.s1 ≤ at
  pub last : at + n ≤ u.s1 + words u
  pub outside : (x : Block) → LiveBy x events → (x.address + x.size ≤ at) ⊎ (at + n ≤ x.address)

-- a step is a get or a duplicate that clears its earlier checks, and wants this
pub record Wants (b : ℕ) (l : Lent) (e : Engine) (w : Wanted) : Type 0 where
  pub is_sound : sound b l e ≡ true
  pub at_operation : e.state.core.place.kind ≡ 1
  pub has_table : length_fits l.table ≡ true
  pub has_row : usable 3 b l.table e.state.core.place.row ≡ true
  pub in_turn : is_set_up e.state.core ≡ true
  pub cleared : (((row_at l.table e.state.core.place.row).code ≡ 3) × (get_wants b (given l e) ≡ passed w))
      ⊎ (((row_at l.table e.state.core.place.row).code ≡ 5) × (duplicate_wants b (given l e) ≡ passed w))

-- each get or duplicate that clears its earlier checks is refused by 17 exactly when there is no aligned run of its size
unfoldable pub Served : ℕ → List Event → Type 0
Served b [] = Unit {0}
Served b (stepped l e o ∷ events) =
    ((w : Wanted) → Wants b l e w
    → (o.stepped.answer ≡ Refused NoRun)
    ↔ ((at : ℕ) → AlignedRun (book_after events).setup events w.words at → ⊥))
    × Served b events
Served b (extended last e x ∷ events) = Served b events

-- demand 3
pub record Demand3 (b : ℕ) (events : List Event) (e : Engine) : Type 0 where
  -- 1: the engine's live blocks are those reported delivered and not since reported freed
  pub reported : (x : Block) → x ∈ live_blocks e ↔ LiveBy x events
  -- 2: its live and free blocks are those of the book
  pub live : live_blocks e ≡ blocks (book_after events).live
  pub free : free e.state.core.setup e.state.map ≡ (book_after events).free
  -- 3: the engine's set-up numbers are the book's, and together the blocks tile the words that these set up
  pub setup : e.state.core.setup ≡ (book_after events).setup
  pub tiled : Tiled (book_after events).setup (live_blocks e) (Rattle.block.specs.Map.free e.state.core.setup e.state.map)
  -- 4: each bit of a live block in the storage is the book's
  pub bits : (x : LiveBlock) → x ∈ (book_after events).live → (i p : ℕ) → i < x.block.size → p < b
      → bit b (word_at (book_after events).setup.s1 (x.block.address + i) e.storage) p ≡ x.bits i p
  -- 5: each get or duplicate that clears its earlier checks is refused by 17 exactly when no aligned run of its size is outside the
  -- live blocks
  pub served : Served b events

-- after every list of events from a fresh engine of width b, whatever the storage held at first and whatever tables, inputs and
-- outputs were lent
abbrev pub Claim : ℕ → Type 0
Claim b = (ws : List ℕ) (events : List Event) (e : Engine) → Leads b ws events e → Demand3 b events e
