-- The book: live blocks with their bits, and free blocks, both in the order of their addresses.
-- It is fed what steps report, the numbers of the set-up and the new last address of an extension; its entries take nothing else,
-- as their types show.
-- Document 01: "The book"; document 02, ticket 11. Assumes nothing.
use Rattle.std.specs.Prelude.{ℕ, zero, suc, ◌+◌, ◌-◌, ◌/◌, ◌%◌, ◌^◌, Bool, ◌&&◌, cond, List, [], ◌∷◌, ◌++◌, map, eqb, leb, ltb, length}
use Rattle.block.specs.declared.SetUp.{SetUp}
use Rattle.block.specs.Blocks.{Block, size_at, start, inserted, around}
use Rattle.block.specs.SetUp.{words}
use Rattle.block.specs.Extension.{extended_to}
use Rattle.machine.specs.declared.Store.{Store}
use Rattle.machine.specs.declared.Report.{Report}
use Rattle.machine.specs.State.{no_set_up}

-- a live block with its bits: bit p of its word i is bits i p
pub record LiveBlock : Type 0 where
  pub block : Block
  pub bits : ℕ → ℕ → ℕ

pub record Book : Type 0 where
  pub setup : SetUp
  pub live : List LiveBlock
  pub free : List Block

-- at first there are none
unfoldable pub empty_book : Book
empty_book = record { setup = no_set_up; live = []; free = [] }

-- the address by which live blocks are in order
unfoldable pub live_start : LiveBlock → ℕ
live_start x = x.block.address

-- a list less the one at address a
unfoldable pub without : {A : Type 0} → (A → ℕ) → ℕ → List A → List A
without key a [] = []
without key a (y ∷ ys) = cond (eqb (key y) a) ys (y ∷ without key a ys)

-- f done n times: enough for "as long as", since f changes nothing once there is nothing left to do
unfoldable pub times : {A : Type 0} → ℕ → (A → A) → A → A
times zero f x = x
times (suc n) f x = times n f (f x)

-- set-up: count blocks of size d from an address on
unfoldable pub blocks_from : ℕ → ℕ → ℕ → List Block
blocks_from d at zero = []
blocks_from d at (suc count) = record { address = at; size = d } ∷ blocks_from d (at + d) count

-- x and y are the lower and the upper half of one block no larger than d
unfoldable pub halves : ℕ → Block → Block → Bool
halves d x y =
    eqb x.size y.size
    && eqb (x.address + x.size) y.address
    && eqb (x.address % (x.size + x.size)) 0
    && leb (x.size + x.size) d

-- the first two free blocks that are the halves of one block become that block
unfoldable pub joined_once : ℕ → List Block → List Block
joined_once d [] = []
joined_once d (x ∷ []) = x ∷ []
joined_once d (x ∷ y ∷ ys) =
    cond (halves d x y) (record { address = x.address; size = x.size + x.size } ∷ ys) (x ∷ joined_once d (y ∷ ys))

-- the lower and the upper half of a block
unfoldable pub lower : Block → Block
lower x = record { address = x.address; size = x.size / 2 }

unfoldable pub upper : Block → Block
upper x = record { address = x.address + x.size / 2; size = x.size / 2 }

-- the free block around address a is halved if it is larger than n
unfoldable pub halved_once : ℕ → ℕ → List Block → List Block
halved_once a n [] = []
halved_once a n (x ∷ xs) =
    cond (around a x) (cond (ltb n x.size) (lower x ∷ upper x ∷ xs) (x ∷ xs)) (x ∷ halved_once a n xs)

-- the live blocks without their bits
unfoldable pub blocks : List LiveBlock → List Block
blocks = map (λ (x : LiveBlock). x.block)

-- no bit is one
unfoldable pub no_bits : ℕ → ℕ → ℕ
no_bits i p = 0

-- the bits of the live block at address a
unfoldable pub bits_at : ℕ → List LiveBlock → ℕ → ℕ → ℕ
bits_at a [] = no_bits
bits_at a (x ∷ xs) = cond (eqb x.block.address a) x.bits (bits_at a xs)

-- set-up: the words from s1 to s2 become free blocks of size d
unfoldable pub enter_set_up : SetUp → Book → Book
enter_set_up u k =
    cond (eqb u.d 0) k
    (record { setup = u; live = k.live; free = blocks_from u.d u.s1 (words u / u.d) })

-- extension: the words after the last one so far, up to a new last address, become free blocks of size d
unfoldable pub enter_extension : ℕ → Book → Book
enter_extension last k =
    record {
      setup = extended_to last k.setup;
      live = k.live;
      free = k.free ++ blocks_from k.setup.d (suc k.setup.s2) ((last - k.setup.s2) / k.setup.d);
    }

-- freed: the live block at that address becomes free and its bits are dropped. As long as two free blocks are the halves of
-- one block no larger than d, they become that block
unfoldable pub enter_freed : ℕ → Book → Book
enter_freed a k =
    cond (eqb a 0) k
    (let more = inserted start (record { address = a; size = size_at a (blocks k.live) }) k.free in
    record {
      setup = k.setup;
      live = without live_start a k.live;
      free = times (length more) (joined_once k.setup.d) more;
    })

-- delivered: as long as the free block around the new one is larger than it, that free block is halved, and the other half
-- stays free. Then the new block is live, its bits zero
unfoldable pub enter_delivered : ℕ → ℕ → Book → Book
enter_delivered a n k =
    cond (eqb n 0) k
    (record {
      setup = k.setup;
      live = inserted live_start (record { block = record { address = a; size = n }; bits = no_bits }) k.live;
      free = without start a (times k.setup.d (halved_once a n) k.free);
    })

-- copied from: the new block at address a gets the bits of the live block at address c
unfoldable pub enter_copied : ℕ → ℕ → Book → Book
enter_copied a c k =
    cond (eqb c 0) k
    (record {
      setup = k.setup;
      live =
          map (λ (x : LiveBlock). cond (eqb x.block.address a) (record { block = x.block; bits = bits_at c k.live }) x)
          k.live;
      free = k.free;
    })

-- the bits of a live block after a store: in the word at that address, bit p from left to right becomes the one of the bits
-- kept that stands right - p places from their right end
unfoldable pub stored_bits : Store → LiveBlock → ℕ → ℕ → ℕ
stored_bits s x i p =
    cond (eqb (x.block.address + i) s.address && leb s.left p && leb p s.right)
    (s.bits / 2 ^ (s.right - p) % 2)
    (x.bits i p)

-- a store
unfoldable pub enter_store : Store → Book → Book
enter_store s k =
    cond (eqb s.address 0) k
    (record {
      setup = k.setup;
      live = map (λ (x : LiveBlock). record { block = x.block; bits = stored_bits s x }) k.live;
      free = k.free;
    })

-- what the book is fed by one step: the numbers of a set-up, and the report
pub record Entry : Type 0 where
  pub setup : SetUp
  pub report : Report

-- the entries of one step, in this order
unfoldable pub enter : Entry → Book → Book
enter x k =
    enter_store x.report.second
    (enter_store x.report.first
    (enter_copied x.report.delivered x.report.copied
    (enter_delivered x.report.delivered x.report.size
    (enter_freed x.report.freed
    (enter_set_up x.setup k)))))
