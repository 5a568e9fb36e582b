-- What a report says of the storage. A step changes storage words only as its report, or a set-up, says.
-- Document 01: "Steps" (the report), "Blocks" and "Fields and references". Assumes nothing.
use Rattle.std.specs.Prelude.{ℕ, ◌+◌, ◌-◌, cond, List, ◌++◌, eqb, length, get_or, set, take, drop, replicate}
use Rattle.word.specs.Field.{stored}
use Rattle.machine.specs.declared.Store.{Store}
use Rattle.machine.specs.declared.Report.{Report}

-- no store
unfoldable pub no_store_of : Store
no_store_of = record { address = 0; left = 0; right = 0; bits = 0 }

-- nothing to report
unfoldable pub no_report : Report
no_report = record { freed = 0; delivered = 0; size = 0; copied = 0; first = no_store_of; second = no_store_of }

-- xs in the places from i on
unfoldable pub placed : ℕ → List ℕ → List ℕ → List ℕ
placed i xs ws = take i ws ++ (xs ++ drop (i + length xs) ws)

-- the word at an address; address s1 is the first lent word
unfoldable pub word_at : ℕ → ℕ → List ℕ → ℕ
word_at s1 address ws = get_or ws (address - s1) 0

-- a store changes the word at its address, there in bits left to right
unfoldable pub with_store : ℕ → ℕ → Store → List ℕ → List ℕ
with_store b s1 x ws =
    cond (eqb x.address 0) ws
    (set ws (x.address - s1) (stored b x.left x.right (word_at s1 x.address ws) x.bits))

-- delivered words are zero
unfoldable pub with_delivery : ℕ → Report → List ℕ → List ℕ
with_delivery s1 r ws = placed (r.delivered - s1) (replicate r.size 0) ws

-- a duplicate's words are those of the block that it copies
unfoldable pub with_copy : ℕ → Report → List ℕ → List ℕ
with_copy s1 r ws =
    cond (eqb r.copied 0) ws (placed (r.delivered - s1) (take r.size (drop (r.copied - s1) ws)) ws)

-- delivery, copy, first store, second store, in this order
unfoldable pub after_report : ℕ → ℕ → Report → List ℕ → List ℕ
after_report b s1 r ws = with_store b s1 r.second (with_store b s1 r.first (with_copy s1 r (with_delivery s1 r ws)))
