-- Programs in a table, and the ten starred bench cases: each is a program, what is looked at after it has run, and what is there.
-- Document 01: "Bench cases"; d = 8, s1 = 8, s2 = 23. Assumes nothing.
use Rattle.std.specs.Prelude.{ℕ, suc, ◌^◌, Bool, List, [], ◌∷◌, ◌++◌, map, get_or, take, replicate}
use Rattle.word.specs.Told.{number}
use Rattle.block.specs.Blocks.{Block}
use Rattle.block.specs.Map.{same}
use Rattle.machine.specs.Answer.{told_answer}
use Rattle.machine.specs.State.{fresh}
use Rattle.machine.specs.Locate.{live_blocks}
use Rattle.machine.specs.Step.{RunOutcome, run}

-- the ten numbers of an operation's row, less its next: code, name and pairs
unfoldable pub operation : ℕ → ℕ → List ℕ → List ℕ
operation code name pairs = code ∷ name ∷ take 6 (pairs ++ replicate 6 0)

-- a pair that is a literal, or a reference
unfoldable pub lit : ℕ → List ℕ
lit v = 1 ∷ v ∷ []

unfoldable pub ref : ℕ → List ℕ
ref v = 2 ∷ v ∷ []

-- operations in rows from row r on, each chained to the one after it
unfoldable pub chain : ℕ → List (List ℕ) → List ℕ
chain r [] = []
chain r (x ∷ []) = 3 ∷ 0 ∷ x
chain r (x ∷ y ∷ ys) = (3 ∷ suc r ∷ x) ++ chain (suc r) (y ∷ ys)

-- row 0, a THEN line in row 1, and its operations
unfoldable pub program : List (List ℕ) → List ℕ
program operations = replicate 10 0 ++ (1 ∷ 0 ∷ 0 ∷ 0 ∷ 0 ∷ 2 ∷ 0 ∷ 0 ∷ 0 ∷ 0 ∷ []) ++ chain 2 operations

-- a program after the set-up of the bench, run from a fresh engine of 36 bits with 16 words, no input and room for 16 characters
unfoldable pub bench_run : List (List ℕ) → RunOutcome
bench_run operations =
    run 100
    (record {
      table = program (operation 1 0 (lit 8 ++ lit 8 ++ lit 23) ∷ operations);
      input = [];
      output = replicate 16 63;
    })
    (record { state = fresh 36; storage = replicate 16 1 })

-- what is looked at: the refusal's number, the bug of a letter, a storage word, the sizes of the live blocks
unfoldable pub refusal_of : RunOutcome → ℕ
refusal_of o = number (told_answer o.ran.answer)

unfoldable pub bug_of : ℕ → RunOutcome → ℕ
bug_of letter o = get_or o.ran.state.core.bugs letter 0

unfoldable pub word_of : ℕ → RunOutcome → ℕ
word_of i o = get_or o.storage i 0

unfoldable pub sizes_of : RunOutcome → List ℕ
sizes_of o = map (λ (x : Block). x.size) (live_blocks (record { state = o.ran.state; storage = o.storage }))

pub record Case : Type 0 where
  pub operations : List (List ℕ)
  pub seen : RunOutcome → List ℕ
  pub expected : List ℕ

unfoldable pub passes : Case → Bool
passes x = same (x.seen (bench_run x.operations)) x.expected

-- bugs W, X, Y as references; W's letter is 22
unfoldable pub W : ℕ
W = 33

unfoldable pub X : ℕ
X = 34

unfoldable pub Y : ℕ
Y = 35

-- the field A of W's block
unfoldable pub WA : ℕ
WA = 2123

-- get (a, size)
unfoldable pub getting : ℕ → ℕ → List ℕ
getting a n = operation 3 0 (ref a ++ lit n)

-- field A is bits left to right of word 0
unfoldable pub field : ℕ → ℕ → List ℕ
field left right = operation 2 10 (lit 0 ++ lit left ++ lit right)

-- an operation (a, literal), and one (a, c)
unfoldable pub with : ℕ → ℕ → ℕ → List ℕ
with code a v = operation code 0 (ref a ++ lit v)

unfoldable pub from : ℕ → ℕ → ℕ → List ℕ
from code a c = operation code 0 (ref a ++ ref c)

unfoldable pub cases : List Case
cases =
    -- sizes 3, 5, 9: 4, 8, refusal 8
    record {
      operations = getting W 3 ∷ getting X 5 ∷ getting Y 9 ∷ [];
      seen = λ o. refusal_of o ∷ sizes_of o;
      expected = 8 ∷ 4 ∷ 8 ∷ [];
    }
    -- two gets of 8, then 1: refusal 17
    ∷ record {
      operations = getting W 8 ∷ getting X 8 ∷ getting Y 1 ∷ [];
      seen = λ o. refusal_of o ∷ sizes_of o;
      expected = 17 ∷ 8 ∷ 8 ∷ [];
    }
    -- free either, get 8: its address
    ∷ record {
      operations =
          getting W 8 ∷ getting X 8 ∷ with 4 W 0 ∷ getting W 8 ∷ with 4 X 0 ∷ getting X 8 ∷ [];
      seen = λ o. refusal_of o ∷ bug_of 22 o ∷ bug_of 23 o ∷ [];
      expected = 0 ∷ 8 ∷ 16 ∷ [];
    }
    -- 32,769 into bits 6-20 of all ones
    ∷ record {
      operations = getting W 1 ∷ field 0 35 ∷ with 15 WA 0 ∷ field 6 20 ∷ with 6 WA 32769 ∷ [];
      seen = λ o. word_of 0 o ∷ [];
      expected = 0o770000177777 ∷ [];
    }
    -- 0 - 1 into 15 bits: refusal 22 (ticket 1)
    ∷ record {
      operations = getting W 1 ∷ field 21 35 ∷ with 9 WA 1 ∷ [];
      seen = λ o. refusal_of o ∷ word_of 0 o ∷ [];
      expected = 22 ∷ 0 ∷ [];
    }
    -- 2^35 × 3
    ∷ record {
      operations = with 6 W (2 ^ 35) ∷ with 10 W 3 ∷ [];
      seen = λ o. bug_of 22 o ∷ [];
      expected = 2 ^ 35 ∷ [];
    }
    -- 607 to decimal
    ∷ record {
      operations = with 6 W 607 ∷ from 29 W W ∷ [];
      seen = λ o. bug_of 22 o ∷ [];
      expected = 0o000000060007 ∷ [];
    }
    -- zeros to blanks
    ∷ record {
      operations = with 6 W 0o000000060007 ∷ from 31 W W ∷ [];
      seen = λ o. bug_of 22 o ∷ [];
      expected = 0o606060060007 ∷ [];
    }
    -- eight printed of o60007
    ∷ record {
      operations = operation 25 0 (lit 8 ++ lit 0o60007) ∷ [];
      seen = λ o. take 8 o.output;
      expected = 48 ∷ 48 ∷ 0 ∷ 0 ∷ 0 ∷ 6 ∷ 0 ∷ 7 ∷ [];
    }
    -- o606060060007 to binary: refusal 6
    ∷ record {
      operations = with 6 W 0o606060060007 ∷ from 27 X W ∷ [];
      seen = λ o. refusal_of o ∷ [];
      expected = 6 ∷ [];
    }
    ∷ []

-- the worked example of tourrun: its table
unfoldable pub tour : List ℕ
tour = program (operation 1 0 (lit 8 ++ lit 8 ++ lit 23) ∷ operation 25 0 (lit 2 ++ lit 7) ∷ [])

-- what tourrun lends: 4,096 words, no input, 4,096 output bytes; it runs 100,000 steps of words of 36 bits
unfoldable pub tour_run : List ℕ → List ℕ → RunOutcome
tour_run table input =
    run 100000 (record { table = table; input = input; output = replicate 4096 0 })
    (record { state = fresh 36; storage = replicate 4096 0 })
