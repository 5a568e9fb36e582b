-- Worked examples beside the starred bench cases: the slips that document 01 has heard of, each with what is right, and a step for
-- each refusal with its number. Document 01: "Slips heard in galleries", "From the input", "From the state"; d = 8, s1 = 8, s2 =
-- 23. Assumes nothing.
use Rattle.std.specs.Prelude.{ℕ, ◌^◌, Bool, List, [], ◌∷◌, ◌++◌, eqb, replicate}
use Rattle.word.specs.Told.{number}
use Rattle.machine.specs.declared.State.{State}
use Rattle.machine.specs.Answer.{told_answer}
use Rattle.machine.specs.State.{fresh, on_core, with_bug, with_contents}
use Rattle.machine.specs.Sound.{lends, engine_on}
use Rattle.machine.specs.Step.{run}
use Rattle.machine.specs.Bench.{Case, operation, program, lit, ref, W, X, Y, WA, getting, field, with, from, refusal_of, bug_of}
use Rattle.machine.specs.Bench.{word_of}

-- each is a program after the set-up of the bench, and what is there once it has run
unfoldable pub slips : List Case
slips =
    -- a2 of a get is located after it: (W,GT,2,WA) with W zero before, and again, with the old W then in the new block
    record {
      operations = field 0 35 ∷ operation 3 0 (ref W ++ lit 2 ++ ref WA) ∷ [];
      seen = λ o. refusal_of o ∷ bug_of 22 o ∷ [];
      expected = 0 ∷ 8 ∷ [];
    }
    ∷ record {
      operations = field 0 35 ∷ operation 3 0 (ref W ++ lit 2 ++ ref WA) ∷ operation 3 0 (ref W ++ lit 2 ++ ref WA) ∷ [];
      seen = λ o. refusal_of o ∷ bug_of 22 o ∷ word_of 2 o ∷ [];
      expected = 0 ∷ 10 ∷ 8 ∷ [];
    }
    -- c of a free is located before its block has gone: (W,FR,WA) with 5 in WA
    ∷ record {
      operations = field 0 35 ∷ getting W 2 ∷ with 6 WA 5 ∷ from 4 W WA ∷ [];
      seen = λ o. refusal_of o ∷ bug_of 22 o ∷ [];
      expected = 0 ∷ 5 ∷ [];
    }
    -- neighbours that are not halves of one block stay apart: of four blocks of 2 the middle ones are freed, and 4 words are found
    -- behind them
    ∷ record {
      operations = getting W 2 ∷ getting X 2 ∷ getting Y 2 ∷ getting W 2 ∷ with 4 X 0 ∷ with 4 Y 0 ∷ getting W 4 ∷ [];
      seen = λ o. refusal_of o ∷ bug_of 22 o ∷ [];
      expected = 0 ∷ 16 ∷ [];
    }
    ∷ []

-- a table, its input, a state and the refusal that a run of it ends by, 0 where it ends by none
pub record Refusing : Type 0 where
  pub table : List ℕ
  pub input : List ℕ
  pub state : State
  pub refusal : ℕ

unfoldable pub refuses_so : Refusing → Bool
refuses_so x =
    let o = run 100 (lends x.table x.input (replicate 16 63)) (engine_on x.state (replicate 16 1)) in
    eqb (number (told_answer o.ran.answer)) x.refusal

-- operations after the set-up, from a fresh engine
unfoldable pub refusing : List (List ℕ) → List ℕ → ℕ → Refusing
refusing operations input refusal =
    record {
      table = program (operation 1 0 (lit 8 ++ lit 8 ++ lit 23) ∷ operations);
      input = input;
      state = fresh 36;
      refusal = refusal;
    }

-- the same from another state
unfoldable pub refusing_from : State → List (List ℕ) → ℕ → Refusing
refusing_from state operations refusal =
    record { table = (refusing operations [] 0).table; input = []; state = state; refusal = refusal }

unfoldable pub refusals : List Refusing
refusals =
    -- 1 to 10, from the input
    record { table = replicate 10 0; input = []; state = fresh 36; refusal = 1 }
    ∷ refusing (operation 99 0 [] ∷ []) [] 2
    ∷ record { table = program (operation 1 0 (lit 3 ++ lit 8 ++ lit 23) ∷ []); input = []; state = fresh 36; refusal = 3 }
    ∷ refusing (with 24 W 1 ∷ []) (64 ∷ []) 4
    ∷ refusing (with 24 W 2 ∷ []) (1 ∷ []) 5
    ∷ refusing (with 6 W 0o60 ∷ from 27 X W ∷ []) [] 6
    ∷ refusing (operation 2 10 (lit 128 ++ lit 0 ++ lit 35) ∷ []) [] 7
    ∷ refusing (getting W 9 ∷ []) [] 8
    ∷ refusing (with 11 W 0 ∷ []) [] 9
    ∷ refusing (with 24 W 7 ∷ []) [] 10
    -- 11 to 21, from the state
    ∷ refusing_from (on_core (with_bug (record { 0 = 0 }) (2 ^ 36)) (fresh 36)) [] 11
    ∷ record { table = program (getting W 1 ∷ []); input = []; state = fresh 36; refusal = 12 }
    ∷ refusing (operation 1 0 (lit 8 ++ lit 8 ++ lit 23) ∷ []) [] 13
    ∷ refusing (getting W 1 ∷ with 6 WA 1 ∷ []) [] 14
    ∷ refusing (field 0 35 ∷ with 6 WA 1 ∷ []) [] 15
    ∷ refusing (operation 2 10 (lit 1 ++ lit 0 ++ lit 35) ∷ getting W 1 ∷ with 6 WA 1 ∷ []) [] 16
    ∷ refusing (getting W 8 ∷ getting W 8 ∷ getting W 1 ∷ []) [] 17
    ∷ refusing (field 0 35 ∷ getting W 1 ∷ from 6 WA W ∷ with 4 WA 0 ∷ []) [] 18
    ∷ refusing_from (on_core (with_contents (record { entries = replicate 128 0; count = 128 })) (fresh 36))
    (operation 32 0 (ref W) ∷ []) 19
    ∷ refusing (operation 33 0 (ref W) ∷ []) [] 20
    ∷ refusing (operation 25 0 (lit 17 ++ lit 7) ∷ []) [] 21
    -- 22 of ticket 1, 31 of ticket 9
    ∷ refusing (with 9 W 1 ∷ []) [] 22
    ∷ refusing_from (fresh 40) [] 31
    -- evaluating stops at the first test that settles the line: the second, of an undefined field, is not looked at
    ∷ record {
      table =
          replicate 10 0
          ++ (1 ∷ 0 ∷ 1 ∷ 0 ∷ 2 ∷ 0 ∷ 65535 ∷ 0 ∷ 0 ∷ 0 ∷ [])
          ++ (2 ∷ 3 ∷ 2 ∷ 0 ∷ (ref W ++ lit 0 ++ (0 ∷ 0 ∷ [])))
          ++ (2 ∷ 0 ∷ 1 ∷ 0 ∷ (ref WA ++ lit 0 ++ (0 ∷ 0 ∷ [])));
      input = [];
      state = fresh 36;
      refusal = 0;
    }
    -- the first byte of the input is taken first: were it dropped, there were too few (5)
    ∷ refusing (with 24 W 1 ∷ []) (33 ∷ []) 0
    ∷ []
