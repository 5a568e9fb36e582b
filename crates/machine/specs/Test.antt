-- Tests and the five modes of a line: tests are taken in order, and evaluating stops at the first that settles the line.
-- Document 01: "Steps", and Knowlton's section 4. Assumes nothing.
use Rattle.std.specs.Prelude.{ℕ, zero, suc, ◌-◌, Bool, true, false, not, cond, List, [], ◌∷◌, eqb, ltb, get_or}
use Rattle.std.specs.Bool.{beq}
use Rattle.word.specs.Word.{both}
use Rattle.table.specs.Row.{row_at}
use Rattle.table.specs.Table.{usable}
use Rattle.machine.specs.declared.Refusal.TheVariants.{BadRow}
use Rattle.machine.specs.Answer.{Checked, passed, ◌>>=◌, ◌>>◌, need}
use Rattle.machine.specs.Locate.{World, operand}

-- the seven tests, in the order of their codes, on c and cd
unfoldable pub comparisons : ℕ → List (ℕ → ℕ → Bool)
comparisons b =
    (λ c cd. eqb c cd)  -- 1 equal
    ∷ (λ c cd. not (eqb c cd))  -- 2 unequal
    ∷ (λ c cd. ltb cd c)  -- 3 greater
    ∷ (λ c cd. ltb c cd)  -- 4 less
    ∷ (λ c cd. eqb c cd)  -- 5 same pointer: equal contents
    ∷ (λ c cd. eqb (both b c cd) cd)  -- 6 ones wherever cd has ones
    ∷ (λ c cd. eqb (both b c cd) 0)  -- 7 zeros wherever cd has ones
    ∷ []

unfoldable pub compared : ℕ → ℕ → ℕ → ℕ → Bool
compared b code = get_or (comparisons b) (code - 1) (λ c cd. false)

-- the outcome of a test that settles a line: true for 2 IFANY and 3 IFNONE, false for 1 IFALL and 4 IFNALL
unfoldable pub settling : ℕ → Bool
settling mode = cond (eqb mode 2) true (eqb mode 3)

-- whether a line that is settled so is satisfied: 2 IFANY and 4 IFNALL are. One that no test settles is the other way
unfoldable pub settled_as : ℕ → Bool
settled_as mode = cond (eqb mode 2) true (eqb mode 4)

-- a test that is made: whether it holds, and the row of the next one
pub record Made : Type 0 where
  pub holds : Bool
  pub next : ℕ

-- the test in row r: its 2, then its operands
unfoldable pub testing : ℕ → List ℕ → World → ℕ → Checked Made
testing b table w r = do
  let row = row_at table r
  need (usable 2 b table r) BadRow
  c ← operand b w row.first
  cd ← operand b w row.second
  passed (record { holds = compared b row.code c.value cd.value; next = row.next })

-- whether a line of this mode is satisfied, by its tests from row r on. A chain's rows ascend, so the row count bounds its tests
unfoldable pub satisfied : ℕ → List ℕ → World → ℕ → ℕ → ℕ → Checked Bool
satisfied b table w mode zero r = passed (not (settled_as mode))
satisfied b table w mode (suc count) r =
    cond (eqb r 0) (passed (not (settled_as mode)))
    (do
      t ← testing b table w r
      cond (beq t.holds (settling mode)) (passed (settled_as mode)) (satisfied b table w mode count t.next))
