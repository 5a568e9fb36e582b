-- The operands that an operation's row has, as code takes them. Assumes nothing.
use Rattle.std.specs.Prelude.{ℕ, ◌≤◌, ◌<◌, true, ◌≡◌}
use Rattle.table.specs.declared.Row.{Row}
use Rattle.table.specs.Reference.{is_reference}
use Rattle.operands.specs.Reading.{Taken}
use Rattle.operations.specs.Plans.{Acts}

-- of 32 to 36: a, or a name
pub record Stacked (row : Row) : Type 0 where
  pub contents : row.code ≤ 33 → is_reference row.first.value ≡ true
  pub name : row.name < 36

-- (a, x) and perhaps a2
pub record Two (b : ℕ) (row : Row) : Type 0 where
  pub a : is_reference row.first.value ≡ true
  pub x : Taken b row.second
  pub a2 : (row.third.form ≡ 0 → ⊥) → is_reference row.third.value ≡ true

-- (cd, cd, cd) with a name
pub record Three (b : ℕ) (row : Row) : Type 0 where
  pub first : Taken b row.first
  pub second : Taken b row.second
  pub third : Taken b row.third
  pub name : row.name < 36

-- of every operation but the set-up
pub record Operates (b : ℕ) (row : Row) : Type 0 where
  pub low : 2 ≤ row.code
  pub high : row.code ≤ 36
  pub stack : 31 < row.code → Stacked row
  pub define : row.code ≡ 2 → Three b row
  pub swap : row.code ≡ 7 → (is_reference row.first.value ≡ true) × (is_reference row.second.value ≡ true)
  pub print : row.code ≡ 25 → Taken b row.first × Taken b row.second
  pub two : Acts row.code → Two b row
