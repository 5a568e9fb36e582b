-- States whose numbers are in the ranges of their types and whose arrays have their lengths: every value of the type State is one.
-- Assumes nothing.
use Rattle.std.specs.Prelude.{ℕ, ◌<◌, ◌^◌, List, ◌≡◌, length, get_or}
use Rattle.machine.specs.declared.Place.{Place}
use Rattle.machine.specs.declared.Definition.{Definition}
use Rattle.machine.specs.declared.Core.{Core}
use Rattle.machine.specs.declared.State.{State}
use Rattle.machine.specs.State.{tests_of, undefined}

-- so many, and each of them in range
pub record Array {A : Type 0} (Range : A → Type 0) (none : A) (n : ℕ) (xs : List A) : Type 0 where
  pub long : length xs ≡ n
  pub each : (i : ℕ) → i < n → Range (get_or xs i none)

-- a number of so many bytes
abbrev pub Bytes : ℕ → ℕ → Type 0
Bytes n x = x < 256 ^ n

pub record RangedPlace (p : Place) : Type 0 where
  pub kind : Bytes 1 p.kind
  pub row : Bytes 2 p.row
  pub line : Bytes 2 p.line

pub record RangedDefinition (x : Definition) : Type 0 where
  pub word : Bytes 1 x.word
  pub left : Bytes 1 x.left
  pub right : Bytes 1 x.right

-- the numbers before the bugs
pub record RangedNumbers (c : Core) : Type 0 where
  pub place : RangedPlace c.place
  pub taken : Bytes 8 c.taken
  pub written : Bytes 8 c.written
  pub d : Bytes 2 c.setup.d
  pub s1 : Bytes 2 c.setup.s1
  pub s2 : Bytes 2 c.setup.s2
  pub contents : Bytes 8 c.contents.count
  pub saved : Bytes 8 c.saved.count
  pub calls : Bytes 8 c.calls.count

-- the arrays before the map
pub record RangedArrays (c : Core) : Type 0 where
  pub bugs : Array (Bytes 8) 0 26 c.bugs
  pub contents : Array (Bytes 8) 0 128 c.contents.entries
  pub definitions : Array RangedDefinition undefined 36 c.definitions
  pub saved : Array RangedDefinition undefined 128 c.saved.entries
  pub calls : Array RangedPlace (tests_of 0) 128 c.calls.entries

pub record Ranged (s : State) : Type 0 where
  pub width : Bytes 1 s.width
  pub numbers : RangedNumbers s.core
  pub arrays : RangedArrays s.core
  pub map : Array (Bytes 1) 0 4096 s.map
