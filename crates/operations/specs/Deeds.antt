-- What a step does besides going to a place, with locations as the machine has them; code has them as numbers. Assumes nothing.
use Rattle.std.specs.Prelude.{ℕ}
use Rattle.block.specs.declared.SetUp.{SetUp}
use Rattle.table.specs.declared.FieldName.{FieldName}
use Rattle.machine.specs.declared.Definition.{Definition}
use Rattle.machine.specs.declared.Location.{Location}
use Rattle.operands.specs.Locating.{located}
use Rattle.operations.specs.declared.Action.{Action}
use Rattle.operations.specs.declared.Action.TheVariants as action

pub data Deed : Type 0 where
  Nothing : Deed
  -- a value stored at a location, and two stores one after the other
  Store : Location → ℕ → Deed
  StoreTwo : Location → ℕ → Location → ℕ → Deed
  SetUpWords : SetUp → Deed
  Define : FieldName → Definition → Deed
  -- a block by its address, size and the address that it is a copy of (0: none), its address stored at a location
  Deliver : ℕ → ℕ → ℕ → Location → Deed
  -- the same without a copy, and then a second store
  DeliverTwo : ℕ → ℕ → Location → Location → ℕ → Deed
  -- the block at an address, and a store
  Free : ℕ → Location → ℕ → Deed
  -- a store of what so many characters give
  Input : Location → ℕ → ℕ → Deed
  -- so many characters, of a value so wide
  Print : ℕ → ℕ → ℕ → Deed
  Save : ℕ → Deed
  -- a store of the newest saved value
  Restore : Location → ℕ → Deed
  SaveDefinition : FieldName → Deed
  RestoreDefinition : FieldName → Deed
  Call : ℕ → Deed
  Return : Deed

-- what an action means
unfoldable pub meant : Action → Deed
meant action.Nothing = Nothing
meant (action.Store at v) = Store (located at) v
meant (action.StoreTwo a v c x) = StoreTwo (located a) v (located c) x
meant (action.SetUpWords u) = SetUpWords u
meant (action.Define f x) = Define f x
meant (action.Deliver address n from a) = Deliver address n from (located a)
meant (action.DeliverTwo address n a a2 v) = DeliverTwo address n (located a) (located a2) v
meant (action.Free address at v) = Free address (located at) v
meant (action.Input at v n) = Input (located at) v n
meant (action.Print n width v) = Print n width v
meant (action.Save v) = Save v
meant (action.Restore at v) = Restore (located at) v
meant (action.SaveDefinition f) = SaveDefinition f
meant (action.RestoreDefinition f) = RestoreDefinition f
meant (action.Call row) = Call row
meant action.Return = Return
