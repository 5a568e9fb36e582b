-- `allocations::references::result` meets its contract: the packed definitions are those made. Assumes nothing.
use Rattle.std.proofs.Common.{◌≡◌, true, List, sym, subst}
use Rattle.machine.specs.declared.Definition.{Definition}
use Rattle.machine.specs.Sound.{every, is_definition}
use Rattle.allocations.proofs.references.result.Goals as goal

pub followed-requires : goal.followed-requires
followed-requires c =
    subst (λ (ds : List Definition). every (is_definition 36) ds ≡ true) (sym c.pack_all.ensures)
    c.definitions.ensures
