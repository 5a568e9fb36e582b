-- `extension::extend` meets its contract: what is judged, and then the words. Assumes nothing.
use native.Mathlib.Omega.{arith}
use Rattle.block.proofs.Extension.{extending_facts}
use Rattle.machine.specs.Extend.{not_extended}
use Rattle.extension.proofs.Extending.{granted, declined, enlarged, numbered}
use Rattle.extension.proofs.extend.Goals as goal

pub overflow_cast-last : goal.overflow_cast-last
overflow_cast-last c = omega (arith, (extending_facts _ _ _ (granted _ _ c.judge-answer.ensures c.in-Ok.is).taken).small)

pub grown-after-requires : goal.grown-after-requires
grown-after-requires c = let all = granted _ _ c.judge-answer.ensures c.in-Ok.is in (all.fits, all.taken, all.kept)

pub returns-in-Ok : goal.returns-in-Ok
returns-in-Ok c =
    let all = numbered _ _ (enlarged _ _ c.judge-answer.ensures c.in-Ok.is _ _ c.grown-after.ensures) in
    record { storage_after = all.0; numbered = all.1 }

pub returns-in-Err : goal.returns-in-Err
unfolding not_extended
returns-in-Err c =
    let all = numbered _ _ (declined _ _ c.judge-answer.ensures c.in-Err.is) in
    record { storage_after = all.0; numbered = all.1 }
