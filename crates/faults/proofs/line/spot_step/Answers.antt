-- `faults::line::spot_step` meets its contract: by the token. Assumes nothing.
use native.Mathlib.Omega.{arith}
use mathlib.Core.Path.{sym, ap, subst, ◌∙◌}
use Rattle.std.specs.Prelude.{Some}
use Rattle.lines.specs.declared.Spot.{Spot}
use Rattle.lines.specs.Walking.{Within}
use Rattle.faults.specs.Checking.{told_walk, spot_walk}
use Rattle.faults.proofs.line.spot_step.Goals as goal

pub word_step-requires : goal.word_step-requires
word_step-requires c =
    let (later, inside) = subst (λ (k : Spot). Within c.args.s.now c.args.at (Some k)) c.in-Word.is c.requires.1.1 in
    (omega arith, inside)

pub paren_step-requires : goal.paren_step-requires
paren_step-requires c =
    (c.requires.0, (c.requires.1.0, subst (λ (k : Spot). Within c.args.s.now c.args.at (Some k)) c.in-Paren.is c.requires.1.1))

pub returns-in-Word : goal.returns-in-Word
unfolding spot_walk
returns-in-Word c =
    c.word_step.ensures
    ∙ sym (ap (λ (k : Spot). told_walk (spot_walk c.args.s.now c.args.b c.args.walk c.args.at k)) c.in-Word.is)

pub returns-in-Paren : goal.returns-in-Paren
unfolding spot_walk
returns-in-Paren c =
    c.paren_step.ensures
    ∙ sym (ap (λ (k : Spot). told_walk (spot_walk c.args.s.now c.args.b c.args.walk c.args.at k)) c.in-Paren.is)
