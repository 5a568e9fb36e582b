-- `character::line_ends` meets its contract: n characters of octal 77 are packed as 64^n - 1 (`ends_packed`). Assumes nothing.
use mathlib.Core.Path.{sym, ap, ◌∙◌}
use Prim.Native.Nat.{ℕ, ◌-◌}
use native.Mathlib.Nat.{one-le-pow}
use native.Mathlib.Omega.{arith}
use Rattle.character.proofs.LineEnds.{ends_packed}
use Rattle.character.proofs.line_ends.Goals as goal

pub overflow_sub-result : goal.overflow_sub-result
overflow_sub-result c = omega (arith, one-le-pow c.args.n 64 (omega arith), c.power.ensures)

pub returns : goal.returns
returns c = ap (λ (p : ℕ). p - 1) c.power.ensures ∙ sym (ends_packed c.args.n)
