-- `character::blanks_to_zeros` meets its contract. Blanks in front of a narrow field's characters add nothing.
-- Assumes nothing.
use mathlib.Core.Path.{◌≡◌, sym, ◌∙◌}
use Prim.Native.Nat.{ℕ, ◌-◌, min}
use native.Mathlib.Omega.{arith}
use Rattle.character.specs.Character.{characters, packed, holds, blank, leading, printed, blanks_to_zeros}
use Rattle.character.proofs.Digits.{blanks_first}
use Rattle.character.proofs.blanks_to_zeros.Goals as goal

-- the characters that the field holds decide
held : (n width v k : ℕ) → k ≡ min n (holds width) → packed (leading 48 0 (characters k v)) ≡ blanks_to_zeros n width v
unfolding blanks_to_zeros printed blank
held n width v k e = rw e (sym (blanks_first (n - holds width) (characters (min n (holds width)) v)))

pub returns : goal.returns
returns c = c.changed.ensures ∙ held _ _ _ _ (omega arith)
