-- The storage's clauses of soundness, as code judges them: the set-up's numbers first, then blocks and words. Assumes nothing.
use Prim.Native.Nat.{ℕ, ◌^◌}
use mathlib.Core.Bool.{Bool, true, false, ◌&&◌, ◌||◌}
use mathlib.Core.List.{List}
use mathlib.Core.Path.{◌≡◌, sym, ◌∙◌}
use lib.Dec.{ltb}
use lib.ListN.{length, take}
use Rattle.block.specs.declared.SetUp.{SetUp}
use Rattle.block.specs.SetUp.{words, fitting, absent}
use Rattle.block.specs.Map.{keeps}
use Rattle.machine.specs.Sound.{every, sound_storage}

module _ (b : ℕ) (setup : SetUp) (map storage : List ℕ) (known : Bool) (is : known ≡ (fitting (length storage) setup || absent setup)) where
  pub not_known : known ≡ false → false ≡ sound_storage b setup map storage
  unfolding sound_storage
  not_known k = rw (sym is ∙ k)

  pub is_known : known ≡ true → {k w : Bool} → k ≡ keeps setup map → w ≡ every (λ x. ltb x (2 ^ b)) (take (words setup) storage)
      → (k && w) ≡ sound_storage b setup map storage
  unfolding sound_storage
  is_known sure {k} {w} kept below = rw (sym is ∙ sure, kept, below)

-- the first n words, by another name of their number
pub same_words : (b n m : ℕ) (l : List ℕ) (t : Bool) → n ≡ m → t ≡ every (λ x. ltb x (2 ^ b)) (take n l) → t ≡ every (λ x. ltb x (2 ^ b)) (take m l)
same_words b n m l t same is = rw (sym same) is
