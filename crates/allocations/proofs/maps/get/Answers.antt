-- `allocations::maps::get` meets its contract. The address delivered is the one found, and each run lies in the set-up words. Assumes nothing.
use Rattle.std.proofs.Common.{◌≡◌, ℕ, List, [], ◌∷◌, sym, ◌∙◌, arith, rules}
use mathlib.Core.List.{Memᴰ}
use Rattle.buddy.specs.Lowest.{first_of}
use Rattle.buddy.proofs.Answers.{told_first}
use Rattle.block.proofs.Runs.{runs_sound}
use Rattle.block.proofs.Size.{size_pos, level_le, top_le}
use Rattle.allocations.proofs.maps.get.Goals as goal

-- the first of a list is one of it
first-mem : (l : List ℕ) (a : ℕ) → first_of l ≡ first_of (a ∷ []) → Memᴰ a l
unfolding first_of
first-mem [] a e = let z : ◌≡◌ {A = ℕ} 0 1 = cc in absurd (omega arith)
first-mem (x ∷ xs) a e = let same : a ≡ x = cc in Memᴰ.head same

pub level_of-j-requires : goal.level_of-j-requires
level_of-j-requires c = rw c.top_of.ensures (top_le _)

pub lowest_run-requires : goal.lowest_run-requires
lowest_run-requires c = (search rules, search rules, rw (c.level_of-j.ensures, c.top_of.ensures) (level_le _ _))

pub deliver-requires : goal.deliver-requires
unfolding first_of
deliver-requires c =
    let found = sym (told_first _ c.lowest_run.ensures) ∙ c.in-Some.is in
    let run = runs_sound _ _ _ (size_pos _) (first-mem _ _ found) in (
      search rules,
      search rules,
      run.0,
      omega (arith, run.1, size_pos c.level_of-j.result),
      rw (c.level_of-j.ensures, c.top_of.ensures) (level_le _ _),
      found,
    )
