-- A fresh engine is sound, over any storage and with anything lent. Assumes nothing.
use Prim.Native.Nat.{ℕ, ◌^◌}
use native.Mathlib.Omega.{arith}
use mathlib.Core.Bool.{true, or-true}
use mathlib.Core.List.{List}
use mathlib.Core.Path.{◌≡◌, refl, subst, sym}
use borrow.Author.Tests.{lt-ltb, le-leb}
use lib.ListN.{length, take}
use lib.Pow.{pow_pos}
use Rattle.block.specs.SetUp.{words, fitting, absent}
use Rattle.block.proofs.Map.{keeps_absent}
use Rattle.machine.specs.State.{fresh, no_set_up, undefined, tests_of}
use Rattle.machine.specs.Sound.{Lent, sound, is_definition, sound_place, is_place, is_row}
use Rattle.machine.proofs.Checks.{and_true}
use Rattle.machine.proofs.Every.{below, every_none, every_replicate}
use Rattle.machine.proofs.Facts.{CoreFacts, StorageFacts, Facts, facts_sound}
use Rattle.machine.proofs.Located.{undefined_fits}

fresh_core : (b : ℕ) → CoreFacts b (fresh b).core
unfolding fresh tests_of sound_place is_place is_row
fresh_core b =
    record {
      bugs = every_replicate (below (2 ^ b)) 26 0 (lt-ltb _ _ (pow_pos b));
      definitions = every_replicate (is_definition b) 36 undefined (undefined_fits b);
      place = refl;
      contents = record { few = omega arith; used = every_none (below (2 ^ b)) };
      saved = record { few = omega arith; used = every_none (is_definition b) };
      calls = record { few = omega arith; used = every_none is_place };
    }

pub no_words : words no_set_up ≡ 0
unfolding words no_set_up
no_words = refl

fresh_storage : (b : ℕ) (ws : List ℕ) → StorageFacts b (fresh b) ws
unfolding fresh absent no_set_up
fresh_storage b ws =
    record {
      numbers = or-true (fitting (length ws) no_set_up);
      blocks = keeps_absent no_set_up 4096 no_words;
      values = subst (λ n. Rattle.machine.specs.Sound.every (below (2 ^ b)) (take n ws) ≡ true) (sym no_words) (every_none (below (2 ^ b)));
    }

pub fresh_facts : (b : ℕ) (ws : List ℕ) → Facts b (record { state = fresh b; storage = ws })
fresh_facts b ws = record { core = fresh_core b; storage = fresh_storage b ws }

pub fresh_sound : (b : ℕ) (l : Lent) (ws : List ℕ) → sound b l (record { state = fresh b; storage = ws }) ≡ true
unfolding sound fresh
fresh_sound b l ws = and_true (and_true (facts_sound b (record { state = fresh b; storage = ws }) (fresh_facts b ws))
    (le-leb 0 (length l.input) (omega arith))) (le-leb 0 (length l.output) (omega arith))
