-- A store's part in the report does to the storage what the store does. Assumes nothing.
use Prim.Native.Nat.{ℕ, zero, suc, ◌-◌, ◌<◌}
use native.Mathlib.Omega.{arith}
use mathlib.Core.Bool.{true, false, cond}
use mathlib.Core.List.{List, [], ◌∷◌}
use mathlib.Core.Path.{◌≡◌, refl, sym, ap}
use borrow.Author.Tests.{eqb-true, ne_eqb}
use lib.Dec.{eqb}
use lib.ListN.{get_or, set}
use Rattle.word.specs.Field.{width, kept, stored}
use Rattle.word.proofs.Field.{stored_kept, stored_null}
use Rattle.machine.specs.declared.Location.{Location}
use Rattle.machine.specs.declared.Location.TheVariants.{Bug, Field}
use Rattle.machine.specs.Storage.{no_store_of, word_at, with_store}
use Rattle.machine.specs.Effects.{store_to}
use Rattle.operands.specs.Storing.{words_stored}

-- what stands in a place is put there again
set_again : (l : List ℕ) (i : ℕ) → set l i (get_or l i 0) ≡ l
set_again [] i = refl
set_again (x ∷ xs) zero = refl
set_again (x ∷ xs) (suc i) = ap (λ (t : List ℕ). x ∷ t) (set_again xs i)

-- a field's word is not at address zero
unfoldable pub NotNull : Location → Type 0
NotNull (Bug x) = Unit {0}
NotNull (Field address left right) = 0 < address

-- a store's part in the storage
pub store_words : (b s1 : ℕ) (at : Location) (v : ℕ) (ws : List ℕ) → NotNull at → with_store b s1 (store_to at v) ws ≡ words_stored b s1 at v ws
unfolding with_store store_to words_stored no_store_of NotNull word_at
store_words b s1 (Bug x) v ws h = refl
store_words b s1 (Field address left right) v ws h =
    elim (eqb (width left right) 0) as (λ t. eqb (width left right) 0 ≡ t
    → with_store b s1 (cond t no_store_of (record { address = address; left = left; right = right; bits = kept left right v })) ws
    ≡ set ws (address - s1) (stored b left right (word_at s1 address ws) v)) [
      | true ↦ λ e. null (eqb-true (width left right) 0 e)
      | false ↦ λ e. rw (ne_eqb address 0 (λ z. absurd (omega arith)), stored_kept b left right (word_at s1 address ws) v)
    ] refl
  where
    null : width left right ≡ 0 → ws ≡ set ws (address - s1) (stored b left right (word_at s1 address ws) v)
    null z = sym (rw (stored_null b left right (word_at s1 address ws) v z) (set_again ws (address - s1)))
