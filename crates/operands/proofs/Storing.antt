-- What a store leaves, by the location. Assumes nothing.
use Prim.Native.Nat.{ℕ, ◌-◌, ◌%◌, ◌^◌, ◌<◌}
use mathlib.Core.List.{List}
use mathlib.Core.Bool.{true}
use mathlib.Core.Path.{◌≡◌, refl, subst}
use native.Mathlib.Omega.{arith}
use lib.Dec.{ltb}
use lib.ListN.{length, get_or, set, length-set}
use Rattle.word.specs.Field.{stored}
use Rattle.table.specs.declared.BugLetter.{BugLetter}
use Rattle.machine.specs.declared.Location.{Location}
use Rattle.machine.specs.declared.Location.TheVariants.{Bug, Field}
use Rattle.machine.specs.Sound.{every}
use Rattle.machine.proofs.Every.{every_set}
use Rattle.machine.proofs.Facts.{cut_below}
use Rattle.machine.specs.Storage.{word_at}
use Rattle.operands.specs.Reading.{Reached, Bugs}
use Rattle.operands.specs.Storing.{bugs_stored, words_stored}

module _ (b s1 v : ℕ) (bugs ws : List ℕ) {at : Location} where
  pub stored_bug : {x : BugLetter} → at ≡ Bug x → {n : ℕ} → n ≡ v % 2 ^ b
      → (set bugs x.0 n ≡ bugs_stored b at v bugs) × (ws ≡ words_stored b s1 at v ws)
  unfolding bugs_stored words_stored
  stored_bug e is = (rw (e, is), rw e)

  pub stored_field : {address left right : ℕ} → at ≡ Field address left right → {n : ℕ} → n ≡ stored b left right (get_or ws (address - s1) 0) v
      → (bugs ≡ bugs_stored b at v bugs) × (set ws (address - s1) n ≡ words_stored b s1 at v ws)
  unfolding bugs_stored words_stored word_at
  stored_field e is = (rw e, rw (e, is))

-- a store leaves the lengths
pub length_words : (b s1 : ℕ) (at : Location) (v : ℕ) (ws : List ℕ) → length (words_stored b s1 at v ws) ≡ length ws
unfolding words_stored
length_words b s1 (Bug x) v ws = refl
length_words b s1 (Field address left right) v ws = length-set ws (address - s1) _

-- whether a location can be reached depends on the storage's length alone
pub still_reached : (b s1 : ℕ) (ws ws' : List ℕ) (at : Location) → length ws' ≡ length ws → Reached b s1 ws at → Reached b s1 ws' at
unfolding Reached
still_reached b s1 ws ws' (Bug x) same h = h
still_reached b s1 ws ws' (Field address left right) same h = (h.0, h.1, omega (arith, h.2))

-- a store keeps the bugs below 2 ^ b
pub bugs_below : (b : ℕ) (at : Location) (v : ℕ) (bugs : List ℕ) → every (λ x. ltb x (2 ^ b)) bugs ≡ true
    → every (λ x. ltb x (2 ^ b)) (bugs_stored b at v bugs) ≡ true
unfolding bugs_stored
bugs_below b (Bug x) v bugs h = every_set (λ x. ltb x (2 ^ b)) bugs x.0 (v % 2 ^ b) h (cut_below b v)
bugs_below b (Field address left right) v bugs h = h

-- the bugs after a store, by the location
module _ (b v : ℕ) (bugs : List ℕ) {at : Location} where
  pub bugs_set : {x : BugLetter} → at ≡ Bug x → {n : ℕ} → n ≡ v % 2 ^ b → set bugs x.0 n ≡ bugs_stored b at v bugs
  unfolding bugs_stored
  bugs_set e is = rw (e, is)

  pub bugs_kept : {address left right : ℕ} → at ≡ Field address left right → bugs ≡ bugs_stored b at v bugs
  unfolding bugs_stored
  bugs_kept e = rw e

pub is_bug : {at : Location} {x : BugLetter} → at ≡ Bug x → Bugs at → x.0 < 26
unfolding Bugs
is_bug e h = subst Bugs e h

pub reached_bugs : (b s1 : ℕ) (ws : List ℕ) (at : Location) → Reached b s1 ws at → Bugs at
unfolding Reached Bugs
reached_bugs b s1 ws (Bug x) h = h
reached_bugs b s1 ws (Field address left right) h = tt
