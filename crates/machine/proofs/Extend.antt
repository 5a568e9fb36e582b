-- An extension: one that is refused changes nothing, and any keeps a sound engine sound.
-- Assumes nothing.
use Prim.Native.Nat.{ℕ, ◌+◌, ◌-◌, ◌^◌, ◌≤◌}
use native.Mathlib.Omega.{arith}
use mathlib.Core.Bool.{Bool, true, false, cond}
use mathlib.Core.List.{List, [], ◌∷◌, ◌++◌, append_assoc}
use mathlib.Core.Logic.{◌⊎◌, inl, inr}
use mathlib.Core.Path.{◌≡◌, refl, sym, ap, subst, ◌∙◌}
use borrow.Author.Tests.{lt-ltb}
use lib.ListN.{length, take, drop, replicate, length-append, length-replicate}
use lib.Seq.{take_at, length-take-le}
use lib.Pow.{pow_pos}
use Rattle.std.specs.Prelude.{Result, Err}
use Rattle.word.specs.Word.{is_width}
use Rattle.word.proofs.Tests.{by_test}
use Rattle.block.specs.declared.SetUp.{SetUp}
use Rattle.block.specs.SetUp.{words, fitting, absent}
use Rattle.block.specs.Extension.{extended_to, extending}
use Rattle.block.proofs.Size.{absent_facts}
use Rattle.block.proofs.Extension.{extending_facts, extended_words, extended_fits, extended_section}
use Rattle.machine.specs.declared.ExtensionError.{ExtensionError}
use Rattle.machine.specs.declared.ExtensionError.TheVariants.{NoWidth, Unsound, BeforeSetUp, LastAddress}
use Rattle.machine.specs.State.{is_set_up, with_set_up, on_core, with_map}
use Rattle.machine.specs.Storage.{placed}
use Rattle.machine.specs.Sound.{Engine, every, sound_engine}
use Rattle.machine.specs.Extend.{Extension, is_done, not_extended, engine_extended, extended_by, extend_at, extend, engine_left}
use Rattle.machine.proofs.Checks.{or_parts, nonzero}
use Rattle.machine.proofs.Every.{below, every_cons, every_parts, every_replicate}
use Rattle.machine.proofs.Facts.{Facts, sound_facts, setup_facts}
use Rattle.machine.proofs.Placed.{length_placed}

-- what an extension comes to
pub data Extends (b last : ℕ) (e : Engine) (x : Extension) : Type 0 where
  refusing : (answer : Result (Unit {0}) ExtensionError) → is_done answer ≡ false → x ≡ not_extended answer e → Extends b last e x
  growing : Facts b e → is_set_up e.state.core ≡ true → extending (length e.storage) last e.state.core.setup ≡ true
      → x ≡ extended_by last e → Extends b last e x

-- an extension leaves all as it was, or the engine with more words
pub extends_at : (b last : ℕ) (e : Engine) → Extends b last e (extend_at b last e)
unfolding extend_at is_done
extends_at b last e =
    elim (sound_engine b e) as (λ t. sound_engine b e ≡ t → Extends b last e (cond t (cond (is_set_up e.state.core)
    (cond (extending (length e.storage) last e.state.core.setup) (extended_by last e) (not_extended (Err LastAddress) e))
    (not_extended (Err BeforeSetUp) e)) (not_extended (Err Unsound) e))) [
      | true ↦ λ s. elim (is_set_up e.state.core) as (λ t. is_set_up e.state.core ≡ t → Extends b last e (cond t
          (cond (extending (length e.storage) last e.state.core.setup) (extended_by last e) (not_extended (Err LastAddress) e))
          (not_extended (Err BeforeSetUp) e))) [
            | true ↦ λ up. elim (extending (length e.storage) last e.state.core.setup) as (λ t.
                extending (length e.storage) last e.state.core.setup ≡ t
                → Extends b last e (cond t (extended_by last e) (not_extended (Err LastAddress) e)))
                [ true ↦ λ k. growing (sound_facts b e s) up k refl | false ↦ λ k. refusing (Err LastAddress) refl refl ] refl
            | false ↦ λ up. refusing (Err BeforeSetUp) refl refl
          ] refl
      | false ↦ λ s. refusing (Err Unsound) refl refl
    ] refl

-- an extension goes by the state's width, or is refused by 31
pub extends : (last : ℕ) (e : Engine) → Extends e.state.width last e (extend last e)
unfolding extend is_done
extends last e =
    by_test (λ t. Extends e.state.width last e (cond t (extend_at e.state.width last e) (not_extended (Err NoWidth) e))) (is_width e.state.width)
    (λ _. extends_at e.state.width last e) (λ _. refusing (Err NoWidth) refl refl)

-- where the width is one, it is an extension of words of that many bits
pub extend_is : (b last : ℕ) (e : Engine) → e.state.width ≡ b → is_width b ≡ true → extend last e ≡ extend_at b last e
unfolding extend
extend_is b last e same wide = rw (same, wide)

-- a refused extension changes no state and no storage word
pub refused_extension : (last : ℕ) (e : Engine) → is_done (extend last e).extended.answer ≡ false → engine_left (extend last e) ≡ e
unfolding not_extended extended_by engine_left is_done
refused_extension last e k = go (extends last e)
  where
    go : Extends e.state.width last e (extend last e) → engine_left (extend last e) ≡ e
    go (refusing answer f x) = rw x
    go (growing _ _ _ x) = let never : ◌≡◌ {A = Bool} true false = sym (ap (λ (y : Extension). is_done y.extended.answer) x) ∙ k in cc

-- an extension leaves the width
pub extend_width : (b last : ℕ) (e : Engine) → (extend_at b last e).extended.state.width ≡ e.state.width
unfolding not_extended extended_by engine_extended on_core with_map
extend_width b last e = go (extends_at b last e)
  where
    go : Extends b last e (extend_at b last e) → (extend_at b last e).extended.state.width ≡ e.state.width
    go (refusing answer f x) = rw x
    go (growing _ _ _ x) = rw x

-- of two lists, one after the other
every_append : {A : Type 0} (f : A → Bool) (xs ys : List A) → every f xs ≡ true → every f ys ≡ true → every f (xs ++ ys) ≡ true
every_append f [] ys h k = k
every_append f (x ∷ xs) ys h k = every_cons f x _ (every_parts f x xs h).0 (every_append f xs ys (every_parts f x xs h).1 k)

-- the first words with zeros placed after them
zeros_after_lem : (n m : ℕ) (ws : List ℕ) → n + m ≤ length ws → take (n + m) (placed n (replicate m 0) ws) ≡ take n ws ++ replicate m 0
unfolding placed
zeros_after_lem n m ws l =
    let long : length (take n ws ++ replicate {A = ℕ} m 0) ≡ n + m = rw (length-append, length-replicate, length-take-le n ws (omega arith)) in
    rw (← (append_assoc (take n ws) (replicate {A = ℕ} m 0) (drop (n + length (replicate {A = ℕ} m 0)) ws)))
    (take_at (take n ws ++ replicate {A = ℕ} m 0) _ (n + m) long)

-- the numbers of a sound engine that is set up fit
pub set_up_fits : (b : ℕ) (e : Engine) → Facts b e → is_set_up e.state.core ≡ true → fitting (length e.storage) e.state.core.setup ≡ true
unfolding is_set_up
set_up_fits b e h up = go (or_parts _ _ h.storage.numbers)
  where
    u : SetUp
    u = e.state.core.setup

    go : (fitting (length e.storage) u ≡ true) ⊎ (absent u ≡ true) → fitting (length e.storage) u ≡ true
    go (inl f) = f
    go (inr a) = absurd (nonzero u.d up (absent_facts u a).largest)

module _ (b last : ℕ) (e : Engine) (h : Facts b e) (up : is_set_up e.state.core ≡ true)
    (taken : extending (length e.storage) last e.state.core.setup ≡ true) where
  abbrev u : SetUp
  u = e.state.core.setup

  abbrev fits : fitting (length e.storage) u ≡ true
  fits = set_up_fits b e h up

  -- the words and the added ones are lent
  pub added_lies : words u + (last - u.s2) ≤ length e.storage
  added_lies =
      let n = length e.storage in
      subst (λ (k : ℕ). k ≤ n) (extended_words n n last u fits taken) (extending_facts n last u taken).lies

  -- the storage stays as long
  pub extended_long : length (engine_extended last e).storage ≡ length e.storage
  unfolding engine_extended
  extended_long = length_placed (words u) _ e.storage (rw length-replicate added_lies)

  pub extended_facts : Facts b (engine_extended last e)
  unfolding engine_extended on_core with_map with_set_up
  extended_facts =
      let n = length e.storage in
      record {
        core = setup_facts b e.state.core h.core (extended_to last u);
        storage = record {
          numbers = rw (extended_long, extended_fits n n last u fits taken);
          blocks = extended_section n n last u fits taken e.state.map h.storage.blocks;
          values =
              rw (extended_words n n last u fits taken, zeros_after_lem (words u) (last - u.s2) e.storage added_lies)
              (every_append (below (2 ^ b)) _ _ h.storage.values (every_replicate (below (2 ^ b)) (last - u.s2) 0 (lt-ltb _ _ (pow_pos b))));
        };
      }
