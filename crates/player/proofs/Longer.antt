-- What an extension's parts come to, put together. Assumes nothing.
use Prim.Native.Nat.{ℕ}
use native.Mathlib.Omega.{arith}
use mathlib.Core.Bool.{true, false}
use mathlib.Core.List.{List}
use mathlib.Core.Path.{◌≡◌, refl, sym, ap, ◌∙◌}
use borrow.Author.Tests.{eq-eqb, ne_eqb}
use lib.ListN.{length}
use Rattle.std.specs.Prelude.{Result, Ok, Err}
use Rattle.word.specs.Told.{number}
use Rattle.machine.specs.declared.Extended.{Extended}
use Rattle.machine.specs.declared.ExtensionError.{ExtensionError}
use Rattle.machine.specs.declared.ExtensionError.TheVariants.{NoWidth, Unsound, BeforeSetUp, LastAddress}
use Rattle.machine.specs.declared.State.{State}
use Rattle.machine.specs.Sound.{Engine}
use Rattle.machine.specs.Extend.{Extension, told_extension, is_done, extend, engine_left}
use Rattle.machine.proofs.Extend.{refused_extension}
use Rattle.layout.specs.Layout.{state_length, bytes_of_state, state_of}
use Rattle.player.specs.Calls.{wrong_state, engine_at}
use Rattle.player.specs.Extending.{ExtendLeft, after_extension, extend_left}

-- an answer is no refusal where its number is 0
number_done : (a : Result (Unit {0}) ExtensionError) → 0 ≡ number (told_extension a) → is_done a ≡ true
unfolding told_extension number is_done
number_done (Ok _) e = refl
number_done (Err NoWidth) e = absurd (omega arith)
number_done (Err Unsound) e = absurd (omega arith)
number_done (Err BeforeSetUp) e = absurd (omega arith)
number_done (Err LastAddress) e = absurd (omega arith)

number_refused : (a : Result (Unit {0}) ExtensionError) → (number (told_extension a) ≡ 0 → ⊥) → is_done a ≡ false
unfolding told_extension number is_done
number_refused (Ok _) h = absurd (h refl)
number_refused (Err _) h = refl

module _ (last : ℕ) (storage bytes : List ℕ) where
  pub extend_short : (length bytes ≡ state_length → ⊥)
      → ◌≡◌ {A = ExtendLeft} (record { answer = wrong_state; storage = storage; state = bytes }) (extend_left last storage bytes)
  unfolding extend_left
  extend_short h = rw (ne_eqb (length bytes) state_length h)

  -- what the engine's extension leaves, of a state that was read
  module _ {before : State} {x : Extended} {storage' : List ℕ} {n : ℕ} (long : length bytes ≡ state_length) (read : before ≡ state_of bytes)
      (is : ◌≡◌ {A = Extension} (record { extended = x; storage = storage' }) (extend last (record { state = before; storage = storage })))
      (numbered : n ≡ number (told_extension x.answer)) where
    called : ◌≡◌ {A = Extension} (record { extended = x; storage = storage' }) (extend last (engine_at bytes storage))
    called = is ∙ ap (λ (s : State). extend last (record { state = s; storage = storage })) read

    module _ (refused : n ≡ 0 → ⊥) where
      not_done : is_done x.answer ≡ false
      not_done = number_refused x.answer (λ e. refused (numbered ∙ e))

      pub extend_refused : ◌≡◌ {A = ExtendLeft} (record { answer = n; storage = storage'; state = bytes }) (extend_left last storage bytes)
      unfolding extend_left after_extension
      extend_refused = rw (eq-eqb (length bytes) state_length long, ← called, not_done, numbered)

      pub extend_kept : state_of bytes ≡ (extend last (engine_at bytes storage)).extended.state
      unfolding engine_left
      extend_kept =
          let same : is_done (extend last (engine_at bytes storage)).extended.answer ≡ false
          = ap (λ (y : Extension). is_done y.extended.answer) (sym called) ∙ not_done in
          sym (ap (λ (e : Engine). e.state) (refused_extension last (engine_at bytes storage) same))

    module _ (done : n ≡ 0) {after : List ℕ} (written : after ≡ bytes_of_state x.state) where
      pub extend_done : ◌≡◌ {A = ExtendLeft} (record { answer = 0; storage = storage'; state = after }) (extend_left last storage bytes)
      unfolding extend_left after_extension
      extend_done = rw (eq-eqb (length bytes) state_length long, ← called, number_done x.answer (sym done ∙ numbered), written, ← numbered, done)

      pub extend_told_lem : state_of (bytes_of_state x.state) ≡ x.state → state_of after ≡ (extend last (engine_at bytes storage)).extended.state
      extend_told_lem back = ap state_of written ∙ back ∙ ap (λ (y : Extension). y.extended.state) called
