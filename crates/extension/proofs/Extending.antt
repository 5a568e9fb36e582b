-- What an extension comes to where its tests are known, and what the code needs of the numbers. Assumes nothing.
use Prim.Native.Nat.{ℕ, ◌+◌, ◌-◌, ◌≤◌, ◌<◌}
use native.Mathlib.Omega.{arith}
use mathlib.Core.Bool.{Bool, true, false}
use mathlib.Core.List.{List}
use mathlib.Core.Path.{◌≡◌, sym, ap, ◌∙◌}
use borrow.Author.Tests.{eq-eqb, ne_eqb}
use lib.ListN.{length, replicate}
use Rattle.std.specs.Prelude.{Result, Ok, Err}
use Rattle.word.specs.Word.{is_width}
use Rattle.block.specs.declared.SetUp.{SetUp}
use Rattle.block.specs.SetUp.{words, fitting}
use Rattle.block.specs.Map.{keeps}
use Rattle.block.specs.Extension.{extended_to, extending, extended_map}
use Rattle.block.proofs.Size.{fitting_facts}
use Rattle.block.proofs.Extension.{extending_facts, extended_words}
use Rattle.machine.specs.declared.Core.{Core}
use Rattle.machine.specs.declared.State.{State}
use Rattle.machine.specs.declared.ExtensionError.{ExtensionError}
use Rattle.machine.specs.declared.ExtensionError.TheVariants.{NoWidth, Unsound, BeforeSetUp, LastAddress}
use Rattle.machine.specs.State.{is_set_up, with_set_up, on_core, with_map}
use Rattle.machine.specs.Storage.{placed}
use Rattle.machine.specs.Sound.{Engine, sound_engine}
use Rattle.machine.proofs.Numbers.{extend_told_lem}
use Rattle.machine.specs.Extend.{Extension, told_extension, extend_told, is_done, not_extended, engine_extended, extended_by, extend_at, extend}
use Rattle.machine.proofs.Facts.{sound_facts}
use Rattle.machine.proofs.Extend.{Extends, refusing, growing, extends, set_up_fits}

-- a set-up by its largest size
before_set_up : (c : Core) → c.setup.d ≡ 0 → is_set_up c ≡ false
unfolding is_set_up
before_set_up c z = rw (eq-eqb c.setup.d 0 z)

has_set_up : (c : Core) → (c.setup.d ≡ 0 → ⊥) → is_set_up c ≡ true
unfolding is_set_up
has_set_up c some = rw (ne_eqb c.setup.d 0 some)

-- what is known of a sound engine that is set up
module _ (b : ℕ) (e : Engine) (fine : sound_engine b e ≡ true) (some : e.state.core.setup.d ≡ 0 → ⊥) where
  abbrev u : SetUp
  u = e.state.core.setup

  numbers_fit : fitting (length e.storage) u ≡ true
  numbers_fit = set_up_fits b e (sound_facts b e fine) (has_set_up e.state.core some)

  pub numbers_order : (0 < u.d) × (u.s1 ≤ u.s2)
  numbers_order = let f = fitting_facts _ u numbers_fit in (f.positive, f.order)

-- the words added lie in the storage, and the map has a byte for each
module _ (lent last : ℕ) (u : SetUp) (fits : fitting lent u ≡ true) (taken : extending lent last u ≡ true) where
  pub added_lies : words u + (last - u.s2) ≤ lent
  added_lies = omega (arith, extended_words lent lent last u fits taken, (extending_facts lent last u taken).lies)

  pub map_room : (n : ℕ) → 4096 ≤ n → words (extended_to last u) ≤ n
  map_room n long = omega (arith, (extending_facts lent last u taken).few)

-- the map and the words as the code makes them
pub engine_made : (last b : ℕ) (c : Core) (m new ws made : List ℕ) → new ≡ extended_map last c.setup m
    → made ≡ placed (words c.setup) (replicate (last - c.setup.s2) 0) ws
    → ◌≡◌ {A = Engine} (record { state = record { width = b; core = with_set_up (extended_to last c.setup) c; map = new }; storage = made })
    (engine_extended last (record { state = record { width = b; core = c; map = m }; storage = ws }))
unfolding engine_extended on_core with_map
engine_made last b c m new ws made is are = rw (is, are)

module _ (last : ℕ) (e : Engine) where
  abbrev b : ℕ
  b = e.state.width

  -- what is answered where the first test that fails is known
  pub answer_no_width : is_width b ≡ false → Err NoWidth ≡ (extend last e).extended.answer
  unfolding extend not_extended
  answer_no_width k = rw k

  module _ (wide : is_width b ≡ true) where
    pub answer_unsound : sound_engine b e ≡ false → Err Unsound ≡ (extend last e).extended.answer
    unfolding extend extend_at not_extended
    answer_unsound k = rw (wide, k)

    module _ (fine : sound_engine b e ≡ true) where
      pub answer_early : e.state.core.setup.d ≡ 0 → Err BeforeSetUp ≡ (extend last e).extended.answer
      unfolding extend extend_at not_extended
      answer_early z = rw (wide, fine, before_set_up e.state.core z)

      module _ (some : e.state.core.setup.d ≡ 0 → ⊥) where
        pub answer_last : extending (length e.storage) last e.state.core.setup ≡ false → Err LastAddress ≡ (extend last e).extended.answer
        unfolding extend extend_at not_extended
        answer_last k = rw (wide, fine, has_set_up e.state.core some, k)

        -- and where none fails
        pub answer_done : extending (length e.storage) last e.state.core.setup ≡ true → Ok tt ≡ (extend last e).extended.answer
        unfolding extend extend_at extended_by
        answer_done k = rw (wide, fine, has_set_up e.state.core some, k)

  -- what is known where the answer is that it is done
  pub record Granted : Type 0 where
    pub fits : fitting (length e.storage) e.state.core.setup ≡ true
    pub taken : extending (length e.storage) last e.state.core.setup ≡ true
    pub kept : keeps e.state.core.setup e.state.map ≡ true
    pub same : extended_by last e ≡ extend last e

  module _ {a : Result (Unit {0}) ExtensionError} (is : a ≡ (extend last e).extended.answer) where
    pub granted : a ≡ Ok tt → Granted
    unfolding is_done not_extended
    granted done = go (extends last e)
      where
        go : Extends b last e (extend last e) → Granted
        go (refusing answer f x) =
            let one : answer ≡ Ok tt = sym (ap (λ (y : Extension). y.extended.answer) x) ∙ sym is ∙ done in
            let never : ◌≡◌ {A = Bool} true false = ap is_done (sym one) ∙ f in
            cc
        go (growing facts up taken x) = record { fits = set_up_fits b e facts up; taken = taken; kept = facts.storage.blocks; same = sym x }

    -- an extension that is refused leaves all as it was
    pub declined : {error : ExtensionError} → a ≡ Err error → not_extended a e ≡ extend last e
    unfolding extended_by not_extended
    declined {error} k = go (extends last e)
      where
        go : Extends b last e (extend last e) → not_extended a e ≡ extend last e
        go (refusing answer f x) =
            let one : answer ≡ a = sym (ap (λ (y : Extension). y.extended.answer) x) ∙ sym is in rw (← one) (sym x)
        go (growing _ _ _ x) =
            let one : Ok tt ≡ Err error = sym (ap (λ (y : Extension). y.extended.answer) x) ∙ sym is ∙ k in cc

    -- and one that is done leaves the engine with more words
    pub enlarged : a ≡ Ok tt → (s : State) (ws : List ℕ) → ◌≡◌ {A = Engine} (record { state = s; storage = ws }) (engine_extended last e)
        → record { extended = record { state = s; answer = a }; storage = ws } ≡ extend last e
    unfolding extended_by
    enlarged done s ws grown =
        ap (λ (x : Engine). record { extended = record { state = x.state; answer = a }; storage = x.storage }) grown ∙ rw done ((granted done).same)

-- and the answer's number is the definition's
pub numbered : (last : ℕ) (e : Engine) {x : Extension} → x ≡ extend last e
    → (x ≡ extend last e) × (told_extension x.extended.answer ≡ extend_told last e)
numbered last e is = (is, ap (λ (y : Extension). told_extension y.extended.answer) is ∙ extend_told_lem last e)
