-- The round trip of numbers, of the machine's steps: what an operation (a, x) computes stands in a after its step, where a is a whole word
-- and the value fits; so a step that makes decimal characters of a number and a later one that makes a number of them, however many steps
-- lie between, give the number back, also through blanks. Assumes nothing.
use Prim.Native.Nat.{ℕ, suc, ◌+◌, ◌-◌, ◌*◌, ◌%◌, ◌/◌, ◌^◌, ◌≤◌, ◌<◌}
use native.Mathlib.Nat.{mod-eq_of_lt}
use native.Mathlib.Omega.{arith}
use mathlib.Core.Bool.{Bool, true, false, ◌||◌, cond}
use mathlib.Core.List.{List}
use mathlib.Core.Option.{some}
use mathlib.Core.Path.{◌≡◌, refl, sym, ap, subst, ◌∙◌}
use borrow.Author.Tests.{ne_eqb, eqb-true}
use lib.Dec.{eqb}
use lib.ListN.{length, get_or, set}
use lib.Seq.{get_or-set_same}
use Rattle.word.specs.Word.{is_width}
use Rattle.word.specs.Told.{number}
use Rattle.word.specs.Field.{width, field_of, kept}
use Rattle.word.proofs.Tests.{by_eqb}
use Rattle.word.proofs.Field.{field_stored}
use Rattle.character.specs.Character.{digits, from_binary, to_binary, blanks_to_zeros, zeros_to_blanks}
use Rattle.character.proofs.RoundTrip.{below_le, digits_below, length_digits, blanks_back, from_binary_lt, zeros_to_blanks_lt, decimal}
use Rattle.block.specs.declared.SetUp.{SetUp}
use Rattle.block.proofs.Size.{fitting_facts}
use Rattle.machine.specs.declared.Location.{Location}
use Rattle.machine.specs.declared.Location.TheVariants.{Bug, Field}
use Rattle.machine.specs.declared.Answer.TheVariants.{Running, Finished}
use Rattle.machine.specs.declared.State.{State}
use Rattle.machine.specs.Answer.{Checked, passed, ◌>>◌, told_answer}
use Rattle.machine.specs.State.{is_finished, on_core, moved_to, with_bug, with_width}
use Rattle.machine.specs.Storage.{no_store_of, word_at, with_store, with_delivery, with_copy, after_report}
use Rattle.machine.specs.Sound.{Lent, Engine}
use Rattle.machine.specs.Locate.{Value, world, contents, contents_of, read, live_blocks}
use Rattle.machine.specs.Effects.{Effects, reporting, assigned, store_to, storing, storage_after}
use Rattle.machine.specs.Operations.{computing, computes, operation_of, operations, makes, meaning_of, meaning, or_refuse}
use Rattle.machine.specs.Step.{Outcome, in_turn, given, operation_step, plan, carried_out, outcome, step_at, step, engine_of}
use Rattle.machine.specs.Converting.{row_here_of, Clears, Whole, left, Leaves}
use Rattle.machine.proofs.Checks.{need_yes, bind_yes}
use Rattle.machine.proofs.Facts.{Facts}
use Rattle.machine.proofs.Located.{Located, located}
use Rattle.machine.proofs.Live.{live_fits, live_lies}
use Rattle.machine.proofs.Placed.{placed_none}
use Rattle.machine.proofs.Steps.{sound_engine_lem, step_is}

-- a store into a whole word keeps the value
whole_kept : (b left right v : ℕ) → left ≡ 0 → right + 1 ≡ b → v < 2 ^ b → kept left right v ≡ v
unfolding kept width
whole_kept b left right v l r small =
    let wide : suc right - left ≡ b = omega arith in
    rw wide (mod-eq_of_lt small)

-- by a place's kind that is known
at_operation_lem : {A : Type 0} (k : ℕ) → k ≡ 1 → (x y z : A) → cond (eqb k 0) x (cond (eqb k 1) y z) ≡ y
at_operation_lem k e x y z = rw e

-- the step of an operation that computes
module _ {b code : ℕ} {l : Lent} {e : Engine} {a : Location} {x : Value} (c : Clears b code l e a x)
    (f : ℕ → Value → Value → Checked ℕ) (by_code : operation_of code ≡ computes f) (later : eqb code 1 ≡ false)
    {v : ℕ} (made : f b (read b (world e) a) x ≡ passed v) where
  abbrev effects : Effects
  effects = storing b a v (given l e).engine.state

  -- its meaning
  means : meaning code b (given l e) ≡ passed effects
  unfolding meaning meaning_of computing given world on_core moved_to
  means = rw by_code (bind_yes _ _ c.located ∙ bind_yes _ _ c.taken ∙ bind_yes _ _ made)

  in_turn_lem : (in_turn code e >> meaning code b (given l e)) ≡ passed effects
  unfolding in_turn
  in_turn_lem = rw later (need_yes _ _ _ c.is_set ∙ means)

  planned : plan b l e ≡ passed effects
  unfolding plan operation_step
  planned =
      need_yes _ _ _ c.long
      ∙ at_operation_lem _ c.at_operation _ _ _
      ∙ need_yes _ _ _ c.is_usable
      ∙ ap (λ (k : ℕ). in_turn k e >> meaning k b (given l e)) c.is_code
      ∙ in_turn_lem

  unfinished : is_finished e.state.core.place ≡ false
  unfolding is_finished
  unfinished = ne_eqb _ _ (λ z. let never : ◌≡◌ {A = ℕ} 1 3 = sym c.at_operation ∙ z in omega arith)

  stepped : step l e ≡ carried_out b effects l e
  unfolding step_at outcome
  stepped = step_is b l e c.width c.is_word ∙ rw (c.is_sound, unfinished, planned)

-- what stands in a bug, and in a field of the storage, after a store
bug_after : (b : ℕ) (bugs : List ℕ) (x v : ℕ) → x < length bugs → v < 2 ^ b → get_or (set bugs x (v % 2 ^ b)) x 0 ≡ v
bug_after b bugs x v inside small = get_or-set_same bugs x _ 0 inside ∙ mod-eq_of_lt small

field_after : (b s1 address left right v : ℕ) (ws : List ℕ) → left ≡ 0 → right + 1 ≡ b → v < 2 ^ b → 1 ≤ s1 → s1 ≤ address → address - s1 < length ws
    → field_of b left right (word_at s1 address (with_store b s1 (store_to (Field address left right) v) ws)) ≡ v
unfolding with_store store_to word_at width
field_after b s1 address left right v ws l r small pos from inside =
    let some : suc right - left ≡ 0 → ⊥ = (λ z. omega arith) in
    let there : address ≡ 0 → ⊥ = (λ z. omega arith) in
    rw (ne_eqb _ 0 some, ne_eqb address 0 there, get_or-set_same ws (address - s1) _ 0 inside)
    (field_stored b left right _ _ ∙ ap (kept left right) (whole_kept b left right v l r small) ∙ whole_kept b left right v l r small)

-- no store
no_store : (b s1 : ℕ) (ws : List ℕ) → with_store b s1 no_store_of ws ≡ ws
unfolding with_store no_store_of
no_store b s1 ws = refl

-- one store and nothing else
one_store : (b : ℕ) (a : Location) (v : ℕ) (s : State) (ws : List ℕ)
    → storage_after b (storing b a v s) ws ≡ with_store b (storing b a v s).state.core.setup.s1 (store_to a v) ws
unfolding storage_after after_report with_delivery with_copy storing reporting
one_store b a v s ws = rw (placed_none, placed_none) (no_store b (storing b a v s).state.core.setup.s1 _)

-- the effects of a store into a whole word
module _ (b : ℕ) (e : Engine) (h : Facts b e) (v : ℕ) (small : v < 2 ^ b) where
  stored_there : (a : Location) → Located b (live_blocks e) a → Whole b e a → (s : State) → s.core.bugs ≡ e.state.core.bugs
      → s.core.setup ≡ e.state.core.setup
      → contents_of b (storing b a v s).state.core.bugs (storing b a v s).state.core.setup.s1 (storage_after b (storing b a v s) e.storage) a ≡ v
  unfolding Located Whole contents_of storing reporting on_core assigned with_bug
  stored_there (Bug x) l whole s bugs setup = rw bugs (bug_after b e.state.core.bugs x.0 v whole small)
  stored_there (Field address left right) l whole s bugs setup =
      let inside = l.1 in
      let lies = live_lies b e.state e.storage h.storage inside.block inside.is_one in
      let fits = fitting_facts _ _ (live_fits b e.state e.storage h.storage inside.block inside.is_one) in
      let s1 = e.state.core.setup.s1 in
      ap (λ (ws : List ℕ). field_of b left right (word_at s.core.setup.s1 address ws)) (one_store b (Field address left right) v s e.storage)
      ∙ ap (λ (u : SetUp). field_of b left right (word_at u.s1 address (with_store b u.s1 (store_to (Field address left right) v) e.storage))) setup
      ∙ field_after b s1 address left right v e.storage whole.0 whole.1 small fits.first
      (omega (arith, lies.first, inside.low)) (omega (arith, lies.last, lies.first, inside.low, inside.high, fits.lies))

-- so the step leaves what it computes
module _ {b code : ℕ} {l : Lent} {e : Engine} {a : Location} {x : Value} (c : Clears b code l e a x) (whole : Whole b e a)
    (f : ℕ → Value → Value → Checked ℕ) (by_code : operation_of code ≡ computes f) (later : eqb code 1 ≡ false)
    {v : ℕ} (made : f b (read b (world e) a) x ≡ passed v) (small : v < 2 ^ b) where
  leaves : Leaves b l e a v
  unfolding left number told_answer carried_out engine_of world given on_core moved_to with_width
  leaves =
      let facts = sound_engine_lem b l e c.is_sound in
      let is = stepped c f by_code later made in
      record {
        is_done = ap (λ (o : Outcome). number (told_answer o.stepped.answer)) is
            ∙ carried_number (is_finished (effects c f by_code later made).state.core.place);
        holds = ap (λ (o : Outcome). contents b (world (engine_of o)) a) is
            ∙ stored_there b e facts v small a (located b e facts.core (row_here_of l e).first a c.located) whole (given l e).engine.state refl refl;
      }
    where
      carried_number : (t : Bool) → number (told_answer (cond t Finished Running)) ≡ 0
      carried_number true = refl
      carried_number false = refl

-- a word of b bits has whole characters, and room for as many decimal digits
record Roomy (b : ℕ) : Type 0 where
  whole : 6 * (b / 6) ≡ b
  characters : 64 ^ (b / 6) ≡ 2 ^ b
  digits : 10 ^ (b / 6) ≤ 2 ^ b

roomy : (b : ℕ) → is_width b ≡ true → Roomy b
unfolding is_width
roomy b is =
    by_eqb (λ t. (t || eqb b 48) ≡ true → Roomy b) b 36 (λ e _. subst Roomy (sym e) (record { whole = refl; characters = refl; digits = omega arith }))
    (λ _ h. subst Roomy (sym (eqb-true b 48 h)) (record { whole = refl; characters = refl; digits = omega arith })) is

-- what each conversion leaves in a whole word
module _ {b : ℕ} {l : Lent} {e : Engine} {a : Location} {x : Value} (whole : Whole b e a) where
  -- 29 binary to decimal
  to_characters : Clears b 29 l e a x → Leaves b l e a (from_binary 10 (b / 6) x.value)
  unfolding operation_of operations makes
  to_characters c =
      leaves c whole _ refl refl refl (rw (← (roomy b c.is_word).characters) (from_binary_lt 10 (b / 6) x.value (omega arith) (omega arith)))

  -- 31 zeros to blanks
  to_blanks : Clears b 31 l e a x → Leaves b l e a (zeros_to_blanks (b / 6) x.value)
  unfolding operation_of operations makes
  to_blanks c = leaves c whole _ refl refl refl (rw (← (roomy b c.is_word).characters) (zeros_to_blanks_lt (b / 6) x.value))

  -- 26 blanks to zeros, where the value fits a word
  to_zeros : Clears b 26 l e a x → blanks_to_zeros (b / 6) x.width x.value < 2 ^ b → Leaves b l e a (blanks_to_zeros (b / 6) x.width x.value)
  unfolding operation_of operations makes
  to_zeros c small = leaves c whole _ refl refl refl small

  -- 27 decimal to binary, where each character is a digit
  to_number : Clears b 27 l e a x → {n : ℕ} → n < 10 ^ (b / 6) → to_binary 10 (b / 6) x.value ≡ some n → Leaves b l e a n
  unfolding operation_of operations or_refuse
  to_number c small is = leaves c whole _ refl refl (rw is) (omega (arith, (roomy b c.is_word).digits))

-- zeros to blanks and blanks to zeros give the characters of a number back
characters_back : (b v : ℕ) → is_width b ≡ true → blanks_to_zeros (b / 6) b (zeros_to_blanks (b / 6) (from_binary 10 (b / 6) v)) ≡ from_binary 10 (b / 6) v
unfolding from_binary
characters_back b v is =
    let n = b / 6 in
    let low = below_le 10 48 (digits 10 n v) (omega arith) (digits_below 10 n v (omega arith)) in
    rw (roomy b is).whole at (blanks_back (digits 10 n v) (length_digits 10 n v) low)

-- a number that decimal characters have room for: below 1,000,000 at 36 bits and below 100,000,000 at 48
module _ {b n : ℕ} (small : n < 10 ^ (b / 6)) {l₁ l₂ : Lent} {e₁ e₂ : Engine} {a₁ a₂ : Location} {x₁ x₂ : Value} where
  -- a step of 29 takes it to a whole word, and a step of 27, which may come any steps later, takes what the first has left there
  pub decimal_steps : Clears b 29 l₁ e₁ a₁ x₁ → x₁.value ≡ n → Whole b e₁ a₁ → Clears b 27 l₂ e₂ a₂ x₂ → x₂.value ≡ left b l₁ e₁ a₁
      → Whole b e₂ a₂ → Leaves b l₂ e₂ a₂ n
  decimal_steps c₁ is₁ w₁ c₂ is₂ w₂ =
      let held : x₂.value ≡ from_binary 10 (b / 6) n = is₂ ∙ (to_characters w₁ c₁).holds ∙ ap (from_binary 10 (b / 6)) is₁ in
      to_number w₂ c₂ small (ap (to_binary 10 (b / 6)) held ∙ decimal b n c₁.is_word small)

  -- the same with a step of 31 and one of 26 between them, each of which takes what the step before it has left
  pub decimal_steps_through_blanks : {l₃ l₄ : Lent} {e₃ e₄ : Engine} {a₃ a₄ : Location} {x₃ x₄ : Value}
      → Clears b 29 l₁ e₁ a₁ x₁ → x₁.value ≡ n → Whole b e₁ a₁
      → Clears b 31 l₃ e₃ a₃ x₃ → x₃.value ≡ left b l₁ e₁ a₁ → Whole b e₃ a₃
      → Clears b 26 l₄ e₄ a₄ x₄ → x₄.value ≡ left b l₃ e₃ a₃ → x₄.width ≡ b → Whole b e₄ a₄
      → Clears b 27 l₂ e₂ a₂ x₂ → x₂.value ≡ left b l₄ e₄ a₄ → Whole b e₂ a₂ → Leaves b l₂ e₂ a₂ n
  decimal_steps_through_blanks {a₄ = a₄} {x₄ = x₄} c₁ is₁ w₁ c₃ is₃ w₃ c₄ is₄ wide₄ w₄ c₂ is₂ w₂ =
      let held = from_binary 10 (b / 6) n in
      let blanks : x₄.value ≡ zeros_to_blanks (b / 6) held =
      is₄ ∙ (to_blanks w₃ c₃).holds ∙ ap (zeros_to_blanks (b / 6)) (is₃ ∙ (to_characters w₁ c₁).holds ∙ ap (from_binary 10 (b / 6)) is₁) in
      let zeros : blanks_to_zeros (b / 6) x₄.width x₄.value ≡ held = rw (wide₄, blanks) (characters_back b n c₁.is_word) in
      let fits = subst (λ (m : ℕ). held < m) (roomy b c₁.is_word).characters (from_binary_lt 10 (b / 6) n (omega arith) (omega arith)) in
      let back : x₂.value ≡ held = is₂ ∙ (to_zeros w₄ c₄ (rw zeros fits)).holds ∙ zeros in
      to_number w₂ c₂ small (ap (to_binary 10 (b / 6)) back ∙ decimal b n c₁.is_word small)
