-- The blocks of a state's bytes, counted and listed. Assumes nothing.
use Prim.Native.Nat.{ℕ, ◌-◌, ◌*◌, ◌%◌}
use native.Mathlib.Omega.{arith}
use mathlib.Core.Bool.{Bool, true, false, not, cond}
use mathlib.Core.List.{List, [], ◌∷◌}
use mathlib.Core.Path.{◌≡◌, refl, sym, ap, ◌∙◌}
use borrow.Author.Tests.{eq-eqb, ne_eqb}
use lib.Dec.{eqb}
use lib.ListN.{length, set, take, drop}
use Rattle.word.specs.Word.{is_width}
use Rattle.word.proofs.Tests.{and_true, by_eqb}
use Rattle.block.specs.declared.SetUp.{SetUp}
use Rattle.block.specs.Blocks.{size, Block}
use Rattle.block.specs.SetUp.{top, words}
use Rattle.block.specs.Map.{keeps}
use Rattle.machine.specs.declared.Answer.TheVariants.{Refused}
use Rattle.machine.specs.declared.Refusal.TheVariants.{NoWidth}
use Rattle.machine.specs.Answer.{refusal_number}
use Rattle.machine.proofs.Checks.{or_parts}
use Rattle.operands.proofs.Readable.{numbers}
use Rattle.layout.specs.Layout.{state_length, state_of}
use Rattle.layout.proofs.Widths.{map_is}
use Rattle.listing.proofs.Lists.{length_numbers}
use Rattle.listing.specs.Listing.{are_blocks, blocks, numbers_of}
use Rattle.player.specs.Calls.{code, wrong_state, wrong_list, state_fault, blocks_at, ListLeft, of_blocks, counts_left, blocks_left}

-- a map that can be listed
pub can_list : (u : SetUp) (m : List ℕ) → are_blocks u m ≡ true → (words u % size (top u.d) ≡ 0) × (keeps u m ≡ true)
unfolding are_blocks
can_list u m h =
    let (fine, kept) = and_true _ (keeps u m) h in
    ((numbers 4096 u (or_parts _ _ fine)).whole, kept)

-- the map's bytes as they are lent
abbrev pub lent : List ℕ → List ℕ
lent bytes = take (6675 - 2579) (drop 2579 bytes)

-- a list of two
two_set : (t : List ℕ) (a b : ℕ) → length t ≡ 2 → set (set t 0 a) 1 b ≡ a ∷ b ∷ []
two_set [] a b h = absurd (omega arith)
two_set (x ∷ []) a b h = absurd (omega arith)
two_set (x ∷ y ∷ []) a b h = refl
two_set (x ∷ y ∷ z ∷ t) a b h = absurd (omega arith)

-- a state without a fault has its length
pub fault_length : (bytes : List ℕ) → state_fault bytes ≡ 0 → length bytes ≡ state_length
unfolding state_fault
fault_length bytes none =
    by_eqb (λ t. cond t (cond (is_width (state_of bytes).width) 0 (code (Refused NoWidth))) wrong_state ≡ 0 → length bytes ≡ state_length)
    (length bytes) state_length (λ e _. e) (λ _ k. absurd (omega arith)) none

-- the fault by its tests
module _ (bytes : List ℕ) where
  pub fault_short : (length bytes ≡ state_length → ⊥) → wrong_state ≡ state_fault bytes
  unfolding state_fault
  fault_short h = rw (ne_eqb (length bytes) state_length h)

  module _ (h : length bytes ≡ state_length) where
    pub fault_width : is_width (state_of bytes).width ≡ false → 31 ≡ state_fault bytes
    unfolding state_fault code refusal_number
    fault_width w = rw (eq-eqb (length bytes) state_length h, w)

    pub fault_none : is_width (state_of bytes).width ≡ true → 0 ≡ state_fault bytes
    unfolding state_fault
    fault_none w = rw (eq-eqb (length bytes) state_length h, w)

module _ (bytes list : List ℕ) where
  pub counts_faulty : {fault : ℕ} → fault ≡ state_fault bytes → (fault ≡ 0 → ⊥)
      → ◌≡◌ {A = ListLeft} (record { answer = fault; list = list }) (counts_left bytes list)
  unfolding counts_left
  counts_faulty {fault} is h = rw (← is, ne_eqb fault 0 h)

  pub blocks_faulty : (live : ℕ) {fault : ℕ} → fault ≡ state_fault bytes → (fault ≡ 0 → ⊥)
      → ◌≡◌ {A = ListLeft} (record { answer = fault; list = list }) (blocks_left bytes live list)
  unfolding blocks_left
  blocks_faulty live {fault} is h = rw (← is, ne_eqb fault 0 h)

  module _ (none : state_fault bytes ≡ 0) where
    abbrev h : length bytes ≡ state_length
    h = fault_length bytes none

    pub counts_unlisted : (length list ≡ 2 → ⊥) → ◌≡◌ {A = ListLeft} (record { answer = wrong_list; list = list }) (counts_left bytes list)
    unfolding counts_left
    counts_unlisted k = rw (eq-eqb (state_fault bytes) 0 none, ne_eqb (length list) 2 k)

    lent_is : lent bytes ≡ (state_of bytes).map
    lent_is = sym (map_is bytes h)

    -- the set-up and the map that are read
    module _ {u : SetUp} (su : u ≡ (state_of bytes).core.setup) where
      judged : are_blocks u (lent bytes) ≡ are_blocks (state_of bytes).core.setup (state_of bytes).map
      judged = rw (su, lent_is)

      pub counts_unsound : length list ≡ 2 → are_blocks u (lent bytes) ≡ false → ◌≡◌ {A = ListLeft} (record { answer = 11; list = list }) (counts_left bytes list)
      unfolding counts_left of_blocks code refusal_number
      counts_unsound k unfit = rw (eq-eqb (state_fault bytes) 0 none, eq-eqb (length list) 2 k, sym judged ∙ unfit)

      pub blocks_unsound : (live : ℕ) → are_blocks u (lent bytes) ≡ false → ◌≡◌ {A = ListLeft} (record { answer = 11; list = list }) (blocks_left bytes live list)
      unfolding blocks_left of_blocks code refusal_number
      blocks_unsound live unfit = rw (eq-eqb (state_fault bytes) 0 none, sym judged ∙ unfit)

      pub counts_leave : {live free : ℕ} → length list ≡ 2 → are_blocks u (lent bytes) ≡ true → live ≡ length (blocks true u (lent bytes))
          → free ≡ length (blocks false u (lent bytes)) → ◌≡◌ {A = ListLeft} (record { answer = 0; list = set (set list 0 live) 1 free })
          (counts_left bytes list)
      unfolding counts_left of_blocks
      counts_leave k fine l f =
          rw (two_set list _ _ k, eq-eqb (state_fault bytes) 0 none, eq-eqb (length list) 2 k, sym judged ∙ fine, l, f, su, lent_is)

      -- as many as are asked for
      module _ (live : ℕ) {asked : Bool} (same : asked ≡ not (eqb live 0)) {count : ℕ} (counted : count ≡ length (blocks asked u (lent bytes)))
          (fine : are_blocks u (lent bytes) ≡ true) where
        found : blocks asked u (lent bytes) ≡ blocks_at (not (eqb live 0)) bytes
        found = rw (same, su, lent_is)

        pub blocks_unlisted : (length list ≡ 2 * count → ⊥) → ◌≡◌ {A = ListLeft} (record { answer = wrong_list; list = list }) (blocks_left bytes live list)
        unfolding blocks_left of_blocks
        blocks_unlisted k =
            let unlike : length list ≡ 2 * length (blocks_at (not (eqb live 0)) bytes)
            → ⊥ = λ e. k (e ∙ ap (λ (n : ℕ). 2 * n) (sym (counted ∙ ap length found))) in
            rw (eq-eqb (state_fault bytes) 0 none, sym judged ∙ fine, ne_eqb (length list) (2 * length (blocks_at (not (eqb live 0)) bytes)) unlike)

        pub blocks_leave : {after : List ℕ} → length list ≡ 2 * count → after ≡ numbers_of (blocks asked u (lent bytes))
            → ◌≡◌ {A = ListLeft} (record { answer = 0; list = after }) (blocks_left bytes live list)
        unfolding blocks_left of_blocks
        blocks_leave k is =
            let like : length list ≡ 2 * length (blocks_at (not (eqb live 0)) bytes) = k ∙ ap (λ (n : ℕ). 2 * n) (counted ∙ ap length found) in
            rw (eq-eqb (state_fault bytes) 0 none, sym judged ∙ fine, eq-eqb (length list) (2 * length (blocks_at (not (eqb live 0)) bytes)) like, is, found)

-- a list of just the right length
pub room_for : (xs : List Block) {n count : ℕ} → n ≡ 2 * count → count ≡ length xs → n ≡ length (numbers_of xs)
room_for xs h k = omega (arith, length_numbers xs)
