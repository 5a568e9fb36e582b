-- The effects of a step keep a sound engine sound.
-- Assumes nothing.
use Prim.Native.Nat.{ℕ, ◌+◌, ◌-◌, ◌^◌, ◌≤◌, ◌<◌}
use native.Mathlib.Omega.{arith}
use mathlib.Core.Bool.{Bool, true, false, not, ◌||◌, cond}
use mathlib.Core.List.{List, [], ◌++◌, Memᴰ}
use mathlib.Core.Logic.{◌⊎◌, inl, inr}
use mathlib.Core.Path.{◌≡◌, refl, subst, ap, ◌∙◌}
use borrow.Author.Tests.{lt-ltb, eq-eqb}
use lib.Dec.{eqb}
use lib.ListN.{length, take, drop, replicate, length-replicate, length-take}
use lib.Seq.{take-append_seam}
use lib.Pow.{pow_pos}
use Rattle.block.specs.declared.SetUp.{SetUp}
use Rattle.block.specs.Blocks.{Block, size_at}
use Rattle.block.specs.SetUp.{words, fitting, absent, runs}
use Rattle.block.specs.Map.{live, keeps}
use Rattle.block.proofs.Size.{size_pos, fitting_facts, absent_facts}
use Rattle.block.proofs.Change.{fresh_section, keeps_freed, keeps_delivered}
use Rattle.block.proofs.Tiling.{size_at_mem}
use Rattle.block.proofs.Runs.{runs_sound}
use Rattle.machine.specs.declared.State.{State}
use Rattle.machine.specs.declared.Report.{Report}
use Rattle.machine.specs.State.{with_width}
use Rattle.machine.specs.Storage.{no_store_of, no_report, placed, with_store, with_delivery, with_copy, after_report}
use Rattle.machine.specs.Sound.{Lent, Engine, every}
use Rattle.machine.specs.Effects.{Effects, storage_after, engine_after}
use Rattle.machine.specs.Step.{set_up_at}
use Rattle.machine.proofs.Checks.{or_parts, nonzero}
use Rattle.machine.proofs.Every.{below, every_placed, every_part, every_replicate}
use Rattle.machine.proofs.Facts.{StorageFacts, Facts}
use Rattle.machine.proofs.Located.{StoreFacts, nowhere}
use Rattle.machine.proofs.Live.{live_fits, live_lies}
use Rattle.machine.proofs.Placed.{placed_none, length_placed, length_store, store_values}
use Rattle.machine.proofs.Moves.{Still, Frees, Delivers, Moves, still, frees, delivers, SetsUp}
use Rattle.machine.proofs.Plan.{Planned, setting_up, moving}

-- a report with no delivery and no copy is its two stores
pub stores_only : (b s1 : ℕ) (r : Report) (ws : List ℕ) → r.size ≡ 0 → r.copied ≡ 0
    → after_report b s1 r ws ≡ with_store b s1 r.second (with_store b s1 r.first ws)
unfolding after_report with_copy with_delivery
stores_only b s1 r ws z c = rw (eq-eqb _ 0 c, z, placed_none) refl

-- nothing is zeroed
pub not_zeroed : (b : ℕ) (x : Effects) (ws : List ℕ) → x.zeroed ≡ 0
    → storage_after b x ws ≡ after_report b x.state.core.setup.s1 x.report ws
unfolding storage_after
not_zeroed b x ws z = rw (z, placed_none 0 ws) refl

-- where there is a run, the set-up numbers fit
pub run_fits : (lent : ℕ) (u : SetUp) (bs : List Block) (n a : ℕ) → 0 < n → (fitting lent u || absent u) ≡ true
    → Memᴰ a (runs n u bs) → fitting lent u ≡ true
run_fits lent u bs n a pos k m = go (or_parts _ _ k)
  where
    go : (fitting lent u ≡ true) ⊎ (absent u ≡ true) → fitting lent u ≡ true
    go (inl f) = f
    go (inr z) =
        let (first, last, _, _) = runs_sound n u bs pos m in
        let none = (absent_facts u z).count in
        absurd (omega arith)

-- the storage facts by other names for the set-up numbers
storage_facts_of : (b : ℕ) (s : State) (ws : List ℕ) (u : SetUp) → s.core.setup ≡ u → (fitting (length ws) u || absent u) ≡ true
    → keeps u s.map ≡ true → every (below (2 ^ b)) (take (words u) ws) ≡ true → StorageFacts b s ws
storage_facts_of b s ws u is n k v = record { numbers = rw is n; blocks = rw is k; values = rw is v }

module _ (b : ℕ) (e : Engine) (h : Facts b e) (x : Effects) where
  -- the same facts after words were placed and stored, as long as the storage is as long as before
  module _ (is : x.state.core.setup ≡ e.state.core.setup) (k : keeps e.state.core.setup x.state.map ≡ true) where
    again : (ws : List ℕ) → length ws ≡ length e.storage → every (below (2 ^ b)) (take (words e.state.core.setup) ws) ≡ true
        → StorageFacts b x.state ws
    again ws long v = storage_facts_of b x.state ws e.state.core.setup is (rw long h.storage.numbers) k v

    -- two stores
    module _ (bs cs : List Block) (first : StoreFacts b bs x.report.first) (second : StoreFacts b cs x.report.second) where
      stored_again : (s1 : ℕ) (ws : List ℕ) → length ws ≡ length e.storage
          → every (below (2 ^ b)) (take (words e.state.core.setup) ws) ≡ true
          → StorageFacts b x.state (with_store b s1 x.report.second (with_store b s1 x.report.first ws))
      stored_again s1 ws long v =
          again _ (length_store b s1 _ _ ∙ length_store b s1 _ ws ∙ long)
          (store_values b s1 (words e.state.core.setup) cs _ (with_store b s1 x.report.first ws) second
          (store_values b s1 (words e.state.core.setup) bs _ ws first v))

      -- where nothing is zeroed, delivered or copied
      two_stores : x.zeroed ≡ 0 → x.report.size ≡ 0 → x.report.copied ≡ 0 → StorageFacts b x.state (storage_after b x e.storage)
      two_stores z n c =
          rw (not_zeroed b x e.storage z ∙ stores_only b x.state.core.setup.s1 x.report e.storage n c)
          (stored_again x.state.core.setup.s1 e.storage refl h.storage.values)

  still_storage : Still b e.state.core.setup e.state.map x → StorageFacts b x.state (storage_after b x e.storage)
  still_storage m =
      two_stores m.setup (rw m.map h.storage.blocks) _ _ m.first m.second m.zeroed m.size m.copied

  frees_storage : Frees b e.state.core.setup e.state.map x → StorageFacts b x.state (storage_after b x e.storage)
  unfolding no_store_of
  frees_storage m =
      let u = e.state.core.setup in
      let fits = live_fits b e.state e.storage h.storage _ (size_at_mem x.report.freed (live u e.state.map) (nonzero _ m.is_live_of)) in
      let kept = keeps_freed (length e.storage) u fits e.state.map h.storage.blocks x.report.freed in
      two_stores m.setup (rw m.map kept.section) _ [] m.first (nowhere (ap (λ s. s.address) m.second)) m.zeroed m.size m.copied

  -- words delivered, perhaps as a copy
  module _ (m : Delivers b e.state.core.setup e.state.map x) where
    abbrev u : SetUp
    u = e.state.core.setup

    abbrev r : Report
    r = x.report

    pub delivery_fits : fitting (length e.storage) u ≡ true
    delivery_fits = run_fits (length e.storage) u _ _ _ (size_pos m.level) h.storage.numbers m.is_run

    -- the run lies in the set-up words
    pub delivery_lies : (u.s1 ≤ r.delivered) × (r.delivered + r.size ≤ u.s1 + words u)
    delivery_lies =
        let (first, last, _, _) = runs_sound _ u _ (size_pos m.level) m.is_run in
        (first, rw m.size last)

    -- and so does the block that is copied
    pub copy_lies : (r.copied ≡ 0) ⊎ ((u.s1 ≤ r.copied) × (r.copied + r.size ≤ u.s1 + words u))
    copy_lies = go m.copied
      where
        go : (r.copied ≡ 0) ⊎ ((not (eqb (size_at r.copied (live u e.state.map)) 0) ≡ true) × (size_at r.copied (live u e.state.map) ≡ r.size))
            → (r.copied ≡ 0) ⊎ ((u.s1 ≤ r.copied) × (r.copied + r.size ≤ u.s1 + words u))
        go (inl z) = inl z
        go (inr c) =
            let l = live_lies b e.state e.storage h.storage _ (size_at_mem r.copied (live u e.state.map) (nonzero _ c.0)) in
            inr (l.first, rw (← c.1) l.last)

    pub delivered_long : length (with_delivery u.s1 r e.storage) ≡ length e.storage
    unfolding with_delivery
    delivered_long =
        let lies = (fitting_facts (length e.storage) u delivery_fits).lies in
        let (first, last) = delivery_lies in
        length_placed _ _ _ (rw length-replicate (omega arith))

    delivered_values : every (below (2 ^ b)) (take (words u) (with_delivery u.s1 r e.storage)) ≡ true
    unfolding with_delivery
    delivered_values =
        every_placed (below (2 ^ b)) (words u) _ _ _ h.storage.values (every_replicate (below (2 ^ b)) r.size 0 (lt-ltb _ _ (pow_pos b)))

    pub copied_long : (ws : List ℕ) → length ws ≡ length e.storage → length (with_copy u.s1 r ws) ≡ length e.storage
    unfolding with_copy
    copied_long ws long =
        let lies = (fitting_facts (length e.storage) u delivery_fits).lies in
        let (first, last) = delivery_lies in
        elim (eqb r.copied 0) as (λ t. length (cond t ws (placed (r.delivered - u.s1) (take r.size (drop (r.copied - u.s1) ws)) ws))
        ≡ length e.storage)
        [ true ↦ long | false ↦ length_placed _ _ ws (simp length-take (omega arith)) ∙ long ]

    copied_values : (ws : List ℕ) → every (below (2 ^ b)) (take (words u) ws) ≡ true
        → every (below (2 ^ b)) (take (words u) (with_copy u.s1 r ws)) ≡ true
    unfolding with_copy
    copied_values ws v = go copy_lies
      where
        go : (r.copied ≡ 0) ⊎ ((u.s1 ≤ r.copied) × (r.copied + r.size ≤ u.s1 + words u))
            → every (below (2 ^ b)) (take (words u)
            (cond (eqb r.copied 0) ws (placed (r.delivered - u.s1) (take r.size (drop (r.copied - u.s1) ws)) ws))) ≡ true
        go (inl z) = rw (eq-eqb _ 0 z) v
        go (inr c) =
            let (first, last) = c in
            elim (eqb r.copied 0) as (λ t. every (below (2 ^ b))
            (take (words u) (cond t ws (placed (r.delivered - u.s1) (take r.size (drop (r.copied - u.s1) ws)) ws))) ≡ true) [
              | true ↦ v
              | false ↦ every_placed (below (2 ^ b)) (words u) _ _ ws v
                  (every_part (below (2 ^ b)) (words u) (r.copied - u.s1) r.size ws (omega arith) v)
            ]

    -- the storage is the words delivered and copied, and then the stores
    pub delivery_storage : storage_after b x e.storage
        ≡ with_store b u.s1 r.second (with_store b u.s1 r.first (with_copy u.s1 r (with_delivery u.s1 r e.storage)))
    unfolding after_report
    delivery_storage =
        not_zeroed b x e.storage m.zeroed ∙ ap (λ (s : SetUp). after_report b s.s1 r e.storage) m.setup

    delivers_storage : StorageFacts b x.state (storage_after b x e.storage)
    delivers_storage =
        let kept = keeps_delivered (length e.storage) u delivery_fits e.state.map h.storage.blocks m.level r.delivered in
        rw delivery_storage
        (stored_again m.setup (rw m.map kept.section) _ _ m.first m.second u.s1 _
        (copied_long _ delivered_long) (copied_values _ delivered_values))

-- zeros placed from the first word on
zeros_first : (f : ℕ → Bool) (n : ℕ) (ws : List ℕ) → f 0 ≡ true → every f (take n (placed 0 (replicate n 0) ws)) ≡ true
unfolding placed
zeros_first f n ws z =
    let zeros : List ℕ = replicate n 0 in
    let front : take n (zeros ++ drop (0 + length zeros) ws) ≡ zeros
    = subst (λ k. take k (zeros ++ drop (0 + length zeros) ws) ≡ zeros) (length-replicate n 0) (take-append_seam zeros _) in
    rw front (every_replicate f n 0 z)

module _ (b : ℕ) (e : Engine) (h : Facts b e) (x : Effects) where
  -- the storage after a set-up: its words are zero
  pub set_up_storage : (u : SetUp) → SetsUp e.storage e.state.map u x
      → storage_after b x e.storage ≡ placed 0 (replicate (words u) 0) e.storage
  unfolding storage_after after_report with_copy with_delivery with_store no_report no_store_of
  set_up_storage u m = rw (m.report, m.zeroed, placed_none) refl

  sets_up_storage : (u : SetUp) → SetsUp e.storage e.state.map u x → StorageFacts b x.state (storage_after b x e.storage)
  sets_up_storage u m =
      let lies = (fitting_facts (length e.storage) u m.fits).lies in
      let long : length (placed 0 (replicate (words u) 0) e.storage) ≡ length e.storage = length_placed 0 _ e.storage
      (rw length-replicate (omega arith)) in
      rw (set_up_storage u m)
      (storage_facts_of b x.state _ u m.setup (rw (long, m.fits)) (rw m.map (fresh_section _ u m.fits _))
      (zeros_first (below (2 ^ b)) (words u) e.storage (lt-ltb _ _ (pow_pos b))))

  -- the clauses on the storage bear on no width of the state
  any_width : (w : ℕ) → StorageFacts b x.state (storage_after b x e.storage)
      → StorageFacts b (with_width w x.state) (storage_after b x e.storage)
  any_width w s = record { numbers = s.numbers; blocks = s.blocks; values = s.values }

  -- the effects of a plan keep the engine sound
  moves_storage : Moves b e.state.core.setup e.state.map x → StorageFacts b x.state (storage_after b x e.storage)
  moves_storage (still m) = still_storage b e h x m
  moves_storage (frees m) = frees_storage b e h x m
  moves_storage (delivers m) = delivers_storage b e h x m

  pub planned_facts : (l : Lent) → Planned b l e x → Facts b (engine_after b x e)
  unfolding engine_after
  planned_facts l (setting_up _ core m) = record { core = core; storage = any_width _ (sets_up_storage (set_up_at l e) m) }
  planned_facts l (moving _ m) = record { core = m.core; storage = any_width _ (moves_storage m.moves) }
