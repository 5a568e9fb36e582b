-- The book goes with the effects of a step: after them and their entry it matches the engine again.
-- Assumes nothing.
use Prim.Native.Nat.{ℕ, ◌+◌, ◌≤◌, ◌<◌}
use native.Mathlib.Omega.{arith}
use mathlib.Core.Bool.{true, not}
use mathlib.Core.List.{List, Memᴰ}
use mathlib.Core.Logic.{◌⊎◌, inl, inr, ⊎_elim}
use mathlib.Core.Path.{◌≡◌, refl, ap, sym, subst, ◌∙◌}
use borrow.Author.Tests.{eq-eqb}
use lib.Dec.{eqb}
use lib.ListN.{length}
use Rattle.block.specs.declared.SetUp.{SetUp}
use Rattle.block.specs.Blocks.{Block, size, size_at, start}
use Rattle.block.specs.SetUp.{fitting}
use Rattle.block.specs.Map.{live, freed_map, delivered_map}
use Rattle.block.proofs.Size.{size_pos}
use Rattle.block.proofs.Tiling.{map_order, order_size_at, size_at_mem}
use Rattle.block.proofs.Runs.{runs_sound, outside_mem}
use Rattle.machine.specs.declared.Report.{Report}
use Rattle.machine.specs.declared.Store.{Store}
use Rattle.machine.specs.State.{no_set_up}
use Rattle.machine.specs.Storage.{no_store_of, no_report, with_store, with_delivery, with_copy}
use Rattle.machine.specs.Sound.{Engine}
use Rattle.machine.specs.Effects.{Effects, storage_after}
use Rattle.machine.proofs.Checks.{nonzero}
use Rattle.machine.proofs.Facts.{Facts}
use Rattle.machine.proofs.Located.{InBlocks, StoreFacts, nowhere, in_block}
use Rattle.machine.proofs.Live.{live_fits}
use Rattle.machine.proofs.Placed.{length_store}
use Rattle.machine.proofs.Moves.{Still, Frees, Delivers, Moves, still, frees, delivers}
use Rattle.machine.proofs.Keeps.{stores_only, not_zeroed, delivery_fits, delivered_long, copied_long, delivery_storage}
use Rattle.book.specs.Book.{Book, enter_set_up, enter_freed, enter_delivered, enter_copied, enter_store, enter}
use Rattle.book.proofs.Lists.{inserted_new, inserted_old, inserted_cases, without_other}
use Rattle.book.proofs.Moved.{is_live_of, freed_fits, freed_some, gone_live, new_live}
use Rattle.book.proofs.Matches.{Matches, matches_store, matches_freed, matches_delivered, matches_copied}

-- nothing is entered of a report that has nothing
pub enter_nothing : (k : Book) → enter (record { setup = no_set_up; report = no_report }) k ≡ k
unfolding enter enter_store enter_copied enter_delivered enter_freed enter_set_up no_set_up no_report no_store_of
enter_nothing k = refl

-- two stores
enter_stores : (r : Report) (k : Book) → r.freed ≡ 0 → r.size ≡ 0 → r.copied ≡ 0
    → enter (record { setup = no_set_up; report = r }) k ≡ enter_store r.second (enter_store r.first k)
unfolding enter enter_copied enter_delivered enter_freed enter_set_up no_set_up
enter_stores r k f n c = rw (eq-eqb r.freed 0 f, eq-eqb r.size 0 n, eq-eqb r.copied 0 c)

-- a free and two stores
enter_free : (r : Report) (k : Book) → r.size ≡ 0 → r.copied ≡ 0
    → enter (record { setup = no_set_up; report = r }) k ≡ enter_store r.second (enter_store r.first (enter_freed r.freed k))
unfolding enter enter_copied enter_delivered enter_set_up no_set_up
enter_free r k n c = rw (eq-eqb r.size 0 n, eq-eqb r.copied 0 c)

-- a delivery, a copy and two stores
enter_delivery : (r : Report) (k : Book) → r.freed ≡ 0
    → enter (record { setup = no_set_up; report = r }) k
    ≡ enter_store r.second (enter_store r.first (enter_copied r.delivered r.copied (enter_delivered r.delivered r.size k)))
unfolding enter enter_freed enter_set_up no_set_up
enter_delivery r k f = rw (eq-eqb r.freed 0 f)

-- a store is in a block that is in a longer list, or in what is left of one
wider : (b : ℕ) (bs cs : List Block) (s : Store) → ((i : InBlocks bs s.address) → Memᴰ i.block cs) → StoreFacts b bs s → StoreFacts b cs s
wider b bs cs s f (nowhere z) = nowhere z
wider b bs cs s f (in_block r k i) = in_block r k (record { block = i.block; is_one = f i; low = i.low; high = i.high })

module _ (b : ℕ) (e : Engine) (h : Facts b e) (x : Effects) (k : Book) (old : Matches b e.state.core.setup e.state.map e.storage k) where
  abbrev u : SetUp
  u = e.state.core.setup

  abbrev m : List ℕ
  m = e.state.map

  abbrev r : Report
  r = x.report

  abbrev After : List ℕ → List ℕ → Type 0
  After map ws = Matches b u map ws (enter (record { setup = no_set_up; report = r }) k)

  -- two stores after which the book matches
  stored_twice : (m' ws : List ℕ) (k' : Book) → ((y : Block) → Memᴰ y (live u m') → fitting (length ws) u ≡ true)
      → StoreFacts b (live u m') r.first → StoreFacts b (live u m') r.second → Matches b u m' ws k'
      → Matches b u m' (with_store b u.s1 r.second (with_store b u.s1 r.first ws)) (enter_store r.second (enter_store r.first k'))
  stored_twice m' ws k' fitsIf first second match =
      matches_store b u m' _ _ r.second (λ y i. subst (λ n. fitting n u ≡ true) (sym (length_store b u.s1 r.first ws)) (fitsIf y i)) second
      (matches_store b u m' ws k' r.first fitsIf first match)

  entered_still : Still b u m x → After x.state.map (storage_after b x e.storage)
  entered_still s =
      let storage : storage_after b x e.storage ≡ with_store b u.s1 r.second (with_store b u.s1 r.first e.storage)
      = not_zeroed b x e.storage s.zeroed ∙ stores_only b _ r e.storage s.size s.copied
      ∙ ap (λ (v : SetUp). with_store b v.s1 r.second (with_store b v.s1 r.first e.storage)) s.setup in
      subst (λ map. After map (storage_after b x e.storage)) (sym s.map)
      (subst (After m) (sym storage)
      (subst (Matches b u m _) (sym (enter_stores r k s.freed s.size s.copied))
      (stored_twice m e.storage k (live_fits b e.state e.storage h.storage) s.first s.second old)))

  module _ (f : Frees b u m x) where
    abbrev freed_in : fitting (length e.storage) u ≡ true
    freed_in = freed_fits b e h x f

    -- the store's block is not the one that is freed
    spared : (i : InBlocks (live u m) r.first.address) → Memᴰ i.block (live u (freed_map r.freed u m))
    unfolding start
    spared i =
        rw (gone_live b e h x f)
        (without_other start r.freed (λ (same : i.block.address ≡ r.freed). clash same f.clear) i.is_one)
      where
        clash : i.block.address ≡ r.freed → (r.first.address ≡ 0)
            ⊎ ((r.first.address < r.freed) ⊎ (r.freed + size_at r.freed (live u m) ≤ r.first.address)) → ⊥
        clash same (inl z) = absurd (freed_some b e h x f (omega (arith, i.low)))
        clash same (inr (inl before)) = omega (arith, i.low)
        clash same (inr (inr past)) =
            let long = order_size_at (map_order _ u freed_in m).0 i.is_one in
            let size : size_at r.freed (live u m) ≡ i.block.size = ap (λ d. size_at d (live u m)) (sym same) ∙ long in
            omega (arith, i.high)

    entered_frees : After x.state.map (storage_after b x e.storage)
    unfolding no_store_of
    entered_frees =
        let m' = freed_map r.freed u m in
        let storage : storage_after b x e.storage ≡ with_store b u.s1 r.second (with_store b u.s1 r.first e.storage)
        = not_zeroed b x e.storage f.zeroed ∙ stores_only b _ r e.storage f.size f.copied
        ∙ ap (λ (v : SetUp). with_store b v.s1 r.second (with_store b v.s1 r.first e.storage)) f.setup in
        subst (λ map. After map (storage_after b x e.storage)) (sym f.map)
        (subst (After m') (sym storage)
        (subst (Matches b u m' _) (sym (enter_free r k f.size f.copied))
        (stored_twice m' e.storage _ (λ y i. freed_in) (wider b _ _ r.first spared f.first) (nowhere (ap (λ s. s.address) f.second))
        (matches_freed b u m e.storage k r.freed freed_in h.storage.blocks (is_live_of b e h x f) (freed_some b e h x f) old))))

  module _ (d : Delivers b u m x) where
    abbrev fits : fitting (length e.storage) u ≡ true
    fits = delivery_fits b e h x d

    abbrev m₁ : List ℕ
    m₁ = delivered_map d.level r.delivered u m

    grown : (y : Block) → Memᴰ y (live u m) → Memᴰ y (live u m₁)
    grown y i = rw (new_live b e h x d) (inserted_old start _ i)

    new_one : Memᴰ (record { address = r.delivered; size = r.size }) (live u m₁)
    new_one = rw (new_live b e h x d) (inserted_new start _ (live u m))

    others_apart : (y : Block) → Memᴰ y (live u m₁) → (y.address ≡ r.delivered → ⊥) → (y.address + y.size ≤ r.delivered)
        ⊎ (r.delivered + r.size ≤ y.address)
    others_apart y i other =
        ⊎_elim (λ same. absurd (other (ap (λ (z : Block). z.address) same)))
        (λ o. rw d.size (outside_mem r.delivered (size d.level) (live u m)
        (runs_sound (size d.level) u (live u m) (size_pos d.level) d.is_run).2 o))
        (inserted_cases start _ y (live u m) (rw (new_live b e h x d) at i))

    copied_one : (r.copied ≡ 0) ⊎ Memᴰ (record { address = r.copied; size = r.size }) (live u m₁)
    copied_one = go d.copied
      where
        go : (r.copied ≡ 0) ⊎ ((not (eqb (size_at r.copied (live u m)) 0) ≡ true) × (size_at r.copied (live u m) ≡ r.size))
            → (r.copied ≡ 0) ⊎ Memᴰ (record { address = r.copied; size = r.size }) (live u m₁)
        go (inl z) = inl z
        go (inr (some, same)) =
            inr (subst (λ n. Memᴰ (record { address = r.copied; size = n }) (live u m₁)) same
            (grown _ (size_at_mem r.copied (live u m) (nonzero _ some))))

    -- the storage stays as long
    fits_after : (ws : List ℕ) → length ws ≡ length e.storage → fitting (length ws) u ≡ true
    fits_after ws long = rw long fits

    -- the second store goes into a block that is live after the delivery
    second_one : StoreFacts b (live u m₁) r.second
    second_one =
        subst (λ map. StoreFacts b (live u map) r.second) d.map
        (subst (λ v. StoreFacts b (live v x.state.map) r.second) d.setup d.second)

    entered_delivers : After x.state.map (storage_after b x e.storage)
    entered_delivers =
        let ws₁ = with_delivery u.s1 r e.storage in
        let ws₂ = with_copy u.s1 r ws₁ in
        let long₁ = delivered_long b e h x d in
        let long₂ = copied_long b e h x d ws₁ long₁ in
        let match₁ = matches_delivered b u m e.storage r d.level fits d.level_fits d.size d.is_run k h.storage.blocks old in
        let match₂ = matches_copied b u m₁ ws₁ (fits_after ws₁ long₁) _ r match₁ new_one others_apart copied_one in
        subst (λ map. After map (storage_after b x e.storage)) (sym d.map)
        (subst (After m₁) (sym (delivery_storage b e h x d))
        (subst (Matches b u m₁ _) (sym (enter_delivery r k d.freed))
        (stored_twice m₁ ws₂ _ (λ y i. fits_after ws₂ long₂) (wider b _ _ r.first (λ i. grown i.block i.is_one) d.first) second_one match₂)))

  -- the book matches the engine after the effects
  pub entered : Moves b u m x → After x.state.map (storage_after b x e.storage)
  entered (still s) = entered_still s
  entered (frees f) = entered_frees f
  entered (delivers d) = entered_delivers d
