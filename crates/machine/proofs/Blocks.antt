-- Get, free and duplicate, where they are not refused: a run outside the live blocks is delivered, a live block is freed.
-- Assumes nothing.
use Prim.Native.Nat.{ℕ, ◌+◌, ◌≤◌, ◌<◌}
use native.Mathlib.Omega.{arith}
use mathlib.Core.Bool.{Bool, true, false, not, ◌&&◌, cond}
use mathlib.Core.List.Memᴰ
use mathlib.Core.List.{List, [], ◌∷◌, Memᴰ}
use mathlib.Core.Logic.{◌⊎◌, inl, inr}
use mathlib.Core.Path.{◌≡◌, refl, subst, sym, ap, ◌∙◌}
use borrow.Author.Tests.{leb-false, ltb-false}
use lib.Dec.{eqb, leb, ltb}
use Rattle.word.specs.Field.{width, kept}
use Rattle.block.specs.declared.SetUp.{SetUp}
use Rattle.block.specs.Blocks.{Block, size, level, size_at}
use Rattle.block.specs.SetUp.{top, runs}
use Rattle.block.specs.Map.{delivered_map}
use Rattle.block.proofs.Size.{size_pos, level_le, level_size}
use Rattle.block.proofs.Runs.{runs_lowest}
use Rattle.machine.specs.declared.Core.{Core}
use Rattle.machine.specs.declared.Location.{Location}
use Rattle.machine.specs.declared.Location.TheVariants.{Bug, Field}
use Rattle.machine.specs.declared.Store.{Store}
use Rattle.machine.specs.Answer.{passed, ◌>>=◌}
use Rattle.machine.specs.State.{on_core, with_map}
use Rattle.machine.specs.Storage.{no_store_of}
use Rattle.machine.specs.Locate.{world, live_blocks, contents, locate}
use Rattle.machine.specs.Effects.{Effects, reporting, assigned, store_to, engine_after}
use Rattle.machine.specs.Operations.{Given, Wanted, first_run_of, lowest_run, delivering, and_storing, get_wants, get, lies_in, free}
use Rattle.machine.specs.Operations.{duplicate_wants, duplicate}
use Rattle.machine.proofs.Checks.{need_passed, bind_passed, passed_same, clash}
use Rattle.machine.proofs.Facts.{CoreFacts, Facts, assigned_facts}
use Rattle.machine.proofs.Located.{Located, StoreFacts, nowhere, located, store_facts}
use Rattle.machine.proofs.Moves.{frees, delivers, Done, live_after}
use Rattle.machine.proofs.Meanings.{assigned_setup}

-- the first of the runs is one of them
pub one_of_runs : (rs : List ℕ) (a : ℕ) → first_run_of rs ≡ passed a → Memᴰ a rs
unfolding first_run_of
one_of_runs [] a k = let never : ◌≡◌ {A = ℕ} 0 1 = cc in absurd (omega arith)
one_of_runs (r ∷ rs) a k = Memᴰ.head (sym (passed_same k))

-- and none of them is lower
lowest_of_runs : (n : ℕ) (u : SetUp) (live : List Block) → 0 < n → (a : ℕ) → first_run_of (runs n u live) ≡ passed a
    → (b : ℕ) → Memᴰ b (runs n u live) → a ≤ b
unfolding first_run_of
lowest_of_runs n u live pos a k b m = go (runs n u live) refl k
  where
    go : (rs : List ℕ) → runs n u live ≡ rs → first_run_of rs ≡ passed a → a ≤ b
    go [] e q = absurd (Memᴰ.not-nil (subst (Memᴰ b) e m))
    go (r ∷ rs) e q = subst (λ x. x ≤ b) (passed_same q) (runs_lowest n u live pos e m)

-- a word that does not lie in a block lies before or after it
before_or_after : (word p n : ℕ) (x y : Bool) → leb p word ≡ x → ltb word (p + n) ≡ y → not (x && y) ≡ true → (word < p) ⊎ (p + n ≤ word)
before_or_after word p n false y h k q = inl (leb-false _ _ h)
before_or_after word p n true false h k q = inr (ltb-false _ _ k)
before_or_after word p n true true h k q = clash q

clear_of : (at : Location) (v p n : ℕ) → not (lies_in p n at) ≡ true
    → ((store_to at v).address ≡ 0) ⊎ (((store_to at v).address < p) ⊎ (p + n ≤ (store_to at v).address))
unfolding lies_in store_to no_store_of
clear_of (Bug x) v p n k = inl refl
clear_of (Field word left right) v p n k =
    elim (eqb (width left right) 0) as (λ t. ((cond t no_store_of (record { address = word; left = left; right = right; bits = kept left right v })).address ≡ 0)
    ⊎ (((cond t no_store_of (record { address = word; left = left; right = right; bits = kept left right v })).address < p)
    ⊎ (p + n ≤ (cond t no_store_of (record { address = word; left = left; right = right; bits = kept left right v })).address)))
    [ true ↦ inl refl | false ↦ inr (before_or_after word p n _ _ refl refl k) ]

module _ (b : ℕ) (g : Given) (h : Facts b g.engine) where
  -- 4 free
  pub free_done : (x : Effects) → free b g ≡ passed x → Done b g.engine x
  unfolding free reporting with_map on_core
  free_done x k =
      let (a, k₁, k₂) = bind_passed _ _ k in
      let (c, _, k₄) = bind_passed _ _ k₂ in
      let (is_live_of, k₅) = need_passed _ _ _ k₄ in
      let (isClear, k₆) = need_passed _ _ _ k₅ in
      let l = located b g.engine h.core g.row.first a k₁ in
      subst (Done b g.engine) (passed_same k₆)
      (record {
        core = assigned_facts b g.engine.state.core h.core a c.value;
        moves = frees (record {
          setup = assigned_setup b a c.value g.engine.state.core;
          is_live_of = is_live_of;
          map = refl;
          delivered = refl;
          size = refl;
          copied = refl;
          zeroed = refl;
          first = store_facts b (live_blocks g.engine) a c.value l;
          clear = clear_of a c.value (contents b (world g.engine) a) _ isClear;
          second = refl;
        });
      })

  -- what is delivered at the lowest run, and perhaps a second store
  module _ (w : Wanted) (j : ℕ) (fits : j ≤ top g.engine.state.core.setup.d)
      (is_size : w.words ≡ size j)
      (isCopy : (w.copied ≡ 0) ⊎ ((not (eqb (size_at w.copied (live_blocks g.engine)) 0) ≡ true)
      × (size_at w.copied (live_blocks g.engine) ≡ w.words)))
      (l : Located b (live_blocks g.engine) w.a) (address : ℕ) (k : lowest_run g.engine.state.core.setup g.engine.state.map w.words
      ≡ passed address) where
    run_there : Memᴰ address (runs (size j) g.engine.state.core.setup (live_blocks g.engine))
    unfolding lowest_run
    run_there = one_of_runs _ address (rw is_size at k)

    lowest_there : (a : ℕ) → Memᴰ a (runs (size j) g.engine.state.core.setup (live_blocks g.engine)) → address ≤ a
    unfolding lowest_run
    lowest_there = lowest_of_runs (size j) g.engine.state.core.setup (live_blocks g.engine) (size_pos j) address (rw is_size at k)

    same_map : delivered_map (level (top g.engine.state.core.setup.d) w.words) address g.engine.state.core.setup g.engine.state.map
        ≡ delivered_map j address g.engine.state.core.setup g.engine.state.map
    same_map = rw (is_size, level_size (top g.engine.state.core.setup.d) fits)

    -- the run is live, its address stored in a, and then there may be another store
    effects : Core → Store → Effects
    effects c second =
        record {
          state = record {
            width = g.engine.state.width;
            core = c;
            map = delivered_map (level (top g.engine.state.core.setup.d) w.words) address g.engine.state.core.setup g.engine.state.map;
          };
          report = record {
            freed = 0;
            delivered = address;
            size = w.words;
            copied = w.copied;
            first = store_to w.a address;
            second = second;
          };
          zeroed = 0;
          printed = [];
        }

    effects_done : (c : Core) (second : Store) → CoreFacts b c → c.setup ≡ g.engine.state.core.setup
        → StoreFacts b (live_after (effects c second)) second → Done b g.engine (effects c second)
    unfolding effects
    effects_done c second core setup store =
        record {
          core = core;
          moves = delivers (record {
            setup = setup;
            freed = refl;
            level = j;
            level_fits = fits;
            size = is_size;
            is_run = run_there;
            is_lowest = lowest_there;
            map = same_map;
            copied = isCopy;
            zeroed = refl;
            first = store_facts b (live_blocks g.engine) w.a address l;
            second = store;
          });
        }

    delivering_done : Done b g.engine (delivering b w address g.engine.state)
    unfolding effects delivering reporting with_map on_core no_store_of
    delivering_done =
        effects_done _ no_store_of (assigned_facts b g.engine.state.core h.core w.a address)
        (assigned_setup b w.a address g.engine.state.core) (nowhere refl)

    -- the same with a second store, to where a reference leads after the delivery
    storing_done : (a2 : Location) (v : ℕ) → locate b (world (engine_after b (delivering b w address g.engine.state) g.engine)) g.row.third
        ≡ passed a2
        → Done b g.engine (and_storing b a2 v (delivering b w address g.engine.state))
    unfolding effects and_storing delivering reporting with_map on_core engine_after
    storing_done a2 v k₂ =
        let core = assigned_facts b g.engine.state.core h.core w.a address in
        let l2 = located b _ core g.row.third a2 k₂ in
        effects_done _ _ (assigned_facts b _ core a2 v) (assigned_setup b a2 v _ ∙ assigned_setup b w.a address g.engine.state.core)
        (store_facts b _ a2 v (rw (assigned_setup b a2 v (assigned b w.a address g.engine.state.core)) l2))

  -- 3 get
  pub get_done : (x : Effects) → get b g ≡ passed x → Done b g.engine x
  unfolding get get_wants
  get_done x k =
      let (w, k₁, k₂) = bind_passed _ _ k in
      let (address, k₃, k₄) = bind_passed _ _ k₂ in
      let (a, l₁, l₂) = bind_passed _ _ k₁ in
      let (n, _, l₄) = bind_passed _ _ l₂ in
      let (_, l₆) = need_passed _ _ _ l₄ in
      let same = passed_same l₆ in
      let j = level (top g.engine.state.core.setup.d) n.value in
      let fits : j ≤ top g.engine.state.core.setup.d = level_le _ _ in
      let is_size : w.words ≡ size j = ap (λ w. w.words) (sym same) in
      let isCopy : w.copied ≡ 0 = ap (λ w. w.copied) (sym same) in
      let l : Located b (live_blocks g.engine) w.a = subst (λ w. Located b (live_blocks g.engine) w.a) same
      (located b g.engine h.core g.row.first a l₁) in
      elim (eqb g.row.third.form 0) as (λ t. cond t (passed (delivering b w address g.engine.state))
      (locate b (world (engine_after b (delivering b w address g.engine.state) g.engine)) g.row.third
      >>= λ a2. passed (and_storing b a2 (contents b (world g.engine) w.a) (delivering b w address g.engine.state))) ≡ passed x
      → Done b g.engine x) [
        | true ↦ λ m. subst (Done b g.engine) (passed_same m) (delivering_done w j fits is_size (inl isCopy) l address k₃)
        | false ↦ λ m.
            let (a2, m₁, m₂) = bind_passed _ _ m in
            subst (Done b g.engine) (passed_same m₂) (storing_done w j fits is_size (inl isCopy) l address k₃ a2 _ m₁)
      ] k₄

  -- 5 duplicate
  pub duplicate_done : ((a : ℕ) → not (eqb (size_at a (live_blocks g.engine)) 0) ≡ true
      → (j : ℕ) × (j ≤ top g.engine.state.core.setup.d) × (size_at a (live_blocks g.engine) ≡ size j))
      → (x : Effects) → duplicate b g ≡ passed x → Done b g.engine x
  unfolding duplicate duplicate_wants
  duplicate_done sizes x k =
      let (w, k₁, k₂) = bind_passed _ _ k in
      let (address, k₃, k₄) = bind_passed _ _ k₂ in
      let (a, l₁, l₂) = bind_passed _ _ k₁ in
      let (c, _, l₄) = bind_passed _ _ l₂ in
      let (is_live_of, l₆) = need_passed _ _ _ l₄ in
      let same = passed_same l₆ in
      let (j, fits, is_size) = sizes c.value is_live_of in
      let l : Located b (live_blocks g.engine) w.a = subst (λ w. Located b (live_blocks g.engine) w.a) same
      (located b g.engine h.core g.row.first a l₁) in
      subst (Done b g.engine) (passed_same k₄)
      (delivering_done w j fits (ap (λ w. w.words) (sym same) ∙ is_size)
      (inr (rw (← (ap (λ w. w.copied) same)) is_live_of, rw (← (ap (λ w. w.copied) same)) (ap (λ w. w.words) same))) l address k₃)
