-- What the map says at an address of the set-up words: the size of a live block there, and the map when the tree around it is changed.
-- Assumes nothing.
use Rattle.std.specs.Prelude.{Some}
use Rattle.std.proofs.Common.{◌≡◌, ℕ, zero, suc, ◌+◌, ◌-◌, ◌*◌, ◌/◌, ◌%◌, ◌<◌, ◌≤◌, true, cond, ltb, List, ◌++◌, length, get_or, take, drop, replicate, sym, refl, ap, ◌∙◌, subst, ap₂, mul-le-mul_right, mod-lt, div-lt_iff_lt-mul, div-add-mod', arith, get_or-drop, get_or-take, get_or-append-add, le-ltb, lt-ltb}
use Rattle.word.proofs.Tests.{by_leb}
use Rattle.buddy.specs.Upward.{Rises, Rising}
use Rattle.block.specs.declared.SetUp.{SetUp}
use Rattle.block.specs.Blocks.{size, Tree, changed, freed, size_at}
use Rattle.block.specs.SetUp.{top, words}
use Rattle.block.specs.Map.{live_tag_of, written, canonical, all_written, trees, map_of, keeps, live, freed_map, delivered_map}
use Rattle.block.specs.SetUp.{runs}
use Rattle.buddy.specs.Lowest.{first_of}
use Rattle.buddy.specs.Tag.{tag_size, start_size}
use Rattle.block.proofs.Size.{size_pos, top_le}
use Rattle.block.proofs.Map.{keeps_parts, keeps_words, length_all_written, trees_fill}
use Rattle.buddy.proofs.Halves.{part_length}
use Rattle.buddy.proofs.LiveSize.{all_tag, tag_below, tag_above, live_size}
use Rattle.buddy.proofs.First.{first_run}
use Rattle.buddy.proofs.Placed.{Placed, placed}
use Rattle.buddy.proofs.Upward.{rises}
use Rattle.buddy.proofs.Delivered.{Spot, spot_same, spot_trees, Ready, ready}

-- what a free in the tree of n words around address a asks and gives
pub record Freeing (u : SetUp) (m : List ℕ) (a k n : ℕ) : Type 0 where
  pub low : u.s1 ≤ a
  pub inside : a - u.s1 < length m
  pub live : 2 ≤ get_or m (a - u.s1) 0
  pub fits : (a - u.s1) / n * n + n ≤ length m
  pub asks : let start = (a - u.s1) / n * n in let part = take (start + n - start) (drop start m) in
      (k ≤ 7) × (length part ≡ size k) × Rising k (get_or m (a - u.s1) 0 / 2 - 1) ((a - u.s1) % n) part
  pub puts : let start = (a - u.s1) / n * n in let part = take (start + n - start) (drop start m) in (ys : List ℕ)
      → ((new : List ℕ) → Rises k (get_or m (a - u.s1) 0 / 2 - 1) ((a - u.s1) % n) part new → ys ≡ new)
      → take start m ++ (ys ++ drop (start + n - start) (drop start m)) ≡ freed_map a u m

-- zeros are zero, and nothing stands past them
get_d_zeros : (n i : ℕ) → ◌≡◌ {A = ℕ} (get_or (replicate n 0) i 0) 0
get_d_zeros zero i = refl
get_d_zeros (suc n) zero = refl
get_d_zeros (suc n) (suc i) = get_d_zeros n i

module _ (u : SetUp) (m : List ℕ) where
  -- below the set-up words no live block starts
  pub live_below : (a : ℕ) → a < u.s1 → size_at a (live u m) ≡ 0
  unfolding live
  live_below a h = tag_below (top u.d) u.s1 a (trees u m) h

  module _ (whole : words u % size (top u.d) ≡ 0) where
    -- nor above them
    pub live_above : (a : ℕ) → u.s1 + words u ≤ a → size_at a (live u m) ≡ 0
    unfolding live
    live_above a h = tag_above (top u.d) u.s1 a (trees u m) (omega (arith, trees_fill u m whole))

    module _ (kept : keeps u m ≡ true) where
      -- in them the byte tells
      pub live_tag : (a : ℕ) → u.s1 ≤ a → a < u.s1 + words u → size_at a (live u m) ≡ tag_size (get_or m (a - u.s1) 0)
      unfolding live map_of
      live_tag a h l =
          let far : u.s1 + (a - u.s1) ≡ a = omega arith in
          let rest = replicate {A = ℕ} (length m - words u) 0 in
          ap (λ (b : ℕ). size_at b (live u m)) (sym far)
          ∙ all_tag (top u.d) u.s1 (a - u.s1) (trees u m) rest (top_le u.d) (omega (arith, trees_fill u m whole))
          ∙ ap (λ (xs : List ℕ). tag_size (get_or xs (a - u.s1) 0)) (keeps_parts u m kept).1

      -- past them every byte is zero
      zero_past : (i : ℕ) → words u ≤ i → get_or m i 0 ≡ 0
      unfolding map_of
      zero_past i h =
          let bytes : length (all_written (top u.d) (trees u m)) ≡ words u = length_all_written (top u.d) (trees u m) ∙ trees_fill u m whole in
          let far : length (all_written (top u.d) (trees u m)) + (i - words u) ≡ i = omega (arith, bytes) in
          sym (ap (λ (xs : List ℕ). get_or xs i 0) (keeps_parts u m kept).1)
          ∙ ap (λ (k : ℕ). get_or (map_of u (length m) (trees u m)) k 0) (sym far)
          ∙ get_or-append-add (all_written (top u.d) (trees u m)) (replicate (length m - words u) 0) (i - words u) 0
          ∙ get_d_zeros (length m - words u) (i - words u)

      -- wherever the address is
      pub live_start_lem : (a : ℕ) → start_size u.s1 m a ≡ size_at a (live u m)
      unfolding start_size tag_size
      live_start_lem a = by_leb (λ _. start_size u.s1 m a ≡ size_at a (live u m)) u.s1 a above (λ l. rw (lt-ltb a u.s1 l) (sym (live_below a l)))
        where
          above : u.s1 ≤ a → cond (ltb a u.s1) 0 (tag_size (get_or m (a - u.s1) 0)) ≡ size_at a (live u m)
          above low = rw (le-ltb a u.s1 low) (by_leb (λ _. tag_size (get_or m (a - u.s1) 0) ≡ size_at a (live u m)) (u.s1 + words u) a
              (λ l. rw (zero_past (a - u.s1) (omega arith)) (sym (live_above a l)))
              (λ l. sym (live_tag a low l)))

      -- a live block starts in them, and its byte is its tag
      live_here : (a : ℕ) → (size_at a (live u m) ≡ 0 → ⊥) → (u.s1 ≤ a) × (a < u.s1 + words u)
          × (get_or m (a - u.s1) 0 ≡ live_tag_of (get_or m (a - u.s1) 0 / 2 - 1))
      live_here a some =
          let low : u.s1 ≤ a = by_leb (λ _. u.s1 ≤ a) u.s1 a (λ h. h) (λ l. absurd (some (live_below a l))) in
          let high : a < u.s1 + words u = by_leb (λ _. a < u.s1 + words u) (u.s1 + words u) a (λ l. absurd (some (live_above a l))) (λ h. h) in
          (low, high, live_size (get_or m (a - u.s1) 0) (λ e. some (live_tag a low high ∙ e)))

      -- the lowest run, and the map when it is delivered
      pub delivers : (j a : ℕ) → u.s1 ≤ a → j ≤ top u.d → first_of (runs (size j) u (live u m)) ≡ Some a
          → Ready j (top u.d) (a - u.s1) m (delivered_map j a u m) (get_or m (a - u.s1) 0 / 2)
      unfolding delivered_map map_of
      delivers j a h low run =
          let far : u.s1 + (a - u.s1) ≡ a = omega arith in
          let found = first_run u m j whole kept low ∙ run ∙ ap Some (sym far) in
          let s = spot_trees j (top u.d) u.s1 (a - u.s1) (trees u m) (replicate (length m - words u) 0) low found in
          ready (subst (λ (b : ℕ). Spot j (top u.d) (a - u.s1) b m (delivered_map j b u m)) far (spot_same (keeps_parts u m kept).1 refl s))

      module _ (k n a : ℕ) (ek : k ≡ top u.d) (en : n ≡ size k) (h : u.s1 ≤ a) (l : a < u.s1 + words u) where
        -- the tree around an address
        abbrev start : ℕ
        start = (a - u.s1) / n * n

        n_pos : 0 < n
        n_pos = omega (arith, size_pos k)

        n_size : n ≡ size (top u.d)
        n_size = en ∙ ap size ek

        fill : length (trees u m) * n ≡ words u
        fill = ap (λ (i : ℕ). length (trees u m) * i) n_size ∙ trees_fill u m whole

        place : (a - u.s1) / n < length (trees u m)
        place = (div-lt_iff_lt-mul n_pos).1 (omega (arith, fill))

        -- it lies in the map
        tree_fits : start + n ≤ length m
        tree_fits =
            let long = keeps_words u m whole kept in
            let top-place : suc ((a - u.s1) / n) * n ≤ length (trees u m) * n = mul_le place in
            omega (arith, fill)
          where
            mul_le : {x y : ℕ} → x < y → suc x * n ≤ y * n
            mul_le {x} {y} s = mul-le-mul_right n s

        there : Placed k ((a - u.s1) / n) (trees u m) m (replicate (length m - words u) 0)
        unfolding map_of
        there =
            let parts = keeps_parts u m kept in
            subst (λ (i : ℕ). Placed i ((a - u.s1) / n) (trees u m) m (replicate (length m - words u) 0)) (sym ek)
            (subst (λ (xs : List ℕ). Placed (top u.d) ((a - u.s1) / n) (trees u m) xs (replicate (length m - words u) 0)) parts.1
            (placed (top u.d) ((a - u.s1) / n) (trees u m) (replicate (length m - words u) 0) place parts.0))

        -- its bytes
        bytes_there : take (start + n - start) (drop start m) ≡ written k there.tree
        bytes_there =
            let same : start + n - start ≡ size k = let e : start + n - start ≡ n = omega arith in e ∙ en in
            let at : start ≡ (a - u.s1) / n * size k = ap (λ (i : ℕ). (a - u.s1) / n * i) en in
            ap₂ (λ (i j : ℕ). take i (drop j m)) same at ∙ there.bytes

        -- the map when it is changed
        changes : (f : ℕ → Tree → Tree) (ys : List ℕ)
            → ((t : Tree) → canonical k t ≡ true → take (start + n - start) (drop start m) ≡ written k t → ys ≡ written k (f (u.s1 + start) t))
            → take start m ++ (ys ++ drop (start + n - start) (drop start m)) ≡ map_of u (length m) (changed f a (top u.d) u.s1 (trees u m))
        unfolding map_of
        changes f ys inner =
            let q = (a - u.s1) / n in
            let p = there in
            let same : start + n - start ≡ size k = let e : start + n - start ≡ n = omega arith in e ∙ en in
            let at : start ≡ q * size k = ap (λ (i : ℕ). q * i) en in
            let far = div-add-mod' (a - u.s1) n in
            let small = mod-lt (a - u.s1) n_pos in
            let new : ys ≡ written k (f (u.s1 + q * size k) p.tree)
            = inner p.tree p.whole bytes_there ∙ ap (λ (i : ℕ). written k (f (u.s1 + i) p.tree)) at in
            ap₂ ◌++◌ (ap (λ (i : ℕ). take i m) at) (ap₂ ◌++◌ new (ap₂ (λ (i j : ℕ). drop i (drop j m)) same at))
            ∙ p.puts f a u.s1 (omega arith) (omega arith)
            ∙ ap (λ (i : ℕ). all_written i (changed f a i u.s1 (trees u m)) ++ replicate (length m - words u) 0) ek

        -- the byte of the address in it
        byte_there : get_or (take (start + n - start) (drop start m)) ((a - u.s1) % n) 0 ≡ get_or m (a - u.s1) 0
        byte_there =
            let small = mod-lt (a - u.s1) n_pos in
            let far : start + (a - u.s1) % n ≡ a - u.s1 = div-add-mod' (a - u.s1) n in
            get_or-take (start + n - start) (drop start m) ((a - u.s1) % n) 0 (omega arith) ∙ get_or-drop start m ((a - u.s1) % n) 0
            ∙ ap (λ (i : ℕ). get_or m i 0) far

        module _ (i : ℕ) (tag : get_or m (a - u.s1) 0 ≡ live_tag_of i) where
          abbrev part : List ℕ
          part = take (start + n - start) (drop start m)

          rises_there : (at : ℕ) (t : Tree) → part ≡ written k t → Rises k i ((a - u.s1) % n) part (written k (freed (at + (a - u.s1) % n) k at t))
          rises_there at t bytes = rises k i ((a - u.s1) % n) at t part (rw (← en) (mod-lt (a - u.s1) n_pos)) bytes (byte_there ∙ tag)

          -- what is asked of a free there
          free_asks : (k ≤ 7) × (length part ≡ size k) × Rising k i ((a - u.s1) % n) part
          free_asks = (omega (arith, ek, top_le u.d), part_length start n m tree_fits ∙ en, (_, rises_there 0 there.tree bytes_there))

          -- and the map after it
          frees_map : (ys : List ℕ) → ((new : List ℕ) → Rises k i ((a - u.s1) % n) part new → ys ≡ new)
              → take start m ++ (ys ++ drop (start + n - start) (drop start m)) ≡ freed_map a u m
          unfolding freed_map
          frees_map ys risen =
              let far : (u.s1 + start) + (a - u.s1) % n ≡ a = omega (arith, div-add-mod' (a - u.s1) n) in
              changes (freed a (top u.d)) ys
              (λ t canon bytes. risen _ (rises_there (u.s1 + start) t bytes) ∙ ap₂ (λ (b j : ℕ). written k (freed b j (u.s1 + start) t)) far ek)

      -- so where a live block starts it can be freed
      pub freeing : (k n a : ℕ) → k ≡ top u.d → n ≡ size k → (size_at a (live u m) ≡ 0 → ⊥) → Freeing u m a k n
      unfolding live_tag_of
      freeing k n a ek en some =
          let (h, l, tag) = live_here a some in
          let i = get_or m (a - u.s1) 0 / 2 - 1 in
          record {
            low = h;
            inside = omega (arith, keeps_words u m whole kept);
            live = omega arith;
            fits = tree_fits k n a ek en h l;
            asks = free_asks k n a ek en h l i tag;
            puts = frees_map k n a ek en h l i tag;
          }
