-- The blocks that a map tells, before and after a set-up, an extension, a free and a delivery, are as the book enters them.
-- Assumes nothing.
use Prim.Native.Nat.{ℕ, suc, ◌+◌, ◌-◌, ◌*◌, ◌/◌, ◌%◌, ◌≤◌}
use native.Mathlib.Omega.{arith}
use mathlib.Core.Bool.{true, false}
use mathlib.Core.List.{List, [], ◌++◌, append-nil, Memᴰ}
use mathlib.Core.Path.{◌≡◌, ap, subst, ◌∙◌}
use lib.ListN.{length, replicate}
use Rattle.block.specs.declared.SetUp.{SetUp}
use Rattle.block.specs.Blocks.{Block, Free, size, live_in, free_in, gathered, size_at, start, inserted}
use Rattle.block.specs.SetUp.{top, words, fitting, runs}
use Rattle.block.specs.Map.{all_canonical, trees, keeps, live, free, fresh_map, freed_map, delivered_map}
use Rattle.block.specs.Extension.{extended_to, extending, extended_map}
use Rattle.block.proofs.Size.{size_mono, fitting_facts}
use Rattle.block.proofs.Map.{keeps_parts, trees_fill}
use Rattle.block.proofs.Change.{words_whole, fresh_tells, keeps_freed, keeps_delivered}
use Rattle.block.proofs.Extension.{gathered_append, first_added, extended_tells}
use Rattle.block.proofs.Each.{each_mem}
use Rattle.block.proofs.Tiling.{map_each, map_tiles, tiles_once}
use Rattle.block.proofs.Delivered.{map_room}
use Rattle.book.specs.Book.{without, times, blocks_from, halves, joined_once, halved_once}
use Rattle.book.specs.Claim.{Tiled}
use Rattle.book.proofs.Apart.{apart, fresh_blocks}
use Rattle.book.proofs.Delivered.{delivered_free}
use Rattle.book.proofs.Freed.{freed_live, freed_free}

module _ (lent : ℕ) (u : SetUp) (fits : fitting lent u ≡ true) where
  abbrev k : ℕ
  k = top u.d

  largest : size k ≡ u.d
  largest = (fitting_facts lent u fits).largest

  first_aligned : u.s1 % size k ≡ 0
  first_aligned = rw largest (fitting_facts lent u fits).aligned

  -- after a set-up
  pub fresh_live : (n : ℕ) → live u (fresh_map u n) ≡ []
  unfolding live
  fresh_live n = rw (fresh_tells lent u fits n) (fresh_blocks k u.s1 (words u / size k)).1

  pub fresh_free : (n : ℕ) → free u (fresh_map u n) ≡ blocks_from u.d u.s1 (words u / u.d)
  unfolding free
  fresh_free n = rw (fresh_tells lent u fits n) ((fresh_blocks k u.s1 (words u / size k)).0 ∙ ap (λ d. blocks_from d u.s1 (words u / d)) largest)

  module _ (m : List ℕ) (kept : keeps u m ≡ true) where
    canonical_trees : all_canonical k (trees u m) ≡ true
    canonical_trees = (keeps_parts u m kept).0

    fill : length (trees u m) * size k ≡ words u
    fill = trees_fill u m (words_whole lent u fits)

    -- after a free
    module _ (a : ℕ) (is_live_of : size_at a (live u m) ≡ 0 → ⊥) where
      pub freed_live_map : live u (freed_map a u m) ≡ without start a (live u m)
      unfolding live
      freed_live_map =
          rw (keeps_freed lent u fits m kept a).tells (freed_live a k u.s1 (trees u m) first_aligned canonical_trees is_live_of)

      pub freed_free_map : free u (freed_map a u m)
          ≡ (let more = inserted start (record { address = a; size = size_at a (live u m) }) (free u m) in
          times (length more) (joined_once u.d) more)
      unfolding live free
      freed_free_map =
          let x : Block = record { address = a; size = size_at a (live u m) } in
          let more = inserted start x (free u m) in
          rw (keeps_freed lent u fits m kept a).tells
          (freed_free a k u.s1 (trees u m) first_aligned canonical_trees is_live_of ∙ ap (λ d. times (length more) (joined_once d) more) largest)

    -- after a delivery; the live ones are so by block/proofs/Delivered
    pub delivered_free_map : (j a : ℕ) → j ≤ k → Memᴰ a (runs (size j) u (live u m))
        → free u (delivered_map j a u m) ≡ without start a (times u.d (halved_once a (size j)) (free u m))
    unfolding free
    delivered_free_map j a small run =
        rw (keeps_delivered lent u fits m kept j a).tells
        (delivered_free j a k u.s1 (trees u m) (map_room lent u fits m kept j a small run)
        ∙ ap (λ d. without start a (times d (halved_once a (size j)) (gathered (free_in k) k u.s1 (trees u m)))) largest)

    -- after an extension
    module _ (last : ℕ) (taken : extending lent last u ≡ true) where
      tells : trees (extended_to last u) (extended_map last u m) ≡ trees u m ++ replicate ((last - u.s2) / size k) Free
      tells = extended_tells lent lent last u fits taken m kept

      pub extended_live_map : live (extended_to last u) (extended_map last u m) ≡ live u m
      unfolding live extended_to
      extended_live_map =
          rw (
            tells,
            gathered_append (live_in k) k u.s1 (trees u m) _,
            (fresh_blocks k (u.s1 + length (trees u m) * size k) ((last - u.s2) / size k)).1,
            append-nil,
          )

      pub extended_free_map : free (extended_to last u) (extended_map last u m)
          ≡ free u m ++ blocks_from u.d (suc u.s2) ((last - u.s2) / u.d)
      unfolding free extended_to
      extended_free_map =
          let first : u.s1 + length (trees u m) * size k ≡ suc u.s2 = omega (arith, fill, first_added lent lent last u fits taken) in
          rw (
            tells,
            gathered_append (free_in k) k u.s1 (trees u m) _,
            (fresh_blocks k (u.s1 + length (trees u m) * size k) ((last - u.s2) / size k)).0,
            first,
          )
          (ap (λ d. gathered (free_in k) k u.s1 (trees u m) ++ blocks_from d (suc u.s2) ((last - u.s2) / d)) largest)

    -- live and free blocks tile the set-up words
    pub tiled : Tiled u (live u m) (free u m)
    unfolding live free
    tiled =
        let lies = map_each lent u fits m in
        record {
          once = λ w low high. tiles_once (map_tiles lent u fits m kept) w low high;
          inside = λ x n. let l = each_mem lies n in (l.first, l.last);
          aligned = λ x n. (each_mem lies n).aligned;
          sizes = λ x n. let (j, low, same) = (each_mem lies n).place in ((j, same), rw same (subst (λ d. size j ≤ d) largest (size_mono low)));
          apart = λ x y n o. subst (λ d. halves d x y ≡ false) largest (apart k u.s1 (trees u m) first_aligned canonical_trees x y n o);
        }
