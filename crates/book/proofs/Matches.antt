-- The book matches set-up numbers, map and storage, and each entry keeps it so: set-up, extension, freed, delivered, copied, stored.
-- Assumes nothing.
use Prim.Native.Nat.{ℕ, ◌+◌, ◌-◌, ◌≤◌}
use native.Mathlib.Omega.{arith}
use mathlib.Core.Bool.{true, cond}
use mathlib.Core.List.Memᴰ
use mathlib.Core.List.{List, [], ◌∷◌, map, Memᴰ}
use mathlib.Core.Logic.{◌⊎◌, inl, inr}
use mathlib.Core.Path.{◌≡◌, refl, ap, ap₂, sym, subst, ◌∙◌}
use borrow.Author.Tests.{eq-eqb, ne_eqb}
use lib.Dec.{eqb}
use lib.ListN.{length, set, take, drop, replicate, length-replicate, length-take, length-drop}
use Rattle.word.specs.Field.{stored}
use Rattle.block.specs.declared.SetUp.{SetUp}
use Rattle.block.specs.Blocks.{Block, size, size_at, start, inserted}
use Rattle.block.specs.SetUp.{top, words, fitting, runs}
use Rattle.block.specs.Map.{live, free, keeps, fresh_map, freed_map, delivered_map}
use Rattle.block.specs.Extension.{extended_to, extending, extended_map}
use Rattle.word.proofs.Tests.{by_eqb, either_way}
use Rattle.block.proofs.Size.{size_pos, fitting_facts}
use Rattle.block.proofs.Extension.{extending_facts, extended_words}
use Rattle.block.proofs.Each.{Each, each_nil, each_map, each_mem, mem_each}
use Rattle.block.proofs.Tiling.{Lies, map_order, order_each, order_size_at}
use Rattle.block.proofs.Runs.{runs_sound, outside_each}
use Rattle.block.proofs.Delivered.{delivered_live_map}
use Rattle.machine.specs.declared.Store.{Store}
use Rattle.machine.specs.declared.Report.{Report}
use Rattle.machine.specs.Storage.{word_at, placed, with_store, with_delivery, with_copy}
use Rattle.machine.proofs.Located.{StoreFacts, nowhere, in_block}
use Rattle.book.specs.Book.{Book, LiveBlock, live_start, without, times, joined_once, halved_once, blocks}
use Rattle.book.specs.Book.{no_bits, bits_at, stored_bits, enter_set_up, enter_extension, enter_freed, enter_delivered, enter_copied}
use Rattle.book.specs.Book.{enter_store}
use Rattle.book.proofs.Maps.{fresh_live, fresh_free, extended_live_map, extended_free_map, freed_live_map, freed_free_map}
use Rattle.book.proofs.Maps.{delivered_free_map}
use Rattle.book.proofs.Lists.{each_inserted, each_without, each_blocks, each_both, each_changed, blocks_inserted}
use Rattle.book.proofs.Lists.{blocks_without}
use Rattle.book.proofs.Bits.{BlockBits, store_bits, placed_other, zero_bits, copy_bits}

-- the book's blocks are those of the map, and its bits those of the storage
pub record Matches (b : ℕ) (u : SetUp) (m ws : List ℕ) (k : Book) : Type 0 where
  pub setup : k.setup ≡ u
  pub live : live u m ≡ blocks k.live
  pub free : free u m ≡ k.free
  pub bits : Each (BlockBits b u.s1 ws) k.live

-- a change of the bits alone leaves the blocks
blocks_changed : (f : LiveBlock → LiveBlock) → ((x : LiveBlock) → (f x).block ≡ x.block) → (xs : List LiveBlock) → blocks (map f xs) ≡ blocks xs
unfolding blocks
blocks_changed f same [] = refl
blocks_changed f same (x ∷ xs) = ap₂ ◌∷◌ (same x) (blocks_changed f same xs)

-- a block by its address and size
block_same : {x : Block} {a n : ℕ} → x.address ≡ a → x.size ≡ n → ◌≡◌ {A = Block} (record { address = a; size = n }) x
block_same e f = λ i. record { address = sym e i; size = sym f i }

first_block : (x : LiveBlock) (xs : List LiveBlock) → Memᴰ x.block (blocks (x ∷ xs))
unfolding blocks
first_block x xs = Memᴰ.head refl

module _ (b : ℕ) (u : SetUp) (m : List ℕ) where
  -- the live blocks lie in the set-up words
  lives_lie : (lent : ℕ) → fitting lent u ≡ true → (k : Book) → live u m ≡ blocks k.live
      → Each (λ (x : LiveBlock). Lies (top u.d) u.s1 (u.s1 + words u) x.block) k.live
  lives_lie lent fits k same = each_blocks k.live (subst (Each _) same (order_each (map_order lent u fits m).0))

  -- a store
  pub matches_store : (ws : List ℕ) (k : Book) (s : Store)
      → ((x : Block) → Memᴰ x (live u m) → fitting (length ws) u ≡ true)
      → StoreFacts b (live u m) s → Matches b u m ws k → Matches b u m (with_store b u.s1 s ws) (enter_store s k)
  unfolding with_store enter_store
  matches_store ws k s fitsIf (nowhere z) h = rw (eq-eqb _ 0 z) h
  matches_store ws k s fitsIf (in_block r bits i) h =
      by_eqb (λ t. Matches b u m (cond t ws (set ws (s.address - u.s1) (stored b s.left s.right (word_at u.s1 s.address ws) s.bits)))
      (cond t k (record { setup = k.setup; live = map (λ (x : LiveBlock). record { block = x.block; bits = stored_bits s x }) k.live; free = k.free })))
      s.address 0 (λ z. h) (λ z. after)
    where
      after : Matches b u m (set ws (s.address - u.s1) (stored b s.left s.right (word_at u.s1 s.address ws) s.bits))
          (record { setup = k.setup; live = map (λ (x : LiveBlock). record { block = x.block; bits = stored_bits s x }) k.live; free = k.free })
      after =
          let fits = fitsIf i.block i.is_one in
          let lies = (fitting_facts (length ws) u fits).lies in
          let y = each_mem (order_each (map_order (length ws) u fits m).0) i.is_one in
          let low = y.first in
          let high = y.last in
          let below = i.low in
          let above = i.high in
          record {
            setup = h.setup;
            live = h.live ∙ sym (blocks_changed _ (λ x. refl) k.live);
            free = h.free;
            bits = each_changed (λ (x : LiveBlock). record { block = x.block; bits = stored_bits s x })
                (each_map (λ x p. store_bits b u.s1 s ws r bits (omega arith) (omega arith) x p.0.first p.1)
                (each_both (lives_lie (length ws) fits k h.live) h.bits));
          }

  -- an extension
  pub matches_extended : (ws : List ℕ) (k : Book) (last : ℕ) → fitting (length ws) u ≡ true → keeps u m ≡ true
      → extending (length ws) last u ≡ true → Matches b u m ws k
      → Matches b (extended_to last u) (extended_map last u m) (placed (words u) (replicate (last - u.s2) 0) ws) (enter_extension last k)
  unfolding enter_extension extended_to
  matches_extended ws k last fits kept taken h =
      let n = length ws in
      let zeros : List ℕ = replicate (last - u.s2) 0 in
      let lies = (extending_facts n last u taken).lies in
      let long : u.s1 + words u - u.s1 ≡ words u = omega arith in
      let inside : u.s1 + words u - u.s1 + length zeros ≤ n = rw length-replicate (omega (arith, extended_words n n last u fits taken)) in
      record {
        setup = ap (extended_to last) h.setup;
        live = extended_live_map n u fits m kept last taken ∙ h.live;
        free = extended_free_map n u fits m kept last taken ∙ rw (h.free, h.setup) refl;
        bits = subst (λ (i : ℕ). Each (BlockBits b u.s1 (placed i zeros ws)) k.live) long
            (each_map (λ x p. placed_other b u.s1 (u.s1 + words u) zeros ws (omega arith) inside x p.0.first (inl p.0.last) p.1)
            (each_both (lives_lie n fits k h.live) h.bits));
      }

  -- a free
  pub matches_freed : (ws : List ℕ) (k : Book) (a : ℕ) → fitting (length ws) u ≡ true → keeps u m ≡ true
      → (size_at a (live u m) ≡ 0 → ⊥) → (a ≡ 0 → ⊥) → Matches b u m ws k → Matches b u (freed_map a u m) ws (enter_freed a k)
  unfolding enter_freed
  matches_freed ws k a fits kept is_live_of some h =
      rw (ne_eqb a 0 some)
      (record {
        setup = h.setup;
        live = freed_live_map (length ws) u fits m kept a is_live_of ∙ ap (without start a) h.live ∙ sym (blocks_without a k.live);
        free = freed_free_map (length ws) u fits m kept a is_live_of ∙ same;
        bits = each_without live_start a h.bits;
      })
    where
      same : (let more = inserted start (record { address = a; size = size_at a (live u m) }) (free u m) in times (length more) (joined_once u.d) more)
          ≡ (let more = inserted start (record { address = a; size = size_at a (blocks k.live) }) k.free in
          times (length more) (joined_once k.setup.d) more)
      same = rw (h.live, h.free, h.setup) refl

  -- a delivery
  module _ (ws : List ℕ) (r : Report) (j : ℕ) (fits : fitting (length ws) u ≡ true) (fitsIn : j ≤ top u.d) (is_size : r.size ≡ size j)
      (run : Memᴰ r.delivered (runs (size j) u (live u m))) where
    -- the run's place in the storage
    run_lies : (u.s1 ≤ r.delivered) × (r.delivered - u.s1 + r.size ≤ length ws)
    run_lies =
        let (first, last, _, _) = runs_sound (size j) u (live u m) (size_pos j) run in
        let lies = (fitting_facts (length ws) u fits).lies in
        (first, rw is_size (omega arith))

    live_same : (k : Book) → Matches b u m ws k → inserted start (record { address = r.delivered; size = size j }) (live u m)
        ≡ blocks (inserted live_start (record { block = record { address = r.delivered; size = r.size }; bits = no_bits }) k.live)
    live_same k h =
        ap (inserted start (record { address = r.delivered; size = size j })) h.live
        ∙ ap (λ (n : ℕ). inserted start (record { address = r.delivered; size = n }) (blocks k.live)) (sym is_size)
        ∙ sym (blocks_inserted (record { block = record { address = r.delivered; size = r.size }; bits = no_bits }) k.live)

    free_same : (k : Book) → Matches b u m ws k → without start r.delivered (times u.d (halved_once r.delivered (size j)) (free u m))
        ≡ without start r.delivered (times k.setup.d (halved_once r.delivered r.size) k.free)
    free_same k h = rw (h.free, h.setup, is_size) refl

    pub matches_delivered : (k : Book) → keeps u m ≡ true → Matches b u m ws k
        → Matches b u (delivered_map j r.delivered u m) (with_delivery u.s1 r ws) (enter_delivered r.delivered r.size k)
    unfolding enter_delivered with_delivery
    matches_delivered k kept h =
        let pos = size_pos j in
        let a = r.delivered in
        let (from, inside) = run_lies in
        let fits' : a - u.s1 + length (replicate {A = ℕ} r.size 0) ≤ length ws = rw length-replicate inside in
        let out : Each (λ (x : LiveBlock). (x.block.address + x.block.size ≤ a)
        ⊎ (a + length (replicate {A = ℕ} r.size 0) ≤ x.block.address)) k.live
        = each_blocks k.live (rw (
          length-replicate,
          is_size,
        ) (subst (Each _) h.live (outside_each a (size j) (live u m) (runs_sound (size j) u (live u m) pos run).2))) in
        rw (ne_eqb r.size 0 (λ z. absurd (omega (arith, is_size))))
        (record {
          setup = h.setup;
          live = delivered_live_map (length ws) u fits m kept j a fitsIn run ∙ live_same k h;
          free = delivered_free_map (length ws) u fits m kept j a fitsIn run ∙ free_same k h;
          bits = each_inserted live_start _ (zero_bits b u.s1 a r.size ws from inside)
              (each_map (λ x p. placed_other b u.s1 a (replicate r.size 0) ws from fits' x p.0.first p.1.0 p.1.1)
              (each_both (lives_lie (length ws) fits k h.live) (each_both out h.bits)));
        })

-- a block that is a copy: the words and the bits of another live block of its size
module _ (b : ℕ) (u : SetUp) (m ws : List ℕ) (fits : fitting (length ws) u ≡ true) (k : Book) (h : Matches b u m ws k) (a c n : ℕ)
    (new : Memᴰ (record { address = a; size = n }) (live u m)) (old : Memᴰ (record { address = c; size = n }) (live u m))
    (other : (x : Block) → Memᴰ x (live u m) → (x.address ≡ a → ⊥) → (x.address + x.size ≤ a) ⊎ (a + n ≤ x.address)) where
  abbrev turn : LiveBlock → LiveBlock
  turn x = cond (eqb x.block.address a) (record { block = x.block; bits = bits_at c k.live }) x

  abbrev copy : List ℕ
  copy = take n (drop (c - u.s1) ws)

  -- both lie in the set-up words, which are words of the storage
  place : (y : Block) → Memᴰ y (live u m) → (u.s1 ≤ y.address) × (y.address - u.s1 + y.size ≤ length ws)
  place y is_one =
      let lies = (fitting_facts (length ws) u fits).lies in
      let l = each_mem (order_each (map_order (length ws) u fits m).0) is_one in
      let first = l.first in
      let last = l.last in
      (first, omega arith)

  copy_long : length copy ≡ n
  copy_long = let (from, inside) = place _ old in simp (length-take, length-drop) (omega arith)

  -- each live block's bits after the copy
  turned : (x : LiveBlock) → Memᴰ x.block (live u m) → BlockBits b u.s1 ws x → BlockBits b u.s1 (placed (a - u.s1) copy ws) (turn x)
  turned x is_one bits =
      let (fromA, fitsA) = place _ new in
      let (fromC, fitsC) = place _ old in
      let order = (map_order (length ws) u fits m).0 in
      let long : a - u.s1 + length copy ≤ length ws = rw copy_long fitsA in
      by_eqb (λ t. BlockBits b u.s1 (placed (a - u.s1) copy ws) (cond t (record { block = x.block; bits = bits_at c k.live }) x)) x.block.address a
      (λ e.
      let size : x.block.size ≡ n = sym (order_size_at order is_one) ∙ ap (λ d. size_at d (live u m)) e ∙ order_size_at order new in
      let same : record { address = a; size = n } ≡ x.block = block_same e size in
      subst (λ (y : Block). BlockBits b u.s1 (placed (a - u.s1) copy ws) (record { block = y; bits = bits_at c k.live })) same
      (copy_bits b u.s1 a c n ws k.live h.bits fromA fromC fitsA fitsC (subst (λ bs. size_at c bs ≡ n) h.live (order_size_at order old))))
      (λ e. placed_other b u.s1 a copy ws fromA long x (place _ is_one).0
      (subst (λ d. (x.block.address + x.block.size ≤ a) ⊎ (a + d ≤ x.block.address)) (sym copy_long) (other x.block is_one e)) bits)

  copied_matches : Matches b u m (placed (a - u.s1) copy ws) (record { setup = k.setup; live = map turn k.live; free = k.free })
  copied_matches =
      record {
        setup = h.setup;
        live = h.live ∙ sym (blocks_changed turn (λ x. either_way (λ (y : LiveBlock). y.block ≡ x.block) (eqb x.block.address a) refl refl) k.live);
        free = h.free;
        bits = each_changed turn
            (each_map (λ x p. turned x p.0 p.1)
            (each_both (each_blocks k.live (subst (Each (λ y. Memᴰ y (live u m))) h.live (mem_each (live u m) (λ y is_one. is_one)))) h.bits));
      }

-- a copy, where there is one
pub matches_copied : (b : ℕ) (u : SetUp) (m ws : List ℕ) → fitting (length ws) u ≡ true → (k : Book) (r : Report) → Matches b u m ws k
    → Memᴰ (record { address = r.delivered; size = r.size }) (live u m)
    → ((x : Block) → Memᴰ x (live u m) → (x.address ≡ r.delivered → ⊥) → (x.address + x.size ≤ r.delivered) ⊎ (r.delivered + r.size ≤ x.address))
    → (r.copied ≡ 0) ⊎ Memᴰ (record { address = r.copied; size = r.size }) (live u m)
    → Matches b u m (with_copy u.s1 r ws) (enter_copied r.delivered r.copied k)
unfolding with_copy enter_copied
matches_copied b u m ws fits k r h new other (inl z) = rw (eq-eqb r.copied 0 z) h
matches_copied b u m ws fits k r h new other (inr old) =
    by_eqb (λ t. Matches b u m (cond t ws (placed (r.delivered - u.s1) (take r.size (drop (r.copied - u.s1) ws)) ws))
    (cond t k (record { setup = k.setup; live = map (turn b u m ws fits k h r.delivered r.copied r.size new old other) k.live; free = k.free })))
    r.copied 0 (λ z. h) (λ z. copied_matches b u m ws fits k h r.delivered r.copied r.size new old other)

-- a set-up
pub matches_set_up : (b : ℕ) (lent : ℕ) (u : SetUp) (n : ℕ) (ws : List ℕ) (k : Book) → fitting lent u ≡ true → blocks k.live ≡ []
    → Matches b u (fresh_map u n) ws (enter_set_up u k)
unfolding enter_set_up
matches_set_up b lent u n ws k fits none =
    rw (ne_eqb u.d 0 (λ z. absurd (omega (arith, (fitting_facts lent u fits).positive))))
    (record {
      setup = refl;
      live = fresh_live lent u fits n ∙ sym none;
      free = fresh_free lent u fits n;
      bits = no_blocks k.live none;
    })
  where
    no_blocks : (xs : List LiveBlock) → blocks xs ≡ [] → Each (BlockBits b u.s1 ws) xs
    no_blocks [] e = each_nil
    no_blocks (x ∷ xs) e = absurd (Memᴰ.not-nil (subst (Memᴰ x.block) e (first_block x xs)))
