-- Where references lead: a bug, or bits inside the word in a word inside a live block.
-- Assumes nothing.
use Prim.Native.Nat.{ℕ, ◌+◌, ◌^◌, ◌≤◌, ◌<◌}
use native.Mathlib.Omega.{arith}
use mathlib.Core.Bool.{true, false, not, ◌&&◌, ◌||◌, cond}
use mathlib.Core.List.{List, [], ◌∷◌, Memᴰ}
use mathlib.Core.Path.{◌≡◌, refl, subst, sym}
use borrow.Author.Tests.{lt-ltb, ltb-true}
use lib.Dec.{eqb, ltb, leb}
use lib.Pow.{pow_pos}
use Rattle.word.proofs.Tests.{and_true as and_parts}
use Rattle.word.specs.Field.{kept, width}
use Rattle.word.proofs.Field.{field_word, kept_kept}
use Rattle.block.specs.Blocks.{Block, size_at}
use Rattle.block.specs.Map.{live}
use Rattle.block.proofs.Tiling.{size_at_mem}
use Rattle.table.specs.declared.FieldName.{FieldName}
use Rattle.table.specs.declared.Pair.{Pair}
use Rattle.machine.specs.declared.Definition.{Definition}
use Rattle.machine.specs.declared.Location.{Location}
use Rattle.machine.specs.declared.Location.TheVariants.{Bug, Field}
use Rattle.machine.specs.declared.Store.{Store}
use Rattle.machine.specs.Answer.{passed}
use Rattle.machine.specs.State.{undefined}
use Rattle.machine.specs.Storage.{no_store_of}
use Rattle.machine.specs.Sound.{Engine, every, is_definition, in_range}
use Rattle.machine.specs.Locate.{World, world, live_blocks, definition_of, contents_of, contents, link_by, link, follow, locate}
use Rattle.machine.specs.Effects.{store_to}
use Rattle.machine.proofs.Checks.{nonzero, need_passed, bind_passed, passed_same}
use Rattle.machine.proofs.Every.{below, every_get_d}
use Rattle.machine.proofs.Facts.{CoreFacts}

-- a word in one of these blocks
pub record InBlocks (live : List Block) (address : ℕ) : Type 0 where
  pub block : Block
  pub is_one : Memᴰ block live
  pub low : block.address ≤ address
  pub high : address < block.address + block.size

-- what is known of a location
unfoldable pub Located : ℕ → List Block → Location → Type 0
Located b live (Bug x) = Unit {0}
Located b live (Field address left right) = (right < b) × InBlocks live address

-- what is known of a store
pub data StoreFacts (b : ℕ) (live : List Block) (s : Store) : Type 0 where
  nowhere : s.address ≡ 0 → StoreFacts b live s
  in_block : s.right < b → s.bits ≡ kept s.left s.right s.bits → InBlocks live s.address → StoreFacts b live s

-- a definition in range that is defined has its right bit inside the word
definition_right : (b : ℕ) (x : Definition) → is_definition b x ≡ true → x.defined ≡ true → x.right < b
unfolding is_definition in_range
definition_right b x d k =
    let d' : (not true || in_range b x.word x.left x.right) ≡ true = rw k at d in
    ltb-true x.right b (and_parts (leb x.word 127 && ltb x.left b) (ltb x.right b) d').1

-- undefined is in range
pub undefined_fits : (b : ℕ) → is_definition b undefined ≡ true
unfolding is_definition undefined
undefined_fits b = refl

module _ (b : ℕ) (w : World) (h : every (is_definition b) w.definitions ≡ true) where
  abbrev blocks : List Block
  blocks = live w.setup w.map

  -- a definition in use has its right bit inside the word
  pub defined_right : (f : FieldName) → (definition_of f w).defined ≡ true → (definition_of f w).right < b
  unfolding definition_of
  defined_right f k =
      definition_right b (definition_of f w)
      (every_get_d (is_definition b) f.0 w.definitions undefined h (undefined_fits b)) k

  -- a link leads into a live block
  pub link_located : (pointer : ℕ) (f : FieldName) (at : Location) → link w pointer f ≡ passed at → Located b blocks at
  unfolding link link_by Located
  link_located pointer f at k =
      let (isDefined, k₁) = need_passed _ _ _ k in
      let (isBlock, k₂) = need_passed _ _ _ k₁ in
      let (is_inside, k₃) = need_passed _ _ _ k₂ in
      let inside : (definition_of f w).word < size_at pointer blocks = ltb-true _ _ is_inside in
      subst (Located b blocks) (passed_same k₃) (
        defined_right f isDefined,
        record {
          block = record { address = pointer; size = size_at pointer blocks };
          is_one = size_at_mem pointer blocks (nonzero _ isBlock);
          low = omega arith;
          high = omega arith;
        },
      )

  follow_located : (at : Location) (fs : List FieldName) (to : Location) → Located b blocks at → follow b w at fs ≡ passed to → Located b blocks to
  unfolding follow
  follow_located at [] to l k = subst (Located b blocks) (passed_same k) l
  follow_located at (f ∷ fs) to l k =
      let (next, k₁, k₂) = bind_passed _ _ k in follow_located next fs to (link_located (contents b w at) f next k₁) k₂

  -- a reference leads to a bug or into a live block
  located_in : (p : Pair) (at : Location) → locate b w p ≡ passed at → Located b blocks at
  unfolding locate Located
  located_in p at k = follow_located _ _ at tt k

module _ (b : ℕ) (e : Engine) (h : CoreFacts b e.state.core) where
  pub located : (p : Pair) (at : Location) → locate b (world e) p ≡ passed at → Located b (live_blocks e) at
  unfolding world
  located p at k = located_in b (world e) h.definitions p at k

  -- what stands there is below 2 ^ b
  pub contents_below : (at : Location) → Located b (live_blocks e) at → below (2 ^ b) (contents b (world e) at) ≡ true
  unfolding Located contents_of world
  contents_below (Bug x) l = every_get_d (below (2 ^ b)) x.0 e.state.core.bugs 0 h.bugs (lt-ltb _ _ (pow_pos b))
  contents_below (Field address left right) l = lt-ltb _ _ (field_word b left right _ l.0)

-- a store to a location
pub store_facts : (b : ℕ) (live : List Block) (at : Location) (v : ℕ) → Located b live at → StoreFacts b live (store_to at v)
unfolding Located store_to no_store_of
store_facts b live (Bug x) v l = nowhere refl
store_facts b live (Field address left right) v l =
    elim (eqb (width left right) 0) as (λ t. StoreFacts b live
    (cond t no_store_of (record { address = address; left = left; right = right; bits = kept left right v })))
    [ true ↦ nowhere refl | false ↦ in_block l.0 (sym (kept_kept left right v)) l.1 ]
