-- Reading through a delivery that is still to be carried out gives what stands there after it. Assumes nothing.
use Prim.Native.Nat.{ℕ, ◌+◌, ◌-◌, ◌≤◌, ◌<◌}
use native.Mathlib.Omega.{arith}
use mathlib.Core.Bool.{cond}
use mathlib.Core.List.{List}
use mathlib.Core.Logic.{◌⊎◌, inl, inr}
use mathlib.Core.Path.{◌≡◌, refl, sym, ap, subst, ◌∙◌}
use lib.Dec.{eqb}
use lib.ListN.{length, get_or, replicate, length-replicate, get_or-replicate}
use lib.Seq.{get_or-set_same, get_or-set_other}
use Rattle.word.specs.Field.{stored}
use Rattle.block.specs.Blocks.{level, size_at}
use Rattle.block.specs.SetUp.{top}
use Rattle.block.specs.Map.{live, delivered_map}
use Rattle.block.proofs.Size.{level_size, size_pos, fitting_facts}
use Rattle.block.proofs.Runs.{runs_sound}
use Rattle.block.proofs.Change.{keeps_delivered}
use Rattle.block.proofs.Delivered.{delivered_size}
use Rattle.table.specs.declared.BugLetter.{BugLetter}
use Rattle.table.specs.declared.FieldName.{FieldName}
use Rattle.machine.specs.declared.Definition.{Definition}
use Rattle.machine.specs.declared.Location.{Location}
use Rattle.machine.specs.declared.Location.TheVariants.{Bug, Field}
use Rattle.machine.specs.Storage.{placed, word_at}
use Rattle.machine.specs.Locate.{World, contents_of, contents, link_by, link}
use Rattle.machine.specs.State.{undefined}
use Rattle.machine.proofs.Placed.{length_placed, placed_inside, placed_outside}
use Rattle.operands.specs.Through.{Delivered}
use Rattle.operands.specs.Reading.{Readable, Reached, Lying}
use Rattle.operands.specs.Storing.{words_stored}
use Rattle.operands.specs.Through.{through, Deliverable}
use Rattle.operands.proofs.Follows.{link_made, lying}
use Rattle.operands.proofs.Storing.{length_words, still_reached}

-- the words of a block that is delivered, and the others
module _ (s1 from n : ℕ) (ws : List ℕ) (low : s1 ≤ from) (lies : from - s1 + n ≤ length ws) (address : ℕ) where
  there : from - s1 + length (replicate {A = ℕ} n 0) ≤ length ws
  there = rw length-replicate lies

  pub length_delivered : length (placed (from - s1) (replicate n 0) ws) ≡ length ws
  length_delivered = length_placed (from - s1) (replicate n 0) ws there

  pub room_delivered : s1 ≤ address → address < s1 + length ws → address - s1 < length (placed (from - s1) (replicate n 0) ws)
  room_delivered above below = let long = length_delivered in omega arith

  pub word_inside : from ≤ address → address - from < n → 0 ≡ word_at s1 address (placed (from - s1) (replicate n 0) ws)
  unfolding word_at
  word_inside above less =
      let far : from - s1 + (address - from) ≡ address - s1 = omega arith in
      let short : address - from < length (replicate {A = ℕ} n 0) = rw length-replicate less in
      sym
      (ap (λ (i : ℕ). get_or (placed (from - s1) (replicate n 0) ws) i 0) (sym far)
      ∙ placed_inside (from - s1) (replicate n 0) ws there (address - from) short
      ∙ get_or-replicate n (address - from) 0 0 less)

  pub word_outside : (address < from) ⊎ (from + n ≤ address) → s1 ≤ address
      → get_or ws (address - s1) 0 ≡ word_at s1 address (placed (from - s1) (replicate n 0) ws)
  unfolding word_at
  word_outside side above = sym (placed_outside (from - s1) (replicate n 0) ws there (address - s1) (moved side))
    where
      moved : (address < from) ⊎ (from + n ≤ address) → (address - s1 < from - s1) ⊎ (from - s1 + length (replicate {A = ℕ} n 0) ≤ address - s1)
      moved (inl before) = inl (omega arith)
      moved (inr after) = inr (rw length-replicate (omega arith))

-- a word after a store at a location
module _ (b s1 v : ℕ) (ws : List ℕ) {at : Location} (address word : ℕ) (is : word ≡ word_at s1 address ws) where
  pub word_bug : {x : BugLetter} → at ≡ Bug x → word ≡ word_at s1 address (words_stored b s1 at v ws)
  unfolding words_stored
  word_bug e = rw e is

  module _ {there left right : ℕ} (e : at ≡ Field there left right) where
    pub word_same : there ≡ address → address - s1 < length ws → {r : ℕ} → r ≡ stored b left right word v → r ≡ word_at s1 address (words_stored b s1 at v ws)
    unfolding words_stored word_at
    word_same same less {r} made =
        rw (e, same, made, is) (sym (get_or-set_same ws (address - s1) _ 0 less))

    pub word_other : (there ≡ address → ⊥) → s1 ≤ there → s1 ≤ address → word ≡ word_at s1 address (words_stored b s1 at v ws)
    unfolding words_stored word_at
    word_other other low above =
        rw (e, is) (sym (get_or-set_other ws (there - s1) (address - s1) _ 0 (λ z. other (omega arith))))

-- what a delivery that can be carried out gives
module _ (b : ℕ) (w : World) (h : Readable b w) (address n : ℕ) (at : Location) (d : Deliverable b w address n at) where
  level_is : level (top w.setup.d) n ≡ d.place
  level_is = rw d.is_size (level_size (top w.setup.d) d.low)

  pub delivery_low : w.setup.s1 ≤ address
  delivery_low = let (first, _, _, _) = runs_sound n w.setup _ (rw d.is_size (size_pos d.place)) d.is_run in first

  pub delivery_lies : address - w.setup.s1 + n ≤ length w.storage
  delivery_lies =
      let (first, last, _, _) = runs_sound n w.setup _ (rw d.is_size (size_pos d.place)) d.is_run in
      let lies = (fitting_facts (length w.storage) w.setup d.fits).lies in
      omega arith

  pub size_delivered : (p : ℕ) → size_at p (live w.setup (delivered_map (level (top w.setup.d) n) address w.setup w.map))
      ≡ cond (eqb address p) n (size_at p (live w.setup w.map))
  size_delivered p =
      rw (level_is, d.is_size)
      (delivered_size (length w.storage) w.setup d.fits w.map h.kept d.place address d.low (rw d.is_size at d.is_run) p)

  length_after : length (words_stored b w.setup.s1 at address (placed (address - w.setup.s1) (replicate n 0) w.storage)) ≡ length w.storage
  length_after = length_words b _ at address _ ∙ length_delivered _ address n w.storage delivery_low delivery_lies 0

-- through a delivery: the storage is as long as before, and can be read
module _ (b : ℕ) (w : World) (h : Readable b w) (d : Delivered) (able : Deliverable b w d.address d.size d.at) where
  pub through_length : length (through b d w).storage ≡ length w.storage
  unfolding through
  through_length = length_after b w h d.address d.size d.at able

  pub through_readable : Readable b (through b d w)
  unfolding through
  through_readable =
      let long = length_after b w h d.address d.size d.at able in
      record {
        width = h.width;
        numbers = rw long h.numbers;
        first = h.first;
        last = h.last;
        whole = h.whole;
        kept = (keeps_delivered (length w.storage) w.setup able.fits w.map h.kept _ d.address).section;
        room = rw long h.room;
        definitions = h.definitions;
        bugs = h.bugs;
      }

  -- a location that can be reached after it can be reached before
  pub through_reached : (at : Location) → Reached b w.setup.s1 (through b d w).storage at → Reached b w.setup.s1 w.storage at
  through_reached at r = still_reached b w.setup.s1 (through b d w).storage w.storage at (sym through_length) r

  -- what stands at a place then
  pub through_contents : (place : Location) {v : ℕ}
      → v ≡ contents_of b w.bugs w.setup.s1 (words_stored b w.setup.s1 d.at d.address
      (placed (d.address - w.setup.s1) (replicate d.size 0) w.storage)) place
      → v ≡ contents b (through b d w) place
  unfolding through
  through_contents place is = is

  -- the size of a block then
  module _ (p : ℕ) {n : ℕ} (is : n ≡ cond (eqb d.address p) d.size (size_at p (live w.setup w.map))) where
    pub through_size : n ≡ size_at p (live w.setup (through b d w).map)
    unfolding through
    through_size = is ∙ sym (size_delivered b w h d.address d.size d.at able p)

    -- what a link relies on, and where it leads
    module _ (f : FieldName) {x : Definition} (same : x ≡ get_or w.definitions f.0 undefined) where
      pub through_lying : Lying b w.setup.s1 w.storage x n p
      unfolding through
      through_lying =
          rw same
          (let l = lying b (through b d w) through_readable f n p through_size in
          record {
            low = l.low;
            high = λ some. subst (λ (long : ℕ). p + n ≤ w.setup.s1 + long) through_length (l.high some);
            some = l.some;
            small = l.small;
            right = l.right;
          })

      pub through_link : link_by x n p ≡ link (through b d w) p f
      unfolding through
      through_link = rw same (link_made (through b d w) f n p p through_size refl)
