-- More words after those set up: the new numbers fit again, and the map keeps the section "Blocks" and tells the trees that it told
-- and the free ones added. Assumes nothing.
use mathlib.Core.Path.{◌≡◌, refl, sym, ap, ◌∙◌}
use mathlib.Core.Bool.{true}
use mathlib.Core.List.{List, [], ◌∷◌, ◌++◌, append_assoc}
use Prim.Native.Nat.{ℕ, suc, ◌+◌, ◌-◌, ◌*◌, ◌/◌, ◌%◌, ◌≤◌, ◌<◌}
use native.Mathlib.Nat.{div-add-mod', zero-add, mod-add-mod}
use native.Mathlib.Omega.{arith}
use lib.Dec.{eqb, leb, ltb}
use lib.ListN.{length, replicate, length-append, length-replicate}
use borrow.Author.Tests.{ltb-true, leb-true, eqb-true, eq-eqb, le-leb, lt-ltb}
use Rattle.block.specs.declared.SetUp.{SetUp}
use Rattle.block.specs.Blocks.{size, Block, Tree, Free, gathered}
use Rattle.block.specs.SetUp.{top, words, fitting}
use Rattle.block.specs.Map.{written, canonical, all_written, all_canonical, trees, map_of, keeps}
use Rattle.block.specs.Extension.{extended_to, extending, extended_map}
use Rattle.word.proofs.Tests.{and_true, by_leb}
use Rattle.block.proofs.Size.{fitting_facts, words_set}
use Rattle.block.proofs.Map.{keeps_parts, keeps_map_of, trees_map_of, trees_fill}
use Rattle.block.proofs.Change.{words_whole, all_free_canonical}

-- trees one after the other, and then others
pub gathered_append : (f : ℕ → Tree → List Block) (k at : ℕ) (ts vs : List Tree)
    → gathered f k at (ts ++ vs) ≡ gathered f k at ts ++ gathered f k (at + length ts * size k) vs
unfolding gathered
gathered_append f k at [] vs = ap (λ a. gathered f k a vs) (omega arith)
gathered_append f k at (t ∷ ts) vs =
    let far : at + size k + length ts * size k ≡ at + suc (length ts) * size k = omega arith in
    rw (gathered_append f k (at + size k) ts vs, far) (sym (append_assoc (f at t) _ _))

pub written_append : (k : ℕ) (ts vs : List Tree) → all_written k (ts ++ vs) ≡ all_written k ts ++ all_written k vs
unfolding all_written
written_append k [] vs = refl
written_append k (t ∷ ts) vs = rw (written_append k ts vs) (sym (append_assoc (written k t) _ _))

canonical_append : (k : ℕ) (ts vs : List Tree) → all_canonical k ts ≡ true → all_canonical k vs ≡ true → all_canonical k (ts ++ vs) ≡ true
unfolding all_canonical
canonical_append k [] vs h l = l
canonical_append k (t ∷ ts) vs h l =
    let (first, others) = and_true (canonical k t) _ h in
    rw first (canonical_append k ts vs others l)

-- what a last address that is taken says
pub record Extending (lent last : ℕ) (u : SetUp) : Type 0 where
  pub later : u.s2 < last
  pub whole : (last - u.s2) % u.d ≡ 0
  pub small : last ≤ 32767
  pub few : words (extended_to last u) ≤ 4096
  pub lies : words (extended_to last u) ≤ lent

-- its test taken apart
pub extending_facts : (lent last : ℕ) (u : SetUp) → extending lent last u ≡ true → Extending lent last u
unfolding extending
extending_facts lent last u h =
    let (h4, t5) = and_true _ (leb (words (extended_to last u)) lent) h in
    let (h3, t4) = and_true _ (leb (words (extended_to last u)) 4096) h4 in
    let (h2, t3) = and_true _ (leb last 32767) h3 in
    let (t1, t2) = and_true (ltb u.s2 last) (eqb ((last - u.s2) % u.d) 0) h2 in
    record {
      later = ltb-true _ _ t1;
      whole = eqb-true _ _ t2;
      small = leb-true _ _ t3;
      few = leb-true _ _ t4;
      lies = leb-true _ _ t5;
    }

module _ (old lent last : ℕ) (u : SetUp) (fits : fitting old u ≡ true) (taken : extending lent last u ≡ true) where
  abbrev v : SetUp
  v = extended_to last u

  abbrev added : ℕ
  added = last - u.s2

  -- the words are those before and the added ones
  pub extended_words : words v ≡ words u + added
  unfolding extended_to
  extended_words =
      let f = fitting_facts old u fits in
      let x = extending_facts lent last u taken in
      omega (arith, words_set (extended_to last u) f.positive, f.count, f.order, x.later)

  -- the last word before is the one before the first one added
  pub first_added : u.s1 + words u ≡ suc u.s2
  first_added = let f = fitting_facts old u fits in omega (arith, f.count, f.order)

  -- the added words are whole blocks
  pub added_fill : added / size (top u.d) * size (top u.d) ≡ added
  added_fill =
      let f = fitting_facts old u fits in
      let x = extending_facts lent last u taken in
      rw f.largest (omega (arith, div-add-mod' added u.d, x.whole))

  -- the new numbers fit
  pub extended_fits : fitting lent v ≡ true
  unfolding fitting extended_to
  extended_fits =
      let f = fitting_facts old u fits in
      let x = extending_facts lent last u taken in
      let whole : words v % u.d ≡ 0
      = ap (λ n. n % u.d) extended_words ∙ sym (mod-add-mod (words u) u.d added) ∙ rw (f.whole, zero-add) x.whole in
      rw (
        eq-eqb (size (top u.d)) u.d f.largest,
        lt-ltb 0 u.s1 f.first,
        eq-eqb (u.s1 % u.d) 0 f.aligned,
        le-leb u.s1 last (omega (arith, f.order, x.later)),
        le-leb last 32767 x.small,
        eq-eqb (words v % u.d) 0 whole,
        le-leb (words v) 4096 x.few,
        le-leb (words v) lent x.lies,
      )

  module _ (m : List ℕ) (kept : keeps u m ≡ true) where
    abbrev more : List Tree
    more = trees u m ++ replicate (added / size (top u.d)) Free

    fills : length more * size (top u.d) ≡ words v
    fills =
        let fill = trees_fill u m (words_whole old u fits) in
        simp (length-append, length-replicate) (omega (arith, fill, added_fill, extended_words))

    whole : all_canonical (top u.d) more ≡ true
    whole = canonical_append (top u.d) (trees u m) _ (keeps_parts u m kept).0 (all_free_canonical (top u.d) (added / size (top u.d)))

    -- the trees are those before, and a free one for each d words added
    pub extended_tells : trees v (extended_map last u m) ≡ more
    unfolding extended_map extended_to
    extended_tells = trees_map_of v more (length m) fills whole

    -- and the map keeps the section; one too short for the words is made long enough
    long_section : (n : ℕ) → words v ≤ n → keeps v (map_of v n more) ≡ true
    unfolding extended_to
    long_section n l = keeps_map_of v more n fills whole l

    short_same : (n : ℕ) → n ≤ words v → map_of v (words v) more ≡ map_of v n more
    unfolding map_of extended_to
    short_same n l =
        let none : words v - words v ≡ n - words v = omega arith in
        ap (λ (k : ℕ). all_written (top u.d) more ++ replicate k 0) none

    pub extended_section : keeps v (extended_map last u m) ≡ true
    unfolding extended_map
    extended_section =
        by_leb (λ t. keeps v (map_of v (length m) more) ≡ true) (words v) (length m) (long_section (length m))
        (λ l. rw (← (short_same (length m) (omega arith))) (long_section (words v) (omega arith)))
