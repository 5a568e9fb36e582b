-- What is left of a map as it is passed from block to block: trees of the j-th size or larger, one after the other, with what is made of
-- them, whatever that is. Assumes nothing.
use Rattle.std.proofs.Common.{◌≡◌, ℕ, suc, ◌+◌, ◌-◌, ◌*◌, ◌%◌, ◌≤◌, true, List, [], ◌∷◌, ◌++◌, length, get_or, drop, replicate, sym, refl, ap, ◌∙◌, subst, append_assoc, arith, get_or-drop, drop-drop, drop_at}
use Rattle.block.specs.declared.SetUp.{SetUp}
use Rattle.block.specs.Blocks.{size, Tree, Halves}
use Rattle.block.specs.SetUp.{top, words}
use Rattle.block.specs.Map.{written, canonical, all_written, all_canonical, trees, map_of, keeps}
use Rattle.word.proofs.Tests.{and_true}
use Rattle.block.proofs.Size.{size_pos, size_suc, top_le}
use Rattle.block.proofs.Map.{length_written, keeps_parts, trees_fill}
use Rattle.buddy.proofs.Tags.{written_halves}

-- what is made of no tree, how it is joined, and what is made of one tree of the k-th size at an address
pub record Made (R : Type 0) : Type 0 where
  pub nothing : R
  pub before : R → R → R
  pub of : ℕ → ℕ → Tree → R

-- so many words from an address on are trees of the j-th size or larger, their bytes stand first in m, and r is made of them
pub data Rest {R : Type 0} (f : Made R) (j : ℕ) : ℕ → ℕ → List ℕ → R → Type 0 where
  none : {at : ℕ} {m : List ℕ} → Rest f j at 0 m f.nothing
  more : {at left : ℕ} {m : List ℕ} {r : R} (k : ℕ) (t : Tree) → j ≤ k → k ≤ 7 → canonical k t ≡ true
      → Rest f j (at + size k) left m r → Rest f j at (size k + left) (written k t ++ m) (f.before (f.of k at t) r)

-- n of the words are passed
pub record After {R : Type 0} (f : Made R) (j n at left : ℕ) (m : List ℕ) (r : R) : Type 0 where
  pub fits : n ≤ left
  pub rest : Rest f j (at + n) (left - n) (drop n m) r

-- a map of w words from address s on is passed up to word i, and r is made of the words from there on
abbrev pub Reached : {R : Type 0} (f : Made R) → ℕ → ℕ → ℕ → List ℕ → R → ℕ → Type 0
Reached f j s w m r i = (i ≤ w) × Rest f j (s + i) (w - i) (drop i m) r

-- the byte that stands first
pub first_byte : (m : List ℕ) (i : ℕ) → get_or m i 0 ≡ get_or (drop i m) 0 0
first_byte m i =
    let same : i ≡ i + 0 = omega arith in
    ap (λ (x : ℕ). get_or m x 0) same ∙ sym (get_or-drop i m 0 0)

-- the bytes and the words of two halves
pub halves_bytes : (k : ℕ) (x y : Tree) (m : List ℕ) → written k x ++ (written k y ++ m) ≡ written (suc k) (Halves x y) ++ m
halves_bytes k x y m = sym (append_assoc (written k x) (written k y) m) ∙ ap (λ (xs : List ℕ). xs ++ m) (sym (written_halves k x y))

pub halves_words : (k left : ℕ) → size k + (size k + left) ≡ size (suc k) + left
halves_words k left = omega (arith, size_suc k)

module _ {R : Type 0} {f : Made R} {j : ℕ} where
  rest_same : {at left left' : ℕ} {m m' : List ℕ} {r r' : R} → left ≡ left' → m ≡ m' → r ≡ r' → Rest f j at left m r → Rest f j at left' m' r'
  rest_same e g h n = rw (← e, ← g, ← h) n

  -- a tree is passed
  pub after : {at left : ℕ} {m : List ℕ} {r : R} (k : ℕ) (t : Tree) → Rest f j (at + size k) left m r
      → After f j (size k) at (size k + left) (written k t ++ m) r
  after {left = left} {m = m} k t rest =
      let same : left ≡ (size k + left) - size k = omega arith in
      record { fits = omega arith; rest = rest_same same (sym (drop_at (written k t) m (size k) (length_written k t))) refl rest }

  -- the second half of a tree before what is left
  pub second_half : {left : ℕ} {m : List ℕ} {r : R} (k at : ℕ) (y : Tree) → j ≤ k → k ≤ 7 → canonical k y ≡ true → Rest f j (at + size (suc k)) left m r
      → Rest f j (at + size k) (size k + left) (written k y ++ m) (f.before (f.of k (at + size k) y) r)
  second_half {left} {m} {r} k at y l h whole rest =
      let far : at + size (suc k) ≡ (at + size k) + size k = omega (arith, size_suc k) in
      more k y l h whole (subst (λ (a : ℕ). Rest f j a left m r) far rest)

  -- n words on
  pub goes_on : (s w i : ℕ) (m : List ℕ) {n : ℕ} {r : R} → i ≤ w → After f j n (s + i) (w - i) (drop i m) r → Reached f j s w m r (i + n)
  goes_on s w i m {n} {r} h a =
      let far : (s + i) + n ≡ s + (i + n) = omega arith in
      let less : w - i - n ≡ w - (i + n) = omega arith in
      (omega (arith, a.fits), rest_same less (drop-drop n i m) refl (subst (λ (b : ℕ). Rest f j b (w - i - n) (drop n (drop i m)) r) far a.rest))

  -- at the end nothing is left
  pub none_left : {at left : ℕ} {m : List ℕ} {r : R} → Rest f j at left m r → left ≡ 0 → f.nothing ≡ r
  none_left none e = refl
  none_left (more k t l h whole rest) e = absurd (omega (arith, size_pos k))

  -- trees of one size, and a map that keeps the section, by what is made of a list of trees
  module _ (all : ℕ → ℕ → List Tree → R) (nil : (k at : ℕ) → f.nothing ≡ all k at [])
      (cons : (k at : ℕ) (t : Tree) (ts : List Tree) → f.before (f.of k at t) (all k (at + size k) ts) ≡ all k at (t ∷ ts)) where
    all_rest : (k at : ℕ) (ts : List Tree) (m : List ℕ) → j ≤ k → k ≤ 7 → all_canonical k ts ≡ true
        → Rest f j at (length ts * size k) (all_written k ts ++ m) (all k at ts)
    unfolding all_canonical all_written
    all_rest k at [] m l h whole = rest_same (let z : 0 ≡ 0 * size k = omega arith in z) refl (nil k at) none
    all_rest k at (t ∷ ts) m l h whole =
        let (first, others) = and_true (canonical k t) _ whole in
        let count : size k + length ts * size k ≡ suc (length ts) * size k = omega arith in
        rest_same count (sym (append_assoc (written k t) (all_written k ts) m)) (cons k at t ts) (more k t l h first (all_rest k (at + size k) ts m l h others))

    pub starts : (u : SetUp) (m : List ℕ) → words u % size (top u.d) ≡ 0 → keeps u m ≡ true → j ≤ top u.d
        → Reached f j u.s1 (words u) m (all (top u.d) u.s1 (trees u m)) 0
    unfolding map_of
    starts u m whole kept l =
        let parts = keeps_parts u m kept in
        let first : u.s1 ≡ u.s1 + 0 = omega arith in
        let count : length (trees u m) * size (top u.d) ≡ words u - 0 = omega (arith, trees_fill u m whole) in
        let r = all (top u.d) u.s1 (trees u m) in (
          omega arith,
          subst (λ (a : ℕ). Rest f j a (words u - 0) m r) first
              (rest_same count parts.1 refl (all_rest (top u.d) u.s1 (trees u m) (replicate (length m - words u) 0) l (top_le u.d) parts.0)),
        )
