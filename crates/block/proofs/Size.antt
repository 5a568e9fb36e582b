-- Laws of sizes and levels, and the plain facts that a fitting and an absent set-up say. Assumes nothing.
use mathlib.Core.Path.{◌≡◌, refl, sym, ap, ◌∙◌}
use mathlib.Core.Bool.{true, cond}
use Prim.Native.Nat.{ℕ, zero, suc, ◌+◌, ◌-◌, ◌*◌, ◌%◌, ◌^◌, ◌≤◌, ◌<◌}
use native.Mathlib.Nat.{le_antisymm, le_refl, sub-add_cancel, zero-add, zero-mod, mul-mod_left, dvd_of_mod-eq-zero, mod-mod_of_dvd, mod-add-mod, mod-eq_of_lt}
use native.Mathlib.Omega.{arith}
use lib.Dec.{eqb, leb, ltb}
use lib.Pow.{pow_pos, pow_mono, pow-add}
use borrow.Author.Tests.{ltb-true, leb-true, eqb-true, eq-eqb, ne_eqb}
use Rattle.block.specs.declared.SetUp.{SetUp}
use Rattle.block.specs.Blocks.{size, level}
use Rattle.block.specs.SetUp.{top, words, fitting, absent}
use Rattle.word.proofs.Tests.{and_true, either_way, by_leb}

-- the first size
pub size_zero : size 0 ≡ 1
unfolding size
size_zero = refl

-- a block is two of the size before
pub size_suc : (k : ℕ) → size (suc k) ≡ size k + size k
unfolding size
size_suc k = refl

-- sizes are the powers of two
pub size_pow : (k : ℕ) → size k ≡ 2 ^ k
unfolding size
size_pow zero = refl
size_pow (suc k) = rw (size_pow k) (omega arith)

-- a size is positive
pub size_pos : (k : ℕ) → 0 < size k
size_pos k = rw size_pow (pow_pos k)

-- a later size is no smaller
pub size_mono : {j k : ℕ} → j ≤ k → size j ≤ size k
size_mono {j} {k} h = rw (size_pow j, size_pow k) (pow_mono h)

-- and twice as large or more if it is another
pub size_strict : {j k : ℕ} → j < k → size j + size j ≤ size k
size_strict {j} {k} h =
    let l : 2 ^ suc j ≤ 2 ^ k = pow_mono h in
    rw (size_pow j, size_pow k) (omega arith)

-- the sizes up to the seventh are small
pub size_small : (k : ℕ) → k ≤ 7 → size k ≤ 128
unfolding size
size_small k h = size_mono {j = k} {k = 7} h

-- a size divides the later ones
pub size_divides : {j k : ℕ} → j ≤ k → (q : ℕ) × (size k ≡ q * size j)
size_divides {j} {k} h = (2 ^ (k - j), rw (size_pow j, size_pow k, ← pow-add, sub-add_cancel h))

-- an address that a size divides is divided by the earlier ones
pub aligned_smaller : {j k : ℕ} → j ≤ k → (a : ℕ) → a % size k ≡ 0 → a % size j ≡ 0
aligned_smaller {j} {k} h a e =
    let (q, same) = size_divides h in
    let divides = dvd_of_mod-eq-zero (size j) (ap (λ (n : ℕ). n % size j) same ∙ mul-mod_left q (size j)) in
    sym (mod-mod_of_dvd (size j) a divides) ∙ rw e (zero-mod (size j))

-- what lies less than n words past a multiple of n
pub offset_mod : (n c d : ℕ) → c % n ≡ 0 → d < n → (c + d) % n ≡ d
offset_mod n c d h l = sym (mod-add-mod c n d) ∙ rw (h, zero-add) (mod-eq_of_lt l)

-- a size that is no larger stands no later
pub size_le : (j k : ℕ) → size j ≤ size k → j ≤ k
size_le j k h = by_leb (λ t. j ≤ k) j k (λ l. l) (λ l. omega (arith, size_pos k, size_strict l))

-- a level is one of those up to k
pub level_le : (k n : ℕ) → level k n ≤ k
unfolding level
level_le zero n = omega arith
level_le (suc k) n = by_leb (λ t. cond t (level k n) (suc k) ≤ suc k) n (size k) (λ l. omega (arith, level_le k n)) (λ l. omega arith)

-- the largest size is one of the first eight
pub top_le : (d : ℕ) → top d ≤ 7
unfolding top
top_le d = level_le 7 d

-- the block of a level holds n if the largest does
pub level_fits_lem : (k n : ℕ) → n ≤ size k → n ≤ size (level k n)
unfolding level
level_fits_lem zero n h = h
level_fits_lem (suc k) n h = by_leb (λ t. n ≤ size (cond t (level k n) (suc k))) n (size k) (level_fits_lem k n) (λ l. h)

-- and no smaller block does
pub level_least : (k n : ℕ) {j : ℕ} → j ≤ k → n ≤ size j → level k n ≤ j
unfolding level
level_least zero n h l = omega arith
level_least (suc k) n {j} h l =
    by_leb (λ t. cond t (level k n) (suc k) ≤ j) n (size k)
    (λ fits. by_leb (λ t. level k n ≤ j) j k (λ s. level_least k n s l) (λ s. omega (arith, level_le k n)))
    (λ above. by_leb (λ t. suc k ≤ j) j k (λ s. omega (arith, size_mono s)) (λ s. s))

-- the level of a size is its own
pub level_size : (k : ℕ) {j : ℕ} → j ≤ k → level k (size j) ≡ j
level_size k {j} h = le_antisymm (level_least k (size j) h (le_refl (size j))) (size_le j _ (level_fits_lem k (size j) (size_mono h)))

-- a size up to the seventh is that of its own place
pub top_size : {j : ℕ} → j ≤ 7 → size (top (size j)) ≡ size j
unfolding top
top_size h = rw (level_size 7 h)

-- the words of a set-up whose largest size is not zero
pub words_set : (u : SetUp) → 0 < u.d → words u ≡ suc u.s2 - u.s1
unfolding words
words_set u h = rw (ne_eqb u.d 0 (omega arith))

-- before a set-up there are no words
pub words_none : (u : SetUp) → u.d ≡ 0 → words u ≡ 0
unfolding words
words_none u e = rw (eq-eqb u.d 0 e)

-- there are no more words than addresses from the first to the last
pub words_le : (u : SetUp) → words u ≤ suc u.s2 - u.s1
unfolding words
words_le u = either_way (λ (n : ℕ). n ≤ suc u.s2 - u.s1) (eqb u.d 0) (omega arith) (omega arith)

-- what a fitting set-up says
pub record Fitting (lent : ℕ) (u : SetUp) : Type 0 where
  pub largest : size (top u.d) ≡ u.d
  pub positive : 0 < u.d
  pub first : 0 < u.s1
  pub aligned : u.s1 % u.d ≡ 0
  pub order : u.s1 ≤ u.s2
  pub last : u.s2 ≤ 32767
  pub count : words u ≡ suc u.s2 - u.s1
  pub whole : words u % u.d ≡ 0
  pub few : words u ≤ 4096
  pub lies : words u ≤ lent

-- its test taken apart
pub fitting_facts : (lent : ℕ) (u : SetUp) → fitting lent u ≡ true → Fitting lent u
unfolding fitting
fitting_facts lent u h =
    let (h7, t8) = and_true _ (leb (words u) lent) h in
    let (h6, t7) = and_true _ (leb (words u) 4096) h7 in
    let (h5, t6) = and_true _ (eqb (words u % u.d) 0) h6 in
    let (h4, t5) = and_true _ (leb u.s2 32767) h5 in
    let (h3, t4) = and_true _ (leb u.s1 u.s2) h4 in
    let (h2, t3) = and_true _ (eqb (u.s1 % u.d) 0) h3 in
    let (t1, t2) = and_true (eqb (size (top u.d)) u.d) (ltb 0 u.s1) h2 in
    let largest = eqb-true (size (top u.d)) u.d t1 in
    let positive : 0 < u.d = omega (arith, size_pos (top u.d)) in
    record {
      largest = largest;
      positive = positive;
      first = ltb-true _ _ t2;
      aligned = eqb-true _ _ t3;
      order = leb-true _ _ t4;
      last = leb-true _ _ t5;
      count = words_set u positive;
      whole = eqb-true _ _ t6;
      few = leb-true _ _ t7;
      lies = leb-true _ _ t8;
    }

-- what an absent set-up says
pub record Absent (u : SetUp) : Type 0 where
  pub largest : u.d ≡ 0
  pub first : u.s1 ≡ 0
  pub last : u.s2 ≡ 0
  pub count : words u ≡ 0

-- its test taken apart
pub absent_facts : (u : SetUp) → absent u ≡ true → Absent u
unfolding absent
absent_facts u h =
    let (h2, t3) = and_true _ (eqb u.s2 0) h in
    let (t1, t2) = and_true (eqb u.d 0) (eqb u.s1 0) h2 in
    let largest = eqb-true u.d 0 t1 in
    record { largest = largest; first = eqb-true _ _ t2; last = eqb-true _ _ t3; count = words_none u largest }
