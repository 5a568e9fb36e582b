-- The aligned runs of a set-up are those that lie in its words outside the live blocks: what the test of a run says of each block, that
-- each run listed is one, that each one is listed, and that the first is the lowest. Assumes nothing.
use mathlib.Core.Path.{◌≡◌, refl}
use mathlib.Core.Bool.{Bool, true, false, ◌||◌, cond}
use mathlib.Core.List.{List, [], ◌∷◌, Memᴰ}
use mathlib.Core.Logic.{◌⊎◌, inl, inr, ⊎_elim}
use Prim.Native.Nat.{ℕ, zero, suc, ◌+◌, ◌-◌, ◌*◌, ◌/◌, ◌%◌, ◌≤◌, ◌<◌}
use native.Mathlib.Nat.{mul-sub, div-add-mod', le-div_iff_mul-le, add-mul-mod_self_right}
use native.Mathlib.Omega.{arith}
use lib.Dec.{leb}
use borrow.Author.Tests.{leb-true, le-leb}
use Rattle.block.specs.declared.SetUp.{SetUp}
use Rattle.block.specs.Blocks.{Block, outside, runs_from}
use Rattle.block.specs.SetUp.{words, runs}
use Rattle.word.proofs.Tests.{and_true, either_way, by_test, by_leb}
use Rattle.block.proofs.Each.{Each, each_nil, each_cons, each_mem, mem_each}

-- one of two tests of a disjunction that holds
or_true : (s t : Bool) → (s || t) ≡ true → (s ≡ true) ⊎ (t ≡ true)
or_true true t e = inl refl
or_true false t e = inr e

module _ (a n : ℕ) where
  -- a block ends before n words from a on, or starts after them
  abbrev pub Apart : Block → Type 0
  Apart x = (x.address + x.size ≤ a) ⊎ (a + n ≤ x.address)

  -- its test
  apart_true : (x : Block) → (leb (x.address + x.size) a || leb (a + n) x.address) ≡ true → Apart x
  apart_true x h = ⊎_elim (λ e. inl (leb-true _ _ e)) (λ e. inr (leb-true _ _ e)) (or_true (leb (x.address + x.size) a) _ h)

  -- and back
  true_apart : (x : Block) → Apart x → (leb (x.address + x.size) a || leb (a + n) x.address) ≡ true
  true_apart x (inl h) = rw (le-leb _ _ h)
  true_apart x (inr h) = by_leb (λ t. (t || leb (a + n) x.address) ≡ true) (x.address + x.size) a (λ l. refl) (λ l. le-leb _ _ h)

  -- words that lie outside blocks are apart from each
  pub outside_each : (live : List Block) → outside a n live ≡ true → Each Apart live
  unfolding outside
  outside_each [] h = each_nil
  outside_each (x ∷ xs) h =
      let (first, others) = and_true (leb (x.address + x.size) a || leb (a + n) x.address) _ h in
      each_cons (apart_true x first) (outside_each xs others)

  -- and back
  pub each_outside : {live : List Block} → Each Apart live → outside a n live ≡ true
  unfolding outside
  each_outside each_nil = refl
  each_outside (each_cons {x = x} p h) = rw (true_apart x p) (each_outside h)

  -- the same of members
  pub outside_mem : (live : List Block) {x : Block} → outside a n live ≡ true → Memᴰ x live
      → (x.address + x.size ≤ a) ⊎ (a + n ≤ x.address)
  outside_mem live h = each_mem (outside_each live h)

  -- and back
  pub mem_outside : (live : List Block) → ((x : Block) → Memᴰ x live → (x.address + x.size ≤ a) ⊎ (a + n ≤ x.address))
      → outside a n live ≡ true
  mem_outside live f = each_outside (mem_each live f)

-- a run of n words at b stands at one of count places from a on, n apart, and outside the blocks
record Run (n a count : ℕ) (live : List Block) (b : ℕ) : Type 0 where
  place : (i : ℕ) × (i < count) × (b ≡ a + i * n)
  clear : outside b n live ≡ true

module _ (n : ℕ) (live : List Block) {b : ℕ} where
  -- such a run from the next place on
  run_later : {a count : ℕ} → Run n (a + n) count live b → Run n a (suc count) live b
  run_later r =
      let (i, l, e) = r.place in
      record { place = (suc i, omega arith, omega arith); clear = r.clear }

  -- such a run at the first place
  run_first : {a count : ℕ} → outside a n live ≡ true → b ≡ a → Run n a (suc count) live b
  run_first h e = record { place = (0, omega arith, omega arith); clear = rw e h }

  -- what is listed is one
  from_sound : (a count : ℕ) → Memᴰ b (runs_from n a live count) → Run n a count live b
  unfolding runs_from
  from_sound a zero = λ m. absurd (mathlib.Core.List.Memᴰ.not-nil m)
  from_sound a (suc count) =
      let others = runs_from n (a + n) live count in
      let later : Memᴰ b others → Run n a (suc count) live b = λ m. run_later (from_sound (a + n) count m) in
      by_test (λ t. Memᴰ b (cond t (a ∷ others) others) → Run n a (suc count) live b) (outside a n live)
      (λ h m. ⊎_elim (run_first h) later (mathlib.Core.List.Memᴰ.cases_cons m))
      (λ h. later)

  -- the first that is listed is the lowest
  from_lowest : (a count : ℕ) {r : ℕ} {rs : List ℕ} → runs_from n a live count ≡ r ∷ rs → Memᴰ b (runs_from n a live count) → r ≤ b
  unfolding runs_from
  from_lowest a zero = λ e m. absurd (mathlib.Core.List.Memᴰ.not-nil m)
  from_lowest a (suc count) {r} {rs} =
      let others = runs_from n (a + n) live count in
      by_test (λ t. cond t (a ∷ others) others ≡ r ∷ rs → Memᴰ b (cond t (a ∷ others) others) → r ≤ b) (outside a n live)
      (λ h e m.
      let same : a ≡ r = cc in
      ⊎_elim (λ at. omega arith) (λ later. let (i, l, k) = (from_sound (a + n) count later).place in omega arith) (mathlib.Core.List.Memᴰ.cases_cons m))
      (λ h. from_lowest (a + n) count)

  -- and each one is listed
  from_complete : (a count i : ℕ) → i < count → b ≡ a + i * n → outside b n live ≡ true → Memᴰ b (runs_from n a live count)
  unfolding runs_from
  from_complete a zero i l e h = absurd (omega arith)
  from_complete a (suc count) zero l e h =
      let same : b ≡ a = omega arith in
      rw (rw same at h) (mathlib.Core.List.Memᴰ.head same)
  from_complete a (suc count) (suc i) l e h =
      let later = from_complete (a + n) count i (omega arith) (omega arith) h in
      either_way (λ (all : List ℕ). Memᴰ b all) (outside a n live) (mathlib.Core.List.Memᴰ.tail later) later

module _ (n : ℕ) (u : SetUp) (live : List Block) {a : ℕ} (pos : 0 < n) where
  -- each run that is listed lies in the set-up words, some runs from their first, and outside the blocks
  pub runs_sound : Memᴰ a (runs n u live)
      → (u.s1 ≤ a) × (a + n ≤ u.s1 + words u) × (outside a n live ≡ true) × ((i : ℕ) × (a ≡ u.s1 + i * n))
  unfolding runs
  runs_sound m =
      let r = from_sound n live u.s1 (words u / n) m in
      let (i, l, e) = r.place in
      let fit = (le-div_iff_mul-le {x = suc i} pos).0 l in
      (omega arith, omega arith, r.clear, (i, e))

  -- none is lower than the first
  pub runs_lowest : {r : ℕ} {rs : List ℕ} → runs n u live ≡ r ∷ rs → Memᴰ a (runs n u live) → r ≤ a
  unfolding runs
  runs_lowest = from_lowest n live u.s1 (words u / n)

  -- aligned if the first word is
  pub runs_aligned : u.s1 % n ≡ 0 → Memᴰ a (runs n u live) → a % n ≡ 0
  runs_aligned h m =
      let (first, last, clear, (i, e)) = runs_sound m in
      rw (e, add-mul-mod_self_right) h

  -- and each aligned run that lies so is listed
  pub runs_complete : u.s1 % n ≡ 0 → a % n ≡ 0 → u.s1 ≤ a → a + n ≤ u.s1 + words u → outside a n live ≡ true
      → Memᴰ a (runs n u live)
  unfolding runs
  runs_complete h l first last clear =
      let i = a / n - u.s1 / n in
      let far : i * n ≡ a - u.s1 = omega (arith, mul-sub n (a / n) (u.s1 / n), div-add-mod' a n, div-add-mod' u.s1 n) in
      from_complete n live u.s1 (words u / n) i ((le-div_iff_mul-le pos).1 (omega arith)) (omega arith) clear
