-- The lowest aligned run outside the live blocks is the start of the first free block that is large enough. Assumes nothing.
use Rattle.std.specs.Prelude.{Some, None}
use Rattle.std.proofs.Common.{◌≡◌, ℕ, zero, suc, ◌+◌, ◌*◌, ◌%◌, ◌<◌, ◌≤◌, Bool, true, false, cond, not, ◌&&◌, ◌||◌, leb, List, [], ◌∷◌, ◌++◌, length, sym, refl, ap, ◌∙◌, ap₂, inl, inr, le_refl, mul_assoc, arith}
use native.Mathlib.Nat.{eq_of_mul-eq-mul_right, div-eq_of_eq-mul_left}
use borrow.Author.Tests.{lt-leb}
use Rattle.block.specs.Blocks.{size, Block, Tree, Free, Live, Halves, live_in, gathered, outside, runs_from}
use Rattle.block.specs.Map.{is_free, canonical, all_canonical, trees, live, keeps}
use Rattle.block.specs.declared.SetUp.{SetUp}
use Rattle.block.specs.SetUp.{top, words, runs}
use Rattle.buddy.specs.Lowest.{first_of, or_else, lowest_in}
use Rattle.word.proofs.Tests.{and_true, and_false, by_leb, by_test}
use Rattle.block.proofs.Size.{size_pos, size_suc, size_divides}
use Rattle.block.proofs.Map.{canonical_halves, keeps_parts, trees_fill}
use Rattle.block.proofs.Each.{Each, each_map}
use Rattle.block.proofs.Runs.{each_outside}
use Rattle.buddy.proofs.Parts.{and_assoc}
use Rattle.block.proofs.Within.{Within, live_within, all_within}
use Rattle.buddy.proofs.Lowest.{lowest_of}

-- the first of two lists
first_append : (xs ys : List ℕ) → first_of (xs ++ ys) ≡ or_else (first_of xs) (first_of ys)
unfolding first_of or_else
first_append [] ys = refl
first_append (x ∷ xs) ys = refl

and_both : (s : Bool) → (s && true) ≡ s
and_both true = refl
and_both false = refl

module _ (n : ℕ) where
  -- words outside blocks and others
  outside_append : (a : ℕ) (xs ys : List Block) → outside a n (xs ++ ys) ≡ (outside a n xs && outside a n ys)
  unfolding outside
  outside_append a [] ys = refl
  outside_append a (x ∷ xs) ys =
      let t = leb (x.address + x.size) a || leb (a + n) x.address in
      ap (λ (b : Bool). t && b) (outside_append a xs ys) ∙ and_assoc t (outside a n xs) (outside a n ys)

  -- words after blocks, and before them
  outside_after : (a : ℕ) {b c : ℕ} {xs : List Block} → Each (Within b c) xs → c ≤ a → outside a n xs ≡ true
  outside_after a h l = each_outside a n (each_map (λ x w. inl (omega arith)) h)

  outside_before : (a : ℕ) {b c : ℕ} {xs : List Block} → Each (Within b c) xs → a + n ≤ b → outside a n xs ≡ true
  outside_before a h l = each_outside a n (each_map (λ x w. inr (omega arith)) h)

  -- runs before some of the blocks are those outside the others
  runs_before : (a count : ℕ) (xs : List Block) {ys : List Block} {b c : ℕ} → Each (Within b c) ys → a + count * n ≤ b
      → runs_from n a (xs ++ ys) count ≡ runs_from n a xs count
  unfolding runs_from
  runs_before a zero xs h l = refl
  runs_before a (suc count) xs {ys} h l =
      let here : outside a n (xs ++ ys) ≡ outside a n xs
      = outside_append a xs ys ∙ ap (λ (b : Bool). outside a n xs && b) (outside_before a h (omega arith)) ∙ and_both (outside a n xs) in
      rw (here, runs_before (a + n) count xs h (omega arith))

  -- and so after them
  runs_after : (a count : ℕ) {xs : List Block} (ys : List Block) {b c : ℕ} → Each (Within b c) xs → c ≤ a
      → runs_from n a (xs ++ ys) count ≡ runs_from n a ys count
  unfolding runs_from
  runs_after a zero ys h l = refl
  runs_after a (suc count) {xs} ys h l =
      let here : outside a n (xs ++ ys) ≡ outside a n ys
      = outside_append a xs ys ∙ ap (λ (b : Bool). b && outside a n ys) (outside_after a h l) in
      rw (here, runs_after (a + n) count ys h (omega arith))

  -- the runs at more places
  runs_more : (a c d : ℕ) (live : List Block) → runs_from n a live (c + d) ≡ runs_from n a live c ++ runs_from n (a + c * n) live d
  unfolding runs_from
  runs_more a zero d live =
      let same : 0 + d ≡ d = omega arith in
      let here : a + 0 * n ≡ a = omega arith in
      rw (same, here)
  runs_more a (suc c) d live =
      let same : suc c + d ≡ suc (c + d) = omega arith in
      let there : a + suc c * n ≡ (a + n) + c * n = omega arith in
      rw (same, there)
      (by_test (λ b. let xs = runs_from n (a + n) live (c + d) in let ys = runs_from n (a + n) live c in
      cond b (a ∷ xs) xs ≡ cond b (a ∷ ys) ys ++ runs_from n ((a + n) + c * n) live d) (outside a n live)
      (λ e. ap (λ (xs : List ℕ). a ∷ xs) (runs_more (a + n) c d live))
      (λ e. runs_more (a + n) c d live))

  -- the runs in the first and in the second of two places, each with its own blocks
  runs_two : (a c d b e : ℕ) (xs ys : List Block) → Each (Within a b) xs → Each (Within b e) ys → a + c * n ≡ b
      → runs_from n a (xs ++ ys) (c + d) ≡ runs_from n a xs c ++ runs_from n b ys d
  runs_two a c d b e xs ys h l same =
      runs_more a c d (xs ++ ys)
      ∙ ap₂ ◌++◌ (runs_before a c xs l (omega arith)) (runs_after (a + c * n) d ys h (omega arith) ∙ ap (λ (i : ℕ). runs_from n i ys d) same)

  -- no run in a live block
  runs_none : (a count b m : ℕ) → b ≤ a → a + count * n ≤ b + m → 0 < n → runs_from n a (record { address = b; size = m } ∷ []) count ≡ []
  unfolding runs_from outside
  runs_none a zero b m h l pos = refl
  runs_none a (suc count) b m h l pos =
      rw (lt-leb (b + m) a (omega arith), lt-leb (a + n) b (omega arith)) (runs_none (a + n) count b m (omega arith) (omega arith) pos)

-- a tree that is not free has a live block among the words around it
none_outside : (k at a n : ℕ) (t : Tree) → a ≤ at → at + size k ≤ a + n → canonical k t ≡ true → is_free t ≡ false → outside a n (live_in k at t) ≡ false
unfolding live_in is_free outside
none_outside k at a n Free l h whole used = absurd (let z : ◌≡◌ {A = ℕ} 0 1 = cc in omega arith)
none_outside k at a n Live l h whole used = rw (lt-leb (at + size k) a (omega (arith, size_pos k)), lt-leb (a + n) at (omega (arith, size_pos k)))
none_outside zero at a n (Halves x y) l h whole used = absurd (unfold canonical in let z : ◌≡◌ {A = ℕ} 0 1 = cc in omega arith)
none_outside (suc k) at a n (Halves x y) l h whole used =
    let (left, right, apart) = canonical_halves k x y whole in
    let e = size_suc k in
    rw (outside_append n a (live_in k at x) (live_in k (at + size k) y))
    (by_test (λ b. is_free x ≡ b → not (b && is_free y) ≡ true → (outside a n (live_in k at x) && outside a n (live_in k (at + size k) y)) ≡ false) (is_free x)
    (λ _ free other. rw (none_outside k (at + size k) a n y (omega arith) (omega arith) right (not_not (is_free y) other))
    (and_false (outside a n (live_in k at x))))
    (λ _ taken other. rw (none_outside k at a n x (omega arith) (omega arith) left taken))
    refl apart)
  where
    not_not : (b : Bool) → not b ≡ true → b ≡ false
    not_not true h = sym h
    not_not false h = refl

-- a halved block is not free
halves_used : (l r : Tree) → is_free (Halves l r) ≡ false
unfolding is_free
halves_used l r = refl

-- one place that is not outside has no run, and the first of places outside no block is one
no_run : (n a : ℕ) (live : List Block) → outside a n live ≡ false → first_of (runs_from n a live 1) ≡ None
unfolding first_of runs_from
no_run n a live e = rw e

here_run : (n a count : ℕ) → first_of (runs_from n a [] (suc count)) ≡ Some a
unfolding first_of runs_from outside
here_run n a count = refl

-- the lowest run in a tree
lowest_runs : (k j count at : ℕ) (t : Tree) → j ≤ k → count * size j ≡ size k → canonical k t ≡ true
    → lowest_in j k at t ≡ first_of (runs_from (size j) at (live_in k at t) count)
unfolding lowest_in live_in first_of
lowest_runs k j zero at Free l e whole = absurd (omega (arith, size_pos k))
lowest_runs k j (suc count) at Free l e whole = sym (here_run (size j) at count)
lowest_runs k j count at Live l e whole = sym (ap first_of (runs_none (size j) at count at (size k) (le_refl at) (omega arith) (size_pos j)))
lowest_runs zero j count at (Halves x y) l e whole = absurd (unfold canonical in let z : ◌≡◌ {A = ℕ} 0 1 = cc in omega arith)
lowest_runs (suc k) j count at (Halves x y) l e whole =
    let lows = live_in k at x in
    let highs = live_in k (at + size k) y in
    by_leb (λ b. cond b None (or_else (lowest_in j k at x) (lowest_in j k (at + size k) y)) ≡ first_of (runs_from (size j) at (lows ++ highs) count)) (suc k) j
    (λ large.
    let same : j ≡ suc k = omega arith in
    let times : count * size j ≡ 1 * size j = e ∙ ap size (sym same) ∙ omega arith in
    let one : count ≡ 1 = eq_of_mul-eq-mul_right (size j) (size_pos j) count 1 times in
    let used : outside at (size j) (lows ++ highs) ≡ false
    = none_outside (suc k) at at (size j) (Halves x y) (le_refl at) (omega (arith, ap size same)) whole (halves_used x y) in
    sym (ap (λ (c : ℕ). first_of (runs_from (size j) at (lows ++ highs) c)) one ∙ no_run (size j) at (lows ++ highs) used))
    (λ small.
    let (left, right, apart) = canonical_halves k x y whole in
    let (q, same) = size_divides {j = j} {k = k} (omega arith) in
    let times : count * size j ≡ (q + q) * size j = e ∙ omega (arith, size_suc k) in
    let twice : count ≡ q + q = eq_of_mul-eq-mul_right (size j) (size_pos j) count (q + q) times in
    let two = runs_two (size j) at q q (at + size k) ((at + size k) + size k) lows highs (live_within k at x) (live_within k (at + size k) y) (omega arith) in
    ap₂ or_else (lowest_runs k j q at x (omega arith) (sym same) left) (lowest_runs k j q (at + size k) y (omega arith) (sym same) right)
    ∙ sym (ap (λ (c : ℕ). first_of (runs_from (size j) at (lows ++ highs) c)) twice ∙ ap first_of two
    ∙ first_append (runs_from (size j) at lows q) (runs_from (size j) (at + size k) highs q)))

-- and in one tree after the other
all_runs : (k j c at : ℕ) (ts : List Tree) → j ≤ k → c * size j ≡ size k → all_canonical k ts ≡ true
    → lowest_of j k at ts ≡ first_of (runs_from (size j) at (gathered (live_in k) k at ts) (length ts * c))
unfolding lowest_of gathered all_canonical first_of runs_from
all_runs k j c at [] l e whole =
    let none : 0 * c ≡ 0 = omega arith in
    sym (ap (λ (i : ℕ). first_of (runs_from (size j) at [] i)) none)
all_runs k j c at (t ∷ ts) l e whole =
    let (first, others) = and_true (canonical k t) _ whole in
    let later = gathered (live_in k) k (at + size k) ts in
    let more : suc (length ts) * c ≡ c + length ts * c = omega arith in
    let two = runs_two (size j) at c (length ts * c) (at + size k) ((at + size k) + length ts * size k) (live_in k at t) later (live_within k at t)
    (all_within k (at + size k) ts) (omega arith) in
    ap₂ or_else (lowest_runs k j c at t l e first) (all_runs k j c (at + size k) ts l e others)
    ∙ sym (ap (λ (i : ℕ). first_of (runs_from (size j) at (live_in k at t ++ later) i)) more ∙ ap first_of two
    ∙ first_append (runs_from (size j) at (live_in k at t) c) (runs_from (size j) (at + size k) later (length ts * c)))

-- the first of the runs of a map that keeps the section
pub first_run : (u : SetUp) (m : List ℕ) (j : ℕ) → words u % size (top u.d) ≡ 0 → keeps u m ≡ true → j ≤ top u.d
    → lowest_of j (top u.d) u.s1 (trees u m) ≡ first_of (runs (size j) u (live u m))
unfolding runs live
first_run u m j whole kept l =
    let k = top u.d in
    let (q, same) = size_divides {j = j} {k = k} l in
    let fill = trees_fill u m whole in
    let count : words u ≡ (length (trees u m) * q) * size j
    = sym fill ∙ ap (λ (n : ℕ). length (trees u m) * n) same ∙ sym (mul_assoc (length (trees u m)) q (size j)) in
    all_runs k j q u.s1 (trees u m) l (sym same) (keeps_parts u m kept).0
    ∙ ap (λ (c : ℕ). first_of (runs_from (size j) u.s1 (gathered (live_in k) k u.s1 (trees u m)) c)) (sym (div-eq_of_eq-mul_left (size_pos j) count))
