-- What is left of a map as a scan meets it: trees of the j-th size or larger, one after the other. The byte that stands first says
-- whether the lowest run is there, and otherwise where the scan goes on. Assumes nothing.
use Rattle.std.specs.Prelude.{Option, Some, None}
use Rattle.std.proofs.Common.{◌≡◌, ℕ, zero, suc, ◌+◌, ◌-◌, ◌/◌, ◌%◌, ◌<◌, ◌≤◌, true, List, ◌++◌, get_or, drop, sym, refl, ap, ◌∙◌, subst, arith}
use Rattle.block.specs.declared.SetUp.{SetUp}
use Rattle.block.specs.Blocks.{size, Tree, Free, Live, Halves}
use Rattle.block.specs.SetUp.{top, words, runs}
use Rattle.block.specs.Map.{free_tag, live_tag_of, written, canonical, keeps, live}
use Rattle.buddy.specs.Lowest.{first_of, or_else, lowest_in, Passed, here, more as passes}
use Rattle.word.proofs.Tests.{by_leb}
use Rattle.block.proofs.Map.{first_append, canonical_halves}
use Rattle.buddy.proofs.Tags.{halves_first}
use Rattle.buddy.proofs.Rest.{Made, Rest, none, more, After, Reached, first_byte, halves_bytes, halves_words, after}
use Rattle.buddy.proofs.Rest.{second_half, goes_on, none_left, starts}
use Rattle.buddy.proofs.Lowest.{lowest_of, lowest_large, lowest_none}
use Rattle.buddy.proofs.First.{first_run}

-- the lowest run of the j-th size, tree by tree
abbrev pub lowest_made : ℕ → Made (Option ℕ)
lowest_made j = record { nothing = None; before = or_else; of = lowest_in j }

-- the block that stands first: free and large enough, live and so large, or smaller than the j-th size, as all are in those words
data Next (j at left : ℕ) (m : List ℕ) (r : Option ℕ) : Type 0 where
  free : (k : ℕ) → j ≤ k → get_or m 0 0 ≡ free_tag k → Some at ≡ r → Next j at left m r
  taken : (k : ℕ) → j ≤ k → k ≤ 7 → get_or m 0 0 ≡ live_tag_of k → After (lowest_made j) j (size k) at left m r → Next j at left m r
  small : get_or m 0 0 < free_tag j → After (lowest_made j) j (size j) at left m r → Next j at left m r

next_same : {j at left left' : ℕ} {m m' : List ℕ} {r r' : Option ℕ} → left ≡ left' → m ≡ m' → r ≡ r' → Next j at left m r → Next j at left' m' r'
next_same e f g n = rw (← e, ← f, ← g) n

or_else_assoc : (x y z : Option ℕ) → or_else x (or_else y z) ≡ or_else (or_else x y) z
unfolding or_else
or_else_assoc (Some a) y z = refl
or_else_assoc None y z = refl

or_else_none : (x : Option ℕ) → or_else None x ≡ x
unfolding or_else
or_else_none x = refl

-- the first block of a tree
first_block : {j left : ℕ} {m : List ℕ} {r : Option ℕ} (k at : ℕ) (t : Tree) → j ≤ k → k ≤ 7 → canonical k t ≡ true → Rest (lowest_made j) j (at + size k) left m r
    → Next j at (size k + left) (written k t ++ m) (or_else (lowest_in j k at t) r)
first_block k at Free l h whole rest = free k l (unfold written in refl) (unfold lowest_in or_else in refl)
first_block k at Live l h whole rest = taken k l h (unfold written in refl) (unfold lowest_in or_else in after k Live rest)
first_block zero at (Halves x y) l h whole rest = absurd (unfold canonical in let z : ◌≡◌ {A = ℕ} 0 1 = cc in omega arith)
first_block {j} {left} {m} {r} (suc k) at (Halves x y) l h whole rest =
    let (low, high, apart) = canonical_halves k x y whole in
    by_leb (λ _. Next j at (size (suc k) + left) (written (suc k) (Halves x y) ++ m) (or_else (lowest_in j (suc k) at (Halves x y)) r)) (suc k) j
    (λ large.
    let same : suc k ≡ j = omega arith in
    let first : get_or (written (suc k) (Halves x y) ++ m) 0 0 < free_tag (suc k) = rw (first_append (suc k) (Halves x y) m) (halves_first (suc k) x y) in
    next_same refl refl (sym (ap (λ (f : Option ℕ). or_else f r) (lowest_none j k at x y large) ∙ or_else_none r))
    (small (subst (λ (i : ℕ). get_or (written (suc k) (Halves x y) ++ m) 0 0 < free_tag i) same first)
    (subst (λ (i : ℕ). After (lowest_made j) j (size i) at (size (suc k) + left) (written (suc k) (Halves x y) ++ m) r) same (after (suc k) (Halves x y) rest))))
    (λ less.
    let found : or_else (lowest_in j k at x) (or_else (lowest_in j k (at + size k) y) r) ≡ or_else (lowest_in j (suc k) at (Halves x y)) r
    = or_else_assoc _ _ r ∙ ap (λ (f : Option ℕ). or_else f r) (sym (lowest_large j k at x y (omega arith))) in
    next_same (halves_words k left) (halves_bytes k x y m) found
    (first_block {left = size k + left} k at x (omega arith) (omega arith) low (second_half k at y (omega arith) (omega arith) high rest)))

-- and of what is left
next : {j at left : ℕ} {m : List ℕ} {r : Option ℕ} → Rest (lowest_made j) j at left m r → 0 < left → Next j at left m r
next none h = absurd (omega arith)
next {at = at} (more k t l s whole rest) h = first_block k at t l s whole rest

-- the scan of a map of w words from address s on has come to word i: the lowest run r is among the words from there on
abbrev pub Scanned : ℕ → ℕ → ℕ → List ℕ → Option ℕ → ℕ → Type 0
Scanned j = Reached (lowest_made j) j

module _ (s w i : ℕ) (m : List ℕ) {j : ℕ} {r : Option ℕ} where
  module _ (scanned : Scanned j s w m r i) (some : i < w) where
    block : Next j (s + i) (w - i) (drop i m) r
    block = next scanned.1 (omega arith)

    -- an odd tag of the j-th size or a larger is that of a free block: the lowest run is there
    pub meets_free : free_tag j ≤ get_or m i 0 → (get_or m i 0 % 2 ≡ 0 → ⊥) → Some (s + i) ≡ r
    unfolding free_tag live_tag_of
    meets_free large odd = go (first_byte m i) block
      where
        go : get_or m i 0 ≡ get_or (drop i m) 0 0 → Next j (s + i) (w - i) (drop i m) r → Some (s + i) ≡ r
        go p (free k l e found) = found
        go p (taken k l h e a) = absurd (odd (omega arith))
        go p (small h a) = absurd (omega arith)

    -- an even one is that of a live block, which is passed
    pub meets_live : free_tag j ≤ get_or m i 0 → get_or m i 0 % 2 ≡ 0 → (get_or m i 0 / 2 - 1 ≤ 7)
        × ((n : ℕ) → n ≡ size (get_or m i 0 / 2 - 1) → Scanned j s w m r (i + n))
    unfolding free_tag live_tag_of
    meets_live large even = go (first_byte m i) block
      where
        go : get_or m i 0 ≡ get_or (drop i m) 0 0 → Next j (s + i) (w - i) (drop i m) r
            → (get_or m i 0 / 2 - 1 ≤ 7) × ((n : ℕ) → n ≡ size (get_or m i 0 / 2 - 1) → Scanned j s w m r (i + n))
        go p (free k l e found) = absurd (omega arith)
        go p (taken k l h e a) =
            let same : k ≡ get_or m i 0 / 2 - 1 = omega arith in (
              omega arith,
              λ n is. goes_on s w i m (omega arith) (subst (λ (x : ℕ). After (lowest_made j) j x (s + i) (w - i) (drop i m) r)
                  (ap size same ∙ sym is) a),
            )
        go p (small h a) = absurd (omega arith)

    -- with a smaller tag there is no run in as many words as are wanted
    pub meets_small : (n : ℕ) → n ≡ size j → get_or m i 0 < free_tag j → Scanned j s w m r (i + n)
    unfolding free_tag live_tag_of
    meets_small n is less = go (first_byte m i) block
      where
        go : get_or m i 0 ≡ get_or (drop i m) 0 0 → Next j (s + i) (w - i) (drop i m) r → Scanned j s w m r (i + n)
        go p (free k l e found) = absurd (omega arith)
        go p (taken k l h e a) = absurd (omega arith)
        go p (small h a) = goes_on s w i m (omega arith) (subst (λ (x : ℕ). After (lowest_made j) j x (s + i) (w - i) (drop i m) r) (sym is) a)

-- bytes of smaller blocks are passed
pub passed_scanned : {m : List ℕ} {end least n from i : ℕ} (s w j : ℕ) {r : Option ℕ} → end ≡ w → least ≡ free_tag j → n ≡ size j
    → Scanned j s w m r from → Passed m end least n from i → Scanned j s w m r i
passed_scanned s w j e tag is scanned here = scanned
passed_scanned {m} {n = n} s w j e tag is scanned (passes {i} p l less) =
    meets_small s w i m (passed_scanned s w j e tag is scanned p) (omega arith) n is (omega arith)

pub passed_on : {m : List ℕ} {end least n from i : ℕ} → Passed m end least n from i → from ≤ i
passed_on here = omega arith
passed_on (passes p l less) = omega (arith, passed_on p)

-- at the end there is none
pub scan_ends : (s w i : ℕ) (m : List ℕ) {j : ℕ} {r : Option ℕ} → Scanned j s w m r i → w ≤ i → None ≡ r
scan_ends s w i m scanned h = none_left scanned.1 (omega arith)

-- the scan of a map that keeps the section starts
pub scan_starts : (u : SetUp) (m : List ℕ) (j : ℕ) → words u % size (top u.d) ≡ 0 → keeps u m ≡ true → j ≤ top u.d
    → Scanned j u.s1 (words u) m (first_of (runs (size j) u (live u m))) 0
unfolding lowest_of
scan_starts u m j whole kept l =
    rw (← (first_run u m j whole kept l)) (starts (lowest_of j) (λ k at. refl) (λ k at t ts. refl) u m whole kept l)
