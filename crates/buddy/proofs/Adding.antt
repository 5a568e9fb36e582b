-- Blocks counted one after the other in a tree: a block that keeps the section is passed, the first that breaks it ends the count. By
-- induction on the level of a part of the tree: the scan passes it with the blocks of the tree that it tells, or stops in it. Assumes nothing.
use Rattle.std.proofs.Common.{◌≡◌, ℕ, zero, suc, ◌+◌, ◌-◌, ◌*◌, ◌/◌, ◌%◌, ◌<◌, ◌≤◌, Bool, true, false, cond, not, ◌&&◌, ◌||◌, eqb, ltb, leb, List, [], ◌∷◌, length, get_or, take, drop, sym, refl, ap, ◌∙◌, subst, ap₂, mod-eq_of_lt, arith, get_or-drop, take_all, get_or-take, take-take, drop-drop, ltb-true, lt-ltb, eq-eqb, ne_eqb, le-leb, leb-true}
use native.Mathlib.Nat.{mul-mod_left, mul-div_left, mul-add-mod_self_right, div-eq_of_lt}
use borrow.Author.Tests.{lt-leb}
use Rattle.word.proofs.Tests.{by_test, by_eqb, by_leb, and_true, and_false}
use Rattle.block.specs.Blocks.{size, Tree, Free, Live, Halves}
use Rattle.block.specs.Map.{free_tag, live_tag_of, written, told, is_free, canonical}
use Rattle.buddy.specs.Marks.{mark, marks, is_tag, tag_level, is_rest, starts_block, counted}
use Rattle.block.proofs.Size.{size_suc, size_pos, size_small, aligned_smaller}
use Rattle.block.proofs.Map.{halved, canonical_halves}
use Rattle.buddy.proofs.Marks.{marks_append, marks_zeros}
use Rattle.buddy.proofs.Parts.{no_tag, told_free, told_live, told_halved, free_told}

-- what counting blocks from a place of a tree on, to a number, gives
pub data Adds (k : ℕ) (m : List ℕ) : ℕ → ℕ → ℕ → Type 0 where
  ends : {i s : ℕ} → length m ≤ i → Adds k m i s s
  stops : {i s : ℕ} → i < length m → starts_block k i m ≡ false → Adds k m i s 0
  passes : {i s r : ℕ} → i < length m → starts_block k i m ≡ true → Adds k m (i + size (tag_level (get_or m i 0))) (s + 1) r → Adds k m i s r

-- a test that failed did not hold
unlike : {t : Bool} → t ≡ false → t ≡ true → ⊥
unlike e f = let z : ◌≡◌ {A = ℕ} 0 1 = cc in omega arith

module _ (k : ℕ) (m : List ℕ) where
  -- at the end the number is the answer
  pub adds_end : {i s r : ℕ} → length m ≤ i → Adds k m i s r → r ≡ s
  adds_end h (ends l) = refl
  adds_end h (stops l e) = absurd (omega arith)
  adds_end h (passes l e more) = absurd (omega arith)

  -- a block that breaks the section makes it 0
  pub adds_stop : {i s r : ℕ} → i < length m → starts_block k i m ≡ false → Adds k m i s r → r ≡ 0
  adds_stop h e (ends l) = absurd (omega arith)
  adds_stop h e (stops l f) = refl
  adds_stop h e (passes l f more) = absurd (unlike e f)

  -- another is passed
  pub adds_pass : {i s r : ℕ} → i < length m → starts_block k i m ≡ true → Adds k m i s r → Adds k m (i + size (tag_level (get_or m i 0))) (s + 1) r
  adds_pass h e (ends l) = absurd (omega arith)
  adds_pass h e (stops l f) = absurd (unlike f e)
  adds_pass h e (passes l f more) = more

-- what is taken past the first n
drop_take : (n k : ℕ) (l : List ℕ) → drop n (take (n + k) l) ≡ take k (drop n l)
drop_take zero k l = let none : 0 + k ≡ k = omega arith in ap (λ (i : ℕ). take i l) none
drop_take (suc n) zero [] = let more : suc n + 0 ≡ suc n = omega arith in rw more
drop_take (suc n) (suc k) [] = let more : suc n + suc k ≡ suc (n + suc k) = omega arith in rw more
drop_take (suc n) k (x ∷ l) = let more : suc n + k ≡ suc (n + k) = omega arith in rw more (drop_take n k l)

-- a block at an odd place has one before it
pub odd_past : (i n : ℕ) → i / n % 2 ≡ 1 → n ≤ i
odd_past i n h = by_leb (λ _. n ≤ i) n i (λ l. l) (λ l. absurd (omega (arith, div-eq_of_lt l)))

-- the level of a tag
level_free : (j : ℕ) → tag_level (free_tag j) ≡ j
unfolding tag_level free_tag
level_free j = omega arith

level_live : (j : ℕ) → tag_level (live_tag_of j) ≡ j
unfolding tag_level live_tag_of
level_live j = omega arith

module _ (k : ℕ) (m : List ℕ) where
  -- a live block starts at each place that its size divides
  live_starts : (j q : ℕ) → j ≤ k → get_or m (q * size j) 0 ≡ live_tag_of j → starts_block k (q * size j) m ≡ true
  unfolding starts_block is_rest
  live_starts j q h e =
      let even : eqb (live_tag_of j % 2) 1 ≡ false = ne_eqb (live_tag_of j % 2) 1 (λ o. unfold live_tag_of in omega arith) in
      let some : ltb 0 (live_tag_of j) ≡ true = lt-ltb 0 (live_tag_of j) (unfold live_tag_of in omega arith) in
      let most : leb (live_tag_of j) (live_tag_of k) ≡ true = le-leb (live_tag_of j) (live_tag_of k) (unfold live_tag_of in omega arith) in
      rw (e, level_live j, some, most, mul-mod_left q (size j), even)

  -- a free one where it is no high half, or the low half is not free
  free_starts : (j q : ℕ) → j ≤ k → get_or m (q * size j) 0 ≡ free_tag j
      → (q % 2 ≡ 1 → get_or m (q * size j - size j) 0 ≡ free_tag j → ⊥) → starts_block k (q * size j) m ≡ true
  unfolding starts_block is_rest
  free_starts j q h e apart =
      let odd : eqb (free_tag j % 2) 1 ≡ true = eq-eqb (free_tag j % 2) 1 (unfold free_tag in omega arith) in
      let some : ltb 0 (free_tag j) ≡ true = lt-ltb 0 (free_tag j) (unfold free_tag in omega arith) in
      let most : leb (free_tag j) (live_tag_of k) ≡ true = le-leb (free_tag j) (live_tag_of k) (unfold free_tag live_tag_of in omega arith) in
      let other : (eqb (q % 2) 1 && eqb (get_or m (q * size j - size j) 0) (free_tag j)) ≡ false
      = by_eqb (λ t. (t && eqb (get_or m (q * size j - size j) 0) (free_tag j)) ≡ false) (q % 2) 1
      (λ o. ne_eqb (get_or m (q * size j - size j) 0) (free_tag j) (apart o)) (λ o. refl) in
      rw (e, level_free j, some, most, mul-mod_left q (size j), mul-div_left q (size_pos j), odd, other)

  -- and not where the low half is free
  rest_stops : (j q : ℕ) → get_or m (q * size j) 0 ≡ free_tag j → q % 2 ≡ 1 → get_or m (q * size j - size j) 0 ≡ free_tag j → starts_block k (q * size j) m ≡ false
  unfolding starts_block is_rest
  rest_stops j q e o low =
      let odd : eqb (free_tag j % 2) 1 ≡ true = eq-eqb (free_tag j % 2) 1 (unfold free_tag in omega arith) in
      rw (e, level_free j, mul-mod_left q (size j), mul-div_left q (size_pos j), odd, low, eq-eqb (q % 2) 1 o, eq-eqb (free_tag j) (free_tag j) refl)
      (and_false (ltb 0 (free_tag j) && leb (free_tag j) (live_tag_of k) && true))

  -- no block starts where the byte is zero
  pub zero_stops : (i : ℕ) → get_or m i 0 ≡ 0 → starts_block k i m ≡ false
  unfolding starts_block
  zero_stops i e = rw e

  -- nor one above a level at an odd place of it
  odd_stops : (j q : ℕ) → q % 2 ≡ 1 → live_tag_of j < get_or m (q * size j) 0 → starts_block k (q * size j) m ≡ false
  unfolding starts_block
  odd_stops j q o h =
      let x = get_or m (q * size j) 0 in
      let level : suc j ≤ tag_level x = unfold tag_level live_tag_of in omega arith in
      let off : (q * size j % size (tag_level x) ≡ 0) → ⊥ = λ e. odd_place (aligned_smaller level (q * size j) e) in
      rw (ne_eqb (q * size j % size (tag_level x)) 0 off, and_false)
    where
      odd_place : q * size j % size (suc j) ≡ 0 → ⊥
      odd_place e =
          let half = q / 2 in
          let odd : q ≡ half + half + 1 = omega arith in
          let twice : half * (size j + size j) ≡ half * size j + half * size j = omega arith in
          let parts : q * size j ≡ half * size (suc j) + size j = rw size_suc (ap (λ (n : ℕ). n * size j) odd ∙ omega arith) in
          let rest : (half * size (suc j) + size j) % size (suc j) ≡ size j = mul-add-mod_self_right half (size (suc j)) (size j)
          ∙ mod-eq_of_lt (omega (arith, size_suc j, size_pos j)) in
          omega (arith, sym rest ∙ ap (λ (n : ℕ). n % size (suc j)) (sym parts) ∙ e, size_pos j)

  -- nor one above the tree's level
  pub above_stops : (i : ℕ) → live_tag_of k < get_or m i 0 → starts_block k i m ≡ false
  unfolding starts_block
  above_stops i h = rw (lt-leb (get_or m i 0) (live_tag_of k) h, and_false (ltb 0 (get_or m i 0)))

  -- nor where its size does not divide the place
  pub off_stops : (i n : ℕ) → n ≡ size (tag_level (get_or m i 0)) → (i % n ≡ 0 → ⊥) → starts_block k i m ≡ false
  unfolding starts_block
  off_stops i n e h = rw (← e, ne_eqb (i % n) 0 h, and_false (ltb 0 (get_or m i 0) && leb (get_or m i 0) (live_tag_of k)))

  -- elsewhere one starts that is no rest
  pub starts_else : (i n : ℕ) → n ≡ size (tag_level (get_or m i 0)) → (get_or m i 0 ≡ 0 → ⊥) → get_or m i 0 ≤ live_tag_of k → i % n ≡ 0
      → starts_block k i m ≡ not (is_rest (get_or m i 0) n i m)
  unfolding starts_block
  starts_else i n e some most h = rw (← e, lt-ltb 0 (get_or m i 0) (omega arith), le-leb (get_or m i 0) (live_tag_of k) most, h)

  -- the tag of a block that starts
  starts_tag : (i : ℕ) → starts_block k i m ≡ true → (0 < get_or m i 0) × (get_or m i 0 ≤ live_tag_of k)
  unfolding starts_block
  starts_tag i h =
      let x = get_or m i 0 in
      let (three, no-rest) = and_true (ltb 0 x && leb x (live_tag_of k) && eqb (i % size (tag_level x)) 0) _ h in
      let (two, place) = and_true (ltb 0 x && leb x (live_tag_of k)) _ three in
      let (some, most) = and_true (ltb 0 x) _ two in
      (ltb-true 0 x some, leb-true x (live_tag_of k) most)

  -- the bytes of the q-th part of the j-th size
  abbrev piece : ℕ → ℕ → List ℕ
  piece j q = take (size j) (drop (q * size j) m)

  piece_first : (j q : ℕ) → get_or (piece j q) 0 0 ≡ get_or m (q * size j) 0
  piece_first j q =
      let start : q * size j + 0 ≡ q * size j = omega arith in
      get_or-take (size j) (drop (q * size j) m) 0 0 (size_pos j) ∙ get_or-drop (q * size j) m 0 0 ∙ ap (λ (n : ℕ). get_or m n 0) start

  -- twice as many parts of half the size
  low_place : (j q : ℕ) → (q + q) * size j ≡ q * size (suc j)
  low_place j q = rw size_suc (omega arith)

  high_place : (j q : ℕ) → (q + q + 1) * size j ≡ q * size (suc j) + size j
  high_place j q = rw size_suc (omega arith)

  low_piece : (j q : ℕ) → take (size j) (piece (suc j) q) ≡ piece j (q + q)
  low_piece j q =
      take-take (size j) (size (suc j)) (drop (q * size (suc j)) m) (omega (arith, size_suc j))
      ∙ ap (λ (n : ℕ). take (size j) (drop n m)) (sym (low_place j q))

  high_piece : (j q : ℕ) → drop (size j) (piece (suc j) q) ≡ piece j (q + q + 1)
  high_piece j q =
      ap (λ (n : ℕ). drop (size j) (take n (drop (q * size (suc j)) m))) (size_suc j)
      ∙ drop_take (size j) (size j) (drop (q * size (suc j)) m)
      ∙ ap (take (size j)) (drop-drop (size j) (q * size (suc j)) m)
      ∙ ap (λ (n : ℕ). take (size j) (drop n m)) (sym (high_place j q))

  -- the tree that a part tells
  abbrev tells : ℕ → ℕ → Tree
  tells j q = told j (piece j q)

  tells_halves : (j q : ℕ) → is_tag (suc j) (get_or m (q * size (suc j)) 0) ≡ false → tells (suc j) q ≡ Halves (tells j (q + q)) (tells j (q + q + 1))
  unfolding halved
  tells_halves j q h =
      told_halved (suc j) (piece (suc j) q) (ap (is_tag (suc j)) (piece_first (suc j) q) ∙ h)
      ∙ ap₂ (λ (xs ys : List ℕ). Halves (told j xs) (told j ys)) (low_piece j q) (high_piece j q)

  -- one block is passed
  block_passed : (j q x : ℕ) {s r : ℕ} → q * size j < length m → get_or m (q * size j) 0 ≡ x → tag_level x ≡ j → starts_block k (q * size j) m ≡ true
      → Adds k m (q * size j + size j) (s + 1) r → Adds k m (q * size j) s r
  block_passed j q x {s} {r} inside e level starts more =
      passes inside starts (subst (λ (y : ℕ). Adds k m (q * size j + size (tag_level y)) (s + 1) r) (sym e) (rw level more))

  module _ (j q : ℕ) (low : j ≤ k) (inside : q * size j < length m) where
    abbrev first : ℕ
    first = get_or m (q * size j) 0

    free_tree : first ≡ free_tag j → tells j q ≡ Free
    free_tree e = told_free j (piece j q) (piece_first j q ∙ e)

    live_tree : first ≡ live_tag_of j → tells j q ≡ Live
    live_tree e = told_live j (piece j q) (piece_first j q ∙ e)

    -- a part that is one block is passed, a halved one is left to its halves
    pass_step : {s r : ℕ} → (q % 2 ≡ 1 → first ≡ free_tag j → get_or m (q * size j - size j) 0 ≡ free_tag j → ⊥)
        → Adds k m (q * size j + size j) (s + marks (written j (tells j q))) r
        → (is_tag j first ≡ false → Adds k m (q * size j) s r) → Adds k m (q * size j) s r
    unfolding is_tag
    pass_step {s} {r} apart more halves =
        by_eqb (λ t. ((t || eqb first (live_tag_of j)) ≡ false → Adds k m (q * size j) s r) → Adds k m (q * size j) s r) first (free_tag j)
        (λ e _. block_passed j q (free_tag j) inside e (level_free j) (free_starts j q low e (λ o. apart o e))
        (subst (λ (n : ℕ). Adds k m (q * size j + size j) (s + n) r) (ap (λ (t : Tree). marks (written j t)) (free_tree e)
        ∙ unfold written marks mark free_tag live_tag_of in rw marks_zeros (omega arith)) more))
        (λ f other.
        by_eqb (λ t. (t ≡ false → Adds k m (q * size j) s r) → Adds k m (q * size j) s r) first (live_tag_of j)
        (λ e _. block_passed j q (live_tag_of j) inside e (level_live j) (live_starts j q low e)
        (subst (λ (n : ℕ). Adds k m (q * size j + size j) (s + n) r) (ap (λ (t : Tree). marks (written j t)) (live_tree e)
        ∙ unfold written marks mark free_tag live_tag_of in rw marks_zeros (omega arith)) more))
        (λ g neither. neither refl) other)
        halves

  even : (q : ℕ) → (q + q) % 2 ≡ 1 → ⊥
  even q e = omega arith

  odd : (q : ℕ) → (q + q + 1) % 2 ≡ 1
  odd q = omega arith

  low_of : (j q : ℕ) → (q + q + 1) * size j - size j ≡ (q + q) * size j
  low_of j q = omega arith

  -- the low half ends where the high one starts
  next_place : (j q : ℕ) → (q + q) * size j + size j ≡ (q + q + 1) * size j
  next_place j q = omega arith

  end_place : (j q : ℕ) → (q + q + 1) * size j + size j ≡ q * size (suc j) + size (suc j)
  end_place j q = rw size_suc (omega arith)

  -- a free block tells itself by its first byte
  free_first : (j q : ℕ) → is_free (tells j q) ≡ eqb (get_or m (q * size j) 0) (free_tag j)
  free_first j q = free_told j (piece j q) ∙ ap (λ (x : ℕ). eqb x (free_tag j)) (piece_first j q)

  -- so canonical halves are not both free
  not_both : (j q : ℕ) → not (is_free (tells j (q + q)) && is_free (tells j (q + q + 1))) ≡ true
      → get_or m ((q + q) * size j) 0 ≡ free_tag j → get_or m ((q + q + 1) * size j) 0 ≡ free_tag j → ⊥
  not_both j q h low high =
      let both : (is_free (tells j (q + q)) && is_free (tells j (q + q + 1))) ≡ true
      = rw (
        free_first j (q + q),
        free_first j (q + q + 1),
        eq-eqb (get_or m ((q + q) * size j) 0) (free_tag j) low,
        eq-eqb (get_or m ((q + q + 1) * size j) 0) (free_tag j) high,
      ) in
      let z : ◌≡◌ {A = ℕ} 0 1 = unlike' (sym (ap not both) ∙ h) in omega arith
    where
      unlike' : false ≡ true → ◌≡◌ {A = ℕ} 0 1
      unlike' e = cc

  -- a canonical part is passed with its blocks
  passed : (j q : ℕ) {s r : ℕ} → j ≤ k → q * size j + size j ≤ length m → canonical j (tells j q) ≡ true
      → (q % 2 ≡ 1 → get_or m (q * size j) 0 ≡ free_tag j → get_or m (q * size j - size j) 0 ≡ free_tag j → ⊥)
      → Adds k m (q * size j + size j) (s + marks (written j (tells j q))) r → Adds k m (q * size j) s r
  passed zero q low inside whole apart more =
      pass_step zero q low (omega (arith, size_pos zero)) apart more
      (λ h. absurd (unlike (ap (canonical 0) (told_halved 0 (piece 0 q) (ap (is_tag 0) (piece_first 0 q) ∙ h)) ∙ unfold canonical halved in refl) whole))
  passed (suc j) q {s} {r} low inside whole apart more =
      pass_step (suc j) q low (omega (arith, size_pos (suc j))) apart more
      (λ h.
      let halves = tells_halves j q h in
      let parts = canonical_halves j (tells j (q + q)) (tells j (q + q + 1)) (ap (canonical (suc j)) (sym halves) ∙ whole) in
      let end = end_place j q in
      let next = next_place j q in
      let blocks-of : s + marks (written (suc j) (tells (suc j) q)) ≡ s + marks (written j (tells j (q + q))) + marks (written j (tells j (q + q + 1)))
      = ap (λ (t : Tree). s + marks (written (suc j) t)) halves ∙ (unfold written in rw marks_append (omega arith)) in
      let last = subst (λ (n : ℕ). Adds k m n (s + marks (written j (tells j (q + q))) + marks (written j (tells j (q + q + 1)))) r) (sym end)
      (subst (λ (n : ℕ). Adds k m (q * size (suc j) + size (suc j)) n r) blocks-of more) in
      let high = passed j (q + q + 1) (omega arith) (omega arith) parts.1
      (λ o here before. not_both j q parts.2 (ap (λ (n : ℕ). get_or m n 0) (sym (low_of j q)) ∙ before) here) last in
      subst (λ (n : ℕ). Adds k m n s r) (low_place j q)
      (passed j (q + q) (omega arith) (omega arith) parts.0 (λ o. absurd (even q o))
      (subst (λ (n : ℕ). Adds k m n (s + marks (written j (tells j (q + q)))) r) (sym next) high)))

  -- a tag first tells one block, which is canonical
  tag_whole : (j q : ℕ) → canonical j (tells j q) ≡ false → is_tag j (get_or m (q * size j) 0) ≡ false
  unfolding is_tag
  tag_whole j q h =
      by_eqb (λ t. (t || eqb (get_or m (q * size j) 0) (live_tag_of j)) ≡ false) (get_or m (q * size j) 0) (free_tag j)
      (λ e. absurd (unlike h (rw (told_free j (piece j q) (piece_first j q ∙ e)) (unfold canonical in refl))))
      (λ f. ne_eqb (get_or m (q * size j) 0) (live_tag_of j) (λ e. unlike h (rw (told_live j (piece j q) (piece_first j q ∙ e)) (unfold canonical in refl))))

  -- what is no tag of a level and not above it is below it
  tag_below : (j x : ℕ) → is_tag (suc j) x ≡ false → x ≤ live_tag_of (suc j) → x ≤ live_tag_of j
  tag_below j x h l = let (f, g) = no_tag (suc j) x h in unfold free_tag live_tag_of in omega arith

  tag_none : (x : ℕ) → is_tag 0 x ≡ false → x ≤ live_tag_of 0 → x ≡ 0
  tag_none x h l = let (f, g) = no_tag 0 x h in unfold free_tag live_tag_of in omega arith

  -- a high half that is not canonical, or free beside a free one, ends the count
  high_stopped : (j q : ℕ) {s : ℕ} → (q + q + 1) * size j + size j ≤ length m
      → (canonical j (tells j (q + q + 1)) && not (is_free (tells j (q + q)) && is_free (tells j (q + q + 1)))) ≡ false
      → (get_or m ((q + q + 1) * size j) 0 ≤ live_tag_of j → canonical j (tells j (q + q + 1)) ≡ false → Adds k m ((q + q + 1) * size j) s 0)
      → Adds k m ((q + q + 1) * size j) s 0
  high_stopped j q {s} fits rest broken =
      let l = tells j (q + q) in
      let r = tells j (q + q + 1) in
      let i = (q + q + 1) * size j in
      let inside : i < length m = omega (arith, size_pos j) in
      by_leb (λ _. Adds k m i s 0) (get_or m i 0) (live_tag_of j)
      (λ below.
      by_test (λ t. canonical j r ≡ t → (t && not (is_free l && is_free r)) ≡ false → Adds k m i s 0) (canonical j r)
      (λ _ whole both.
      let (low, high) = both_free both in
      stops inside (rest_stops j (q + q + 1) high (odd q) (ap (λ (n : ℕ). get_or m n 0) (low_of j q) ∙ low)))
      (λ _ bad _. broken below bad)
      refl rest)
      (λ above. stops inside (odd_stops j (q + q + 1) (odd q) above))
    where
      both_free : not (is_free (tells j (q + q)) && is_free (tells j (q + q + 1))) ≡ false
          → (get_or m ((q + q) * size j) 0 ≡ free_tag j) × (get_or m ((q + q + 1) * size j) 0 ≡ free_tag j)
      both_free =
          rw (free_first j (q + q), free_first j (q + q + 1))
          (by_eqb (λ t. not (t && eqb (get_or m ((q + q + 1) * size j) 0) (free_tag j)) ≡ false → (get_or m ((q + q) * size j) 0 ≡ free_tag j)
          × (get_or m ((q + q + 1) * size j) 0 ≡ free_tag j))
          (get_or m ((q + q) * size j) 0) (free_tag j)
          (λ e. by_eqb (λ t. not t ≡ false → (get_or m ((q + q) * size j) 0 ≡ free_tag j) × (get_or m ((q + q + 1) * size j) 0 ≡ free_tag j))
          (get_or m ((q + q + 1) * size j) 0) (free_tag j)
          (λ f _. (e, f)) (λ f h. absurd (unlike h refl)))
          (λ e h. absurd (unlike h refl)))

  -- a part that is not canonical ends the count
  stopped : (j q : ℕ) {s : ℕ} → j ≤ k → q * size j + size j ≤ length m → get_or m (q * size j) 0 ≤ live_tag_of j → canonical j (tells j q) ≡ false
      → Adds k m (q * size j) s 0
  unfolding canonical
  stopped zero q low inside below broken =
      let start : q * size 0 < length m = omega (arith, size_pos zero) in
      stops start (zero_stops (q * size 0) (tag_none (get_or m (q * size 0) 0) (tag_whole 0 q broken) below))
  stopped (suc j) q {s} low inside below broken =
      let no_block = tag_whole (suc j) q broken in
      let halves = tells_halves j q no_block in
      let l = tells j (q + q) in
      let r = tells j (q + q + 1) in
      let place = low_place j q in
      let end = end_place j q in
      let next = next_place j q in
      let small : get_or m ((q + q) * size j) 0 ≤ live_tag_of j = rw place (tag_below j (get_or m (q * size (suc j)) 0) no_block below) in
      let tests : ((canonical j l && canonical j r) && not (is_free l && is_free r)) ≡ false = ap (canonical (suc j)) (sym halves) ∙ broken in
      subst (λ (n : ℕ). Adds k m n s 0) place
      (by_test (λ t. canonical j l ≡ t → ((t && canonical j r) && not (is_free l && is_free r)) ≡ false → Adds k m ((q + q) * size j) s 0) (canonical j l)
      (λ _ whole rest.
      passed j (q + q) (omega arith) (omega arith) whole (λ o. absurd (even q o))
      (subst (λ (n : ℕ). Adds k m n (s + marks (written j l)) 0) (sym next)
      (high_stopped j q (omega arith) rest (stopped j (q + q + 1) (omega arith) (omega arith)))))
      (λ _ bad rest. stopped j (q + q) (omega arith) (omega arith) small bad)
      refl tests)

  -- so counting from the first place on gives the blocks of the tree
  pub adds_all : length m ≡ size k → Adds k m 0 0 (counted k m)
  unfolding counted
  adds_all long =
      let none : 0 * size k ≡ 0 = omega arith in
      let whole : piece k 0 ≡ m = ap (λ (n : ℕ). take (size k) (drop n m)) none ∙ take_all (size k) m (omega arith) in
      let here = ap (told k) whole in
      let fits : 0 * size k + size k ≤ length m = omega arith in
      let inside : 0 < length m = omega (arith, size_pos k) in
      by_test (λ t. canonical k (told k m) ≡ t → Adds k m 0 0 (cond t (marks (written k (told k m))) 0)) (canonical k (told k m))
      (λ _ h.
      let sum : 0 + marks (written k (told k m)) ≡ marks (written k (told k m)) = omega arith in
      let past : length m ≤ 0 * size k + size k = omega arith in
      let done : Adds k m (0 * size k + size k) (0 + marks (written k (tells k 0))) (marks (written k (told k m)))
      = rw (here, sum) (ends past) in
      subst (λ (n : ℕ). Adds k m n 0 (marks (written k (told k m)))) none (passed k 0 (omega arith) fits (ap (canonical k) here
      ∙ h) (λ o. absurd (omega arith)) done))
      (λ _ h.
      by_leb (λ _. Adds k m 0 0 0) (get_or m 0 0) (live_tag_of k)
      (λ below. subst (λ (n : ℕ). Adds k m n 0 0) none (stopped k 0 (omega arith) fits (rw none below) (ap (canonical k) here ∙ h)))
      (λ above. stops inside (above_stops 0 above)))
      refl

-- a block that starts, of a tree of 128 words at most: its tag is 1 to 16, and its size at most 128
pub record Tagged (k i : ℕ) (m : List ℕ) : Type 0 where
  pub starts : starts_block k i m ≡ true
  pub some : 0 < get_or m i 0
  pub most : get_or m i 0 ≤ 16
  pub level : (get_or m i 0 - 1) / 2 ≤ 7
  pub positive : 0 < size ((get_or m i 0 - 1) / 2)
  pub small : size ((get_or m i 0 - 1) / 2) ≤ 128

pub tagged : (k i : ℕ) (m : List ℕ) → k ≤ 7 → starts_block k i m ≡ true → Tagged k i m
unfolding live_tag_of
tagged k i m h e =
    let (some, most) = starts_tag k m i e in
    let level : (get_or m i 0 - 1) / 2 ≤ 7 = omega arith in
    record { starts = e; some = some; most = omega arith; level = level; positive = size_pos _; small = size_small _ level }
