-- Trees that are one block each, told by the bytes where they start: one tree, and those of a part of 128 bytes. Assumes nothing.
use Rattle.std.proofs.Common.{◌≡◌, ℕ, suc, ◌+◌, ◌-◌, ◌*◌, ◌/◌, ◌%◌, ◌<◌, ◌≤◌, Bool, true, false, ◌||◌, eqb, ltb, List, get_or, take, drop, sym, refl, ap, ◌∙◌, subst, mul-le-mul_right, div-add-mod', arith, get_or-drop, get_or-take, ltb-true, lt-ltb, eq-eqb}
use native.Mathlib.Nat.{mul-mod_left}
use lib.Bits.{bit_or}
use Rattle.word.proofs.Bitwise.{or_below}
use Rattle.word.proofs.Tests.{and_true, by_leb}
use Rattle.block.specs.Blocks.{size}
use Rattle.block.specs.Map.{free_tag, live_tag_of}
use Rattle.block.proofs.Size.{size_pos}
use Rattle.buddy.specs.Marks.{is_tag, TagsAt, WholeTrees}

-- a byte that is 0 or 1 more than the tag of a free block is the tag of a free or a live one
second_true : (t : Bool) → (t || true) ≡ true
second_true true = refl
second_true false = refl

pub near_tag : (k x r free : ℕ) → k ≤ 7 → free ≡ free_tag k → (r + free) % 256 ≡ x → r < 2 → is_tag k x ≡ true
unfolding is_tag free_tag live_tag_of
near_tag k x r free h is e l =
    by_leb (λ _. (eqb x (free_tag k) || eqb x (live_tag_of k)) ≡ true) 1 r
    (λ one. rw (eq-eqb x (live_tag_of k) (omega arith)) (second_true (eqb x (free_tag k)))) (λ none. rw (eq-eqb x (free_tag k) (omega arith)))

-- one byte more
pub tags_next : (k i n : ℕ) (m : List ℕ) (all r : ℕ) → n ≡ size k → (r < 2 → i % n ≡ 0 → is_tag k (get_or m i 0) ≡ true) → (all < 2 → TagsAt k m i)
    → bit_or all r < 2 → TagsAt k m (i + 1)
tags_next k i n m all r e here so_far h = λ t l starts.
    let (before, this) = and_true (ltb all 2) (ltb r 2) (sym (or_below 1 all r) ∙ lt-ltb (bit_or all r) 2 h) in
    by_leb (λ _. is_tag k (get_or m t 0) ≡ true) (suc t) i (λ less. so_far (ltb-true all 2 before) t (omega arith) starts)
    (λ more.
    let same : t ≡ i = omega arith in
    let begins : i % n ≡ 0 = ap (λ (x : ℕ). i % x) e ∙ ap (λ (x : ℕ). x % size k) (sym same) ∙ starts in
    subst (λ (x : ℕ). is_tag k (get_or m x 0) ≡ true) (sym same) (here (ltb-true r 2 this) begins))

-- no tree, one, and all of those in a part of 128 bytes
pub whole_none : (k : ℕ) (m : List ℕ) (end at : ℕ) → WholeTrees k m end at 0
whole_none k m end at = record { within = λ t h. absurd (omega arith); whole = λ t h. absurd (omega arith) }

module _ (k : ℕ) (m : List ℕ) (end at : ℕ) where
  pub whole_one : at < end → is_tag k (get_or m at 0) ≡ true → WholeTrees k m end at 1
  whole_one h tag =
      let here : (t : ℕ) → t < 1 → at + t * size k ≡ at = λ t l. (let none : t ≡ 0 = omega arith in rw none (omega arith)) in
      record { within = λ t l. rw (here t l) h; whole = λ t l. rw (here t l) tag }

  pub whole_part : (n : ℕ) → n ≡ size k → at + 128 ≤ end → TagsAt k (take (at + 128 - at) (drop at m)) 128 → WholeTrees k m end at (128 / n)
  whole_part n e h tags =
      let room : (t : ℕ) → t < 128 / n → t * size k < 128
      = λ t l. (let most = mul-le-mul_right {m = suc t} {n = 128 / n} n (omega arith) in
      let same : t * n ≡ t * size k = rw e refl in
      omega (arith, most, div-add-mod' 128 n, e, size_pos k, same)) in
      record {
        within = λ t l. omega (arith, room t l);
        whole = λ t l. (let there = room t l in
            let first : get_or (take (at + 128 - at) (drop at m)) (t * size k) 0 ≡ get_or m (at + t * size k) 0
            = get_or-take (at + 128 - at) (drop at m) (t * size k) 0 (omega arith) ∙ get_or-drop at m (t * size k) 0 in
            rw first at (tags (t * size k) there (mul-mod_left t (size k))));
      }
