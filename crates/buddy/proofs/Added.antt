-- More words after those set up, as code judges the new last address and writes the free blocks into the bytes past the words.
-- Assumes nothing.
use Rattle.std.proofs.Common.{◌≡◌, ℕ, suc, ◌+◌, ◌-◌, ◌*◌, ◌/◌, ◌%◌, ◌<◌, ◌≤◌, true, false, ◌&&◌, eqb, ltb, leb, List, [], ◌++◌, length, take, drop, replicate, sym, refl, ap, ◌∙◌, append_assoc, append-nil, arith, length-drop, drop_of_length-le, take_at, drop_at, ltb-true, ne_eqb, leb-true}
use Rattle.word.proofs.Tests.{and_true, and_false, by_test}
use Rattle.block.specs.declared.SetUp.{SetUp}
use Rattle.block.specs.Blocks.{size, Free}
use Rattle.block.specs.SetUp.{top, words, fitting}
use Rattle.block.specs.Map.{all_written, trees, map_of, keeps}
use Rattle.block.specs.Extension.{extended_to, extending, extended_map}
use Rattle.block.proofs.Change.{words_whole}
use Rattle.block.proofs.Extension.{written_append, extended_words, added_fill}
use Rattle.block.proofs.Map.{keeps_parts, length_all_written, trees_fill}
use Rattle.buddy.proofs.Halves.{upper}

module _ (lent last : ℕ) (u : SetUp) where
  -- an address that is not later, or too large
  pub not_later : (ltb u.s2 last && leb last 32767) ≡ false → false ≡ extending lent last u
  unfolding extending
  not_later h =
      by_test (λ t. (t && leb last 32767) ≡ false
      → false ≡ (t && eqb ((last - u.s2) % u.d) 0 && leb last 32767 && leb (words (extended_to last u)) 4096 && leb (words (extended_to last u)) lent))
      (ltb u.s2 last) (λ t large. rw (large, and_false)) (λ t large. refl) h

  -- what is known of one that is later
  pub later_order : (ltb u.s2 last && leb last 32767) ≡ true → (u.s2 < last) × (last ≤ 32767)
  later_order h = let (later, small) = and_true _ _ h in (ltb-true _ _ later, leb-true _ _ small)

  -- the rest is judged by the words
  pub later_judged : 0 < u.d → (ltb u.s2 last && leb last 32767) ≡ true → (w : ℕ) → w ≡ suc last - u.s1
      → (eqb ((last - u.s2) % u.d) 0 && leb w 4096 && leb w lent) ≡ extending lent last u
  unfolding extending words extended_to
  later_judged some h w is =
      let (later, small) = and_true (ltb u.s2 last) (leb last 32767) h in
      rw (is, later, small, ne_eqb u.d 0 (λ z. absurd (omega arith)))
      (by_test (λ t. (t && leb (suc last - u.s1) 4096 && leb (suc last - u.s1) lent)
      ≡ (t && true && leb (suc last - u.s1) 4096 && leb (suc last - u.s1) lent)) (eqb ((last - u.s2) % u.d) 0) (λ t. refl) (λ t. refl))

module _ (u : SetUp) (last : ℕ) (m : List ℕ) (taken : (lent : ℕ) × (fitting lent u ≡ true) × (extending lent last u ≡ true)) (kept : keeps u m ≡ true)
    (room : words (extended_to last u) ≤ length m) (k n w : ℕ) (ek : k ≡ top u.d) (en : n ≡ size k) (ew : w ≡ words u) where
  abbrev before : List ℕ
  before = all_written (top u.d) (trees u m)

  abbrev added : ℕ
  added = last - u.s2

  before_long : length before ≡ w
  before_long = rw (ew, length_all_written (top u.d) (trees u m)) (trees_fill u m (words_whole taken.0 u taken.1))

  parts : before ++ replicate (length m - words u) 0 ≡ m
  unfolding map_of
  parts = (keeps_parts u m kept).1

  -- the trees stand before the part, which is zero
  trees_before : take w m ≡ before
  trees_before = ap (take w) (sym parts) ∙ take_at before _ w before_long

  zeros_past : drop w m ≡ replicate (length m - words u) 0
  zeros_past = ap (drop w) (sym parts) ∙ drop_at before _ w before_long

  all_words : words (extended_to last u) ≡ words u + added
  all_words = extended_words taken.0 taken.0 last u taken.1 taken.2

  fill : added / n * size k ≡ added
  fill = rw (en, ek) (added_fill taken.0 taken.0 last u taken.1 taken.2)

  pub words_room : w ≤ length m
  words_room = omega (arith, all_words)

  part_long : length (take (length m - w) (drop w m)) ≡ length m - w
  part_long = rw (upper w m, length-drop)

  pub count_room : added / n * size k ≤ length (take (length m - w) (drop w m))
  count_room = omega (arith, fill, all_words, part_long)

  pub part_zeros : take (length m - w) (drop w m) ≡ replicate (length (take (length m - w) (drop w m))) 0
  part_zeros =
      let long : length m - words u ≡ length (take (length m - w) (drop w m)) = omega (arith, part_long) in
      upper w m ∙ zeros_past ∙ ap (λ (i : ℕ). replicate i 0) long

  -- the free blocks written into the part
  pub added_map : (ys : List ℕ)
      → ys ≡ all_written k (replicate (added / n) Free) ++ replicate (length (take (length m - w) (drop w m)) - added / n * size k) 0
      → take w m ++ (ys ++ drop (length m - w) (drop w m)) ≡ extended_map last u m
  unfolding extended_map map_of extended_to
  added_map ys made =
      let rest : drop (length m - w) (drop w m) ≡ [] = drop_of_length-le (drop w m) {i = length m - w} (rw length-drop (omega arith)) in
      let zeros : length (take (length m - w) (drop w m)) - added / n * size k ≡ length m - words (extended_to last u) = omega (
        arith,
        fill,
        all_words,
        part_long,
      ) in
      rw (rest, append-nil, trees_before, made, zeros, written_append (top u.d) (trees u m) _)
      (rw (en, ek) (sym (append_assoc before _ _)))
