-- Bytes of a group that are saved eight at a time, and words that are loaded by eight bits at a time. Assumes nothing.
use Prim.Native.Nat.{ℕ, zero, suc, ◌+◌, ◌-◌, ◌*◌, ◌/◌, ◌%◌, ◌^◌, ◌≤◌, ◌<◌}
use native.Mathlib.Nat.{pow-suc, pow-succ', lt_of_lt_of_le, div-div-eq-div-mul, mul-le-mul_left}
use native.Mathlib.Omega.{arith}
use mathlib.Core.Bool.{true}
use mathlib.Core.List.{List, [], ◌∷◌, ◌++◌}
use mathlib.Core.Path.{◌≡◌, refl, sym, ap, ap₂, ◌∙◌}
use borrow.Author.Tests.{ltb-true}
use lib.Dec.{ltb}
use lib.ListN.{length, get_or, take, drop, replicate, length-take, length-drop, get_or-replicate}
use lib.Pow.{pow-add, pow_pos, pow_mono, shr-shr, field, mod-mod-pow}
use lib.Seq.{ext_get_or, get_or-take, get_or-drop, take-add, drop-drop, sets}
use Rattle.word.proofs.Tests.{and_true}
use Rattle.character.specs.Character.{number}
use Rattle.columns.specs.Columns.{bits_at, turned, turned_groups, groups_of, filled_up, saved, each_below}
use Rattle.columns.specs.Packing.{unpacked, packed_turned, octets, longer}
use Rattle.columns.proofs.Turning.{length_turned, turned_below, length_groups}
use Rattle.columns.proofs.Bits.{turned_at, groups_at}
use Rattle.columns.proofs.Packing.{length_unpacked, unpacked_at, length_longer, longer_at, length_octets, bits_small}
use Rattle.columns.proofs.Packing.{packed_at, bytes_less}
use Rattle.columns.proofs.Writing.{sets_more}

-- a bit of a byte of a number is a bit of the number
low_bit : (y k : ℕ) → k < 8 → y % 256 / 2 ^ k % 2 ≡ y / 2 ^ k % 2
low_bit y k h =
    let e : 8 ≡ 7 - k + 1 + k = omega arith in
    ap (λ (i : ℕ). y % 2 ^ i / 2 ^ k % 2) e ∙ ap (λ (i : ℕ). i % 2) (field y (7 - k + 1) k) ∙ mod-mod-pow (y / 2 ^ k) (7 - k) 1

octet_bits : (right j b q : ℕ) (ws : List ℕ) → j < 8 → right + (8 - suc j) ≡ b - suc q → bits_at 8 j (octets right ws) ≡ bits_at b q ws
unfolding bits_at octets
octet_bits right j b q [] h e = refl
octet_bits right j b q (w ∷ ws) h e =
    ap₂ (λ (x : ℕ) (l : List ℕ). x ∷ l)
    (low_bit (w / 2 ^ right) (8 - suc j) (omega arith) ∙ ap (λ (k : ℕ). k % 2) (shr-shr w right (8 - suc j)) ∙ ap (λ (k : ℕ). w / 2 ^ k % 2) e)
    (octet_bits right j b q ws h e)

-- n bytes from place p on are those of n bits of the words
module _ (b p n right : ℕ) (ws : List ℕ) (eight : length ws ≡ 8) (few : n ≤ 8) (places : right + n + p ≡ b) where
  abbrev all : ℕ
  all = packed_turned (octets right ws)

  byte : (i : ℕ) → i < n → all / 256 ^ (8 - n) / 256 ^ i % 256 ≡ get_or (turned b ws) (p + i) 0
  unfolding packed_turned
  byte i h =
      ap (λ (k : ℕ). k % 256) (div-div-eq-div-mul all (256 ^ (8 - n)) (256 ^ i))
      ∙ ap (λ (k : ℕ). all / k % 256) (sym (pow-add 256 (8 - n) i))
      ∙ packed_at 8 (λ (j : ℕ). number 2 0 (bits_at 8 j (octets right ws)))
      (λ j. bits_small 8 j (octets right ws) (omega (arith, length_octets right ws))) (8 - n + i) (omega arith)
      ∙ ap (number 2 0) (octet_bits right (8 - n + i) b (p + i) ws (omega arith) (omega arith))
      ∙ sym (turned_at b (p + i) ws (omega arith))

  pub part_turned : unpacked n (all / 256 ^ (8 - n)) ≡ take n (drop p (turned b ws))
  part_turned =
      ext_get_or 0 (unpacked n (all / 256 ^ (8 - n))) (take n (drop p (turned b ws)))
      (length_unpacked n _ ∙ simp (length-take, length-drop) (omega (arith, length_turned b ws)))
      (λ i h. let more : i < n = omega (arith, length_unpacked n (all / 256 ^ (8 - n))) in
      unpacked_at n (all / 256 ^ (8 - n)) i more ∙ byte i more ∙ sym (rw (get_or-take, get_or-drop)))

-- the eight at once, and the first few
eight_turned : (b p : ℕ) (ws : List ℕ) → length ws ≡ 8 → p + 8 ≤ b → unpacked 8 (packed_turned (octets (b - p - 8) ws)) ≡ take 8 (drop p (turned b ws))
eight_turned b p ws eight inside =
    let whole : packed_turned (octets (b - p - 8) ws) ≡ packed_turned (octets (b - p - 8) ws) / 256 ^ (8 - 8) = omega arith in
    ap (unpacked 8) whole ∙ part_turned b p 8 (b - p - 8) ws eight (omega arith) (omega arith)

pub eight_put : (b p to : ℕ) (ws l : List ℕ) → length ws ≡ 8 → p + 8 ≤ b → {o : List ℕ} → o ≡ sets l to (take p (turned b ws))
    → sets o (to + p) (unpacked 8 (packed_turned (octets (b - p - 8) ws))) ≡ sets l to (take (p + 8) (turned b ws))
eight_put b p to ws l eight inside is =
    ap₂ (λ (r xs : List ℕ). sets r (to + p) xs) is (eight_turned b p ws eight inside) ∙ sets_more p 8 to (turned b ws) l

powers : (k : ℕ) → 2 ^ (8 * k) ≡ 256 ^ k
powers zero = refl
powers (suc k) =
    let e : 8 * suc k ≡ 8 + 8 * k = omega arith in
    ap (λ (i : ℕ). 2 ^ i) e ∙ pow-add 2 8 (8 * k) ∙ ap (λ (i : ℕ). 256 * i) (powers k) ∙ sym (pow-succ' 256 k)

pub first_turned : (b n : ℕ) (ws : List ℕ) → length ws ≡ 8 → n < 8 → n ≤ b
    → unpacked n (packed_turned (octets (b - n) ws) / 256 / 2 ^ (56 - 8 * n)) ≡ take n (turned b ws)
first_turned b n ws eight few inside =
    let all = packed_turned (octets (b - n) ws) in
    let places : 56 - 8 * n ≡ 8 * (7 - n) = omega arith in
    let bytes : suc (7 - n) ≡ 8 - n = omega arith in
    ap (unpacked n)
    (ap (λ (k : ℕ). all / 256 / 2 ^ k) places
    ∙ ap (λ (k : ℕ). all / 256 / k) (powers (7 - n))
    ∙ bytes_less all (7 - n)
    ∙ ap (λ (k : ℕ). all / 256 ^ k) bytes)
    ∙ part_turned b 0 n (b - n) ws eight (omega arith) (omega arith)

-- eight bits more of each word
longer_is : (ws ys zs : List ℕ) → length ws ≡ 8 → length ys ≤ 8
    → ((i : ℕ) → i < 8 → get_or ws i 0 * 256 + number 2 0 (bits_at 8 i ys) ≡ number 2 0 (bits_at 8 i zs))
    → longer ws (packed_turned ys) ≡ turned 8 zs
unfolding packed_turned
longer_is ws ys zs eight few same =
    ext_get_or 0 (longer ws (packed_turned ys)) (turned 8 zs) (length_longer ws _ ∙ eight ∙ sym (length_turned 8 zs))
    (λ i h. let more : i < 8 = omega (arith, length_longer ws (packed_turned ys)) in
    longer_at ws (packed_turned ys) i (omega arith)
    ∙ ap (λ (k : ℕ). get_or ws i 0 * 256 + k) (packed_at 8 (λ (j : ℕ). number 2 0 (bits_at 8 j ys)) (λ j. bits_small 8 j ys few) i more)
    ∙ same i more
    ∙ sym (turned_at 8 i zs more))

pub first_longer : (ys : List ℕ) → length ys ≤ 8 → longer (replicate 8 0) (packed_turned ys) ≡ turned 8 ys
first_longer ys few =
    longer_is (replicate 8 0) ys ys refl few (λ i h. ap (λ (k : ℕ). k * 256 + number 2 0 (bits_at 8 i ys)) (get_or-replicate 8 i 0 0 h) ∙ omega arith)

-- a number with bits after it
bits_append : (n p m : ℕ) (xs ys : List ℕ) → number 2 m (bits_at n p (xs ++ ys)) ≡ number 2 (number 2 m (bits_at n p xs)) (bits_at n p ys)
unfolding bits_at number
bits_append n p m [] ys = refl
bits_append n p m (x ∷ xs) ys = bits_append n p (m * 2 + x / 2 ^ (n - suc p) % 2) xs ys

bits_after : (n p m : ℕ) (ys : List ℕ) → number 2 m (bits_at n p ys) ≡ m * 2 ^ length ys + number 2 0 (bits_at n p ys)
unfolding bits_at number
bits_after n p m [] = omega arith
bits_after n p m (y ∷ ys) =
    let bit = y / 2 ^ (n - suc p) % 2 in
    rw (pow-suc 2 (length ys)) (omega (arith, bits_after n p (m * 2 + bit) ys, bits_after n p (0 * 2 + bit) ys))

more_longer : (xs ys : List ℕ) → length ys ≡ 8 → longer (turned 8 xs) (packed_turned ys) ≡ turned 8 (xs ++ ys)
more_longer xs ys eight =
    longer_is (turned 8 xs) ys (xs ++ ys) (length_turned 8 xs) (omega arith) (λ i h.
    ap (λ (k : ℕ). k * 256 + number 2 0 (bits_at 8 i ys)) (turned_at 8 i xs h)
    ∙ ap (λ (k : ℕ). number 2 0 (bits_at 8 i xs) * 2 ^ k + number 2 0 (bits_at 8 i ys)) (sym eight)
    ∙ sym (bits_after 8 i (number 2 0 (bits_at 8 i xs)) ys)
    ∙ sym (bits_append 8 i 0 xs ys))

-- eight bits more by the bytes at place p of those from a place on
pub eight_longer : (bytes : List ℕ) (at p : ℕ) → at + p + 8 ≤ length bytes → {group : List ℕ} → group ≡ turned 8 (take p (drop at bytes))
    → longer group (packed_turned (take 8 (drop (at + p) bytes))) ≡ turned 8 (take (p + 8) (drop at bytes))
eight_longer bytes at p inside is =
    let part = take 8 (drop (at + p) bytes) in
    ap (λ (g : List ℕ). longer g (packed_turned part)) is
    ∙ more_longer (take p (drop at bytes)) part (simp (length-take, length-drop) (omega arith))
    ∙ ap (turned 8) (sym (take-add p 8 (drop at bytes) ∙ ap (λ (r : List ℕ). take p (drop at bytes) ++ take 8 r) (drop-drop p at bytes)))

-- turned numbers have as many bits as there were numbers
each_at : (bound : ℕ) (xs : List ℕ) → each_below bound xs ≡ true → 0 < bound → (i : ℕ) → get_or xs i 0 < bound
unfolding each_below
each_at bound [] all pos i = pos
each_at bound (x ∷ xs) all pos zero = ltb-true x bound (and_true (ltb x bound) _ all).0
each_at bound (x ∷ xs) all pos (suc i) = each_at bound xs (and_true (ltb x bound) _ all).1 pos i

pub turned_small : (n : ℕ) (xs : List ℕ) (m : ℕ) → length xs ≤ m → (i : ℕ) → get_or (turned n xs) i 0 < 2 ^ m
turned_small n xs m few i =
    lt_of_lt_of_le (each_at (2 ^ length xs) (turned n xs) (turned_below n xs) (pow_pos (length xs)) i) (pow_mono {i = length xs} {j = m} few)

pub zeros_small : (i : ℕ) → get_or (replicate 8 0) i 0 < 2 ^ 48
unfolding each_below
zeros_small i = each_at (2 ^ 48) (replicate 8 0) refl (omega arith) i

-- group k of all
pub group_of : (n m groups k : ℕ) (xs : List ℕ) → k < groups → take n (drop (n * k) (turned_groups n m groups xs)) ≡ turned n (take m (drop (m * k) xs))
group_of n m groups k xs inside =
    let all = turned_groups n m groups xs in
    let most = mul-le-mul_left {m = suc k} {n = groups} n inside in
    ext_get_or 0 (take n (drop (n * k) all)) (turned n (take m (drop (m * k) xs)))
    (simp (length-take, length-drop) (omega (arith, length_groups n m groups xs, length_turned n (take m (drop (m * k) xs)))))
    (λ i h. let more : i < n = omega (arith, length-take n (drop (n * k) all)) in
    rw (get_or-take, get_or-drop) (groups_at n m k groups i xs inside more))

pub saved_group : (b : ℕ) (ws : List ℕ) (k : ℕ) → k < groups_of (length ws) → take b (drop (b * k) (saved b ws)) ≡ turned b (take 8 (drop (8 * k) (filled_up ws)))
unfolding saved
saved_group b ws k inside = group_of b 8 (groups_of (length ws)) k (filled_up ws) inside
