-- Eight bits of eight numbers turned at once: a byte's bits are spread over eight bytes, which are added up byte by byte. Assumes nothing.
use Prim.Native.Nat.{ℕ, zero, suc, ◌+◌, ◌-◌, ◌*◌, ◌/◌, ◌%◌, ◌^◌, ◌≤◌, ◌<◌}
use native.Mathlib.Nat.{pow-suc, pow-succ', lt_of_lt_of_le, div-div-eq-div-mul}
use native.Mathlib.Numerals.{add-one}
use native.Mathlib.Omega.{arith}
use mathlib.Core.Bool.{Bool, true}
use mathlib.Core.List.{List, [], ◌∷◌}
use mathlib.Core.Path.{◌≡◌, refl, sym, ap, ◌∙◌}
use borrow.Author.Tests.{lt-ltb}
use lib.Bits.{bit_and}
use lib.Dec.{eqb, eqb→eq}
use lib.ListN.{length, get_or, drop, replicate, drop_of_length-le}
use lib.Pow.{pow_mono}
use lib.Seq.{drop-cons}
use Rattle.character.specs.Character.{number, all_below}
use Rattle.character.proofs.RoundTrip.{number_lt}
use Rattle.character.proofs.Table.{at}
use Rattle.columns.specs.Columns.{bits_at}
use Rattle.columns.specs.Packing.{packed, unpacked, spread_of, packed_turned, octets, longer}

-- a one in each of eight bytes
abbrev pub ones : ℕ
ones = 72340172838076673

-- the bits of a byte spread by a multiplication and masks, tried at each byte
abbrev kept : ℕ → ℕ
kept x = bit_and (x * ones) 72624976668147840

abbrev right : ℕ → ℕ → Bool
right x y = eqb (bit_and ((kept x + 9187201950435737471) / 2 ^ 7) ones) (spread_of x)

pub spread_is : (x : ℕ) → x < 256 → bit_and ((kept x + 9187201950435737471) / 2 ^ 7) ones ≡ spread_of x
unfolding spread_of packed
spread_is x h = eqb→eq _ _ (at right (replicate 256 0) tt x h)

pub spread_small : (x : ℕ) → spread_of x ≤ ones
unfolding spread_of packed
spread_small x = omega arith

-- twice packed numbers and others, byte by byte
packed_double : (n : ℕ) (f g : ℕ → ℕ) → packed n f * 2 + packed n g ≡ packed n (λ j. f j * 2 + g j)
unfolding packed
packed_double zero f g = refl
packed_double (suc n) f g = omega (arith, packed_double n (λ (j : ℕ). f (suc j)) (λ (j : ℕ). g (suc j)))

-- a byte less
pub bytes_less : (x i : ℕ) → x / 256 / 256 ^ i ≡ x / 256 ^ suc i
bytes_less x i = div-div-eq-div-mul x 256 (256 ^ i) ∙ ap (λ (k : ℕ). x / k) (sym (pow-succ' 256 i))

pub bytes_next : (x i : ℕ) {rest : ℕ} → rest ≡ x / 256 ^ i → rest / 256 ≡ x / 256 ^ (i + 1)
bytes_next x i is =
    ap (λ (k : ℕ). k / 256) is
    ∙ div-div-eq-div-mul x (256 ^ i) 256
    ∙ ap (λ (k : ℕ). x / k) (sym (pow-suc 256 i))
    ∙ ap (λ (k : ℕ). x / 256 ^ k) (sym (add-one i))

-- packed numbers by their bytes
pub packed_at : (n : ℕ) (f : ℕ → ℕ) → ((j : ℕ) → f j < 256) → (i : ℕ) → i < n → packed n f / 256 ^ i % 256 ≡ f i
unfolding packed
packed_at zero f small i h = absurd (omega arith)
packed_at (suc n) f small zero h = let low = small 0 in omega arith
packed_at (suc n) f small (suc i) h =
    let low = small 0 in
    let others = packed n (λ (j : ℕ). f (suc j)) in
    let rest : (f 0 + 256 * others) / 256 ≡ others = omega arith in
    ap (λ (k : ℕ). k % 256) (sym (bytes_less (f 0 + 256 * others) i))
    ∙ ap (λ (k : ℕ). k / 256 ^ i % 256) rest
    ∙ packed_at n (λ (j : ℕ). f (suc j)) (λ j. small (suc j)) i (omega arith)

pub length_unpacked : (n x : ℕ) → length (unpacked n x) ≡ n
unfolding unpacked
length_unpacked zero x = refl
length_unpacked (suc n) x = ap suc (length_unpacked n (x / 256))

pub unpacked_at : (n x i : ℕ) → i < n → get_or (unpacked n x) i 0 ≡ x / 256 ^ i % 256
unfolding unpacked
unpacked_at zero x i h = absurd (omega arith)
unpacked_at (suc n) x zero h = omega arith
unpacked_at (suc n) x (suc i) h = unpacked_at n (x / 256) i (omega arith) ∙ ap (λ (k : ℕ). k % 256) (bytes_less x i)

pub length_longer : (ws : List ℕ) (x : ℕ) → length (longer ws x) ≡ length ws
unfolding longer
length_longer [] x = refl
length_longer (w ∷ ws) x = ap suc (length_longer ws (x / 256))

pub longer_at : (ws : List ℕ) (x i : ℕ) → i < length ws → get_or (longer ws x) i 0 ≡ get_or ws i 0 * 256 + x / 256 ^ i % 256
unfolding longer
longer_at [] x i h = absurd (omega arith)
longer_at (w ∷ ws) x zero h = omega arith
longer_at (w ∷ ws) x (suc i) h = longer_at ws (x / 256) i (omega arith) ∙ ap (λ (k : ℕ). get_or ws i 0 * 256 + k % 256) (bytes_less x i)

pub length_octets : (right : ℕ) (ws : List ℕ) → length (octets right ws) ≡ length ws
unfolding octets
length_octets right [] = refl
length_octets right (w ∷ ws) = ap suc (length_octets right ws)

pub octets_at : (right : ℕ) (ws : List ℕ) (i : ℕ) → i < length ws → get_or (octets right ws) i 0 ≡ get_or ws i 0 / 2 ^ right % 256
unfolding octets
octets_at right [] i h = absurd (omega arith)
octets_at right (w ∷ ws) zero h = refl
octets_at right (w ∷ ws) (suc i) h = octets_at right ws i (omega arith)

-- bits of numbers make a number of as many bits
bits_below : (n p : ℕ) (xs : List ℕ) → all_below 2 (bits_at n p xs) ≡ true
unfolding all_below bits_at
bits_below n p [] = refl
bits_below n p (x ∷ xs) = rw (lt-ltb (x / 2 ^ (n - suc p) % 2) 2 (omega arith)) (bits_below n p xs)

length_bits : (n p : ℕ) (xs : List ℕ) → length (bits_at n p xs) ≡ length xs
unfolding bits_at
length_bits n p [] = refl
length_bits n p (x ∷ xs) = ap suc (length_bits n p xs)

pub bits_small : (n p : ℕ) (xs : List ℕ) → length xs ≤ 8 → number 2 0 (bits_at n p xs) < 256
bits_small n p xs few =
    lt_of_lt_of_le (number_lt 2 (bits_at n p xs) (bits_below n p xs))
    (pow_mono {i = length (bits_at n p xs)} {j = 8} (omega (arith, length_bits n p xs)))

-- what bytes spread and added up are
unfoldable pub spreads : ℕ → List ℕ → ℕ
spreads made [] = made
spreads made (x ∷ xs) = spreads (made * 2 + spread_of x) xs

spreads_packed : (f : ℕ → ℕ) (xs : List ℕ) → spreads (packed 8 f) xs ≡ packed 8 (λ j. number 2 (f j) (bits_at 8 j xs))
unfolding spreads spread_of number bits_at
spreads_packed f [] = refl
spreads_packed f (x ∷ xs) =
    ap (λ (made : ℕ). spreads made xs) (packed_double 8 f (λ (j : ℕ). x / 2 ^ (8 - suc j) % 2))
    ∙ spreads_packed (λ (j : ℕ). f j * 2 + x / 2 ^ (8 - suc j) % 2) xs

-- a loop that adds them up: so far i of them, which make this
pub record Added (xs : List ℕ) (i made : ℕ) : Type 0 where
  pub same : spreads made (drop i xs) ≡ spreads 0 xs
  pub small : made + ones ≤ 2 ^ i * ones

module _ (xs : List ℕ) where
  pub added_none : Added xs 0 0
  added_none = record { same = refl; small = omega arith }

  module _ {i made : ℕ} (a : Added xs i made) where
    -- there is room for one more
    pub added_room : i < 8 → made ≤ 127 * ones
    added_room h = omega (arith, a.small, pow_mono {i = i} {j = 7} (omega arith))

    pub added_more : i < length xs → {x s : ℕ} → x ≡ get_or xs i 0 → s ≡ spread_of x → Added xs (i + 1) (made * 2 + s)
    unfolding spreads
    added_more inside {x} {s} is spread =
        record {
          same =
              ap (λ (y : ℕ). spreads (made * 2 + y) (drop (i + 1) xs)) (spread ∙ ap spread_of is)
              ∙ ap (λ (k : ℕ). spreads (made * 2 + spread_of (get_or xs i 0)) (drop k xs)) (add-one i)
              ∙ sym (ap (spreads made) (drop-cons xs i 0 inside))
              ∙ a.same;
          small = rw (add-one, pow-suc 2 i) (omega (arith, a.small, spread_small x, spread));
        }

    pub added_all : i ≡ length xs → made ≡ packed_turned xs
    unfolding packed_turned spreads packed
    added_all e = sym (ap (spreads made) (drop_of_length-le xs {i = i} (omega arith))) ∙ a.same ∙ spreads_packed (λ (j : ℕ). 0) xs
