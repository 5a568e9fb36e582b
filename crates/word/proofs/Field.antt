-- Laws of a field of a word: how large what it reads and what a store leaves are, that a read after a store gives the bits kept,
-- and that a store changes no bit outside the field. The null field (left > right) is included. Assumes nothing.
use Rattle.std.proofs.Common.{◌≡◌, ℕ, zero, suc, ◌+◌, ◌-◌, ◌*◌, ◌/◌, ◌%◌, ◌^◌, ◌<◌, ◌≤◌, cond, ◌&&◌, leb, sym, refl, ap, ◌∙◌, le_of_eq, lt_of_lt_of_le, add_assoc, mod-lt, mod-eq_of_lt, div-add-mod', zero-add, sub-add_cancel, div-one, arith, pow_pos, pow_mono, pow-add, shr-shr, shr_lt}
use mathlib.Core.Path.{subst⁻¹}
use native.Mathlib.Nat.{sub_self}
use lib.Arith.{digits_lt}
use lib.Pow.{high, low, field, mod-mod-pow}
use Rattle.word.specs.Word.{bit}
use Rattle.word.specs.Field.{width, shift, field_of, kept, stored, stored_in}
use Rattle.word.proofs.Tests.{by_leb}

-- the bit at place k, counted from the right, is one of the s low bits if k is below s
pub low_bit : (x k s : ℕ) → k < s → x % 2 ^ s / 2 ^ k % 2 ≡ x / 2 ^ k % 2
low_bit x k s h =
    let e : s - suc k + 1 + k ≡ s = omega arith in
    rw (← e, field, mod-mod-pow (x / 2 ^ k) (s - suc k) 1)

-- the bits of a word but the last are those of its half
bit_half : (b x p : ℕ) → p < b → bit (suc b) x p ≡ bit b (x / 2) p
unfolding bit
bit_half b x p h =
    let e : suc b - suc p ≡ 1 + (b - suc p) = omega arith in
    rw (e, ← shr-shr)

-- words whose bits all agree are equal
pub bits_same : (b x y : ℕ) → x < 2 ^ b → y < 2 ^ b → ((p : ℕ) → p < b → bit b x p ≡ bit b y p) → x ≡ y
unfolding bit
bits_same zero x y h l e = omega arith
bits_same (suc b) x y h l e =
    let last : x % 2 ≡ y % 2 = simp (sub_self, div-one) at (e b (omega arith)) in
    let rest = bits_same b (x / 2) (y / 2) (omega arith) (omega arith) (λ p u. sym (bit_half b x p u) ∙ e p (omega arith) ∙ bit_half b y p u) in
    omega arith

-- the bits kept are the remainder by the weight 2 ^ width; a null field has the weight 1 and keeps nothing
pub kept_is : (left right v : ℕ) → kept left right v ≡ v % 2 ^ width left right
unfolding kept
kept_is left right v = refl

-- they fit the field
pub kept_lt : (left right v : ℕ) → kept left right v < 2 ^ width left right
kept_lt left right v = rw kept_is (mod-lt v (pow_pos (width left right)))

-- what is kept of the bits kept is all of them
pub kept_kept : (left right v : ℕ) → kept left right (kept left right v) ≡ kept left right v
kept_kept left right v = kept_is left right (kept left right v) ∙ mod-eq_of_lt (kept_lt left right v)

-- a word x that has k in the n places left of the s last, and every other bit of w: what stands left of those places, in them and right
-- of them, and that it is no longer than w and those places are
pub record NewWord (n s w k x : ℕ) : Type 0 where
  pub left : x / 2 ^ (n + s) ≡ w / 2 ^ (n + s)
  pub field : x / 2 ^ s % 2 ^ n ≡ k
  pub right : x % 2 ^ s ≡ w % 2 ^ s
  pub small : (m : ℕ) → n + s ≤ m → w < 2 ^ m → x < 2 ^ m

-- the word that a store makes by arithmetic with the width n; for n = 0 the weight 2 ^ n is 1, and nothing is kept
pub new_word : (n s w k : ℕ) → k < 2 ^ n → NewWord n s w k (w / 2 ^ (n + s) * 2 ^ (n + s) + k * 2 ^ s + w % 2 ^ s)
new_word n s w k fits =
    let rest : k * 2 ^ s + w % 2 ^ s < 2 ^ (n + s) = rw pow-add (digits_lt fits (mod-lt w (pow_pos s))) in
    let cut : w / 2 ^ (n + s) * 2 ^ (n + s) + k * 2 ^ s + w % 2 ^ s ≡ (w / 2 ^ (n + s) * 2 ^ n + k) * 2 ^ s + w % 2 ^ s = rw pow-add (omega arith) in
    record {
      left = rw add_assoc (high _ (n + s) rest);
      field = rw (cut, high _ s (mod-lt w (pow_pos s))) (low _ n fits);
      right = rw cut (low _ s (mod-lt w (pow_pos s)));
      small = λ m inside short.
          let e : m - (n + s) + (n + s) ≡ m = sub-add_cancel inside in
          rw add_assoc (lt_of_lt_of_le (digits_lt (shr_lt (m - (n + s)) (n + s) (subst⁻¹ (λ (i : ℕ). w < 2 ^ i) e short)) rest) (le_of_eq (rw (← pow-add, e))));
    }

-- a word is what stands left of a field, in it and right of it
pub in_parts : (n s w : ℕ) → w ≡ w / 2 ^ (n + s) * 2 ^ (n + s) + w / 2 ^ s % 2 ^ n * 2 ^ s + w % 2 ^ s
in_parts n s w =
    let high : w / 2 ^ s / 2 ^ n ≡ w / 2 ^ (n + s) = shr-shr w s n ∙ ap (λ (i : ℕ). w / 2 ^ i) (omega arith) in
    let inner : w / 2 ^ s ≡ w / 2 ^ (n + s) * 2 ^ n + w / 2 ^ s % 2 ^ n =
    sym (div-add-mod' (w / 2 ^ s) (2 ^ n)) ∙ ap (λ (i : ℕ). i * 2 ^ n + w / 2 ^ s % 2 ^ n) high in
    sym (div-add-mod' w (2 ^ s)) ∙ ap (λ (i : ℕ). i * 2 ^ s + w % 2 ^ s) inner ∙ rw pow-add (omega arith)

-- a store takes what the field reads away and adds what is kept
pub by_difference : (n s w v : ℕ) → w - w / 2 ^ s % 2 ^ n * 2 ^ s + v % 2 ^ n * 2 ^ s ≡ stored_in n s w v
unfolding stored_in
by_difference n s w v = omega (arith, in_parts n s w)

-- numbers with the same parts are the same
parts_same : (s : ℕ) {x y : ℕ} → x / 2 ^ s ≡ y / 2 ^ s → x % 2 ^ s ≡ y % 2 ^ s → x ≡ y
parts_same s {x} {y} left right = sym (div-add-mod' x (2 ^ s)) ∙ ap (λ (n : ℕ). n * 2 ^ s + x % 2 ^ s) left
    ∙ ap (λ (n : ℕ). y / 2 ^ s * 2 ^ s + n) right ∙ div-add-mod' y (2 ^ s)

module _ (b left right : ℕ) where
  -- a field is no wider than its word
  pub width_le : right < b → width left right ≤ b
  unfolding width
  width_le h = omega arith

  -- a field and the places right of it lie in the word
  pub width_shift_le : right < b → width left right + shift b right ≤ b
  unfolding width shift
  width_shift_le h = omega arith

  -- what a field reads fits the field
  pub field_lt : (w : ℕ) → field_of b left right w < 2 ^ width left right
  unfolding field_of
  field_lt w = mod-lt (w / 2 ^ shift b right) (pow_pos (width left right))

  -- what a field reads is a word
  pub field_word : (w : ℕ) → right < b → field_of b left right w < 2 ^ b
  field_word w h = lt_of_lt_of_le (field_lt w) (pow_mono (width_le h))

  module _ (w v : ℕ) where
    -- storing the bits kept is storing the value
    pub stored_kept : stored b left right w (kept left right v) ≡ stored b left right w v
    unfolding stored
    stored_kept = rw kept_kept

    -- the new word's parts, over the width of the field, 0 included
    pub stored_word : NewWord (width left right) (shift b right) w (kept left right v) (stored b left right w v)
    unfolding stored
    stored_word = new_word (width left right) (shift b right) w (kept left right v) (kept_lt left right v)

    -- the null field stores nothing: there is no place between what is left and what is right of it
    pub stored_null : width left right ≡ 0 → stored b left right w v ≡ w
    stored_null e = parts_same (shift b right) (simp (e, zero-add) at stored_word.left) stored_word.right

    -- a store into a word leaves a word
    pub stored_lt : right < b → w < 2 ^ b → stored b left right w v < 2 ^ b
    stored_lt h = stored_word.small b (width_shift_le h)

    -- a read after a store gives the bits kept
    pub field_stored : field_of b left right (stored b left right w v) ≡ kept left right v
    unfolding field_of
    field_stored = stored_word.field

    module _ (p : ℕ) where
      -- after a store the field has the bits kept
      bit_stored_inside : right < b → left ≤ p → p ≤ right → bit b (stored b left right w v) p ≡ kept left right v / 2 ^ (right - p) % 2
      unfolding bit field_of
      bit_stored_inside h l m =
          let e : b - suc p ≡ shift b right + (right - p) = unfold shift in omega arith in
          let u : right - p < width left right = unfold width in omega arith in
          rw (e, ← shr-shr) (sym (low_bit _ _ _ u) ∙ ap (λ (x : ℕ). x / 2 ^ (right - p) % 2) field_stored)

      -- a store changes no bit right of the field
      bit_stored_right : right < p → p < b → bit b (stored b left right w v) p ≡ bit b w p
      unfolding bit
      bit_stored_right h l =
          let u : b - suc p < shift b right = unfold shift in omega arith in
          rw (← low_bit w _ _ u, ← low_bit (stored b left right w v) _ _ u, stored_word.right)

      -- a store changes no bit left of the field; of the null field, none up to its right end
      bit_stored_left : right < b → p < left → p ≤ right → bit b (stored b left right w v) p ≡ bit b w p
      unfolding bit
      bit_stored_left h l m =
          let r = width left right + shift b right in
          let e : b - suc p ≡ r + (b - suc p - r) = unfold shift width in omega arith in
          rw e (simp (← shr-shr, stored_word.left))

      -- each bit of a stored word: one of the bits kept from left to right, and the word's own elsewhere
      pub bit_stored : right < b → p < b
          → bit b (stored b left right w v) p ≡ cond (leb left p && leb p right) (kept left right v / 2 ^ (right - p) % 2) (bit b w p)
      bit_stored h inside =
          let new = bit b (stored b left right w v) p in
          let kept-bit = kept left right v / 2 ^ (right - p) % 2 in
          by_leb (λ t. new ≡ cond (t && leb p right) kept-bit (bit b w p)) left p
          (λ low. by_leb (λ t. new ≡ cond t kept-bit (bit b w p)) p right (bit_stored_inside h low) (λ past. bit_stored_right past inside))
          (λ low. by_leb (λ t. new ≡ bit b w p) p right (bit_stored_left h low) (λ past. bit_stored_right past inside))
