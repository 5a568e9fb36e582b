-- Labels as numbers: two labels have the same number only if they are the same. Assumes nothing.
use Prim.Native.Nat.{ℕ, zero, suc, ◌+◌, ◌*◌, ◌≤◌, ◌<◌, ◌^◌}
use native.Mathlib.Omega.{arith}
use mathlib.Core.Path.{◌≡◌, refl, ap, ap₂, sym, subst, ◌∙◌}
use mathlib.Core.Bool.{true, ◌&&◌, ◌||◌}
use mathlib.Core.List.{List, [], ◌∷◌}
use borrow.Author.Tests.{leb-true, lt-ltb, eq-eqb, ne_eqb}
use lib.Dec.{eqb, leb}
use lib.ListN.{length, drop, get_or, drop_of_length-le}
use lib.Seq.{drop-cons}
use Rattle.std.proofs.Math.Nat.{pow-suc}
use Rattle.word.proofs.Tests.{by_test, and_true}
use Rattle.character.specs.Character.{digits, number, all_below}
use Rattle.character.proofs.RoundTrip.{digits_number}
use Rattle.lines.specs.Words.{same, all, is_name, is_digit, is_letter, is_label}
use Rattle.lines.proofs.Lists.{true_false, same_eq, same_refl, all_first, all_others}
use Rattle.lines.proofs.Lines.{label_parts}
use Rattle.faults.specs.Names.{padded, key_of}

-- the number of a label, one of its six bytes after the other
padded_long : (n : ℕ) (w : List ℕ) → length (padded n w) ≡ n
unfolding padded
padded_long zero w = refl
padded_long (suc n) [] = ap suc (padded_long n [])
padded_long (suc n) (x ∷ w) = ap suc (padded_long n w)

padded_at : (n : ℕ) (w : List ℕ) (i : ℕ) → i < n → get_or (padded n w) i 0 ≡ get_or w i 0
unfolding padded
padded_at zero w i l = absurd (omega arith)
padded_at (suc n) [] zero l = refl
padded_at (suc n) [] (suc i) l = padded_at n [] i (omega arith)
padded_at (suc n) (x ∷ w) zero l = refl
padded_at (suc n) (x ∷ w) (suc i) l = padded_at n w i (omega arith)

module _ (w : List ℕ) where
  pub record Keying (i key : ℕ) : Type 0 where
    pub few : key < 256 ^ i
    pub rest : number 256 key (drop i (padded 6 w)) ≡ key_of w

  pub keying_none : Keying 0 0
  unfolding key_of
  keying_none = record { few = omega arith; rest = refl }

  module _ {i key : ℕ} (h : Keying i key) where
    pub keying_small : i < 6 → key < 1099511627776
    keying_small l = below i key l h.few
      where
        below : (i key : ℕ) → i < 6 → key < 256 ^ i → key < 1099511627776
        below zero key l f = omega arith
        below (suc zero) key l f = omega arith
        below (suc (suc zero)) key l f = omega arith
        below (suc (suc (suc zero))) key l f = omega arith
        below (suc (suc (suc (suc zero)))) key l f = omega arith
        below (suc (suc (suc (suc (suc zero))))) key l f = omega arith
        below (suc (suc (suc (suc (suc (suc i)))))) key l f = absurd (omega arith)

    pub keying_more : i < 6 → (x : ℕ) → x ≡ get_or w i 0 → x < 256 → Keying (i + 1) (key * 256 + x)
    unfolding number
    keying_more l x is small =
        let one : i + 1 ≡ suc i = omega arith in
        let long = padded_long 6 w in
        let next : drop i (padded 6 w) ≡ x ∷ drop (suc i) (padded 6 w) =
        drop-cons (padded 6 w) i 0 (omega arith) ∙ ap (λ (y : ℕ). y ∷ drop (suc i) (padded 6 w)) (padded_at 6 w i l ∙ sym is) in
        record {
          few = let less = h.few in let power : 256 ^ (i + 1) ≡ 256 ^ i * 256 = rw one (pow-suc 256 i) in omega arith;
          rest = rw one (sym (ap (number 256 key) next) ∙ h.rest);
        }

    pub keying_all : 6 ≤ i → key ≡ key_of w
    unfolding number
    keying_all l = let long : length (padded 6 w) ≤ i = omega (arith, padded_long 6 w) in rw (drop_of_length-le (padded 6 w) long) at h.rest

-- a name is neither zero nor above a byte
name_byte : (x : ℕ) → is_name x ≡ true → (0 < x) × (x < 256)
unfolding is_name is_digit is_letter
name_byte x =
    by_test (λ t. (leb 48 x && leb x 57) ≡ t → (t || (leb 65 x && leb x 90)) ≡ true → (0 < x) × (x < 256)) (leb 48 x && leb x 57)
    (λ _ is _. between 48 57 (omega arith) (omega arith) is) (λ _ _ is. between 65 90 (omega arith) (omega arith) is) refl
  where
    between : (low high : ℕ) → 0 < low → high < 256 → (leb low x && leb x high) ≡ true → (0 < x) × (x < 256)
    between low high least few is =
        let (l, h) = and_true (leb low x) (leb x high) is in
        (omega (arith, leb-true low x l), omega (arith, leb-true x high h))

-- words of names, filled up with zeros, are the same only if they were
padded_below : (n : ℕ) (w : List ℕ) → all is_name w ≡ true → all_below 256 (padded n w) ≡ true
unfolding padded all_below all
padded_below zero w e = refl
padded_below (suc n) [] e = padded_below n [] e
padded_below (suc n) (x ∷ w) e = rw (lt-ltb x 256 (name_byte x (all_first is_name x w e)).1) (padded_below n w (all_others is_name x w e))

first_same : {x y : ℕ} {xs ys : List ℕ} → x ∷ xs ≡ y ∷ ys → x ≡ y
first_same e = cc

rest_same : {x y : ℕ} {xs ys : List ℕ} → x ∷ xs ≡ y ∷ ys → xs ≡ ys
rest_same e = cc

padded_same : (n : ℕ) (v w : List ℕ) → length v ≤ n → length w ≤ n → all is_name v ≡ true → all is_name w ≡ true → padded n v ≡ padded n w → v ≡ w
unfolding padded all
padded_same n [] [] l m p q e = refl
padded_same zero [] (y ∷ w) l m p q e = absurd (omega arith)
padded_same zero (x ∷ v) w l m p q e = absurd (omega arith)
padded_same (suc n) [] (y ∷ w) l m p q e = let (above, few) = name_byte y (all_first is_name y w q) in absurd (omega (arith, first_same e))
padded_same (suc n) (x ∷ v) [] l m p q e = let (above, few) = name_byte x (all_first is_name x v p) in absurd (omega (arith, first_same e))
padded_same (suc n) (x ∷ v) (y ∷ w) l m p q e =
    ap₂ ◌∷◌ (first_same e) (padded_same n v w (omega arith) (omega arith) (all_others is_name x v p) (all_others is_name y w q) (rest_same e))

pub key_same : (v w : List ℕ) → is_label v ≡ true → is_label w ≡ true → key_of v ≡ key_of w → v ≡ w
unfolding key_of
key_same v w p q e =
    let a = label_parts v p in
    let b = label_parts w q in
    padded_same 6 v w (leb-true (length v) 6 a.short) (leb-true (length w) 6 b.short) a.names b.names
    (sym (back v a.names) ∙ ap (λ (k : ℕ). digits 256 6 k) e ∙ back w b.names)
  where
    back : (u : List ℕ) → all is_name u ≡ true → digits 256 6 (number 256 0 (padded 6 u)) ≡ padded 6 u
    back u h = subst (λ (n : ℕ). digits 256 n (number 256 0 (padded 6 u)) ≡ padded 6 u) (padded_long 6 u)
        (digits_number 256 0 (padded 6 u) (padded_below 6 u h))

pub key_eqb : (v w : List ℕ) → is_label v ≡ true → is_label w ≡ true → eqb (key_of v) (key_of w) ≡ same w v
key_eqb v w p q =
    by_test (λ t. same w v ≡ t → eqb (key_of v) (key_of w) ≡ t) (same w v)
    (λ _ is. eq-eqb (key_of v) (key_of w) (ap key_of (sym (same_eq w v is))))
    (λ _ is. ne_eqb (key_of v) (key_of w)
    (λ (e : key_of v ≡ key_of w). true_false (subst (λ (u : List ℕ). same w u ≡ true) (sym (key_same v w p q e)) (same_refl w)) is)) refl
