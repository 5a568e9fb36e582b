-- Bytes placed one after the other in a buffer. Assumes nothing.
use Prim.Native.Nat.{ℕ, ◌+◌, ◌≤◌}
use native.Mathlib.Nat.{zero-add}
use native.Mathlib.Omega.{arith}
use mathlib.Core.List.{List, [], ◌++◌, append_assoc, append-nil}
use mathlib.Core.Path.{◌≡◌, sym, ap, ◌∙◌}
use lib.ListN.{length, take, drop, length-append}
use lib.Seq.{length-take-le, take_at, drop-append-add, drop-drop, drop-length}
use borrow.Rule.Slice.PartMut.{put_mid}
use Rattle.octets.specs.Octets.{bytes_of}
use Rattle.octets.proofs.RoundTrip.{length_bytes}
use Rattle.machine.specs.Storage.{placed}
use Rattle.machine.proofs.Placed.{placed_none, length_placed}

-- xs are placed from a place on: the buffer t has become this one
pub record Put (at : ℕ) (xs t now : List ℕ) : Type 0 where
  pub same : now ≡ placed at xs t
  pub room : at + length xs ≤ length t

-- xs are placed, as a call says
pub first : {at : ℕ} {xs t now : List ℕ} → now ≡ placed at xs t → at + length xs ≤ length t → Put at xs t now
first is h = record { same = is; room = h }

-- nothing so far
pub start : (at : ℕ) (t : List ℕ) → at ≤ length t → Put at [] t t
start at t h = record { same = sym (placed_none at t); room = omega arith }

-- ys after xs
joined : (at : ℕ) (xs ys t : List ℕ) → at + length xs + length ys ≤ length t
    → placed (at + length xs) ys (placed at xs t) ≡ placed at (xs ++ ys) t
unfolding placed
joined at xs ys t h =
    let there : ℕ = at + length xs in
    let front : List ℕ = take at t ++ xs in
    let far : length front ≡ there = length-append (take at t) xs ∙ ap (λ (n : ℕ). n + length xs) (length-take-le at t (omega arith)) in
    let all : take at t ++ (xs ++ drop there t) ≡ front ++ drop there t = sym (append_assoc (take at t) xs (drop there t)) in
    let past : at + length (xs ++ ys) ≡ there + length ys = omega (arith, length-append xs ys) in
    ap (λ (b : List ℕ). take there b ++ (ys ++ drop (there + length ys) b)) all
    ∙ ap (λ (b : List ℕ). b ++ (ys ++ drop (there + length ys) (front ++ drop there t))) (take_at front (drop there t) there far)
    ∙ ap (λ (n : ℕ). front ++ (ys ++ drop (n + length ys) (front ++ drop there t))) (sym far)
    ∙ ap (λ (b : List ℕ). front ++ (ys ++ b)) (drop-append-add front (drop there t) (length ys) ∙ drop-drop (length ys) there t)
    ∙ append_assoc (take at t) xs (ys ++ drop (there + length ys) t)
    ∙ ap (λ (b : List ℕ). take at t ++ b) (sym (append_assoc xs ys (drop (there + length ys) t)))
    ∙ ap (λ (n : ℕ). take at t ++ ((xs ++ ys) ++ drop n t)) (sym past)

module _ {at : ℕ} {xs t now : List ℕ} (so_far : Put at xs t now) where
  -- a buffer keeps its length
  pub same_length : length now ≡ length t
  same_length = ap length so_far.same ∙ length_placed at xs t so_far.room

  -- more after it
  pub more : (ys : List ℕ) {next : List ℕ} {there : ℕ} → at + length xs ≡ there → next ≡ placed there ys now → there + length ys ≤ length t
      → Put at (xs ++ ys) t next
  more ys here is h =
      record {
        same = is ∙ ap (λ (n : ℕ). placed n ys now) (sym here) ∙ ap (placed (at + length xs) ys) so_far.same ∙ joined at xs ys t (omega arith);
        room = omega (arith, length-append xs ys);
      }

-- a buffer that is placed whole
pub whole : (xs t : List ℕ) → length xs ≡ length t → placed 0 xs t ≡ xs
unfolding placed
whole xs t h = ap (λ (n : ℕ). xs ++ drop n t) (zero-add (length xs) ∙ h) ∙ ap (λ (b : List ℕ). xs ++ b) (drop-length t) ∙ append-nil xs

-- a part that is copied
pub part_placed : (at n : ℕ) (t ys : List ℕ) → length ys ≡ n → put_mid at n t ys ≡ placed at ys t
unfolding placed
part_placed at n t ys long = ap (λ (rest : List ℕ). take at t ++ (ys ++ rest)) (drop-drop n at t ∙ ap (λ (m : ℕ). drop (at + m) t) (sym long))

-- m bytes in a row from a place on
pub record Row (at m : ℕ) (xs t now : List ℕ) : Type 0 where
  pub put : Put at xs t now
  pub long : length xs ≡ m

pub row_first : (at m : ℕ) (xs t : List ℕ) {now : List ℕ} → now ≡ placed at xs t → length xs ≡ m → at + m ≤ length t → Row at m xs t now
row_first at m xs t is l h = record { put = record { same = is; room = omega arith }; long = l }

-- n more
pub row_more : (n : ℕ) (ys : List ℕ) {at m : ℕ} {xs t now next : List ℕ} → Row at m xs t now → next ≡ placed (at + m) ys now → length ys ≡ n
    → at + (m + n) ≤ length t → Row at (m + n) (xs ++ ys) t next
row_more n ys {at} {xs = xs} row is l h =
    record { put = more row.put ys (ap (λ (k : ℕ). at + k) row.long) is (omega arith); long = omega (arith, length-append xs ys, row.long) }

-- the bytes of a number
pub number_placed : (at n v : ℕ) (t : List ℕ) {now : List ℕ} → now ≡ take at t ++ (bytes_of n v ++ drop (at + n) t)
    → now ≡ placed at (bytes_of n v) t
unfolding placed
number_placed at n v t is = is ∙ ap (λ (k : ℕ). take at t ++ (bytes_of n v ++ drop (at + k) t)) (sym (length_bytes n v))

-- three and four in a row
module _ (at m n k : ℕ) (x y z t : List ℕ) (lx : length x ≡ m) (ly : length y ≡ n) (lz : length z ≡ k) where
  pub three_row : {t₁ t₂ t₃ : List ℕ} → t₁ ≡ placed at x t → t₂ ≡ placed (at + m) y t₁ → t₃ ≡ placed (at + (m + n)) z t₂
      → at + (m + n + k) ≤ length t → Row at (m + n + k) (x ++ (y ++ z)) t t₃
  three_row {t₃ = t₃} e f g h =
      rw (append_assoc x y z) at (row_more k z (row_more n y (row_first at m x t e lx (omega arith)) f ly (omega arith)) g lz h)

  pub four_row : (j : ℕ) (w : List ℕ) → length w ≡ j → {t₁ t₂ t₃ t₄ : List ℕ} → t₁ ≡ placed at x t → t₂ ≡ placed (at + m) y t₁
      → t₃ ≡ placed (at + (m + n)) z t₂ → t₄ ≡ placed (at + (m + n + k)) w t₃ → at + (m + n + k + j) ≤ length t
      → Row at (m + n + k + j) (x ++ (y ++ (z ++ w))) t t₄
  four_row j w lw e f g i h =
      rw (append_assoc x (y ++ z) w, append_assoc y z w) at (row_more j w (three_row e f g (omega arith)) i lw h)
