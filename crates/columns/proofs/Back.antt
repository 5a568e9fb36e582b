-- What is saved by columns comes back: loading what was saved gives the words, and saving what was loaded gives the bytes. Assumes nothing.
use Prim.Native.Nat.{ℕ, zero, suc, ◌-◌, ◌*◌, ◌^◌, ◌≤◌, ◌<◌}
use native.Mathlib.Omega.{arith}
use mathlib.Core.Bool.{true}
use mathlib.Core.List.{List, [], ◌∷◌, ◌++◌}
use mathlib.Core.Path.{◌≡◌, refl, sym, ap, ap₂, ◌∙◌}
use borrow.Author.Tests.{eqb-true, eq-eqb, ltb-true, lt-ltb}
use lib.Dec.{eqb, ltb}
use lib.ListN.{length, take, drop, replicate, length-append, length-take, length-drop, length-replicate, take-append-drop}
use lib.Pow.{pow_pos}
use lib.Seq.{take_at, drop_at}
use Rattle.word.proofs.Tests.{and_true}
use Rattle.columns.specs.Columns.{turned_groups, groups_of, filled_up, saved, all_loaded, loaded, each_below, fits_width, is_saved}
use Rattle.columns.proofs.Turning.{below_append, below_take, length_groups, groups_below, groups_back}

-- groups of eight hold all words
pub room : (n : ℕ) → n ≤ 8 * groups_of n
unfolding groups_of
room n = omega arith

-- and each of them has a word
pub group_below : (n k : ℕ) {groups : ℕ} → groups ≡ groups_of n → k < groups → 8 * k < n
unfolding groups_of
group_below n k is h = omega arith

zeros_below : (bound n : ℕ) → 0 < bound → each_below bound (replicate n 0) ≡ true
unfolding each_below
zeros_below bound zero pos = refl
zeros_below bound (suc n) pos = rw (lt-ltb 0 bound pos) (zeros_below bound n pos)

-- numbers below 1 are zeros
only_zeros : (xs : List ℕ) → each_below 1 xs ≡ true → replicate (length xs) 0 ≡ xs
unfolding each_below
only_zeros [] e = refl
only_zeros (x ∷ xs) e =
    let (first, others) = and_true (ltb x 1) _ e in
    let none : x ≡ 0 = omega (arith, ltb-true x 1 first) in
    ap₂ (λ (y : ℕ) (l : List ℕ). y ∷ l) (sym none) (only_zeros xs others)

pub length_filled : (ws : List ℕ) → length (filled_up ws) ≡ 8 * groups_of (length ws)
unfolding filled_up
length_filled ws = simp (length-append, length-replicate) (omega (arith, room (length ws)))

pub length_saved : (b : ℕ) (ws : List ℕ) → length (saved b ws) ≡ b * groups_of (length ws)
unfolding saved
length_saved b ws = length_groups b 8 (groups_of (length ws)) (filled_up ws)

-- saving, then loading
module _ (b : ℕ) (ws : List ℕ) (fits : fits_width b ws ≡ true) where
  abbrev n : ℕ
  n = length ws

  filled_fits : each_below (2 ^ b) (filled_up ws) ≡ true
  unfolding filled_up fits_width
  filled_fits = below_append (2 ^ b) ws (replicate (8 * groups_of n - n) 0) fits (zeros_below (2 ^ b) (8 * groups_of n - n) (pow_pos b))

  all_back : all_loaded b n (saved b ws) ≡ filled_up ws
  unfolding all_loaded saved
  all_back = groups_back b 8 (groups_of n) (filled_up ws) (length_filled ws) filled_fits

  -- the words come back exactly
  pub loaded_saved : loaded b n (saved b ws) ≡ ws
  unfolding loaded filled_up
  loaded_saved = ap (take n) all_back ∙ take_at ws (replicate (8 * groups_of n - n) 0) n refl

  -- and the bytes are accepted
  pub saved_accepted : is_saved b n (saved b ws) ≡ true
  unfolding is_saved saved filled_up
  saved_accepted =
      rw (eq-eqb (length (saved b ws)) (b * groups_of n) (length_saved b ws))
      (ap (λ (l : List ℕ). each_below 1 (drop n l)) all_back ∙ ap (each_below 1) (drop_at ws (replicate (8 * groups_of n - n) 0) n refl)
      ∙ zeros_below 1 (8 * groups_of n - n) (omega arith))

-- loading, then saving
module _ (b n : ℕ) (bytes : List ℕ) (are-bytes : each_below 256 bytes ≡ true) (accepted : is_saved b n bytes ≡ true) where
  long : length bytes ≡ b * groups_of n
  unfolding is_saved
  long = eqb-true _ _ (and_true (eqb (length bytes) (b * groups_of n)) _ accepted).0

  filled : each_below 1 (drop n (all_loaded b n bytes)) ≡ true
  unfolding is_saved
  filled = (and_true (eqb (length bytes) (b * groups_of n)) _ accepted).1

  length_all : length (all_loaded b n bytes) ≡ 8 * groups_of n
  unfolding all_loaded
  length_all = length_groups 8 b (groups_of n) bytes

  pub length_loaded : length (loaded b n bytes) ≡ n
  unfolding loaded
  length_loaded = simp length-take (omega (arith, length_all, room n))

  -- the words fit the width
  pub loaded_fits : fits_width b (loaded b n bytes) ≡ true
  unfolding fits_width loaded all_loaded
  loaded_fits = below_take (2 ^ b) n _ (groups_below 8 b (groups_of n) bytes long)

  together : loaded b n bytes ++ drop n (all_loaded b n bytes) ≡ all_loaded b n bytes
  unfolding loaded
  together = take-append-drop n (all_loaded b n bytes)

  filled_loaded : filled_up (loaded b n bytes) ≡ all_loaded b n bytes
  unfolding filled_up
  filled_loaded =
      let rest : 8 * groups_of n - n ≡ length (drop n (all_loaded b n bytes)) = simp length-drop (omega (arith, length_all)) in
      ap (λ (m : ℕ). loaded b n bytes ++ replicate (8 * groups_of m - m) 0) length_loaded
      ∙ ap (λ (m : ℕ). loaded b n bytes ++ replicate m 0) rest
      ∙ ap (λ (l : List ℕ). loaded b n bytes ++ l) (only_zeros _ filled)
      ∙ together

  back : turned_groups b 8 (groups_of n) (all_loaded b n bytes) ≡ bytes
  unfolding all_loaded
  back = groups_back 8 b (groups_of n) bytes long are-bytes

  -- the bytes come back exactly
  pub saved_loaded : saved b (loaded b n bytes) ≡ bytes
  unfolding saved
  saved_loaded =
      ap (λ (m : ℕ). turned_groups b 8 (groups_of m) (filled_up (loaded b n bytes))) length_loaded
      ∙ ap (turned_groups b 8 (groups_of n)) filled_loaded
      ∙ back
