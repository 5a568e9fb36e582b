-- The calls by their checks. Assumes nothing.
use Prim.Native.Nat.{ℕ, ◌*◌, ◌/◌, ◌%◌, ◌≤◌, ◌<◌}
use native.Mathlib.Nat.{div-add-mod', mul-div_cancel_left, mul-mod_right, div-lt_iff_lt-mul, le-div_iff_mul-le}
use native.Mathlib.Omega.{arith}
use mathlib.Core.Bool.{true, false, ◌&&◌}
use mathlib.Core.List.{List, ◌++◌}
use mathlib.Core.Path.{◌≡◌, sym, ap, ◌∙◌}
use borrow.Author.Tests.{eq-eqb, ne_eqb, le-leb, lt-leb}
use lib.Dec.{eqb}
use lib.ListN.{length, take, drop, length-take}
use Rattle.word.proofs.Tests.{by_eqb}
use Rattle.word.specs.Word.{is_width}
use Rattle.word.proofs.Width.{width_range}
use Rattle.std.proofs.Common.{Result, Ok, Err}
use Rattle.columns.specs.declared.KeepError.{KeepError}
use Rattle.columns.specs.declared.KeepError.TheVariants.{NoWidth, WordTooWide, NotSaved, OutputShort}
use Rattle.columns.specs.Columns.{Left, groups_of, saved, all_loaded, loaded, fits_width, each_below, is_saved, written, saving}
use Rattle.columns.specs.Columns.{loading, turned_groups, told_kept, written_told, saving_told, loading_told}
use Rattle.columns.proofs.Back.{room, length_saved}
use Rattle.columns.proofs.Turning.{length_groups}

-- a whole number of groups, by remainder and quotient
pub whole_is : (length b groups : ℕ) → 0 < b → (eqb (length % b) 0 && eqb (length / b) groups) ≡ eqb length (b * groups)
whole_is length b groups pos =
    by_eqb (λ t. (t && eqb (length / b) groups) ≡ eqb length (b * groups)) (length % b) 0
    (λ none. by_eqb (λ t. t ≡ eqb length (b * groups)) (length / b) groups
    (λ same. sym (eq-eqb length (b * groups) (omega (arith, div-add-mod' length b, ap (λ (n : ℕ). n * b) same))))
    (λ other. sym (ne_eqb length (b * groups) (λ e. other (ap (λ (n : ℕ). n / b) e ∙ mul-div_cancel_left groups pos)))))
    (λ some. sym (ne_eqb length (b * groups) (λ e. some (ap (λ (n : ℕ). n % b) e ∙ mul-mod_right b groups))))

-- so many groups have room, or not, by the quotient of the room
module _ (b groups room : ℕ) (w : is_width b ≡ true) where
  some : 0 < b
  some = omega (arith, (width_range b w).0)

  pub groups_short : room / b < groups → room < b * groups
  groups_short h = let less = (div-lt_iff_lt-mul {x = room} {y = groups} some).0 h in omega arith

  pub groups_fit : groups ≤ room / b → b * groups ≤ room
  groups_fit h = let most = (le-div_iff_mul-le {x = groups} {y = room} some).0 h in omega arith

abbrev left : Result ℕ KeepError → List ℕ → Left
left answer output = record { answer = answer; output = output }

module _ (b : ℕ) (ws output : List ℕ) where
  -- an answer and what it leaves, also in numbers
  abbrev pub Saves : Result ℕ KeepError → List ℕ → Type 0
  Saves answer after = (left answer after ≡ saving b ws output) × (told_kept answer ≡ saving_told b ws output)

  pub saving_no_width : is_width b ≡ false → Saves (Err NoWidth) output
  unfolding saving told_kept saving_told
  saving_no_width w = (rw w, rw w)

  module _ (w : is_width b ≡ true) where
    pub saving_wide : fits_width b ws ≡ false → Saves (Err WordTooWide) output
    unfolding saving told_kept saving_told
    saving_wide f = (rw (w, f), rw (w, f))

    module _ (f : fits_width b ws ≡ true) {count : ℕ} (is : count ≡ b * groups_of (length ws)) where
      pub saving_short : length output < count → Saves (Err OutputShort) output
      unfolding saving written told_kept saving_told written_told
      saving_short h =
          let short = lt-leb (length (saved b ws)) (length output) (omega (arith, length_saved b ws)) in
          (rw (w, f, short), rw (w, f, short))

      pub saving_done : count ≤ length output → {after : List ℕ} → after ≡ saved b ws ++ drop count output → Saves (Ok count) after
      unfolding saving written told_kept saving_told written_told
      saving_done h e =
          let same : count ≡ length (saved b ws) = is ∙ sym (length_saved b ws) in
          let fits = le-leb (length (saved b ws)) (length output) (omega arith) in
          (rw (w, f, fits, e, same), rw (w, f, fits, same))

module _ (b n : ℕ) (bytes output : List ℕ) where
  abbrev pub Loads : Result ℕ KeepError → List ℕ → Type 0
  Loads answer after = (left answer after ≡ loading b n bytes output) × (told_kept answer ≡ loading_told b n bytes output)

  pub loading_no_width : is_width b ≡ false → Loads (Err NoWidth) output
  unfolding loading told_kept loading_told
  loading_no_width w = (rw w, rw w)

  module _ (w : is_width b ≡ true) {groups : ℕ} (is : groups ≡ groups_of n) where
    pub loading_uneven : eqb (length bytes) (b * groups) ≡ false → Loads (Err NotSaved) output
    unfolding loading is_saved told_kept loading_told
    loading_uneven e = (rw (w, ← is, e), rw (w, ← is, e))

    module _ (even : eqb (length bytes) (b * groups) ≡ true) where
      pub loading_filled : each_below 1 (drop n (turned_groups 8 b groups bytes)) ≡ false → Loads (Err NotSaved) output
      unfolding loading is_saved all_loaded told_kept loading_told
      loading_filled e = (rw (w, ← is, even, e), rw (w, ← is, even, e))

      module _ (zeros : each_below 1 (drop n (turned_groups 8 b groups bytes)) ≡ true) where
        accepted : is_saved b n bytes ≡ true
        unfolding is_saved all_loaded
        accepted = rw (← is, even, zeros)

        long : length (loaded b n bytes) ≡ n
        unfolding loaded all_loaded
        long = simp length-take (omega (arith, length_groups 8 b (groups_of n) bytes, room n))

        pub loading_short : length output < n → Loads (Err OutputShort) output
        unfolding loading written told_kept loading_told written_told
        loading_short h =
            let short = lt-leb (length (loaded b n bytes)) (length output) (omega (arith, long)) in
            (rw (w, accepted, short), rw (w, accepted, short))

        same_words : take n (turned_groups 8 b groups bytes) ≡ loaded b n bytes
        unfolding loaded all_loaded
        same_words = ap (λ (k : ℕ). take n (turned_groups 8 b k bytes)) is

        pub loading_done : n ≤ length output → {after : List ℕ} → after ≡ take n (turned_groups 8 b groups bytes) ++ drop n output
            → Loads (Ok n) after
        unfolding loading written told_kept loading_told written_told
        loading_done h e =
            let fits = le-leb (length (loaded b n bytes)) (length output) (omega (arith, long)) in
            (rw (w, accepted, fits, long, e, same_words), rw (w, accepted, fits, long))
