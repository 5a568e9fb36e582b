-- What is put before a place, and then more before that. Assumes nothing.
use Prim.Native.Nat.{ℕ, suc, ◌+◌, ◌-◌, ◌≤◌, ◌<◌}
use native.Mathlib.Nat.{sub-zero}
use native.Mathlib.Omega.{arith}
use mathlib.Core.List.{List, [], ◌∷◌, ◌++◌, append_assoc}
use mathlib.Core.Path.{◌≡◌, sym, ap, ◌∙◌}
use lib.ListN.{length, take, drop, set, get_or, length-append, length-take, length-drop, take-append-drop}
use lib.Seq.{drop-cons, length-take-le, take-append-le, take-take, drop_at, set_split}
use Rattle.tour.specs.Put.{put_before}

-- nothing put changes nothing
pub put_none : (at : ℕ) (t : List ℕ) → put_before at [] t ≡ t
unfolding put_before
put_none at t = rw (sub-zero at) (take-append-drop at t)

-- a buffer keeps its length
pub length_put : (at : ℕ) (xs t : List ℕ) → length xs ≤ at → at ≤ length t → length (put_before at xs t) ≡ length t
unfolding put_before
length_put at xs t h k = simp (length-append, length-take, length-drop) (omega arith)

-- ys before xs
pub put_joined : (at : ℕ) (ys xs t : List ℕ) → length ys + length xs ≤ at → at ≤ length t
    → put_before (at - length xs) ys (put_before at xs t) ≡ put_before at (ys ++ xs) t
unfolding put_before
put_joined at ys xs t h k =
    let m : ℕ = at - length xs in
    let head : length (take m t) ≡ m = length-take-le m t (omega arith) in
    let few : at - length (ys ++ xs) ≡ m - length ys = omega (arith, length-append ys xs) in
    ap (λ (front : List ℕ). front ++ (ys ++ drop m (take m t ++ (xs ++ drop at t))))
    (take-append-le (m - length ys) (take m t) (xs ++ drop at t) (omega arith) ∙ take-take (m - length ys) m t (omega arith))
    ∙ ap (λ (rest : List ℕ). take (m - length ys) t ++ (ys ++ rest)) (drop_at (take m t) (xs ++ drop at t) m head)
    ∙ ap (λ (rest : List ℕ). take (m - length ys) t ++ rest) (sym (append_assoc ys xs (drop at t)))
    ∙ ap (λ (n : ℕ). take n t ++ ((ys ++ xs) ++ drop at t)) (sym few)

-- one element
pub put_one : (at x : ℕ) (t : List ℕ) → 0 < at → at ≤ length t → set t (at - 1) x ≡ put_before at (x ∷ []) t
unfolding put_before
put_one at x t h k =
    let next : suc (at - 1) ≡ at = omega arith in
    set_split t (at - 1) x (omega arith) ∙ ap (λ (n : ℕ). take (at - 1) t ++ (x ∷ drop n t)) next

-- what has been put before a place so far: the buffer and where it starts
pub record Put (at : ℕ) (xs t now : List ℕ) (place : ℕ) : Type 0 where
  pub starts : place + length xs ≡ at
  pub buffer : now ≡ put_before at xs t
  pub inside : at ≤ length t

-- nothing so far
pub start : (at : ℕ) (t : List ℕ) → at ≤ length t → Put at [] t t at
start at t h = record { starts = omega arith; buffer = sym (put_none at t); inside = h }

module _ {at : ℕ} {xs t now : List ℕ} {place : ℕ} (so_far : Put at xs t now place) where
  pub same_length : length now ≡ length t
  same_length = ap length so_far.buffer ∙ length_put at xs t (omega (arith, so_far.starts)) so_far.inside

  -- more before it
  pub more : (ys : List ℕ) {next : List ℕ} {there : ℕ} → there + length ys ≡ place → next ≡ put_before place ys now → Put at (ys ++ xs) t next there
  more ys here is =
      let first : place ≡ at - length xs = omega (arith, so_far.starts) in
      record {
        starts = omega (arith, so_far.starts, length-append ys xs);
        buffer = is
            ∙ ap (λ (p : ℕ). put_before p ys now) first
            ∙ ap (put_before (at - length xs) ys) so_far.buffer
            ∙ put_joined at ys xs t (omega (arith, so_far.starts)) so_far.inside;
        inside = so_far.inside;
      }

-- a list from a place on, by the element before it
pub one_before : (xs : List ℕ) (left : ℕ) → 0 < left → left ≤ length xs → drop (left - 1) xs ≡ get_or xs (left - 1) 0 ∷ drop left xs
one_before xs left h k =
    let next : suc (left - 1) ≡ left = omega arith in
    drop-cons xs (left - 1) 0 (omega arith) ∙ ap (λ (n : ℕ). get_or xs (left - 1) 0 ∷ drop n xs) next

-- what is written of a list is put whole where none of the list is left
pub all_put : (write : List ℕ → List ℕ) (xs : List ℕ) (left : ℕ) {at place : ℕ} {t now : List ℕ} → left ≡ 0 → Put at (write (drop left xs)) t now place
    → (place + length (write xs) ≡ at) × (now ≡ put_before at (write xs) t)
all_put write xs left none p = let all = rw none at p in (all.starts, all.buffer)
